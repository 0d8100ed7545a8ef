use Rattle.std.proofs.Common.{length}
use Rattle.vrx_core.proofs.settings_fault.+holds.Given as goal

abbrev pub decreases-holds : goal.decreases-holds
decreases-holds l = length l.values.now
