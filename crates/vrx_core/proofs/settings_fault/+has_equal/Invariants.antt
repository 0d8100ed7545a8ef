use Rattle.std.proofs.Common.{length}
use Rattle.vrx_core.proofs.settings_fault.+has_equal.Given as goal

abbrev pub decreases-has_equal : goal.decreases-has_equal
decreases-has_equal l = length l.values.now
