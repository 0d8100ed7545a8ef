use Rattle.std.proofs.Common.{length}
use Rattle.vrx_core.proofs.settings_fault.+has_bad_type.Given as goal

abbrev pub decreases-has_bad_type : goal.decreases-has_bad_type
decreases-has_bad_type l = length l.types.now
