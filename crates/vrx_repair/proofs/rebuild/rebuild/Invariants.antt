use Rattle.std.proofs.Common.{◌-◌}
use Rattle.vrx_fec.specs.View.{view}
use Rattle.vrx_repair.specs.Seen.{HasAdded, packets_by}
use Rattle.vrx_repair.proofs.rebuild.rebuild.Given as goal

-- the texts from the offset on that was last looked at were added
abbrev pub invariant-loop-k : goal.invariant-loop-k
invariant-loop-k l = HasAdded (packets_by l.seen) l.base (view l.fec) l.missing (l.bits - l.k) l.register
