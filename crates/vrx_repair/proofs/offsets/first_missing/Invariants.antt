use Rattle.std.proofs.Common.{◌≡◌}
use Rattle.vrx_fec.specs.View.{view}
use Rattle.vrx_repair.specs.Seen.{missing_from, packets_by}
use Rattle.vrx_repair.proofs.offsets.first_missing.Given as goal

-- nothing was missing so far
abbrev pub invariant-loop-offset : goal.invariant-loop-offset
invariant-loop-offset l =
    missing_from (packets_by l.seen) l.base (view l.fec) l.from ≡ missing_from (packets_by l.seen) l.base (view l.fec) l.offset
