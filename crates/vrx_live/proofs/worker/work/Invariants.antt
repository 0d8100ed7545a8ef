use Rattle.std.proofs.Common.{◌≡◌, take}
use Rattle.vrx_live.specs.inside.Worker.{Kept}
use Rattle.vrx_live.proofs.worker.work.Given as goal

-- the calls of the lines so far are made, and their texts are kept
abbrev pub invariant-loop-i : goal.invariant-loop-i
invariant-loop-i g l = record {
  table : l.seat.table ≡ l.fn.seat.table;
  kept : Kept g.C.Codec.meaning l.fn.seat.known l.seat.known (take l.i l.lines) l.pieces.items;
}
