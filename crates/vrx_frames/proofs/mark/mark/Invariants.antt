use Rattle.std.proofs.Common.{◌≡◌, Some}
use Rattle.vrx_window.specs.Numbered.{IsNumbered}
use Rattle.vrx_frames.proofs.MarkLemmas.{MarkedUpTo}
use Rattle.vrx_frames.proofs.mark.mark.Given as goal

-- the numbers up to here are marked, and no other changed
abbrev pub invariant-loop-k : goal.invariant-loop-k
invariant-loop-k l = record {
  newest : l.marks.newest ≡ Some l.newest;
  numbered : IsNumbered l.marks;
  marked : MarkedUpTo l.from l.k l.first l.initial.marks.entries l.marks.entries;
}
