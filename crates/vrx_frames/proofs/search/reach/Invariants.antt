use Rattle.std.proofs.Common.{◌≡◌, ◌-◌, Some}
use Rattle.vrx_frames.specs.Linked.{AreLinked, fact_at}
use Rattle.vrx_frames.proofs.search.reach.Given as goal

-- the numbers up to the last are linked, and this is what stands under the last
abbrev pub invariant-loop-last : goal.invariant-loop-last
invariant-loop-last l = record {
  linked : AreLinked (fact_at l.passed l.ring.entries) l.fn.here.ts l.n l.last;
  told : fact_at l.passed l.ring.entries l.last ≡ Some l.fact;
}

abbrev pub decreases-loop-last : goal.decreases-loop-last
decreases-loop-last l = l.newest - l.last
