use Rattle.std.proofs.Common.{◌≡◌, ◌<◌, ◌^◌, All, map, take}
use Rattle.vrx_fec.specs.Making.{span_in}
use Rattle.vrx_fec.proofs.maker.spans_of_plan.Given as goal

abbrev pub invariant-loop-level : goal.invariant-loop-level
invariant-loop-level l =
    record {
      spans : l.spans.items ≡ map span_in (take l.level-index l.levels);
      sizes : All (λ span. span.size < 2 ^ 16) l.spans.items;
    }
