use Rattle.std.proofs.Common.{sym, ap, ◌∙◌, arith}
use Rattle.vrx_h264.specs.Aggregate.{Units}
use Rattle.vrx_h264.specs.AggregateLaws.{units_of-some, units_of-none}
use Rattle.vrx_h264.proofs.aggregate.left.Goals as goal

pub loop-behind-preserved : goal.loop-behind-preserved
loop-behind-preserved c =
    let step =
    units_of-some c.loop-behind.rest.now c.in-Some.field-0-0.now c.in-Some.behind.now c.in-Some.ensures.front in
    record {
      same = ap (λ (x : Units). x.left) (sym step) ∙ c.loop-behind.invariant.same;
      fits = omega (arith, c.in-Some.ensures.shorter, c.loop-behind.invariant.fits);
    }

pub returns-clause-left : goal.returns-clause-left
returns-clause-left c =
    ap (λ (x : Units). x.left) (sym (units_of-none c.loop-behind.rest.now c.in_default.ensures.front))
    ∙ c.loop-behind.invariant.same
