use Rattle.std.proofs.Common.{ℕ, sym, subst, arith}
use Rattle.vrx_fec.specs.View.{view}
use Rattle.vrx_repair.specs.Seen.{AreNumbers}
use Rattle.vrx_repair.proofs.NumberLemmas.{are-numbers}
use Rattle.vrx_repair.proofs.step.step.Goals as goal

pub step_of-requires-clause-numbers : goal.step_of-requires-clause-numbers
step_of-requires-clause-numbers g c =
    subst (λ (b : ℕ). AreNumbers b (view c.in-Ok.fec)) (sym c.base_of-base.ensures)
    (are-numbers c.args.m c.wire_of.result (view c.in-Ok.fec) c.wire_of.ensures c.in-Ok.ensures.payload.before
    (omega (arith, c.ranges.m.fits)))
