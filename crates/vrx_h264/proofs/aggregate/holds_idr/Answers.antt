use Rattle.std.proofs.Common.{sym, ap, ◌∙◌, map}
use Rattle.vrx_h264.specs.Aggregate.{Units, units_of}
use Rattle.vrx_h264.specs.AggregateLaws.{units_of-some, units_of-none}
use Rattle.vrx_h264.specs.Payload.{Whole, hold_idr}
use Rattle.vrx_h264.proofs.UnitsLemmas.{idr_at, not_idr_at}
use Rattle.vrx_h264.proofs.aggregate.holds_idr.Goals as goal

pub returns-then-unit_kind-eq-IDR : goal.returns-then-unit_kind-eq-IDR
returns-then-unit_kind-eq-IDR c =
    sym (idr_at c.in-Some.unit.now (units_of c.in-Some.behind.now).units
    (sym c.unit_kind.ensures ∙ c.if-unit_kind-eq-IDR.true))
    ∙ ap (λ (x : Units). hold_idr (map Whole x.units))
    (sym (units_of-some c.loop-unit.rest.now c.in-Some.unit.now c.in-Some.behind.now c.in-Some.ensures.front))
    ∙ c.loop-unit.invariant

pub loop-unit-preserved : goal.loop-unit-preserved
loop-unit-preserved c =
    sym (not_idr_at c.in-Some.unit.now (units_of c.in-Some.behind.now).units
    (λ h. c.if-unit_kind-eq-IDR.false (c.unit_kind.ensures ∙ h)))
    ∙ ap (λ (x : Units). hold_idr (map Whole x.units))
    (sym (units_of-some c.loop-unit.rest.now c.in-Some.unit.now c.in-Some.behind.now c.in-Some.ensures.front))
    ∙ c.loop-unit.invariant

pub returns : goal.returns
returns c =
    ap (λ (x : Units). hold_idr (map Whole x.units))
    (sym (units_of-none c.loop-unit.rest.now c.in_default.ensures.front))
    ∙ c.loop-unit.invariant
