-- The payload of units that fit carries them, and one that doesn't fit is told.
use Rattle.std.proofs.Common.{List, ℕ, nat_lt, length, map, refl, sym, subst, ◌∙◌, inl, inr, ap}
use Rattle.std.specs.List.{list_any}
use Rattle.vrx_h264.specs.Payload.{Whole}
use Rattle.vrx_h264.specs.IsPayload.{IsPayload}
use Rattle.vrx_h264.specs.Writing.{written_units}
use Rattle.vrx_h264.proofs.WrittenLemmas.{any_long, all_sized, aggregate_carries, written_again}
use Rattle.vrx_h264.proofs.writing.write_stap.Goals as goal

pub returns-then-has_long-clause-too_long : goal.returns-then-has_long-clause-too_long
returns-then-has_long-clause-too_long c =
    let some = ap (list_any (λ (unit : List ℕ). nat_lt 65535 (length unit))) (sym c.as_slice-units.ensures.value)
    ∙ sym c.if-has_long.ensures in
    (λ _. any_long c.args.units.now some, λ _. refl)

pub returns-in-Ok-clause-carries : goal.returns-in-Ok-clause-carries
returns-in-Ok-clause-carries c =
    let none = ap (list_any (λ (unit : List ℕ). nat_lt 65535 (length unit))) (sym c.as_slice-units.ensures.value)
    ∙ sym c.if-has_long.ensures in
    let spelled = c.in-Ok.ensures ∙ ap written_units c.as_slice-units.ensures.value in
    subst (λ (x : List ℕ). IsPayload x (map Whole c.args.units.now)) (sym spelled)
    (inr (inl (aggregate_carries c.args.units.now c.requires.some
    (all_sized c.args.units.now c.requires.units none))))

pub returns-in-Ok-clause-again : goal.returns-in-Ok-clause-again
returns-in-Ok-clause-again c =
    let none = ap (list_any (λ (unit : List ℕ). nat_lt 65535 (length unit))) (sym c.as_slice-units.ensures.value)
    ∙ sym c.if-has_long.ensures in
    let spelled = c.in-Ok.ensures ∙ ap written_units c.as_slice-units.ensures.value in
    written_again c.args.units.now c.requires.some
    (all_sized c.args.units.now c.requires.units none) c.in-Ok.payload.items spelled
