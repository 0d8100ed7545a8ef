use Rattle.std.proofs.Common.{◌∙◌, Some, ap, subst, sym}
use Rattle.std.specs.Prelude.{slice_set}
use Rattle.vrx_window.specs.declared.slot.Slot.TheVariants.{Taken}
use Rattle.vrx_window.specs.Ring.{IsRing, numbered_of}
use Rattle.vrx_window.specs.Window.{is_too_old, newest_with, entries_with}
use Rattle.vrx_window.proofs.RingLemmas.{is_numbered, entries_placed, ring_placed}
use Rattle.vrx_window.proofs.ring.Ring.place.Goals as goal

pub invariant_of-self : goal.invariant_of-self
invariant_of-self g c =
    let ring = ring_placed c.self.inside.newest c.self.inside.slots.items c.self.invariant c.args.n c.args.value in
    subst (λ m. IsRing (Some m) (slice_set c.self.inside.slots.items c.slot_of.result (Taken c.args.n c.args.value)))
    (sym c.newest_with.ensures)
    (subst (λ i. IsRing (Some (newest_with c.self.inside.newest c.args.n))
    (slice_set c.self.inside.slots.items i (Taken c.args.n c.args.value))) (sym c.slot_of.ensures) ring)

pub returns-clause-entries : goal.returns-clause-entries
returns-clause-entries g c =
    let young = ap (λ r. is_too_old r.newest c.args.n) c.self.view_is ∙ c.requires.young in
    (λ i. (numbered_of (Some (c.newest_with.ensures i))
    (slice_set c.self.inside.slots.items (c.slot_of.ensures i) (Taken c.args.n c.args.value))).entries)
    ∙ entries_placed c.self.inside.newest c.self.inside.slots.items c.self.invariant c.args.n c.args.value young
    ∙ ap (λ r. entries_with (newest_with r.newest c.args.n) c.args.n c.args.value r.entries) c.self.view_is

pub returns-clause-sound : goal.returns-clause-sound
returns-clause-sound g c = is_numbered _ _ (invariant_of-self g c)
