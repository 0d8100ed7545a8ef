use Rattle.std.proofs.Common.{◌∙◌, Some, ap, subst, sym}
use Rattle.vrx_window.specs.Ring.{IsRing, numbered_of}
use Rattle.vrx_window.specs.Window.{entries_in, newest_with}
use Rattle.vrx_window.proofs.RingLemmas.{is_numbered, entries_moved, ring_moved}
use Rattle.vrx_window.proofs.ring.Ring.move_to.Goals as goal

pub invariant_of-self : goal.invariant_of-self
invariant_of-self g c = subst (λ m. IsRing (Some m) c.self.inside.slots.items) (sym c.newest_with.ensures)
    (ring_moved c.self.inside.newest c.self.inside.slots.items c.self.invariant c.args.n)

pub returns-clause-entries : goal.returns-clause-entries
returns-clause-entries g c = ap (λ m. (numbered_of (Some m) c.self.inside.slots.items).entries) c.newest_with.ensures
    ∙ entries_moved c.self.inside.newest c.self.inside.slots.items c.self.invariant c.args.n
    ∙ ap (λ r. entries_in (newest_with r.newest c.args.n) r.entries) c.self.view_is

pub returns-clause-sound : goal.returns-clause-sound
returns-clause-sound g c = is_numbered _ _ (invariant_of-self g c)
