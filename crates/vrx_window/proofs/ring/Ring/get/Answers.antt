use Rattle.std.proofs.Common.{◌∙◌, ap, sym}
use Rattle.vrx_window.specs.Window.{at}
use Rattle.vrx_window.proofs.RingLemmas.{at_old, at_slot, slot_read}
use Rattle.vrx_window.proofs.ring.Ring.get.Goals as goal

pub returns-then-is_too_old : goal.returns-then-is_too_old
returns-then-is_too_old g c =
    let old = sym c.is_too_old.ensures ∙ c.if-is_too_old.true in
    record {
      value = sym (at_old c.self.inside.newest c.self.inside.slots.items c.self.invariant c.args.n old)
          ∙ ap (λ r. at c.args.n r.entries) c.self.view_is;
    }

pub returns : goal.returns
returns g c =
    let young = sym c.is_too_old.ensures ∙ c.if-is_too_old.false in
    let slot = slot_read c.self.inside.slots.items c.args.n c.slot_of.result c.index.result.now
    c.self.invariant.size c.slot_of.ensures c.index.ensures in
    record {
      value = c.value.ensures
          ∙ sym (at_slot c.self.inside.newest c.self.inside.slots.items c.self.invariant c.args.n c.index.result.now
          slot young)
          ∙ ap (λ r. at c.args.n r.entries) c.self.view_is;
    }
