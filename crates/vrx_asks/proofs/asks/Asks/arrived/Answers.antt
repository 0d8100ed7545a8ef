use Rattle.std.proofs.Common.{◌≡◌, ◌∙◌, arith, sym, subst}
use Rattle.std.specs.Prelude.{◌==◌, not, remove}
use Rattle.vrx_asks.specs.Asks.{without}
use Rattle.vrx_asks.specs.IsAsks.{IsAsks}
use Rattle.vrx_asks.proofs.SoundLemmas.{IsAsks-filter}
use Rattle.vrx_asks.proofs.asks.Asks.arrived.Goals as goal

left : (c : goal.After-remove) → c.remove.new.self.items ≡ without c.args.n c.self.inside.asks.items
left c =
    let n = c.args.n in
    let place = c.in-Some.place in
    c.remove.ensures.items
    ∙ subst (λ asks. remove asks place ≡ without n asks) c.as_slice.ensures.value c.in-Some.ensures.found.1

pub invariant_of-self : goal.invariant_of-self
invariant_of-self c = record {
  sound = subst IsAsks (sym (left c))
      (IsAsks-filter (λ ask. not (ask.number == c.args.n)) c.self.inside.asks.items c.self.invariant.sound);
  room = omega (arith, c.self.invariant.room, c.remove.ensures.capacity);
}
