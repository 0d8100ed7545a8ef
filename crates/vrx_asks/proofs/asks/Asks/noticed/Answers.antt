use Rattle.std.proofs.Common.{◌≡◌, ◌∙◌, true, ap, arith, sym, subst, rules}
use Rattle.vrx_asks.specs.declared.ask.Ask.{Ask}
use Rattle.vrx_asks.specs.Asks.{are_below, is_near}
use Rattle.vrx_asks.specs.IsAsks.{IsAsks}
use Rattle.vrx_asks.proofs.SoundLemmas.{IsAsks-more}
use Rattle.vrx_asks.proofs.asks.Asks.noticed.Goals as goal

pub invariant_of-self : goal.invariant_of-self
invariant_of-self c =
    let n = c.args.n in
    let asks = c.self.inside.asks.items in
    let below : are_below n asks ≡ true = ap (are_below n) c.self.view_is ∙ c.requires.above in
    let near : is_near n asks ≡ true = ap (is_near n) c.self.view_is ∙ c.requires.near in
    let ask : Ask = record { number = n; times = 1; last = c.args.now } in
    record {
      sound = subst IsAsks (sym c.in-Ok.ensures.items)
          (IsAsks-more ask asks c.self.invariant.sound below near (search rules));
      room = omega (arith, c.self.invariant.room, c.in-Ok.ensures.capacity);
    }
