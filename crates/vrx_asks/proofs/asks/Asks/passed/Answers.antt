use Rattle.std.proofs.Common.{◌≡◌, ◌∙◌, ℕ, List, ap, arith, drop, sym, subst, rules}
use Rattle.std.specs.Prelude.{nat_lt}
use Rattle.std.proofs.lemmas.Fn.{filter_same}
use Rattle.vrx_asks.specs.declared.ask.Ask.{Ask}
use Rattle.vrx_asks.specs.Asks.{beyond}
use Rattle.vrx_asks.specs.IsAsks.{IsAsks}
use Rattle.vrx_asks.proofs.SoundLemmas.{IsAsks-filter}
use Rattle.vrx_asks.proofs.asks.Asks.passed.Goals.{After-retain, After-remove}
use Rattle.vrx_asks.proofs.asks.Asks.passed.Goals as goal

-- what is left once several are gone: the closure tests an ask's number
left : (c : After-retain) → c.retain.new.self.items ≡ beyond c.args.n c.self.inside.asks.items
left c =
    let above = λ (ask : Ask). nat_lt c.args.n ask.number in
    filter_same _ above _ (λ x b f' k. search rules) _ _ c.retain.ensures.filtered

-- and once the first is
first-left : (c : After-remove) → c.remove.new.self.items ≡ beyond c.args.n c.self.inside.asks.items
first-left c =
    c.remove.ensures.items ∙ ap (λ (k : ℕ). drop k c.self.inside.asks.items) (sym c.in-1.is)
    ∙ subst (λ (asks : List Ask). drop c.count_up_to.result asks ≡ beyond c.args.n asks) c.as_slice.ensures.value
    c.count_up_to.ensures.rest

pub invariant_of-self : goal.invariant_of-self
invariant_of-self c = record {
  sound = subst IsAsks (sym (first-left c))
      (IsAsks-filter (λ ask. nat_lt c.args.n ask.number) c.self.inside.asks.items c.self.invariant.sound);
  room = omega (arith, c.self.invariant.room, c.remove.ensures.capacity);
}

pub invariant_of-self-in_default : goal.invariant_of-self-in_default
invariant_of-self-in_default c = record {
  sound = subst IsAsks (sym (left c))
      (IsAsks-filter (λ ask. nat_lt c.args.n ask.number) c.self.inside.asks.items c.self.invariant.sound);
  room = omega (arith, c.self.invariant.room, c.retain.ensures.capacity);
}

pub returns-in_default : goal.returns-in_default
returns-in_default c = record { passed = left c ∙ ap (beyond c.args.n) c.self.view_is }
