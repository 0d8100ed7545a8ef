use Rattle.std.proofs.Common.{rules, sym, subst}
use Rattle.std.proofs.lemmas.List.Sorted.{answers_always}
use Rattle.vrx_asks.proofs.PlaceLemmas.{Finds, searched}
use Rattle.vrx_asks.proofs.asks.place_of.Goals as goal

-- the closure gives an ask's number
found : (c : goal.After-ok) → Finds c.args.n c.args.asks.now c.ok.result
found c =
    let facts = c.binary_search_by_key.ensures in
    let by_key = facts.position (λ ask. ask.number) (answers_always _ _ _ (λ f a r g called. search rules)) in
    subst (Finds c.args.n c.args.asks.now) (sym c.ok.ensures.value)
    (searched c.args.n c.args.asks.now c.requires.rise c.binary_search_by_key.result facts.bound by_key)

pub returns-clause-found : goal.returns-clause-found
returns-clause-found c = (found c).found

pub returns-clause-absent : goal.returns-clause-absent
returns-clause-absent c = (found c).absent
