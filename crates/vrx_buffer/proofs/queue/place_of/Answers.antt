use Rattle.std.proofs.Common.{◌≡◌, Err, length, rules, subst, sym}
use Rattle.std.specs.List.Sorted.{IsSearchInRange}
use Rattle.std.specs.VecDeque.{deque_len}
use Rattle.std.proofs.lemmas.List.Sorted.{answers_always}
use Rattle.vrx_buffer.specs.Kept.{IsPlace}
use Rattle.vrx_buffer.proofs.PlaceLemmas.{place-last, searched}
use Rattle.vrx_buffer.proofs.queue.place_of.Goals as goal

pub returns-in-Some : goal.returns-in-Some
returns-in-Some c = subst (λ len. IsPlace c.args.n c.args.runs.now.items (Err len)) (sym c.len.ensures)
    (place-last c.args.n c.args.runs.now.items c.in-Some.last.now (deque_len c.args.runs.now) c.requires.rise
    (search rules) (search rules) c.in-Some.ensures.lookup c.if-last-n.true)

-- the closure gives a run's first number
pub returns-in-Some-2 : goal.returns-in-Some-2
returns-in-Some-2 c =
    let len : deque_len c.args.runs.now ≡ length c.args.runs.now.items = search rules in
    let facts = c.binary_search_by_key.ensures in
    searched c.args.n c.args.runs.now.items c.requires.rise c.binary_search_by_key.result
    (subst (IsSearchInRange c.binary_search_by_key.result) len facts.bound)
    (facts.position (λ run. run.first) (answers_always _ _ _ (λ f a r g called. search rules)))
