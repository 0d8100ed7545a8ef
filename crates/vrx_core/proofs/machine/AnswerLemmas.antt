-- What the answer to a pull says of the runs.
use Rattle.std.proofs.Common.{◌≡◌, ℕ, ◌<◌, ◌≤◌, ◌⊎◌, Bool, true, false, cond, List, [], ◌∷◌, Contains, Option, Some, None, IfSome, refl, sym, ◌∙◌, subst, arith, inl, inr}
use Rattle.std.specs.Prelude.{filter, nat_lt}
use Rattle.std.proofs.lemmas.Bool.{and_parts, ltb-true, ltb-false, false_from_ne_true, true≢false}
use Rattle.std.proofs.lemmas.Option.{none-some, same_Some}
use Rattle.vrx_frames.specs.Run.{Run, stands}
use Rattle.vrx_core.specs.machine.Answers.{NoneDeliverable, IsLeastDeliverable, AnswersHold}
use Rattle.vrx_core.specs.machine.Deliverable.{is_deliverable, lesser, least, answer}
use Rattle.vrx_core.specs.machine.Snapshot.{last_pulled}
use Rattle.vrx_core.specs.machine.Told.{Told}
use Rattle.vrx_core.proofs.machine.MemberLemmas.{Contains-head, Contains-tail, Contains-either, Contains-empty, filter-from, filter-to}

-- the least of some runs is one of them
least-from : (rs : List Run) (run : Run) → least rs ≡ Some run → Contains rs run
least-from [] run is = absurd (none-some run is)
least-from (r ∷ rs) run is = chosen (least rs) (λ q. least-from rs q) (same_Some (lesser r (least rs)) run is) where
  picked : (b : Bool) (q : Run) → Contains rs q → cond b q r ≡ run → Contains (r ∷ rs) run
  picked true q there same = Contains-tail r rs run (subst (λ x. Contains rs x) same there)
  picked false q there same = subst (λ x. Contains (r ∷ rs) x) same (Contains-head r rs)

  chosen : (l : Option Run) → ((q : Run) → l ≡ Some q → Contains rs q) → lesser r l ≡ run → Contains (r ∷ rs) run
  chosen None there same = subst (λ x. Contains (r ∷ rs) x) same (Contains-head r rs)
  chosen (Some q) there same = picked (nat_lt q.first r.first) q (there q refl) same

-- the lesser of two runs begins no later than the first of them
lesser-here : (r : Run) (o : Option Run) → (lesser r o).first ≤ r.first
lesser-here r None = omega arith
lesser-here r (Some q) = pick (nat_lt q.first r.first) refl where
  pick : (b : Bool) → nat_lt q.first r.first ≡ b → (cond b q r).first ≤ r.first
  pick true less = let below : q.first < r.first = ltb-true q.first r.first less in omega arith
  pick false more = omega arith

-- nor than the second
lesser-there : (r q : Run) → (lesser r (Some q)).first ≤ q.first
lesser-there r q = pick (nat_lt q.first r.first) refl where
  pick : (b : Bool) → nat_lt q.first r.first ≡ b → (cond b q r).first ≤ q.first
  pick true less = omega arith
  pick false more = ltb-false q.first r.first more

-- if there is no least, there are no runs
none_left : (rs : List Run) → least rs ≡ None → (other : Run) → Contains rs other → ⊥
none_left [] none other c = Contains-empty other c
none_left (r ∷ rs) none other c = none-some (lesser r (least rs)) (sym none)

-- the least of some runs begins no later than each of them
least-upto : (rs : List Run) (run other : Run) → least rs ≡ Some run → Contains rs other → run.first ≤ other.first
least-upto [] run other is c = absurd (none-some run is)
least-upto (r ∷ rs) run other is c =
    subst (λ x. x.first ≤ other.first) (same_Some (lesser r (least rs)) run is)
    (either (λ q some d. least-upto rs q other some d) (Contains-either r rs other c)) where
      among : ((q : Run) → least rs ≡ Some q → Contains rs other → q.first ≤ other.first) → (l : Option Run) →
          least rs ≡ l → Contains rs other → (lesser r l).first ≤ other.first
      among each None none d = absurd (none_left rs none other d)
      among each (Some q) some d = let first : (lesser r (Some q)).first ≤ q.first =
          lesser-there r q in let rest : q.first ≤ other.first = each q some d in omega arith

      either : ((q : Run) → least rs ≡ Some q → Contains rs other → q.first ≤ other.first) →
          (r ≡ other) ⊎ Contains rs other → (lesser r (least rs)).first ≤ other.first
      either each (inl same) = subst (λ x. (lesser r (least rs)).first ≤ x.first) same (lesser-here r (least rs))
      either each (inr later) = among each (least rs) refl later

-- the answer is one of the runs, and is deliverable
pub answer-given : (told : Told) (pulled : List Run) (front : Option ℕ) (rs : List Run) (run : Run) → answer told pulled front rs ≡ Some run →
    Contains rs run × (is_deliverable told pulled front run ≡ true)
answer-given told pulled front rs run is =
    filter-from (is_deliverable told pulled front) rs run (least-from (filter (is_deliverable told pulled front) rs) run is)

-- the answer is one of the runs, and stands
pub answer-from : (told : Told) (pulled : List Run) (front : Option ℕ) (rs : List Run) (run : Run) → answer told pulled front rs ≡ Some run →
    Contains rs run × (stands (last_pulled pulled) run ≡ true)
answer-from told pulled front rs run is =
    let there : Contains rs run × (is_deliverable told pulled front run ≡ true) = answer-given told pulled front rs run is in
    (there.0, (and_parts (stands (last_pulled pulled) run) _ there.1).0)

-- the answer begins no later than each deliverable run
pub answer-least : (told : Told) (pulled : List Run) (front : Option ℕ) (rs : List Run) (run other : Run) → answer told pulled front rs ≡ Some run →
    Contains rs other → is_deliverable told pulled front other ≡ true → run.first ≤ other.first
answer-least told pulled front rs run other is there deliverable =
    least-upto (filter (is_deliverable told pulled front) rs) run other is
    (filter-to (is_deliverable told pulled front) rs other there deliverable)

-- if there is no answer, no run is deliverable
pub answer-none : (told : Told) (pulled : List Run) (front : Option ℕ) (rs : List Run) → answer told pulled front rs ≡ None →
    NoneDeliverable told pulled front rs
answer-none told pulled front rs none other there =
    false_from_ne_true (is_deliverable told pulled front other)
    (λ deliverable. none_left (filter (is_deliverable told pulled front) rs) none other
    (filter-to (is_deliverable told pulled front) rs other there deliverable))

-- and back
none-answer : (told : Told) (pulled : List Run) (front : Option ℕ) (rs : List Run) → NoneDeliverable told pulled front rs →
    answer told pulled front rs ≡ None
none-answer told pulled front rs none = by_answer (answer told pulled front rs) refl where
  by_answer : (o : Option Run) → answer told pulled front rs ≡ o → o ≡ None
  by_answer None is = refl
  by_answer (Some run) is = let given =
      answer-given told pulled front rs run is in absurd (true≢false (sym given.1 ∙ none run given.0))

-- every answer is right
pub answers_are : AnswersHold
answers_are told pulled front rs =
    record {
      none = (answer-none told pulled front rs, none-answer told pulled front rs);
      some = by_answer (answer told pulled front rs) refl;
    } where
      by_answer : (o : Option Run) → answer told pulled front rs ≡ o →
          IfSome o (λ run. IsLeastDeliverable told pulled front rs run)
      by_answer None is = tt
      by_answer (Some run) is =
          let given : Contains rs run × (is_deliverable told pulled front run ≡ true) =
          answer-given told pulled front rs run is in
          record {
            among = given.0;
            deliverable = given.1;
            least = λ other there deliverable. answer-least told pulled front rs run other is there deliverable;
          }
