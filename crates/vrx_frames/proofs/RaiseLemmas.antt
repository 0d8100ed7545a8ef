-- Marks once the front of the passed numbers is raised.
use Rattle.std.proofs.Common.{◌≡◌, ◌↔◌, ℕ, ◌+◌, ◌-◌, ◌<◌, ◌≤◌, Bool, true, false, not, ◌||◌, List, Option, Some, None, refl, sym, ◌∙◌, ap, subst, arith, inl, inr}
use Rattle.std.specs.Prelude.{nat_le}
use Rattle.std.specs.Option.{option_and_then}
use Rattle.std.proofs.lemmas.Bool.{and_parts, and_from, true≢false, false_from_ne_true, not_from_false, le-leb, leb-true, cases_order}
use Rattle.std.proofs.lemmas.Option.{same_Some}
use Rattle.vrx_window.specs.Numbered.{Numbered, IsNumbered}
use Rattle.vrx_window.specs.Window.{at, is_inside}
use Rattle.vrx_frames.specs.Completed.{IsUpTo}
use Rattle.vrx_frames.specs.Linked.{fact_at, fact_of, starts_at}
use Rattle.vrx_frames.specs.Marked.{IsChain, IsMarked, IsSpread, counts}
use Rattle.vrx_frames.specs.Run.{is_passed}
use Rattle.vrx_frames.specs.declared.arrival.Fact.{Fact}
use Rattle.vrx_frames.specs.declared.arrival.Arrival.{Arrival}
use Rattle.vrx_frames.proofs.MarkLemmas.{chain-one, chain-same, marks-stay, not-passed, was-spread}
use Rattle.vrx_frames.proofs.StartLemmas.{fact-grows, same-bool, same-start, starts_of}

-- facts by two fronts
module _ (entries : List (ℕ × Arrival)) (a b : Option ℕ) (n : ℕ) where
  same-fact : starts_at a entries n ≡ starts_at b entries n → fact_at a entries n ≡ fact_at b entries n
  same-fact = either (at n entries) where
    either : (o : Option Arrival) →
        starts_of (option_and_then (fact_of a n) o) ≡ starts_of (option_and_then (fact_of b n) o) →
        option_and_then (fact_of a n) o ≡ option_and_then (fact_of b n) o
    either None e = refl
    either (Some told) e = same-start a b n told.began told.began told.shape e

  grows-fact : (is_passed a (n - 1) ≡ true → is_passed b (n - 1) ≡ true) → starts_at a entries n ≡ true →
      starts_at b entries n ≡ true
  grows-fact so = either (at n entries) where
    or-so : (x y z : Bool) → (x ≡ true → y ≡ true) → (x || z) ≡ true → (y || z) ≡ true
    or-so true y z so' h = ap (λ v. v || z) (so' refl)
    or-so false true z so' h = refl
    or-so false false z so' h = h

    either : (o : Option Arrival) → starts_of (option_and_then (fact_of a n) o) ≡ true →
        starts_of (option_and_then (fact_of b n) o) ≡ true
    either None h = h
    either (Some told) h = fact-grows a b n told.began told.began told.shape
        (or-so (is_passed a (n - 1)) (is_passed b (n - 1)) told.began so) h

-- what the later front doesn't pass, the earlier one doesn't
pub passed-later : (earlier : Option ℕ) (front n : ℕ) → IsUpTo earlier (Some front) →
    is_passed (Some front) n ≡ false → is_passed earlier n ≡ false
passed-later None front n upto h = refl
passed-later (Some e) front n upto h =
    false_from_ne_true (nat_le n e)
    (λ k. let a : n ≤ e = leb-true n e k in let b : e ≤ front = upto in
    true≢false (sym (le-leb n front (omega arith)) ∙ h))

module _ (earlier passed : Option ℕ) (front newest n : ℕ) (ring : Numbered Arrival) (marks : Numbered ℕ)
    (marked : IsMarked earlier ring marks) (upto : IsUpTo earlier passed) (passed_is : passed ≡ Some front)
    (next : front + 1 ≡ n) where
  abbrev F : ℕ → Option Fact
  F = fact_at earlier ring.entries

  abbrev G : ℕ → Option Fact
  G = fact_at passed ring.entries

  later : (m : ℕ) → is_passed passed m ≡ false → is_passed earlier m ≡ false
  later m h = passed-later earlier front m (subst (IsUpTo earlier) passed_is upto)
      (ap (λ o. is_passed o m) (sym passed_is) ∙ h)

  less : (first : ℕ) → counts ring.newest passed first ≡ true → counts ring.newest earlier first ≡ true
  less first h = and_from (is_inside ring.newest first) (not (is_passed earlier first))
      (and_parts (is_inside ring.newest first) (not (is_passed passed first)) h).0
      (not_from_false (is_passed earlier first)
      (later first (not-passed (is_inside ring.newest first) (is_passed passed first) h)))

  -- what counts begins beyond the front
  beyond : (first : ℕ) → counts ring.newest passed first ≡ true → n ≤ first
  beyond first h = elim (cases_order n first) [
    | inl e ↦ omega arith
    | inr e ↦ elim e [
      | inl a ↦ omega arith
      | inr a ↦ absurd (true≢false
          (sym (ap (λ o. is_passed o first) passed_is ∙ le-leb first front (omega arith))
          ∙ not-passed (is_inside ring.newest first) (is_passed passed first) h))
    ]
  ]

  -- facts beyond the number after the front are as before
  facts-later : (m : ℕ) → n < m → G m ≡ F m
  facts-later m more = sym
      (same-fact ring.entries earlier passed m
      (same-bool _ _ (grows-fact ring.entries earlier passed m
      (λ h. absurd (true≢false (sym h ∙ later (m - 1) none))))
      (grows-fact ring.entries passed earlier m (λ h. absurd (true≢false (sym h ∙ none)))))) where
        none : is_passed passed (m - 1) ≡ false
        none = ap (λ o. is_passed o (m - 1)) passed_is
            ∙ false_from_ne_true (nat_le (m - 1) front)
            (λ h. let k : m - 1 ≤ front = leb-true (m - 1) front h in omega arith)

  -- starts before are starts
  grows : starts_at earlier ring.entries n ≡ true → starts_at passed ring.entries n ≡ true
  grows = grows-fact ring.entries earlier passed n (λ h. elim_passed (is_passed passed (n - 1)) refl h) where
    elim_passed : (b : Bool) → is_passed passed (n - 1) ≡ b → is_passed earlier (n - 1) ≡ true →
        is_passed passed (n - 1) ≡ true
    elim_passed true is h = is
    elim_passed false is h = absurd (true≢false (sym h ∙ later (n - 1) is))

  chains : (a b : ℕ → Option Fact) → ((m : ℕ) → n < m → b m ≡ a m) → (b n ≡ a n) → (k first : ℕ) → n ≤ first →
      IsChain a first k → IsChain b first k
  chains a b same here k first from chain = chain-same a b first k (λ m above below. elim (cases_order m n) [
    | inl e ↦ ap b e ∙ here ∙ ap a (sym e)
    | inr e ↦ elim e [ inl x ↦ absurd (omega arith) | inr x ↦ same m x ]
  ]) chain

  -- the front was raised, and the number after it is a start as before
  pub raised-same : starts_at passed ring.entries n ≡ starts_at earlier ring.entries n → IsMarked passed ring marks
  raised-same e = record {
    newest_is = marked.newest_is;
    numbered = marked.numbered;
    low = marked.low;
    marked = marks-stay F G (counts ring.newest earlier) (counts ring.newest passed)
        (λ m. at m marks.entries) marked.marked less
        (λ k first counted. (
          chains F G facts-later here k first (beyond first counted),
          chains G F (λ m x. sym (facts-later m x)) (sym here) k first (beyond first counted),
        ));
  } where
    here : G n ≡ F n
    here = same-fact ring.entries passed earlier n e

  -- it isn't one
  pub raised-none : starts_at passed ring.entries n ≡ false → IsMarked passed ring marks
  raised-none none = raised-same
      (none ∙ sym (false_from_ne_true (starts_at earlier ring.entries n) (λ h. true≢false (sym (grows h) ∙ none))))

  -- it was one
  pub raised-old : starts_at earlier ring.entries n ≡ true → IsMarked passed ring marks
  raised-old old = raised-same (grows old ∙ sym old)

  -- it is one newly, and its mark was spread
  pub raised-new : (here : Fact) (after : Numbered ℕ) → G n ≡ Some here → here.starts ≡ true →
      starts_at earlier ring.entries n ≡ false → IsSpread G n n marks.entries after.entries →
      after.newest ≡ marks.newest → IsNumbered after → IsMarked passed ring after
  raised-new here after told starts fresh spread newest_is numbered = record {
    newest_is = newest_is ∙ marked.newest_is;
    numbered = numbered;
    low = λ m first h. elim (spread.each m) [
      | inl on ↦ let e : n ≡ first = same_Some n first (sym on.2 ∙ h) in let u : n ≤ m = on.1.upto in omega arith
      | inr off ↦ marked.low m first (sym off.1 ∙ h)
    ];
    marked = was-spread F G (counts ring.newest earlier)
        (counts ring.newest passed) n marks.entries after.entries marked.marked less same none n
        (chain-one G n here told starts) spread;
  } where
    apart : (k first : ℕ) → counts ring.newest passed first ≡ true → (first ≤ n → n ≤ k → ⊥) → first ≤ k → n < first
    apart k first counted out some = elim (cases_order n first) [
      | inl e ↦ absurd (out (omega arith) (omega arith))
      | inr e ↦ elim e [ inl x ↦ x | inr x ↦ let b : n ≤ first = beyond first counted in absurd (omega arith) ]
    ]

    same : (k first : ℕ) → counts ring.newest passed first ≡ true → (first ≤ n → n ≤ k → ⊥) →
        IsChain F first k ↔ IsChain G first k
    same k first counted out = (
      λ c. let x : n < first = apart k first counted out c.linked.upto in
          chain-same F G first k (λ m above below. facts-later m (omega arith)) c,
      λ c. let x : n < first = apart k first counted out c.linked.upto in
          chain-same G F first k (λ m above below. sym (facts-later m (omega arith))) c,
    )

    none : (k first : ℕ) → counts ring.newest passed first ≡ true → first ≤ n → n ≤ k → IsChain F first k → ⊥
    none k first counted a b c =
        let x : n ≤ first = beyond first counted in
        let e : first ≡ n = omega arith in
        true≢false (sym c.start.starts ∙ sym (ap starts_of c.start.told)
        ∙ ap (λ m. starts_at earlier ring.entries m) e ∙ fresh)
