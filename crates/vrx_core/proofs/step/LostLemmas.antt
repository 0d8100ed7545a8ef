-- The greatest number that is given up once a packet is placed.
use Rattle.std.proofs.Common.{◌≡◌, ℕ, zero, suc, ◌+◌, ◌-◌, ◌^◌, ◌<◌, ◌≤◌, max, Bool, true, false, List, [], ◌∷◌, Contains, Option, Some, None, refl, sym, ◌∙◌, ap, subst, arith, inl, inr}
use Rattle.std.specs.Prelude.{min, not, ◌&&◌}
use Rattle.std.proofs.lemmas.Bool.{and_from, and_parts, cases_lt, le-leb, leb-true, false_from_ne_true, true≢false}
use Rattle.vrx_num.specs.Extended.{greater}
use Rattle.vrx_num.specs.declared.limits.TheConstants.{WINDOW}
use Rattle.vrx_window.specs.Window.{Contents, is_dead, newest_with}
use Rattle.vrx_window.specs.declared.held.Held.{Held}
use Rattle.vrx_frames.specs.Run.{is_passed, numbers_from}
use Rattle.vrx_core.specs.machine.GivenUp.{numbers_below, numbers_left}
use Rattle.vrx_buffer.specs.Order.{greatest_of}
use Rattle.vrx_core.specs.inside.Fields.{after_pulled}
use Rattle.vrx_core.specs.inside.Wants.{lost_from}
use Rattle.vrx_core.proofs.relation.ListLemmas.{Contains-either, Contains-empty, Contains-head, Contains-tail, filter-from, filter-to}

-- what is among numbers in their order lies between
pub numbers-in : (count from m : ℕ) → Contains (numbers_from from count) m → (from ≤ m) × (m < from + count)
numbers-in zero from m c = absurd (Contains-empty m c)
numbers-in (suc count) from m c = elim (Contains-either from (numbers_from (from + 1) count) m c) [
  | inl same ↦ (omega arith, omega arith)
  | inr later ↦ let r = numbers-in count (from + 1) m later in (omega (arith, r.0), omega (arith, r.1))
]

-- and back
pub numbers-of : (count from m : ℕ) → from ≤ m → m < from + count → Contains (numbers_from from count) m
numbers-of zero from m low high = absurd (omega arith)
numbers-of (suc count) from m low high = elim (cases_lt from m) [
  | inl less ↦ Contains-tail from (numbers_from (from + 1) count) m
      (numbers-of count (from + 1) m (omega arith) (omega arith))
  | inr upto ↦ let same : from ≡ m = omega arith in
      subst (λ k. Contains (from ∷ numbers_from (from + 1) count) k) same
      (Contains-head from (numbers_from (from + 1) count))
]

-- no number of a list is above m
greatest-upto : (xs : List ℕ) (m : ℕ) → ((k : ℕ) → Contains xs k → k ≤ m) → greater (greatest_of xs) m ≡ Some m
greatest-upto [] m upto = refl
greatest-upto (x ∷ xs) m upto =
    let first : x ≤ m = upto x (Contains-head x xs) in
    below (greatest_of xs) (greatest-upto xs m (λ k c. upto k (Contains-tail x xs k c))) first where
      some-same : (a b : ℕ) → Some a ≡ Some b → a ≡ b
      some-same a b is = cc

      below : (o : Option ℕ) → greater o m ≡ Some m → x ≤ m → greater (greater o x) m ≡ Some m
      below None is le = ap Some (grind (arith))
      below (Some k) is le = let same : max k m ≡ m = some-same (max k m) m is in ap Some (grind (arith))

-- the greatest is a number of the list that none is above
pub greatest-is : (xs : List ℕ) (m : ℕ) → Contains xs m → ((k : ℕ) → Contains xs k → k ≤ m) → greatest_of xs ≡ Some m
greatest-is [] m c upto = absurd (Contains-empty m c)
greatest-is (x ∷ xs) m c upto = elim (Contains-either x xs m c) [
  | inl same ↦ ap (greater (greatest_of xs)) same ∙ greatest-upto xs m (λ k d. upto k (Contains-tail x xs k d))
  | inr later ↦ let le : x ≤ m = upto x (Contains-head x xs) in
      ap (λ o. greater o x) (greatest-is xs m later (λ k d. upto k (Contains-tail x xs k d)))
      ∙ ap Some (grind (arith))
]

-- there is none in an empty list
pub greatest-none : (xs : List ℕ) → ((k : ℕ) → Contains xs k → ⊥) → greatest_of xs ≡ None
greatest-none [] none = refl
greatest-none (x ∷ xs) none = absurd (none x (Contains-head x xs))

false-of-not : (b : Bool) → not b ≡ true → b ≡ false
false-of-not true is = absurd (cc)
false-of-not false is = refl

-- a number that isn't passed lies beyond the front
not-passed : (front : Option ℕ) (k : ℕ) → not (is_passed front k) ≡ true → after_pulled front ≤ k
not-passed None k is = omega arith
not-passed (Some front) k is = elim (cases_lt front k) [
  | inl less ↦ omega arith
  | inr upto ↦ absurd (true≢false (sym is ∙ ap not (le-leb k front upto)))
]

passed-not : (front : Option ℕ) (k : ℕ) → after_pulled front ≤ k → not (is_passed front k) ≡ true
passed-not None k beyond = refl
passed-not (Some front) k beyond =
    ap not (false_from_ne_true (is_passed (Some front) k)
    (λ is. let upto : k ≤ front = leb-true k front is in absurd (omega arith)))

module _ (window : Contents Held) (front : Option ℕ) (n first newest low high : ℕ)
    (first_is : window.first ≡ Some first) (newest_is : window.newest ≡ Some newest)
    (low_is : low ≡ max (max (min (after_pulled front) (2 ^ 64 - 1)) first) (newest - (WINDOW - 1)))
    (high_is : high ≡ max newest n - (WINDOW - 1)) (short : max newest n < 2 ^ 64) where
  left : List ℕ
  left = numbers_left window.first window.newest (Some (newest_with window.newest n))

  left-is : numbers_left window.first window.newest (Some (newest_with window.newest n)) ≡ numbers_below
      (max first (newest + 1 - WINDOW)) (max newest n + 1 - WINDOW)
  left-is = ap (λ (o : Option ℕ). numbers_left o window.newest (Some (newest_with window.newest n))) first_is
      ∙ ap (λ (o : Option ℕ). numbers_left (Some first) o (Some (newest_with o n))) newest_is

  test : ℕ → Bool
  test m = not (is_passed front m) && not (is_dead m window.dead)

  -- the numbers given up lie between, and aren't dead
  lost-in : (k : ℕ) → Contains (lost_from window front n) k → (low ≤ k) × (k < high) × (is_dead k window.dead ≡ false)
  lost-in k c =
      let f = filter-from (λ m. not (is_passed front m) && not (is_dead m window.dead))
      (numbers_left window.first window.newest (Some (newest_with window.newest n))) k c in
      let b = numbers-in (max newest n + 1 - WINDOW - max first (newest + 1 - WINDOW))
      (max first (newest + 1 - WINDOW)) k (subst (λ ns. Contains ns k) left-is f.0) in
      let both = and_parts (not (is_passed front k)) (not (is_dead k window.dead)) f.1 in
      let beyond : after_pulled front ≤ k = not-passed front k both.0 in
      let b0 : max first (newest + 1 - WINDOW) ≤ k = b.0 in
      let b1 : k < max first (newest + 1 - WINDOW) + (max newest n + 1 - WINDOW - max first (newest + 1 - WINDOW)) =
      b.1 in
      (grind (arith), grind (arith), false-of-not (is_dead k window.dead) both.1)

  lost-of : (k : ℕ) → low ≤ k → k < high → is_dead k window.dead ≡ false → Contains (lost_from window front n) k
  lost-of k from below alive =
      let beyond : after_pulled front ≤ k = grind (arith) in
      filter-to (λ m. not (is_passed front m) && not (is_dead m window.dead))
      (numbers_left window.first window.newest (Some (newest_with window.newest n))) k
      (subst (λ ns. Contains ns k) (sym left-is)
      (numbers-of (max newest n + 1 - WINDOW - max first (newest + 1 - WINDOW)) (max first (newest + 1 - WINDOW)) k
      (grind (arith)) (grind (arith))))
      (and_from (not (is_passed front k)) (not (is_dead k window.dead)) (passed-not front k beyond) (ap not alive))

  -- the search goes down from the greatest
  abbrev pub AreDeadDown : ℕ → Type 0
  AreDeadDown back = (k : ℕ) → k < back → is_dead (high - 1 - k) window.dead ≡ true

  pub lost-found : (back : ℕ) → back < high - low → AreDeadDown back → is_dead (high - 1 - back) window.dead ≡ false →
      Some (high - 1 - back) ≡ greatest_of (lost_from window front n)
  lost-found back within dead alive =
      sym (greatest-is (lost_from window front n) (high - 1 - back)
      (lost-of (high - 1 - back) (omega arith) (omega arith) alive) upto) where
        upto : (k : ℕ) → Contains (lost_from window front n) k → k ≤ high - 1 - back
        upto k c = let r = lost-in k c in elim (cases_lt (high - 1 - back) k) [
          | inl above ↦ absurd (true≢false
              (sym (dead (high - 1 - k) (omega (arith, above, r.1)))
              ∙ ap (λ m. is_dead m window.dead) (let e : high - 1 - (high - 1 - k) ≡ k = omega (arith, r.1) in e)
              ∙ r.2))
          | inr le ↦ le
        ]

  pub lost-nowhere : (back : ℕ) → high - low ≤ back → AreDeadDown back → None ≡ greatest_of (lost_from window front n)
  lost-nowhere back all dead = sym (greatest-none (lost_from window front n) (λ k c. let r = lost-in k c in
      true≢false (sym (dead (high - 1 - k) (omega (arith, r.0, r.1)))
      ∙ ap (λ m. is_dead m window.dead) (let e : high - 1 - (high - 1 - k) ≡ k = omega (arith, r.1) in e) ∙ r.2)))
