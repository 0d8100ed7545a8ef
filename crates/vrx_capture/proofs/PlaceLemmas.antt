-- Lemmas on the place of the first element that passes a test.
use Rattle.std.proofs.Common.{◌≡◌, ◌⊎◌, ℕ, ◌+◌, ◌-◌, ◌<◌, ◌≤◌, Bool, true, false, List, length, drop, get_or, Option, Some, None, sym, ap, ◌∙◌, inl, inr, arith}
use Rattle.std.specs.Prelude.{MatchOption}
use Rattle.memchr.specs.Find.{IsFirstByte}
use Rattle.std.specs.List.{position_or_len}
use Rattle.std.proofs.lemmas.Bool.{cases_lt, false_from_ne_true}
use Rattle.std.proofs.lemmas.List.{get_or-drop, length-drop}
use Rattle.std.proofs.lemmas.List.Sums.{fails_before_first, position_or_len_is, prefix_len-le-length}

-- the first place lies within the list, or after its end
pub place_within : (p : ℕ → Bool) (xs : List ℕ) → position_or_len p xs ≤ length xs
place_within p xs = prefix_len-le-length _ xs

-- the first that passes after a place with none before it, if there is one
pub found_behind : (p : ℕ → Bool) (xs : List ℕ) (clear : ℕ) (found : Option ℕ) → clear ≤ position_or_len p xs →
    IsFirstByte p (drop clear xs) found →
    MatchOption found (length xs ≡ position_or_len p xs) (λ i. clear + i ≡ position_or_len p xs)
found_behind p xs clear found none is = by_found found is where
  within : clear ≤ length xs
  within = omega (arith, none, place_within p xs)

  fails : (k : ℕ) → ((j : ℕ) → j < k → p (get_or (drop clear xs) j 0) ≡ true → ⊥) → (i : ℕ) → i < clear + k →
      p (get_or xs i 0) ≡ false
  fails k nowhere i below = by_place (cases_lt i clear) where
    by_place : (i < clear) ⊎ (clear ≤ i) → p (get_or xs i 0) ≡ false
    by_place (inl before) = fails_before_first p xs i 0 (omega (arith, before, none))
    by_place (inr behind) = false_from_ne_true _
        (λ passes. nowhere (i - clear) (omega arith)
        (ap p (get_or-drop clear xs (i - clear) 0 ∙ ap (λ n. get_or xs n 0) (omega arith)) ∙ passes))

  by_found : (o : Option ℕ) → IsFirstByte p (drop clear xs) o →
      MatchOption o (length xs ≡ position_or_len p xs) (λ i. clear + i ≡ position_or_len p xs)
  by_found None nowhere = sym
      (position_or_len_is p xs (length xs) 0 (omega arith)
      (λ k below. fails (length xs - clear)
      (λ j inside. nowhere j (omega arith) (omega (arith, inside, length-drop clear xs))) k
      (omega (arith, below, within))) (λ beyond. absurd (omega arith)))
  by_found (Some i) found_is =
      let first = found_is.0 in
      let inside : i < length (drop clear xs) = first.high in
      sym (position_or_len_is p xs (clear + i) 0 (omega (arith, inside, length-drop clear xs))
      (fails i (λ j below. first.before j (omega arith) below))
      (λ below. ap p (sym (get_or-drop clear xs i 0)) ∙ found_is.1))
