-- What a function comes to over a list, added up, when the list changes at one place.
use Rattle.std.proofs.Common.{◌≡◌, ◌≢◌, ℕ, zero, suc, ◌+◌, ◌*◌, ◌≤◌, List, [], ◌∷◌, ◌++◌, length, set, refl, sym, ap, arith}
use mathlib.Core.Option.{some, some-injective, some-ne-none}
use lib.ListN.{get_elem?}
use Rattle.vrx_lock.specs.inside.Rule.{total, total_below}

module _ {A : Type 0} (f : A → ℕ) where
  pub total-set : (xs : List A) (i : ℕ) (x y : A) → get_elem? xs i ≡ some x
      → total f (set xs i y) + f x ≡ total f xs + f y
  total-set [] i x y at = absurd (some-ne-none x (sym at))
  total-set (z ∷ zs) zero x y at = omega (arith, ap f (some-injective z x at))
  total-set (z ∷ zs) (suc i) x y at = omega (arith, total-set zs i x y at)

  pub total-at : (xs : List A) (i : ℕ) (x : A) → get_elem? xs i ≡ some x → f x ≤ total f xs
  total-at [] i x at = absurd (some-ne-none x (sym at))
  total-at (z ∷ zs) zero x at = omega (arith, ap f (some-injective z x at))
  total-at (z ∷ zs) (suc i) x at = omega (arith, total-at zs i x at)

  pub total-two : (xs : List A) (i j : ℕ) (x y : A) → i ≢ j → get_elem? xs i ≡ some x → get_elem? xs j ≡ some y
      → f x + f y ≤ total f xs
  total-two [] i j x y ne at at' = absurd (some-ne-none x (sym at))
  total-two (z ∷ zs) zero zero x y ne at at' = absurd (ne refl)
  total-two (z ∷ zs) zero (suc j) x y ne at at' =
      omega (arith, ap f (some-injective z x at), total-at zs j y at')
  total-two (z ∷ zs) (suc i) zero x y ne at at' =
      omega (arith, ap f (some-injective z y at'), total-at zs i x at)
  total-two (z ∷ zs) (suc i) (suc j) x y ne at at' =
      omega (arith, total-two zs i j x y (λ e. ne (ap suc e)) at at')

  pub total-append : (xs ys : List A) → total f (xs ++ ys) ≡ total f xs + total f ys
  total-append [] ys = omega arith
  total-append (x ∷ xs) ys = omega (arith, total-append xs ys)

  pub total-double : (g : A → ℕ) (xs : List A)
      → ((i : ℕ) (x : A) → get_elem? xs i ≡ some x → g x ≡ 2 * f x) → total g xs ≡ 2 * total f xs
  total-double g [] h = omega arith
  total-double g (x ∷ xs) h = omega (arith, h 0 x refl, total-double g xs (λ i y at. h (suc i) y at))

-- one for each
abbrev pub one : ℕ → ℕ
one n = 1

pub total-one : (places : List ℕ) → total one places ≡ length places
total-one [] = refl
total-one (p ∷ ps) = omega (arith, total-one ps)

pub below-one : (n : ℕ) → total_below one n ≡ n
below-one zero = refl
below-one (suc n) = omega (arith, below-one n)

module _ {A : Type 0} (f : A → ℕ) where
  pub total-none : (xs : List A) → ((i : ℕ) (x : A) → get_elem? xs i ≡ some x → f x ≡ 0) → total f xs ≡ 0
  total-none [] h = refl
  total-none (x ∷ xs) h = omega (arith, h 0 x refl, total-none xs (λ i y at. h (suc i) y at))

  -- a sum to which one member alone adds
  pub total-only : (xs : List A) (i : ℕ) (x : A) → get_elem? xs i ≡ some x
      → ((j : ℕ) (y : A) → j ≢ i → get_elem? xs j ≡ some y → f y ≡ 0) → total f xs ≡ f x
  total-only [] i x at h = absurd (some-ne-none x (sym at))
  total-only (z ∷ zs) zero x at h =
      omega (arith, ap f (some-injective z x at), total-none zs (λ j y at'. h (suc j) y (λ e. absurd (omega (arith, e))) at'))
  total-only (z ∷ zs) (suc i) x at h =
      omega (arith, h 0 z (λ e. absurd (omega (arith, e))) refl, total-only zs i x at (λ j y ne at'. h (suc j) y (λ e. ne (omega (arith, e))) at'))
