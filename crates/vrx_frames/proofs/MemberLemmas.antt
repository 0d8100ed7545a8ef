-- What is in a list, and in what is made of a list.
use Rattle.std.proofs.Common.{◌≡◌, ℕ, zero, suc, ◌<◌, ◌⊎◌, Bool, true, false, cond, List, [], ◌∷◌, length, slice_index_or, Contains, Option, Some, None, refl, sym, ◌∙◌, ap, subst, arith, inl, inr}
use Rattle.std.specs.Prelude.{filter}
use Rattle.std.specs.List.{filter_map, flat_map, cons_option}
use Rattle.std.proofs.lemmas.List.Elements.{Contains-append_left, Contains-append_right, Contains-append_cases}

-- the first of a list is in it
pub Contains-head : {X : Type 0} (x : X) (xs : List X) → Contains (x ∷ xs) x
Contains-head x xs = (0, omega arith, refl)

-- what is in the rest of a list is in it
pub Contains-tail : {X : Type 0} (y : X) (xs : List X) (x : X) → Contains xs x → Contains (y ∷ xs) x
Contains-tail y xs x c = (suc c.0, omega arith, c.2)

-- what is at a place of a list is its first, or in the rest
member_at : {X : Type 0} (y : X) (xs : List X) (x : X) (k : ℕ) → k < length (y ∷ xs) →
    slice_index_or (y ∷ xs) k x ≡ x → (y ≡ x) ⊎ Contains xs x
member_at y xs x zero within is = inl is
member_at y xs x (suc k) within is = inr (k, omega arith, is)

-- what is in a list is its first, or in the rest
pub Contains-either : {X : Type 0} (y : X) (xs : List X) (x : X) → Contains (y ∷ xs) x → (y ≡ x) ⊎ Contains xs x
Contains-either y xs x c = member_at y xs x c.0 c.1 c.2

-- nothing is in the empty list
pub Contains-empty : {X : Type 0} (x : X) → Contains [] x → ⊥
Contains-empty x c = omega arith

-- a value of the first of a list, or of one in the rest
pub found_tail : {X : Type 0} (P : X → Type 0) (y : X) (xs : List X) → (x : X) × Contains xs x × P x →
    (x : X) × Contains (y ∷ xs) x × P x
found_tail P y xs p = (p.0, Contains-tail y xs p.0 p.1, p.2)

-- what is in the lists made of a list is in the list made of one in it
pub flat_map-from : {X Y : Type 0} (f : X → List Y) (xs : List X) (y : Y) → Contains (flat_map f xs) y →
    (x : X) × Contains xs x × Contains (f x) y
flat_map-from f [] y c = absurd (Contains-empty y c)
flat_map-from f (x ∷ xs) y c = elim (Contains-append_cases (f x) (flat_map f xs) y c) [
  | inl here ↦ (x, Contains-head x xs, here)
  | inr later ↦ found_tail (λ z. Contains (f z) y) x xs (flat_map-from f xs y later)
]

-- and back
pub flat_map-to : {X Y : Type 0} (f : X → List Y) (xs : List X) (x : X) (y : Y) → Contains xs x → Contains (f x) y →
    Contains (flat_map f xs) y
flat_map-to f [] x y c d = absurd (Contains-empty x c)
flat_map-to f (z ∷ xs) x y c d = elim (Contains-either z xs x c) [
  | inl same ↦ Contains-append_left (f z) (flat_map f xs) y (subst (λ w. Contains (f w) y) (sym same) d)
  | inr later ↦ Contains-append_right (f z) (flat_map f xs) y (flat_map-to f xs x y later d)
]

-- what is in a list with one value more, if there is one
cons_option-from : {Y : Type 0} (o : Option Y) (ys : List Y) (y : Y) → Contains (cons_option o ys) y →
    (o ≡ Some y) ⊎ Contains ys y
cons_option-from None ys y c = inr c
cons_option-from (Some z) ys y c =
    elim (Contains-either z ys y c) [ inl same ↦ inl (ap Some same) | inr later ↦ inr later ]

-- and back
cons_option-later : {Y : Type 0} (o : Option Y) (ys : List Y) (y : Y) → Contains ys y → Contains (cons_option o ys) y
cons_option-later None ys y c = c
cons_option-later (Some z) ys y c = Contains-tail z ys y c

-- what is in the values made of a list is made of one in it
pub filter_map-from : {X Y : Type 0} (f : X → Option Y) (xs : List X) (y : Y) → Contains (filter_map f xs) y →
    (x : X) × Contains xs x × (f x ≡ Some y)
filter_map-from f [] y c = absurd (Contains-empty y c)
filter_map-from f (x ∷ xs) y c = elim (cons_option-from (f x) (filter_map f xs) y c) [
  | inl here ↦ (x, Contains-head x xs, here)
  | inr later ↦ found_tail (λ z. f z ≡ Some y) x xs (filter_map-from f xs y later)
]

-- and back
pub filter_map-to : {X Y : Type 0} (f : X → Option Y) (xs : List X) (x : X) (y : Y) → Contains xs x → f x ≡ Some y →
    Contains (filter_map f xs) y
filter_map-to f [] x y c is = absurd (Contains-empty x c)
filter_map-to f (z ∷ xs) x y c is = elim (Contains-either z xs x c) [
  | inl same ↦ subst (λ o. Contains (cons_option o (filter_map f xs)) y) (sym (ap f same ∙ is))
      (Contains-head y (filter_map f xs))
  | inr later ↦ cons_option-later (f z) (filter_map f xs) y (filter_map-to f xs x y later is)
]

-- what is in the values that pass a test is in the list, and passes it
pub filter-from : {X : Type 0} (test : X → Bool) (xs : List X) (x : X) → Contains (filter test xs) x →
    Contains xs x × (test x ≡ true)
filter-from test [] x c = absurd (Contains-empty x c)
filter-from test (y ∷ xs) x c = either (λ d. filter-from test xs x d) (test y) refl c where
  later : Contains xs x × (test x ≡ true) → Contains (y ∷ xs) x × (test x ≡ true)
  later p = (Contains-tail y xs x p.0, p.1)

  either : (Contains (filter test xs) x → Contains xs x × (test x ≡ true)) → (b : Bool) → test y ≡ b →
      Contains (cond b (y ∷ filter test xs) (filter test xs)) x → Contains (y ∷ xs) x × (test x ≡ true)
  either rest true pass d = elim (Contains-either y (filter test xs) x d) [
    | inl same ↦ (subst (λ z. Contains (y ∷ xs) z) same (Contains-head y xs), ap test (sym same) ∙ pass)
    | inr more ↦ later (rest more)
  ]
  either rest false fail d = later (rest d)

-- and back
pub filter-to : {X : Type 0} (test : X → Bool) (xs : List X) (x : X) → Contains xs x → test x ≡ true →
    Contains (filter test xs) x
filter-to test [] x c pass = absurd (Contains-empty x c)
filter-to test (y ∷ xs) x c pass = elim (Contains-either y xs x c) [
  | inl same ↦ subst (λ b. Contains (cond b (y ∷ filter test xs) (filter test xs)) x) (sym (ap test same ∙ pass))
      (subst (λ z. Contains (y ∷ filter test xs) z) same (Contains-head y (filter test xs)))
  | inr later ↦ kept (test y) (filter-to test xs x later pass)
] where
  kept : (b : Bool) → Contains (filter test xs) x → Contains (cond b (y ∷ filter test xs) (filter test xs)) x
  kept true there = Contains-tail y (filter test xs) x there
  kept false there = there
