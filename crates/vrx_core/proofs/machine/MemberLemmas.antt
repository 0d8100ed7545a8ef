-- What is in a list, and in what is made of a list.
use Rattle.std.proofs.Common.{◌≡◌, ℕ, zero, suc, ◌<◌, ◌⊎◌, Bool, true, false, cond, List, [], ◌∷◌, length, slice_index_or, Contains, refl, sym, ◌∙◌, ap, subst, arith, inl, inr}
use Rattle.std.specs.Prelude.{filter}

-- the first of a list is in it
pub Contains-head : {X : Type 0} (x : X) (xs : List X) → Contains (x ∷ xs) x
Contains-head x xs = (0, omega arith, refl)

-- what is in the rest of a list is in it
pub Contains-tail : {X : Type 0} (y : X) (xs : List X) (x : X) → Contains xs x → Contains (y ∷ xs) x
Contains-tail y xs x c = (suc c.0, omega arith, c.2)

-- what is at a place of a list is its first, or in the rest
member_at : {X : Type 0} (y : X) (xs : List X) (x : X) (k : ℕ) → k < length (y ∷ xs) →
    slice_index_or (y ∷ xs) k x ≡ x → (y ≡ x) ⊎ Contains xs x
member_at y xs x zero within is = inl is
member_at y xs x (suc k) within is = inr (k, omega arith, is)

-- what is in a list is its first, or in the rest
pub Contains-either : {X : Type 0} (y : X) (xs : List X) (x : X) → Contains (y ∷ xs) x → (y ≡ x) ⊎ Contains xs x
Contains-either y xs x c = member_at y xs x c.0 c.1 c.2

-- nothing is in the empty list
pub Contains-empty : {X : Type 0} (x : X) → Contains [] x → ⊥
Contains-empty x c = omega arith

-- what is in the values that pass a test is in the list, and passes it
pub filter-from : {X : Type 0} (test : X → Bool) (xs : List X) (x : X) → Contains (filter test xs) x →
    Contains xs x × (test x ≡ true)
filter-from test [] x c = absurd (Contains-empty x c)
filter-from test (y ∷ xs) x c = either (λ d. filter-from test xs x d) (test y) refl c where
  later : Contains xs x × (test x ≡ true) → Contains (y ∷ xs) x × (test x ≡ true)
  later p = (Contains-tail y xs x p.0, p.1)

  either : (Contains (filter test xs) x → Contains xs x × (test x ≡ true)) → (b : Bool) → test y ≡ b →
      Contains (cond b (y ∷ filter test xs) (filter test xs)) x → Contains (y ∷ xs) x × (test x ≡ true)
  either rest true pass d = elim (Contains-either y (filter test xs) x d) [
    | inl same ↦ (subst (λ z. Contains (y ∷ xs) z) same (Contains-head y xs), ap test (sym same) ∙ pass)
    | inr more ↦ later (rest more)
  ]
  either rest false fail d = later (rest d)

-- and back
pub filter-to : {X : Type 0} (test : X → Bool) (xs : List X) (x : X) → Contains xs x → test x ≡ true →
    Contains (filter test xs) x
filter-to test [] x c pass = absurd (Contains-empty x c)
filter-to test (y ∷ xs) x c pass = elim (Contains-either y xs x c) [
  | inl same ↦ subst (λ b. Contains (cond b (y ∷ filter test xs) (filter test xs)) x) (sym (ap test same ∙ pass))
      (subst (λ z. Contains (y ∷ filter test xs) z) same (Contains-head y (filter test xs)))
  | inr later ↦ kept (test y) (filter-to test xs x later pass)
] where
  kept : (b : Bool) → Contains (filter test xs) x → Contains (cond b (y ∷ filter test xs) (filter test xs)) x
  kept true d = Contains-tail y (filter test xs) x d
  kept false d = d
