-- What is in a list.
use Rattle.std.proofs.Common.{◌≡◌, ◌≢◌, ℕ, zero, suc, ◌<◌, ◌⊎◌, List, [], ◌∷◌, length, slice_index_or, Contains, arith, inl, inr}

-- what is at a place of a list is its first, or in the rest
member_at : {X : Type 0} (y : X) (xs : List X) (x : X) (k : ℕ) → k < length (y ∷ xs) →
    slice_index_or (y ∷ xs) k x ≡ x → (y ≡ x) ⊎ Contains xs x
member_at y xs x zero within is = inl is
member_at y xs x (suc k) within is = inr (k, omega arith, is)

-- what is in a list is its first, or in the rest
pub Contains-either : {X : Type 0} (y : X) (xs : List X) (x : X) → Contains (y ∷ xs) x → (y ≡ x) ⊎ Contains xs x
Contains-either y xs x c = member_at y xs x c.0 c.1 c.2

-- nothing is in the empty list
pub Contains-empty : {X : Type 0} (x : X) → Contains [] x → ⊥
Contains-empty x c = omega arith

-- a list with a first member isn't empty
pub not_empty : {X : Type 0} (x : X) (xs : List X) → x ∷ xs ≢ []
not_empty x xs e = cc
