-- Tests of lists, and tests that are one.
use Rattle.std.proofs.Common.{◌≡◌, Bool, true, false, List, [], ◌∷◌, Contains, refl, sym, ◌∙◌, ap, inl, inr}
use Rattle.std.specs.List.{list_any}
use Rattle.std.proofs.lemmas.Bool.{or_cases, or_left, or_right}
use Rattle.vrx_core.proofs.machine.MemberLemmas.{Contains-head, Contains-tail, Contains-either, Contains-empty}

-- a value of the first of a list, or of one in the rest
found_tail : {X : Type 0} (P : X → Type 0) (y : X) (xs : List X) → (x : X) × Contains xs x × P x →
    (x : X) × Contains (y ∷ xs) x × P x
found_tail P y xs p = (p.0, Contains-tail y xs p.0 p.1, p.2)

-- a test that holds of some of a list
pub list_any-from : {X : Type 0} (test : X → Bool) (xs : List X) → list_any test xs ≡ true →
    (x : X) × Contains xs x × (test x ≡ true)
list_any-from test [] h = absurd (cc)
list_any-from test (x ∷ xs) h = elim (or_cases (test x) (list_any test xs) h) [
  | inl here ↦ (x, Contains-head x xs, here)
  | inr later ↦ found_tail (λ y. test y ≡ true) x xs (list_any-from test xs later)
]

-- and back
pub list_any-to : {X : Type 0} (test : X → Bool) (xs : List X) (x : X) → Contains xs x → test x ≡ true →
    list_any test xs ≡ true
list_any-to test [] x c h = absurd (Contains-empty x c)
list_any-to test (y ∷ xs) x c h = elim (Contains-either y xs x c) [
  | inl same ↦ or_left (test y) (list_any test xs) (ap test same ∙ h)
  | inr later ↦ or_right (test y) (list_any test xs) (list_any-to test xs x later h)
]

-- two tests that hold in the same case
pub same_test : (a b : Bool) → (a ≡ true → b ≡ true) → (b ≡ true → a ≡ true) → a ≡ b
same_test true b to from = sym (to refl)
same_test false true to from = from refl
same_test false false to from = refl

-- two tests that agree everywhere are one
pub same_tests : {A B : Type 0} (f g : A → B) → ((x : A) → f x ≡ g x) → f ≡ g
same_tests f g each = λ i x. each x i
