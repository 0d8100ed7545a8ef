-- Lists that begin others, and lists of places.
use Rattle.std.specs.Prelude.{◌≡◌, ℕ, zero, suc, ◌+◌, ◌<◌, ◌≤◌, ◌⊎◌, List, [], ◌∷◌, ◌++◌, if◌then◌else◌, nat_lt}

-- a list begins with another
pub record BeginsWith {A : Type 0} (whole front : List A) : Type 0 where
  pub rest : List A
  pub is : whole ≡ front ++ rest

-- places that rise, from this number on
abbrev pub RisesFrom : ℕ → List ℕ → Type 0
RisesFrom n [] = Unit {0}
RisesFrom n (place ∷ places) = (n ≤ place) × RisesFrom (place + 1) places

-- places that lie below a number
abbrev pub AllBelow : ℕ → List ℕ → Type 0
AllBelow n [] = Unit {0}
AllBelow n (place ∷ places) = (place < n) × AllBelow n places

-- a place is among places
abbrev pub IsAmong : ℕ → List ℕ → Type 0
IsAmong n [] = ⊥
IsAmong n (place ∷ places) = (n ≡ place) ⊎ IsAmong n places

-- so many numbers, each one more than the one before
abbrev pub counted_from : ℕ → ℕ → List ℕ
counted_from n zero = []
counted_from n (suc count) = n ∷ counted_from (n + 1) count

-- a place put where it belongs among places that rise
abbrev pub with_place : ℕ → List ℕ → List ℕ
with_place n [] = n ∷ []
with_place n (place ∷ places) = if nat_lt n place then n ∷ place ∷ places else place ∷ with_place n places

-- the places of two lists in one
abbrev pub merged : List ℕ → List ℕ → List ℕ
merged [] others = others
merged (place ∷ places) others = with_place place (merged places others)
