-- Lists in the order of a number that each element has.
use Rattle.std.specs.Prelude.{ℕ, Bool, true, ◌&&◌, nat_lt, if◌then◌else◌, List, [], ◌∷◌, Option, None}
use Rattle.std.specs.List.{list_all}
use Rattle.vrx_num.specs.Extended.{greater}

-- each element's number is below those of all that follow it
abbrev pub rises_by : {X : Type 0} → (X → ℕ) → List X → Bool
rises_by number [] = true
rises_by number (x ∷ xs) = list_all (λ y. nat_lt (number x) (number y)) xs && rises_by number xs

-- the list with x put in its place: before the first element whose number is greater
abbrev pub put_by : {X : Type 0} → (X → ℕ) → X → List X → List X
put_by number x [] = x ∷ []
put_by number x (y ∷ ys) = if nat_lt (number x) (number y) then x ∷ y ∷ ys else y ∷ put_by number x ys

-- the greatest of numbers, if there is one
abbrev pub greatest_of : List ℕ → Option ℕ
greatest_of [] = None
greatest_of (n ∷ ns) = greater (greatest_of ns) n
