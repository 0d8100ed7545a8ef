-- Words and numbers of a line: what stands up to a space, after it, and after a given text.
use Rattle.std.specs.Prelude.{ℕ, ◌+◌, ◌*◌, ◌-◌, ◌&&◌, ◌==◌, nat_lt, nat_le, if◌then◌else◌, List, [], ◌∷◌, length, drop, Option, Some, None}
use Rattle.std.specs.List.{before_first, after_first, position_or_len}

-- what stands after these octets, if the text begins with them
unfoldable pub after_prefix : List ℕ → List ℕ → Option (List ℕ)
after_prefix [] text = Some text
after_prefix (p ∷ ps) [] = None
after_prefix (p ∷ ps) (octet ∷ octets) = if octet == p then after_prefix ps octets else None

-- the octets before the first space, or all if there is none; a space is 32
unfoldable pub until_space : List ℕ → List ℕ
until_space text = before_first (λ octet. octet == 32) text

-- the octets after the first space, or none if there is none
unfoldable pub after_space : List ℕ → List ℕ
after_space text = after_first (λ octet. octet == 32) text

-- the number whose first digits make `value`, with these digits after them, if it is at most `most`
unfoldable pub number_from : ℕ → ℕ → List ℕ → Option ℕ
number_from most value [] = Some value
number_from most value (digit ∷ digits) =
    if nat_le 48 digit && nat_le digit 57 && nat_le (value * 10 + (digit - 48)) most
    then number_from most (value * 10 + (digit - 48)) digits else None

-- a decimal number of at most `most`: one digit or more, and no leading zero (`0` by itself is a number; 0 is 48)
unfoldable pub number_in : ℕ → List ℕ → Option ℕ
number_in most [] = None
number_in most (digit ∷ digits) =
    if (digit == 48) && nat_lt 0 (length digits) then None else number_from most 0 (digit ∷ digits)

-- the octets from the first space on, or none if there is none
unfoldable pub from_space : List ℕ → List ℕ
from_space text = drop (position_or_len (λ octet. octet == 32) text) text
