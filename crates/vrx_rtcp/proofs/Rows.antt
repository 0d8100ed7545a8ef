-- Feedback worked by hand: the definitions on it.
use Rattle.std.specs.Prelude.{◌≡◌, ℕ, List, [], ◌∷◌, refl}
use Rattle.std.specs.List.{range_with_len}
use Rattle.vrx_rtcp.specs.Feedback.{nack_octets, pli_octets, items_octets, numbers_named}

-- 81cd, a length, 0000000b and 0000000a, and items
abbrev nack : ℕ → List ℕ → List ℕ
nack words items = 129 ∷ 205 ∷ 0 ∷ words ∷ 0 ∷ 0 ∷ 0 ∷ 11 ∷ 0 ∷ 0 ∷ 0 ∷ 10 ∷ items

-- one number, whose lowest 16 bits are 0, and one after it
pub the_first : nack_octets 11 10 (65536 ∷ []) ≡ nack 3 (0 ∷ 0 ∷ 0 ∷ 0 ∷ [])
the_first = refl

pub one : nack_octets 11 10 (65538 ∷ []) ≡ nack 3 (0 ∷ 2 ∷ 0 ∷ 0 ∷ [])
one = refl

-- with the next, and with the one after the next
pub two : nack_octets 11 10 (65538 ∷ 65539 ∷ []) ≡ nack 3 (0 ∷ 2 ∷ 0 ∷ 1 ∷ [])
two = refl

pub two_apart : nack_octets 11 10 (65538 ∷ 65540 ∷ []) ≡ nack 3 (0 ∷ 2 ∷ 0 ∷ 2 ∷ [])
two_apart = refl

-- 16 beyond the first, and 17
pub in_reach : nack_octets 11 10 (65538 ∷ 65554 ∷ []) ≡ nack 3 (0 ∷ 2 ∷ 128 ∷ 0 ∷ [])
in_reach = refl

pub out_of_reach : nack_octets 11 10 (65538 ∷ 65555 ∷ []) ≡ nack 4 (0 ∷ 2 ∷ 0 ∷ 0 ∷ 0 ∷ 19 ∷ 0 ∷ 0 ∷ [])
out_of_reach = refl

-- 46 numbers, one after another
pub many : nack_octets 11 10 (range_with_len 65538 46) ≡ nack 5
    (0 ∷ 2 ∷ 255 ∷ 255 ∷ 0 ∷ 19 ∷ 255 ∷ 255 ∷ 0 ∷ 36 ∷ 7 ∷ 255 ∷ [])
many = refl

-- PID is 65,535, and the next number is 0
pub over_the_wrap : nack_octets 11 10 (131071 ∷ 131072 ∷ []) ≡ nack 3 (255 ∷ 255 ∷ 0 ∷ 1 ∷ [])
over_the_wrap = refl

-- what items name: 5, 6 and 7, and 256 and 272; and over the wrap
pub named : numbers_named (0 ∷ 5 ∷ 0 ∷ 3 ∷ 1 ∷ 0 ∷ 128 ∷ 0 ∷ []) ≡ 5 ∷ 6 ∷ 7 ∷ 256 ∷ 272 ∷ []
named = refl

pub named_over_the_wrap : numbers_named (255 ∷ 255 ∷ 0 ∷ 1 ∷ []) ≡ 65535 ∷ 0 ∷ []
named_over_the_wrap = refl

pub many_named : numbers_named (items_octets (range_with_len 65538 46)) ≡ range_with_len 2 46
many_named = refl

-- a picture loss indication
pub loss : pli_octets 11 10 ≡ 129 ∷ 206 ∷ 0 ∷ 2 ∷ 0 ∷ 0 ∷ 0 ∷ 11 ∷ 0 ∷ 0 ∷ 0 ∷ 10 ∷ []
loss = refl
