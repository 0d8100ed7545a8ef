-- The mask of a FEC level (RFC 5109 7.4): which packets the level protects. A mask stands here as the number that the
-- field spells. Its bit i, the most significant being bit 0, names the sequence number SN base + i; i is its offset.
use Rattle.std.specs.Prelude.{ℕ, zero, suc, ◌+◌, ◌-◌, ◌/◌, ◌%◌, ◌^◌, Bool, true, ◌&&◌, ◌==◌, nat_lt, if◌then◌else◌, bit_and, List, [], ◌∷◌, filter}

-- how many bits the field has: 16, and 48 if L = 1
abbrev pub width : Bool → ℕ
width long = if long then 48 else 16

-- the mask names this offset
abbrev pub is_named : Bool → ℕ → ℕ → Bool
is_named long mask i = nat_lt i (width long) && (mask / 2 ^ (width long - 1 - i) % 2 == 1)

-- numbers from one on, so many of them
abbrev pub numbers_from : ℕ → ℕ → List ℕ
numbers_from first zero = []
numbers_from first (suc count) = first ∷ numbers_from (first + 1) count

-- the offsets that the mask names, rising
abbrev pub offsets : Bool → ℕ → List ℕ
offsets long mask = filter (is_named long mask) (numbers_from 0 (width long))

-- the mask has no bit that the other hasn't
abbrev pub is_within : ℕ → ℕ → Bool
is_within mask other = bit_and mask other == mask

-- each mask is within the one before it
abbrev pub are_nested : List ℕ → Bool
are_nested [] = true
are_nested (mask ∷ []) = true
are_nested (mask ∷ next ∷ masks) = is_within next mask && are_nested (next ∷ masks)
