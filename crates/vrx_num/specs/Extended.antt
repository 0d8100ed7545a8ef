-- What the 16 bits of a sequence number mean beside the newest number. RFC 3550 A.1 extends a number
-- by a count of cycles, each of 65,536 numbers; RFC 3711 3.3.1 takes the cycle that lies nearest.
use Rattle.std.specs.Prelude.{◌≡◌, ◌↔◌, ℕ, zero, suc, ◌+◌, ◌*◌, ◌/◌, ◌%◌, ◌^◌, ◌<◌, ◌≤◌, max, Bool, ◌&&◌, nat_lt, List, [], ◌∷◌, Option, None, Some, find}
use Rattle.vrx_num.specs.declared.limits.TheConstants.{HALF_SPACE}

-- n is the number that the wire means: equal modulo the space, and nearer than half of it
pub record Extends (newest wire n : ℕ) : Type 0 where
  pub same : n % 65536 ≡ wire
  pub not_far_ahead : n < newest + HALF_SPACE
  pub not_far_behind : newest < n + HALF_SPACE

-- nearer than half of the space, as a test
abbrev pub is_nearer_than_half : ℕ → ℕ → Bool
is_nearer_than_half newest n = nat_lt n (newest + HALF_SPACE) && nat_lt newest (n + HALF_SPACE)

-- The numbers that end in wire: in the cycle before this one, in this one, and in the one after.
-- Before the cycle 0 there is none.
abbrev pub numbers_around : ℕ → ℕ → List ℕ
numbers_around zero wire = wire ∷ (65536 + wire) ∷ []
numbers_around (suc before) wire =
    (before * 65536 + wire) ∷ ((before + 1) * 65536 + wire) ∷ ((before + 2) * 65536 + wire) ∷ []

-- Before the first packet, the number in the cycle 1, so that packets before it have numbers too.
-- After it, the number around the newest that is nearer than half of the space to it.
abbrev pub extended_number : Option ℕ → ℕ → Option ℕ
extended_number None wire = Some (wire + 65536)
extended_number (Some newest) wire = find (is_nearer_than_half newest) (numbers_around (newest / 65536) wire)

-- there is a newest number, and the wire number is just half of the space away from it
abbrev pub IsHalfAway : Option ℕ → ℕ → Type 0
IsHalfAway None wire = ⊥
IsHalfAway (Some newest) wire = (wire + HALF_SPACE) % 65536 ≡ newest % 65536

-- the greater of the newest number, if there is one, and n
abbrev pub greater : Option ℕ → ℕ → Option ℕ
greater None n = Some n
greater (Some newest) n = Some (max newest n)

-- a number that can be the newest: no number that is nearer than half of the space to it is below 0,
-- and none comes near 2 ^ 64
pub record IsNewest (n : ℕ) : Type 0 where
  pub at_least : HALF_SPACE ≤ n
  pub at_most : n ≤ 2 ^ 62

-- a wire number means one number at most
abbrev pub MeansOne : Type 0
MeansOne = (newest wire n m : ℕ) → Extends newest wire n → Extends newest wire m → n ≡ m

-- beside a newest number, extending a wire number gives just the number that it means
abbrev pub GivesMeant : Type 0
GivesMeant = (newest wire n : ℕ) → HALF_SPACE ≤ newest → wire < 65536 →
    (extended_number (Some newest) wire ≡ Some n) ↔ Extends newest wire n

-- and gives none just half of the space away
abbrev pub GivesNoneHalfAway : Type 0
GivesNoneHalfAway = (newest wire : ℕ) → HALF_SPACE ≤ newest → wire < 65536 →
    (extended_number (Some newest) wire ≡ None) ↔ IsHalfAway (Some newest) wire
