-- The payload of a FEC packet: ULPFEC (RFC 5109 7.3 and 7.4). The picture of the
-- bits stands in src/lib.rt.
use Rattle.std.specs.Prelude.{◌≡◌, ℕ, ◌+◌, ◌-◌, ◌/◌, ◌%◌, ◌^◌, ◌<◌, ◌≤◌, Bool, true, false, not, ◌||◌, ◌==◌, nat_lt, nat_le, if◌then◌else◌, List, [], ◌∷◌, ◌++◌, length, map, drop, slice_index, flat_map, All}
use Rattle.std.specs.Int.{w16, w64, to_be_bytes, from_be_bytes}
use Rattle.std.specs.List.{list_all}
use Rattle.vrx_num.specs.declared.limits.TheConstants.{HALF_SPACE}
use Rattle.vrx_fec.specs.declared.fec.TheConstants.{HEAD, MOST_LEVELS}
use Rattle.vrx_fec.specs.Mask.{width, offsets, are_nested}

-- a level: whom it protects, and the octets that protect them (RFC 5109 7.4)
pub record Level : Type 0 where
  pub mask : ℕ
  pub octets : List ℕ

-- a payload: the ten octets of the FEC header, what they say of bit L and of SN base, and the levels
pub record Payload : Type 0 where
  pub head : List ℕ
  pub long : Bool
  pub base : ℕ
  pub levels : List Level

-- bit L of a FEC header: the masks have 48 bits
abbrev pub has_long_masks : List ℕ → Bool
has_long_masks head = slice_index head 0 / 64 % 2 == 1

-- SN base of a FEC header
abbrev pub base_in : List ℕ → ℕ
base_in head = from_be_bytes w16 (slice_index head 2 ∷ slice_index head 3 ∷ [])

-- the octets of a mask: its 16 or 48 bits, the highest first
abbrev pub mask_octets : Bool → ℕ → List ℕ
mask_octets long mask = if long then drop 2 (to_be_bytes w64 mask) else to_be_bytes w16 mask

-- the octets of a level
abbrev pub level_octets : Bool → Level → List ℕ
level_octets long level = to_be_bytes w16 (length level.octets) ++ mask_octets long level.mask ++ level.octets

-- the octets of a payload: the FEC header, and level after level
abbrev pub octets_of : Payload → List ℕ
octets_of p = p.head ++ flat_map (level_octets p.long) p.levels

-- the masks of the levels
abbrev pub masks : List Level → List ℕ
masks levels = map (λ level. level.mask) levels

-- the mask of level 0, which names all that is protected; 0 names nothing, as if there is no level
abbrev pub first_mask : List ℕ → ℕ
first_mask [] = 0
first_mask (mask ∷ masks) = mask

-- the offsets that level 0 names
abbrev pub protected : Payload → List ℕ
protected p = offsets p.long (first_mask (masks p.levels))

-- how far a packet's own number lies beyond SN base, of the 65,536 wire numbers
abbrev pub distance : ℕ → ℕ → ℕ
distance own base = (own + 65536 - base) % 65536

-- it protects a number that isn't before its own one: SN base is half of the numbers away, or an offset isn't below
-- the distance
abbrev pub is_ahead : ℕ → Payload → Bool
is_ahead own p = nat_le HALF_SPACE (distance own p.base)
    || not (list_all (λ i. nat_lt i (distance own p.base)) (protected p))

-- the mask fits its field, and the protection length its 16 bits
pub record FitsLevel (long : Bool) (level : Level) : Type 0 where
  pub mask : level.mask < 2 ^ width long
  pub size : length level.octets < 2 ^ 16

-- THE FORM: the octets are the payload of the FEC packet of this number
pub record IsPayload (octets : List ℕ) (own : ℕ) (p : Payload) : Type 0 where
  pub spelled : octets ≡ octets_of p
  -- the FEC header has ten octets, and says what it is read for
  pub head : length p.head ≡ HEAD
  pub long : p.long ≡ has_long_masks p.head
  pub base : p.base ≡ base_in p.head
  -- at most eight levels, each of which fits, and whose masks are each within the one before
  pub few : length p.levels ≤ MOST_LEVELS
  pub fits : All (FitsLevel p.long) p.levels
  pub nested : are_nested (masks p.levels) ≡ true
  -- it protects something, and only numbers before its own
  pub protects : (first_mask (masks p.levels) == 0) ≡ false
  pub before : is_ahead own p ≡ false
