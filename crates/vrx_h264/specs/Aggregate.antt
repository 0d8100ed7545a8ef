-- The aggregate STAP-A: several units in one payload (RFC 6184 5.7.1).
--
-- +-+-+-+-+-+-+-+-+
-- |F|NRI|Type = 24|  after this octet, one or more of
-- +-+-+-+-+-+-+-+-+-+-+-+-+-+-+-+-+-+-+-+-+-+-+-+-+
-- |             size              |  a unit of    :
-- +-+-+-+-+-+-+-+-+-+-+-+-+-+-+-+-+  size octets  :
-- :                                               :
-- +-+-+-+-+-+-+-+-+-+-+-+-+-+-+-+-+-+-+-+-+-+-+-+-+
use Rattle.std.specs.Prelude.{ℕ, zero, suc, ◌+◌, ◌*◌, ◌-◌, ◌==◌, nat_lt, if◌then◌else◌, List, [], ◌∷◌, length, take, drop, Option, None, Some}
use Rattle.vrx_codec.specs.declared.fault.PartFault.{PartFault}
use Rattle.vrx_h264.specs.declared.faults.TheConstants.{KIND, STAP_PAST_END, STAP_ZERO}
use Rattle.vrx_h264.specs.Nal.{unit_kind, is_unit_kind}

-- what is wrong with a unit of this size at the front of octets, whose size stands at an offset: the unit runs past
-- the end, its size is 0, or it is no unit as such
abbrev pub sized_fault : ℕ → ℕ → List ℕ → Option PartFault
sized_fault at size octets =
    if nat_lt (length octets) size then Some (record { code = STAP_PAST_END; at = at })
    else if size == 0 then Some (record { code = STAP_ZERO; at = at })
    else if is_unit_kind (unit_kind octets) then None
    else Some (record { code = KIND; at = at + 2 })

-- what is wrong with the size at the front of octets and the unit after it: the size itself may run past the end
abbrev pub unit_fault : ℕ → List ℕ → Option PartFault
unit_fault at [] = Some (record { code = STAP_PAST_END; at = at })
unit_fault at (high ∷ []) = Some (record { code = STAP_PAST_END; at = at })
unit_fault at (high ∷ low ∷ octets) = sized_fault at (high * 256 + low) octets

-- the unit, and the octets after it, if nothing was wrong
abbrev pub unit_if : Option PartFault → ℕ → List ℕ → Option (List ℕ × List ℕ)
unit_if None size octets = Some (take size octets, drop size octets)
unit_if (Some fault) size octets = None

-- the unit at the front of octets, after its size, and the octets after it
abbrev pub first_unit : List ℕ → Option (List ℕ × List ℕ)
first_unit [] = None
first_unit (high ∷ []) = None
first_unit (high ∷ low ∷ octets) = unit_if (sized_fault 0 (high * 256 + low) octets) (high * 256 + low) octets

-- units, and the octets after them
pub record Units : Type 0 where
  pub units : List (List ℕ)
  pub left : List ℕ

-- the unit at the front, and those of the octets after it
abbrev pub units_with : List ℕ → Option (List ℕ × List ℕ) → (List ℕ → Units) → Units
units_with octets None later = record { units = []; left = octets }
units_with octets (Some (unit, behind)) later =
    record { units = unit ∷ (later behind).units; left = (later behind).left }

-- The units at the front of octets, one after another as far as they are right: at most so many. Each has at least
-- three octets with its size, so as many as there are octets are all.
abbrev pub units_within : ℕ → List ℕ → Units
units_within zero octets = record { units = []; left = octets }
units_within (suc most) octets = units_with octets (first_unit octets) (units_within most)

unfoldable pub units_of : List ℕ → Units
units_of octets = units_within (length octets) octets

-- The fault of the octets after an aggregate's first, told by offsets in the payload. After the units that are
-- right nothing is left. Else what is left is wrong, and so is an aggregate without a unit.
abbrev pub left_fault : ℕ → List ℕ → List ℕ → Option PartFault
left_fault len (octet ∷ octets) [] = None
left_fault len octets left = unit_fault (1 + len - length left) left

abbrev pub aggregate_fault : List ℕ → Option PartFault
aggregate_fault octets = left_fault (length octets) octets (units_of octets).left
