-- The header of a NAL unit: its first octet (RFC 6184 1.3).
--
--  0 1 2 3 4 5 6 7
-- +-+-+-+-+-+-+-+-+
-- |F|NRI|  Type   |
-- +-+-+-+-+-+-+-+-+
use Rattle.std.specs.Prelude.{ℕ, ◌%◌, Bool, ◌&&◌, ◌==◌, nat_lt, nat_le, if◌then◌else◌, List, slice_index}
use Rattle.vrx_h264.specs.declared.types.TheConstants.{LAST_UNIT, IDR, SEQUENCE, STAP_A, FU_A}
use Rattle.vrx_h264.specs.declared.nal.Structure.{Structure}
use Rattle.vrx_h264.specs.declared.nal.Structure.TheVariants.{Single, Aggregate, Fragmented, Other}

-- the type that an octet says
abbrev pub kind : ℕ → ℕ
kind octet = octet % 32

-- the type of a unit, which its first octet says
abbrev pub unit_kind : List ℕ → ℕ
unit_kind unit = kind (slice_index unit 0)

-- a NAL unit as such has a type of 1 to 23 (RFC 6184 5.2, table 1)
abbrev pub is_unit_kind : ℕ → Bool
is_unit_kind kind = nat_lt 0 kind && nat_le kind LAST_UNIT

-- an IDR slice, which a keyframe is made of, and a sequence parameter set
abbrev pub is_idr : ℕ → Bool
is_idr kind = kind == IDR

abbrev pub is_sequence : ℕ → Bool
is_sequence kind = kind == SEQUENCE

-- how a payload with this type in its first octet carries units (RFC 6184 5.2, table 1): one, several, or a
-- fragment of one
abbrev pub structure_of : ℕ → Structure
structure_of kind =
    if is_unit_kind kind then Single
    else if kind == STAP_A then Aggregate
    else if kind == FU_A then Fragmented
    else Other
