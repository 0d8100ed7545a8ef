-- The payload of an RTP packet of H.264 (RFC 6184 5.2 to 5.8), and the part of a frame that it is.
use Rattle.std.specs.Prelude.{ℕ, ◌+◌, ◌*◌, ◌/◌, Bool, true, false, ◌&&◌, if◌then◌else◌, List, [], ◌∷◌, map, Option, None, Some, Result, Ok, Err}
use Rattle.std.specs.List.{list_any}
use Rattle.vrx_codec.specs.Octet.{bit}
use Rattle.vrx_codec.specs.Part.{Part}
use Rattle.vrx_codec.specs.declared.part.Start.TheVariants.{Yes, ByNeighbour}
use Rattle.vrx_codec.specs.declared.fault.PartFault.{PartFault}
use Rattle.vrx_h264.specs.declared.bits.TheConstants.{BIT_S, BIT_E}
use Rattle.vrx_h264.specs.declared.faults.TheConstants.{EMPTY, KIND, FU_SHORT, FU_BOTH}
use Rattle.vrx_h264.specs.declared.nal.Structure.{Structure}
use Rattle.vrx_h264.specs.declared.nal.Structure.TheVariants.{Single, Aggregate, Fragmented, Other}
use Rattle.vrx_h264.specs.Nal.{kind, unit_kind, is_unit_kind, is_idr, is_sequence, structure_of}
use Rattle.vrx_h264.specs.Aggregate.{units_of, aggregate_fault}

-- A fragment FU-A of a unit (RFC 6184 5.8): its two octets, and octets of the unit, which begin after the unit's
-- first.
--
-- +---------------+---------------+
-- |0|1|2|3|4|5|6|7|0|1|2|3|4|5|6|7|
-- +-+-+-+-+-+-+-+-+-+-+-+-+-+-+-+-+
-- |F|NRI|Type = 28|S|E|R|  Type   |  F and NRI are the unit's, and so is the type of the header
-- +---------------+---------------+
pub record Fragment : Type 0 where
  pub indicator : ℕ
  pub header : ℕ
  pub octets : List ℕ

-- S: the unit begins here; E: it ends here
abbrev pub begins : Fragment → Bool
begins f = bit BIT_S f.header

abbrev pub ends : Fragment → Bool
ends f = bit BIT_E f.header

-- the unit's first octet: F and NRI of the indicator, and the type of the header
abbrev pub first_octet : Fragment → ℕ
first_octet f = f.indicator / 32 * 32 + kind f.header

-- what a payload carries: whole units, or a fragment of one
pub data Piece : Type 0 where
  Whole : (unit : List ℕ) → Piece
  Cut : (fragment : Fragment) → Piece

-- the type of the unit that it is, or is a fragment of
abbrev pub piece_kind : Piece → ℕ
piece_kind (Whole unit) = unit_kind unit
piece_kind (Cut f) = kind f.header

-- whether a unit begins there
abbrev pub begins_unit : Piece → Bool
begins_unit (Whole unit) = true
begins_unit (Cut f) = begins f

-- the fragment after an indicator
abbrev pub cut_of : ℕ → List ℕ → List Piece
cut_of indicator [] = []
cut_of indicator (header ∷ octets) = Cut (record { indicator = indicator; header = header; octets = octets }) ∷ []

-- what a payload with this first octet and these after it carries
abbrev pub pieces_in : Structure → ℕ → List ℕ → List Piece
pieces_in Single head octets = Whole (head ∷ octets) ∷ []
pieces_in Aggregate head octets = map Whole (units_of octets).units
pieces_in Fragmented head octets = cut_of head octets
pieces_in Other head octets = []

abbrev pub pieces : List ℕ → List Piece
pieces [] = []
pieces (head ∷ octets) = pieces_in (structure_of (kind head)) head octets

-- what is wrong with the octets after an indicator: there is no header, it says both S and E, or its type isn't that
-- of a unit as such
abbrev pub cut_fault : List ℕ → Option PartFault
cut_fault [] = Some (record { code = FU_SHORT; at = 1 })
cut_fault (header ∷ octets) =
    if bit BIT_S header && bit BIT_E header then Some (record { code = FU_BOTH; at = 1 })
    else if is_unit_kind (kind header) then None
    else Some (record { code = KIND; at = 1 })

-- what is wrong with a payload, by its form: its first octet may say none
abbrev pub fault_in : Structure → List ℕ → Option PartFault
fault_in Single octets = None
fault_in Aggregate octets = aggregate_fault octets
fault_in Fragmented octets = cut_fault octets
fault_in Other octets = Some (record { code = KIND; at = 0 })

-- what is wrong with a payload: it may be empty
abbrev pub fault : List ℕ → Option PartFault
fault [] = Some (record { code = EMPTY; at = 0 })
fault (head ∷ octets) = fault_in (structure_of (kind head)) octets

-- whether pieces begin with the beginning of a sequence parameter set
abbrev pub begin_sequence : List Piece → Bool
begin_sequence [] = false
begin_sequence (piece ∷ later) = begins_unit piece && is_sequence (piece_kind piece)

-- whether there is an IDR slice, or a fragment of one
abbrev pub hold_idr : List Piece → Bool
hold_idr pieces = list_any (λ piece. is_idr (piece_kind piece)) pieces

-- the part of a payload that carries this: a sequence parameter set begins a frame, and of other units nothing says
-- so
abbrev pub part_with : List ℕ → List Piece → Part
part_with payload carried = record {
  start = if begin_sequence carried then Yes else ByNeighbour;
  key = hold_idr carried;
  layers = None;
  body = payload;
}

-- the part that a payload is, if nothing is wrong
abbrev pub part_if : List ℕ → Option PartFault → Result Part PartFault
part_if payload (Some fault) = Err fault
part_if payload None = Ok (part_with payload (pieces payload))

abbrev pub read_part : List ℕ → Result Part PartFault
read_part payload = part_if payload (fault payload)
