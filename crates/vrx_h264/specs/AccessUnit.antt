-- The frame that parts join to: the units of one access unit, in the order of the parts (RFC 6184 5.1, 5.8), each
-- after a start code as in H.264 annex B.
use Rattle.std.specs.Prelude.{ℕ, ◌==◌, if◌then◌else◌, List, [], ◌∷◌, ◌++◌, Option, None, Some, Result, Ok, Err}
use Rattle.std.specs.List.{flat_map}
use Rattle.vrx_codec.specs.Part.{Part}
use Rattle.vrx_codec.specs.Meaning.{Meaning}
use Rattle.vrx_codec.specs.declared.fault.JoinFault.{JoinFault}
use Rattle.vrx_h264.specs.declared.faults.TheConstants.{FU_NO_START, FU_NO_END, FU_MIXED}
use Rattle.vrx_h264.specs.Nal.{kind}
use Rattle.vrx_h264.specs.Payload.{begins, ends, first_octet, Piece, Whole, Cut, pieces, read_part}

-- a unit after its start code (H.264 B.1.1)
abbrev pub start_code : List ℕ
start_code = 0 ∷ 0 ∷ 0 ∷ 1 ∷ []

abbrev pub after_code : List ℕ → List ℕ
after_code unit = start_code ++ unit

-- why pieces don't join: a later fragment comes while no unit is begun, the fragments of a unit don't end, or a later
-- fragment is of a unit of another type
abbrev pub no_start : JoinFault
no_start = record { code = FU_NO_START }

abbrev pub no_end : JoinFault
no_end = record { code = FU_NO_END }

abbrev pub mixed_unit : JoinFault
mixed_unit = record { code = FU_MIXED }

-- the octets after those of the unit that is begun, up to its end, and the whole units after it
pub record JoinedUnits : Type 0 where
  pub rest : List ℕ
  pub units : List (List ℕ)

-- a unit more, and what is joined after it
abbrev pub with_unit : List ℕ → Result JoinedUnits JoinFault → Result JoinedUnits JoinFault
with_unit unit (Ok later) = Ok (record { rest = []; units = (unit ++ later.rest) ∷ later.units })
with_unit unit (Err fault) = Err fault

-- octets more of the unit that is begun, which go on
abbrev pub with_rest : List ℕ → Result JoinedUnits JoinFault → Result JoinedUnits JoinFault
with_rest octets (Ok later) = Ok (record { rest = octets ++ later.rest; units = later.units })
with_rest octets (Err fault) = Err fault

-- The units of pieces, while a unit of this type is begun, or none. A whole unit is one. The first fragment begins a
-- unit with its first octet, which the fragments leave out; later ones of its type go on to the one that ends it.
abbrev pub units_from : Option ℕ → List Piece → Result JoinedUnits JoinFault
units_from None [] = Ok (record { rest = []; units = [] })
units_from (Some begun) [] = Err no_end
units_from None (Whole unit ∷ later) = with_unit unit (units_from None later)
units_from (Some begun) (Whole unit ∷ later) = Err no_end
units_from None (Cut f ∷ later) =
    if begins f then with_unit (first_octet f ∷ f.octets) (units_from (Some (kind f.header)) later)
    else Err no_start
units_from (Some begun) (Cut f ∷ later) =
    if begins f then Err no_end
    else if begun == kind f.header then with_rest f.octets (units_from (if ends f then None else Some begun) later)
    else Err mixed_unit

-- the bytes of units, each after a start code
abbrev pub bytes_of : Result JoinedUnits JoinFault → Result (List ℕ) JoinFault
bytes_of (Ok joined) = Ok (joined.rest ++ flat_map after_code joined.units)
bytes_of (Err fault) = Err fault

-- what parts carry, one after another
abbrev pub pieces_of : List Part → List Piece
pieces_of parts = flat_map (λ part. pieces part.body) parts

-- H.264
abbrev pub h264 : Meaning
h264 = record { read = read_part; join = λ parts. bytes_of (units_from None (pieces_of parts)) }
