-- How H.264's parts join, one after the other.
use Rattle.std.specs.Prelude.{ℕ, ◌+◌, ◌==◌, if◌then◌else◌, List, [], ◌∷◌, length, Option, None, Some, Result, Ok, Err}
use Rattle.std.specs.List.{flat_map}
use Rattle.vrx_codec.specs.Joining.{Joining}
use Rattle.vrx_codec.specs.declared.fault.JoinFault.{JoinFault}
use Rattle.vrx_codec.specs.declared.join.Join.{Join}
use Rattle.vrx_h264.specs.Nal.{kind}
use Rattle.vrx_h264.specs.Payload.{begins, ends, first_octet, Piece, Whole, Cut, pieces}
use Rattle.vrx_h264.specs.AccessUnit.{after_code, no_start, no_end, mixed_unit}

-- the first octet of the unit that is begun after a piece, if one is: from that before the piece
abbrev pub begun_after : Option ℕ → Piece → Result (Option ℕ) JoinFault
begun_after None (Whole unit) = Ok None
begun_after (Some begun) (Whole unit) = Err no_end
begun_after None (Cut f) = if begins f then Ok (Some (first_octet f)) else Err no_start
begun_after (Some begun) (Cut f) =
    if begins f then Err no_end
    else if kind begun == kind f.header then Ok (if ends f then None else Some begun)
    else Err mixed_unit

-- what comes next, if there was no fault
abbrev pub begun_then : Result (Option ℕ) JoinFault → (Option ℕ → Result (Option ℕ) JoinFault) →
    Result (Option ℕ) JoinFault
begun_then (Ok begun) next = next begun
begun_then (Err fault) next = Err fault

-- the same after pieces
abbrev pub begun_after_all : Option ℕ → List Piece → Result (Option ℕ) JoinFault
begun_after_all begun [] = Ok begun
begun_after_all begun (piece ∷ later) = begun_then (begun_after begun piece) (λ next. begun_after_all next later)

-- the octets that a piece adds: its unit after a start code, or the octets of a fragment
abbrev pub piece_octets : Piece → List ℕ
piece_octets (Whole unit) = after_code unit
piece_octets (Cut f) = if begins f then after_code (first_octet f ∷ f.octets) else f.octets

abbrev pub added_octets : List ℕ → List ℕ
added_octets payload = flat_map piece_octets (pieces payload)

-- the state with so many octets, if there was no fault
abbrev pub state_with : ℕ → Result (Option ℕ) JoinFault → Result Join JoinFault
state_with octets (Ok begun) = Ok (record { unit = begun; octets = octets })
state_with octets (Err fault) = Err fault

-- no unit is begun at the end
abbrev pub end_of : Option ℕ → ℕ → Result ℕ JoinFault
end_of None octets = Ok octets
end_of (Some begun) octets = Err no_end

abbrev pub joining : Joining
joining = record {
  step = λ state part. state_with (state.octets + length (added_octets part.body))
      (begun_after_all state.unit (pieces part.body));
  end = λ state. end_of state.unit state.octets;
  adds = λ state part. added_octets part.body;
}
