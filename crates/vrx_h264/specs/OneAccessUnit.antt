-- What holds of the pieces that parts carry, and of joining them (RFC 6184 5.6 to 5.8), as statements.
use Rattle.std.specs.Prelude.{◌≡◌, ◌↔◌, ℕ, ◌⊎◌, List, [], None, Ok, Err}
use Rattle.std.specs.List.{flat_map}
use Rattle.vrx_codec.specs.Part.{Part}
use Rattle.vrx_h264.specs.Payload.{Piece}
use Rattle.vrx_h264.specs.AccessUnit.{after_code, no_start, no_end, mixed_unit, units_from, pieces_of, h264}
use Rattle.vrx_h264.specs.IsAccessUnit.{AreUnits, LacksStart, LacksEnd, IsMixed}

-- pieces join to units exactly if they carry these, one after another
abbrev pub JoinsUnits : Type 0
JoinsUnits = (carried : List Piece) (units : List (List ℕ)) →
    (units_from None carried ≡ Ok (record { rest = []; units = units })) ↔ AreUnits carried units

-- each fault comes exactly if its reason stands after whole units
abbrev pub TellsNoStart : Type 0
TellsNoStart = (carried : List Piece) → (units_from None carried ≡ Err no_start) ↔ LacksStart carried

abbrev pub TellsNoEnd : Type 0
TellsNoEnd = (carried : List Piece) → (units_from None carried ≡ Err no_end) ↔ LacksEnd carried

abbrev pub TellsMixed : Type 0
TellsMixed = (carried : List Piece) → (units_from None carried ≡ Err mixed_unit) ↔ IsMixed carried

-- one of these holds always
abbrev pub HasOutcome : Type 0
HasOutcome = (carried : List Piece) →
    ((units : List (List ℕ)) × AreUnits carried units) ⊎ (LacksStart carried ⊎ (LacksEnd carried ⊎ IsMixed carried))

-- parts whose pieces carry units join to these, each after its start code
abbrev pub JoinsBytes : Type 0
JoinsBytes = (parts : List Part) (units : List (List ℕ)) → AreUnits (pieces_of parts) units →
    h264.join parts ≡ Ok (flat_map after_code units)
