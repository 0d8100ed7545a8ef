-- What is written for units (RFC 6184 5.7.1, 5.8).
use Rattle.std.specs.Prelude.{◌≡◌, ◌≢◌, ℕ, ◌+◌, ◌*◌, ◌/◌, ◌%◌, ◌<◌, ◌≤◌, ◌==◌, max, sum, Bool, if◌then◌else◌, List, [], ◌∷◌, length, take, drop, slice_index, map, Ok}
use Rattle.std.specs.List.{flat_map, list_any, AllByRecursion}
use Rattle.vrx_codec.specs.Octet.{bit}
use Rattle.vrx_codec.specs.Part.{Part}
use Rattle.vrx_h264.specs.declared.bits.TheConstants.{BIT_F, BIT_S, BIT_E}
use Rattle.vrx_h264.specs.declared.types.TheConstants.{STAP_A, FU_A}
use Rattle.vrx_h264.specs.Nal.{kind}
use Rattle.vrx_h264.specs.Payload.{Fragment, read_part}
use Rattle.vrx_h264.specs.IsPayload.{IsUnit, IsSizedUnit, with_size}
use Rattle.vrx_h264.specs.AccessUnit.{after_code, h264}

-- F, NRI and the type in an octet's place for them
abbrev pub header_octet : Bool → ℕ → ℕ → ℕ
header_octet f nri kind = (if f then BIT_F else 0) + nri * 32 + kind

-- F of a unit, and how important it is
abbrev pub has_f : List ℕ → Bool
has_f unit = bit BIT_F (slice_index unit 0)

abbrev pub nri : List ℕ → ℕ
nri unit = slice_index unit 0 / 32 % 4

-- F is 1 if some unit has it
abbrev pub have_f : List (List ℕ) → Bool
have_f units = list_any has_f units

-- the greatest NRI of units
abbrev pub greatest_nri : List (List ℕ) → ℕ
greatest_nri [] = 0
greatest_nri (unit ∷ units) = max (nri unit) (greatest_nri units)

-- a STAP-A of units (RFC 6184 5.7.1)
abbrev pub written_units : List (List ℕ) → List ℕ
written_units units = header_octet (have_f units) (greatest_nri units) STAP_A ∷ flat_map with_size units

-- The fragment of a unit from one of its octets on, of so many (RFC 6184 5.8). F and NRI are the unit's. It says S
-- if it begins after the unit's first octet, and E if it ends the unit; R is 0.
abbrev pub cut_at : List ℕ → ℕ → ℕ → Fragment
cut_at unit at len = record {
  indicator = slice_index unit 0 / 32 * 32 + FU_A;
  header =
      (if at == 1 then BIT_S else 0) + (if at + len == length unit then BIT_E else 0) + kind (slice_index unit 0);
  octets = take len (drop at unit);
}

-- an FU-A
abbrev pub written_cut : Fragment → List ℕ
written_cut f = f.indicator ∷ f.header ∷ f.octets

-- the fragments of a unit from a place on, one after another, of these lengths
abbrev pub cuts : List ℕ → ℕ → List ℕ → List (List ℕ)
cuts unit at [] = []
cuts unit at (len ∷ lens) = written_cut (cut_at unit at len) ∷ cuts unit (at + len) lens

-- payloads are these parts, which join to these bytes
pub record JoinTo (payloads : List (List ℕ)) (bytes : List ℕ) : Type 0 where
  pub parts : List Part
  pub read : map read_part payloads ≡ map Ok parts
  pub joined : h264.join parts ≡ Ok bytes

-- the fragments of a unit, at least two of at least one octet each and one after another to the unit's end, join to
-- the unit after its start code
abbrev pub FragmentsJoin : Type 0
FragmentsJoin = (unit lens : List ℕ) → IsUnit unit → 2 ≤ length lens → AllByRecursion (λ len. 0 < len) lens →
    1 + sum lens ≡ length unit → JoinTo (cuts unit 1 lens) (after_code unit)

-- the aggregate of units joins to the units, each after its start code
abbrev pub AggregateJoins : Type 0
AggregateJoins = (units : List (List ℕ)) → units ≢ [] → AllByRecursion IsSizedUnit units →
    JoinTo (written_units units ∷ []) (flat_map after_code units)
