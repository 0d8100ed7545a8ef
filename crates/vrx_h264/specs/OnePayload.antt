-- What holds of payloads (RFC 6184 5.6 to 5.8), as statements on octets, each below 256.
use Rattle.std.specs.Prelude.{◌≡◌, ◌≢◌, ◌↔◌, ℕ, ◌+◌, List, [], length, None, Ok, IfOk}
use Rattle.std.specs.List.{flat_map}
use Rattle.vrx_num.specs.Octets.{AreOctets}
use Rattle.vrx_h264.specs.Aggregate.{unit_fault, units_of, aggregate_fault}
use Rattle.vrx_h264.specs.Payload.{Piece, pieces, fault, part_with, read_part}
use Rattle.vrx_h264.specs.IsPayload.{IsPayload, with_size, Divides}

-- nothing is wrong with octets, and they carry this, exactly if they are a payload of this
abbrev pub CarriesSpelled : Type 0
CarriesSpelled = (payload : List ℕ) (carried : List Piece) → AreOctets payload →
    ((fault payload ≡ None) × (pieces payload ≡ carried)) ↔ IsPayload payload carried

-- the part is that of what a payload carries
abbrev pub GivesPart : Type 0
GivesPart = (payload : List ℕ) (carried : List Piece) → IsPayload payload carried →
    read_part payload ≡ Ok (part_with payload carried)

-- what is no payload is refused
abbrev pub RefusesOthers : Type 0
RefusesOthers = (payload : List ℕ) → AreOctets payload → ((carried : List Piece) → IsPayload payload carried → ⊥) →
    IfOk (read_part payload) (λ _. ⊥)

-- the octets after an aggregate's first divide into units and what begins with none
abbrev pub DividesAll : Type 0
DividesAll = (octets : List ℕ) → AreOctets octets → Divides octets (units_of octets).units (units_of octets).left

-- and in one way
abbrev pub DividesOnce : Type 0
DividesOnce = (octets left : List ℕ) (units : List (List ℕ)) → Divides octets units left →
    ((units_of octets).units ≡ units) × ((units_of octets).left ≡ left)

-- if something is left, the fault is what is wrong with its front, told after the units
abbrev pub TellsWhatIsLeft : Type 0
TellsWhatIsLeft = (octets left : List ℕ) (units : List (List ℕ)) → Divides octets units left → left ≢ [] →
    aggregate_fault octets ≡ unit_fault (1 + length (flat_map with_size units)) left
