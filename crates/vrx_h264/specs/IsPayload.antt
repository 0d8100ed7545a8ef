-- The payload as a relation: which octets carry which units (RFC 6184 5.6 to 5.8).
use Rattle.std.specs.Prelude.{◌≡◌, ◌≢◌, ℕ, ◌/◌, ◌%◌, ◌<◌, ◌≤◌, ◌⊎◌, ◌&&◌, false, List, [], ◌∷◌, ◌++◌, length, map, None}
use Rattle.std.specs.List.{flat_map, AllByRecursion}
use Rattle.vrx_h264.specs.declared.types.TheConstants.{LAST_UNIT, STAP_A, FU_A}
use Rattle.vrx_h264.specs.Nal.{kind}
use Rattle.vrx_h264.specs.Aggregate.{unit_fault}
use Rattle.vrx_h264.specs.Payload.{Fragment, begins, ends, Piece, Whole, Cut}

-- a type of a unit as such is 1 to 23 (RFC 6184 5.2, table 1)
abbrev pub IsUnitKind : ℕ → Type 0
IsUnitKind kind = (0 < kind) × (kind ≤ LAST_UNIT)

-- a unit begins with an octet that says such a type
abbrev pub IsUnit : List ℕ → Type 0
IsUnit [] = ⊥
IsUnit (head ∷ octets) = IsUnitKind (kind head)

-- the payload is one unit (RFC 6184 5.6)
pub record IsSingle (payload : List ℕ) (carried : List Piece) : Type 0 where
  pub unit : IsUnit payload
  pub carries : carried ≡ Whole payload ∷ []

-- a unit of an aggregate: it fits after a size of 16 bits
abbrev pub IsSizedUnit : List ℕ → Type 0
IsSizedUnit unit = IsUnit unit × (length unit < 65536)

-- a unit after its size, the high octet first
abbrev pub with_size : List ℕ → List ℕ
with_size unit = (length unit / 256) ∷ (length unit % 256) ∷ unit

-- the payload is a STAP-A: an octet of type 24, and then one or more units, each after its size (RFC 6184 5.7.1)
pub record IsAggregate (payload : List ℕ) (carried : List Piece) : Type 0 where
  pub head : ℕ
  pub units : List (List ℕ)
  pub spelled : payload ≡ head ∷ flat_map with_size units
  pub says : kind head ≡ STAP_A
  pub some : units ≢ []
  pub each : AllByRecursion IsSizedUnit units
  pub carries : carried ≡ map Whole units

-- the payload is an FU-A: an octet of type 28, a header of the unit's type that doesn't say both S and E, and octets
-- of the unit (RFC 6184 5.8)
pub record IsCut (payload : List ℕ) (carried : List Piece) : Type 0 where
  pub fragment : Fragment
  pub spelled : payload ≡ fragment.indicator ∷ fragment.header ∷ fragment.octets
  pub says : kind fragment.indicator ≡ FU_A
  pub of_unit : IsUnitKind (kind fragment.header)
  pub not_both : (begins fragment && ends fragment) ≡ false
  pub carries : carried ≡ Cut fragment ∷ []

abbrev pub IsPayload : List ℕ → List Piece → Type 0
IsPayload payload carried = IsSingle payload carried ⊎ IsAggregate payload carried ⊎ IsCut payload carried

-- how the octets after an aggregate's first divide: into units, each after its size, and octets that begin with
-- none
pub record Divides (octets : List ℕ) (units : List (List ℕ)) (left : List ℕ) : Type 0 where
  pub spelled : octets ≡ flat_map with_size units ++ left
  pub each : AllByRecursion IsSizedUnit units
  pub stops : unit_fault 0 left ≢ None
