-- The units of an access unit as a relation: which pieces carry which units, one unit after another (RFC 6184 5.6 to
-- 5.8), and what stands if pieces carry none.
use Rattle.std.specs.Prelude.{◌≡◌, ◌≢◌, ℕ, Bool, true, false, List, [], ◌∷◌, ◌++◌, map, ◌⊎◌}
use Rattle.std.specs.List.{flat_map, AllByRecursion}
use Rattle.vrx_h264.specs.Nal.{kind}
use Rattle.vrx_h264.specs.Payload.{Fragment, begins, ends, first_octet, Piece, Whole, Cut, begins_unit}

-- a fragment of a unit of this type that doesn't begin it, and whether it ends it
pub record IsLater (type : ℕ) (end : Bool) (f : Fragment) : Type 0 where
  pub later : begins f ≡ false
  pub same : type ≡ kind f.header
  pub ended : ends f ≡ end

-- a unit is begun: the fragment that begins it, and some that neither begin nor end it
pub record IsBegun (carried : List Piece) (first : Fragment) (inner : List Fragment) : Type 0 where
  pub spelled : carried ≡ map Cut (first ∷ inner)
  pub begun : begins first ≡ true
  pub inside : AllByRecursion (IsLater (kind first.header) false) inner

-- a unit in fragments (RFC 6184 5.8): one that begins it, some inside, and one that ends it. After its first octet
-- are theirs
pub record IsCutUp (carried : List Piece) (unit : List ℕ) : Type 0 where
  pub front : List Piece
  pub first : Fragment
  pub inner : List Fragment
  pub last : Fragment
  pub is_begun : IsBegun front first inner
  pub spelled : carried ≡ front ++ Cut last ∷ []
  pub ended : IsLater (kind first.header) true last
  pub rebuilt : unit ≡ first_octet first ∷ (first.octets ++ (flat_map (λ f. f.octets) inner ++ last.octets))

-- the pieces carry one unit: it is whole, or cut up
abbrev pub Carry : List Piece → List ℕ → Type 0
Carry carried unit = (carried ≡ Whole unit ∷ []) ⊎ IsCutUp carried unit

-- the pieces carry these units, one after another
abbrev pub AreUnits : List Piece → List (List ℕ) → Type 0
AreUnits carried [] = carried ≡ []
AreUnits carried (unit ∷ units) =
    (front behind : List Piece) × (carried ≡ front ++ behind) × Carry front unit × AreUnits behind units

-- after whole units a fragment comes that doesn't begin one
pub record LacksStart (carried : List Piece) : Type 0 where
  pub units : List (List ℕ)
  pub before : List Piece
  pub fragment : Fragment
  pub behind : List Piece
  pub spelled : carried ≡ before ++ Cut fragment ∷ behind
  pub are : AreUnits before units
  pub later : begins fragment ≡ false

-- nothing comes, or what begins a unit
abbrev pub NoLater : List Piece → Type 0
NoLater [] = Unit {0}
NoLater (piece ∷ behind) = begins_unit piece ≡ true

-- after whole units one is begun, and what comes then isn't a later fragment
pub record LacksEnd (carried : List Piece) : Type 0 where
  pub units : List (List ℕ)
  pub before : List Piece
  pub begun : List Piece
  pub first : Fragment
  pub inner : List Fragment
  pub behind : List Piece
  pub spelled : carried ≡ before ++ (begun ++ behind)
  pub are : AreUnits before units
  pub is_begun : IsBegun begun first inner
  pub none : NoLater behind

-- after whole units one is begun, and then a later fragment of another type comes
pub record IsMixed (carried : List Piece) : Type 0 where
  pub units : List (List ℕ)
  pub before : List Piece
  pub begun : List Piece
  pub first : Fragment
  pub inner : List Fragment
  pub fragment : Fragment
  pub behind : List Piece
  pub spelled : carried ≡ before ++ (begun ++ Cut fragment ∷ behind)
  pub are : AreUnits before units
  pub is_begun : IsBegun begun first inner
  pub later : begins fragment ≡ false
  pub other : kind first.header ≢ kind fragment.header
