-- What the unit at the front of an aggregate says of all its units.
use Rattle.std.proofs.Common.{◌≡◌, ◌≢◌, true, false, ◌||◌, List, [], ◌∷◌, ◌++◌, map, Option, None, Some, Ok, ℕ, refl, ap, ◌∙◌}
use Rattle.std.specs.List.{flat_map}
use Rattle.std.proofs.lemmas.Bool.{eq-eqb, ne_eqb}
use Rattle.std.proofs.lemmas.List.Concat.{flat_map-cons}
use Rattle.vrx_h264.specs.declared.types.TheConstants.{IDR}
use Rattle.vrx_h264.specs.Nal.{unit_kind, is_sequence}
use Rattle.vrx_h264.specs.Aggregate.{Units, first_unit, units_of}
use Rattle.vrx_h264.specs.AggregateLaws.{units_of-some, units_of-none}
use Rattle.vrx_h264.specs.Payload.{Whole, hold_idr, begin_sequence}
use Rattle.vrx_h264.specs.AccessUnit.{after_code}
use Rattle.vrx_h264.specs.Joining.{begun_after, begun_after_all, piece_octets}

-- an IDR slice settles it
pub idr_at : (unit : List ℕ) (later : List (List ℕ)) → unit_kind unit ≡ IDR →
    hold_idr (map Whole (unit ∷ later)) ≡ true
idr_at unit later is = ap (λ b. b || hold_idr (map Whole later)) (eq-eqb (unit_kind unit) IDR is)

-- another unit leaves it to those after it
pub not_idr_at : (unit : List ℕ) (later : List (List ℕ)) → unit_kind unit ≢ IDR →
    hold_idr (map Whole (unit ∷ later)) ≡ hold_idr (map Whole later)
not_idr_at unit later is = ap (λ b. b || hold_idr (map Whole later)) (ne_eqb (unit_kind unit) IDR is)

-- the first unit says whether the aggregate begins with a sequence parameter set
pub begin-some : (octets u b : List ℕ) → Some (u, b) ≡ first_unit octets →
    begin_sequence (map Whole (units_of octets).units) ≡ is_sequence (unit_kind u)
begin-some octets u b some = ap (λ (x : Units). begin_sequence (map Whole x.units)) (units_of-some octets u b some)

pub begin-none : (octets : List ℕ) → None ≡ first_unit octets →
    begin_sequence (map Whole (units_of octets).units) ≡ false
begin-none octets none = ap (λ (x : Units). begin_sequence (map Whole x.units)) (units_of-none octets none)

-- the unit at the front is added first
pub added-some : (octets u b : List ℕ) → Some (u, b) ≡ first_unit octets →
    flat_map piece_octets (map Whole (units_of octets).units) ≡ after_code u ++ flat_map piece_octets
    (map Whole (units_of b).units)
added-some octets u b some =
    ap (λ (x : Units). flat_map piece_octets (map Whole x.units)) (units_of-some octets u b some)
    ∙ flat_map-cons piece_octets (Whole u) (map Whole (units_of b).units)

pub added-none : (octets : List ℕ) → None ≡ first_unit octets →
    flat_map piece_octets (map Whole (units_of octets).units) ≡ []
added-none octets none = ap (λ (x : Units). flat_map piece_octets (map Whole x.units)) (units_of-none octets none)

-- whole units join if no unit is begun, and leave none begun
wholes-none : (units : List (List ℕ)) → begun_after_all None (map Whole units) ≡ Ok None
wholes-none [] = refl
wholes-none (unit ∷ units) = wholes-none units

first_whole : (begun : Option ℕ) (unit : List ℕ) (units : List (List ℕ)) →
    begun_after_all begun (map Whole (unit ∷ units)) ≡ begun_after begun (Whole unit)
first_whole None unit units = wholes-none units
first_whole (Some begun) unit units = refl

pub begun-some : (begun : Option ℕ) (octets u b : List ℕ) → Some (u, b) ≡ first_unit octets →
    begun_after_all begun (map Whole (units_of octets).units) ≡ begun_after begun (Whole u)
begun-some begun octets u b some =
    ap (λ (x : Units). begun_after_all begun (map Whole x.units)) (units_of-some octets u b some)
    ∙ first_whole begun u (units_of b).units

pub begun-none : (begun : Option ℕ) (octets : List ℕ) → None ≡ first_unit octets →
    begun_after_all begun (map Whole (units_of octets).units) ≡ Ok begun
begun-none begun octets none =
    ap (λ (x : Units). begun_after_all begun (map Whole x.units)) (units_of-none octets none)
