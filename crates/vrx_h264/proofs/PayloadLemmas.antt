-- A payload has no fault exactly if its octets carry units, and they carry only those units.
use Rattle.std.proofs.Common.{◌≡◌, ◌≢◌, ℕ, zero, suc, ◌+◌, ◌-◌, ◌*◌, ◌/◌, ◌%◌, ◌<◌, ◌≤◌, inl, inr, ◌==◌, ◌&&◌, if◌then◌else◌, Bool, true, false, List, [], ◌∷◌, ◌++◌, length, map, take, drop, Option, None, Some, IfSome, IfOk, Ok, refl, sym, ap, subst, ◌∙◌, append_assoc, arith}
use Rattle.std.specs.List.{flat_map, AllByRecursion}
use Rattle.std.proofs.lemmas.Bool.Decides.{nat_tests}
use Rattle.std.proofs.lemmas.List.{length-append, length-take-le, take-append-drop, take_at, drop_at, append-nil}
use Rattle.std.proofs.lemmas.List.Concat.{flat_map-cons}
use Rattle.std.proofs.lemmas.List.Elements.{All-head, All-tail, All-drop}
use Rattle.vrx_codec.specs.declared.fault.PartFault.{PartFault}
use Rattle.vrx_num.specs.Octets.{AreOctets}
use Rattle.vrx_codec.specs.Octet.{bit}
use Rattle.vrx_h264.specs.declared.bits.TheConstants.{BIT_S, BIT_E}
use Rattle.vrx_h264.specs.declared.faults.TheConstants.{KIND, FU_BOTH}
use Rattle.vrx_h264.specs.declared.types.TheConstants.{STAP_A, FU_A}
use Rattle.vrx_h264.specs.declared.nal.Structure.{Structure}
use Rattle.vrx_h264.specs.declared.nal.Structure.TheVariants.{Single, Aggregate, Fragmented, Other}
use Rattle.vrx_h264.specs.Nal.{kind, unit_kind, is_unit_kind, structure_of}
use Rattle.vrx_h264.specs.Aggregate.{sized_fault, unit_fault, unit_if, first_unit, Units, units_with, units_within, units_of, left_fault, aggregate_fault}
use Rattle.vrx_h264.specs.AggregateLaws.{SplitsSized, first_unit_splits, units_of-some, units_of-none}
use Rattle.vrx_h264.specs.Payload.{Fragment, begins, ends, Piece, Whole, Cut, cut_of, pieces_in, pieces, cut_fault, fault_in, fault, part_with, part_if, read_part}
use Rattle.vrx_h264.specs.IsPayload.{IsUnitKind, IsUnit, IsSizedUnit, with_size, IsAggregate, IsCut, IsPayload, Divides}

-- ---- types

pub unit_kind_is : (k : ℕ) → is_unit_kind k ≡ true → IsUnitKind k
unit_kind_is k is = (grind (arith, nat_tests), grind (arith, nat_tests))

pub is-unit_kind : (k : ℕ) → IsUnitKind k → is_unit_kind k ≡ true
is-unit_kind k is = grind (arith, nat_tests, is.0, is.1)

pub structure_of-single : (k : ℕ) → IsUnitKind k → structure_of k ≡ Single
structure_of-single k is =
    ap (λ b. if b then Single else if k == STAP_A then Aggregate else if k == FU_A then Fragmented else Other)
    (is-unit_kind k is)

single_is : (k : ℕ) → structure_of k ≡ Single → IsUnitKind k
single_is k is = (grind (arith, nat_tests), grind (arith, nat_tests))

aggregate_is : (k : ℕ) → structure_of k ≡ Aggregate → k ≡ STAP_A
aggregate_is k is = grind (arith, nat_tests)

fragmented_is : (k : ℕ) → structure_of k ≡ Fragmented → k ≡ FU_A
fragmented_is k is = grind (arith, nat_tests)

-- ---- the unit at the front of an aggregate's octets

-- the first of a unit's octets
unit_of_kind : (octets : List ℕ) → IsUnitKind (unit_kind octets) → IsUnit octets
unit_of_kind [] is = absurd (omega arith)
unit_of_kind (head ∷ octets) is = is

pub kind_of_unit : (unit : List ℕ) → IsUnit unit → IsUnitKind (unit_kind unit)
kind_of_unit [] is = absurd is
kind_of_unit (head ∷ octets) is = is

unit_kind-take : (size : ℕ) (octets : List ℕ) → 0 < size → unit_kind (take size octets) ≡ unit_kind octets
unit_kind-take zero octets some = absurd (omega arith)
unit_kind-take (suc size) [] some = refl
unit_kind-take (suc size) (head ∷ octets) some = refl

pub unit_kind-append : (unit behind : List ℕ) → IsUnit unit → unit_kind (unit ++ behind) ≡ unit_kind unit
unit_kind-append [] behind is = absurd is
unit_kind-append (head ∷ octets) behind is = refl

pub unit_some : (unit : List ℕ) → IsUnit unit → 0 < length unit
unit_some [] is = absurd is
unit_some (head ∷ octets) is = omega arith

-- what no fault says of a size
record Right (size : ℕ) (octets : List ℕ) : Type 0 where
  fits : size ≤ length octets
  some : 0 < size
  unit : is_unit_kind (unit_kind octets) ≡ true

right_if : (at size : ℕ) (octets : List ℕ) → sized_fault at size octets ≡ None → Right size octets
right_if at size octets none =
    record { fits = grind (arith, nat_tests); some = grind (arith, nat_tests); unit = grind (arith, nat_tests) }

sized_fault-right : (at size : ℕ) (octets : List ℕ) → Right size octets → sized_fault at size octets ≡ None
sized_fault-right at size octets right = grind (arith, nat_tests, right.fits, right.some, right.unit)

-- the front of octets is a unit after its size
record IsFront (octets : List ℕ) (x : List ℕ × List ℕ) : Type 0 where
  spelled : octets ≡ with_size x.0 ++ x.1
  unit : IsSizedUnit x.0
  behind : AreOctets x.1

right_front : (high low size : ℕ) (octets : List ℕ) → high < 256 → low < 256 → high * 256 + low ≡ size →
    AreOctets octets → Right size octets → IsFront (high ∷ low ∷ octets) (take size octets, drop size octets)
right_front high low size octets is_high is_low sum are right =
    let long = length-take-le size octets right.fits in
    let is_first : length (take size octets) / 256 ≡ high = omega (arith, long) in
    let is_second : length (take size octets) % 256 ≡ low = omega (arith, long) in
    let some = unit_kind_is (unit_kind octets) right.unit in
    record {
      spelled = rw is_first (rw is_second (ap (λ (x : List ℕ). high ∷ low ∷ x) (sym (take-append-drop size octets))));
      unit = (
        unit_of_kind (take size octets) (subst IsUnitKind (sym (unit_kind-take size octets right.some)) some),
        omega (arith, long),
      );
      behind = All-drop (λ octet. octet < 256) size octets are;
    }

front_if : (fault : Option PartFault) (high low size : ℕ) (octets : List ℕ) → high < 256 → low < 256 →
    high * 256 + low ≡ size → AreOctets octets → (fault ≡ None → Right size octets) →
    IfSome (unit_if fault size octets) (IsFront (high ∷ low ∷ octets))
front_if (Some fault) high low size octets is_high is_low sum are right = tt
front_if None high low size octets is_high is_low sum are right =
    right_front high low size octets is_high is_low sum are (right refl)

front_is : (octets : List ℕ) → AreOctets octets → IfSome (first_unit octets) (IsFront octets)
front_is [] are = tt
front_is (high ∷ []) are = tt
front_is (high ∷ low ∷ octets) are =
    let size : ℕ = high * 256 + low in
    let behind = All-tail (λ octet. octet < 256) high (low ∷ octets) are in
    front_if (sized_fault 0 size octets) high low size octets
    (All-head (λ octet. octet < 256) high (low ∷ octets) are)
    (All-head (λ octet. octet < 256) low octets behind)
    refl
    (All-tail (λ octet. octet < 256) low octets behind)
    (right_if 0 size octets)

-- and a unit after its size is the front
unit_if-right : (fault : Option PartFault) (size : ℕ) (octets : List ℕ) → fault ≡ None →
    unit_if fault size octets ≡ Some (take size octets, drop size octets)
unit_if-right fault size octets none = rw none refl

pub first_unit-with_size : (unit behind : List ℕ) → IsSizedUnit unit →
    first_unit (with_size unit ++ behind) ≡ Some (unit, behind)
first_unit-with_size unit behind is =
    let size : ℕ = length unit / 256 * 256 + length unit % 256 in
    let long : size ≡ length unit = omega arith in
    let right : Right size (unit ++ behind) = record {
      fits = omega (arith, long, length-append unit behind);
      some = omega (arith, long, unit_some unit is.0);
      unit = ap is_unit_kind (unit_kind-append unit behind is.0)
          ∙ is-unit_kind (unit_kind unit) (kind_of_unit unit is.0);
    } in
    unit_if-right (sized_fault 0 size (unit ++ behind)) size (unit ++ behind)
    (sized_fault-right 0 size (unit ++ behind) right)
    ∙ ap (λ (x : List ℕ). Some (x, drop size (unit ++ behind))) (take_at unit behind size (sym long))
    ∙ ap (λ (x : List ℕ). Some (unit, x)) (drop_at unit behind size (sym long))

-- ---- all units

pub units_of-with_size : (units : List (List ℕ)) → AllByRecursion IsSizedUnit units →
    units_of (flat_map with_size units) ≡ record { units = units; left = [] }
units_of-with_size [] each = units_of-none [] refl
units_of-with_size (unit ∷ units) each =
    let rest = flat_map with_size units in
    ap units_of (flat_map-cons with_size unit units)
    ∙ units_of-some (with_size unit ++ rest) unit rest (sym (first_unit-with_size unit rest each.0))
    ∙ ap (λ (x : Units). let y : Units = record { units = unit ∷ x.units; left = x.left } in y)
    (units_of-with_size units each.1)

-- octets divide into their units and what is left
record Splits (octets : List ℕ) (x : Units) : Type 0 where
  spelled : octets ≡ flat_map with_size x.units ++ x.left
  each : AllByRecursion IsSizedUnit x.units

split_with : (octets : List ℕ) (o : Option (List ℕ × List ℕ)) (later : List ℕ → Units) → IfSome o (IsFront octets) →
    ((b : List ℕ) → AreOctets b → Splits b (later b)) → Splits octets (units_with octets o later)
split_with octets None later is splits = record { spelled = refl; each = tt }
split_with octets (Some (u, b)) later is splits =
    let s = splits b is.behind in
    record {
      spelled =
          is.spelled
          ∙ ap (λ (x : List ℕ). with_size u ++ x) s.spelled
          ∙ sym (append_assoc (with_size u) (flat_map with_size (later b).units) (later b).left)
          ∙ ap (λ (x : List ℕ). x ++ (later b).left) (sym (flat_map-cons with_size u (later b).units));
      each = (is.unit, s.each);
    }

splits_within : (most : ℕ) (octets : List ℕ) → AreOctets octets → Splits octets (units_within most octets)
splits_within zero octets are = record { spelled = refl; each = tt }
splits_within (suc most) octets are =
    split_with octets (first_unit octets) (units_within most) (front_is octets are)
    (λ b are. splits_within most b are)

-- what is left begins with no unit
stops_with : (octets : List ℕ) (most : ℕ) (o : Option (List ℕ × List ℕ)) (later : List ℕ → Units) →
    first_unit octets ≡ o → IfSome o (λ x. length x.1 ≤ most) →
    ((b : List ℕ) → length b ≤ most → first_unit (later b).left ≡ None) →
    first_unit (units_with octets o later).left ≡ None
stops_with octets most None later is fits stops = is
stops_with octets most (Some (u, b)) later is fits stops = stops b fits

fits_behind : (most : ℕ) (octets : List ℕ) → length octets ≤ suc most → (o : Option (List ℕ × List ℕ)) →
    IfSome o (SplitsSized (length octets)) → IfSome o (λ x. length x.1 ≤ most)
fits_behind most octets fits None is = tt
fits_behind most octets fits (Some x) is = omega (arith, is)

stops_within : (most : ℕ) (octets : List ℕ) → length octets ≤ most → first_unit (units_within most octets).left ≡ None
stops_within zero [] fits = refl
stops_within zero (o ∷ octets) fits = absurd (omega arith)
stops_within (suc most) octets fits =
    stops_with octets most (first_unit octets) (units_within most) refl
    (fits_behind most octets fits (first_unit octets) (first_unit_splits octets))
    (λ b b_fits. stops_within most b b_fits)

fault_if : (fault : Option PartFault) (size : ℕ) (octets : List ℕ) → unit_if fault size octets ≡ None → fault ≢ None
fault_if None size octets none is = absurd cc
fault_if (Some fault) size octets none is = absurd cc

first_unit-stops : (octets : List ℕ) → first_unit octets ≡ None → unit_fault 0 octets ≢ None
first_unit-stops [] none is = absurd cc
first_unit-stops (high ∷ []) none is = absurd cc
first_unit-stops (high ∷ low ∷ octets) none is =
    fault_if (sized_fault 0 (high * 256 + low) octets) (high * 256 + low) octets none is

-- the units of octets divide them
pub units-divide : (octets : List ℕ) → AreOctets octets →
    Divides octets (units_of octets).units (units_of octets).left
unfolding units_of
units-divide octets are =
    let s = splits_within (length octets) octets are in
    record {
      spelled = s.spelled;
      each = s.each;
      stops = first_unit-stops (units_of octets).left (stops_within (length octets) octets (omega arith));
    }

-- if something is wrong at one offset, it is at each
fault_anywhere : (at : ℕ) (octets : List ℕ) → unit_fault at octets ≡ None → unit_fault 0 octets ≡ None
fault_anywhere at [] none = absurd cc
fault_anywhere at (high ∷ []) none = absurd cc
fault_anywhere at (high ∷ low ∷ octets) none =
    sized_fault-right 0 (high * 256 + low) octets (right_if at (high * 256 + low) octets none)

-- an aggregate without a fault is units to its end, and there are some
record Whole_units (octets left : List ℕ) : Type 0 where
  some : octets ≢ []
  ends : left ≡ []

whole_units : (len : ℕ) (octets left : List ℕ) → (octets ≡ [] → left ≡ []) → unit_fault 0 left ≢ None →
    left_fault len octets left ≡ None → Whole_units octets left
whole_units len [] left empty stops none = absurd (stops (fault_anywhere (1 + len - length left) left none))
whole_units len (o ∷ octets) [] empty stops none = record { some = λ h. absurd cc; ends = refl }
whole_units len (o ∷ octets) (l ∷ left) empty stops none =
    absurd (stops (fault_anywhere (1 + len - suc (length left)) (l ∷ left) none))

-- ---- payloads

spelled_units : (head : ℕ) (octets : List ℕ) → kind head ≡ STAP_A → AreOctets octets → aggregate_fault octets ≡ None →
    IsAggregate (head ∷ octets) (map Whole (units_of octets).units)
spelled_units head octets says are none =
    let d = units-divide octets are in
    let w = whole_units (length octets) octets (units_of octets).left
    (λ empty. ap (λ (x : List ℕ). (units_of x).left) empty ∙ ap (λ (x : Units). x.left) (units_of-none [] refl))
    d.stops none in
    let spelled : octets ≡ flat_map with_size (units_of octets).units = d.spelled
    ∙ ap (λ (x : List ℕ). flat_map with_size (units_of octets).units ++ x) w.ends
    ∙ append-nil (flat_map with_size (units_of octets).units) in
    record {
      head = head;
      units = (units_of octets).units;
      spelled = ap (λ (x : List ℕ). head ∷ x) spelled;
      says = says;
      some = λ none. w.some (spelled ∙ ap (λ (x : List (List ℕ)). flat_map with_size x) none);
      each = d.each;
      carries = refl;
    }

both_if : (b e u : Bool) (f g : PartFault) → (if b && e then Some f else if u then None else Some g) ≡ None →
    ((b && e) ≡ false) × (u ≡ true)
both_if true true u f g none = absurd cc
both_if true false true f g none = (refl, refl)
both_if true false false f g none = absurd cc
both_if false e true f g none = (refl, refl)
both_if false e false f g none = absurd cc

spelled_cut : (head : ℕ) (octets : List ℕ) → kind head ≡ FU_A → cut_fault octets ≡ None →
    IsCut (head ∷ octets) (cut_of head octets)
spelled_cut head [] says none = absurd cc
spelled_cut head (header ∷ octets) says none =
    let parts = both_if (bit BIT_S header) (bit BIT_E header) (is_unit_kind (kind header))
    (record { code = FU_BOTH; at = 1 }) (record { code = KIND; at = 1 }) none in
    record {
      fragment = record { indicator = head; header = header; octets = octets };
      spelled = refl;
      says = says;
      of_unit = unit_kind_is (kind header) parts.1;
      not_both = parts.0;
      carries = refl;
    }

spelled_in : (f : Structure) (head : ℕ) (octets : List ℕ) → structure_of (kind head) ≡ f → AreOctets octets →
    fault_in f octets ≡ None → IsPayload (head ∷ octets) (pieces_in f head octets)
spelled_in Single head octets is are none = inl (record { unit = single_is (kind head) is; carries = refl })
spelled_in Aggregate head octets is are none =
    inr (inl (spelled_units head octets (aggregate_is (kind head) is) are none))
spelled_in Fragmented head octets is are none =
    inr (inr (spelled_cut head octets (fragmented_is (kind head) is) none))
spelled_in Other head octets is are none = absurd cc

-- what has no fault is spelled
pub payload_spelled : (payload : List ℕ) → AreOctets payload → fault payload ≡ None →
    IsPayload payload (pieces payload)
payload_spelled [] are none = absurd cc
payload_spelled (head ∷ octets) are none =
    spelled_in (structure_of (kind head)) head octets refl (All-tail (λ octet. octet < 256) head octets are) none

-- a payload that has no fault and carries this
pub record Reads (payload : List ℕ) (carried : List Piece) : Type 0 where
  pub right : fault payload ≡ None
  pub carries : pieces payload ≡ carried

reads_by : (f : Structure) (head : ℕ) (octets : List ℕ) (carried : List Piece) → structure_of (kind head) ≡ f →
    fault_in f octets ≡ None → pieces_in f head octets ≡ carried → Reads (head ∷ octets) carried
reads_by f head octets carried is none carries = record {
  right = ap (λ f. fault_in f octets) is ∙ none;
  carries = ap (λ f. pieces_in f head octets) is ∙ carries;
}

reads_single : (payload : List ℕ) → IsUnit payload → Reads payload (Whole payload ∷ [])
reads_single [] is = absurd is
reads_single (head ∷ octets) is =
    reads_by Single head octets (Whole (head ∷ octets) ∷ []) (structure_of-single (kind head) is) refl refl

some_sized : (units : List (List ℕ)) → units ≢ [] →
    left_fault (length (flat_map with_size units)) (flat_map with_size units) [] ≡ None
some_sized [] some = absurd (some refl)
some_sized (unit ∷ units) some = ap (λ (x : List ℕ). left_fault (length x) x []) (flat_map-cons with_size unit units)

pub reads_units : (head : ℕ) (units : List (List ℕ)) → kind head ≡ STAP_A → units ≢ [] →
    AllByRecursion IsSizedUnit units → Reads (head ∷ flat_map with_size units) (map Whole units)
reads_units head units says some each =
    let octets = flat_map with_size units in
    let are = units_of-with_size units each in
    reads_by Aggregate head octets (map Whole units) (ap structure_of says)
    (ap (λ (x : Units). left_fault (length octets) octets x.left) are ∙ some_sized units some)
    (ap (λ (x : Units). map Whole x.units) are)

pub reads_cut : (f : Fragment) → kind f.indicator ≡ FU_A → IsUnitKind (kind f.header) → (begins f && ends f) ≡ false →
    Reads (f.indicator ∷ f.header ∷ f.octets) (Cut f ∷ [])
reads_cut f says unit not_both =
    reads_by Fragmented f.indicator (f.header ∷ f.octets) (Cut f ∷ []) (ap structure_of says)
    (ap (λ b. if b then Some (let e : PartFault = record { code = FU_BOTH; at = 1 } in e)
    else if is_unit_kind (kind f.header) then None else Some (record { code = KIND; at = 1 })) not_both
    ∙ ap (λ b. if b then None else Some (let e : PartFault = record { code = KIND; at = 1 } in e))
    (is-unit_kind (kind f.header) unit))
    refl

reads_as : (payload octets : List ℕ) (carried found : List Piece) → payload ≡ octets → carried ≡ found →
    Reads octets found → Reads payload carried
reads_as payload octets carried found spelled carries reads =
    record { right = ap fault spelled ∙ reads.right; carries = ap pieces spelled ∙ reads.carries ∙ sym carries }

-- what is spelled is read
pub payload-reads : (payload : List ℕ) (carried : List Piece) → IsPayload payload carried → Reads payload carried
payload-reads payload carried (inl is) =
    reads_as payload payload carried (Whole payload ∷ []) refl is.carries (reads_single payload is.unit)
payload-reads payload carried (inr (inl is)) =
    reads_as payload (is.head ∷ flat_map with_size is.units) carried (map Whole is.units) is.spelled is.carries
    (reads_units is.head is.units is.says is.some is.each)
payload-reads payload carried (inr (inr is)) =
    reads_as payload (is.fragment.indicator ∷ is.fragment.header ∷ is.fragment.octets) carried
    (Cut is.fragment ∷ []) is.spelled is.carries (reads_cut is.fragment is.says is.of_unit is.not_both)

-- the part of what a payload carries
pub part-reads : (payload : List ℕ) (carried : List Piece) → Reads payload carried →
    read_part payload ≡ Ok (part_with payload carried)
part-reads payload carried reads =
    ap (part_if payload) reads.right ∙ ap (λ (x : List Piece). Ok (part_with payload x)) reads.carries

-- a payload that carries nothing isn't read
refused_if : (payload : List ℕ) (found : Option PartFault) → (found ≡ None → ⊥) →
    IfOk (part_if payload found) (λ _. ⊥)
refused_if payload None none = absurd (none refl)
refused_if payload (Some f) none = tt

pub payload-refused : (payload : List ℕ) → AreOctets payload →
    ((carried : List Piece) → IsPayload payload carried → ⊥) → IfOk (read_part payload) (λ _. ⊥)
payload-refused payload are none =
    refused_if payload (fault payload) (λ right. none (pieces payload) (payload_spelled payload are right))

-- both directions
pub carried_spelled : (payload : List ℕ) (carried : List Piece) → AreOctets payload → fault payload ≡ None →
    pieces payload ≡ carried → IsPayload payload carried
carried_spelled payload carried are right carries =
    subst (IsPayload payload) carries (payload_spelled payload are right)

-- ---- octets divide in one way

none_if : (fault : Option PartFault) (size : ℕ) (octets : List ℕ) → fault ≢ None → unit_if fault size octets ≡ None
none_if None size octets some = absurd (some refl)
none_if (Some fault) size octets some = refl

stops-first_unit : (octets : List ℕ) → unit_fault 0 octets ≢ None → first_unit octets ≡ None
stops-first_unit [] stops = refl
stops-first_unit (high ∷ []) stops = refl
stops-first_unit (high ∷ low ∷ octets) stops =
    none_if (sized_fault 0 (high * 256 + low) octets) (high * 256 + low) octets stops

units_of-divided : (left : List ℕ) (units : List (List ℕ)) → AllByRecursion IsSizedUnit units →
    unit_fault 0 left ≢ None → units_of (flat_map with_size units ++ left) ≡ record { units = units; left = left }
units_of-divided left [] each stops = units_of-none left (sym (stops-first_unit left stops))
units_of-divided left (unit ∷ units) each stops =
    let rest = flat_map with_size units ++ left in
    ap units_of (ap (λ (x : List ℕ). x ++ left) (flat_map-cons with_size unit units)
    ∙ append_assoc (with_size unit) (flat_map with_size units) left)
    ∙ units_of-some (with_size unit ++ rest) unit rest (sym (first_unit-with_size unit rest each.0))
    ∙ ap (λ (x : Units). let y : Units = record { units = unit ∷ x.units; left = x.left } in y)
    (units_of-divided left units each.1 stops)

pub divided : (octets left : List ℕ) (units : List (List ℕ)) → Divides octets units left →
    units_of octets ≡ record { units = units; left = left }
divided octets left units d = ap units_of d.spelled ∙ units_of-divided left units d.each d.stops

-- the fault of what is left
left_fault-some : (len at : ℕ) (octets left : List ℕ) → left ≢ [] → 1 + len - length left ≡ at →
    left_fault len octets left ≡ unit_fault at left
left_fault-some len at octets [] some is = absurd (some refl)
left_fault-some len at [] (l ∷ left) some is = ap (λ (n : ℕ). unit_fault n (l ∷ left)) is
left_fault-some len at (o ∷ octets) (l ∷ left) some is = ap (λ (n : ℕ). unit_fault n (l ∷ left)) is

pub fault-divided : (octets left : List ℕ) (units : List (List ℕ)) → Divides octets units left → left ≢ [] →
    aggregate_fault octets ≡ unit_fault (1 + length (flat_map with_size units)) left
fault-divided octets left units d some =
    let long = ap length d.spelled ∙ length-append (flat_map with_size units) left in
    ap (λ (x : Units). left_fault (length octets) octets x.left) (divided octets left units d)
    ∙ left_fault-some (length octets) (1 + length (flat_map with_size units)) octets left some (omega (arith, long))
