-- Pieces join exactly if they carry units one after another, and each fault comes if they don't.
use Rattle.std.proofs.Common.{◌≡◌, ◌≢◌, ℕ, ◌==◌, if◌then◌else◌, Bool, true, false, ◌⊎◌, inl, inr, List, [], ◌∷◌, ◌++◌, map, Option, None, Some, Result, Ok, Err, refl, sym, ap, ◌∙◌, append_assoc, subst, arith}
use Rattle.std.specs.List.{flat_map, AllByRecursion}
use Rattle.std.proofs.lemmas.Bool.{eq-eqb, ne_eqb, cases_Bool, cases_eq}
use Rattle.std.proofs.lemmas.List.{append-nil, map-append}
use Rattle.std.proofs.lemmas.List.Concat.{flat_map-cons}
use Rattle.vrx_codec.specs.declared.fault.JoinFault.{JoinFault}
use Rattle.vrx_h264.specs.Nal.{kind}
use Rattle.vrx_h264.specs.Payload.{Fragment, begins, ends, first_octet, Piece, Whole, Cut}
use Rattle.vrx_h264.specs.AccessUnit.{no_start, no_end, mixed_unit, JoinedUnits, with_unit, with_rest, units_from}
use Rattle.vrx_h264.specs.IsAccessUnit.{IsLater, IsBegun, IsCutUp, Carry, AreUnits, LacksStart, NoLater, LacksEnd, IsMixed}

-- units more, and what is joined after them
abbrev with_units : List (List ℕ) → Result JoinedUnits JoinFault → Result JoinedUnits JoinFault
with_units [] later = later
with_units (unit ∷ units) later = with_unit unit (with_units units later)

with_rest-with_rest : (a b : List ℕ) (r : Result JoinedUnits JoinFault) →
    with_rest a (with_rest b r) ≡ with_rest (a ++ b) r
with_rest-with_rest a b (Ok j) =
    ap (λ (x : List ℕ). Ok (let k : JoinedUnits = record { rest = x; units = j.units } in k))
    (sym (append_assoc a b j.rest))
with_rest-with_rest a b (Err e) = refl

with_unit-with_rest : (a b : List ℕ) (r : Result JoinedUnits JoinFault) →
    with_unit a (with_rest b r) ≡ with_unit (a ++ b) r
with_unit-with_rest a b (Ok j) =
    ap (λ (x : List ℕ). Ok (let k : JoinedUnits = record { rest = []; units = x ∷ j.units } in k))
    (sym (append_assoc a b j.rest))
with_unit-with_rest a b (Err e) = refl

with_rest-nil : (r : Result JoinedUnits JoinFault) → with_rest [] r ≡ r
with_rest-nil (Ok j) = refl
with_rest-nil (Err e) = refl

-- ---- from the relation to what joins

begin_unit : (f : Fragment) (later : List Piece) → begins f ≡ true →
    units_from None (Cut f ∷ later) ≡ with_unit (first_octet f ∷ f.octets) (units_from (Some (kind f.header)) later)
begin_unit f later is = ap
    (λ b. if b then with_unit (first_octet f ∷ f.octets) (units_from (Some (kind f.header)) later) else Err no_start)
    is

go_on : (type : ℕ) (end : Bool) (f : Fragment) (later : List Piece) → IsLater type end f →
    units_from (Some type) (Cut f ∷ later) ≡ with_rest f.octets (units_from (if end then None else Some type) later)
go_on type end f later is =
    ap (λ b. if b then Err no_end else if type == kind f.header
    then with_rest f.octets (units_from (if ends f then None else Some type) later) else Err mixed_unit) is.later
    ∙ ap (λ b. if b then with_rest f.octets (units_from (if ends f then None else Some type) later)
    else Err mixed_unit) (eq-eqb type (kind f.header) is.same)
    ∙ ap (λ b. with_rest f.octets (units_from (if b then None else Some type) later)) is.ended

inside_unit : (type : ℕ) (inner : List Fragment) (later : List Piece) → AllByRecursion (IsLater type false) inner →
    units_from (Some type) (map Cut inner ++ later) ≡ with_rest (flat_map (λ f. f.octets) inner)
    (units_from (Some type) later)
inside_unit type [] later each = sym (with_rest-nil (units_from (Some type) later))
inside_unit type (f ∷ inner) later each =
    go_on type false f (map Cut inner ++ later) each.0
    ∙ ap (with_rest f.octets) (inside_unit type inner later each.1)
    ∙ with_rest-with_rest f.octets (flat_map (λ f. f.octets) inner) (units_from (Some type) later)
    ∙ ap (λ (x : List ℕ). with_rest x (units_from (Some type) later))
    (sym (flat_map-cons (λ (f : Fragment). f.octets) f inner))

begun_unit : (carried later : List Piece) (first : Fragment) (inner : List Fragment) → IsBegun carried first inner →
    units_from None (carried ++ later) ≡ with_unit
    ((first_octet first ∷ first.octets) ++ flat_map (λ f. f.octets) inner)
    (units_from (Some (kind first.header)) later)
begun_unit carried later first inner is =
    ap (λ (x : List Piece). units_from None (x ++ later)) is.spelled
    ∙ begin_unit first (map Cut inner ++ later) is.begun
    ∙ ap (with_unit (first_octet first ∷ first.octets)) (inside_unit (kind first.header) inner later is.inside)
    ∙ with_unit-with_rest (first_octet first ∷ first.octets) (flat_map (λ f. f.octets) inner)
    (units_from (Some (kind first.header)) later)

cut_up : (carried later : List Piece) (unit : List ℕ) → IsCutUp carried unit →
    units_from None (carried ++ later) ≡ with_unit unit (units_from None later)
cut_up carried later unit is =
    let so_far : List ℕ = (first_octet is.first ∷ is.first.octets) ++ flat_map (λ f. f.octets) is.inner in
    ap (λ (x : List Piece). units_from None (x ++ later)) is.spelled
    ∙ ap (units_from None) (append_assoc is.front (Cut is.last ∷ []) later)
    ∙ begun_unit is.front (Cut is.last ∷ later) is.first is.inner is.is_begun
    ∙ ap (with_unit so_far) (go_on (kind is.first.header) true is.last later is.ended)
    ∙ with_unit-with_rest so_far is.last.octets (units_from None later)
    ∙ ap (λ (x : List ℕ). with_unit x (units_from None later))
    (ap (λ (x : List ℕ). first_octet is.first ∷ x)
    (append_assoc is.first.octets (flat_map (λ f. f.octets) is.inner) is.last.octets) ∙ sym is.rebuilt)

one_unit : (carried later : List Piece) (unit : List ℕ) → Carry carried unit →
    units_from None (carried ++ later) ≡ with_unit unit (units_from None later)
one_unit carried later unit (inl whole) = ap (λ (x : List Piece). units_from None (x ++ later)) whole
one_unit carried later unit (inr is) = cut_up carried later unit is

all_units : (carried later : List Piece) (units : List (List ℕ)) → AreUnits carried units →
    units_from None (carried ++ later) ≡ with_units units (units_from None later)
all_units carried later [] are = ap (λ (x : List Piece). units_from None (x ++ later)) are
all_units carried later (unit ∷ units) are =
    ap (λ (x : List Piece). units_from None (x ++ later)) are.2
    ∙ ap (units_from None) (append_assoc are.0 are.1 later)
    ∙ one_unit are.0 (are.1 ++ later) unit are.3
    ∙ ap (with_unit unit) (all_units are.1 later units are.4)

units-ok : (units : List (List ℕ)) →
    with_units units (Ok (record { rest = []; units = [] })) ≡ Ok (record { rest = []; units = units })
units-ok [] = refl
units-ok (unit ∷ units) = ap (with_unit unit) (units-ok units)
    ∙ ap (λ (x : List ℕ). Ok (let j : JoinedUnits = record { rest = []; units = x ∷ units } in j)) (append-nil unit)

units-err : (units : List (List ℕ)) (e : JoinFault) → with_units units (Err e) ≡ Err e
units-err [] e = refl
units-err (unit ∷ units) e = ap (with_unit unit) (units-err units e)

pub are-joined : (carried : List Piece) (units : List (List ℕ)) → AreUnits carried units →
    units_from None carried ≡ Ok (record { rest = []; units = units })
are-joined carried units are =
    ap (units_from None) (sym (append-nil carried)) ∙ all_units carried [] units are ∙ units-ok units

pub lacks_start-fails : (carried : List Piece) → LacksStart carried → units_from None carried ≡ Err no_start
lacks_start-fails carried is =
    ap (units_from None) is.spelled ∙ all_units is.before (Cut is.fragment ∷ is.behind) is.units is.are
    ∙ ap (λ b. with_units is.units
    (if b then with_unit (first_octet is.fragment ∷ is.fragment.octets)
    (units_from (Some (kind is.fragment.header)) is.behind) else Err no_start)) is.later
    ∙ units-err is.units no_start

no_later : (type : ℕ) (behind : List Piece) → NoLater behind → units_from (Some type) behind ≡ Err no_end
no_later type [] none = refl
no_later type (Whole unit ∷ behind) none = refl
no_later type (Cut f ∷ behind) none =
    ap (λ b. if b then Err no_end else if type == kind f.header
    then with_rest f.octets (units_from (if ends f then None else Some type) behind) else Err mixed_unit) none

other_type : (type : ℕ) (f : Fragment) (behind : List Piece) → begins f ≡ false → type ≢ kind f.header →
    units_from (Some type) (Cut f ∷ behind) ≡ Err mixed_unit
other_type type f behind later other =
    ap (λ b. if b then Err no_end else if type == kind f.header
    then with_rest f.octets (units_from (if ends f then None else Some type) behind) else Err mixed_unit) later
    ∙ ap (λ b. if b then with_rest f.octets (units_from (if ends f then None else Some type) behind)
    else Err mixed_unit) (ne_eqb type (kind f.header) other)

begun_fails : (units : List (List ℕ)) (before begun behind : List Piece) (first : Fragment) (inner : List Fragment)
    (e : JoinFault) → AreUnits before units → IsBegun begun first inner →
    units_from (Some (kind first.header)) behind ≡ Err e → units_from None (before ++ (begun ++ behind)) ≡ Err e
begun_fails units before begun behind first inner e are is_begun fails =
    all_units before (begun ++ behind) units are
    ∙ ap (with_units units) (begun_unit begun behind first inner is_begun
    ∙ ap (with_unit ((first_octet first ∷ first.octets) ++ flat_map (λ f. f.octets) inner)) fails)
    ∙ units-err units e

pub lacks_end-fails : (carried : List Piece) → LacksEnd carried → units_from None carried ≡ Err no_end
lacks_end-fails carried is = ap (units_from None) is.spelled
    ∙ begun_fails is.units is.before is.begun is.behind is.first is.inner no_end is.are is.is_begun
    (no_later (kind is.first.header) is.behind is.none)

pub mixed_unit-fails : (carried : List Piece) → IsMixed carried → units_from None carried ≡ Err mixed_unit
mixed_unit-fails carried is = ap (units_from None) is.spelled
    ∙ begun_fails is.units is.before is.begun
    (Cut is.fragment ∷ is.behind) is.first is.inner mixed_unit is.are is.is_begun
    (other_type (kind is.first.header) is.fragment is.behind is.later is.other)

-- ---- one of them holds

data Outcome (carried : List Piece) : Type 0 where
  Joins : (units : List (List ℕ)) → AreUnits carried units → Outcome carried
  Starts_late : LacksStart carried → Outcome carried
  Ends_late : LacksEnd carried → Outcome carried
  Mixes : IsMixed carried → Outcome carried

-- a unit before what is there
with_front : (carried front behind : List Piece) (unit : List ℕ) → carried ≡ front ++ behind → Carry front unit →
    Outcome behind → Outcome carried
with_front carried front behind unit spelled is (Joins units are) =
    Joins (unit ∷ units) (front, behind, spelled, is, are)
with_front carried front behind unit spelled is (Starts_late h) = Starts_late (record {
  units = unit ∷ h.units;
  before = front ++ h.before;
  fragment = h.fragment;
  behind = h.behind;
  spelled = spelled ∙ ap (λ (x : List Piece). front ++ x) h.spelled
      ∙ sym (append_assoc front h.before (Cut h.fragment ∷ h.behind));
  are = (front, h.before, refl, is, h.are);
  later = h.later;
})
with_front carried front behind unit spelled is (Ends_late h) = Ends_late (record {
  units = unit ∷ h.units;
  before = front ++ h.before;
  begun = h.begun;
  first = h.first;
  inner = h.inner;
  behind = h.behind;
  spelled = spelled ∙ ap (λ (x : List Piece). front ++ x) h.spelled
      ∙ sym (append_assoc front h.before (h.begun ++ h.behind));
  are = (front, h.before, refl, is, h.are);
  is_begun = h.is_begun;
  none = h.none;
})
with_front carried front behind unit spelled is (Mixes h) = Mixes (record {
  units = unit ∷ h.units;
  before = front ++ h.before;
  begun = h.begun;
  first = h.first;
  inner = h.inner;
  fragment = h.fragment;
  behind = h.behind;
  spelled = spelled ∙ ap (λ (x : List Piece). front ++ x) h.spelled
      ∙ sym (append_assoc front h.before (h.begun ++ Cut h.fragment ∷ h.behind));
  are = (front, h.before, refl, is, h.are);
  is_begun = h.is_begun;
  later = h.later;
  other = h.other;
})

-- one more fragment inside
all_and_one : (P : Fragment → Type 0) (inner : List Fragment) (f : Fragment) → AllByRecursion P inner → P f →
    AllByRecursion P (inner ++ f ∷ [])
all_and_one P [] f each is = (is, tt)
all_and_one P (g ∷ inner) f each is = (each.0, all_and_one P inner f each.1 is)

begun_further : (begun : List Piece) (first : Fragment) (inner : List Fragment) (f : Fragment) →
    IsBegun begun first inner → IsLater (kind first.header) false f →
    IsBegun (begun ++ Cut f ∷ []) first (inner ++ f ∷ [])
begun_further begun first inner f is later = record {
  spelled = ap (λ (x : List Piece). x ++ Cut f ∷ []) is.spelled
      ∙ ap (λ (x : List Piece). Cut first ∷ x) (sym (map-append Cut inner (f ∷ [])));
  begun = is.begun;
  inside = all_and_one (IsLater (kind first.header) false) inner f is.inside later;
}

-- what pieces are, after those that begin a unit if there are some
abbrev Begun : Type 0
Begun = Option (Fragment × List Fragment)

abbrev Before : Begun → List Piece → Type 0
Before None before = before ≡ []
Before (Some b) before = IsBegun before b.0 b.1

same_before : (carried before later : List Piece) → before ≡ [] → carried ≡ before ++ later → carried ≡ later
same_before carried before later none spelled = spelled ∙ ap (λ (x : List Piece). x ++ later) none

one_more : (carried before later : List Piece) (piece : Piece) → carried ≡ before ++ piece ∷ later →
    carried ≡ (before ++ piece ∷ []) ++ later
one_more carried before later piece spelled = spelled ∙ sym (append_assoc before (piece ∷ []) later)

ends_late : (carried begun behind : List Piece) (first : Fragment) (inner : List Fragment) →
    IsBegun begun first inner → carried ≡ begun ++ behind → NoLater behind → Outcome carried
ends_late carried begun behind first inner is spelled none =
    Ends_late (record {
      units = [];
      before = [];
      begun = begun;
      first = first;
      inner = inner;
      behind = behind;
      spelled = spelled;
      are = refl;
      is_begun = is;
      none = none;
    })

mixes : (carried begun behind : List Piece) (first : Fragment) (inner : List Fragment) (f : Fragment) →
    IsBegun begun first inner → carried ≡ begun ++ Cut f ∷ behind → begins f ≡ false →
    kind first.header ≢ kind f.header → Outcome carried
mixes carried begun behind first inner f is spelled later other =
    Mixes (record {
      units = [];
      before = [];
      begun = begun;
      first = first;
      inner = inner;
      fragment = f;
      behind = behind;
      spelled = spelled;
      are = refl;
      is_begun = is;
      later = later;
      other = other;
    })

cut_unit : (begun : List Piece) (first : Fragment) (inner : List Fragment) (f : Fragment) →
    IsBegun begun first inner → IsLater (kind first.header) true f →
    IsCutUp (begun ++ Cut f ∷ []) (first_octet first ∷ (first.octets ++ (flat_map (λ f. f.octets) inner ++ f.octets)))
cut_unit begun first inner f is ended =
    record {
      front = begun;
      first = first;
      inner = inner;
      last = f;
      is_begun = is;
      spelled = refl;
      ended = ended;
      rebuilt = refl;
    }

first_begun : (f : Fragment) → begins f ≡ true → IsBegun (Cut f ∷ []) f []
first_begun f is = record { spelled = refl; begun = is; inside = tt }

outcome : (later before carried : List Piece) (b : Begun) → Before b before → carried ≡ before ++ later →
    Outcome carried
outcome [] before carried None is spelled = Joins [] (same_before carried before [] is spelled)
outcome [] before carried (Some b) is spelled = ends_late carried before [] b.0 b.1 is spelled tt
outcome (Whole unit ∷ later) before carried None is spelled =
    with_front carried (Whole unit ∷ []) later unit (same_before carried before (Whole unit ∷ later) is spelled)
    (inl refl) (outcome later [] later None refl refl)
outcome (Whole unit ∷ later) before carried (Some b) is spelled =
    ends_late carried before (Whole unit ∷ later) b.0 b.1 is spelled refl
outcome (Cut f ∷ later) before carried None is spelled =
    let whole = same_before carried before (Cut f ∷ later) is spelled in
    elim (cases_Bool (begins f)) [
      | inl begun ↦ outcome later (Cut f ∷ []) carried (Some (f, [])) (first_begun f begun) whole
      | inr inside ↦ Starts_late
          (record {
            units = [];
            before = [];
            fragment = f;
            behind = later;
            spelled = whole;
            are = refl;
            later = inside;
          })
    ]
outcome (Cut f ∷ later) before carried (Some b) is spelled =
    elim (cases_Bool (begins f)) [
      | inl begun ↦ ends_late carried before (Cut f ∷ later) b.0 b.1 is spelled begun
      | inr inside ↦ elim (cases_eq (kind b.0.header) (kind f.header)) [
        | inr other ↦ mixes carried before later b.0 b.1 f is spelled inside other
        | inl same ↦ elim (cases_Bool (ends f)) [
          | inl end ↦ with_front carried (before ++ Cut f ∷ []) later
              (first_octet b.0 ∷ (b.0.octets ++ (flat_map (λ f. f.octets) b.1 ++ f.octets)))
              (one_more carried before later (Cut f) spelled)
              (inr (cut_unit before b.0 b.1 f is (record { later = inside; same = same; ended = end })))
              (outcome later [] later None refl refl)
          | inr goes_on ↦ outcome later (before ++ Cut f ∷ []) carried (Some (b.0, b.1 ++ f ∷ []))
              (begun_further before b.0 b.1 f is (record { later = inside; same = same; ended = goes_on }))
              (one_more carried before later (Cut f) spelled)
        ]
      ]
    ]

outcome_of : (carried : List Piece) → Outcome carried
outcome_of carried = outcome carried [] carried None refl refl

-- ---- from what joins to the relation

abbrev units_in : Result JoinedUnits JoinFault → List (List ℕ)
units_in (Ok j) = j.units
units_in (Err e) = []

ok_units : (a b : List (List ℕ)) →
    ◌≡◌ {A = Result JoinedUnits JoinFault} (Ok (record { rest = []; units = a }))
    (Ok (record { rest = []; units = b })) → a ≡ b
ok_units a b same = ap units_in same

err_ok : (e : JoinFault) (j : JoinedUnits) → ◌≡◌ {A = Result JoinedUnits JoinFault} (Err e) (Ok j) → ⊥
err_ok e j same = absurd cc

err_err : (d e : JoinFault) → ◌≡◌ {A = Result JoinedUnits JoinFault} (Err d) (Err e) → d.code ≡ e.code
err_err d e same = cc

joined_if : (carried : List Piece) (units : List (List ℕ)) →
    units_from None carried ≡ Ok (record { rest = []; units = units }) → Outcome carried → AreUnits carried units
joined_if carried units ok (Joins found are) =
    subst (AreUnits carried) (ok_units found units (sym (are-joined carried found are) ∙ ok)) are
joined_if carried units ok (Starts_late h) = absurd (err_ok no_start _ (sym (lacks_start-fails carried h) ∙ ok))
joined_if carried units ok (Ends_late h) = absurd (err_ok no_end _ (sym (lacks_end-fails carried h) ∙ ok))
joined_if carried units ok (Mixes h) = absurd (err_ok mixed_unit _ (sym (mixed_unit-fails carried h) ∙ ok))

pub joined-are : (carried : List Piece) (units : List (List ℕ)) →
    units_from None carried ≡ Ok (record { rest = []; units = units }) → AreUnits carried units
joined-are carried units ok = joined_if carried units ok (outcome_of carried)

start_if : (carried : List Piece) → units_from None carried ≡ Err no_start → Outcome carried → LacksStart carried
start_if carried err (Joins units are) = absurd (err_ok no_start _ (sym err ∙ are-joined carried units are))
start_if carried err (Starts_late h) = h
start_if carried err (Ends_late h) =
    absurd (let e = err_err no_end no_start (sym (lacks_end-fails carried h) ∙ err) in omega (arith, e))
start_if carried err (Mixes h) =
    absurd (let e = err_err mixed_unit no_start (sym (mixed_unit-fails carried h) ∙ err) in omega (arith, e))

pub fails-lacks_start : (carried : List Piece) → units_from None carried ≡ Err no_start → LacksStart carried
fails-lacks_start carried err = start_if carried err (outcome_of carried)

end_if : (carried : List Piece) → units_from None carried ≡ Err no_end → Outcome carried → LacksEnd carried
end_if carried err (Joins units are) = absurd (err_ok no_end _ (sym err ∙ are-joined carried units are))
end_if carried err (Starts_late h) =
    absurd (let e = err_err no_start no_end (sym (lacks_start-fails carried h) ∙ err) in omega (arith, e))
end_if carried err (Ends_late h) = h
end_if carried err (Mixes h) =
    absurd (let e = err_err mixed_unit no_end (sym (mixed_unit-fails carried h) ∙ err) in omega (arith, e))

pub fails-lacks_end : (carried : List Piece) → units_from None carried ≡ Err no_end → LacksEnd carried
fails-lacks_end carried err = end_if carried err (outcome_of carried)

mixed_if : (carried : List Piece) → units_from None carried ≡ Err mixed_unit → Outcome carried → IsMixed carried
mixed_if carried err (Joins units are) = absurd (err_ok mixed_unit _ (sym err ∙ are-joined carried units are))
mixed_if carried err (Starts_late h) =
    absurd (let e = err_err no_start mixed_unit (sym (lacks_start-fails carried h) ∙ err) in omega (arith, e))
mixed_if carried err (Ends_late h) =
    absurd (let e = err_err no_end mixed_unit (sym (lacks_end-fails carried h) ∙ err) in omega (arith, e))
mixed_if carried err (Mixes h) = h

pub fails-mixed_unit : (carried : List Piece) → units_from None carried ≡ Err mixed_unit → IsMixed carried
fails-mixed_unit carried err = mixed_if carried err (outcome_of carried)

-- nothing else comes of pieces
pub one_outcome : (carried : List Piece) →
    ((units : List (List ℕ)) × AreUnits carried units) ⊎ (LacksStart carried ⊎ (LacksEnd carried ⊎ IsMixed carried))
one_outcome carried = named (outcome_of carried) where
  named : Outcome carried →
      ((units : List (List ℕ)) × AreUnits carried units) ⊎ (LacksStart carried ⊎ (LacksEnd carried ⊎ IsMixed carried))
  named (Joins units are) = inl (units, are)
  named (Starts_late h) = inr (inl h)
  named (Ends_late h) = inr (inr (inl h))
  named (Mixes h) = inr (inr (inr h))
