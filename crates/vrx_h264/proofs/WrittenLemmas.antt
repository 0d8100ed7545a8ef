-- What is written is read again, and joins to what it was written of.
use Rattle.std.proofs.Common.{◌≡◌, ◌≢◌, ℕ, ◌+◌, ◌/◌, ◌%◌, ◌<◌, ◌≤◌, ◌==◌, nat_lt, ◌&&◌, ◌||◌, if◌then◌else◌, Bool, true, false, List, [], ◌∷◌, ◌++◌, length, map, take, drop, slice_index, sum, None, Some, Ok, Err, refl, sym, ap, ◌∙◌, arith}
use Rattle.std.specs.List.{flat_map, list_any, Any, AllByRecursion}
use Rattle.std.proofs.lemmas.Bool.{eq-eqb, ne_eqb, ltb-true}
use Rattle.std.proofs.lemmas.Bool.Decides.{nat_tests}
use Rattle.std.proofs.lemmas.List.{length-drop, take_all, take-append-drop, drop-drop, append-nil}
use Rattle.std.proofs.lemmas.List.Concat.{flat_map-cons}
use Rattle.std.proofs.lemmas.List.Folds.{Any-from_list_any}
use Rattle.std.proofs.lemmas.List.Sums.{sum_by-cons}
use Rattle.vrx_codec.specs.Part.{Part}
use Rattle.vrx_codec.specs.Octet.{bit}
use Rattle.vrx_h264.specs.declared.bits.TheConstants.{BIT_S, BIT_E}
use Rattle.vrx_h264.specs.declared.types.TheConstants.{STAP_A}
use Rattle.vrx_h264.specs.Nal.{kind}
use Rattle.vrx_h264.specs.Payload.{Fragment, begins, ends, first_octet, Piece, Whole, Cut, pieces, part_with, read_part}
use Rattle.vrx_h264.specs.IsPayload.{IsUnit, IsSizedUnit, IsAggregate}
use Rattle.vrx_h264.specs.AccessUnit.{after_code, no_end, no_start, mixed_unit, JoinedUnits, with_unit, with_rest, units_from, bytes_of, pieces_of}
use Rattle.vrx_h264.specs.Writing.{header_octet, have_f, greatest_nri, written_units, cut_at, written_cut, cuts, JoinTo}
use Rattle.vrx_h264.proofs.PayloadLemmas.{Reads, reads_cut, reads_units, part-reads, kind_of_unit}

-- ---- aggregates

pub any_long : (units : List (List ℕ)) → list_any (λ unit. nat_lt 65535 (length unit)) units ≡ true →
    Any (λ unit. 65535 < length unit) units
any_long units some =
    let a = Any-from_list_any (λ (unit : List ℕ). nat_lt 65535 (length unit)) units some in
    (a.0, a.1, a.2, a.3, ltb-true 65535 (length a.1) a.4)

or_parts : (a b : Bool) → (a || b) ≡ false → (a ≡ false) × (b ≡ false)
or_parts true b none = absurd cc
or_parts false b none = (refl, none)

not_long : (n : ℕ) → nat_lt 65535 n ≡ false → n < 65536
not_long n none = grind (arith, nat_tests)

pub all_sized : (units : List (List ℕ)) → AllByRecursion IsUnit units →
    list_any (λ unit. nat_lt 65535 (length unit)) units ≡ false → AllByRecursion IsSizedUnit units
all_sized [] each none = tt
all_sized (unit ∷ units) each none =
    let parts = or_parts (nat_lt 65535 (length unit)) (list_any (λ unit. nat_lt 65535 (length unit)) units) none in
    ((each.0, not_long (length unit) parts.0), all_sized units each.1 parts.1)

kind-header_octet : (f : Bool) (nri : ℕ) → kind (header_octet f nri STAP_A) ≡ STAP_A
kind-header_octet true nri = omega arith
kind-header_octet false nri = omega arith

pub aggregate_carries : (units : List (List ℕ)) → units ≢ [] → AllByRecursion IsSizedUnit units →
    IsAggregate (written_units units) (map Whole units)
aggregate_carries units some each = record {
  head = header_octet (have_f units) (greatest_nri units) STAP_A;
  units = units;
  spelled = refl;
  says = kind-header_octet (have_f units) (greatest_nri units);
  some = some;
  each = each;
  carries = refl;
}

pub aggregate-reads : (units : List (List ℕ)) → units ≢ [] → AllByRecursion IsSizedUnit units →
    Reads (written_units units) (map Whole units)
aggregate-reads units some each =
    reads_units (header_octet (have_f units) (greatest_nri units) STAP_A) units
    (kind-header_octet (have_f units) (greatest_nri units)) some each

pub written_again : (units : List (List ℕ)) → units ≢ [] → AllByRecursion IsSizedUnit units → (payload : List ℕ) →
    payload ≡ written_units units → read_part payload ≡ Ok (part_with payload (map Whole units))
written_again units some each payload is =
    ap read_part is ∙ part-reads (written_units units) (map Whole units) (aggregate-reads units some each)
    ∙ ap (λ (x : List ℕ). Ok (part_with x (map Whole units))) (sym is)

-- whole units join to themselves
units_from-whole : (units : List (List ℕ)) →
    units_from None (map Whole units) ≡ Ok (record { rest = []; units = units })
units_from-whole [] = refl
units_from-whole (unit ∷ units) = ap (with_unit unit) (units_from-whole units)
    ∙ ap (λ (x : List ℕ). Ok (let j : JoinedUnits = record { rest = []; units = x ∷ units } in j)) (append-nil unit)

one_carried : (part : Part) → pieces_of (part ∷ []) ≡ pieces part.body
one_carried part = flat_map-cons (λ (part : Part). pieces part.body) part [] ∙ append-nil (pieces part.body)

pub aggregate_joined : (units : List (List ℕ)) → units ≢ [] → AllByRecursion IsSizedUnit units →
    JoinTo (written_units units ∷ []) (flat_map after_code units)
aggregate_joined units some each =
    let reads = aggregate-reads units some each in
    let part : Part = part_with (written_units units) (map Whole units) in
    record {
      parts = part ∷ [];
      read = ap (λ x. x ∷ []) (part-reads (written_units units) (map Whole units) reads);
      joined = ap (λ (x : List Piece). bytes_of (units_from None x)) (one_carried part ∙ reads.carries)
          ∙ ap bytes_of (units_from-whole units);
    }

-- ---- fragments

says_begins : (b e : Bool) (k : ℕ) → k < 32 → bit BIT_S ((if b then BIT_S else 0) + (if e then BIT_E else 0) + k) ≡ b
says_begins true true k fits = eq-eqb ((BIT_S + BIT_E + k) / BIT_S % 2) 1 (omega arith)
says_begins true false k fits = eq-eqb ((BIT_S + 0 + k) / BIT_S % 2) 1 (omega arith)
says_begins false true k fits = ne_eqb ((0 + BIT_E + k) / BIT_S % 2) 1 (omega arith)
says_begins false false k fits = ne_eqb ((0 + 0 + k) / BIT_S % 2) 1 (omega arith)

says_ends : (b e : Bool) (k : ℕ) → k < 32 → bit BIT_E ((if b then BIT_S else 0) + (if e then BIT_E else 0) + k) ≡ e
says_ends true true k fits = eq-eqb ((BIT_S + BIT_E + k) / BIT_E % 2) 1 (omega arith)
says_ends true false k fits = ne_eqb ((BIT_S + 0 + k) / BIT_E % 2) 1 (omega arith)
says_ends false true k fits = eq-eqb ((0 + BIT_E + k) / BIT_E % 2) 1 (omega arith)
says_ends false false k fits = ne_eqb ((0 + 0 + k) / BIT_E % 2) 1 (omega arith)

says_kind : (b e : Bool) (k : ℕ) → k < 32 → kind ((if b then BIT_S else 0) + (if e then BIT_E else 0) + k) ≡ k
says_kind true true k fits = omega arith
says_kind true false k fits = omega arith
says_kind false true k fits = omega arith
says_kind false false k fits = omega arith

kind_fits : (octet : ℕ) → kind octet < 32
kind_fits octet = omega arith

-- the same of a fragment
begins_at : (unit : List ℕ) (at len : ℕ) → begins (cut_at unit at len) ≡ (at == 1)
begins_at unit at len =
    says_begins (at == 1) (at + len == length unit) (kind (slice_index unit 0)) (kind_fits (slice_index unit 0))

ends_at : (unit : List ℕ) (at len : ℕ) → ends (cut_at unit at len) ≡ (at + len == length unit)
ends_at unit at len =
    says_ends (at == 1) (at + len == length unit) (kind (slice_index unit 0)) (kind_fits (slice_index unit 0))

kind_at : (unit : List ℕ) (at len : ℕ) → kind (cut_at unit at len).header ≡ kind (slice_index unit 0)
kind_at unit at len =
    says_kind (at == 1) (at + len == length unit) (kind (slice_index unit 0)) (kind_fits (slice_index unit 0))

first_at : (unit : List ℕ) (at len : ℕ) → first_octet (cut_at unit at len) ≡ slice_index unit 0
first_at unit at len = let k = kind_at unit at len in omega (arith, k)

not_both_at : (unit : List ℕ) (at len : ℕ) → len + 1 < length unit →
    (begins (cut_at unit at len) && ends (cut_at unit at len)) ≡ false
not_both_at unit at len part =
    ap (λ b. b && ends (cut_at unit at len)) (begins_at unit at len)
    ∙ ap (λ b. (at == 1) && b) (ends_at unit at len)
    ∙ grind (arith, nat_tests)

pub cut-reads : (unit : List ℕ) (at len : ℕ) → IsUnit unit → len + 1 < length unit →
    Reads (written_cut (cut_at unit at len)) (Cut (cut_at unit at len) ∷ [])
cut-reads unit at len is part =
    let of_unit = kind_of_unit unit is in
    let k = kind_at unit at len in
    reads_cut (cut_at unit at len) (omega arith) (omega (arith, of_unit, k), omega (arith, of_unit, k))
    (not_both_at unit at len part)

-- the fragments themselves
abbrev fragments : List ℕ → ℕ → List ℕ → List Piece
fragments unit at [] = []
fragments unit at (len ∷ lens) = Cut (cut_at unit at len) ∷ fragments unit (at + len) lens

-- a later fragment goes on
later_cut : (f : Fragment) (k : ℕ) (last : Bool) (later : List Piece) → begins f ≡ false → k ≡ kind f.header →
    ends f ≡ last → units_from (Some k) (Cut f ∷ later) ≡ with_rest f.octets
    (units_from (if last then None else Some k) later)
later_cut f k last later begin same end =
    ap (λ b. if b then Err no_end else if k == kind f.header
    then with_rest f.octets (units_from (if ends f then None else Some k) later) else Err mixed_unit) begin
    ∙ ap (λ b. if b then with_rest f.octets (units_from (if ends f then None else Some k) later) else Err mixed_unit)
    (eq-eqb k (kind f.header) same)
    ∙ ap (λ b. with_rest f.octets (units_from (if b then None else Some k) later)) end

all_at : (unit : List ℕ) (at len : ℕ) → at + len ≡ length unit → take len (drop at unit) ≡ drop at unit
all_at unit at len ended = take_all len (drop at unit) (omega (arith, length-drop at unit))

-- the fragments after the first give the unit's octets from there on
later_joined : (unit : List ℕ) (k : ℕ) → k ≡ kind (slice_index unit 0) → (at len : ℕ) (lens : List ℕ) → 1 < at →
    AllByRecursion (λ len. 0 < len) lens → at + len + sum lens ≡ length unit →
    units_from (Some k) (fragments unit at (len ∷ lens)) ≡ Ok (record { rest = drop at unit; units = [] })
later_joined unit k same at len [] later some ended =
    let end : at + len ≡ length unit = omega arith in
    later_cut (cut_at unit at len) k true [] (begins_at unit at len ∙ ne_eqb at 1 (omega arith))
    (same ∙ sym (kind_at unit at len)) (ends_at unit at len ∙ eq-eqb (at + len) (length unit) end)
    ∙ ap (λ (x : List ℕ). Ok (let j : JoinedUnits = record { rest = x; units = [] } in j))
    (append-nil (take len (drop at unit)) ∙ all_at unit at len end)
later_joined unit k same at len (next ∷ lens) later some ended =
    let total = sum_by-cons (λ (n : ℕ). n) next lens in
    let more : at + len + next + sum lens ≡ length unit = omega (arith, total) in
    later_cut (cut_at unit at len) k false (fragments unit (at + len) (next ∷ lens))
    (begins_at unit at len ∙ ne_eqb at 1 (omega arith)) (same ∙ sym (kind_at unit at len))
    (ends_at unit at len ∙ ne_eqb (at + len) (length unit) (omega (arith, some.0)))
    ∙ ap (with_rest (take len (drop at unit)))
    (later_joined unit k same (at + len) next lens (omega arith) some.1 more)
    ∙ ap (λ (x : List ℕ). Ok (let j : JoinedUnits = record { rest = x; units = [] } in j))
    (ap (λ (x : List ℕ). take len (drop at unit) ++ x) (sym (drop-drop len at unit))
    ∙ take-append-drop len (drop at unit))

first_cut : (f : Fragment) (later : List Piece) → begins f ≡ true →
    units_from None (Cut f ∷ later) ≡ with_unit (first_octet f ∷ f.octets) (units_from (Some (kind f.header)) later)
first_cut f later begin =
    ap (λ b. if b then with_unit (first_octet f ∷ f.octets) (units_from (Some (kind f.header)) later)
    else Err no_start) begin

whole_unit : (unit : List ℕ) → IsUnit unit → slice_index unit 0 ∷ drop 1 unit ≡ unit
whole_unit [] is = absurd is
whole_unit (head ∷ octets) is = refl

all_joined : (unit : List ℕ) (len next : ℕ) (lens : List ℕ) → IsUnit unit →
    AllByRecursion (λ len. 0 < len) (len ∷ next ∷ lens) → 1 + len + next + sum lens ≡ length unit →
    units_from None (fragments unit 1 (len ∷ next ∷ lens)) ≡ Ok (record { rest = []; units = unit ∷ [] })
all_joined unit len next lens is some ended =
    let f : Fragment = cut_at unit 1 len in
    first_cut f (fragments unit (1 + len) (next ∷ lens)) (begins_at unit 1 len)
    ∙ ap (with_unit (first_octet f ∷ f.octets))
    (later_joined unit (kind f.header) (kind_at unit 1 len) (1 + len) next lens
    (omega (arith, some.0)) some.1.1 ended)
    ∙ ap (λ (x : List ℕ). Ok (let j : JoinedUnits = record { rest = []; units = x ∷ [] } in j))
    (ap (λ (n : ℕ). n ∷ (take len (drop 1 unit) ++ drop (1 + len) unit)) (first_at unit 1 len)
    ∙ ap (λ (x : List ℕ). slice_index unit 0 ∷ x)
    (ap (λ (x : List ℕ). take len (drop 1 unit) ++ x) (sym (drop-drop len 1 unit))
    ∙ take-append-drop len (drop 1 unit))
    ∙ whole_unit unit is)

-- the parts of the fragments
abbrev parts_of : List ℕ → ℕ → List ℕ → List Part
parts_of unit at [] = []
parts_of unit at (len ∷ lens) =
    part_with (written_cut (cut_at unit at len)) (Cut (cut_at unit at len) ∷ []) ∷ parts_of unit (at + len) lens

parts_read : (unit : List ℕ) → IsUnit unit → (at : ℕ) (lens : List ℕ) →
    AllByRecursion (λ len. len + 1 < length unit) lens →
    map read_part (cuts unit at lens) ≡ map Ok (parts_of unit at lens)
parts_read unit is at [] each = refl
parts_read unit is at (len ∷ lens) each =
    ap (λ r. r ∷ map read_part (cuts unit (at + len) lens))
    (part-reads (written_cut (cut_at unit at len)) (Cut (cut_at unit at len) ∷ []) (cut-reads unit at len is each.0))
    ∙ ap (λ rs. Ok (part_with (written_cut (cut_at unit at len)) (Cut (cut_at unit at len) ∷ [])) ∷ rs)
    (parts_read unit is (at + len) lens each.1)

parts_carry : (unit : List ℕ) → IsUnit unit → (at : ℕ) (lens : List ℕ) →
    AllByRecursion (λ len. len + 1 < length unit) lens → pieces_of (parts_of unit at lens) ≡ fragments unit at lens
parts_carry unit is at [] each = refl
parts_carry unit is at (len ∷ lens) each =
    let part : Part = part_with (written_cut (cut_at unit at len)) (Cut (cut_at unit at len) ∷ []) in
    flat_map-cons (λ (part : Part). pieces part.body) part (parts_of unit (at + len) lens)
    ∙ ap (λ (x : List Piece). x ++ pieces_of (parts_of unit (at + len) lens))
    (cut-reads unit at len is each.0).carries
    ∙ ap (λ (x : List Piece). Cut (cut_at unit at len) ∷ x) (parts_carry unit is (at + len) lens each.1)

-- none of the fragments is all of the unit
none_all : (n at : ℕ) (lens : List ℕ) → 1 < at → at + sum lens ≤ n → AllByRecursion (λ len. len + 1 < n) lens
none_all n at [] later fits = tt
none_all n at (len ∷ lens) later fits =
    let total = sum_by-cons (λ (n : ℕ). n) len lens in
    (omega (arith, total), none_all n (at + len) lens (omega arith) (omega (arith, total)))

pub fragments_joined : (unit lens : List ℕ) → IsUnit unit → 2 ≤ length lens → AllByRecursion (λ len. 0 < len) lens →
    1 + sum lens ≡ length unit → JoinTo (cuts unit 1 lens) (after_code unit)
fragments_joined unit [] is two some ended = absurd (omega arith)
fragments_joined unit (len ∷ []) is two some ended = absurd (omega arith)
fragments_joined unit (len ∷ next ∷ lens) is two some ended =
    let first = sum_by-cons (λ (n : ℕ). n) len (next ∷ lens) in
    let second = sum_by-cons (λ (n : ℕ). n) next lens in
    let total : 1 + len + next + sum lens ≡ length unit = omega (arith, first, second) in
    let each : AllByRecursion (λ len. len + 1 < length unit) (len ∷ next ∷ lens) = (
      omega (arith, total, some.1.0),
      none_all (length unit) (1 + len) (next ∷ lens) (omega (arith, some.0)) (omega (arith, first)),
    ) in
    record {
      parts = parts_of unit 1 (len ∷ next ∷ lens);
      read = parts_read unit is 1 (len ∷ next ∷ lens) each;
      joined =
          ap (λ (x : List Piece). bytes_of (units_from None x)) (parts_carry unit is 1 (len ∷ next ∷ lens) each)
          ∙ ap bytes_of (all_joined unit len next lens is some total)
          ∙ ap Ok (flat_map-cons after_code unit [] ∙ append-nil (after_code unit));
    }
