-- H.264 keeps the laws of a codec. These are proofs, which the `impl` names, and so they stand here: a reader need
-- believe none of this.
use Rattle.std.proofs.Common.{◌≡◌, ℕ, zero, suc, ◌+◌, ◌*◌, ◌≤◌, ◌==◌, if◌then◌else◌, Bool, true, false, List, [], ◌∷◌, ◌++◌, length, map, Option, None, Some, IfSome, Result, Ok, Err, IfOk, refl, sym, ap, ◌∙◌, append_assoc, arith}
use Rattle.std.specs.List.{flat_map}
use Rattle.std.specs.Option.{option_map}
use Rattle.std.proofs.lemmas.List.{length-append}
use Rattle.std.proofs.lemmas.List.Concat.{flat_map-cons}
use Rattle.vrx_codec.specs.Part.{Part}
use Rattle.vrx_codec.specs.declared.fault.JoinFault.{JoinFault}
use Rattle.vrx_codec.specs.declared.fault.PartFault.{PartFault}
use Rattle.vrx_codec.specs.Joining.{IsWithin, Raises, join_from, with_octets, and_then, end_octets, beginning}
use Rattle.vrx_num.specs.Octets.{AreOctets}
use Rattle.vrx_codec.specs.declared.join.Join.{Join}
use Rattle.vrx_h264.specs.declared.nal.Structure.{Structure}
use Rattle.vrx_h264.specs.declared.nal.Structure.TheVariants.{Single, Aggregate, Fragmented, Other}
use Rattle.vrx_h264.specs.Nal.{kind, structure_of}
use Rattle.vrx_h264.specs.Aggregate.{first_unit, Units, units_with, units_within, units_of}
use Rattle.vrx_h264.specs.AggregateLaws.{SplitsSized, first_unit_splits}
use Rattle.vrx_h264.specs.Payload.{Fragment, begins, ends, first_octet, Piece, Whole, Cut, cut_of, pieces_in, pieces, part_if, fault}
use Rattle.vrx_h264.specs.AccessUnit.{after_code, no_start, no_end, mixed_unit, JoinedUnits, with_unit, with_rest, units_from, bytes_of, pieces_of, h264}
use Rattle.vrx_h264.specs.Joining.{begun_after, begun_then, begun_after_all, piece_octets, added_octets, state_with, end_of, joining}

-- ---- joining part by part is joining whole units

-- what comes next in bytes, if there was no fault
abbrev bytes_then : Result (Option ℕ) JoinFault → (Option ℕ → Result (List ℕ) JoinFault) → Result (List ℕ) JoinFault
bytes_then (Ok begun) next = next begun
bytes_then (Err fault) next = Err fault

-- the type of the unit that is begun
abbrev kind_of : Option ℕ → Option ℕ
kind_of begun = option_map kind begun

-- the bytes from pieces on, while this unit is begun
abbrev bytes_from : Option ℕ → List Piece → Result (List ℕ) JoinFault
bytes_from begun pieces = bytes_of (units_from (kind_of begun) pieces)

bytes-with_unit : (unit : List ℕ) (later : Result JoinedUnits JoinFault) →
    bytes_of (with_unit unit later) ≡ with_octets (after_code unit) (bytes_of later)
bytes-with_unit unit (Ok later) = ap Ok (simp append_assoc)
bytes-with_unit unit (Err fault) = refl

bytes-with_rest : (octets : List ℕ) (later : Result JoinedUnits JoinFault) →
    bytes_of (with_rest octets later) ≡ with_octets octets (bytes_of later)
bytes-with_rest octets (Ok later) = ap Ok (simp append_assoc)
bytes-with_rest octets (Err fault) = refl

kind-first_octet : (f : Fragment) → kind (first_octet f) ≡ kind f.header
kind-first_octet f = omega arith

-- a fragment while no unit is begun
cut-none : (f : Fragment) (later : List Piece) (b : Bool) →
    bytes_of (if b then with_unit (first_octet f ∷ f.octets) (units_from (Some (kind f.header)) later)
    else Err no_start)
    ≡ bytes_then (if b then Ok (Some (first_octet f)) else Err no_start)
    (λ next. with_octets (if b then after_code (first_octet f ∷ f.octets) else f.octets) (bytes_from next later))
cut-none f later true =
    bytes-with_unit (first_octet f ∷ f.octets) (units_from (Some (kind f.header)) later)
    ∙ ap (λ (k : ℕ). with_octets (after_code (first_octet f ∷ f.octets)) (bytes_of (units_from (Some k) later)))
    (sym (kind-first_octet f))
cut-none f later false = refl

kind-if : (b : Bool) (begun : ℕ) → kind_of (if b then None else Some begun) ≡ (if b then None else Some (kind begun))
kind-if true begun = refl
kind-if false begun = refl

-- a fragment while one is
cut-some : (f : Fragment) (later : List Piece) (begun : ℕ) (b same last : Bool) →
    bytes_of (if b then Err no_end else if same
    then with_rest f.octets (units_from (if last then None else Some (kind begun)) later) else Err mixed_unit)
    ≡ bytes_then (if b then Err no_end else if same then Ok (if last then None else Some begun) else Err mixed_unit)
    (λ next. with_octets (if b then after_code (first_octet f ∷ f.octets) else f.octets) (bytes_from next later))
cut-some f later begun true same last = refl
cut-some f later begun false true last =
    bytes-with_rest f.octets (units_from (if last then None else Some (kind begun)) later)
    ∙ ap (λ (o : Option ℕ). with_octets f.octets (bytes_of (units_from o later))) (sym (kind-if last begun))
cut-some f later begun false false last = refl

-- one piece, and the bytes from there on
one_piece : (begun : Option ℕ) (piece : Piece) (later : List Piece) →
    bytes_from begun (piece ∷ later) ≡ bytes_then (begun_after begun piece)
    (λ next. with_octets (piece_octets piece) (bytes_from next later))
one_piece None (Whole unit) later = bytes-with_unit unit (units_from None later)
one_piece (Some begun) (Whole unit) later = refl
one_piece None (Cut f) later = cut-none f later (begins f)
one_piece (Some begun) (Cut f) later = cut-some f later begun (begins f) (kind begun == kind f.header) (ends f)

with_octets-nil : (bytes : Result (List ℕ) JoinFault) → bytes ≡ with_octets [] bytes
with_octets-nil (Ok bytes) = refl
with_octets-nil (Err fault) = refl

with_octets-append : (a b : List ℕ) (bytes : Result (List ℕ) JoinFault) →
    with_octets a (with_octets b bytes) ≡ with_octets (a ++ b) bytes
with_octets-append a b (Ok bytes) = ap Ok (sym (append_assoc a b bytes))
with_octets-append a b (Err fault) = refl

with_octets-then : (a b : List ℕ) (o : Result (Option ℕ) JoinFault) (f : Option ℕ → Result (List ℕ) JoinFault) →
    with_octets a (bytes_then o (λ next. with_octets b (f next))) ≡ bytes_then o
    (λ next. with_octets (a ++ b) (f next))
with_octets-then a b (Ok begun) f = with_octets-append a b (f begun)
with_octets-then a b (Err fault) f = refl

then-then : (o : Result (Option ℕ) JoinFault) (f : Option ℕ → Result (Option ℕ) JoinFault)
    (g h : Option ℕ → Result (List ℕ) JoinFault) → ((next : Option ℕ) → g next ≡ bytes_then (f next) h) →
    bytes_then o g ≡ bytes_then (begun_then o f) h
then-then (Ok begun) f g h same = same begun
then-then (Err fault) f g h same = refl

-- pieces, and the bytes from there on
some_pieces : (begun : Option ℕ) (first later : List Piece) →
    bytes_from begun (first ++ later) ≡ bytes_then (begun_after_all begun first)
    (λ next. with_octets (flat_map piece_octets first) (bytes_from next later))
some_pieces begun [] later = with_octets-nil (bytes_from begun later)
some_pieces begun (piece ∷ first) later =
    one_piece begun piece (first ++ later)
    ∙ then-then (begun_after begun piece) (λ next. begun_after_all next first) _
    (λ next. with_octets (flat_map piece_octets (piece ∷ first)) (bytes_from next later)) (λ next.
    ap (with_octets (piece_octets piece)) (some_pieces next first later)
    ∙ with_octets-then (piece_octets piece) (flat_map piece_octets first) (begun_after_all next first)
    (λ next. bytes_from next later)
    ∙ ap (λ (a : List ℕ). bytes_then (begun_after_all next first) (λ next. with_octets a (bytes_from next later)))
    (sym (flat_map-cons piece_octets piece first)))

no_pieces : (begun : Option ℕ) (octets : ℕ) → end_octets (end_of begun octets) ≡ bytes_from begun []
no_pieces None octets = refl
no_pieces (Some begun) octets = refl

-- a step of a part, and what is joined from there on
one_step : (o : Result (Option ℕ) JoinFault) (octets : ℕ) (front : List ℕ) (f : Join → Result (List ℕ) JoinFault)
    (g : Option ℕ → Result (List ℕ) JoinFault) →
    ((next : Option ℕ) → f (record { unit = next; octets = octets }) ≡ g next) →
    and_then (state_with octets o) (λ next. with_octets front (f next)) ≡ bytes_then o
    (λ next. with_octets front (g next))
one_step (Ok begun) octets front f g same = ap (with_octets front) (same begun)
one_step (Err fault) octets front f g same = refl

joins_from : (parts : List Part) (state : Join) →
    join_from joining parts state ≡ bytes_from state.unit (pieces_of parts)
joins_from [] state = no_pieces state.unit state.octets
joins_from (part ∷ parts) state =
    one_step (begun_after_all state.unit (pieces part.body)) (state.octets + length (added_octets part.body))
    (added_octets part.body) (λ next. join_from joining parts next) (λ next. bytes_from next (pieces_of parts))
    (λ next. joins_from parts _)
    ∙ sym (some_pieces state.unit (pieces part.body) (pieces_of parts))
    ∙ ap (bytes_from state.unit) (sym (flat_map-cons (λ (part : Part). pieces part.body) part parts))

pub h264_joins : (parts : List Part) → join_from joining parts beginning ≡ h264.join parts
h264_joins parts = joins_from parts beginning

-- ---- a part's octets

pub h264_counted : (begun : Option ℕ) (octets : ℕ) → IfOk (end_of begun octets) (λ n. n ≡ octets)
h264_counted None octets = refl
h264_counted (Some begun) octets = tt

-- units with their sizes are the octets of an aggregate, so after start codes they are at most five times as many
few-with : (most len : ℕ) (octets : List ℕ) (o : Option (List ℕ × List ℕ)) (later : List ℕ → Units) →
    IfSome o (SplitsSized len) →
    ((b : List ℕ) → length (flat_map piece_octets (map Whole (later b).units)) ≤ 5 * length b) →
    length (flat_map piece_octets (map Whole (units_with octets o later).units)) ≤ 5 * len
few-with most len octets None later is fits = omega arith
few-with most len octets (Some (u, b)) later is fits =
    omega (
      arith,
      is,
      fits b,
      ap length (flat_map-cons piece_octets (Whole u) (map Whole (later b).units)),
      length-append (after_code u) (flat_map piece_octets (map Whole (later b).units)),
    )

few_within : (most : ℕ) (octets : List ℕ) →
    length (flat_map piece_octets (map Whole (units_within most octets).units)) ≤ 5 * length octets
few_within zero octets = omega arith
few_within (suc most) octets =
    few-with most (length octets) octets (first_unit octets) (units_within most) (first_unit_splits octets)
    (λ b. few_within most b)

few_units : (octets : List ℕ) → length (flat_map piece_octets (map Whole (units_of octets).units)) ≤ 5 * length octets
unfolding units_of
few_units octets = few_within (length octets) octets

few_cut : (f : Fragment) (b : Bool) →
    length (if b then after_code (first_octet f ∷ f.octets) else f.octets) ≤ 5 * (2 + length f.octets)
few_cut f true = omega arith
few_cut f false = omega arith

one-flat : (piece : Piece) → length (flat_map piece_octets (piece ∷ [])) ≡ length (piece_octets piece)
one-flat piece = ap length (flat_map-cons piece_octets piece []) ∙ length-append (piece_octets piece) [] ∙ omega arith

few_cuts : (head : ℕ) (octets : List ℕ) →
    length (flat_map piece_octets (cut_of head octets)) ≤ 5 * suc (length octets)
few_cuts head [] = omega arith
few_cuts head (header ∷ octets) =
    let f : Fragment = record { indicator = head; header = header; octets = octets } in
    omega (arith, one-flat (Cut f), few_cut f (begins f))

few_in : (form : Structure) (head : ℕ) (octets : List ℕ) →
    length (flat_map piece_octets (pieces_in form head octets)) ≤ 5 * suc (length octets)
few_in Single head octets = omega (arith, one-flat (Whole (head ∷ octets)))
few_in Aggregate head octets = omega (arith, few_units octets)
few_in Fragmented head octets = few_cuts head octets
few_in Other head octets = omega arith

pub few_added : (payload : List ℕ) → length (added_octets payload) ≤ 5 * length payload
few_added [] = omega arith
few_added (head ∷ octets) = few_in (structure_of (kind head)) head octets

raises_by : (state : Join) (part : Part) (o : Result (Option ℕ) JoinFault) →
    IfOk (state_with (state.octets + length (added_octets part.body)) o) (λ next. Raises joining state part next)
raises_by state part (Ok begun) = (refl, few_added part.body)
raises_by state part (Err fault) = tt

pub h264_raises : (state : Join) (part : Part) →
    IfOk (joining.step state part) (λ next. Raises joining state part next)
h264_raises state part = raises_by state part (begun_after_all state.unit (pieces part.body))

within_if : (payload : List ℕ) (fault : Option PartFault) →
    IfOk (part_if payload fault) (λ part. IsWithin payload part)
within_if payload None = (omega arith, tt)
within_if payload (Some fault) = tt

pub h264_within : (payload : List ℕ) → AreOctets payload → IfOk (h264.read payload) (λ part. IsWithin payload part)
h264_within payload are = within_if payload (fault payload)
