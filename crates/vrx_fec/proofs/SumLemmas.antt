-- The XOR at places of levels, and what a register of texts has.
use Rattle.std.proofs.Common.{◌≡◌, ℕ, zero, suc, ◌+◌, ◌-◌, ◌*◌, ◌%◌, ◌^◌, ◌<◌, ◌≤◌, min, Bool, true, false, cond, List, [], ◌∷◌, ◌++◌, length, map, take, drop, get_or, slice_index, bit_xor, Result, Ok, Err, refl, sym, ap, ◌∙◌, subst, inl, inr, arith}
use Rattle.std.specs.Prelude.{nat_lt, nat_le, ◌==◌, ◌↔◌, if◌then◌else◌, IsErrOf, Vec}
use Rattle.std.specs.List.{between}
use Rattle.std.specs.Int.{w16, from_be_bytes}
use Rattle.std.specs.Int.Bits.{xor_assoc, xor_zero_l}
use Rattle.std.proofs.lemmas.Bool.{cases_lt, eqb-false, leb-true, lt-ltb, le-ltb, ltb-false, ltb-true}
use Rattle.std.proofs.lemmas.List.{ext_get_or, get_or_append_left, get_or-append_right, get_or-take, get_or-drop, get_or-map, length-append, length-drop, length-map, length-take-le}
use Rattle.std.proofs.lemmas.Nat.{xor_comm, xor_lt}
use Rattle.std.proofs.lemmas.Slice.{first_rest}
use Rattle.vrx_fec.specs.declared.register.RecoverFault.{RecoverFault}
use Rattle.vrx_fec.specs.declared.register.RecoverFault.TheVariants.{BadLength, NotCovered}
use Rattle.vrx_fec.specs.declared.register.TheConstants.{MOST_REBUILT}
use Rattle.vrx_fec.specs.declared.span.Span.{Span}
use Rattle.vrx_fec.specs.Mask.{is_named, numbers_from}
use Rattle.vrx_fec.specs.Payload.{Level, Payload}
use Rattle.vrx_fec.specs.Parity.{Texts, body_of, fields_of, mask_at, named, octet_at, recovery, spans_of, xor_of, xor_of_fields, xor_of_octets}
use Rattle.vrx_fec.specs.Rebuilt.{IsOf, Sums, covered, covered_by, header_of, rebuilt, rebuilt_field, rebuilt_length, rebuilt_octet, rebuilt_text}
use Rattle.vrx_fec.specs.View.{view_rebuilt}

-- the mask at a place of the first level, and at one after it
pub mask_at-first : (span : Span) (spans : List Span) (k : ℕ) → k < span.size → mask_at (span ∷ spans) k ≡ span.mask
mask_at-first span spans k lt = rw (lt-ltb k span.size lt) refl

pub mask_at-later : (span : Span) (spans : List Span) (k : ℕ) → span.size ≤ k
    → mask_at (span ∷ spans) k ≡ mask_at spans (k - span.size)
mask_at-later span spans k le = rw (le-ltb k span.size le) refl

-- what a text adds to an octet of a level
abbrev pub added : Bool → ℕ → ℕ → List ℕ → ℕ → ℕ
added long mask offset octets k = if is_named long mask offset then slice_index octets k else 0

-- the octets of the first level and those of the others, each with what is added
pub add-place : (long : Bool) (offset : ℕ) (span : Span) (later : List Span) (body octets front rest : List ℕ)
    (size : ℕ)
    → size ≡ min span.size (length body) → length front ≡ size
    → ((k : ℕ) → k < length (take size body) → slice_index front k ≡
    bit_xor (slice_index (take size body) k) (added long span.mask offset octets k))
    → ((k : ℕ) → k < length (drop size body) → slice_index rest k ≡
    bit_xor (slice_index (drop size body) k) (added long (mask_at later k) offset (drop size octets) k))
    → (k : ℕ) → k < length body → slice_index (front ++ rest) k ≡
    bit_xor (slice_index body k) (added long (mask_at (span ∷ later) k) offset octets k)
add-place long offset span later body octets front rest size size_is front_is first second k within =
    let short : size ≤ length body = omega (arith, size_is) in
    elim (cases_lt k size) [
      | inl lt ↦
          let small : k < span.size = omega (arith, size_is) in
          let inside : k < length (take size body) = omega (arith, length-take-le size body short) in
          get_or_append_left front rest 0 k (omega (arith, front_is)) ∙ first k inside
          ∙ ap (λ x. bit_xor x (added long span.mask offset octets k)) (get_or-take size body k 0 lt)
          ∙ ap (λ m. bit_xor (slice_index body k) (added long m offset octets k))
          (sym (mask_at-first span later k small))
      | inr le ↦
          let whole : size ≡ span.size = omega (arith, size_is) in
          let place : size + (k - size) ≡ k = omega arith in
          let inside : k - size < length (drop size body) = omega (arith, length-drop size body) in
          let mask_is : mask_at later (k - size) ≡ mask_at (span ∷ later) k =
          ap (λ n. mask_at later (k - n)) whole ∙ sym (mask_at-later span later k (omega (arith, whole))) in
          get_or-append_right front rest size k 0 front_is le ∙ second (k - size) inside
          ∙ ap (λ x. bit_xor x (added long (mask_at later (k - size)) offset (drop size octets) (k - size)))
          (get_or-drop size body (k - size) 0 ∙ ap (slice_index body) place)
          ∙ ap (λ x. bit_xor (slice_index body k) (if is_named long (mask_at later (k - size)) offset then x else 0))
          (get_or-drop size octets (k - size) 0 ∙ ap (slice_index octets) place)
          ∙ ap (λ m. bit_xor (slice_index body k) (added long m offset octets k)) mask_is
    ]

-- the same of lists that are cut so, and of spans of which there are some
abbrev pub no_span : Span
no_span = record { mask = 0; size = 0 }

pub add-cut : (long : Bool) (offset : ℕ) (spans : List Span) (body octets : List ℕ) (size : ℕ)
    (front_old rest_old octets_later front rest : List ℕ) (adds : Bool)
    → (length spans == 0) ≡ false → size ≡ min (get_or spans 0 no_span).size (length body)
    → front_old ≡ take size body → rest_old ≡ drop size body → octets_later ≡ drop size octets
    → adds ≡ is_named long (get_or spans 0 no_span).mask offset → length front ≡ length front_old
    → ((k : ℕ) → k < length front_old → slice_index front k ≡
    bit_xor (slice_index front_old k) (if adds then slice_index octets k else 0))
    → ((k : ℕ) → k < length rest_old → slice_index rest k ≡
    bit_xor (slice_index rest_old k) (added long (mask_at (between 1 (length spans) spans) k) offset octets_later k))
    → (k : ℕ) → k < length body → slice_index (front ++ rest) k ≡
    bit_xor (slice_index body k) (added long (mask_at spans k) offset octets k)
add-cut long offset spans body octets size front_old rest_old octets_later front rest adds some size_is front_is
    rest_is later_is adds_is front_long first second k within =
    let ne : length spans ≡ 0 → ⊥ = eqb-false (length spans) 0 some in
    let many : 0 < length spans = elim (cases_lt 0 (length spans)) [
      | inl lt ↦ lt
      | inr le ↦ absurd
          (ne (omega arith))
    ] in
    let span : Span = get_or spans 0 no_span in
    let later : List Span = between 1 (length spans) spans in
    let all : spans ≡ span ∷ later = first_rest spans no_span many in
    let short : size ≤ length body = omega (arith, size_is) in
    let first_at : (j : ℕ) → j < length (take size body) → slice_index front j ≡
    bit_xor (slice_index (take size body) j) (added long span.mask offset octets j) =
    λ j lt. first j (omega (arith, ap length front_is))
    ∙ ap (λ x. bit_xor (slice_index x j) (if adds then slice_index octets j else 0)) front_is
    ∙ ap (λ b. bit_xor (slice_index (take size body) j) (if b then slice_index octets j else 0)) adds_is in
    let second_at : (j : ℕ) → j < length (drop size body) → slice_index rest j ≡
    bit_xor (slice_index (drop size body) j) (added long (mask_at later j) offset (drop size octets) j) =
    λ j lt. second j (omega (arith, ap length rest_is))
    ∙ ap (λ x. bit_xor (slice_index x j) (added long (mask_at later j) offset octets_later j)) rest_is
    ∙ ap (λ x. bit_xor (slice_index (drop size body) j) (added long (mask_at later j) offset x j)) later_is in
    add-place long offset span later body octets front rest size size_is
    (front_long ∙ ap length front_is ∙ length-take-le size body short) first_at second_at k within
    ∙ ap (λ s. bit_xor (slice_index body k) (added long (mask_at s k) offset octets k)) (sym all)

-- ---- one text more

-- the order of what is added is free
turned : (r x t : ℕ) → bit_xor (bit_xor r x) t ≡ bit_xor r (bit_xor t x)
turned r x t = xor_assoc r x t ∙ ap (bit_xor r) (xor_comm x t)

-- the XOR with one text more, if it is named
pub one-named : (part : List ℕ → ℕ) (b : Bool) (t : ℕ × List ℕ) (ts : Texts)
    → xor_of part (cond b (t ∷ ts) ts) ≡ bit_xor (cond b (part t.1) 0) (xor_of part ts)
one-named part true t ts = refl
one-named part false t ts = sym (xor_zero_l (xor_of part ts))

pub one-added : (p : Payload) (texts : Texts) (offset : ℕ) (text fields fields_new body body_new : List ℕ)
    → IsOf (record { fields = fields; body = body }) p texts → length body_new ≡ length body
    → ((k : ℕ) → k < 8 → slice_index fields_new k ≡ bit_xor (slice_index fields k) (slice_index (fields_of text) k))
    → ((k : ℕ) → k < length body → slice_index body_new k ≡
    bit_xor (slice_index body k) (added p.long (mask_at (spans_of p.levels) k) offset (drop 12 text) k))
    → IsOf (record { fields = fields_new; body = body_new }) p ((offset, text) ∷ texts)
one-added p texts offset text fields fields_new body body_new is size fields_are body_is = record {
  fields = λ k lt. fields_are k lt ∙ ap (λ x. bit_xor x (slice_index (fields_of text) k)) (is.fields k lt)
      ∙ turned (slice_index (recovery p.head) k) (xor_of_fields k texts) (slice_index (fields_of text) k);
  size = size ∙ is.size;
  body = λ k within.
      let inside : k < length body = omega (arith, size) in
      let mask : ℕ = mask_at (spans_of p.levels) k in
      let others : ℕ = xor_of_octets p.long (spans_of p.levels) k texts in
      body_is k inside
      ∙ ap (λ x. bit_xor x (added p.long mask offset (drop 12 text) k)) (is.body k inside)
      ∙ turned (slice_index (body_of p.levels) k) others (added p.long mask offset (drop 12 text) k)
      ∙ ap (λ x. bit_xor (slice_index (body_of p.levels) k)
      (bit_xor (if is_named p.long mask offset then x else 0) others))
      (get_or-drop 12 text k 0)
      ∙ ap (bit_xor (slice_index (body_of p.levels) k))
      (sym (one-named (λ t. octet_at (12 + k) t) (is_named p.long mask offset) (offset, text)
      (named p.long mask texts)));
}

-- ---- what is rebuilt

-- numbers from one on, at a place
numbers_from-at : (count first k : ℕ) → k < count → slice_index (numbers_from first count) k ≡ first + k
numbers_from-at zero first k lt = absurd (omega arith)
numbers_from-at (suc count) first zero lt = omega arith
numbers_from-at (suc count) first (suc k) lt = numbers_from-at count (first + 1) k (omega arith) ∙ omega arith

length-numbers_from : (count first : ℕ) → length (numbers_from first count) ≡ count
length-numbers_from zero first = refl
length-numbers_from (suc count) first = ap suc (length-numbers_from count (first + 1))

-- no more is covered than the levels have
pub covered-within : (long : Bool) (i : ℕ) (levels : List Level)
    → covered_by long (spans_of levels) i ≤ length (body_of levels)
covered-within long i [] = omega arith
covered-within long i (level ∷ levels) =
    let rest = covered-within long i levels in
    let whole = length-append level.octets (body_of levels) in
    elim (is_named long level.mask i)
    as (λ b. cond b (length level.octets) 0 + covered_by long (spans_of levels) i ≤ length
    (level.octets ++ body_of levels)) [
      | true ↦ omega arith
      | false ↦ omega arith
    ]

-- the first octets, by a function of the place
pub take-places : (f : ℕ → ℕ) (n : ℕ) (body : List ℕ) → n ≤ length body
    → ((k : ℕ) → k < length body → slice_index body k ≡ f k) → take n body ≡ map f (numbers_from 0 n)
take-places f n body le at =
    let size : length (take n body) ≡ n = length-take-le n body le in
    ext_get_or 0 (take n body) (map f (numbers_from 0 n))
    (size ∙ sym (length-map (numbers_from 0 n) f ∙ length-numbers_from n 0))
    (λ k within.
    let lt : k < n = omega (arith, size) in
    get_or-take n body k 0 lt ∙ at k (omega arith)
    ∙ sym (get_or-map f (numbers_from 0 n) k 0 0 (omega (arith, length-numbers_from n 0))
    ∙ ap f (numbers_from-at n 0 k lt ∙ omega arith)))

-- fields that agree give one header
pub same-header : (xs ys : List ℕ) (number ssrc : ℕ) → ((k : ℕ) → k < 8 → slice_index xs k ≡ slice_index ys k)
    → header_of xs number ssrc ≡ header_of ys number ssrc
same-header xs ys number ssrc same =
    rw (
      same 0 (omega arith),
      same 1 (omega arith),
      same 2 (omega arith),
      same 3 (omega arith),
      same 4 (omega arith),
      same 5 (omega arith),
    ) refl

pub fields-at : (f : ℕ → ℕ) (fields : List ℕ) → ((k : ℕ) → k < 8 → slice_index fields k ≡ f k)
    → (k : ℕ) → k < 8 → slice_index fields k ≡ slice_index (map f (numbers_from 0 8)) k
fields-at f fields at k lt =
    at k lt ∙ sym (get_or-map f (numbers_from 0 8) k 0 0 lt ∙ ap f (numbers_from-at 8 0 k lt ∙ omega arith))

pub rebuilt-ok : (p : Payload) (texts : Texts) (missing ssrc : ℕ) (sums : Sums) (len : ℕ) → IsOf sums p texts
    → len ≡ from_be_bytes w16 (slice_index sums.fields 6 ∷ slice_index sums.fields 7 ∷ [])
    → len ≤ MOST_REBUILT → len ≤ covered p missing
    → Ok (header_of sums.fields ((p.base + missing) % 2 ^ 16) ssrc ++ take len sums.body)
    ≡ rebuilt p texts missing ssrc
rebuilt-ok p texts missing ssrc sums len is len_is few within =
    let same : len ≡ rebuilt_length p texts = omega (arith, is.fields 6 (omega arith), is.fields 7 (omega arith)) in
    let number : ℕ = (p.base + missing) % 2 ^ 16 in
    let head : header_of sums.fields number ssrc
    ≡ header_of (map (rebuilt_field p texts) (numbers_from 0 8)) number ssrc =
    same-header sums.fields (map (rebuilt_field p texts) (numbers_from 0 8)) number ssrc
    (fields-at (rebuilt_field p texts) sums.fields is.fields) in
    let body : take len sums.body ≡ map (rebuilt_octet p texts) (numbers_from 0 len) =
    take-places (rebuilt_octet p texts) len sums.body
    (omega (arith, covered-within p.long missing p.levels, is.size)) is.body in
    let text : header_of sums.fields number ssrc ++ take len sums.body ≡ rebuilt_text p texts missing ssrc =
    ap (λ x. x ++ take len sums.body) head
    ∙ ap (λ x. header_of (map (rebuilt_field p texts) (numbers_from 0 8)) number ssrc ++ x) body
    ∙ ap (λ n. header_of (map (rebuilt_field p texts) (numbers_from 0 8)) number ssrc
    ++ map (rebuilt_octet p texts) (numbers_from 0 n)) same in
    let long : nat_lt MOST_REBUILT (rebuilt_length p texts)
    ≡ false = le-ltb MOST_REBUILT (rebuilt_length p texts) (omega (arith, same)) in
    let far : nat_lt (covered p missing) (rebuilt_length p texts) ≡ false =
    le-ltb (covered p missing) (rebuilt_length p texts) (omega (arith, same)) in
    let given : List ℕ → Result (List ℕ) RecoverFault = λ x. Ok x in
    rw (long, far) (ap given text)

-- the first field stays below 64
pub small-field : (fields fields_new text : List ℕ) → slice_index fields 0 < 64
    → slice_index fields_new 0 ≡ bit_xor (slice_index fields 0) (slice_index (fields_of text) 0)
    → slice_index fields_new 0 < 64
small-field fields fields_new text small is =
    let part : slice_index (fields_of text) 0 < 2 ^ 6 = omega arith in
    let both : bit_xor (slice_index fields 0) (slice_index (fields_of text) 0) < 2 ^ 6 =
    xor_lt 6 (slice_index fields 0) (slice_index (fields_of text) 0) small part in
    subst (λ n. n < 64) (sym is) both

-- what a register gives, by what it asks of its parts
pub finished : (p : Payload) (texts : Texts) (missing ssrc : ℕ) (fields body header text : List ℕ) (len number : ℕ)
    (spans : List Span) (covers : Bool) → IsOf (record { fields = fields; body = body }) p texts
    → len ≡ slice_index fields 6 * 256 + slice_index fields 7 → len ≤ MOST_REBUILT
    → covers ≡ nat_le len (covered_by p.long spans missing) → covers ≡ true → spans ≡ spans_of p.levels
    → number ≡ (p.base + missing) % 2 ^ 16 → header ≡ header_of fields number ssrc → text ≡ header ++ take len body
    → Ok text ≡ rebuilt p texts missing ssrc
finished p texts missing ssrc fields body header text len number spans covers is len_is few covers_is holds spans_are
    number_is header_is text_is =
    let within : len ≤ covered_by p.long spans missing = leb-true _ _ (sym covers_is ∙ holds) in
    let sums : Sums = record { fields = fields; body = body } in
    let given : List ℕ → Result (List ℕ) RecoverFault = λ x. Ok x in
    let shown : text ≡ header_of fields ((p.base + missing) % 2 ^ 16) ssrc ++ take len body =
    text_is ∙ ap (λ x. x ++ take len body) (header_is ∙ ap (λ n. header_of fields n ssrc) number_is) in
    ap given shown
    ∙ rebuilt-ok p texts missing ssrc sums len is len_is few
    (subst (λ s. len ≤ covered_by p.long s missing) spans_are within)

-- ---- why nothing is rebuilt

-- an answer of the code that is an error
seen-err : {Z : Type 0} (r : Result (Vec ℕ Z) RecoverFault) (e : RecoverFault) → IsErrOf r e → view_rebuilt r ≡ Err e
seen-err (Ok v) e h = absurd cc
seen-err (Err f) e h = cc

err-seen : {Z : Type 0} (r : Result (Vec ℕ Z) RecoverFault) (e : RecoverFault) → view_rebuilt r ≡ Err e → IsErrOf r e
err-seen (Ok v) e h = absurd cc
err-seen (Err f) e h = cc

-- the tests, in their order
is_long : (long far : Bool) (text : List ℕ)
    → cond long (Err BadLength) (cond far (Err NotCovered) (Ok text)) ≡ Err BadLength → long ≡ true
is_long true far text e = refl
is_long false true text e = absurd cc
is_long false false text e = absurd cc

is_far : (long far : Bool) (text : List ℕ)
    → cond long (Err BadLength) (cond far (Err NotCovered) (Ok text)) ≡ Err NotCovered → (long ≡ false) × (far ≡ true)
is_far true far text e = absurd cc
is_far false true text e = (refl, refl)
is_far false false text e = absurd cc

module _ {Z : Type 0} (p : Payload) (texts : Texts) (missing ssrc : ℕ) (r : Result (Vec ℕ Z) RecoverFault)
    (rebuilds : view_rebuilt r ≡ rebuilt p texts missing ssrc) where
  abbrev len : ℕ
  len = rebuilt_length p texts

  pub why-long : IsErrOf r BadLength ↔ (MOST_REBUILT < len)
  why-long = (
    λ h. ltb-true MOST_REBUILT len (is_long (nat_lt MOST_REBUILT len) (nat_lt (covered p missing) len)
        (rebuilt_text p texts missing ssrc) (sym rebuilds ∙ seen-err r BadLength h)),
    λ lt. err-seen r BadLength (rebuilds ∙ (rw (lt-ltb MOST_REBUILT len lt) refl)),
  )

  pub why-not_covered : IsErrOf r NotCovered ↔ (len ≤ MOST_REBUILT) × (covered p missing < len)
  why-not_covered = (
    λ h. let tests = is_far (nat_lt MOST_REBUILT len) (nat_lt (covered p missing) len)
        (rebuilt_text p texts missing ssrc) (sym rebuilds ∙ seen-err r NotCovered h) in
        (ltb-false MOST_REBUILT len tests.0, ltb-true (covered p missing) len tests.1),
    λ both. err-seen r NotCovered
        (rebuilds ∙ (rw (le-ltb MOST_REBUILT len both.0, lt-ltb (covered p missing) len both.1) refl)),
  )
