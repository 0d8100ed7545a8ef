-- True parity and the other texts give the text that is missing.
use Rattle.std.proofs.Common.{◌≡◌, ℕ, ◌+◌, ◌-◌, ◌*◌, ◌/◌, ◌%◌, ◌^◌, ◌<◌, ◌≤◌, Bool, true, false, cond, List, All, IsPermutation, [], ◌∷◌, ◌++◌, length, map, take, drop, bit_and, bit_xor, Result, Ok, Err, refl, sym, ap, ◌∙◌, subst, inl, inr, arith}
use Rattle.std.specs.Prelude.{◌==◌, nat_lt, filter, slice_index, IsOkAnd, Vec}
use Rattle.std.specs.Int.{w16, w32, to_be_bytes}
use Rattle.std.specs.Int.Bits.{xor_assoc, xor_self, xor_zero_r}
use Rattle.std.proofs.lemmas.Bool.{and_from, and_parts, cases_Bool, cases_lt, eq-eqb, eqb-true, le-ltb, true≢false}
use Rattle.std.proofs.lemmas.List.Elements.{All-cons}
use Rattle.std.proofs.lemmas.List.Sorted.{All-permutation}
use Rattle.std.proofs.lemmas.List.{get_or-drop, length-drop, take_all}
use Rattle.std.proofs.lemmas.Nat.{and_mod, and_shr, from_be_bytes-to_be_bytes_2}
use Rattle.vrx_fec.specs.declared.register.RecoverFault.{RecoverFault}
use Rattle.vrx_fec.specs.declared.register.TheConstants.{MOST_REBUILT}
use Rattle.vrx_fec.specs.Rebuilt.{HasSize, IsFrom, IsRebuildable}
use Rattle.vrx_fec.specs.Mask.{are_nested, is_named, is_within, numbers_from, width}
use Rattle.vrx_fec.specs.Payload.{Level, Payload, first_mask, masks, protected}
use Rattle.vrx_fec.specs.Parity.{IsTrue, Texts, body_of, fields_of, mask_at, named, octet_at, offsets_of, recovery, span_of, spans_of, xor_of}
use Rattle.vrx_fec.specs.Rebuilt.{covered, covered_by, header_of, rebuilt, rebuilt_field, rebuilt_length, rebuilt_octet, rebuilt_text}
use Rattle.vrx_fec.specs.View.{view_rebuilt}
use Rattle.vrx_fec.proofs.SumLemmas.{covered-within, fields-at, mask_at-first, mask_at-later, same-header, take-places}

-- ---- one text out of a list

-- twice the same is nothing
cancel : (x r : ℕ) → bit_xor (bit_xor x r) r ≡ x
cancel x r = xor_assoc x r r ∙ ap (bit_xor x) (xor_self r) ∙ xor_zero_r x

-- a place of parity and of the others gives the one's
one-place : (part : List ℕ → ℕ) (others : Texts) (t : ℕ × List ℕ) (parity : ℕ)
    → parity ≡ xor_of part (t ∷ others) → bit_xor parity (xor_of part others) ≡ part t.1
one-place part others t parity is =
    ap (λ x. bit_xor x (xor_of part others)) is ∙ cancel (part t.1) (xor_of part others)

-- the same of the texts that a mask names, if it names the one
named-place : (part : List ℕ → ℕ) (long : Bool) (mask : ℕ) (others : Texts) (t : ℕ × List ℕ) (parity : ℕ)
    → is_named long mask t.0 ≡ true → parity ≡ xor_of part (named long mask (t ∷ others))
    → bit_xor parity (xor_of part (named long mask others)) ≡ part t.1
named-place part long mask others t parity names is =
    one-place part (named long mask others) t parity
    (is ∙ ap (λ b. xor_of part (cond b (t ∷ named long mask others) (named long mask others))) names)

-- what is protected is named by level 0
All-taken : (test : ℕ → Bool) (n : ℕ) (ns : List ℕ) → All (λ m. test m ≡ true) ns → (b : Bool) → test n ≡ b
    → All (λ m. test m ≡ true) (cond b (n ∷ ns) ns)
All-taken test n ns rest true is = All-cons (λ m. test m ≡ true) n ns is rest
All-taken test n ns rest false is = rest

All-filter : (test : ℕ → Bool) (ns : List ℕ) → All (λ n. test n ≡ true) (filter test ns)
All-filter test [] = λ i d lt. absurd (omega arith)
All-filter test (n ∷ ns) = All-taken test n (filter test ns) (All-filter test ns) (test n) refl

protected-named : (p : Payload) (texts : Texts) (t : ℕ × List ℕ)
    → IsPermutation (protected p) (offsets_of (t ∷ texts))
    → is_named p.long (first_mask (masks p.levels)) t.0 ≡ true
protected-named p texts t protects =
    let test : ℕ → Bool = is_named p.long (first_mask (masks p.levels)) in
    All-permutation (λ n. test n ≡ true) (protected p) (offsets_of (t ∷ texts)) protects
    (All-filter test (numbers_from 0 (width p.long))) 0 0 (omega arith)

-- ---- what is covered

-- a mask within another one names what that one names
bit-within : (a b : ℕ) → a % 2 ≡ 1 → bit_and a b % 2 ≡ a % 2 → b % 2 ≡ 1
bit-within a b one same =
    let both : bit_and (a % 2) (b % 2) ≡ 1 = sym (and_mod a b 1) ∙ same ∙ one in
    let first : bit_and 1 (b % 2) ≡ 1 = ap (λ n. bit_and n (b % 2)) (sym one) ∙ both in
    elim (cases_lt (b % 2) 1) [
      | inl lt ↦
          let none : b % 2 ≡ 0 = omega arith in
          let wrong : 0 ≡ 1 = subst (λ n. bit_and 1 n ≡ 1) none first in absurd (omega (arith, wrong))
      | inr le ↦ omega arith
    ]

within-named : (long : Bool) (mask other i : ℕ) → is_within mask other ≡ true → is_named long mask i ≡ true
    → is_named long other i ≡ true
within-named long mask other i inside names =
    let parts = and_parts (nat_lt i (width long)) (mask / 2 ^ (width long - 1 - i) % 2 == 1) names in
    let j : ℕ = width long - 1 - i in
    let one : mask / 2 ^ j % 2 ≡ 1 = eqb-true (mask / 2 ^ j % 2) 1 parts.1 in
    let all : bit_and mask other ≡ mask = eqb-true (bit_and mask other) mask inside in
    let shifted : bit_and (mask / 2 ^ j) (other / 2 ^ j) ≡ mask / 2 ^ j =
    sym (and_shr mask other j) ∙ ap (λ n. n / 2 ^ j) all in
    and_from (nat_lt i (width long)) (other / 2 ^ j % 2 == 1) parts.0
    (eq-eqb (other / 2 ^ j % 2) 1 (bit-within (mask / 2 ^ j) (other / 2 ^ j) one (ap (λ n. n % 2) shifted)))

-- if a mask doesn't name it, none that follows does, and nothing is covered
covered-none : (long : Bool) (i : ℕ) (level : Level) (levels : List Level)
    → are_nested (masks (level ∷ levels)) ≡ true
    → is_named long level.mask i ≡ false → covered_by long (spans_of (level ∷ levels)) i ≡ 0
covered-none long i level [] nested not_named = rw not_named refl
covered-none long i level (next ∷ levels) nested not_named =
    let parts = and_parts (is_within next.mask level.mask) (are_nested (masks (next ∷ levels))) nested in
    let neither : is_named long next.mask i ≡ false =
    elim (cases_Bool (is_named long next.mask i)) [
      | inl names ↦
          absurd (true≢false (sym (within-named long next.mask level.mask i parts.0 names) ∙ not_named))
      | inr is ↦ is
    ] in
    let rest = covered-none long i next levels parts.1 neither in
    ap (λ b. cond b (length level.octets) 0 + covered_by long (spans_of (next ∷ levels)) i) not_named ∙ omega arith

-- a place that is covered lies in a level that names it
module _ (long : Bool) (i : ℕ) where
  pub covered-named : (level : Level) (levels : List Level) (k : ℕ)
      → are_nested (masks (level ∷ levels)) ≡ true → is_named long level.mask i ≡ true
      → k < covered_by long (spans_of (level ∷ levels)) i
      → is_named long (mask_at (spans_of (level ∷ levels)) k) i ≡ true
  covered-named level [] k nested names within =
      let whole : k < length level.octets + 0 =
      subst (λ b. k < cond b (length level.octets) 0 + 0) names within in
      ap (λ m. is_named long m i) (mask_at-first (span_of level) [] k (omega arith)) ∙ names
  covered-named level (next ∷ levels) k nested names within =
      let size : ℕ = length level.octets in
      let parts = and_parts (is_within next.mask level.mask) (are_nested (masks (next ∷ levels))) nested in
      let whole : k < size + covered_by long (spans_of (next ∷ levels)) i =
      subst (λ b. k < cond b size 0 + covered_by long (spans_of (next ∷ levels)) i) names within in
      elim (cases_lt k size) [
        | inl lt ↦
            ap (λ m. is_named long m i) (mask_at-first (span_of level) (spans_of (next ∷ levels)) k lt) ∙ names
        | inr le ↦
            let later : k - size < covered_by long (spans_of (next ∷ levels)) i = omega arith in
            let there : is_named long (mask_at (spans_of (next ∷ levels)) (k - size)) i ≡ true =
            elim (cases_Bool (is_named long next.mask i)) [
              | inl is ↦ covered-named next levels (k - size) parts.1 is later
              | inr not_named ↦
                  let none : covered_by long (spans_of (next ∷ levels)) i ≡ 0 =
                  covered-none long i next levels parts.1 not_named in absurd (omega (arith, later, none))
            ] in
            ap (λ m. is_named long m i) (mask_at-later (span_of level) (spans_of (next ∷ levels)) k le) ∙ there
      ]

-- ---- what is rebuilt

module _ (p : Payload) (others : Texts) (offset : ℕ) (text : List ℕ)
    (true_is : IsTrue p ((offset, text) ∷ others)) where
  -- each field is the missing text's own
  field-own : (k : ℕ) → k < 8 → rebuilt_field p others k ≡ octet_at k (fields_of text)
  field-own k lt = one-place (λ t. octet_at k (fields_of t)) others (offset, text) (octet_at k (recovery p.head))
      (true_is.parity.fields k lt)

  pub length-own : HasSize text → rebuilt_length p others ≡ length text - 12
  length-own size =
      ap (λ n. n * 256 + rebuilt_field p others 7) (field-own 6 (omega arith))
      ∙ ap (λ n. octet_at 6 (fields_of text) * 256 + n) (field-own 7 (omega arith))
      ∙ from_be_bytes-to_be_bytes_2 (length text - 12) size.at_most

  -- and so is each octet that is covered
  octet-own : (k : ℕ) → k < length (body_of p.levels)
      → is_named p.long (mask_at (spans_of p.levels) k) offset ≡ true
      → rebuilt_octet p others k ≡ octet_at (12 + k) text
  octet-own k within names =
      named-place (λ t. octet_at (12 + k) t) p.long (mask_at (spans_of p.levels) k) others (offset, text)
      (octet_at k (body_of p.levels)) names (true_is.parity.body k within)

-- the header of a text, by its fields
pub header-own : (fields text : List ℕ) (number ssrc : ℕ)
    → ((k : ℕ) → k < 8 → octet_at k fields ≡ octet_at k (fields_of text))
    → 12 ≤ length text → octet_at 0 text / 64 ≡ 2 → take 2 (drop 2 text) ≡ to_be_bytes w16 number
    → take 4 (drop 8 text) ≡ to_be_bytes w32 ssrc → header_of fields number ssrc ++ drop 12 text ≡ text
header-own fields (t0 ∷ t1 ∷ t2 ∷ t3 ∷ t4 ∷ t5 ∷ t6 ∷ t7 ∷ t8 ∷ t9 ∷ t10 ∷ t11 ∷ rest) number ssrc own long version
    number_is source =
    let first : 128 + t0 % 64 ≡ t0 = omega (arith, version) in
    let all : List ℕ = t0 ∷ t1 ∷ t2 ∷ t3 ∷ t4 ∷ t5 ∷ t6 ∷ t7 ∷ t8 ∷ t9 ∷ t10 ∷ t11 ∷ rest in
    ap (λ x. x ++ rest) (same-header fields (fields_of all) number ssrc own)
    ∙ ap (λ (s : List ℕ). ((128 + t0 % 64) ∷ t1 ∷ to_be_bytes w16 number ++ t4 ∷ t5 ∷ t6 ∷ t7 ∷ s) ++ rest)
    (sym source)
    ∙ ap (λ (n : List ℕ). ((128 + t0 % 64) ∷ t1 ∷ n ++ t4 ∷ t5 ∷ t6 ∷ t7 ∷ t8 ∷ t9 ∷ t10 ∷ t11 ∷ []) ++ rest)
    (sym number_is)
    ∙ ap (λ n. n ∷ t1 ∷ t2 ∷ t3 ∷ t4 ∷ t5 ∷ t6 ∷ t7 ∷ t8 ∷ t9 ∷ t10 ∷ t11 ∷ rest) first
header-own fields text number ssrc own long version number_is source = absurd (omega arith)

covered-at : (long : Bool) (i : ℕ) (levels : List Level) (k : ℕ) → are_nested (masks levels) ≡ true
    → is_named long (first_mask (masks levels)) i ≡ true → k < covered_by long (spans_of levels) i
    → is_named long (mask_at (spans_of levels) k) i ≡ true
covered-at long i [] k nested names within = absurd (omega arith)
covered-at long i (level ∷ levels) k nested names within = covered-named long i level levels k nested names within

text-own : (p : Payload) (others : Texts) (offset : ℕ) (text : List ℕ) (ssrc : ℕ)
    → IsTrue p ((offset, text) ∷ others) → are_nested (masks p.levels) ≡ true → HasSize text
    → IsFrom p offset ssrc text → length text - 12 ≤ MOST_REBUILT → length text - 12 ≤ covered p offset
    → rebuilt p others offset ssrc ≡ Ok text
text-own p others offset text ssrc true_is nested size origin few within =
    let names = protected-named p others (offset, text) true_is.protects in
    let n : ℕ = length text - 12 in
    let number : ℕ = (p.base + offset) % 2 ^ 16 in
    let field : ℕ → ℕ = rebuilt_field p others in
    let octet : ℕ → ℕ = rebuilt_octet p others in
    let len : rebuilt_length p others ≡ n = length-own p others offset text true_is size in
    let rest_long : length (drop 12 text) ≡ n = length-drop 12 text in
    let at : (k : ℕ) → k < length (drop 12 text) → slice_index (drop 12 text) k ≡ octet k =
    λ k lt.
    let inside : k < covered p offset = omega (arith, rest_long) in
    get_or-drop 12 text k 0
    ∙ sym (octet-own p others offset text true_is k
    (omega (arith, inside, covered-within p.long offset p.levels))
    (covered-at p.long offset p.levels k nested names inside)) in
    let body : map octet (numbers_from 0 n) ≡ drop 12 text =
    sym (take-places octet n (drop 12 text) (omega (arith, rest_long)) at)
    ∙ take_all n (drop 12 text) (omega (arith, rest_long)) in
    let fields : List ℕ = map field (numbers_from 0 8) in
    let own : (k : ℕ) → k < 8 → octet_at k fields ≡ octet_at k (fields_of text) =
    λ k lt. sym (fields-at field (fields_of text)
    (λ j less. sym (field-own p others offset text true_is j less)) k lt) in
    let text_is : rebuilt_text p others offset ssrc ≡ text =
    ap (λ m. header_of fields number ssrc ++ map octet (numbers_from 0 m)) len
    ∙ ap (λ (x : List ℕ). header_of fields number ssrc ++ x) body
    ∙ header-own fields text number ssrc own size.at_least origin.version origin.number origin.source in
    let not_long : nat_lt MOST_REBUILT (rebuilt_length p others) ≡ false =
    le-ltb MOST_REBUILT (rebuilt_length p others) (omega (arith, len)) in
    let not_far : nat_lt (covered p offset) (rebuilt_length p others) ≡ false =
    le-ltb (covered p offset) (rebuilt_length p others) (omega (arith, len)) in
    let given : List ℕ → Result (List ℕ) RecoverFault = λ x. Ok x in
    rw (not_long, not_far) (ap given text_is)

pub text-rebuilt : (p : Payload) (others : Texts) (offset ssrc : ℕ) (text : List ℕ)
    → IsRebuildable p others offset ssrc text → rebuilt p others offset ssrc ≡ Ok text
text-rebuilt p others offset ssrc text is =
    text-own p others offset text ssrc is.true_is is.nested is.size is.origin is.few is.within

-- of the answer of the code
pub given-own : {Z : Type 0} (p : Payload) (others : Texts) (missing ssrc : ℕ) (text : List ℕ)
    (r : Result (Vec ℕ Z) RecoverFault) → view_rebuilt r ≡ rebuilt p others missing ssrc
    → IsRebuildable p others missing ssrc text → IsOkAnd r (λ out. out.items ≡ text)
given-own p others missing ssrc text (Ok v) rebuilds is =
    let given : List ℕ → Result (List ℕ) RecoverFault = λ x. Ok x in
    let e : given v.items ≡ given text = rebuilds ∙ text-rebuilt p others missing ssrc text is in cc
given-own p others missing ssrc text (Err e) rebuilds is =
    let wrong = rebuilds ∙ text-rebuilt p others missing ssrc text is in absurd cc
