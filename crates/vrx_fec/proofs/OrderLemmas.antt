-- The order of texts makes no difference.
use Rattle.std.proofs.Common.{◌≡◌, ℕ, zero, suc, ◌+◌, ◌*◌, ◌%◌, ◌^◌, ◌<◌, Bool, cond, List, [], ◌∷◌, length, map, set, get_or, swap, bit_xor, IsPermutation, refl, sym, ap, ◌∙◌, inl, inr, arith}
use Rattle.std.specs.Prelude.{nat_lt, if◌then◌else◌, ◌++◌, Result, Ok, Err}
use Rattle.std.specs.Int.Bits.{xor_assoc, xor_self, xor_zero_r}
use Rattle.std.proofs.lemmas.Bool.{cases_eq}
use Rattle.std.proofs.lemmas.List.{get_or-set_other, get_or-set_same, length-set}
use Rattle.std.proofs.lemmas.List.Sorted.{IsPermutation-keeps, IsPermutation-map, IsPermutation-trans}
use Rattle.std.proofs.lemmas.Nat.{xor_comm}
use Rattle.vrx_fec.specs.declared.register.RecoverFault.{RecoverFault}
use Rattle.vrx_fec.specs.declared.register.RecoverFault.TheVariants.{BadLength, NotCovered}
use Rattle.vrx_fec.specs.declared.register.TheConstants.{MOST_REBUILT}
use Rattle.vrx_fec.specs.Mask.{is_named, numbers_from}
use Rattle.vrx_fec.specs.Payload.{Payload, protected}
use Rattle.vrx_fec.specs.Parity.{IsParity, IsTrue, Texts, body_of, fields_of, mask_at, named, octet_at, offsets_of, recovery, spans_of, xor_of, xor_of_fields, xor_of_octets}
use Rattle.vrx_fec.specs.Rebuilt.{IsOf, Sums, covered, header_of, rebuilt, rebuilt_field, rebuilt_length, rebuilt_octet, rebuilt_text}
use Rattle.vrx_fec.proofs.SumLemmas.{one-named}

-- ---- the XOR of what texts give

module _ (f : ℕ × List ℕ → ℕ) where
  xor_by : Texts → ℕ
  xor_by [] = 0
  xor_by (t ∷ ts) = bit_xor (f t) (xor_by ts)

  -- the first and the last are exchanged
  turned : (x r y : ℕ) → bit_xor (bit_xor x r) y ≡ bit_xor (bit_xor y r) x
  turned x r y = xor_comm (bit_xor x r) y ∙ ap (bit_xor y) (xor_comm x r) ∙ sym (xor_assoc y r x)

  -- one text is put in place of another
  xor_by-set : (ts : Texts) (i : ℕ) (t d : ℕ × List ℕ) → i < length ts
      → bit_xor (xor_by (set ts i t)) (f (get_or ts i d)) ≡ bit_xor (xor_by ts) (f t)
  unfolding xor_by
  xor_by-set [] i t d lt = absurd (omega arith)
  xor_by-set (u ∷ ts) zero t d lt = turned (f t) (xor_by ts) (f u)
  xor_by-set (u ∷ ts) (suc i) t d lt =
      xor_assoc (f u) (xor_by (set ts i t)) (f (get_or ts i d))
      ∙ ap (bit_xor (f u)) (xor_by-set ts i t d (omega arith))
      ∙ sym (xor_assoc (f u) (xor_by ts) (f t))

  cancelled : (x y r : ℕ) → bit_xor x r ≡ bit_xor y r → x ≡ y
  cancelled x y r same =
      sym (xor_assoc x r r ∙ ap (bit_xor x) (xor_self r) ∙ xor_zero_r x)
      ∙ ap (λ n. bit_xor n r) same
      ∙ xor_assoc y r r ∙ ap (bit_xor y) (xor_self r) ∙ xor_zero_r y

  xor_by-swap : (ts : Texts) (i j : ℕ) → i < length ts → j < length ts → xor_by (swap ts i j) ≡ xor_by ts
  xor_by-swap [] i j li lj = absurd (omega arith)
  xor_by-swap (d ∷ us) i j li lj =
      let ts : Texts = d ∷ us in
      let w : Texts = set ts i (get_or ts j d) in
      let there : get_or w j d ≡ get_or ts j d =
      elim (cases_eq j i) [
        | inl same ↦ ap (λ n. get_or w n d) same ∙ get_or-set_same ts i (get_or ts j d) d li
        | inr other ↦ get_or-set_other ts i j (get_or ts j d) d other
      ] in
      let second = xor_by-set w j (get_or ts i d) d (omega (arith, length-set ts i (get_or ts j d))) in
      cancelled (xor_by (set w j (get_or ts i d))) (xor_by ts) (f (get_or ts j d))
      (ap (λ t. bit_xor (xor_by (set w j (get_or ts i d))) (f t)) (sym there)
      ∙ second ∙ xor_by-set ts i (get_or ts j d) d li)

  xor_by-order : (ts us : Texts) → IsPermutation ts us → xor_by us ≡ xor_by ts
  xor_by-order ts us =
      IsPermutation-keeps ts (λ l. xor_by l ≡ xor_by ts) refl (λ l i j li lj h. xor_by-swap l i j li lj ∙ h) us

xor_of-by : (part : List ℕ → ℕ) (ts : Texts) → xor_of part ts ≡ xor_by (λ t. part t.1) ts
unfolding xor_by
xor_of-by part [] = refl
xor_of-by part (t ∷ ts) = ap (bit_xor (part t.1)) (xor_of-by part ts)

named-by : (part : List ℕ → ℕ) (long : Bool) (mask : ℕ) (ts : Texts)
    → xor_of part (named long mask ts) ≡ xor_by (λ t. cond (is_named long mask t.0) (part t.1) 0) ts
unfolding xor_by
named-by part long mask [] = refl
named-by part long mask (t ∷ ts) =
    one-named part (is_named long mask t.0) t (named long mask ts)
    ∙ ap (bit_xor (cond (is_named long mask t.0) (part t.1) 0)) (named-by part long mask ts)

-- ---- fields and octets

module _ (texts turned : Texts) (order : IsPermutation texts turned) where
  fields-order : (k : ℕ) → xor_of_fields k turned ≡ xor_of_fields k texts
  fields-order k =
      xor_of-by (λ t. octet_at k (fields_of t)) turned
      ∙ xor_by-order (λ t. octet_at k (fields_of t.1)) texts turned order
      ∙ sym (xor_of-by (λ t. octet_at k (fields_of t)) texts)

  octets-order : (p : Payload) (k : ℕ)
      → xor_of_octets p.long (spans_of p.levels) k turned ≡ xor_of_octets p.long (spans_of p.levels) k texts
  octets-order p k =
      let mask : ℕ = mask_at (spans_of p.levels) k in
      named-by (λ t. octet_at (12 + k) t) p.long mask turned
      ∙ xor_by-order (λ t. cond (is_named p.long mask t.0) (octet_at (12 + k) t.1) 0) texts turned order
      ∙ sym (named-by (λ t. octet_at (12 + k) t) p.long mask texts)

  field-order : (p : Payload) (k : ℕ) → rebuilt_field p turned k ≡ rebuilt_field p texts k
  field-order p k = ap (bit_xor (octet_at k (recovery p.head))) (fields-order k)

  octet-order : (p : Payload) (k : ℕ) → rebuilt_octet p turned k ≡ rebuilt_octet p texts k
  octet-order p k = ap (bit_xor (octet_at k (body_of p.levels))) (octets-order p k)

  pub parity-order : (p : Payload) → IsParity p texts → IsParity p turned
  parity-order p is = record {
    fields = λ k lt. is.fields k lt ∙ sym (fields-order k);
    body = λ k lt. is.body k lt ∙ sym (octets-order p k);
  }

  pub truth-order : (p : Payload) → IsTrue p texts → IsTrue p turned
  truth-order p is = record {
    protects = IsPermutation-trans (protected p) (offsets_of texts) (offsets_of turned) is.protects
        (IsPermutation-map (λ t. t.0) texts turned order);
    parity = parity-order p is.parity;
  }

  pub sums-order : (sums : Sums) (p : Payload) → IsOf sums p texts → IsOf sums p turned
  sums-order sums p is = record {
    fields = λ k lt. is.fields k lt ∙ sym (field-order p k);
    size = is.size;
    body = λ k lt. is.body k lt ∙ sym (octet-order p k);
  }

  map-order : (f g : ℕ → ℕ) → ((k : ℕ) → f k ≡ g k) → (ns : List ℕ) → map f ns ≡ map g ns
  map-order f g same [] = refl
  map-order f g same (n ∷ ns) = ap (λ m. m ∷ map f ns) (same n) ∙ ap (λ ms. g n ∷ ms) (map-order f g same ns)

  length-order : (p : Payload) → rebuilt_length p turned ≡ rebuilt_length p texts
  length-order p =
      ap (λ n. n * 256 + rebuilt_field p turned 7) (field-order p 6)
      ∙ ap (λ n. rebuilt_field p texts 6 * 256 + n) (field-order p 7)

  text-order : (p : Payload) (missing ssrc : ℕ)
      → rebuilt_text p turned missing ssrc ≡ rebuilt_text p texts missing ssrc
  text-order p missing ssrc =
      let number : ℕ = (p.base + missing) % 2 ^ 16 in
      ap (λ fs. header_of fs number ssrc ++ map (rebuilt_octet p turned) (numbers_from 0 (rebuilt_length p turned)))
      (map-order (rebuilt_field p turned) (rebuilt_field p texts) (field-order p) (numbers_from 0 8))
      ∙ ap (λ os. header_of (map (rebuilt_field p texts) (numbers_from 0 8)) number ssrc ++ os)
      (map-order (rebuilt_octet p turned) (rebuilt_octet p texts) (octet-order p)
      (numbers_from 0 (rebuilt_length p turned)))
      ∙ ap (λ n. header_of (map (rebuilt_field p texts) (numbers_from 0 8)) number ssrc
      ++ map (rebuilt_octet p texts) (numbers_from 0 n)) (length-order p)

  pub rebuilt-order : (p : Payload) (missing ssrc : ℕ) → rebuilt p turned missing ssrc ≡ rebuilt p texts missing ssrc
  rebuilt-order p missing ssrc =
      let answer : ℕ → List ℕ → Result (List ℕ) RecoverFault = λ n text.
      if nat_lt MOST_REBUILT n then Err BadLength
      else if nat_lt (covered p missing) n then Err NotCovered else Ok text in
      ap (λ n. answer n (rebuilt_text p turned missing ssrc)) (length-order p)
      ∙ ap (answer (rebuilt_length p texts)) (text-order p missing ssrc)
