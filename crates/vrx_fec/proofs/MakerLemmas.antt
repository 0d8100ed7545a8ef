-- The payload of a maker's parts, and what is added to them.
use Rattle.std.proofs.Common.{◌≡◌, ℕ, zero, suc, ◌+◌, ◌-◌, ◌/◌, ◌%◌, ◌^◌, ◌<◌, ◌≤◌, Bool, true, false, List, [], ◌∷◌, ◌++◌, All, length, map, replicate, take, drop, bit_xor, Result, Ok, refl, sym, ap, ◌∙◌, subst, arith}
use Rattle.std.specs.Prelude.{◌==◌, if◌then◌else◌, slice_index, flat_map, IsOkAnd, ◌||◌, not, nat_le, nat_lt}
use Rattle.std.specs.List.{list_all}
use Rattle.vrx_num.specs.declared.limits.TheConstants.{HALF_SPACE}
use Rattle.std.proofs.lemmas.Bool.{eq-eqb, ne_eqb, true≢false}
use Rattle.std.proofs.lemmas.List.{drop-replicate, get_or-drop, get_or-replicate, length-drop, length-map, length-replicate, length-take-le, nil_from_length, take-append-drop, take-replicate}
use Rattle.std.proofs.lemmas.Nat.{from_be_bytes-to_be_bytes_2, xor_comm}
use Rattle.vrx_fec.specs.declared.fault.FecFault.{FecFault}
use Rattle.vrx_fec.specs.declared.maker.LevelPlan.{LevelPlan}
use Rattle.vrx_fec.specs.declared.span.Span.{Span}
use Rattle.vrx_fec.specs.Made.{ArePlanned, levels_of, made, span_masks, total}
use Rattle.vrx_fec.specs.Making.{IsPlan, blank, blank_level, form_of, Form, head_of, plan_masks, span_in}
use Rattle.vrx_fec.specs.Mask.{are_nested, is_named, width, offsets}
use Rattle.vrx_fec.specs.Payload.{FitsLevel, IsPayload, Level, Payload, level_octets, first_mask, has_long_masks, is_ahead, masks, octets_of, distance, protected}
use Rattle.vrx_fec.specs.Reading.{reading}
use Rattle.vrx_fec.specs.Parity.{IsParity, IsTrue, Texts, body_of, fields_of, mask_at, named, octet_at, recovery, spans_of, xor_of_fields, xor_of_octets}
use Rattle.vrx_fec.proofs.SumLemmas.{added, one-named}

-- ---- levels cut from one list

pub spans-levels_of : (spans : List Span) (body : List ℕ) → length body ≡ total spans
    → spans_of (levels_of spans body) ≡ spans
spans-levels_of [] body size = refl
spans-levels_of (span ∷ spans) body size =
    let here : length (take span.size body) ≡ span.size = length-take-le span.size body (omega arith) in
    let rest = spans-levels_of spans (drop span.size body) (omega (arith, length-drop span.size body)) in
    ap (λ (n : ℕ). record { mask = span.mask; size = n } ∷ spans_of (levels_of spans (drop span.size body))) here
    ∙ ap (λ (x : List Span). span ∷ x) rest

pub body-levels_of : (spans : List Span) (body : List ℕ) → length body ≡ total spans
    → body_of (levels_of spans body) ≡ body
body-levels_of [] body size = sym (nil_from_length body size)
body-levels_of (span ∷ spans) body size =
    let rest = body-levels_of spans (drop span.size body) (omega (arith, length-drop span.size body)) in
    ap (λ (x : List ℕ). take span.size body ++ x) rest ∙ take-append-drop span.size body

masks-levels_of : (spans : List Span) (body : List ℕ) → masks (levels_of spans body) ≡ span_masks spans
masks-levels_of [] body = refl
masks-levels_of (span ∷ spans) body = ap (λ (x : List ℕ). span.mask ∷ x) (masks-levels_of spans (drop span.size body))

length-levels_of : (spans : List Span) (body : List ℕ) → length (levels_of spans body) ≡ length spans
length-levels_of [] body = refl
length-levels_of (span ∷ spans) body = ap suc (length-levels_of spans (drop span.size body))

fits-levels_of : (long : Bool) (spans : List Span) (body : List ℕ) → length body ≡ total spans
    → All (λ span. span.mask < 2 ^ width long) spans → All (λ span. span.size < 2 ^ 16) spans
    → All (FitsLevel long) (levels_of spans body)
fits-levels_of long [] body size fits sizes i d lt = absurd (omega arith)
fits-levels_of long (span ∷ spans) body size fits sizes zero d lt =
    let here : length (take span.size body) ≡ span.size = length-take-le span.size body (omega arith) in
    let small : span.size < 2 ^ 16 = sizes 0 span (omega arith) in
    record { mask = fits 0 span (omega arith); size = omega arith }
fits-levels_of long (span ∷ spans) body size fits sizes (suc i) d lt =
    fits-levels_of long spans (drop span.size body) (omega (arith, length-drop span.size body))
    (λ j e less. fits (suc j) e (omega arith)) (λ j e less. sizes (suc j) e (omega arith)) i d (omega arith)

-- ---- the header

recovery-head : (long : Bool) (base : ℕ) (fields : List ℕ) → octet_at 0 fields < 64 → (k : ℕ) → k < 8
    → octet_at k (recovery (head_of long base fields)) ≡ octet_at k fields
recovery-head true base fields small zero lt = omega arith
recovery-head false base fields small zero lt = omega arith
recovery-head long base fields small (suc zero) lt = refl
recovery-head long base fields small (suc (suc zero)) lt = refl
recovery-head long base fields small (suc (suc (suc zero))) lt = refl
recovery-head long base fields small (suc (suc (suc (suc zero)))) lt = refl
recovery-head long base fields small (suc (suc (suc (suc (suc zero))))) lt = refl
recovery-head long base fields small (suc (suc (suc (suc (suc (suc zero)))))) lt = refl
recovery-head long base fields small (suc (suc (suc (suc (suc (suc (suc zero))))))) lt = refl
recovery-head long base fields small (suc (suc (suc (suc (suc (suc (suc (suc k)))))))) lt = absurd (omega arith)

long-head : (long : Bool) (base : ℕ) (fields : List ℕ) → octet_at 0 fields < 64
    → long ≡ has_long_masks (head_of long base fields)
long-head true base fields small =
    sym (eq-eqb ((64 + octet_at 0 fields) / 64 % 2) 1 (omega arith))
long-head false base fields small =
    sym (ne_eqb ((0 + octet_at 0 fields) / 64 % 2) 1 (λ one. omega arith))

-- ---- parity of parts

pub record HasParity (long : Bool) (spans : List Span) (fs os : List ℕ) (texts : Texts) : Type 0 where
  pub fields : (k : ℕ) → k < 8 → octet_at k fs ≡ xor_of_fields k texts
  pub body : (k : ℕ) → k < length os → octet_at k os ≡ xor_of_octets long spans k texts

module _ (long : Bool) (base : ℕ) (spans : List Span) (fields body : List ℕ) where
  pub parity-made : octet_at 0 fields < 64 → length body ≡ total spans → (texts : Texts)
      → HasParity long spans fields body texts → IsParity (made long base spans fields body) texts
  parity-made small size texts has = record {
    fields = λ k lt. recovery-head long base fields small k lt ∙ has.fields k lt;
    body = subst (λ (b : List ℕ). (k : ℕ) → k < length b →
        octet_at k b ≡ xor_of_octets long (spans_of (levels_of spans body)) k texts)
        (sym (body-levels_of spans body size))
        (subst (λ (s : List Span). (k : ℕ) → k < length body → octet_at k body ≡ xor_of_octets long s k texts)
        (sym (spans-levels_of spans body size)) has.body);
  }

  pub made-parity : octet_at 0 fields < 64 → length body ≡ total spans → (texts : Texts)
      → IsParity (made long base spans fields body) texts → HasParity long spans fields body texts
  made-parity small size texts is = record {
    fields = λ k lt. sym (recovery-head long base fields small k lt) ∙ is.fields k lt;
    body = subst (λ (s : List Span). (k : ℕ) → k < length body → octet_at k body ≡ xor_of_octets long s k texts)
        (spans-levels_of spans body size)
        (subst (λ (b : List ℕ). (k : ℕ) → k < length b →
        octet_at k b ≡ xor_of_octets long (spans_of (levels_of spans body)) k texts)
        (body-levels_of spans body size) is.body);
  }

-- one text more
pub parity-more : (long : Bool) (spans : List Span) (texts : Texts) (offset : ℕ)
    (text fields fields_new body body_new : List ℕ)
    → HasParity long spans fields body texts → length body_new ≡ length body
    → ((k : ℕ) → k < 8 → slice_index fields_new k ≡ bit_xor (slice_index fields k) (slice_index (fields_of text) k))
    → ((k : ℕ) → k < length body → slice_index body_new k ≡
    bit_xor (slice_index body k) (added long (mask_at spans k) offset (drop 12 text) k))
    → HasParity long spans fields_new body_new ((offset, text) ∷ texts)
parity-more long spans texts offset text fields fields_new body body_new has size fields_are body_are = record {
  fields = λ k lt. fields_are k lt ∙ ap (λ n. bit_xor n (slice_index (fields_of text) k)) (has.fields k lt)
      ∙ xor_comm (xor_of_fields k texts) (slice_index (fields_of text) k);
  body = λ k within.
      let inside : k < length body = omega (arith, size) in
      let mask : ℕ = mask_at spans k in
      let others : ℕ = xor_of_octets long spans k texts in
      body_are k inside
      ∙ ap (λ n. bit_xor n (added long mask offset (drop 12 text) k)) (has.body k inside)
      ∙ xor_comm others (added long mask offset (drop 12 text) k)
      ∙ ap (λ n. bit_xor (if is_named long mask offset then n else 0) others) (get_or-drop 12 text k 0)
      ∙ sym (one-named (λ t. octet_at (12 + k) t) (is_named long mask offset) (offset, text) (named long mask texts));
}

-- ---- the beginning

total-zeros : (plan : List LevelPlan)
    → levels_of (map span_in plan) (replicate (total (map span_in plan)) 0) ≡ map blank_level plan
total-zeros [] = refl
total-zeros (level ∷ plan) =
    let rest : ℕ = total (map span_in plan) in
    let within : level.length ≤ level.length + rest = omega arith in
    let left : level.length + rest - level.length ≡ rest = omega arith in
    let front : take level.length (replicate (level.length + rest) 0) ≡ replicate level.length 0 =
    take-replicate level.length (level.length + rest) 0 within in
    let back : drop level.length (replicate (level.length + rest) 0) ≡ replicate rest 0 =
    drop-replicate level.length (level.length + rest) 0 ∙ ap (λ (n : ℕ). replicate n 0) left in
    ap (λ (x : List ℕ). record { mask = level.mask; octets = x }
    ∷ levels_of (map span_in plan) (drop level.length (replicate (level.length + rest) 0))) front
    ∙ ap (λ (x : List ℕ). blank_level level ∷ levels_of (map span_in plan) x) back
    ∙ ap (λ (x : List Level). blank_level level ∷ x) (total-zeros plan)

pub made-blank : (long : Bool) (base : ℕ) (plan : List LevelPlan) (spans : List Span) (body : List ℕ) (size : ℕ)
    → spans ≡ map span_in plan → size ≡ total spans → body ≡ replicate size 0
    → made long base spans (replicate 8 0) body ≡ blank long base plan
made-blank long base plan spans body size spans_are size_is body_is =
    ap (made long base spans (replicate 8 0)) (body_is ∙ ap (λ n. replicate n 0) size_is)
    ∙ ap (λ s. made long base s (replicate 8 0) (replicate (total s) 0)) spans_are
    ∙ ap (λ (x : List Level).
    record { head = head_of long base (replicate 8 0); long = long; base = base; levels = x }) (total-zeros plan)

pub none-added : (long : Bool) (spans : List Span) (body : List ℕ) (size : ℕ) → body ≡ replicate size 0
    → HasParity long spans (replicate 8 0) body []
none-added long spans body size body_is = record {
  fields = λ k lt. get_or-replicate 8 k 0 0 lt;
  body = subst (λ (b : List ℕ). (k : ℕ) → k < length b → octet_at k b ≡ 0) (sym body_is)
      (λ k lt. get_or-replicate size k 0 0 (let z : ℕ = 0 in omega (arith, length-replicate size z)));
}

masks-planned : (plan : List LevelPlan) → span_masks (map span_in plan) ≡ plan_masks plan
masks-planned [] = refl
masks-planned (level ∷ plan) = ap (λ (x : List ℕ). level.mask ∷ x) (masks-planned plan)

fits-planned : (long : Bool) (plan : List LevelPlan) → All (λ level. level.mask < 2 ^ width long) plan
    → All (λ span. span.mask < 2 ^ width long) (map span_in plan)
fits-planned long [] all i d lt = absurd (omega arith)
fits-planned long (level ∷ plan) all zero d lt = all 0 level (omega arith)
fits-planned long (level ∷ plan) all (suc i) d lt =
    fits-planned long plan (λ j e less. all (suc j) e (omega arith)) i d (omega arith)

pub are-planned : (long : Bool) (plan : List LevelPlan) (spans : List Span) → spans ≡ map span_in plan
    → IsPlan long plan → All (λ span. span.size < 2 ^ 16) spans → ArePlanned long spans
are-planned long plan spans spans_are is sizes =
    subst (ArePlanned long) (sym spans_are) (record {
      few = omega (arith, length-map plan span_in, is.few);
      fits = fits-planned long plan is.fits;
      sizes = subst (λ (s : List Span). All (λ span. span.size < 2 ^ 16) s) spans_are sizes;
      nested = ap are_nested (masks-planned plan) ∙ is.nested;
      names_base = ap (λ ms. is_named long (first_mask ms) 0) (masks-planned plan) ∙ is.names_base;
    })

-- ---- the end

-- a mask that names the first offset isn't 0
named-some : (long : Bool) (mask : ℕ) → is_named long mask 0 ≡ true → (mask == 0) ≡ false
named-some long mask names = ne_eqb mask 0
    (λ none. none-named long (subst (λ m. is_named long m 0 ≡ true) none names)) where
      none-named : (b : Bool) → is_named b 0 0 ≡ true → ⊥
      none-named true is = true≢false (sym is)
      none-named false is = true≢false (sym is)

pub payload-made : (long : Bool) (base own : ℕ) (spans : List Span) (fields body : List ℕ) → ArePlanned long spans
    → base < 2 ^ 16 → octet_at 0 fields < 64 → length body ≡ total spans
    → is_ahead own (made long base spans fields body) ≡ false
    → IsPayload (octets_of (made long base spans fields body)) own (made long base spans fields body)
payload-made long base own spans fields body planned base_fits small size before = record {
  spelled = refl;
  head = refl;
  long = long-head long base fields small;
  base = sym (from_be_bytes-to_be_bytes_2 base base_fits);
  few = omega (arith, length-levels_of spans body, planned.few);
  fits = fits-levels_of long spans body size planned.fits planned.sizes;
  nested = ap are_nested (masks-levels_of spans body) ∙ planned.nested;
  protects = ap (λ ms. first_mask ms == 0) (masks-levels_of spans body)
      ∙ named-some long (first_mask (span_masks spans)) planned.names_base;
  before = before;
}

-- the same of what was put, one after the other
pub payload-put : (long : Bool) (base own : ℕ) (spans : List Span) (fields body : List ℕ) → ArePlanned long spans
    → base < 2 ^ 16 → octet_at 0 fields < 64 → length body ≡ total spans
    → is_ahead own (made long base spans fields body) ≡ false
    → (out head first all : List ℕ) (spans_now : List Span) (body_now : List ℕ) → out ≡ []
    → head ≡ head_of long base fields → first ≡ out ++ head → spans_now ≡ spans → body_now ≡ body
    → all ≡ first ++ flat_map (level_octets long) (levels_of spans_now body_now)
    → IsPayload all own (made long base spans fields body)
payload-put long base own spans fields body planned base_fits small size before out head first all spans_now body_now
    empty head_is first_is spans_is body_is all_is =
    let octets : all ≡ octets_of (made long base spans fields body) =
    all_is
    ∙ ap (λ (s : List Span). first ++ flat_map (level_octets long) (levels_of s body_now)) spans_is
    ∙ ap (λ (b : List ℕ). first ++ flat_map (level_octets long) (levels_of spans b)) body_is
    ∙ ap (λ (f : List ℕ). f ++ flat_map (level_octets long) (levels_of spans body))
    (first_is ∙ ap (λ (o : List ℕ). o ++ head) empty ∙ head_is) in
    subst (λ (o : List ℕ). IsPayload o own (made long base spans fields body)) (sym octets)
    (payload-made long base own spans fields body planned base_fits small size before)

-- other fields and octets, and the same form
pub made-form : (long : Bool) (base : ℕ) (spans : List Span) (fields fields_new body body_new : List ℕ)
    → length body ≡ total spans → length body_new ≡ total spans
    → form_of (made long base spans fields_new body_new) ≡ form_of (made long base spans fields body)
made-form long base spans fields fields_new body body_new size size_new =
    ap (λ (s : List Span). let f : Form = record { long = long; base = base; spans = s } in f)
    (spans-levels_of spans body_new size_new ∙ sym (spans-levels_of spans body size))

pub planned-length : (plan : List LevelPlan) (spans : List Span) → spans ≡ map span_in plan
    → length spans ≡ length plan
planned-length plan spans is = ap length is ∙ length-map plan span_in

pub zeros-length : (spans : List Span) (body : List ℕ) (size : ℕ) → body ≡ replicate size 0 → size ≡ total spans
    → length body ≡ total spans
zeros-length spans body size body_is size_is =
    let zero_octet : ℕ = 0 in ap length body_is ∙ length-replicate size zero_octet ∙ size_is

-- what is read is true, if the payload is
pub true-read : (octets : List ℕ) (own : ℕ) (p : Payload) (texts : Texts) → reading octets own ≡ Ok p → IsTrue p texts
    → IsOkAnd (reading octets own) (λ q. IsTrue q texts)
true-read octets own p texts reads is =
    subst (λ (r : Result Payload FecFault). IsOkAnd r (λ q. IsTrue q texts)) (sym reads) is

pub made-protected : (long : Bool) (base : ℕ) (spans : List Span) (fields fields_new body body_new : List ℕ)
    → protected (made long base spans fields_new body_new) ≡ protected (made long base spans fields body)
made-protected long base spans fields fields_new body body_new =
    ap (λ ms. offsets long (first_mask ms)) (masks-levels_of spans body_new ∙ sym (masks-levels_of spans body))

pub made-ahead : (long : Bool) (base own : ℕ) (spans : List Span) (fields fields_new body body_new : List ℕ)
    → is_ahead own (made long base spans fields_new body_new) ≡ is_ahead own (made long base spans fields body)
made-ahead long base own spans fields fields_new body body_new =
    ap (λ os. nat_le HALF_SPACE (distance own base) || not (list_all (λ i. nat_lt i (distance own base)) os))
    (made-protected long base spans fields fields_new body body_new)
