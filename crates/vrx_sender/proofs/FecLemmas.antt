-- The FEC payload of a frame's packets.
use Rattle.std.proofs.Common.{◌≡◌, ℕ, zero, suc, ◌+◌, ◌/◌, ◌%◌, ◌^◌, ◌<◌, Bool, true, false, List, [], ◌∷◌, ◌++◌, length, map, get_or, replicate, ◌≢◌, refl, ap, sym, ◌∙◌, subst, arith}
use Rattle.std.specs.Prelude.{◌||◌, not, nat_le, nat_lt, flat_map}
use Rattle.std.specs.Int.{w16, to_be_bytes, from_be_bytes}
use Rattle.std.specs.List.{list_all}
use Rattle.std.proofs.lemmas.Bool.{eqb-false, lt-leb}
use Rattle.std.proofs.lemmas.List.{append-nil, same_lists, get_or_default, length-replicate}
use Rattle.std.proofs.lemmas.Nat.{be_bytes_2}
use Rattle.vrx_num.specs.Octets.{AreOctets}
use Rattle.vrx_num.specs.declared.limits.TheConstants.{HALF_SPACE}
use Rattle.vrx_fec.specs.declared.maker.LevelPlan.{LevelPlan}
use Rattle.vrx_fec.specs.declared.span.Span.{Span}
use Rattle.vrx_fec.specs.Making.{IsPlan, Form, blank, form_of, head_of}
use Rattle.vrx_fec.specs.Mask.{is_named, numbers_from, offsets}
use Rattle.vrx_fec.specs.Payload.{IsPayload, Level, Payload, base_in, distance, has_long_masks, is_ahead, level_octets, masks, first_mask, octets_of, protected}
use Rattle.vrx_fec.specs.Parity.{IsParity, Texts, body_of, octet_at, recovery, span_of, spans_of, xor_of_fields, xor_of_octets}
use Rattle.vrx_sender.specs.Made.{cleared}
use Rattle.vrx_sender.specs.Packets.{longest, mask_of, parity}
use Rattle.vrx_sender.proofs.NumbersLemmas.{at-numbers, length-mapped}

-- ---- the mask of so many offsets

pub offsets-mask : (n : ℕ) → n < 13 → offsets false (mask_of n) ≡ numbers_from 0 n
offsets-mask zero few = refl
offsets-mask (suc zero) few = refl
offsets-mask (suc (suc zero)) few = refl
offsets-mask (suc (suc (suc zero))) few = refl
offsets-mask (suc (suc (suc (suc zero)))) few = refl
offsets-mask (suc (suc (suc (suc (suc zero))))) few = refl
offsets-mask (suc (suc (suc (suc (suc (suc zero)))))) few = refl
offsets-mask (suc (suc (suc (suc (suc (suc (suc zero))))))) few = refl
offsets-mask (suc (suc (suc (suc (suc (suc (suc (suc zero)))))))) few = refl
offsets-mask (suc (suc (suc (suc (suc (suc (suc (suc (suc zero))))))))) few = refl
offsets-mask (suc (suc (suc (suc (suc (suc (suc (suc (suc (suc zero)))))))))) few = refl
offsets-mask (suc (suc (suc (suc (suc (suc (suc (suc (suc (suc (suc zero))))))))))) few = refl
offsets-mask (suc (suc (suc (suc (suc (suc (suc (suc (suc (suc (suc (suc zero)))))))))))) few = refl
offsets-mask (suc (suc (suc (suc (suc (suc (suc (suc (suc (suc (suc (suc (suc n))))))))))))) few = absurd (omega arith)

pub names-first : (n : ℕ) → 0 < n → n < 13 → is_named false (mask_of n) 0 ≡ true
names-first zero some few = absurd (omega arith)
names-first (suc zero) some few = refl
names-first (suc (suc zero)) some few = refl
names-first (suc (suc (suc zero))) some few = refl
names-first (suc (suc (suc (suc zero)))) some few = refl
names-first (suc (suc (suc (suc (suc zero))))) some few = refl
names-first (suc (suc (suc (suc (suc (suc zero)))))) some few = refl
names-first (suc (suc (suc (suc (suc (suc (suc zero))))))) some few = refl
names-first (suc (suc (suc (suc (suc (suc (suc (suc zero)))))))) some few = refl
names-first (suc (suc (suc (suc (suc (suc (suc (suc (suc zero))))))))) some few = refl
names-first (suc (suc (suc (suc (suc (suc (suc (suc (suc (suc zero)))))))))) some few = refl
names-first (suc (suc (suc (suc (suc (suc (suc (suc (suc (suc (suc zero))))))))))) some few = refl
names-first (suc (suc (suc (suc (suc (suc (suc (suc (suc (suc (suc (suc zero)))))))))))) some few = refl
names-first (suc (suc (suc (suc (suc (suc (suc (suc (suc (suc (suc (suc (suc n))))))))))))) some few = absurd (omega arith)

pub below-own : (n : ℕ) → n < 13 → list_all (λ i. nat_lt i n) (numbers_from 0 n) ≡ true
below-own zero few = refl
below-own (suc zero) few = refl
below-own (suc (suc zero)) few = refl
below-own (suc (suc (suc zero))) few = refl
below-own (suc (suc (suc (suc zero)))) few = refl
below-own (suc (suc (suc (suc (suc zero))))) few = refl
below-own (suc (suc (suc (suc (suc (suc zero)))))) few = refl
below-own (suc (suc (suc (suc (suc (suc (suc zero))))))) few = refl
below-own (suc (suc (suc (suc (suc (suc (suc (suc zero)))))))) few = refl
below-own (suc (suc (suc (suc (suc (suc (suc (suc (suc zero))))))))) few = refl
below-own (suc (suc (suc (suc (suc (suc (suc (suc (suc (suc zero)))))))))) few = refl
below-own (suc (suc (suc (suc (suc (suc (suc (suc (suc (suc (suc zero))))))))))) few = refl
below-own (suc (suc (suc (suc (suc (suc (suc (suc (suc (suc (suc (suc zero)))))))))))) few = refl
below-own (suc (suc (suc (suc (suc (suc (suc (suc (suc (suc (suc (suc (suc n))))))))))))) few = absurd (omega arith)

pub mask-fits : (n : ℕ) → n < 13 → mask_of n < 2 ^ 16
mask-fits zero few = omega arith
mask-fits (suc zero) few = omega arith
mask-fits (suc (suc zero)) few = omega arith
mask-fits (suc (suc (suc zero))) few = omega arith
mask-fits (suc (suc (suc (suc zero)))) few = omega arith
mask-fits (suc (suc (suc (suc (suc zero))))) few = omega arith
mask-fits (suc (suc (suc (suc (suc (suc zero)))))) few = omega arith
mask-fits (suc (suc (suc (suc (suc (suc (suc zero))))))) few = omega arith
mask-fits (suc (suc (suc (suc (suc (suc (suc (suc zero)))))))) few = omega arith
mask-fits (suc (suc (suc (suc (suc (suc (suc (suc (suc zero))))))))) few = omega arith
mask-fits (suc (suc (suc (suc (suc (suc (suc (suc (suc (suc zero)))))))))) few = omega arith
mask-fits (suc (suc (suc (suc (suc (suc (suc (suc (suc (suc (suc zero))))))))))) few = omega arith
mask-fits (suc (suc (suc (suc (suc (suc (suc (suc (suc (suc (suc (suc zero)))))))))))) few = omega arith
mask-fits (suc (suc (suc (suc (suc (suc (suc (suc (suc (suc (suc (suc (suc n))))))))))))) few = absurd (omega arith)

-- ---- a plan of one level

-- the level that protects so many packets whole
abbrev pub level_for : ℕ → ℕ → LevelPlan
level_for n size = record { mask = mask_of n; length = size }

pub is-plan : (n size : ℕ) → 0 < n → n < 13 → IsPlan false (level_for n size ∷ [])
is-plan n size some few = record {
  some = omega arith;
  few = omega arith;
  fits = λ i d lt. one i d lt;
  nested = refl;
  names_base = names-first n some few;
}
  where
    one : (i : ℕ) (d : LevelPlan) → i < 1 → (get_or (level_for n size ∷ []) i d).mask < 2 ^ 16
    one zero d lt = mask-fits n few
    one (suc i) d lt = absurd (omega arith)

-- ---- the payload that was made

-- one level has this span
one-level : (levels : List Level) (span : Span) → spans_of levels ≡ span ∷ [] →
    (l : Level) × (levels ≡ l ∷ []) × (span_of l ≡ span)
one-level [] span is = absurd cc
one-level (l ∷ []) span is = (l, refl, cc)
one-level (l ∷ m ∷ ls) span is = absurd cc

pub record HasForm (p : Payload) (n size base : ℕ) : Type 0 where
  pub long : p.long ≡ false
  pub base_is : p.base ≡ base
  pub level : Level
  pub levels : p.levels ≡ level ∷ []
  pub span : span_of level ≡ record { mask = mask_of n; size = size }

pub has-form : (p : Payload) (n size base : ℕ) → form_of p ≡ form_of (blank false base (level_for n size ∷ [])) →
    HasForm p n size base
has-form p n size base form =
    let one = one-level p.levels (record { mask = mask_of n; size = size }) (ap (λ (f : Form). f.spans) form ∙ zeros) in
    record {
      long = ap (λ (f : Form). f.long) form;
      base_is = ap (λ (f : Form). f.base) form;
      level = one.0;
      levels = one.1;
      span = one.2;
    }
  where
    zeros : spans_of (record { mask = mask_of n; octets = replicate size 0 } ∷ []) ≡ record { mask = mask_of n; size = size } ∷ []
    zeros = let z : ℕ = 0 in ap (λ (k : ℕ). record { mask = mask_of n; size = k } ∷ []) (length-replicate size z)

-- the number after all that are protected
abbrev pub own_of : ℕ → ℕ → ℕ
own_of base n = (base + n) % 65536

far : (base n : ℕ) → base < 65536 → n < 13 → distance (own_of base n) base ≡ n
far base n fits few = omega arith

abbrev ahead_with : ℕ → List ℕ → Bool
ahead_with d os = nat_le HALF_SPACE d || not (list_all (λ i. nat_lt i d) os)

pub not-ahead : (p : Payload) (n size base : ℕ) → base < 65536 → n < 13 → HasForm p n size base →
    is_ahead (own_of base n) p ≡ false
not-ahead p n size base fits few has =
    ap (λ (b : ℕ). ahead_with (distance (own_of base n) b) (protected p)) has.base_is
    ∙ ap (λ (d : ℕ). ahead_with d (protected p)) (far base n fits few)
    ∙ ap (ahead_with n) names
    ∙ near n few
  where
    names : protected p ≡ numbers_from 0 n
    names = ap (λ (b : Bool). offsets b (first_mask (masks p.levels))) has.long
        ∙ ap (λ (ls : List Level). offsets false (first_mask (masks ls))) has.levels
        ∙ ap (λ (s : Span). offsets false s.mask) has.span
        ∙ offsets-mask n few

    near : (m : ℕ) → m < 13 → ahead_with m (numbers_from 0 m) ≡ false
    near m small = rw (lt-leb HALF_SPACE m (omega arith)) (rw (below-own m small) refl)

two-are : (a b : ℕ) → a < 256 → b < 256 → to_be_bytes w16 (from_be_bytes w16 (a ∷ b ∷ [])) ≡ a ∷ b ∷ []
two-are a b a_fits b_fits = be_bytes_2 (a ∷ b ∷ []) _ refl fits refl
  where
    fits : (i : ℕ) → get_or (a ∷ b ∷ []) i 0 < 256
    fits zero = a_fits
    fits (suc zero) = b_fits
    fits (suc (suc i)) = omega arith

-- the header is that of the parity, once bit E is cleared
head-is : (head rest : List ℕ) (base : ℕ) (texts : Texts) → length head ≡ 10 → AreOctets (head ++ rest) →
    has_long_masks head ≡ false → base_in head ≡ base →
    ((k : ℕ) → k < 8 → octet_at k (recovery head) ≡ xor_of_fields k texts) →
    cleared (head ++ rest) ≡ head_of false base (map (λ k. xor_of_fields k texts) (numbers_from 0 8)) ++ rest
head-is (h0 ∷ h1 ∷ h2 ∷ h3 ∷ h4 ∷ h5 ∷ h6 ∷ h7 ∷ h8 ∷ h9 ∷ []) rest base texts size octets short base_is fields =
    let e0 : h0 % 64 ≡ xor_of_fields 0 texts = fields 0 (omega arith) in
    let e1 : h1 ≡ xor_of_fields 1 texts = fields 1 (omega arith) in
    let e4 : h4 ≡ xor_of_fields 2 texts = fields 2 (omega arith) in
    let e5 : h5 ≡ xor_of_fields 3 texts = fields 3 (omega arith) in
    let e6 : h6 ≡ xor_of_fields 4 texts = fields 4 (omega arith) in
    let e7 : h7 ≡ xor_of_fields 5 texts = fields 5 (omega arith) in
    let e8 : h8 ≡ xor_of_fields 6 texts = fields 6 (omega arith) in
    let e9 : h9 ≡ xor_of_fields 7 texts = fields 7 (omega arith) in
    let flag : h0 / 64 % 2 ≢ 1 = eqb-false (h0 / 64 % 2) 1 short in
    let first : h0 % 128 ≡ 0 + xor_of_fields 0 texts = omega (arith, e0, flag) in
    let two : to_be_bytes w16 base ≡ h2 ∷ h3 ∷ [] =
    ap (to_be_bytes w16) (sym base_is) ∙ two-are h2 h3 (octets 2 0 (more 2 (omega arith))) (octets 3 0 (more 3 (omega arith))) in
    ap (λ (x : ℕ). x ∷ h1 ∷ h2 ∷ h3 ∷ h4 ∷ h5 ∷ h6 ∷ h7 ∷ h8 ∷ h9 ∷ rest) first
    ∙ ap (λ (x : ℕ). (0 + xor_of_fields 0 texts) ∷ x ∷ h2 ∷ h3 ∷ h4 ∷ h5 ∷ h6 ∷ h7 ∷ h8 ∷ h9 ∷ rest) e1
    ∙ ap (λ (x : ℕ). (0 + xor_of_fields 0 texts) ∷ xor_of_fields 1 texts ∷ h2 ∷ h3 ∷ x ∷ h5 ∷ h6 ∷ h7 ∷ h8 ∷ h9 ∷ rest) e4
    ∙ ap (λ (x : ℕ). (0 + xor_of_fields 0 texts) ∷ xor_of_fields 1 texts ∷ h2 ∷ h3 ∷ xor_of_fields 2 texts ∷ x ∷ h6 ∷ h7 ∷ h8 ∷ h9 ∷ rest) e5
    ∙ ap (λ (x : ℕ). (0 + xor_of_fields 0 texts) ∷ xor_of_fields 1 texts ∷ h2 ∷ h3 ∷ xor_of_fields 2 texts ∷ xor_of_fields 3 texts ∷ x ∷ h7 ∷ h8 ∷ h9 ∷ rest) e6
    ∙ ap (λ (x : ℕ). (0 + xor_of_fields 0 texts) ∷ xor_of_fields 1 texts ∷ h2 ∷ h3 ∷ xor_of_fields 2 texts ∷ xor_of_fields 3 texts ∷ xor_of_fields 4 texts ∷ x ∷ h8 ∷ h9 ∷ rest) e7
    ∙ ap (λ (x : ℕ). (0 + xor_of_fields 0 texts) ∷ xor_of_fields 1 texts ∷ h2 ∷ h3 ∷ xor_of_fields 2 texts ∷ xor_of_fields 3 texts ∷ xor_of_fields 4 texts ∷ xor_of_fields 5 texts ∷ x ∷ h9 ∷ rest) e8
    ∙ ap (λ (x : ℕ). (0 + xor_of_fields 0 texts) ∷ xor_of_fields 1 texts ∷ h2 ∷ h3 ∷ xor_of_fields 2 texts ∷ xor_of_fields 3 texts ∷ xor_of_fields 4 texts ∷ xor_of_fields 5 texts ∷ xor_of_fields 6 texts ∷ x ∷ rest) e9
    ∙ ap (λ (x : List ℕ). ((0 + xor_of_fields 0 texts) ∷ xor_of_fields 1 texts ∷ x ++ xor_of_fields 2 texts ∷ xor_of_fields 3 texts ∷ xor_of_fields 4 texts ∷ xor_of_fields 5 texts ∷ xor_of_fields 6 texts ∷ xor_of_fields 7 texts ∷ []) ++ rest) (sym two)
  where
    more : (k : ℕ) → k < 10 → k < length (h0 ∷ h1 ∷ h2 ∷ h3 ∷ h4 ∷ h5 ∷ h6 ∷ h7 ∷ h8 ∷ h9 ∷ rest)
    more k lt = omega arith
head-is head rest base texts size octets short base_is fields = absurd (omega arith)

-- the level is that of the parity
level-is : (l : Level) (n size : ℕ) (texts : Texts) → span_of l ≡ record { mask = mask_of n; size = size } →
    ((k : ℕ) → k < length (body_of (l ∷ [])) →
    octet_at k (body_of (l ∷ [])) ≡ xor_of_octets false (spans_of (l ∷ [])) k texts) →
    l ≡ record { mask = mask_of n; octets = map (λ k. xor_of_octets false (record { mask = mask_of n; size = size } ∷ []) k texts) (numbers_from 0 size) }
level-is l n size texts span body =
    let mask : l.mask ≡ mask_of n = ap (λ (s : Span). s.mask) span in
    let zero-more : (k : ℕ) → k ≡ 0 + k = λ k. omega arith in
    let len : length l.octets ≡ size = ap (λ (s : Span). s.size) span in
    let f : ℕ → ℕ = λ k. xor_of_octets false (record { mask = mask_of n; size = size } ∷ []) k texts in
    let octets : l.octets ≡ map f (numbers_from 0 size) =
    same_lists l.octets (map f (numbers_from 0 size)) (len ∙ sym (length-mapped f 0 size)) (λ k d lt.
    sym (get_or_default l.octets k 0 d lt)
    ∙ sym (ap (λ (x : List ℕ). get_or x k 0) (append-nil l.octets))
    ∙ body k (subst (λ (x : List ℕ). k < length x) (sym (append-nil l.octets)) lt)
    ∙ ap (λ (s : Span). xor_of_octets false (s ∷ []) k texts) span
    ∙ ap f (zero-more k) ∙ sym (at-numbers f 0 size k d (omega (arith, len, lt)))) in
    ap (λ (m : ℕ). record { mask = m; octets = l.octets }) mask ∙ ap (λ (o : List ℕ). record { mask = mask_of n; octets = o }) octets

abbrev parity_with : ℕ → Texts → ℕ → ℕ → Payload
parity_with b ts m s = record {
  head = head_of false b (map (λ k. xor_of_fields k ts) (numbers_from 0 8));
  long = false;
  base = b;
  levels = record {
    mask = mask_of m;
    octets = map (λ k. xor_of_octets false (record { mask = mask_of m; size = s } ∷ []) k ts) (numbers_from 0 s);
  } ∷ [];
}

-- WHAT WAS MADE of texts, so many of which the mask names, is their parity
pub made-is : (p : Payload) (octets : List ℕ) (base own n size : ℕ) (texts : Texts) → length texts ≡ n →
    longest texts ≡ size → HasForm p n size base → IsParity p texts → IsPayload octets own p → AreOctets octets →
    cleared octets ≡ octets_of (parity base texts)
made-is p octets base own n size texts count long has parity_is payload bytes =
    let level = level-is has.level n size texts has.span (subst (λ (ls : List Level). (k : ℕ) → k < length (body_of ls) →
    octet_at k (body_of ls) ≡ xor_of_octets false (spans_of ls) k texts) has.levels
    (subst (λ (b : Bool). (k : ℕ) → k < length (body_of p.levels) →
    octet_at k (body_of p.levels) ≡ xor_of_octets b (spans_of p.levels) k texts) has.long parity_is.body)) in
    let rest : List ℕ = flat_map (level_octets p.long) p.levels in
    ap cleared payload.spelled
    ∙ head-is p.head rest base texts payload.head (subst AreOctets payload.spelled bytes)
    (sym payload.long ∙ has.long) (sym payload.base ∙ has.base_is) parity_is.fields
    ∙ ap (λ (b : Bool). head_of false base (map (λ k. xor_of_fields k texts) (numbers_from 0 8)) ++ flat_map (level_octets b) p.levels) has.long
    ∙ ap (λ (ls : List Level). head_of false base (map (λ k. xor_of_fields k texts) (numbers_from 0 8)) ++ flat_map (level_octets false) ls)
    (has.levels ∙ ap (λ (l : Level). l ∷ []) level)
    ∙ ap (λ (x : ℕ × ℕ). octets_of (parity_with base texts x.0 x.1)) (ap (λ (m : ℕ). (m, size)) (sym count) ∙ ap (λ (s : ℕ). (length texts, s)) (sym long))
