-- Reading gives a payload exactly if the octets are that payload.
use Rattle.std.proofs.Common.{◌≡◌, ℕ, zero, suc, ◌+◌, ◌/◌, ◌%◌, ◌^◌, ◌<◌, ◌≤◌, Bool, true, false, cond, List, [], ◌∷◌, ◌++◌, length, take, drop, get_or, Option, None, Some, Result, Ok, Err, All, refl, sym, ap, ◌∙◌, subst, inl, inr, arith}
use Rattle.std.specs.Prelude.{◌==◌, nat_lt, flat_map, IfOk, IsOkAnd}
use Rattle.std.specs.Int.{w16, w64, to_be_bytes, from_be_bytes}
use Rattle.std.proofs.lemmas.Bool.{and_parts, cases_lt, le-ltb, ltb-false}
use Rattle.std.proofs.lemmas.List.{drop_at, get_or_past, get_or-append-add, length-append, length-take-le, take_at, take-append-drop}
use Rattle.std.proofs.lemmas.Nat.{be_bytes_2, be_bytes_8, from_be_bytes-to_be_bytes_2, from_be_bytes-to_be_bytes_8}
use Rattle.vrx_num.specs.Octets.{AreOctets}
use Rattle.vrx_num.specs.ResultChain.{◌>>=◌}
use Rattle.vrx_fec.specs.declared.fault.FecFault.{FecFault}
use Rattle.vrx_fec.specs.declared.fault.FecFaultKind.TheVariants.{LevelPastEnd}
use Rattle.vrx_fec.specs.declared.fec.Fec.{Fec}
use Rattle.vrx_fec.specs.Mask.{are_nested, is_within}
use Rattle.vrx_fec.specs.Payload.{FitsLevel, IsPayload, Level, Payload, base_in, first_mask, has_long_masks, is_ahead, level_octets, mask_octets, masks}
use Rattle.vrx_fec.specs.Reading.{fault, head_at, is_nested, level_at, level_of, level_size, levels_at, nested_at, next_level_at, payload_of, protecting, reading}
use Rattle.vrx_fec.specs.View.{view, view_result}

-- ---- octets

-- each is an octet, and 0 stands past the end
abbrev pub IsBytes : List ℕ → Type 0
IsBytes bytes = (i : ℕ) → get_or bytes i 0 < 256

IsBytes-octets : (octets : List ℕ) → AreOctets octets → IsBytes octets
IsBytes-octets octets are i =
    elim (cases_lt i (length octets)) [
      | inl lt ↦ are i 0 lt
      | inr le ↦ rw (get_or_past octets i 0 le) (omega arith)
    ]

IsBytes-after : (front after octets : List ℕ) → octets ≡ front ++ after → IsBytes octets → IsBytes after
IsBytes-after front after octets is bytes i =
    subst (λ n. n < 256) (ap (λ x. get_or x (length front + i) 0) is ∙ get_or-append-add front after i 0)
    (bytes (length front + i))

two_fit : (a b : ℕ) → a < 256 → b < 256 → IsBytes (a ∷ b ∷ [])
two_fit a b a_fits b_fits zero = a_fits
two_fit a b a_fits b_fits (suc zero) = b_fits
two_fit a b a_fits b_fits (suc (suc i)) = omega arith

two_are : (a b : ℕ) → a < 256 → b < 256 → to_be_bytes w16 (from_be_bytes w16 (a ∷ b ∷ [])) ≡ a ∷ b ∷ []
two_are a b a_fits b_fits = be_bytes_2 (a ∷ b ∷ []) _ refl (two_fit a b a_fits b_fits) refl

six_fit : (a b c d e f : ℕ) → a < 256 → b < 256 → c < 256 → d < 256 → e < 256 → f < 256
    → IsBytes (0 ∷ 0 ∷ a ∷ b ∷ c ∷ d ∷ e ∷ f ∷ [])
six_fit a b c d e f pa pb pc pd pe pf zero = omega arith
six_fit a b c d e f pa pb pc pd pe pf (suc zero) = omega arith
six_fit a b c d e f pa pb pc pd pe pf (suc (suc zero)) = pa
six_fit a b c d e f pa pb pc pd pe pf (suc (suc (suc zero))) = pb
six_fit a b c d e f pa pb pc pd pe pf (suc (suc (suc (suc zero)))) = pc
six_fit a b c d e f pa pb pc pd pe pf (suc (suc (suc (suc (suc zero))))) = pd
six_fit a b c d e f pa pb pc pd pe pf (suc (suc (suc (suc (suc (suc zero)))))) = pe
six_fit a b c d e f pa pb pc pd pe pf (suc (suc (suc (suc (suc (suc (suc zero))))))) = pf
six_fit a b c d e f pa pb pc pd pe pf (suc (suc (suc (suc (suc (suc (suc (suc i)))))))) = omega arith

six_are : (a b c d e f : ℕ) → a < 256 → b < 256 → c < 256 → d < 256 → e < 256 → f < 256
    → drop 2 (to_be_bytes w64 (from_be_bytes w64 (0 ∷ 0 ∷ a ∷ b ∷ c ∷ d ∷ e ∷ f ∷ []))) ≡ a ∷ b ∷ c ∷ d ∷ e ∷ f ∷ []
six_are a b c d e f pa pb pc pd pe pf =
    ap (drop 2) (be_bytes_8 (0 ∷ 0 ∷ a ∷ b ∷ c ∷ d ∷ e ∷ f ∷ []) _ refl (six_fit a b c d e f pa pb pc pd pe pf) refl)

-- ---- steps of a reading

bind_ok : {A B : Type 0} (r : Result A FecFault) (f : A → Result B FecFault) (y : B) → (r >>= f) ≡ Ok y →
    (x : A) × (r ≡ Ok x) × (f x ≡ Ok y)
bind_ok (Ok x) f y e = (x, refl, e)
bind_ok (Err d) f y e = absurd cc

-- ---- one level

-- what is read of a level is what it spells, and fits
pub record IsCut (long : Bool) (octets : List ℕ) (x : Level × List ℕ) : Type 0 where
  pub spelled : octets ≡ level_octets long x.0 ++ x.1
  pub fits : FitsLevel long x.0

sized : (offset size mask : ℕ) (rest : List ℕ) (b : Bool) (x : Level × List ℕ) → nat_lt (length rest) size ≡ b
    → cond b (Err (fault LevelPastEnd offset)) (Ok (record { mask = mask; octets = take size rest }, drop size rest))
    ≡ Ok x
    → (size ≤ length rest) × ((record { mask = mask; octets = take size rest }, drop size rest) ≡ x)
sized offset size mask rest true x is e = absurd cc
sized offset size mask rest false x is e = (ltb-false _ _ is, cc)

cut-short : (offset : ℕ) (octets : List ℕ) (x : Level × List ℕ) → IsBytes octets → level_at false offset octets ≡ Ok x
    → IsCut false octets x
cut-short offset (l1 ∷ l0 ∷ m1 ∷ m0 ∷ rest) x bytes e =
    let size : ℕ = from_be_bytes w16 (l1 ∷ l0 ∷ []) in
    let mask : ℕ = from_be_bytes w16 (m1 ∷ m0 ∷ []) in
    let b0 : l1 < 256 = bytes 0 in
    let b1 : l0 < 256 = bytes 1 in
    let b2 : m1 < 256 = bytes 2 in
    let b3 : m0 < 256 = bytes 3 in
    let cut = sized offset size mask rest _ x refl e in
    let level : Level = record { mask = mask; octets = take size rest } in
    let long : length (take size rest) ≡ size = length-take-le size rest cut.0 in
    subst (λ (y : Level × List ℕ). IsCut false (l1 ∷ l0 ∷ m1 ∷ m0 ∷ rest) y) cut.1 (record {
      spelled = sym (ap (λ n. (to_be_bytes w16 n ++ to_be_bytes w16 mask ++ take size rest) ++ drop size rest) long
          ∙ ap (λ (t : List ℕ). (t ++ to_be_bytes w16 mask ++ take size rest) ++ drop size rest) (two_are l1 l0 b0 b1)
          ∙ ap (λ (t : List ℕ). ((l1 ∷ l0 ∷ []) ++ t ++ take size rest) ++ drop size rest) (two_are m1 m0 b2 b3)
          ∙ ap (λ (t : List ℕ). l1 ∷ l0 ∷ m1 ∷ m0 ∷ t) (take-append-drop size rest));
      fits = record { mask = omega arith; size = omega arith };
    })
cut-short offset octets x bytes e = absurd cc

cut-long : (offset : ℕ) (octets : List ℕ) (x : Level × List ℕ) → IsBytes octets → level_at true offset octets ≡ Ok x
    → IsCut true octets x
cut-long offset (l1 ∷ l0 ∷ m5 ∷ m4 ∷ m3 ∷ m2 ∷ m1 ∷ m0 ∷ rest) x bytes e =
    let size : ℕ = from_be_bytes w16 (l1 ∷ l0 ∷ []) in
    let mask : ℕ = from_be_bytes w64 (0 ∷ 0 ∷ m5 ∷ m4 ∷ m3 ∷ m2 ∷ m1 ∷ m0 ∷ []) in
    let b0 : l1 < 256 = bytes 0 in
    let b1 : l0 < 256 = bytes 1 in
    let c5 : m5 < 256 = bytes 2 in
    let c4 : m4 < 256 = bytes 3 in
    let c3 : m3 < 256 = bytes 4 in
    let c2 : m2 < 256 = bytes 5 in
    let c1 : m1 < 256 = bytes 6 in
    let c0 : m0 < 256 = bytes 7 in
    let cut = sized offset size mask rest _ x refl e in
    let level : Level = record { mask = mask; octets = take size rest } in
    let long : length (take size rest) ≡ size = length-take-le size rest cut.0 in
    subst (λ (y : Level × List ℕ). IsCut true (l1 ∷ l0 ∷ m5 ∷ m4 ∷ m3 ∷ m2 ∷ m1 ∷ m0 ∷ rest) y) cut.1 (record {
      spelled = sym (ap (λ n. (to_be_bytes w16 n ++ mask_octets true mask ++ take size rest) ++ drop size rest) long
          ∙ ap (λ (t : List ℕ). (t ++ mask_octets true mask ++ take size rest) ++ drop size rest)
          (two_are l1 l0 b0 b1)
          ∙ ap (λ (t : List ℕ). ((l1 ∷ l0 ∷ []) ++ t ++ take size rest) ++ drop size rest)
          (six_are m5 m4 m3 m2 m1 m0 c5 c4 c3 c2 c1 c0)
          ∙ ap (λ (t : List ℕ). l1 ∷ l0 ∷ m5 ∷ m4 ∷ m3 ∷ m2 ∷ m1 ∷ m0 ∷ t) (take-append-drop size rest));
      fits = record { mask = omega arith; size = omega arith };
    })
cut-long offset octets x bytes e = absurd cc

pub cut-level : (long : Bool) (offset : ℕ) (octets : List ℕ) (x : Level × List ℕ) → IsBytes octets
    → level_at long offset octets ≡ Ok x → IsCut long octets x
cut-level true offset octets x bytes e = cut-long offset octets x bytes e
cut-level false offset octets x bytes e = cut-short offset octets x bytes e

-- what a level spells is read as the level
whole : (offset mask : ℕ) (octets rest : List ℕ)
    → level_of offset (Some (length octets, mask, octets ++ rest))
    ≡ Ok (record { mask = mask; octets = octets }, rest)
whole offset mask octets rest =
    let fits : nat_lt (length (octets ++ rest)) (length octets) ≡ false =
    le-ltb (length (octets ++ rest)) (length octets) (omega (arith, length-append octets rest)) in
    rw (fits, take_at octets rest (length octets) refl, drop_at octets rest (length octets) refl) refl

again-short : (offset : ℕ) (level : Level) (rest : List ℕ) → FitsLevel false level
    → level_at false offset (level_octets false level ++ rest) ≡ Ok (level, rest)
again-short offset level rest fits =
    ap (λ n. level_of offset (Some (n, from_be_bytes w16 (to_be_bytes w16 level.mask), level.octets ++ rest)))
    (from_be_bytes-to_be_bytes_2 (length level.octets) fits.size)
    ∙ ap (λ n. level_of offset (Some (length level.octets, n, level.octets ++ rest)))
    (from_be_bytes-to_be_bytes_2 level.mask fits.mask)
    ∙ whole offset level.mask level.octets rest

six_again : (mask : ℕ) → mask < 2 ^ 48 → from_be_bytes w64 (0 ∷ 0 ∷ drop 2 (to_be_bytes w64 mask)) ≡ mask
six_again mask fits =
    let high : 0 ∷ 0 ∷ drop 2 (to_be_bytes w64 mask) ≡ to_be_bytes w64 mask =
    (let h7 : 0 ≡ mask / 72057594037927936 % 256 = omega arith in
    let h6 : 0 ≡ mask / 281474976710656 % 256 = omega arith in
    ap (λ n. n ∷ 0 ∷ drop 2 (to_be_bytes w64 mask)) h7
    ∙ ap (λ n. (mask / 72057594037927936 % 256) ∷ n ∷ drop 2 (to_be_bytes w64 mask)) h6) in
    ap (from_be_bytes w64) high ∙ from_be_bytes-to_be_bytes_8 mask (omega arith)

again-long : (offset : ℕ) (level : Level) (rest : List ℕ) → FitsLevel true level
    → level_at true offset (level_octets true level ++ rest) ≡ Ok (level, rest)
again-long offset level rest fits =
    ap (λ n. level_of offset (Some (
      n,
      from_be_bytes w64
          (0 ∷ 0 ∷ drop 2 (to_be_bytes w64 level.mask)),
      level.octets ++ rest,
    )))
    (from_be_bytes-to_be_bytes_2 (length level.octets) fits.size)
    ∙ ap (λ n. level_of offset (Some (length level.octets, n, level.octets ++ rest)))
    (six_again level.mask fits.mask)
    ∙ whole offset level.mask level.octets rest

pub again-level : (long : Bool) (offset : ℕ) (level : Level) (rest : List ℕ) → FitsLevel long level
    → level_at long offset (level_octets long level ++ rest) ≡ Ok (level, rest)
again-level true offset level rest fits = again-long offset level rest fits
again-level false offset level rest fits = again-short offset level rest fits

-- ---- level after level

All-cons : {X : Type 0} (P : X → Type 0) (x : X) (xs : List X) → P x → All P xs → All P (x ∷ xs)
All-cons P x xs here rest zero d lt = here
All-cons P x xs here rest (suc i) d lt = rest i d (omega arith)

All-rest : {X : Type 0} (P : X → Type 0) (x : X) (xs : List X) → All P (x ∷ xs) → All P xs
All-rest P x xs all i d lt = all (suc i) d (omega arith)

-- masks are nested after a mask, if there is one
abbrev nested_from : Option ℕ → List ℕ → Bool
nested_from None ms = are_nested ms
nested_from (Some before) ms = are_nested (before ∷ ms)

nested-more : (before : Option ℕ) (mask : ℕ) (ms : List ℕ) → is_nested before mask ≡ true
    → are_nested (mask ∷ ms) ≡ true
    → nested_from before (mask ∷ ms) ≡ true
nested-more None mask ms is rest = rest
nested-more (Some before) mask ms is rest = rw (is, rest) refl

nested-less : (before : Option ℕ) (mask : ℕ) (ms : List ℕ) → nested_from before (mask ∷ ms) ≡ true
    → (is_nested before mask ≡ true) × (are_nested (mask ∷ ms) ≡ true)
nested-less None mask ms all = (refl, all)
nested-less (Some before) mask ms all = and_parts (is_within mask before) (are_nested (mask ∷ ms)) all

nested-ok : (offset : ℕ) (b : Bool) (x y : Level × List ℕ) (fault : FecFault) → cond b (Ok x) (Err fault) ≡ Ok y
    → (b ≡ true) × (x ≡ y)
nested-ok offset true x y fault e = (refl, cc)
nested-ok offset false x y fault e = absurd cc

-- what is read after the first level
abbrev after_first : ℕ → Bool → ℕ → Level × List ℕ → Result (List Level) FecFault
after_first more long at read =
    levels_at more long (Some read.0.mask) (at + level_size long read.0) read.1 >>= λ levels. Ok (read.0 ∷ levels)

record AreCut (more : ℕ) (long : Bool) (before : Option ℕ) (octets : List ℕ) (levels : List Level) : Type 0 where
  pub spelled : octets ≡ flat_map (level_octets long) levels
  pub few : length levels ≤ more
  pub fits : All (FitsLevel long) levels
  pub nested : nested_from before (masks levels) ≡ true

no-levels : (more : ℕ) (long : Bool) (before : Option ℕ) → AreCut more long before [] []
no-levels more long None = record {
  spelled = refl;
  few = omega arith;
  fits = λ i d lt. absurd
      (omega arith);
  nested = refl;
}
no-levels more long (Some b) =
    record { spelled = refl; few = omega arith; fits = λ i d lt. absurd (omega arith); nested = refl }

one-level : (more : ℕ) (long : Bool) (before : Option ℕ) (octets : List ℕ) (x : Level × List ℕ) (levels : List Level)
    → IsCut long octets x → is_nested before x.0.mask ≡ true → AreCut more long (Some x.0.mask) x.1 levels
    → AreCut (suc more) long before octets (x.0 ∷ levels)
one-level more long before octets x levels cut inside rest = record {
  spelled = cut.spelled ∙ ap (λ (t : List ℕ). level_octets long x.0 ++ t) rest.spelled;
  few = omega (arith, rest.few);
  fits = All-cons (FitsLevel long) x.0 levels cut.fits rest.fits;
  nested = nested-more before x.0.mask (masks levels) inside rest.nested;
}

abbrev levels_read : List Level → Result (List Level) FecFault
levels_read levels = Ok levels

same_levels : (xs ys : List Level) → levels_read xs ≡ levels_read ys → xs ≡ ys
same_levels xs ys e = cc

cut-levels : (more : ℕ) (long : Bool) (before : Option ℕ) (at : ℕ) (octets : List ℕ) (levels : List Level)
    → IsBytes octets → levels_at more long before at octets ≡ Ok levels → AreCut more long before octets levels
cut-levels zero long before at [] levels bytes e = subst (AreCut zero long before []) (same_levels [] levels e)
    (no-levels zero long before)
cut-levels zero long before at (o ∷ octets) levels bytes e = absurd cc
cut-levels (suc more) long before at [] levels bytes e =
    subst (AreCut (suc more) long before []) (same_levels [] levels e) (no-levels (suc more) long before)
cut-levels (suc more) long before at (o ∷ octets) levels bytes e =
    let first = bind_ok (next_level_at long before at (o ∷ octets)) (after_first more long at) levels e in
    let read : Level × List ℕ = first.0 in
    let later = bind_ok (levels_at more long (Some read.0.mask) (at + level_size long read.0) read.1)
    (λ ls. Ok (read.0 ∷ ls)) levels first.2 in
    let next = bind_ok (level_at long at (o ∷ octets)) (nested_at before at) read first.1 in
    let nested = nested-ok at (is_nested before next.0.0.mask) next.0 read _ next.2 in
    let cut : IsCut long (o ∷ octets) read =
    subst (IsCut long (o ∷ octets)) nested.1 (cut-level long at (o ∷ octets) next.0 bytes next.1) in
    let inside : is_nested before read.0.mask ≡ true =
    subst (λ (y : Level × List ℕ). is_nested before y.0.mask ≡ true) nested.1 nested.0 in
    let rest : AreCut more long (Some read.0.mask) read.1 later.0 =
    cut-levels more long (Some read.0.mask) (at + level_size long read.0) read.1 later.0
    (IsBytes-after (level_octets long read.0) read.1 (o ∷ octets) cut.spelled bytes) later.1 in
    subst (AreCut (suc more) long before (o ∷ octets)) (same_levels (read.0 ∷ later.0) levels later.2)
    (one-level more long before (o ∷ octets) read later.0 cut inside rest)

again-levels : (more : ℕ) (long : Bool) (before : Option ℕ) (at : ℕ) (levels : List Level) → length levels ≤ more
    → All (FitsLevel long) levels → nested_from before (masks levels) ≡ true
    → levels_at more long before at (flat_map (level_octets long) levels) ≡ Ok levels
again-levels zero long before at [] few fits nested = refl
again-levels (suc more) long before at [] few fits nested = refl
again-levels zero long before at (level ∷ levels) few fits nested = absurd (omega arith)
again-levels (suc more) long before at (level ∷ levels) few fits nested =
    let rest : List ℕ = flat_map (level_octets long) levels in
    let parts = nested-less before level.mask (masks levels) nested in
    let inside : nested_at before at (level, rest) ≡ Ok (level, rest) = rw parts.0 refl in
    let next : next_level_at long before at (level_octets long level ++ rest) ≡ Ok (level, rest) =
    ap (λ r. r >>= nested_at before at) (again-level long at level rest (fits 0 level (omega arith))) ∙ inside in
    ap (λ r. r >>= after_first more long at) next
    ∙ ap (λ r. r >>= λ ls. levels_read (level ∷ ls))
    (again-levels more long (Some level.mask) (at + level_size long level) levels
    (omega arith) (All-rest (FitsLevel long) level levels fits) parts.1)

-- ---- the payload

abbrev after_levels : ℕ → List ℕ → List Level → Result Payload FecFault
after_levels own head levels = protecting own (payload_of head levels)

abbrev after_head : ℕ → List ℕ × List ℕ → Result Payload FecFault
after_head own front = levels_at 8 (has_long_masks front.0) None 10 front.1 >>= after_levels own front.0

head-ok : (b : Bool) (octets : List ℕ) (x : List ℕ × List ℕ) (fault : FecFault) → nat_lt (length octets) 10 ≡ b
    → cond b (Err fault) (Ok (take 10 octets, drop 10 octets)) ≡ Ok x
    → (10 ≤ length octets) × ((take 10 octets, drop 10 octets) ≡ x)
head-ok true octets x fault is e = absurd cc
head-ok false octets x fault is e = (ltb-false _ _ is, cc)

protecting-ok : (none ahead : Bool) (p q : Payload) (f g : FecFault)
    → cond none (Err f) (cond ahead (Err g) (Ok q)) ≡ Ok p
    → (none ≡ false) × (ahead ≡ false) × (q ≡ p)
protecting-ok true ahead p q f g e = absurd cc
protecting-ok false true p q f g e = absurd cc
protecting-ok false false p q f g e = (refl, refl, cc)

pub payload-reading : (octets : List ℕ) (own : ℕ) (p : Payload) → AreOctets octets → reading octets own ≡ Ok p
    → IsPayload octets own p
payload-reading octets own p are e =
    let front = bind_ok (head_at octets) (after_head own) p e in
    let cut = head-ok (nat_lt (length octets) 10) octets front.0 _ refl front.1 in
    let head : List ℕ = take 10 octets in
    let rest : List ℕ = drop 10 octets in
    let all : octets ≡ head ++ rest = sym (take-append-drop 10 octets) in
    let long : Bool = has_long_masks head in
    let e2 : after_head own (head, rest) ≡ Ok p = ap (after_head own) cut.1 ∙ front.2 in
    let later = bind_ok (levels_at 8 long None 10 rest) (after_levels own head) p e2 in
    let levels : List Level = later.0 in
    let are_cut : AreCut 8 long None rest levels =
    cut-levels 8 long None 10 rest levels (IsBytes-after head rest octets all (IsBytes-octets octets are)) later.1 in
    let q : Payload = payload_of head levels in
    let last = protecting-ok (first_mask (masks levels) == 0) (is_ahead own q) p q _ _ later.2 in
    subst (IsPayload octets own) last.2 (record {
      spelled = all ∙ ap (λ (t : List ℕ). head ++ t) are_cut.spelled;
      head = length-take-le 10 octets cut.0;
      long = refl;
      base = refl;
      few = are_cut.few;
      fits = are_cut.fits;
      nested = are_cut.nested;
      protects = last.0;
      before = last.1;
    })

same_payload : (p : Payload) → p.long ≡ has_long_masks p.head → p.base ≡ base_in p.head
    → payload_of p.head p.levels ≡ p
same_payload p long base = rw (← long, ← base) refl

abbrev payload_read : Payload → Result Payload FecFault
payload_read p = Ok p

pub reading-payload : (octets : List ℕ) (own : ℕ) (p : Payload) → IsPayload octets own p → reading octets own ≡ Ok p
reading-payload octets own p is =
    let rest : List ℕ = flat_map (level_octets p.long) p.levels in
    let long_enough : nat_lt (length (p.head ++ rest)) 10 ≡ false =
    le-ltb (length (p.head ++ rest)) 10 (omega (arith, length-append p.head rest, is.head)) in
    let front : head_at (p.head ++ rest) ≡ Ok (p.head, rest) =
    rw (long_enough, take_at p.head rest 10 is.head, drop_at p.head rest 10 is.head) refl in
    let levels : levels_at 8 (has_long_masks p.head) None 10 rest ≡ Ok p.levels =
    ap (λ b. levels_at 8 b None 10 rest) (sym is.long)
    ∙ again-levels 8 p.long None 10 p.levels is.few is.fits is.nested in
    let last : protecting own p ≡ Ok p = rw (is.protects, is.before) refl in
    ap (λ x. reading x own) is.spelled
    ∙ ap (λ r. r >>= after_head own) front
    ∙ ap (λ r. r >>= after_levels own p.head) levels
    ∙ ap (protecting own) (same_payload p is.long is.base)
    ∙ last

-- ---- of the answer of the code

pub payload-read : (octets : List ℕ) (own : ℕ) (r : Result Fec FecFault) → AreOctets octets
    → view_result r ≡ reading octets own → IfOk r (λ fec. IsPayload octets own (view fec))
payload-read octets own (Ok fec) are reads = payload-reading octets own (view fec) are (sym reads)
payload-read octets own (Err e) are reads = tt

pub only-read : (octets : List ℕ) (own : ℕ) (r : Result Fec FecFault) (p : Payload)
    → view_result r ≡ reading octets own
    → IsPayload octets own p → IsOkAnd r (λ fec. view fec ≡ p)
only-read octets own (Ok fec) p reads is =
    let e : payload_read (view fec) ≡ payload_read p = reads ∙ reading-payload octets own p is in cc
only-read octets own (Err e) p reads is = let wrong = reads ∙ reading-payload octets own p is in absurd cc
