-- Lemmas on the SSRCs of a settings line.
use Rattle.std.proofs.Common.{◌≡◌, ℕ, zero, suc, ◌+◌, ◌*◌, ◌/◌, ◌%◌, ◌^◌, ◌<◌, ◌==◌, ◌&&◌, ◌||◌, not, nat_lt, Bool, true, false, List, [], ◌∷◌, length, slice_index, Option, Some, None, Result, Ok, Err, refl, sym, ap, subst, ◌∙◌, inl, inr, arith}
use Rattle.std.specs.Int.{w32, to_be_bytes, from_be_bytes}
use Rattle.std.specs.List.{list_any}
use Rattle.std.specs.Option.{option_map}
use Rattle.std.specs.Result.{result_ok, result_unwrap_or}
use Rattle.std.proofs.lemmas.Bool.{and_parts, cases_lt, eqb-true}
use Rattle.std.proofs.lemmas.Nat.{be_bytes_4, from_be_bytes-to_be_bytes_4}
use Rattle.hex.specs.Hex.{IsBytes, decode_of, decode_pairs, decode_sized, digit_or_error, hex_digit_value, encode_lower, encode_with, lower_digits, pair_value, value_at, ◌>>=◌}
use Rattle.hex.specs.declared.error.FromHexError.{FromHexError}
use Rattle.hex.proofs.HexLemmas.{decode_of-even, decode_of-ok, decode_sized-ok, decode_sized-twice, decode_sized-encode_lower}
use Rattle.vrx_capture.specs.SettingsLine.{is_upper, ssrc_in}
use Rattle.vrx_capture.proofs.NumberLemmas.{not_chosen}

-- ---- the digits that are written

-- an octet is neither an upper-case letter nor a space
abbrev is_plain : ℕ → Bool
is_plain c = not (is_upper c) && not (c == 32)

abbrev all_plain : ℕ → Bool
all_plain zero = true
all_plain (suc n) = is_plain (slice_index lower_digits n) && all_plain n

all_plain-at : (n k : ℕ) → all_plain n ≡ true → k < n → is_plain (slice_index lower_digits k) ≡ true
all_plain-at zero k h lt = absurd (omega arith)
all_plain-at (suc n) k h lt =
    let parts = and_parts (is_plain (slice_index lower_digits n)) (all_plain n) h in
    elim (cases_lt k n) [
      | inl below ↦ all_plain-at n k parts.1 below
      | inr top ↦
          let e : k ≡ n = omega arith in
          rw e parts.0
    ]

lower_plain : (k : ℕ) → k < 16 → is_plain (slice_index lower_digits k) ≡ true
lower_plain k below = all_plain-at 16 k refl below

plain_front : (c : ℕ) (cs : List ℕ) → is_plain c ≡ true →
    (list_any is_upper cs ≡ false) × (list_any (λ o. o == 32) cs ≡ false) →
    (list_any is_upper (c ∷ cs) ≡ false) × (list_any (λ o. o == 32) (c ∷ cs) ≡ false)
plain_front c cs plain rest =
    let upper : is_upper c ≡ false = grind (arith, plain) in
    let space : (c == 32) ≡ false = grind (arith, plain) in
    (rw (upper, rest.0) refl, rw (space, rest.1) refl)

-- what is written of octets has no upper-case letter and no space
pub encoded_plain : (xs : List ℕ) → IsBytes xs →
    (list_any is_upper (encode_lower xs) ≡ false) × (list_any (λ o. o == 32) (encode_lower xs) ≡ false)
unfolding encode_with
encoded_plain [] fits = (refl, refl)
encoded_plain (b ∷ xs) fits =
    let below : b < 256 = fits 0 in
    plain_front (slice_index lower_digits (b / 16)) (slice_index lower_digits (b % 16) ∷ encode_with lower_digits xs)
    (lower_plain (b / 16) (omega arith))
    (plain_front (slice_index lower_digits (b % 16)) (encode_with lower_digits xs)
    (lower_plain (b % 16) (omega arith)) (encoded_plain xs (λ i. fits (suc i))))

-- ---- digits that read are those that are written, if none is an upper-case letter

abbrev goes_back : ℕ → Bool → Option ℕ → Bool
goes_back c upper None = true
goes_back c upper (Some v) = upper || (slice_index lower_digits v == c && nat_lt v 16)

abbrev all_back : ℕ → Bool
all_back zero = true
all_back (suc n) = goes_back n (is_upper n) (hex_digit_value n) && all_back n

all_back-at : (n c : ℕ) → all_back n ≡ true → c < n → goes_back c (is_upper c) (hex_digit_value c) ≡ true
all_back-at zero c h lt = absurd (omega arith)
all_back-at (suc n) c h lt =
    let parts = and_parts (goes_back n (is_upper n) (hex_digit_value n)) (all_back n) h in
    elim (cases_lt c n) [
      | inl below ↦ all_back-at n c parts.1 below
      | inr top ↦
          let e : c ≡ n = omega arith in
          rw e parts.0
    ]

digit_below : (c v : ℕ) → hex_digit_value c ≡ Some v → c < 103
digit_below c v h = grind arith

back_on : (c v : ℕ) (upper : Bool) (o : Option ℕ) → goes_back c upper o ≡ true → upper ≡ false → o ≡ Some v →
    (slice_index lower_digits v ≡ c) × (v < 16)
back_on c v upper None test plain read = cc read
back_on c v true (Some w) test plain read = cc plain
back_on c v false (Some w) test plain read =
    let same : w ≡ v = grind (arith, read) in
    let parts = and_parts (slice_index lower_digits w == c) (nat_lt w 16) test in
    let below : w < 16 = grind (arith, parts.1) in (
      ap (λ (n : ℕ). slice_index lower_digits n) (sym same)
          ∙ eqb-true (slice_index lower_digits w) c parts.0,
      omega arith,
    )

digit_back : (c v : ℕ) → is_upper c ≡ false → hex_digit_value c ≡ Some v → (slice_index lower_digits v ≡ c) × (v < 16)
digit_back c v plain read =
    back_on c v (is_upper c) (hex_digit_value c) (all_back-at 103 c refl (digit_below c v read)) plain read

bind_ok : {A B : Type 0} (r : Result A FromHexError) (f : A → Result B FromHexError) (y : B) → (r >>= f) ≡ Ok y →
    (x : A) × (r ≡ Ok x) × (f x ≡ Ok y)
bind_ok (Ok x) f y h = (x, refl, h)
bind_ok (Err e) f y h = cc h

digit_read : (c i : ℕ) (o : Option ℕ) (v : ℕ) → digit_or_error c i o ≡ Ok v → o ≡ Some v
digit_read c i (Some w) v h = ap Some (ap (λ (r : Result ℕ FromHexError). result_unwrap_or r 0) h)
digit_read c i None v h = cc h

pair_back : (a b byte h l : ℕ) → slice_index lower_digits h ≡ a → slice_index lower_digits l ≡ b → h < 16 → l < 16 →
    h * 16 + l ≡ byte → (slice_index lower_digits (byte / 16) ≡ a) × (slice_index lower_digits (byte % 16) ≡ b)
pair_back a b byte h l high low high_below low_below whole =
    let first : byte / 16 ≡ h = omega arith in
    let second : byte % 16 ≡ l = omega arith in
    (ap (λ (n : ℕ). slice_index lower_digits n) first ∙ high, ap (λ (n : ℕ). slice_index lower_digits n) second ∙ low)

two_plain : (a b : ℕ) (rest : List ℕ) → list_any is_upper (a ∷ b ∷ rest) ≡ false →
    (is_upper a ≡ false) × (is_upper b ≡ false) × (list_any is_upper rest ≡ false)
two_plain a b rest plain = (grind arith, grind arith, grind arith)

-- the text of an octet and others
same_text : (a b byte : ℕ) (rest bytes : List ℕ) → slice_index lower_digits (byte / 16) ≡ a →
    slice_index lower_digits (byte % 16) ≡ b → rest ≡ encode_lower bytes → a ∷ b ∷ rest ≡ encode_lower (byte ∷ bytes)
unfolding encode_with
same_text a b byte rest bytes high low more = cc

pairs_back : (i : ℕ) (s bytes : List ℕ) → decode_pairs i s ≡ Ok bytes → list_any is_upper s ≡ false →
    s ≡ encode_lower bytes
unfolding decode_pairs encode_with
pairs_back i [] bytes h plain =
    let e : [] ≡ bytes = ap (λ (r : Result (List ℕ) FromHexError). result_unwrap_or r []) h in
    rw (← e) refl
pairs_back i (a ∷ []) bytes h plain = cc h
pairs_back i (a ∷ b ∷ rest) bytes h plain =
    let p0 = bind_ok (pair_value a b i) _ bytes h in
    let p1 = bind_ok (value_at a i) _ p0.0 p0.1 in
    let p2 = bind_ok (value_at b (i + 1)) _ p0.0 p1.2 in
    let p3 = bind_ok (decode_pairs (i + 2) rest) _ bytes p0.2 in
    let parts = two_plain a b rest plain in
    let more : rest ≡ encode_lower p3.0 = pairs_back (i + 2) rest p3.0 p3.1 parts.2 in
    let e : p0.0 ∷ p3.0 ≡ bytes = ap (λ (r : Result (List ℕ) FromHexError). result_unwrap_or r []) p3.2 in
    let byte : p1.0 * 16 + p2.0 ≡ p0.0 = ap (λ (r : Result ℕ FromHexError). result_unwrap_or r 0) p2.2 in
    let high = digit_back a p1.0 parts.0 (digit_read a i (hex_digit_value a) p1.0 p1.1) in
    let low = digit_back b p2.0 parts.1 (digit_read b (i + 1) (hex_digit_value b) p2.0 p2.1) in
    let back = pair_back a b p0.0 p1.0 p2.0 high.0 low.0 high.1 low.1 byte in
    same_text a b p0.0 rest p3.0 back.0 back.1 more ∙ ap encode_lower e

-- ---- SSRCs

same_some : (m n : ℕ) → Some m ≡ Some n → m ≡ n
same_some m n h = cc h

mapped : (r : Result (List ℕ) FromHexError) (n : ℕ) → option_map (from_be_bytes w32) (result_ok r) ≡ Some n →
    (bytes : List ℕ) × (r ≡ Ok bytes) × (n ≡ from_be_bytes w32 bytes)
mapped (Ok bytes) n h = let same : from_be_bytes w32 bytes ≡ n = same_some _ n h in (bytes, refl, sym same)
mapped (Err e) n h = cc h

below_32 : (bs : List ℕ) → IsBytes bs → from_be_bytes w32 bs < 2 ^ 32
below_32 bs fits = omega (arith, fits 0, fits 1, fits 2, fits 3)

pub ssrc_in-read : (ds : List ℕ) (n : ℕ) → ssrc_in ds ≡ Some n →
    (ds ≡ encode_lower (to_be_bytes w32 n)) × (n < 2 ^ 32)
unfolding ssrc_in
ssrc_in-read ds n h =
    let test =
    not_chosen (list_any is_upper ds) (option_map (from_be_bytes w32) (result_ok (decode_sized ds 4))) n h in
    let read = mapped (decode_sized ds 4) n test.1 in
    let len : length ds ≡ 2 * 4 = decode_sized-ok ds 4 read.0 read.1 in
    let whole : decode_of ds ≡ Ok read.0 = sym (decode_sized-twice ds 4 len) ∙ read.1 in
    let ok = decode_of-ok ds read.0 whole in
    let pairs : decode_pairs 0 ds ≡ Ok read.0 = sym (decode_of-even ds ok.0) ∙ whole in
    let four : length read.0 ≡ 4 = omega (arith, len, ok.2) in
    let octets : to_be_bytes w32 n ≡ read.0 = be_bytes_4 read.0 n four ok.3 read.2 in (
      pairs_back 0 ds read.0 pairs test.0
          ∙ ap encode_lower (sym octets),
      subst (λ (k : ℕ). k < 2 ^ 32) (sym read.2) (below_32 read.0 ok.3),
    )

pub octets_fit : (n : ℕ) → IsBytes (to_be_bytes w32 n)
octets_fit n zero = omega arith
octets_fit n (suc zero) = omega arith
octets_fit n (suc (suc zero)) = omega arith
octets_fit n (suc (suc (suc zero))) = omega arith
octets_fit n (suc (suc (suc (suc i)))) = omega arith

pub ssrc_in-write : (n : ℕ) → n < 2 ^ 32 → ssrc_in (encode_lower (to_be_bytes w32 n)) ≡ Some n
unfolding ssrc_in
ssrc_in-write n fits =
    let plain : list_any is_upper (encode_lower (to_be_bytes w32 n)) ≡ false =
    (encoded_plain (to_be_bytes w32 n) (octets_fit n)).0 in
    let read : decode_sized (encode_lower (to_be_bytes w32 n)) 4 ≡ Ok (to_be_bytes w32 n) =
    decode_sized-encode_lower (to_be_bytes w32 n) 4 refl (octets_fit n) in
    rw (plain, read) (ap Some (from_be_bytes-to_be_bytes_4 n fits))
