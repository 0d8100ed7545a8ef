-- Lemmas on the decimal numbers of a line.
use Rattle.std.proofs.Common.{◌≡◌, ℕ, ◌+◌, ◌*◌, ◌-◌, ◌^◌, ◌<◌, ◌≤◌, ◌==◌, ◌&&◌, nat_lt, nat_le, Bool, true, false, if◌then◌else◌, List, [], ◌∷◌, length, get_or, Option, Some, None, refl, sym, inl, inr, arith, rules}
use Rattle.std.specs.Prelude.{◌↔◌}
use Rattle.std.specs.Str.{all_ascii_digits}
use Rattle.std.specs.Fmt.{decimal}
use Rattle.std.proofs.lemmas.Bool.{cases_eq}
use Rattle.std.proofs.lemmas.Fmt.{digits_decimal, digits_value-decimal, decimal-digits_value, decimal_nonempty, first_decimal, decimal_digit}
use Rattle.std.proofs.lemmas.Str.Parse.{IsNumeralModel, numerals_by_fold}
use Rattle.vrx_capture.specs.Words.{number_from, number_in}

-- the number that digits make, after those that make `n`
abbrev read_on : ℕ → List ℕ → ℕ
read_on n [] = n
read_on n (c ∷ cs) = read_on (n * 10 + (c - 48)) cs

own : IsNumeralModel (λ ds. all_ascii_digits ds ≡ true) (read_on 0)
own = numerals_by_fold _ (search rules) read_on (search rules)

read_on-ge : (n : ℕ) (ds : List ℕ) → n ≤ read_on n ds
read_on-ge n [] = omega arith
read_on-ge n (c ∷ cs) = let more : n * 10 + (c - 48) ≤ read_on (n * 10 + (c - 48)) cs =
    read_on-ge (n * 10 + (c - 48)) cs in omega arith

-- what a choice shows that gives a value only if the test holds, or fails
chosen : {A : Type 0} (b : Bool) (o : Option A) (x : A) → (if b then o else None) ≡ Some x → (b ≡ true) × (o ≡ Some x)
chosen true o x h = (refl, h)
chosen false o x h = cc h

pub not_chosen : {A : Type 0} (b : Bool) (o : Option A) (x : A) → (if b then None else o) ≡ Some x →
    (b ≡ false) × (o ≡ Some x)
not_chosen true o x h = cc h
not_chosen false o x h = (refl, h)

-- what digits make, if they make a number
record Made (most value n : ℕ) (ds : List ℕ) : Type 0 where
  digits : all_ascii_digits ds ≡ true
  number : read_on value ds ≡ n
  bound : n ≤ most

number_from-read : (most value n : ℕ) (ds : List ℕ) → value ≤ most → number_from most value ds ≡ Some n →
    Made most value n ds
unfolding number_from
number_from-read most value n [] within h = let same : value ≡ n =
    grind arith in record { digits = refl; number = same; bound = omega arith }
number_from-read most value n (d ∷ ds) within h =
    let test = chosen (nat_le 48 d && nat_le d 57 && nat_le (value * 10 + (d - 48)) most)
    (number_from most (value * 10 + (d - 48)) ds) n h in
    let fits : value * 10 + (d - 48) ≤ most = grind (arith, test.0) in
    let rest = number_from-read most (value * 10 + (d - 48)) n ds fits test.1 in
    record { digits = grind (arith, test.0, rest.digits); number = rest.number; bound = rest.bound }

number_from-write : (most value : ℕ) (ds : List ℕ) → all_ascii_digits ds ≡ true → read_on value ds ≤ most →
    number_from most value ds ≡ Some (read_on value ds)
unfolding number_from
number_from-write most value [] digits bound = refl
number_from-write most value (d ∷ ds) digits bound =
    let fits : value * 10 + (d - 48) ≤ read_on (value * 10 + (d - 48)) ds = read_on-ge (value * 10 + (d - 48)) ds in
    let test : (nat_le 48 d && nat_le d 57 && nat_le (value * 10 + (d - 48)) most) ≡ true = grind arith in
    let rest : all_ascii_digits ds ≡ true = grind arith in
    rw test (number_from-write most (value * 10 + (d - 48)) ds rest bound)

-- digits with no zero in front, or only one zero, make a number
number_in-write : (most n : ℕ) (ds : List ℕ) → all_ascii_digits ds ≡ true → read_on 0 ds ≡ n → 0 < length ds →
    (get_or ds 0 0 ≡ 48 → length ds ≡ 1) → n ≤ most → number_in most ds ≡ Some n
unfolding number_in
number_in-write most n [] digits number some front bound = absurd (omega arith)
number_in-write most n (d ∷ ds) digits number some front bound =
    let test : ((d == 48) && nat_lt 0 (length ds)) ≡ false = grind (arith, front) in
    rw (test, sym number) (number_from-write most 0 (d ∷ ds) digits (omega (arith, number)))

no_zero_in_front : (n : ℕ) → n < 2 ^ 64 → get_or (decimal n) 0 0 ≡ 48 → length (decimal n) ≡ 1
no_zero_in_front n fits zero_first = elim (cases_eq n 0) [
  | inl nothing ↦ rw (nothing, decimal_digit 0 (omega arith)) refl
  | inr some ↦ absurd (omega (arith, first_decimal n (omega arith) fits))
]

number_in-read : (most n : ℕ) (ds : List ℕ) → most < 2 ^ 64 → number_in most ds ≡ Some n →
    (ds ≡ decimal n) × (n ≤ most)
unfolding number_in
number_in-read most n [] fits h = cc h
number_in-read most n (d ∷ ds) fits h =
    let test = not_chosen ((d == 48) && nat_lt 0 (length ds)) (number_from most 0 (d ∷ ds)) n h in
    let made = number_from-read most 0 n (d ∷ ds) (omega arith) test.1 in
    let front : get_or (d ∷ ds) 0 0 ≡ 48 → length (d ∷ ds) ≡ 1 = λ zero_first. grind (arith, test.0) in
    let small : read_on 0 (d ∷ ds) < 2 ^ 64 = omega (arith, made.number, made.bound) in
    let same : decimal (read_on 0 (d ∷ ds)) ≡ d ∷ ds =
    decimal-digits_value own (d ∷ ds) made.digits (omega arith) front small in
    (sym (rw made.number at same), made.bound)

pub number_mean : (most n : ℕ) (digits : List ℕ) → most < 2 ^ 64 →
    (number_in most digits ≡ Some n) ↔ ((digits ≡ decimal n) × (n ≤ most))
number_mean most n digits fits = (
  λ h. number_in-read most n digits fits h,
  λ h. rw h.0 (number_in-write most n (decimal n) (digits_decimal own n (omega (arith, h.1)))
      (digits_value-decimal own n (omega (arith, h.1))) (decimal_nonempty n (omega (arith, h.1)))
      (no_zero_in_front n (omega (arith, h.1))) h.1),
)

-- what is written of a number is digits
pub decimal_digits : (n : ℕ) → n < 2 ^ 64 → all_ascii_digits (decimal n) ≡ true
decimal_digits n fits = digits_decimal own n fits
