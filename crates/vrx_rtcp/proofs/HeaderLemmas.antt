-- The header's octets and the padding: what is read of them is spelled so, and what is spelled so is read.
use Rattle.std.proofs.Common.{◌≡◌, ℕ, ◌+◌, ◌-◌, ◌/◌, ◌%◌, ◌<◌, ◌≤◌, Bool, true, false, eqb, List, [], ◌∷◌, ◌++◌, length, get_or, take, drop, refl, sym, ap, ◌∙◌, arith, inl, inr}
use Rattle.std.proofs.lemmas.Bool.{cases_eq, ne_eqb, ltb-false}
use Rattle.std.proofs.lemmas.List.{length-drop, take_more, get_or-drop}
use Rattle.std.proofs.Math.Seq.{take-length}
use Rattle.vrx_rtcp.specs.Packet.{IsPadding, first_octet}
use Rattle.vrx_rtcp.specs.Fault.{is_bad_padding}

-- the first octet of a packet of version 2 is that of its padding bit and its count
pub first_octet-of : (first : ℕ) → first < 256 → first / 64 ≡ 2 →
    first_octet (eqb (first / 32 % 2) 1) (first % 32) ≡ first
first_octet-of first below version =
    elim (cases_eq (first / 32 % 2) 1) [
      | inl padded ↦ rw (padded) (omega arith)
      | inr plain ↦ rw (ne_eqb (first / 32 % 2) 1 plain) (omega arith)
    ]

-- the first octet tells its version, its padding bit and its count
pub version-first_octet : (padded : Bool) (count : ℕ) → count < 32 → first_octet padded count / 64 ≡ 2
version-first_octet false count below = omega arith
version-first_octet true count below = omega arith

pub is_padded-first_octet : (padded : Bool) (count : ℕ) → count < 32 →
    eqb (first_octet padded count / 32 % 2) 1 ≡ padded
is_padded-first_octet false count below = ne_eqb ((128 + 0 + count) / 32 % 2) 1 (omega arith)
is_padded-first_octet true count below = let one : (128 + 32 + count) / 32 % 2 ≡ 1 = omega arith in rw one refl

pub count-first_octet : (padded : Bool) (count : ℕ) → count < 32 → first_octet padded count % 32 ≡ count
count-first_octet false count below = omega arith
count-first_octet true count below = omega arith

-- a list that isn't empty is all but its last element, and that
front_and_last : (xs : List ℕ) (n : ℕ) → length xs ≡ n + 1 → xs ≡ take n xs ++ get_or xs n 0 ∷ []
front_and_last xs n len = sym (take-length xs) ∙ ap (λ (k : ℕ). take k xs) len ∙ take_more xs n 0 (omega arith)

-- padding that isn't bad
pub record IsGood (padding size : ℕ) : Type 0 where
  pub some : 1 ≤ padding
  pub whole : padding % 4 ≡ 0
  pub within : padding + 4 ≤ size

pub good-padding : (padding size : ℕ) → is_bad_padding padding size ≡ false → IsGood padding size
good-padding padding size good =
    elim (cases_eq padding 0) [
      | inl none ↦ let h = rw none at good in absurd cc
      | inr some ↦ let rest = rw (ne_eqb padding 0 some) at good in
          elim (cases_eq (padding % 4) 0) [
            | inl whole ↦ let last = rw whole at rest in
                record {
                  some = omega arith;
                  whole = whole;
                  within = omega (arith, ltb-false size (padding + 4) last);
                }
            | inr broken ↦ let h = rw (ne_eqb (padding % 4) 0 broken) at rest in absurd cc
          ]
    ]

-- the last octets, whose number the last of them tells, are padding
pub padding-is : (body : List ℕ) (padding n : ℕ) → length body ≡ n → 1 ≤ padding → padding ≤ n → padding % 4 ≡ 0 →
    get_or body (n - 1) 0 ≡ padding → IsPadding true (drop (n - padding) body)
padding-is body padding n len some within whole last =
    let tail = drop (n - padding) body in
    let len_tail : length tail ≡ padding = omega (arith, length-drop (n - padding) body) in
    let last_tail : get_or tail (padding - 1) 0 ≡ padding = get_or-drop (n - padding) body (padding - 1) 0
    ∙ ap (λ (k : ℕ). get_or body k 0) (let k : (n - padding) + (padding - 1) ≡ n - 1 = omega arith in k) ∙ last in (
      take (padding - 1) tail,
      front_and_last tail (padding - 1) (omega arith)
          ∙ ap (λ (k : ℕ). take (padding - 1) tail ++ k ∷ []) (last_tail ∙ sym len_tail),
      ap (λ (k : ℕ). k % 4) len_tail
          ∙ whole,
    )
