-- Marks of numbers, by the bits of words.
use Rattle.std.proofs.Common.{◌≡◌, ◌≢◌, ℕ, zero, suc, ◌+◌, ◌-◌, ◌*◌, ◌/◌, ◌%◌, ◌^◌, ◌<◌, ◌≤◌, Bool, true, false, not, List, length, refl, sym, ◌∙◌, ap, arith, inl, inr, w64}
use Rattle.std.specs.Prelude.{◌==◌, bit_xor, slice_index_or, slice_set}
use Rattle.std.specs.Int.{bit_at, trailing_zeros}
use Rattle.std.specs.Int.Count.{trailing_of_zero}
use Rattle.std.proofs.Math.Bool.{beq}
use Rattle.std.proofs.Math.Nat.{div-div-eq-div-mul}
use Rattle.std.proofs.Math.Pow.{pow-lt}
use Rattle.std.proofs.lemmas.Bool.{cases_eq, true≢false}
use Rattle.std.proofs.lemmas.List.{get_or-set_same, get_or-set_other}
use Rattle.std.proofs.lemmas.Nat.{pow-add}
use Rattle.std.proofs.lemmas.Nat.Bits.{bit_at-lt, bit_at-pow_same, bit_at-pow_other, bit_at-trailing_zeros, bit_at-zero, bit_at_xor}
use Rattle.vrx_window.specs.Marks.{is_marked, is_set}

-- a bit that is flipped, and each other bit
pub flipped : (word bit : ℕ) → is_set (bit_xor word (2 ^ bit)) bit ≡ not (is_set word bit)
flipped word bit =
    ap (λ b. b == 1) (bit_at_xor word (2 ^ bit) bit ∙ ap (λ k. (bit_at word bit + k) % 2) (bit_at-pow_same bit))
    ∙ by_bit (bit_at word bit) (bit_at-lt word bit) where
      by_bit : (b : ℕ) → b < 2 → ((b + 1) % 2 == 1) ≡ not (b == 1)
      by_bit zero less = refl
      by_bit (suc zero) less = refl
      by_bit (suc (suc b)) less = absurd (omega arith)

pub unflipped : (word bit i : ℕ) → i ≢ bit → is_set (bit_xor word (2 ^ bit)) i ≡ is_set word i
unflipped word bit i apart =
    ap (λ b. b == 1) (bit_at_xor word (2 ^ bit) i ∙ ap (λ k. (bit_at word i + k) % 2) (bit_at-pow_other bit i apart)
    ∙ small (bit_at word i) (bit_at-lt word i)) where
      small : (b : ℕ) → b < 2 → (b + 0) % 2 ≡ b
      small b less = omega arith

-- the word of one bit
pub one_bit : (bit : ℕ) → bit < 64 → 1 * 2 ^ bit % 18446744073709551616 ≡ 2 ^ bit
one_bit bit less = let small : 2 ^ bit < 2 ^ 64 = pow-lt less in omega arith

-- of two truth values that differ the one is the other turned round
pub turned : (a b : Bool) → beq a b ≡ false → not a ≡ b
turned true true h = absurd (true≢false h)
turned true false h = refl
turned false true h = refl
turned false false h = absurd (true≢false h)

-- a bit of a word that was shifted
shifted : (word from i : ℕ) → bit_at (word / 2 ^ from) i ≡ bit_at word (from + i)
shifted word from i =
    ap (λ q. q % 2) (div-div-eq-div-mul word (2 ^ from) (2 ^ i) ∙ ap (λ p. word / p) (sym (pow-add 2 from i)))

-- below the lowest bit that is set none is
below_lowest : (rest i : ℕ) → rest < 2 ^ 64 → i < trailing_zeros w64 rest → bit_at rest i ≡ 0
below_lowest zero i fits less = bit_at-zero i
below_lowest (suc rest) i fits less = (bit_at-trailing_zeros w64 (suc rest) (omega arith) fits).2 i less

pub none_before : (word from i : ℕ) → word / 2 ^ from < 2 ^ 64 → i < trailing_zeros w64 (word / 2 ^ from) →
    is_set word (from + i) ≡ false
none_before word from i fits less =
    ap (λ b. b == 1) (sym (shifted word from i) ∙ below_lowest (word / 2 ^ from) i fits less)

-- a word whose lowest bit is set
lowest_set : (rest : ℕ) → rest < 2 ^ 64 → trailing_zeros w64 rest ≡ 0 → bit_at rest 0 ≡ 1
lowest_set zero fits is = absurd (omega (arith, sym (trailing_of_zero 64) ∙ is))
lowest_set (suc rest) fits is =
    ap (bit_at (suc rest)) (sym is) ∙ (bit_at-trailing_zeros w64 (suc rest) (omega arith) fits).1

pub set_here : (word from : ℕ) → word / 2 ^ from < 2 ^ 64 → trailing_zeros w64 (word / 2 ^ from) ≡ 0 →
    is_set word from ≡ true
set_here word from fits is =
    let at_from : from ≡ from + 0 = omega arith in
    ap (is_set word) at_from ∙ ap (λ b. b == 1) (sym (shifted word from 0) ∙ lowest_set (word / 2 ^ from) fits is)

-- a number that was marked anew, and each with another mark
module _ (words : List ℕ) (n word : ℕ) (long : length words ≡ 32) where
  pub marked_here : (marked : Bool) → is_set word (n % 64) ≡ marked →
      is_marked (slice_set words (n / 64 % 32) word) n ≡ marked
  marked_here marked is =
      ap (λ w. is_set w (n % 64)) (get_or-set_same words (n / 64 % 32) word 0 (omega arith)) ∙ is

  pub marked_there : (m : ℕ) → m % 2048 ≢ n % 2048 →
      ((i : ℕ) → i ≢ n % 64 → is_set word i ≡ is_set (slice_index_or words (n / 64 % 32) 0) i) →
      is_marked (slice_set words (n / 64 % 32) word) m ≡ is_marked words m
  marked_there m apart others = elim (cases_eq (m / 64 % 32) (n / 64 % 32)) [
    | inl same ↦
        ap (λ w. is_set w (m % 64)) (ap (λ k. slice_index_or (slice_set words (n / 64 % 32) word) k 0) same
        ∙ get_or-set_same words (n / 64 % 32) word 0 (omega arith))
        ∙ others (m % 64) (λ bit. apart (omega arith))
        ∙ ap (λ k. is_set (slice_index_or words k 0) (m % 64)) (sym same)
    | inr other ↦
        ap (λ w. is_set w (m % 64)) (get_or-set_other words (n / 64 % 32) (m / 64 % 32) word 0 other)
  ]

-- numbers that a gap in a word passes over aren't marked
pub passed_over : (words : List ℕ) (at gap place m : ℕ) → place ≡ at / 64 % 32 → at % 64 + gap ≤ 64 →
    ((i : ℕ) → i < gap → is_set (slice_index_or words place 0) (at % 64 + i) ≡ false) →
    at ≤ m → m < at + gap → is_marked words m ≡ false
passed_over words at gap place m place_is few none from upto =
    let bit : m % 64 ≡ at % 64 + (m - at) = omega arith in
    let word : m / 64 ≡ at / 64 = omega arith in
    ap (λ k. is_set (slice_index_or words (k % 32) 0) (m % 64)) word
    ∙ ap (λ k. is_set (slice_index_or words k 0) (m % 64)) (sym place_is)
    ∙ ap (is_set (slice_index_or words place 0)) bit
    ∙ none (m - at) (omega arith)
