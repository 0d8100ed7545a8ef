-- The numbers that level 0 names come before the FEC packet's own.
use Rattle.std.proofs.Common.{◌≡◌, ℕ, zero, suc, ◌+◌, ◌-◌, ◌%◌, ◌^◌, ◌<◌, ◌≤◌, Bool, true, false, cond, not, List, ◌∷◌, refl, sym, ◌∙◌, ap, arith, inl, inr}
use Rattle.std.specs.Prelude.{nat_le, nat_lt}
use Rattle.std.specs.List.{filter, list_all}
use Rattle.std.proofs.lemmas.Bool.{and_parts, cases_eq, ltb-true, not-false, or_parts}
use Rattle.vrx_fec.specs.Mask.{numbers_from, width}
use Rattle.vrx_fec.specs.Payload.{Payload, distance, is_ahead, protected}
use Rattle.vrx_repair.specs.Seen.{AreNumbers, protects}
use Rattle.vrx_repair.specs.Step.{base_of}

-- what holds of all numbers that pass a test holds of one that does
all-at : (p q : ℕ → Bool) (count first i : ℕ) → list_all q (filter p (numbers_from first count)) ≡ true →
    first ≤ i → i < first + count → p i ≡ true → q i ≡ true
all-at p q zero first i all from upto is = absurd (omega arith)
all-at p q (suc count) first i all from upto is =
    elim (cases_eq first i) [
      | inl same ↦ ap q (sym same) ∙ here (p first) (ap p same ∙ is) all
      | inr other ↦ all-at p q count (first + 1) i (rest (p first) all) (omega arith) (omega arith) is
    ] where
      others : List ℕ
      others = filter p (numbers_from (first + 1) count)

      here : (b : Bool) → b ≡ true → list_all q (cond b (first ∷ others) others) ≡ true → q first ≡ true
      here true e a = (and_parts (q first) (list_all q others) a).0
      here false e a = cc

      rest : (b : Bool) → list_all q (cond b (first ∷ others) others) ≡ true → list_all q others ≡ true
      rest true a = (and_parts (q first) (list_all q others) a).1
      rest false a = a

-- an offset that level 0 names is below the distance, and fits a mask
pub before : (own : ℕ) (p : Payload) → is_ahead own p ≡ false → (i : ℕ) → protects p i ≡ true →
    (i < distance own p.base) × (i < 48)
before own p is i named =
    let d : ℕ = distance own p.base in
    let parts = or_parts (nat_le 32768 d) (not (list_all (λ k. nat_lt k d) (protected p))) is in
    let bits : i < width p.long = ltb-true i (width p.long) (and_parts _ _ named).0 in
    let few : width p.long ≤ 48 = at_most p.long in
    let below : nat_lt i d ≡ true = all-at (protects p) (λ k. nat_lt k d) (width p.long) 0 i
    (not-false (list_all (λ k. nat_lt k d) (protected p)) parts.1) (omega arith) (omega arith) named in
    (ltb-true i d below, omega arith) where
      at_most : (long : Bool) → width long ≤ 48
      at_most true = omega arith
      at_most false = omega arith

-- so each number has 64 bits, if the packet's own has
pub are-numbers : (m own : ℕ) (p : Payload) → own ≡ m % 65536 → is_ahead own p ≡ false → m < 2 ^ 64 →
    AreNumbers (base_of m p) p
are-numbers m own p own_is ahead fits i named =
    let b : (i < distance own p.base) × (i < 48) = before own p ahead i named in
    let same : distance own p.base ≡ distance (m % 65536) p.base = ap (λ n. distance n p.base) own_is in
    let base : base_of m p ≡ m - distance (m % 65536) p.base = refl in
    number m (distance (m % 65536) p.base) i (omega (arith, b.0, same)) b.1 fits where
      number : (n d i : ℕ) → i < d → i < 48 → n < 2 ^ 64 → n - d + i < 2 ^ 64
      number n d i less few fits = omega arith
