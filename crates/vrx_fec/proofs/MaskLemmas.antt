-- The offsets that a mask names.
use Rattle.std.proofs.Common.{◌≡◌, ℕ, zero, suc, ◌+◌, ◌<◌, ◌≤◌, Bool, true, false, List, refl, arith, inl, inr}
use Rattle.std.specs.Prelude.{nat_lt, filter}
use Rattle.std.specs.List.{list_all}
use Rattle.std.proofs.lemmas.Bool.{cases_lt}
use Rattle.std.proofs.lemmas.Grind.{common_steps}
use Rattle.vrx_fec.specs.Mask.{numbers_from}

-- numbers from one on, of which a test takes some, and a bound
module _ (test : ℕ → Bool) (bound : ℕ) where
  abbrev below : List ℕ → Bool
  below ns = list_all (λ i. nat_lt i bound) (filter test ns)

  -- all are below the bound, if none that isn't is taken
  pub below-all : (count first : ℕ) → ((k : ℕ) → bound ≤ k → k < first + count → test k ≡ false)
      → below (numbers_from first count) ≡ true
  below-all zero first none = refl
  below-all (suc count) first none =
      let rest : below (numbers_from (first + 1) count) ≡ true =
      below-all count (first + 1) (λ k above within. none k above (omega arith)) in
      let here : bound ≤ first → test first ≡ false = λ above. none first above (omega arith) in
      grind (arith, common_steps)

  -- not all are, if one that isn't is taken
  pub below-not : (count first k : ℕ) → first ≤ k → k < first + count → bound ≤ k → test k ≡ true
      → below (numbers_from first count) ≡ false
  below-not zero first k from within above is = absurd (omega arith)
  below-not (suc count) first k from within above is =
      elim (cases_lt first k) [
        | inl later ↦
            let rest : below (numbers_from (first + 1) count) ≡ false =
            below-not count (first + 1) k (omega arith) (omega arith) above is in
            grind (arith, common_steps)
        | inr same ↦
            let here : first ≡ k = omega arith in
            let taken : test first ≡ true = rw here is in
            grind (arith, common_steps)
      ]
