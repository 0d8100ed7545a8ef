-- The offsets that level 0 names, one after the other.
use Rattle.std.proofs.Common.{◌≡◌, ℕ, suc, ◌+◌, ◌-◌, ◌<◌, Bool, true, false, cond, not, ◌&&◌, List, [], ◌∷◌, refl, ◌∙◌, ap, arith}
use Rattle.std.specs.Prelude.{Some, None}
use Rattle.std.specs.List.{filter}
use Rattle.vrx_fec.specs.Mask.{numbers_from, width}
use Rattle.vrx_fec.specs.Payload.{Payload, protected}
use Rattle.vrx_window.specs.Window.{is_available}
use Rattle.vrx_repair.specs.Seen.{misses, missing_from, protects, upto}
use Rattle.vrx_repair.specs.Step.{Packets, missing_of, only_one}

pub upto-next : (i end : ℕ) → i < end → upto i end ≡ i ∷ upto (i + 1) end
upto-next i end less = by_count (end - i) (end - (i + 1)) (omega arith) where
  by_count : (count rest : ℕ) → count ≡ suc rest → numbers_from i count ≡ i ∷ numbers_from (i + 1) rest
  by_count count rest is = ap (numbers_from i) is

pub upto-end : (end : ℕ) → upto end end ≡ []
upto-end end = let none : end - end ≡ 0 = omega arith in ap (numbers_from end) none

-- both tests in one
filter-both : (p q : ℕ → Bool) (xs : List ℕ) → filter q (filter p xs) ≡ filter (λ x. p x && q x) xs
filter-both p q [] = refl
filter-both p q (x ∷ xs) = by_test (p x) (filter-both p q xs) where
  both : List ℕ
  both = filter (λ y. p y && q y) xs

  by_test : (a : Bool) → filter q (filter p xs) ≡ both →
      filter q (cond a (x ∷ filter p xs) (filter p xs)) ≡ cond (a && q x) (x ∷ both) both
  by_test true rest = ap (λ ys. cond (q x) (x ∷ ys) ys) rest
  by_test false rest = rest

-- the offsets that are missing, one after the other
module _ (packets : Packets) (base : ℕ) (p : Payload) where
  abbrev missed : ℕ → Bool
  missed = misses packets base p

  abbrev from : ℕ → List ℕ
  from = missing_from packets base p

  -- all of them
  pub missing-all : missing_of packets base (protected p) ≡ from 0
  missing-all = filter-both (protects p) (λ i. not (is_available (base + i) packets)) (numbers_from 0 (width p.long))
      ∙ (let whole : width p.long ≡ width p.long - 0 = omega arith in
      ap (λ n. filter missed (numbers_from 0 n)) whole)

  -- one offset more
  pub missing-yes : (i : ℕ) → i < width p.long → missed i ≡ true → from i ≡ i ∷ from (i + 1)
  missing-yes i less is = ap (filter missed) (upto-next i (width p.long) less)
      ∙ ap (λ b. cond b (i ∷ from (i + 1)) (from (i + 1))) is

  pub missing-no : (i : ℕ) → i < width p.long → missed i ≡ false → from i ≡ from (i + 1)
  missing-no i less is = ap (filter missed) (upto-next i (width p.long) less)
      ∙ ap (λ b. cond b (i ∷ from (i + 1)) (from (i + 1))) is

  pub missing-end : from (width p.long) ≡ []
  missing-end = ap (filter missed) (upto-end (width p.long))

  -- just one is missing, none is, or more than one are
  pub only-none : from 0 ≡ [] → only_one (missing_of packets base (protected p)) ≡ None
  only-none is = ap only_one (missing-all ∙ is)

  pub only-this : (i : ℕ) → from 0 ≡ i ∷ from (i + 1) → from (i + 1) ≡ [] →
      only_one (missing_of packets base (protected p)) ≡ Some i
  only-this i is none = ap only_one (missing-all ∙ is ∙ ap (λ ks. i ∷ ks) none)

  pub only-more : (i k : ℕ) → from 0 ≡ i ∷ from (i + 1) → from (i + 1) ≡ k ∷ from (k + 1) →
      only_one (missing_of packets base (protected p)) ≡ None
  only-more i k is more = ap only_one (missing-all ∙ is ∙ ap (λ ks. i ∷ ks) more)
