-- Items with all places of a list.
use Rattle.std.proofs.Common.{◌≡◌, ◌∙◌, ℕ, suc, ◌+◌, List, [], ◌∷◌, length, map, Option, Some, refl, sym, ap, arith}
use Rattle.std.specs.Prelude.{slice_get}
use Rattle.vrx_lock.specs.Lists.{counted_from}
use Rattle.vrx_live.proofs.WeaveLemmas.{Each, spots}

module _ {X Y : Type 0} (of : X → Y) where
  -- items whose places are all places of a list, and each of which is what the list has there, are the list
  pub fits : (f : ℕ → Option Y) (n : ℕ) (ys : List Y) (items : List (ℕ × X)) → spots items ≡ counted_from n (length ys)
      → ((i : ℕ) → f (n + i) ≡ slice_get ys i) → Each (λ item. f item.0 ≡ Some (of item.1)) items
      → ys ≡ map (λ item. of item.1) items
  fits f n [] [] e h all = refl
  fits f n [] (x ∷ items) e h all = absurd (omega (arith, ap length e))
  fits f n (y ∷ ys) [] e h all = absurd (omega (arith, ap length e))
  fits f n (y ∷ ys) (x ∷ items) e h all =
      let head : x.0 ≡ n = cc in
      let tail : spots items ≡ counted_from (n + 1) (length ys) = cc in
      let zero-more : n ≡ n + 0 = omega arith in
      let here : Some y ≡ Some (of x.1) = sym (h 0) ∙ sym (ap f (head ∙ zero-more)) ∙ all.0 in
      let same : y ≡ of x.1 = cc in
      let rest = fits f (n + 1) ys items tail (next f n ys y h) all.1 in
      ap (λ z. z ∷ ys) same ∙ ap (λ zs. of x.1 ∷ zs) rest
    where
      next : (f : ℕ → Option Y) (n : ℕ) (ys : List Y) (y : Y) → ((i : ℕ) → f (n + i) ≡ slice_get (y ∷ ys) i)
          → (i : ℕ) → f (n + 1 + i) ≡ slice_get ys i
      next f n ys y h i = let more : n + 1 + i ≡ n + suc i = omega arith in ap f more ∙ h (suc i)

-- and each such item is what the list has at its place
pub indexed : {X : Type 0} (f : ℕ → Option X) (n : ℕ) (items : List (ℕ × X)) → spots items ≡ counted_from n (length items)
    → ((i : ℕ) → f (n + i) ≡ slice_get (map (λ item. item.1) items) i) → Each (λ item. f item.0 ≡ Some item.1) items
indexed f n [] e h = tt
indexed f n (x ∷ items) e h =
    let head : x.0 ≡ n = cc in
    let tail : spots items ≡ counted_from (n + 1) (length items) = cc in
    let zero-more : n ≡ n + 0 = omega arith in (
      ap f (head ∙ zero-more) ∙ h 0,
      indexed f (n + 1) items tail (λ i. let more : n + 1 + i ≡ n + suc i = omega arith in ap f more ∙ h (suc i)),
    )
