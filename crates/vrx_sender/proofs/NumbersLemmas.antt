-- Numbers in a row.
use Rattle.std.proofs.Common.{◌≡◌, ℕ, zero, suc, ◌+◌, ◌<◌, List, [], ◌∷◌, ◌++◌, length, map, get_or, refl, ap, sym, ◌∙◌, append_assoc, arith}
use Rattle.vrx_fec.specs.Mask.{numbers_from}

pub length-numbers : (first count : ℕ) → length (numbers_from first count) ≡ count
length-numbers first zero = refl
length-numbers first (suc count) = omega (arith, length-numbers (first + 1) count)

pub length-mapped : {A : Type 0} (f : ℕ → A) (first count : ℕ) → length (map f (numbers_from first count)) ≡ count
length-mapped f first zero = refl
length-mapped f first (suc count) = omega (arith, length-mapped f (first + 1) count)

pub at-numbers : {A : Type 0} (f : ℕ → A) (first count k : ℕ) (d : A) → k < count →
    get_or (map f (numbers_from first count)) k d ≡ f (first + k)
at-numbers f first zero k d lt = absurd (omega arith)
at-numbers f first (suc count) zero d lt = ap f (omega arith)
at-numbers f first (suc count) (suc k) d lt =
    at-numbers f (first + 1) count k d (omega arith) ∙ ap f (omega arith)

-- one number more was mapped
pub mapped-on : {A : Type 0} (f : ℕ → A) (xs more whole : List A) (k n m : ℕ) (x : A) → n ≡ suc m → x ≡ f k →
    more ≡ xs ++ x ∷ [] → xs ++ map f (numbers_from k n) ≡ whole → more ++ map f (numbers_from (k + 1) m) ≡ whole
mapped-on f xs more whole k n m x left is pushed before =
    ap (λ ys. ys ++ map f (numbers_from (k + 1) m)) pushed
    ∙ append_assoc xs (x ∷ []) (map f (numbers_from (k + 1) m))
    ∙ ap (λ y. xs ++ y ∷ map f (numbers_from (k + 1) m)) is
    ∙ ap (λ (c : ℕ). xs ++ map f (numbers_from k c)) (sym left) ∙ before
