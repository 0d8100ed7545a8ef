-- Elements of lists that begin others, and lists beside each other.
use Rattle.std.proofs.Common.{◌≡◌, ◌∙◌, ℕ, zero, suc, ◌≤◌, List, [], ◌∷◌, ◌++◌, length, take, Some, refl, ap, arith}
use Rattle.std.specs.Prelude.{slice_get}
use Rattle.std.specs.List.{AllZip}
use Rattle.std.proofs.lemmas.Option.{slice_get_within}
use Rattle.vrx_lock.specs.Lists.{BeginsWith}

module _ {A : Type 0} where
  get-more : (xs ys : List A) (p : ℕ) (x : A) → slice_get xs p ≡ Some x → slice_get (xs ++ ys) p ≡ Some x
  get-more [] ys p x e = absurd (omega (arith, slice_get_within [] p x e))
  get-more (y ∷ xs) ys zero x e = e
  get-more (y ∷ xs) ys (suc p) x e = get-more xs ys p x e

  take-more : (xs ys : List A) (p : ℕ) → p ≤ length xs → take p (xs ++ ys) ≡ take p xs
  take-more xs ys zero le = refl
  take-more [] ys (suc p) le = absurd (omega (arith, le))
  take-more (x ∷ xs) ys (suc p) le = ap (λ zs. x ∷ zs) (take-more xs ys p (omega (arith, le)))

  pub take-front : (xs ys : List A) → take (length xs) (xs ++ ys) ≡ xs
  take-front [] ys = refl
  take-front (x ∷ xs) ys = ap (λ zs. x ∷ zs) (take-front xs ys)

  pub get-last : (xs : List A) (x : A) → slice_get (xs ++ x ∷ []) (length xs) ≡ Some x
  get-last [] x = refl
  get-last (y ∷ xs) x = get-last xs x

  pub get-begins : (ys xs : List A) (p : ℕ) (x : A) → BeginsWith ys xs → slice_get xs p ≡ Some x → slice_get ys p ≡ Some x
  get-begins ys xs p x b e = ap (λ zs. slice_get zs p) b.is ∙ get-more xs b.rest p x e

  pub take-begins : (ys xs : List A) (p : ℕ) (x : A) → BeginsWith ys xs → slice_get xs p ≡ Some x → take p ys ≡ take p xs
  take-begins ys xs p x b e =
      ap (take p) b.is ∙ take-more xs b.rest p (omega (arith, slice_get_within xs p x e))

module _ {A B : Type 0} where
  pub zip-weaker : (Q R : A → B → Type 0) → ((x : A) (y : B) → Q x y → R x y) → (xs : List A) (ys : List B)
      → AllZip Q xs ys → AllZip R xs ys
  zip-weaker Q R f [] [] all = tt
  zip-weaker Q R f [] (y ∷ ys) all = absurd all
  zip-weaker Q R f (x ∷ xs) [] all = absurd all
  zip-weaker Q R f (x ∷ xs) (y ∷ ys) all = (f x y all.0, zip-weaker Q R f xs ys all.1)

  pub zip-last : (Q : A → B → Type 0) (xs : List A) (ys : List B) (x : A) (y : B)
      → AllZip Q xs ys → Q x y → AllZip Q (xs ++ x ∷ []) (ys ++ y ∷ [])
  zip-last Q [] [] x y all q = (q, tt)
  zip-last Q [] (v ∷ vs) x y all q = absurd all
  zip-last Q (u ∷ us) [] x y all q = absurd all
  zip-last Q (u ∷ us) (v ∷ vs) x y all q = (all.0, zip-last Q us vs x y all.1 q)

  pub zip-length : (Q : A → B → Type 0) (xs : List A) (ys : List B) → AllZip Q xs ys → length xs ≡ length ys
  zip-length Q [] [] all = refl
  zip-length Q [] (v ∷ vs) all = absurd all
  zip-length Q (u ∷ us) [] all = absurd all
  zip-length Q (u ∷ us) (v ∷ vs) all = ap suc (zip-length Q us vs all.1)
