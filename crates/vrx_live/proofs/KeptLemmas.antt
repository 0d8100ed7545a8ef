-- The items of one list among items that are woven.
use Rattle.std.proofs.Common.{◌≡◌, ◌∙◌, ℕ, ◌+◌, ◌<◌, Bool, true, false, cond, List, [], ◌∷◌, map, filter, refl, sym, ap, arith}
use Rattle.std.specs.Prelude.{nat_lt}
use Rattle.std.proofs.lemmas.Bool.Decides.{nat_tests}
use Rattle.vrx_lock.specs.Lists.{RisesFrom}
use Rattle.vrx_live.proofs.WeaveLemmas.{Each, put, put-front, put-rises, rises-lower, spots, woven}

-- a filter and a map
pub filter-map : {A B : Type 0} (test : B → Bool) (f : A → B) (xs : List A)
    → filter test (map f xs) ≡ map f (filter (λ x. test (f x)) xs)
filter-map test f [] = refl
filter-map test f (x ∷ xs) = of (filter-map test f xs) (test (f x))
  where
    of : filter test (map f xs) ≡ map f (filter (λ y. test (f y)) xs) → (c : Bool) → cond c (f x ∷ filter test (map f xs)) (filter test (map f xs))
        ≡ map f (cond c (x ∷ filter (λ y. test (f y)) xs) (filter (λ y. test (f y)) xs))
    of rest true = ap (λ ys. f x ∷ ys) rest
    of rest false = rest

module _ {X : Type 0} (keep : X → Bool) where
  abbrev pub kept : List (ℕ × X) → List (ℕ × X)
  kept items = filter (λ item. keep item.1) items

  pub kept-all : (xs : List (ℕ × X)) → Each (λ item. keep item.1 ≡ true) xs → kept xs ≡ xs
  kept-all [] all = refl
  kept-all (x ∷ xs) all =
      ap (λ c. cond c (x ∷ kept xs) (kept xs)) all.0 ∙ ap (λ ys. x ∷ ys) (kept-all xs all.1)

  pub kept-none : (xs : List (ℕ × X)) → Each (λ item. keep item.1 ≡ false) xs → kept xs ≡ []
  kept-none [] all = refl
  kept-none (x ∷ xs) all = ap (λ c. cond c (x ∷ kept xs) (kept xs)) all.0 ∙ kept-none xs all.1

  kept-rises : (n : ℕ) (ys : List (ℕ × X)) → RisesFrom n (spots ys) → RisesFrom n (spots (kept ys))
  kept-rises n [] r = tt
  kept-rises n (y ∷ ys) r = of (kept-rises (y.0 + 1) ys r.1) (keep y.1)
    where
      of : RisesFrom (y.0 + 1) (spots (kept ys)) → (c : Bool) → RisesFrom n (spots (cond c (y ∷ kept ys) (kept ys)))
      of rest true = (r.0, rest)
      of rest false = rises-lower n (y.0 + 1) (spots (kept ys)) (omega (arith, r.0)) rest

  put-dropped : (x : ℕ × X) (ys : List (ℕ × X)) → keep x.1 ≡ false → kept (put x ys) ≡ kept ys
  put-dropped x [] left-it = ap (λ c. cond c (x ∷ []) []) left-it
  put-dropped x (y ∷ ys) left-it = of (put-dropped x ys left-it) (nat_lt x.0 y.0)
    where
      of : kept (put x ys) ≡ kept ys → (c : Bool) → kept (cond c (x ∷ y ∷ ys) (y ∷ put x ys)) ≡ kept (y ∷ ys)
      of rest true = ap (λ c. cond c (x ∷ kept (y ∷ ys)) (kept (y ∷ ys))) left-it
      of rest false = ap (λ zs. cond (keep y.1) (y ∷ zs) zs) rest

  put-kept : (n : ℕ) (x : ℕ × X) (ys : List (ℕ × X)) → keep x.1 ≡ true → RisesFrom n (spots ys)
      → kept (put x ys) ≡ put x (kept ys)
  put-kept n x [] kept-it r = ap (λ c. cond c (x ∷ []) []) kept-it
  put-kept n x (y ∷ ys) kept-it r = of (put-kept (y.0 + 1) x ys kept-it r.1) (nat_lt x.0 y.0) refl
    where
      after : (d : Bool) → nat_lt x.0 y.0 ≡ false
          → cond d (y ∷ put x (kept ys)) (put x (kept ys)) ≡ put x (cond d (y ∷ kept ys) (kept ys))
      after true is = sym (ap (λ c. cond c (x ∷ y ∷ kept ys) (y ∷ put x (kept ys))) is)
      after false is = refl

      of : kept (put x ys) ≡ put x (kept ys) → (c : Bool) → nat_lt x.0 y.0 ≡ c
          → kept (cond c (x ∷ y ∷ ys) (y ∷ put x ys)) ≡ put x (kept (y ∷ ys))
      of rest true is =
          let low : x.0 < y.0 = grind (arith, nat_tests, is) in
          ap (λ c. cond c (x ∷ kept (y ∷ ys)) (kept (y ∷ ys))) kept-it
          ∙ sym (put-front x (kept (y ∷ ys))
          (kept-rises (x.0 + 1) (y ∷ ys) (omega (arith, low), r.1)))
      of rest false is = ap (λ zs. cond (keep y.1) (y ∷ zs) zs) rest ∙ after (keep y.1) is

  -- those of the first list, if none is in the second
  pub kept-first : (m n : ℕ) (xs ys : List (ℕ × X)) → RisesFrom m (spots xs) → RisesFrom n (spots (woven xs ys))
      → Each (λ item. keep item.1 ≡ false) ys → kept (woven xs ys) ≡ kept xs
  kept-first m n [] ys r r' none = kept-none ys none
  kept-first m n (x ∷ xs) ys r r' none =
      let rest : RisesFrom n (spots (woven xs ys)) = put-rises n x (woven xs ys) r' in
      of (keep x.1) refl rest (kept-first (x.0 + 1) n xs ys r.1 rest none)
    where
      of : (c : Bool) → keep x.1 ≡ c → RisesFrom n (spots (woven xs ys)) → kept (woven xs ys) ≡ kept xs
          → kept (put x (woven xs ys)) ≡ cond (keep x.1) (x ∷ kept xs) (kept xs)
      of true is rest same =
          put-kept n x (woven xs ys) is rest ∙ ap (put x) same
          ∙ put-front x (kept xs) (kept-rises (x.0 + 1) xs r.1)
          ∙ sym (ap (λ c. cond c (x ∷ kept xs) (kept xs)) is)
      of false is rest same =
          put-dropped x (woven xs ys) is ∙ same ∙ sym (ap (λ c. cond c (x ∷ kept xs) (kept xs)) is)

  -- those of the second list, if none is in the first
  pub kept-second : (xs ys : List (ℕ × X)) → Each (λ item. keep item.1 ≡ false) xs → kept (woven xs ys) ≡ kept ys
  kept-second [] ys none = refl
  kept-second (x ∷ xs) ys none = put-dropped x (woven xs ys) none.0 ∙ kept-second xs ys none.1
