-- Items with places, put together by their places.
use Rattle.std.proofs.Common.{◌≡◌, ◌∙◌, ℕ, suc, ◌+◌, ◌<◌, ◌≤◌, Bool, true, false, cond, List, [], ◌∷◌, length, map, zip, refl, ap, arith}
use Rattle.std.specs.Prelude.{nat_lt}
use Rattle.std.specs.List.{AllZip}
use Rattle.std.proofs.lemmas.Bool.Decides.{nat_tests}
use Rattle.vrx_lock.specs.Lists.{RisesFrom, merged, with_place}

-- a condition of each item
abbrev pub Each : {X : Type 0} → (X → Type 0) → List X → Type 0
Each P [] = Unit {0}
Each P (x ∷ xs) = P x × Each P xs

abbrev pub spots : {X : Type 0} → List (ℕ × X) → List ℕ
spots items = map (λ item. item.0) items

-- an item, put before the first one with a greater place
abbrev pub put : {X : Type 0} → ℕ × X → List (ℕ × X) → List (ℕ × X)
put x [] = x ∷ []
put x (y ∷ ys) = cond (nat_lt x.0 y.0) (x ∷ y ∷ ys) (y ∷ put x ys)

abbrev pub woven : {X : Type 0} → List (ℕ × X) → List (ℕ × X) → List (ℕ × X)
woven [] ys = ys
woven (x ∷ xs) ys = put x (woven xs ys)

pub rises-lower : (m n : ℕ) (ps : List ℕ) → m ≤ n → RisesFrom n ps → RisesFrom m ps
rises-lower m n [] le r = tt
rises-lower m n (p ∷ ps) le r = (omega (arith, le, r.0), r.1)

module _ {X : Type 0} where
  spots-put : (x : ℕ × X) (ys : List (ℕ × X)) → spots (put x ys) ≡ with_place x.0 (spots ys)
  spots-put x [] = refl
  spots-put x (y ∷ ys) = of (spots-put x ys) (nat_lt x.0 y.0)
    where
      of : spots (put x ys) ≡ with_place x.0 (spots ys) → (c : Bool) → spots (cond c (x ∷ y ∷ ys) (y ∷ put x ys))
          ≡ cond c (x.0 ∷ y.0 ∷ spots ys) (y.0 ∷ with_place x.0 (spots ys))
      of rest true = refl
      of rest false = ap (λ ps. y.0 ∷ ps) rest

  pub spots-woven : (xs ys : List (ℕ × X)) → spots (woven xs ys) ≡ merged (spots xs) (spots ys)
  spots-woven [] ys = refl
  spots-woven (x ∷ xs) ys = spots-put x (woven xs ys) ∙ ap (with_place x.0) (spots-woven xs ys)

  length-put : (x : ℕ × X) (ys : List (ℕ × X)) → length (put x ys) ≡ suc (length ys)
  length-put x [] = refl
  length-put x (y ∷ ys) = of (length-put x ys) (nat_lt x.0 y.0)
    where
      of : length (put x ys) ≡ suc (length ys) → (c : Bool)
          → length (cond c (x ∷ y ∷ ys) (y ∷ put x ys)) ≡ suc (suc (length ys))
      of rest true = refl
      of rest false = ap suc rest

  pub length-woven : (xs ys : List (ℕ × X)) → length (woven xs ys) ≡ length xs + length ys
  length-woven [] ys = omega arith
  length-woven (x ∷ xs) ys = omega (arith, length-put x (woven xs ys), length-woven xs ys)

  -- an item before all others comes first
  pub put-front : (x : ℕ × X) (ys : List (ℕ × X)) → RisesFrom (x.0 + 1) (spots ys) → put x ys ≡ x ∷ ys
  put-front x [] r = refl
  put-front x (y ∷ ys) r =
      let low : x.0 < y.0 = omega (arith, r.0) in
      let is : nat_lt x.0 y.0 ≡ true = grind (arith, nat_tests, low) in
      ap (λ c. cond c (x ∷ y ∷ ys) (y ∷ put x ys)) is

  pub put-rises : (n : ℕ) (x : ℕ × X) (ys : List (ℕ × X)) → RisesFrom n (spots (put x ys)) → RisesFrom n (spots ys)
  put-rises n x [] r = tt
  put-rises n x (y ∷ ys) r = of (put-rises (y.0 + 1) x ys) (nat_lt x.0 y.0) r
    where
      of : (RisesFrom (y.0 + 1) (spots (put x ys)) → RisesFrom (y.0 + 1) (spots ys)) → (c : Bool)
          → RisesFrom n (spots (cond c (x ∷ y ∷ ys) (y ∷ put x ys))) → RisesFrom n (spots (y ∷ ys))
      of rest true r = (omega (arith, r.0, r.1.0), r.1.1)
      of rest false r = (r.0, rest r.1)

module _ {X : Type 0} (P : ℕ × X → Type 0) where
  each-put : (x : ℕ × X) (ys : List (ℕ × X)) → P x → Each P ys → Each P (put x ys)
  each-put x [] p all = (p, tt)
  each-put x (y ∷ ys) p all = of (each-put x ys p all.1) (nat_lt x.0 y.0)
    where
      of : Each P (put x ys) → (c : Bool) → Each P (cond c (x ∷ y ∷ ys) (y ∷ put x ys))
      of rest true = (p, all)
      of rest false = (all.0, rest)

  pub each-woven : (xs ys : List (ℕ × X)) → Each P xs → Each P ys → Each P (woven xs ys)
  each-woven [] ys all all' = all'
  each-woven (x ∷ xs) ys all all' = each-put x (woven xs ys) all.0 (each-woven xs ys all.1 all')

  each-unput : (x : ℕ × X) (ys : List (ℕ × X)) → Each P (put x ys) → P x × Each P ys
  each-unput x [] all = (all.0, tt)
  each-unput x (y ∷ ys) all = of (each-unput x ys) (nat_lt x.0 y.0) all
    where
      of : (Each P (put x ys) → P x × Each P ys) → (c : Bool) → Each P (cond c (x ∷ y ∷ ys) (y ∷ put x ys))
          → P x × Each P (y ∷ ys)
      of rest true all = all
      of rest false all = let after = rest all.1 in (after.0, (all.0, after.1))

  pub each-unwoven : (xs ys : List (ℕ × X)) → Each P (woven xs ys) → Each P xs × Each P ys
  each-unwoven [] ys all = (tt, all)
  each-unwoven (x ∷ xs) ys all =
      let one = each-unput x (woven xs ys) all in
      let rest = each-unwoven xs ys one.1 in ((one.0, rest.0), rest.1)

module _ {A B : Type 0} where
  pub zip-left : (Q : A → B → Type 0) (xs : List A) (ys : List B) → AllZip Q xs ys → map (λ item. item.0) (zip xs ys) ≡ xs
  zip-left Q [] [] all = refl
  zip-left Q [] (y ∷ ys) all = refl
  zip-left Q (x ∷ xs) [] all = absurd all
  zip-left Q (x ∷ xs) (y ∷ ys) all = ap (λ zs. x ∷ zs) (zip-left Q xs ys all.1)

  pub zip-right : (Q : A → B → Type 0) (xs : List A) (ys : List B) → AllZip Q xs ys → map (λ item. item.1) (zip xs ys) ≡ ys
  zip-right Q [] [] all = refl
  zip-right Q [] (y ∷ ys) all = absurd all
  zip-right Q (x ∷ xs) [] all = absurd all
  zip-right Q (x ∷ xs) (y ∷ ys) all = ap (λ zs. y ∷ zs) (zip-right Q xs ys all.1)

  pub each-zip : (Q : A → B → Type 0) (xs : List A) (ys : List B) → AllZip Q xs ys
      → Each (λ item. Q item.0 item.1) (zip xs ys)
  each-zip Q [] [] all = tt
  each-zip Q [] (y ∷ ys) all = absurd all
  each-zip Q (x ∷ xs) [] all = absurd all
  each-zip Q (x ∷ xs) (y ∷ ys) all = (all.0, each-zip Q xs ys all.1)
