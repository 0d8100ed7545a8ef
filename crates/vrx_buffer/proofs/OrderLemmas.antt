-- Lists in the order of a number that each element has.
use Rattle.std.proofs.Common.{◌≡◌, ℕ, zero, suc, ◌+◌, ◌-◌, ◌<◌, ◌≤◌, Bool, true, false, cond, List, [], ◌∷◌, length, drop, map, get_or, refl, sym, ◌∙◌, ap, arith}
use Rattle.std.specs.Prelude.{◌==◌, nat_lt, Some}
use Rattle.std.specs.List.{filter, list_all, list_any}
use Rattle.std.proofs.lemmas.Grind.{common_steps}
use Rattle.vrx_num.specs.Extended.{greater}
use Rattle.vrx_buffer.specs.Order.{greatest_of, put_by, rises_by}

-- a test that all elements pass: those that pass another, and one more
pub all-filter : {X : Type 0} (p q : X → Bool) (xs : List X) → list_all p xs ≡ true → list_all p (filter q xs) ≡ true
all-filter p q [] h = refl
all-filter p q (x ∷ xs) h = grind (arith, common_steps, all-filter p q xs)

-- those that pass a test pass it
pub all-pass : {X : Type 0} (p : X → Bool) (xs : List X) → list_all p (filter p xs) ≡ true
all-pass p [] = refl
all-pass p (x ∷ xs) = grind (arith, common_steps, all-pass p xs)

-- two filters, in either order
pub filter-filter : {X : Type 0} (p q : X → Bool) (xs : List X) → filter p (filter q xs) ≡ filter q (filter p xs)
filter-filter p q [] = refl
filter-filter p q (x ∷ xs) = grind (arith, common_steps, filter-filter p q xs)

-- a filter leaves no more than there was
pub fewer : {X : Type 0} (p : X → Bool) (xs : List X) → length (filter p xs) ≤ length xs
fewer p [] = omega arith
fewer p (x ∷ xs) = grind (arith, common_steps, fewer p xs)

module _ {X : Type 0} (number : X → ℕ) where
  -- all of a list lie beyond a number, or below it
  abbrev pub beyond : ℕ → List X → Bool
  beyond n xs = list_all (λ y. nat_lt n (number y)) xs

  abbrev pub below : ℕ → List X → Bool
  below n xs = list_all (λ y. nat_lt (number y) n) xs

  -- what lies beyond a greater number lies beyond a lesser one
  pub beyond-less : (m n : ℕ) (xs : List X) → m ≤ n → beyond n xs ≡ true → beyond m xs ≡ true
  beyond-less m n [] le h = refl
  beyond-less m n (x ∷ xs) le h = grind (arith, common_steps, beyond-less m n xs le)

  pub beyond-each : (n : ℕ) (xs : List X) (k : ℕ) (d : X) → beyond n xs ≡ true → k < length xs
      → n < number (get_or xs k d)
  beyond-each n [] k d h lt = absurd (omega (arith, lt))
  beyond-each n (x ∷ xs) zero d h lt = grind (arith, common_steps)
  beyond-each n (x ∷ xs) (suc k) d h lt = beyond-each n xs k d (grind (arith, common_steps)) (omega (arith, lt))

  -- one more lies beyond a number, if it does and the others do
  pub beyond-put : (n : ℕ) (x : X) (xs : List X) → n < number x → beyond n xs ≡ true
      → beyond n (put_by number x xs) ≡ true
  beyond-put n x [] lt h = grind (arith, common_steps)
  beyond-put n x (y ∷ ys) lt h = grind (arith, common_steps, beyond-put n x ys lt)

  -- what lies beyond a number comes after it
  pub put-first : (x : X) (xs : List X) → beyond (number x) xs ≡ true → put_by number x xs ≡ x ∷ xs
  put-first x [] h = refl
  put-first x (y ∷ ys) h = grind (arith, common_steps)

  -- one more, which has a number of its own, leaves a list that rises
  pub rises-put : (x : X) (xs : List X) → list_any (λ y. number y == number x) xs ≡ false → rises_by number xs ≡ true
      → rises_by number (put_by number x xs) ≡ true
  rises-put x [] fresh h = refl
  rises-put x (y ∷ ys) fresh h = grind (
    arith,
    common_steps,
    rises-put x ys,
    beyond-put (number y) x ys,
    beyond-less (number x) (number y) ys,
  )

  pub rises-filter : (p : X → Bool) (xs : List X) → rises_by number xs ≡ true → rises_by number (filter p xs) ≡ true
  rises-filter p [] h = refl
  rises-filter p (x ∷ xs) h = grind (
    arith,
    common_steps,
    rises-filter p xs,
    all-filter (λ y. nat_lt (number x) (number y)) p xs,
  )

  pub rises-drop : (k : ℕ) (xs : List X) → rises_by number xs ≡ true → rises_by number (drop k xs) ≡ true
  rises-drop zero xs h = h
  rises-drop (suc k) [] h = refl
  rises-drop (suc k) (x ∷ xs) h = rises-drop k xs (grind (arith, common_steps))

  pub length-put : (x : X) (xs : List X) → length (put_by number x xs) ≡ length xs + 1
  length-put x [] = refl
  length-put x (y ∷ ys) = grind (arith, common_steps, length-put x ys)

  -- a test that all elements pass, and one more
  pub all-put : (p : X → Bool) (x : X) (xs : List X) → p x ≡ true → list_all p xs ≡ true
      → list_all p (put_by number x xs) ≡ true
  all-put p x [] one h = grind (arith, common_steps)
  all-put p x (y ∷ ys) one h = grind (arith, common_steps, all-put p x ys)

  -- those that pass a test, once one was put in
  put-before : (p : X → Bool) (x : X) (xs : List X) → beyond (number x) xs ≡ true → (b : Bool) → p x ≡ b
      → filter p (x ∷ xs) ≡ cond b (put_by number x (filter p xs)) (filter p xs)
  put-before p x xs h true is = ap (λ b. cond b (x ∷ filter p xs) (filter p xs)) is
      ∙ sym (put-first x (filter p xs) (all-filter (λ y. nat_lt (number x) (number y)) p xs h))
  put-before p x xs h false is = ap (λ b. cond b (x ∷ filter p xs) (filter p xs)) is

  put-after : (x y : X) (ys : List X) (b c : Bool) → nat_lt (number x) (number y) ≡ false
      → cond b (y ∷ cond c (put_by number x ys) ys) (cond c (put_by number x ys) ys)
      ≡ cond c (put_by number x (cond b (y ∷ ys) ys)) (cond b (y ∷ ys) ys)
  put-after x y ys true true is = sym (ap (λ d. cond d (x ∷ y ∷ ys) (y ∷ put_by number x ys)) is)
  put-after x y ys true false is = refl
  put-after x y ys false c is = refl

  pub filter-put : (p : X → Bool) (x : X) (xs : List X) → rises_by number xs ≡ true
      → filter p (put_by number x xs) ≡ cond (p x) (put_by number x (filter p xs)) (filter p xs)
  filter-put p x [] rise = put-before p x [] refl (p x) refl
  filter-put p x (y ∷ ys) rise = by (nat_lt (number x) (number y)) refl
      (filter-put p x ys (grind (arith, common_steps)))
    where
      by : (b : Bool) → nat_lt (number x) (number y) ≡ b
          → filter p (put_by number x ys) ≡ cond (p x) (put_by number x (filter p ys)) (filter p ys)
          → filter p (cond b (x ∷ y ∷ ys) (y ∷ put_by number x ys))
          ≡ cond (p x) (put_by number x (filter p (y ∷ ys))) (filter p (y ∷ ys))
      by true lt rest = put-before p x (y ∷ ys)
          (grind (arith, common_steps, beyond-less (number x) (number y) ys)) (p x) refl
      by false ge rest = ap (λ zs. cond (p y) (y ∷ zs) zs) rest ∙ put-after x y (filter p ys) (p y) (p x) ge

  -- the last of numbers that rise is the greatest
  last-of : (xs : List X) (k : ℕ) (d : X) → rises_by number xs ≡ true → length xs ≡ k + 1
      → greatest_of (map number xs) ≡ Some (number (get_or xs k d))
  last-of [] k d rise is = absurd (omega (arith, is))
  last-of (x ∷ []) zero d rise is = refl
  last-of (x ∷ []) (suc k) d rise is = absurd (omega (arith, is))
  last-of (x ∷ y ∷ ys) zero d rise is = absurd (omega (arith, is))
  last-of (x ∷ y ∷ ys) (suc k) d rise is =
      let rest : rises_by number (y ∷ ys) ≡ true = grind (arith, common_steps) in
      let after : beyond (number x) (y ∷ ys) ≡ true = grind (arith, common_steps) in
      let more : number x < number (get_or (y ∷ ys) k d) =
      beyond-each (number x) (y ∷ ys) k d after (omega (arith, is)) in
      ap (λ o. greater o (number x)) (last-of (y ∷ ys) k d rest (omega (arith, is))) ∙ ap Some (omega (arith, more))

  pub greatest-last : (xs : List X) (x : X) (n : ℕ) → rises_by number xs ≡ true → n ≡ length xs → 0 < n
      → x ≡ get_or xs (n - 1) x → Some (number x) ≡ greatest_of (map number xs)
  greatest-last xs x n rise len some is =
      ap (λ y. Some (number y)) is ∙ sym (last-of xs (n - 1) x rise (omega (arith, len, some)))
