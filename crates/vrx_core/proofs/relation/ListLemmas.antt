-- Lists that rise by a number of each element, and what is in lists made of them.
use Rattle.std.proofs.Common.{◌≡◌, ◌≢◌, ℕ, zero, suc, ◌<◌, ◌≤◌, ◌⊎◌, Bool, true, false, cond, List, [], ◌∷◌, map, length, slice_index_or, Contains, Some, nat_cmp, Less, refl, sym, ◌∙◌, ap, subst, arith, inl, inr}
use Rattle.std.specs.Prelude.{nat_lt}
use Rattle.std.specs.List.{AllByRecursion, filter, find}
use Rattle.std.specs.List.Sorted.{IsStrictlySortedBy}
use Rattle.std.specs.Option.{option_map}
use Rattle.std.proofs.lemmas.Bool.{ltb-true, ltb-false, cases_order}
use Rattle.std.proofs.lemmas.Grind.{common_steps}
use Rattle.vrx_buffer.specs.Order.{put_by}

-- the first of a list is in it
pub Contains-head : {X : Type 0} (x : X) (xs : List X) → Contains (x ∷ xs) x
Contains-head x xs = (0, omega arith, refl)

-- what is in the rest of a list is in it
pub Contains-tail : {X : Type 0} (y : X) (xs : List X) (x : X) → Contains xs x → Contains (y ∷ xs) x
Contains-tail y xs x c = (suc c.0, omega arith, c.2)

-- what is at a place of a list is its first, or in the rest
member_at : {X : Type 0} (y : X) (xs : List X) (x : X) (k : ℕ) → k < length (y ∷ xs) →
    slice_index_or (y ∷ xs) k x ≡ x → (y ≡ x) ⊎ Contains xs x
member_at y xs x zero within is = inl is
member_at y xs x (suc k) within is = inr (k, omega arith, is)

-- what is in a list is its first, or in the rest
pub Contains-either : {X : Type 0} (y : X) (xs : List X) (x : X) → Contains (y ∷ xs) x → (y ≡ x) ⊎ Contains xs x
Contains-either y xs x c = member_at y xs x c.0 c.1 c.2

-- nothing is in the empty list
pub Contains-empty : {X : Type 0} (x : X) → Contains [] x → ⊥
Contains-empty x c = omega arith

-- what holds of all holds of each
pub all-in : {X : Type 0} (P : X → Type 0) (xs : List X) (x : X) → AllByRecursion P xs → Contains xs x → P x
all-in P [] x all c = absurd (Contains-empty x c)
all-in P (y ∷ ys) x all c =
    elim (Contains-either y ys x c) [ inl same ↦ subst P same all.0 | inr later ↦ all-in P ys x all.1 later ]

-- and what holds of each holds of all
pub all-of : {X : Type 0} (P : X → Type 0) (xs : List X) → ((x : X) → Contains xs x → P x) → AllByRecursion P xs
all-of P [] each = tt
all-of P (y ∷ ys) each = (each y (Contains-head y ys), all-of P ys (λ x c. each x (Contains-tail y ys x c)))

module _ {X : Type 0} (test : X → Bool) where
  -- what is in the values that pass a test is in the list, and passes it
  pub filter-from : (xs : List X) (x : X) → Contains (filter test xs) x → Contains xs x × (test x ≡ true)
  filter-from [] x c = absurd (Contains-empty x c)
  filter-from (y ∷ xs) x c = either (λ d. filter-from xs x d) (test y) refl c where
    later : Contains xs x × (test x ≡ true) → Contains (y ∷ xs) x × (test x ≡ true)
    later p = (Contains-tail y xs x p.0, p.1)

    either : (Contains (filter test xs) x → Contains xs x × (test x ≡ true)) → (b : Bool) → test y ≡ b →
        Contains (cond b (y ∷ filter test xs) (filter test xs)) x → Contains (y ∷ xs) x × (test x ≡ true)
    either rest true pass d = elim (Contains-either y (filter test xs) x d) [
      | inl same ↦ (subst (λ z. Contains (y ∷ xs) z) same (Contains-head y xs), ap test (sym same) ∙ pass)
      | inr more ↦ later (rest more)
    ]
    either rest false fail d = later (rest d)

  -- and back
  pub filter-to : (xs : List X) (x : X) → Contains xs x → test x ≡ true → Contains (filter test xs) x
  filter-to [] x c pass = absurd (Contains-empty x c)
  filter-to (y ∷ xs) x c pass = elim (Contains-either y xs x c) [
    | inl same ↦ subst (λ b. Contains (cond b (y ∷ filter test xs) (filter test xs)) x) (sym (ap test same ∙ pass))
        (subst (λ z. Contains (y ∷ filter test xs) z) same (Contains-head y (filter test xs)))
    | inr later ↦ either (test y) (filter-to xs x later pass)
  ] where
    either : (b : Bool) → Contains (filter test xs) x → Contains (cond b (y ∷ filter test xs) (filter test xs)) x
    either true d = Contains-tail y (filter test xs) x d
    either false d = d

  -- what holds of all holds of those that pass
  pub filter-all : (P : X → Type 0) (xs : List X) → AllByRecursion P xs → AllByRecursion P (filter test xs)
  filter-all P [] all = tt
  filter-all P (x ∷ xs) all =
      elim (test x) as (λ b. AllByRecursion P
      (cond b (x ∷ filter test xs) (filter test xs))) [
        | true ↦ (all.0, filter-all P xs all.1)
        | false ↦ filter-all P
            xs all.1
      ]

  -- if all pass, all are left
  pub filter-whole : (xs : List X) → AllByRecursion (λ x. test x ≡ true) xs → filter test xs ≡ xs
  filter-whole [] all = refl
  filter-whole (x ∷ xs) all = ap (λ b. cond b (x ∷ filter test xs) (filter test xs)) all.0
      ∙ ap (λ (ys : List X). x ∷ ys) (filter-whole xs all.1)

-- two tests that agree on a list leave the same of it
pub filter-same : {X : Type 0} (t u : X → Bool) (xs : List X) → AllByRecursion (λ x. t x ≡ u x) xs →
    filter t xs ≡ filter u xs
filter-same t u [] all = refl
filter-same t u (x ∷ xs) all = ap (λ b. cond b (x ∷ filter t xs) (filter t xs)) all.0
    ∙ ap (λ ys. cond (u x) (x ∷ ys) ys) (filter-same t u xs all.1)

-- and find the same
pub find-same : {X : Type 0} (t u : X → Bool) (xs : List X) → AllByRecursion (λ x. t x ≡ u x) xs →
    find t xs ≡ find u xs
find-same t u [] all = refl
find-same t u (x ∷ xs) all =
    ap (λ b. cond b (Some x) (find t xs)) all.0 ∙ ap (λ o. cond (u x) (Some x) o) (find-same t u xs all.1)

-- what is found is in the list
pub find-among : {X : Type 0} (t : X → Bool) (xs : List X) (x : X) → find t xs ≡ Some x → Contains xs x × (t x ≡ true)
find-among t [] x is = absurd (cc)
find-among t (y ∷ ys) x is = either (t y) refl is (λ more. find-among t ys x more) where
  either : (b : Bool) → t y ≡ b → cond b (Some y) (find t ys) ≡ Some x →
      (find t ys ≡ Some x → Contains ys x × (t x ≡ true)) → Contains (y ∷ ys) x × (t x ≡ true)
  either true pass found rest = let same : y ≡ x =
      cc in (subst (λ z. Contains (y ∷ ys) z) same (Contains-head y ys), ap t (sym same) ∙ pass)
  either false fail found rest = let p : Contains ys x × (t x ≡ true) = rest found in (Contains-tail y ys x p.0, p.1)

module _ {X Y : Type 0} (f : X → Y) where
  -- what is in a list of images is the image of one
  pub map-from : (xs : List X) (y : Y) → Contains (map f xs) y → (x : X) × Contains xs x × (f x ≡ y)
  map-from [] y c = absurd (Contains-empty y c)
  map-from (x ∷ xs) y c = elim (Contains-either (f x) (map f xs) y c) [
    | inl here ↦ (x, Contains-head x xs, here)
    | inr later ↦ let p : (z : X) × Contains xs z × (f z ≡ y) =
        map-from xs y later in (p.0, Contains-tail x xs p.0 p.1, p.2)
  ]

  -- and back
  pub map-to : (xs : List X) (x : X) → Contains xs x → Contains (map f xs) (f x)
  map-to [] x c = absurd (Contains-empty x c)
  map-to (z ∷ xs) x c = elim (Contains-either z xs x c) [
    | inl same ↦ subst (λ w. Contains (f z ∷ map f xs) (f w)) same (Contains-head (f z) (map f xs))
    | inr later ↦ Contains-tail (f z) (map f xs) (f x) (map-to xs x later)
  ]

  -- what holds of all images
  pub map-all : (P : Y → Type 0) (xs : List X) → AllByRecursion (λ x. P (f x)) xs → AllByRecursion P (map f xs)
  map-all P [] all = tt
  map-all P (x ∷ xs) all = (all.0, map-all P xs all.1)

  -- and back
  pub all-map : (P : Y → Type 0) (xs : List X) → AllByRecursion P (map f xs) → AllByRecursion (λ x. P (f x)) xs
  all-map P [] all = tt
  all-map P (x ∷ xs) all = (all.0, all-map P xs all.1)

  -- images that pass a test
  pub filter-map : (test : Y → Bool) (xs : List X) → filter test (map f xs) ≡ map f (filter (λ x. test (f x)) xs)
  filter-map test [] = refl
  filter-map test (x ∷ xs) =
      elim (test (f x)) as (λ b.
      cond b (f x ∷ filter test (map f xs)) (filter test (map f xs)) ≡ map f
      (cond b (x ∷ filter (λ z. test (f z)) xs) (filter (λ z. test (f z)) xs))) [
        | true ↦ ap (λ (ys : List Y). f x ∷ ys) (filter-map test xs)
        | false ↦ filter-map test xs
      ]

  -- the first image that passes a test
  pub find-map : (test : Y → Bool) (xs : List X) → find test (map f xs) ≡ option_map f (find (λ x. test (f x)) xs)
  find-map test [] = refl
  find-map test (x ∷ xs) =
      elim (test (f x)) as (λ b.
      cond b (Some (f x)) (find test (map f xs)) ≡ option_map f
      (cond b (Some x) (find (λ z. test (f z)) xs))) [ true ↦ refl | false ↦ find-map test xs ]

-- numbers that compare as less
less-from : (a b : ℕ) → nat_cmp a b ≡ Less → a < b
less-from a b h = grind (arith, common_steps)

module _ {X : Type 0} (number : X → ℕ) where
  -- each element's number is below those of all that follow it
  abbrev pub Rises : List X → Type 0
  Rises [] = Unit {0}
  Rises (x ∷ xs) = AllByRecursion (λ y. number x < number y) xs × Rises xs

  -- a list in strict order rises
  pub rises-from : (xs : List X) → IsStrictlySortedBy (λ (a b : X). nat_cmp (number a) (number b)) xs → Rises xs
  unfolding IsStrictlySortedBy
  rises-from [] h = tt
  rises-from (x ∷ xs) h = (
    all-of (λ y. number x < number y) xs
        (λ y c. less-from (number x) (number y) (all-in (λ y. nat_cmp (number x) (number y) ≡ Less) xs y h.0 c)),
    rises-from xs h.1,
  )

  -- and so does what passes a test of it
  pub rises-filter : (test : X → Bool) (xs : List X) → Rises xs → Rises (filter test xs)
  rises-filter test [] rises = tt
  rises-filter test (x ∷ xs) rises = elim (test x) as (λ b. Rises (cond b (x ∷ filter test xs) (filter test xs))) [
    | true ↦ (filter-all test (λ y. number x < number y) xs rises.0, rises-filter test xs rises.1)
    | false ↦ rises-filter test xs rises.1
  ]

  -- two elements with one number are one
  pub one-with : (xs : List X) (a b : X) → Rises xs → Contains xs a → Contains xs b → number a ≡ number b → a ≡ b
  one-with [] a b rises c d same = absurd (Contains-empty a c)
  one-with (x ∷ xs) a b rises c d same = elim (Contains-either x xs a c) [
    | inl here ↦ elim (Contains-either x xs b d) [
      | inl here' ↦ sym here ∙ here'
      | inr later ↦ let above : number x < number b = all-in (λ y. number x < number y) xs b rises.0 later in
          let e : number x ≡ number a = ap number here in absurd (omega arith)
    ]
    | inr later ↦ elim (Contains-either x xs b d) [
      | inl here' ↦ let above : number x < number a = all-in (λ y. number x < number y) xs a rises.0 later in
          let e : number x ≡ number b = ap number here' in absurd (omega arith)
      | inr later' ↦ one-with xs a b rises.1 later later' same
    ]
  ]

  -- what is in two lists that rise and have the same first, and isn't the first, is in the rest
  in-rest : (x : X) (xs ys : List X) (z : X) → Rises (x ∷ xs) → Contains xs z → Contains (x ∷ ys) z → Contains ys z
  in-rest x xs ys z rises there either = elim (Contains-either x ys z either) [
    | inl same ↦ let above : number x < number z = all-in (λ y. number x < number y) xs z rises.0 there in
        let e : number x ≡ number z = ap number same in absurd (omega arith)
    | inr later ↦ later
  ]

  -- two lists that rise and have the same elements are one
  pub same-lists : (xs ys : List X) → Rises xs → Rises ys → ((x : X) → Contains xs x → Contains ys x) →
      ((x : X) → Contains ys x → Contains xs x) → xs ≡ ys
  same-lists [] [] a b to back = refl
  same-lists [] (y ∷ ys) a b to back = absurd (Contains-empty y (back y (Contains-head y ys)))
  same-lists (x ∷ xs) [] a b to back = absurd (Contains-empty x (to x (Contains-head x xs)))
  same-lists (x ∷ xs) (y ∷ ys) a b to back =
      let first : x ≡ y = firsts (Contains-either y ys x (to x (Contains-head x xs)))
      (Contains-either x xs y (back y (Contains-head y ys))) in
      ap (λ (z : X). z ∷ xs) first
      ∙ ap (λ (zs : List X). y ∷ zs) (same-lists xs ys a.1 b.1
      (λ z c. in-rest x xs ys z a c (subst (λ w. Contains (w ∷ ys) z) (sym first) (to z (Contains-tail x xs z c))))
      (λ z c. in-rest y ys xs z b c (subst (λ w. Contains (w ∷ xs) z) first (back z (Contains-tail y ys z c))))) where
        firsts : (y ≡ x) ⊎ Contains ys x → (x ≡ y) ⊎ Contains xs y → x ≡ y
        firsts (inl same) other = sym same
        firsts (inr later) (inl same) = same
        firsts (inr later) (inr later') =
            let above : number y < number x = all-in (λ z. number y < number z) ys x b.0 later in
            let above' : number x < number y = all-in (λ z. number x < number z) xs y a.0 later' in
            absurd (omega arith)

  -- what is in a list with one more put in its place
  pub put-from : (x : X) (xs : List X) (z : X) → Contains (put_by number x xs) z → (x ≡ z) ⊎ Contains xs z
  put-from x [] z c = Contains-either x [] z c
  put-from x (y ∷ ys) z c = either (nat_lt (number x) (number y)) c (λ d. put-from x ys z d) where
    either : (b : Bool) → Contains (cond b (x ∷ y ∷ ys) (y ∷ put_by number x ys)) z →
        (Contains (put_by number x ys) z → (x ≡ z) ⊎ Contains ys z) → (x ≡ z) ⊎ Contains (y ∷ ys) z
    either true d rest = Contains-either x (y ∷ ys) z d
    either false d rest = elim (Contains-either y (put_by number x ys) z d) [
      | inl same ↦ inr (subst (λ w. Contains (y ∷ ys) w) same (Contains-head y ys))
      | inr later ↦ elim (rest later) [ inl same ↦ inl same | inr more ↦ inr (Contains-tail y ys z more) ]
    ]

  -- the one that was put is there
  pub put-here : (x : X) (xs : List X) → Contains (put_by number x xs) x
  put-here x [] = Contains-head x []
  put-here x (y ∷ ys) =
      elim (nat_lt (number x) (number y)) as (λ b. Contains (cond b (x ∷ y ∷ ys) (y ∷ put_by number x ys)) x) [
        | true ↦ Contains-head x (y ∷ ys)
        | false ↦ Contains-tail y (put_by number x ys) x (put-here x ys)
      ]

  -- and what was there is there still
  pub put-stays : (x : X) (xs : List X) (z : X) → Contains xs z → Contains (put_by number x xs) z
  put-stays x [] z c = absurd (Contains-empty z c)
  put-stays x (y ∷ ys) z c = either (nat_lt (number x) (number y)) (λ d. put-stays x ys z d) where
    either : (b : Bool) → (Contains ys z → Contains (put_by number x ys) z) →
        Contains (cond b (x ∷ y ∷ ys) (y ∷ put_by number x ys)) z
    either true rest = Contains-tail x (y ∷ ys) z c
    either false rest = elim (Contains-either y ys z c) [
      | inl same ↦ subst (λ w. Contains (y ∷ put_by number x ys) w) same (Contains-head y (put_by number x ys))
      | inr later ↦ Contains-tail y (put_by number x ys) z (rest later)
    ]

  -- a number below the first is below all
  below-all : (n : ℕ) (x : X) (xs : List X) → n < number x → Rises (x ∷ xs) →
      AllByRecursion (λ y. n < number y) (x ∷ xs)
  below-all n x xs less rises = (
    less,
    all-of (λ y. n < number y) xs
        (λ y c. let above : number x < number y = all-in (λ y. number x < number y) xs y rises.0 c in omega arith),
  )

  -- with a number that none has, the list still rises
  pub rises-put : (x : X) (xs : List X) → Rises xs → AllByRecursion (λ y. number y ≢ number x) xs →
      Rises (put_by number x xs)
  rises-put x [] rises fresh = (tt, tt)
  rises-put x (y ∷ ys) rises fresh = either (rises-put x ys rises.1 fresh.1) (nat_lt (number x) (number y)) refl where
    either : Rises (put_by number x ys) → (b : Bool) → nat_lt (number x) (number y) ≡ b →
        Rises (cond b (x ∷ y ∷ ys) (y ∷ put_by number x ys))
    either rest true less = (below-all (number x) y ys (ltb-true (number x) (number y) less) rises, rises)
    either rest false more = (all-of (λ z. number y < number z) (put_by number x ys) above, rest) where
      beyond : number y < number x
      beyond = let upto : number y ≤ number x = ltb-false (number x) (number y) more in
          let apart : number y ≢ number x = fresh.0 in
          elim (cases_order (number y) (number x)) [
            | inl same ↦ absurd
                (apart same)
            | inr other ↦ elim other [ inl less ↦ less | inr less ↦ absurd (omega arith) ]
          ]

      above : (z : X) → Contains (put_by number x ys) z → number y < number z
      above z c = elim (put-from x ys z c) [
        | inl same ↦ subst (λ w. number y < number w) same beyond
        | inr later ↦ all-in (λ w. number y < number w) ys z rises.0 later
      ]

-- images with the same numbers rise
pub rises-map : {X Y : Type 0} (number : X → ℕ) (number' : Y → ℕ) (f : X → Y) → ((x : X) → number' (f x) ≡ number x) →
    (xs : List X) → Rises number xs → Rises number' (map f xs)
rises-map number number' f same [] rises = tt
rises-map {X = X} number number' f same (x ∷ xs) rises = (
  map-all f (λ y. number' (f x) < number' y) xs (all-of (λ z. number' (f x) < number' (f z)) xs above),
  rises-map number number' f same xs rises.1,
) where
  above : (z : X) → Contains xs z → number' (f x) < number' (f z)
  above z c = let less : number x < number z = all-in (λ w. number x < number w) xs z rises.0 c in
      let e : number' (f x) ≡ number x = same x in let e' : number' (f z) ≡ number z = same z in omega arith

-- and back
pub map-rises : {X Y : Type 0} (number : X → ℕ) (number' : Y → ℕ) (f : X → Y) → ((x : X) → number' (f x) ≡ number x) →
    (xs : List X) → Rises number' (map f xs) → Rises number xs
map-rises number number' f same [] rises = tt
map-rises {X = X} number number' f same (x ∷ xs) rises =
    (all-of (λ z. number x < number z) xs above, map-rises number number' f same xs rises.1) where
      above : (z : X) → Contains xs z → number x < number z
      above z c = let less : number' (f x) < number' (f z) =
          all-in (λ w. number' (f x) < number' w) (map f xs) (f z) rises.0 (map-to f xs z c) in
          let e : number' (f x) ≡ number x = same x in let e' : number' (f z) ≡ number z = same z in omega arith
