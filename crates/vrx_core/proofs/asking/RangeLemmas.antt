-- Lists of numbers: which are in them, and that they rise.
use Rattle.std.proofs.Common.{◌≡◌, ℕ, zero, suc, ◌+◌, ◌-◌, ◌<◌, ◌≤◌, ◌⊎◌, max, Bool, true, false, cond, ◌&&◌, ◌||◌, List, [], ◌∷◌, ◌++◌, map, filter, Contains, Option, Some, None, IsSomeAnd, refl, sym, ◌∙◌, ap, subst, arith, inl, inr, nat_cmp, Ordering, Less, Equal, Greater}
use Rattle.std.specs.Prelude.{◌==◌}
use Rattle.std.specs.List.{AllByRecursion, list_all}
use Rattle.std.specs.FinMap.Entries.{by_order}
use Rattle.std.proofs.lemmas.Bool.{and_parts, cases_lt, eq-eqb, eqb-true}
use Rattle.vrx_num.specs.declared.limits.TheConstants.{WINDOW}
use Rattle.vrx_window.specs.Window.{with_number}
use Rattle.vrx_frames.specs.Completed.{is_among}
use Rattle.vrx_frames.specs.Run.{numbers_from}
use Rattle.vrx_core.specs.machine.GivenUp.{numbers_below, numbers_left}
use Rattle.vrx_core.specs.machine.Machine.{with_numbers}
use Rattle.vrx_core.specs.machine.Request.{numbers_between}
use Rattle.vrx_core.proofs.machine.KeyLemmas.{equal_key}
use Rattle.vrx_core.proofs.machine.TestLemmas.{list_any-from, list_any-to}
use Rattle.vrx_core.proofs.relation.ListLemmas.{Rises, Contains-head, Contains-tail, Contains-either, Contains-empty, all-of}

-- what is among numbers is in the list
pub among-from : (ns : List ℕ) (n : ℕ) → is_among ns n ≡ true → Contains ns n
among-from ns n is = let p : (k : ℕ) × Contains ns k × ((n == k) ≡ true) =
    list_any-from (λ k. n == k) ns is in subst (λ k. Contains ns k) (sym (eqb-true n p.0 p.2)) p.1

-- and back
pub among-to : (ns : List ℕ) (n : ℕ) → Contains ns n → is_among ns n ≡ true
among-to ns n c = list_any-to (λ k. n == k) ns n c (eq-eqb n n refl)

-- which numbers follow one
pub from-bounds : (n k m : ℕ) → Contains (numbers_from n k) m → (n ≤ m) × (m < n + k)
from-bounds n zero m c = absurd (Contains-empty m c)
from-bounds n (suc k) m c = elim (Contains-either n (numbers_from (n + 1) k) m c) [
  | inl same ↦ (omega (arith, same), omega (arith, same))
  | inr later ↦ let p : (n + 1 ≤ m) × (m < n + 1 + k) =
      from-bounds (n + 1) k m later in (omega (arith, p.0), omega (arith, p.1))
]

-- and back
pub from-to : (n k m : ℕ) → n ≤ m → m < n + k → Contains (numbers_from n k) m
from-to n zero m least most = absurd (omega (arith, least, most))
from-to n (suc k) m least most = elim (cases_lt n m) [
  | inl above ↦ Contains-tail n (numbers_from (n + 1) k) m
      (from-to (n + 1) k m (omega (arith, above)) (omega (arith, most)))
  | inr upto ↦ let same : n ≡ m = omega (arith, least, upto) in
      subst (λ z. Contains (n ∷ numbers_from (n + 1) k) z) same (Contains-head n (numbers_from (n + 1) k))
]

-- they rise
pub from-rises : (n k : ℕ) → Rises (λ m. m) (numbers_from n k)
from-rises n zero = tt
from-rises n (suc k) = (
  all-of (λ m. n < m) (numbers_from (n + 1) k)
      (λ m c. let p : (n + 1 ≤ m) × (m < n + 1 + k) = from-bounds (n + 1) k m c in omega (arith, p.0)),
  from-rises (n + 1) k,
)

-- the numbers from one on, below another
pub below-bounds : (from below m : ℕ) → Contains (numbers_below from below) m → (from ≤ m) × (m < below)
below-bounds from below m c = let p : (from ≤ m) × (m < from + (below - from)) =
    from-bounds from (below - from) m c in (p.0, omega (arith, p.0, p.1))

pub below-to : (from below m : ℕ) → from ≤ m → m < below → Contains (numbers_below from below) m
below-to from below m least most = from-to from (below - from) m least (omega (arith, least, most))

pub below-rises : (from below : ℕ) → Rises (λ m. m) (numbers_below from below)
below-rises from below = from-rises from (below - from)

-- the numbers that lie between the first one and the newest, in the window
pub record LiesBetween (first newest : Option ℕ) (m : ℕ) : Type 0 where
  pub after_first : IsSomeAnd first (λ f. f < m)
  pub before_newest : IsSomeAnd newest (λ k. m < k)
  pub inside : IsSomeAnd newest (λ k. (k < m + WINDOW) × (m ≤ k))

pub between-from : (first newest : Option ℕ) (m : ℕ) → Contains (numbers_between first newest) m →
    LiesBetween first newest m
between-from None newest m c = absurd (Contains-empty m c)
between-from (Some f) None m c = absurd (Contains-empty m c)
between-from (Some f) (Some k) m c =
    let p : (max (f + 1) (k + 1 - WINDOW) ≤ m) × (m < k) = below-bounds (max (f + 1) (k + 1 - WINDOW)) k m c in
    record {
      after_first = omega (arith, p.0);
      before_newest = p.1;
      inside = (omega (arith, p.0), omega (arith, p.1));
    }

pub between-to : (first newest : Option ℕ) (m : ℕ) → LiesBetween first newest m →
    Contains (numbers_between first newest) m
between-to None newest m l = absurd l.after_first
between-to (Some f) None m l = absurd l.before_newest
between-to (Some f) (Some k) m l =
    below-to (max (f + 1) (k + 1 - WINDOW)) k m
    (let above : f < m = l.after_first in let within : k < m + WINDOW = l.inside.0 in
    omega (arith, above, within)) l.before_newest

pub between-rises : (first newest : Option ℕ) → Rises (λ m. m) (numbers_between first newest)
between-rises None newest = tt
between-rises (Some f) None = tt
between-rises (Some f) (Some k) = below-rises (max (f + 1) (k + 1 - WINDOW)) k

-- the numbers that leave the window
pub record Leaves (first before : Option ℕ) (after m : ℕ) : Type 0 where
  pub from_first : IsSomeAnd first (λ f. f ≤ m)
  pub was_inside : IsSomeAnd before (λ k. k < m + WINDOW)
  pub left : m + WINDOW ≤ after

pub left-from : (first before : Option ℕ) (after m : ℕ) → Contains (numbers_left first before (Some after)) m →
    Leaves first before after m
left-from None before after m c = absurd (Contains-empty m c)
left-from (Some f) None after m c = absurd (Contains-empty m c)
left-from (Some f) (Some k) after m c =
    let p : (max f (k + 1 - WINDOW) ≤ m) × (m < after + 1 - WINDOW) =
    below-bounds (max f (k + 1 - WINDOW)) (after + 1 - WINDOW) m c in
    record { from_first = omega (arith, p.0); was_inside = omega (arith, p.0); left = omega (arith, p.1) }

-- a number put among others
or-swap : (a b c : Bool) → (a || (b || c)) ≡ (b || (a || c))
or-swap true true c = refl
or-swap true false c = refl
or-swap false true c = refl
or-swap false false c = refl

or-twice : (a c : Bool) → (a || c) ≡ (a || (a || c))
or-twice true c = refl
or-twice false c = refl

or-move : (a b c : Bool) → (a || (b || c)) ≡ ((b || a) || c)
or-move true true c = refl
or-move true false c = refl
or-move false true c = refl
or-move false false c = refl

pub among-with : (n m : ℕ) (ks : List ℕ) → is_among (with_number n ks) m ≡ ((m == n) || is_among ks m)
among-with n m [] = refl
among-with n m (k ∷ ks) = by (nat_cmp n k) refl (among-with n m ks) where
  by : (o : Ordering) → nat_cmp n k ≡ o → is_among (with_number n ks) m ≡ ((m == n) || is_among ks m)
      → is_among (by_order o (n ∷ k ∷ ks) (k ∷ ks) (k ∷ with_number n ks)) m
      ≡ ((m == n) || ((m == k) || is_among ks m))
  by Less is rest = refl
  by Equal is rest =
      or-twice (m == k) (is_among ks m) ∙ ap (λ z. (m == z) || ((m == k) || is_among ks m)) (sym (equal_key n k is))
  by Greater is rest = ap (λ b. (m == k) || b) rest ∙ or-swap (m == k) (m == n) (is_among ks m)

pub among-withs : (ns ks : List ℕ) (m : ℕ) → is_among (with_numbers ns ks) m ≡ (is_among ns m || is_among ks m)
among-withs [] ks m = refl
among-withs (n ∷ ns) ks m = among-withs ns (with_number n ks) m ∙ ap (λ b. is_among ns m || b) (among-with n m ks)
    ∙ or-move (is_among ns m) (m == n) (is_among ks m)

module _ {X : Type 0} where
  -- what passes one test, and then another
  pub filter-filter : (p q r : X → Bool) (xs : List X) → AllByRecursion (λ x. (p x && q x) ≡ r x) xs →
      filter p (filter q xs) ≡ filter r xs
  filter-filter p q r [] all = refl
  filter-filter p q r (x ∷ xs) all = by (filter-filter p q r xs all.1) (q x) refl (p x) refl where
    by : filter p (filter q xs) ≡ filter r xs → (b : Bool) → q x ≡ b → (a : Bool) → p x ≡ a →
        filter p (cond b (x ∷ filter q xs) (filter q xs)) ≡ cond (r x) (x ∷ filter r xs) (filter r xs)
    by rest true is true is' = ap (λ c. cond c (x ∷ filter p (filter q xs)) (filter p (filter q xs))) is'
        ∙ ap (λ ys. x ∷ ys) rest
        ∙ ap (λ c. cond c (x ∷ filter r xs) (filter r xs)) (sym (ap (λ c. c && q x) is' ∙ is) ∙ all.0)
    by rest true is false is' = ap (λ c. cond c (x ∷ filter p (filter q xs)) (filter p (filter q xs))) is' ∙ rest
        ∙ ap (λ c. cond c (x ∷ filter r xs) (filter r xs)) (sym (ap (λ c. c && q x) is') ∙ all.0)
    by rest false is true is' =
        rest ∙ ap (λ c. cond c (x ∷ filter r xs) (filter r xs)) (sym (ap (λ c. c && q x) is' ∙ is) ∙ all.0)
    by rest false is false is' =
        rest ∙ ap (λ c. cond c (x ∷ filter r xs) (filter r xs)) (sym (ap (λ c. c && q x) is') ∙ all.0)

  -- two functions that agree on a list give the same images of it
  pub map-same : {Y : Type 0} (f g : X → Y) (xs : List X) → ((x : X) → Contains xs x → f x ≡ g x) →
      map f xs ≡ map g xs
  map-same f g [] same = refl
  map-same f g (x ∷ xs) same = ap (λ y. y ∷ map f xs) (same x (Contains-head x xs))
      ∙ ap (λ ys. g x ∷ ys) (map-same f g xs (λ z c. same z (Contains-tail x xs z c)))

  -- what holds of all, as a test, holds of each
  pub list_all-each : (test : X → Bool) (xs : List X) (x : X) → list_all test xs ≡ true → Contains xs x →
      test x ≡ true
  list_all-each test [] x all c = absurd (Contains-empty x c)
  list_all-each test (y ∷ xs) x all c =
      let p : (test y ≡ true) × (list_all test xs ≡ true) = and_parts (test y) (list_all test xs) all in
      elim (Contains-either y xs x c) [
        | inl same ↦ ap test (sym same)
            ∙ p.0
        | inr later ↦ list_all-each test xs x p.1 later
      ]

  -- what is in one list after another
  pub append-from : (xs ys : List X) (z : X) → Contains (xs ++ ys) z → Contains xs z ⊎ Contains ys z
  append-from [] ys z c = inr c
  append-from (x ∷ xs) ys z c = elim (Contains-either x (xs ++ ys) z c) [
    | inl same ↦ inl (subst (λ w. Contains (x ∷ xs) w) same (Contains-head x xs))
    | inr later ↦ elim (append-from xs ys z later) [
      | inl left ↦ inl
          (Contains-tail x xs z left)
      | inr right ↦ inr right
    ]
  ]

  pub append-left : (xs ys : List X) (z : X) → Contains xs z → Contains (xs ++ ys) z
  append-left [] ys z c = absurd (Contains-empty z c)
  append-left (x ∷ xs) ys z c = elim (Contains-either x xs z c) [
    | inl same ↦ subst (λ w. Contains (x ∷ (xs ++ ys)) w) same (Contains-head x (xs ++ ys))
    | inr later ↦ Contains-tail x (xs ++ ys) z (append-left xs ys z later)
  ]

  pub append-right : (xs ys : List X) (z : X) → Contains ys z → Contains (xs ++ ys) z
  append-right [] ys z c = c
  append-right (x ∷ xs) ys z c = Contains-tail x (xs ++ ys) z (append-right xs ys z c)
