-- What is missing once a packet was taken: the numbers left are below the gap, and near its end.
use Rattle.std.proofs.Common.{◌≡◌, ℕ, ◌+◌, ◌-◌, ◌<◌, Bool, true, List, [], ◌∷◌, Contains, Option, Some, None, IsSomeAnd, refl, arith}
use Rattle.std.specs.Prelude.{not, ◌==◌, nat_lt}
use Rattle.std.specs.List.{list_all}
use Rattle.std.proofs.lemmas.Bool.{and_from, lt-ltb, ltb-true}
use Rattle.std.proofs.lemmas.List.Elements.{recursion_from_All}
use Rattle.vrx_num.specs.declared.limits.TheConstants.{WINDOW}
use Rattle.vrx_asks.specs.Asks.{are_below, beyond, is_near, without}
use Rattle.vrx_asks.specs.declared.ask.Ask.{Ask}
use Rattle.vrx_core.specs.inside.Wants.{AreBelow, beyond_front, gap_from}
use Rattle.vrx_core.proofs.relation.ListLemmas.{Contains-head, Contains-tail, all-in, filter-from}

-- a test that each passes
pub list_all-of : {X : Type 0} (test : X → Bool) (xs : List X) → ((x : X) → Contains xs x → test x ≡ true) →
    list_all test xs ≡ true
list_all-of test [] each = refl
list_all-of test (x ∷ xs) each =
    and_from (test x) (list_all test xs) (each x (Contains-head x xs))
    (list_all-of test xs (λ y c. each y (Contains-tail x xs y c)))

-- what is beyond the front was there
pub beyond-from : (front : Option ℕ) (asks : List Ask) (a : Ask) → Contains (beyond_front front asks) a →
    Contains asks a
beyond-from None asks a c = c
beyond-from (Some front) asks a c = (filter-from (λ ask. nat_lt front ask.number) asks a c).0

-- the numbers left, once a packet was taken
abbrev pub left_after : (front : Option ℕ) (gone n : ℕ) → List Ask → List Ask
left_after front gone n asks = beyond_front front (beyond gone (without n asks))

pub left-from : (front : Option ℕ) (gone n : ℕ) (asks : List Ask) (a : Ask) →
    Contains (left_after front gone n asks) a → Contains asks a × (gone < a.number) × (not (a.number == n) ≡ true)
left-from front gone n asks a c =
    let outer = filter-from (λ ask. nat_lt gone ask.number) (without n asks) a
    (beyond-from front (beyond gone (without n asks)) a c) in
    let inner = filter-from (λ ask. not (ask.number == n)) asks a outer.0 in
    (inner.0, ltb-true gone a.number outer.1, inner.1)

-- each is below the newest number before
below-in : (newest : Option ℕ) (asks : List Ask) (a : Ask) → AreBelow newest asks → Contains asks a →
    IsSomeAnd newest (λ m. a.number < m)
below-in newest asks a below c =
    all-in (λ ask. IsSomeAnd newest (λ m. ask.number < m)) asks a
    (recursion_from_All (λ ask. IsSomeAnd newest (λ m. ask.number < m)) asks below) c

gap-above : (newest : Option ℕ) (after k : ℕ) → IsSomeAnd newest (λ m. k < m) → k < gap_from newest after
gap-above None after k below = absurd below
gap-above (Some m) after k below = let less : k < m = below in grind (arith)

pub left-below : (front newest : Option ℕ) (gone n after : ℕ) (asks : List Ask) → AreBelow newest asks →
    are_below (gap_from newest after) (left_after front gone n asks) ≡ true
left-below front newest gone n after asks below =
    list_all-of (λ ask. nat_lt ask.number (gap_from newest after)) (left_after front gone n asks)
    (λ a c. lt-ltb a.number (gap_from newest after)
    (gap-above newest after a.number (below-in newest asks a below (left-from front gone n asks a c).0)))

pub left-near : (front : Option ℕ) (gone n after : ℕ) (asks : List Ask) → gone ≡ after - WINDOW →
    is_near (after - 1) (left_after front gone n asks) ≡ true
left-near front gone n after asks gone_is =
    by (left_after front gone n asks) (λ a c. (left-from front gone n asks a c).1) where
      by : (xs : List Ask) → ((a : Ask) → Contains xs a → gone < a.number) → is_near (after - 1) xs ≡ true
      by [] each = refl
      by (a ∷ xs) each = let less : gone < a.number =
          each a (Contains-head a xs) in lt-ltb (after - 1 + 1) (a.number + WINDOW) (omega (arith, less, gone_is))
