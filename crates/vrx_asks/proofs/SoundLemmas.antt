-- What always holds of missing numbers stays so: they rise, and stay near each other.
use Rattle.std.proofs.Common.{◌≡◌, ◌∙◌, ℕ, ◌+◌, ◌<◌, ◌≤◌, Bool, true, List, [], ◌∷◌, ◌++◌, suc, length}
use Rattle.std.proofs.Common.{map, refl, sym, ap, arith, subst}
use Rattle.std.specs.Prelude.{nat_lt}
use Rattle.std.specs.List.{filter, list_all}
use Rattle.std.proofs.lemmas.Grind.{common_steps}
use Rattle.vrx_num.specs.declared.limits.TheConstants.{WINDOW}
use Rattle.vrx_asks.specs.declared.ask.Ask.{Ask}
use Rattle.vrx_asks.specs.Asks.{are_below, is_near}
use Rattle.vrx_asks.specs.IsAsks.{IsAsks, is_counted, rises}

-- all lie above a number
abbrev pub are_above : ℕ → List Ask → Bool
are_above n asks = list_all (λ ask. nat_lt n ask.number) asks

-- all lie, with the number after them, in a window that begins at a number
abbrev are_within : ℕ → List Ask → Bool
are_within first asks = list_all (λ ask. nat_lt (ask.number + 1) (first + WINDOW)) asks

-- all are near the first
abbrev are_near : List Ask → Bool
are_near asks = list_all (λ ask. is_near ask.number asks) asks

-- what all pass, those left by a filter pass
list_all-filter : (p q : Ask → Bool) (asks : List Ask) → list_all q asks ≡ true → list_all q (filter p asks) ≡ true
list_all-filter p q [] h = refl
list_all-filter p q (x ∷ xs) h = grind (arith, common_steps, list_all-filter p q xs)

-- what all pass, and one more does
list_all-more : (q : Ask → Bool) (x : Ask) (asks : List Ask) → list_all q asks ≡ true → q x ≡ true
    → list_all q (asks ++ x ∷ []) ≡ true
list_all-more q x [] h here = grind (arith, common_steps)
list_all-more q x (y ∷ ys) h here = grind (arith, common_steps, list_all-more q x ys)

rises-filter : (p : Ask → Bool) (asks : List Ask) → rises asks ≡ true → rises (filter p asks) ≡ true
rises-filter p [] h = refl
rises-filter p (x ∷ xs) h = grind (
  arith,
  common_steps,
  rises-filter p xs,
  list_all-filter p (λ other. nat_lt x.number other.number) xs,
)

rises-more : (x : Ask) (asks : List Ask) → rises asks ≡ true → are_below x.number asks ≡ true
    → rises (asks ++ x ∷ []) ≡ true
rises-more x [] h below = refl
rises-more x (y ∷ ys) h below = grind (
  arith,
  common_steps,
  rises-more x ys,
  list_all-more (λ other. nat_lt y.number other.number) x ys,
)

-- what lies in a window lies in one that begins later, if it isn't below that
are_within-later : (m n : ℕ) (asks : List Ask) → m ≤ n → are_within m asks ≡ true → are_within n asks ≡ true
are_within-later m n [] le h = refl
are_within-later m n (x ∷ xs) le h = grind (arith, common_steps, are_within-later m n xs le)

are_near-tail : (x : Ask) (xs : List Ask) → rises (x ∷ xs) ≡ true → are_near (x ∷ xs) ≡ true → are_near xs ≡ true
are_near-tail x [] rise h = refl
are_near-tail x (y ∷ ys) rise h = grind (arith, common_steps, are_within-later x.number y.number (y ∷ ys))

are_near-filter : (p : Ask → Bool) (asks : List Ask) → rises asks ≡ true → are_near asks ≡ true
    → are_near (filter p asks) ≡ true
are_near-filter p [] rise h = refl
are_near-filter p (x ∷ xs) rise h = grind (
  arith,
  common_steps,
  are_near-filter p xs,
  are_near-tail x xs rise h,
  list_all-filter p (λ ask. nat_lt (ask.number + 1) (x.number + WINDOW)) xs,
)

are_near-more : (x : Ask) (asks : List Ask) → are_near asks ≡ true → is_near x.number asks ≡ true
    → are_near (asks ++ x ∷ []) ≡ true
are_near-more x [] h near = grind (arith, common_steps)
are_near-more x (y ∷ ys) h near = grind (
  arith,
  common_steps,
  list_all-more (λ ask. nat_lt (ask.number + 1) (y.number + WINDOW)) x ys,
)

length-filter : (p : Ask → Bool) (asks : List Ask) → length (filter p asks) ≤ length asks
length-filter p [] = grind (arith, common_steps)
length-filter p (x ∷ xs) = grind (arith, common_steps, length-filter p xs)

-- numbers that rise between two numbers are no more than those between
few-between : (m n : ℕ) (asks : List Ask) → rises asks ≡ true → are_above m asks ≡ true
    → list_all (λ ask. nat_lt (ask.number + 1) n) asks ≡ true → m + 1 < n → length asks + m + 1 < n
few-between m n [] rise above below lt = grind (arith, common_steps)
few-between m n (x ∷ xs) rise above below lt = grind (arith, common_steps, few-between x.number n xs)

few : (asks : List Ask) → rises asks ≡ true → are_near asks ≡ true → length asks < WINDOW
few [] rise near = grind (arith, common_steps)
few (x ∷ xs) rise near = grind (arith, common_steps, few-between x.number (x.number + WINDOW) xs)

-- those left by a filter
pub IsAsks-filter : (p : Ask → Bool) (asks : List Ask) → IsAsks asks → IsAsks (filter p asks)
IsAsks-filter p asks h = record {
  rise = rises-filter p asks h.rise;
  counted = list_all-filter p is_counted asks h.counted;
  near = are_near-filter p asks h.rise h.near;
  few = let le : length (filter p asks) ≤ length asks = length-filter p asks in omega (arith, h.few);
}

-- one more, above all and near the first
pub IsAsks-more : (x : Ask) (asks : List Ask) → IsAsks asks → are_below x.number asks ≡ true
    → is_near x.number asks ≡ true → is_counted x ≡ true → IsAsks (asks ++ x ∷ [])
IsAsks-more x asks h below near counted =
    let rise : rises (asks ++ x ∷ []) ≡ true = rises-more x asks h.rise below in
    let all_near : are_near (asks ++ x ∷ []) ≡ true = are_near-more x asks h.near near in
    record {
      rise = rise;
      counted = list_all-more is_counted x asks h.counted counted;
      near = all_near;
      few = few (asks ++ x ∷ []) rise all_near;
    }

-- others of the same numbers
module _ (f : Ask → Ask) (same : (ask : Ask) → (f ask).number ≡ ask.number) where
  are_above-map : (n : ℕ) (asks : List Ask) → are_above n (map f asks) ≡ are_above n asks
  are_above-map n [] = refl
  are_above-map n (x ∷ xs) = rw (same x, are_above-map n xs)

  are_within-map : (n : ℕ) (asks : List Ask) → are_within n (map f asks) ≡ are_within n asks
  are_within-map n [] = refl
  are_within-map n (x ∷ xs) = rw (same x, are_within-map n xs)

  rises-map : (asks : List Ask) → rises (map f asks) ≡ rises asks
  rises-map [] = refl
  rises-map (x ∷ xs) = rw (same x, are_above-map x.number xs, rises-map xs)

  are_near-map : (asks : List Ask) → are_near (map f asks) ≡ are_near asks
  are_near-map [] = refl
  are_near-map (x ∷ xs) = rw (are_within-map (f x).number xs, same x)

  length-map : (asks : List Ask) → length (map f asks) ≡ length asks
  length-map [] = refl
  length-map (x ∷ xs) = ap suc (length-map xs)

  module _ (keeps : (ask : Ask) → is_counted ask ≡ true → is_counted (f ask) ≡ true) where
    counted-map : (asks : List Ask) → list_all is_counted asks ≡ true → list_all is_counted (map f asks) ≡ true
    counted-map [] h = refl
    counted-map (x ∷ xs) h = grind (arith, common_steps, keeps x, counted-map xs)

    pub IsAsks-map : (asks : List Ask) → IsAsks asks → IsAsks (map f asks)
    IsAsks-map asks h = record {
      rise = rises-map asks ∙ h.rise;
      counted = counted-map asks h.counted;
      near = are_near-map asks ∙ h.near;
      few = subst (λ n. n < WINDOW) (sym (length-map asks)) h.few;
    }
