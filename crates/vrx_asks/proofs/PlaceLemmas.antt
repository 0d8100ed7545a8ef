-- The place of a number among numbers that rise.
use Rattle.std.proofs.Common.{◌≡◌, ℕ, ◌<◌, ◌≤◌, Bool, true, List, [], ◌∷◌, zero, suc, length, get_or, refl, sym, ap, arith}
use Rattle.std.specs.Prelude.{◌==◌, ◌≢◌, not, nat_lt, Option, Result, Ok, Err, IfSome, IfNone}
use Rattle.std.specs.List.{filter, list_all, remove}
use Rattle.std.specs.List.Sorted.{IsBinarySearchResult, IsNonDecreasingBy, IsSearchInRange}
use Rattle.std.specs.Ordering.{nat_cmp, ordering_index}
use Rattle.std.specs.Result.{result_ok}
use Rattle.std.proofs.lemmas.Bool.Decides.{nat_tests}
use Rattle.std.proofs.lemmas.Cmp.{ranked}
use Rattle.std.proofs.lemmas.Grind.{common_steps}
use Rattle.std.proofs.lemmas.List.Sorted.{IsNonDecreasingBy-from_default}
use Rattle.std.proofs.lemmas.List.Sums.{list_all-from_AllPass}
use Rattle.vrx_asks.specs.declared.ask.Ask.{Ask}
use Rattle.vrx_asks.specs.Asks.{beyond, without}
use Rattle.vrx_asks.specs.IsAsks.{rises}
use Rattle.vrx_asks.proofs.SoundLemmas.{are_above}

-- a filter that all pass leaves all
filter-all : (p : Ask → Bool) (asks : List Ask) → list_all p asks ≡ true → filter p asks ≡ asks
filter-all p [] h = refl
filter-all p (x ∷ xs) h = grind (arith, common_steps, filter-all p xs)

-- if the first lies above a number, so do all
above-first : (n : ℕ) (x : Ask) (xs : List Ask) → rises (x ∷ xs) ≡ true → n < x.number → are_above n (x ∷ xs) ≡ true
above-first n x [] rise lt = grind (arith, common_steps)
above-first n x (y ∷ ys) rise lt = grind (arith, common_steps, above-first n y ys)

pub beyond-first : (n : ℕ) (asks : List Ask) (d : Ask) → rises asks ≡ true → 1 ≤ length asks
    → n < (get_or asks 0 d).number → beyond n asks ≡ asks
beyond-first n [] d rise some lt = absurd (omega arith)
beyond-first n (y ∷ ys) d rise some lt = filter-all (λ ask. nat_lt n ask.number) (y ∷ ys) (above-first n y ys rise lt)

-- a number that stands at no place
without-absent : (n : ℕ) (asks : List Ask) → ((k : ℕ) (d : Ask) → k < length asks → (get_or asks k d).number ≢ n)
    → without n asks ≡ asks
without-absent n asks h =
    let differs : Ask → Bool = λ ask. not (ask.number == n) in
    filter-all differs asks (list_all-from_AllPass differs asks
    (λ k d lt. passes (get_or asks k d).number n (h k d lt)))
  where
    passes : (m n : ℕ) → m ≢ n → not (m == n) ≡ true
    passes m n ne = grind (arith, common_steps)

-- a number below all
without-below : (n : ℕ) (asks : List Ask) → are_above n asks ≡ true → without n asks ≡ asks
without-below n [] h = refl
without-below n (x ∷ xs) h = grind (arith, common_steps, without-below n xs)

above-each : (n : ℕ) (asks : List Ask) (k : ℕ) (d : Ask) → are_above n asks ≡ true → k < length asks
    → n < (get_or asks k d).number
above-each n [] k d h lt = absurd (omega arith)
above-each n (x ∷ xs) zero d h lt = grind (arith, common_steps)
above-each n (x ∷ xs) (suc k) d h lt = grind (arith, common_steps, above-each n xs k d)

-- a number is below those at later places
rises-each : (asks : List Ask) (i j : ℕ) (d : Ask) → rises asks ≡ true → i < j → j < length asks
    → (get_or asks i d).number < (get_or asks j d).number
rises-each [] i j d rise below lt = absurd (omega arith)
rises-each (x ∷ xs) i zero d rise below lt = absurd (omega arith)
rises-each (x ∷ xs) zero (suc j) d rise below lt = grind (arith, common_steps, above-each x.number xs j d)
rises-each (x ∷ xs) (suc i) (suc j) d rise below lt = grind (arith, common_steps, rises-each xs i j d)

-- a number that stands at a place stands nowhere else
remove-without : (n : ℕ) (asks : List Ask) (k : ℕ) (d : Ask) → rises asks ≡ true → k < length asks
    → (get_or asks k d).number ≡ n → remove asks k ≡ without n asks
remove-without n [] k d rise lt is = absurd (omega arith)
remove-without n (x ∷ xs) zero d rise lt is = grind (arith, common_steps, without-below n xs)
remove-without n (x ∷ xs) (suc k) d rise lt is =
    let rest : rises xs ≡ true = grind (arith, common_steps) in
    let others : are_above x.number xs ≡ true = grind (arith, common_steps) in
    let in_range : k < length xs = omega arith in
    let less : x.number < (get_or xs k d).number = above-each x.number xs k d others in_range in
    let differs : not (x.number == n) ≡ true = grind (arith, nat_tests, less, is) in
    rw differs (ap (λ ys. x ∷ ys) (remove-without n xs k d rest in_range is))

-- what a search gives: the number's place, or it is absent
pub record Finds (n : ℕ) (asks : List Ask) (place : Option ℕ) : Type 0 where
  pub found : IfSome place (λ at. (at < length asks) × (remove asks at ≡ without n asks))
  pub absent : IfNone place (without n asks ≡ asks)

-- any ask
abbrev pub some : Ask
some = record { number = 0; times = 0; last = 0 }

-- a number is another if it is less before a place, and more from there on
differs-beside : (k place m n : ℕ) → (k < place → m < n) → (place ≤ k → n < m) → m ≢ n
differs-beside k place m n less more = grind arith

module _ (n : ℕ) (asks : List Ask) (rise : rises asks ≡ true) where
  -- the comparisons with a number rise, as a binary search asks
  comparisons_rise : IsNonDecreasingBy (λ ask. ordering_index (nat_cmp ask.number n)) asks
  comparisons_rise =
      IsNonDecreasingBy-from_default (λ ask. ordering_index (nat_cmp ask.number n)) asks some (λ i j le lt.
      let number : ℕ → ℕ = λ k. (get_or asks k some).number in
      let before : i < j → number i < number j = λ below. rises-each asks i j some rise below lt in
      grind (arith, nat_tests, before, λ (same : i ≡ j). ap number same))

  -- a binary search finds the number, or it is absent
  pub searched : (r : Result ℕ ℕ) → IsSearchInRange r (length asks)
      → IsBinarySearchResult (λ ask. nat_cmp ask.number n) asks r → Finds n asks (result_ok r)
  searched (Ok place) in_range equal = record {
    found = (in_range, remove-without n asks place some rise in_range (ranked _ n _ (sym (equal some))));
    absent = tt;
  }
  searched (Err place) in_range parted = record {
    found = tt;
    absent = without-absent n asks (λ k d lt same.
        let number : ℕ = (get_or asks k d).number in
        let less : k < place → number < n =
        λ at. ranked _ n _ (sym ((parted comparisons_rise).0 k d (omega arith) at)) in
        let more : place ≤ k → n < number = λ at. ranked _ n _ (sym ((parted comparisons_rise).1 k d at lt)) in
        differs-beside k place number n less more same);
  }
