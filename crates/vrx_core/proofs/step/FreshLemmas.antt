-- The missing numbers stay fresh: each is below the newest number, and may be placed. So those that a tick gives up can
-- be given up. And the numbers that are asked for lie near each other.
use Rattle.std.proofs.Common.{◌≡◌, ◌≢◌, ℕ, ◌+◌, ◌-◌, ◌<◌, ◌≤◌, ◌⊎◌, max, Bool, true, false, cond, not, ◌&&◌, ◌||◌, List, [], ◌∷◌, ◌++◌, length, Contains, Option, Some, None, is_some, IsSomeAnd, refl, sym, ◌∙◌, ap, subst, arith, inl, inr, nat_cmp, Ordering, Less, Equal, Greater}
use Rattle.std.specs.Prelude.{◌==◌, slice_index}
use Rattle.std.specs.List.{filter, list_all}
use Rattle.std.specs.List.Sorted.{IsStrictlySortedBy}
use Rattle.std.specs.FinMap.Entries.{by_order, where_key}
use Rattle.std.proofs.lemmas.Bool.{and_parts, eq-eqb, eqb-true, ne_eqb, false_from_ne_true, leb-true, leb-false, ltb-true, not-true, or_cases, true≢false}
use Rattle.std.proofs.lemmas.Grind.{common_steps}
use Rattle.std.proofs.lemmas.List.Elements.{All-from_recursion, Contains-get_or, recursion_from_All}
use Rattle.std.proofs.lemmas.Map.Keys.{IsStrictlyIncreasing-from_sorted}
use Rattle.vrx_rtcp.specs.declared.types.TheConstants.{NACK_SPAN}
use Rattle.vrx_num.specs.declared.limits.TheConstants.{WINDOW}
use Rattle.vrx_asks.specs.Asks.{ask_after, asked_numbers, asks_left, given_up_numbers, is_asked, is_given_up, is_near, numbers, with_missing, without}
use Rattle.vrx_asks.specs.IsAsks.{IsAsks}
use Rattle.vrx_asks.specs.declared.ask.Ask.{Ask}
use Rattle.vrx_window.specs.IsWindow.{IsWindow}
use Rattle.vrx_window.specs.Window.{Contents, at, after_giving_up, in_window, is_available, is_dead, is_inside, is_too_old, newest_with, after_placing, entries_with, with_number, would_of}
use Rattle.vrx_window.specs.declared.held.Held.{Held}
use Rattle.vrx_window.specs.declared.placing.Placing.TheVariants.{TooOld, Dead, Repeat, Fresh}
use Rattle.vrx_frames.specs.Completed.{is_among}
use Rattle.vrx_core.specs.inside.Wants.{AreBelow, AreFresh, AreNear, CanGiveUpAll, asks_taken, beyond_front, gap_from, gap_of, given_up_all, with_all_missing, without_all}
use Rattle.vrx_core.specs.declared.assembler.Arrival.{Arrival}
use Rattle.vrx_core.proofs.relation.ListLemmas.{Contains-either, Contains-empty, Contains-head, Contains-tail, Rises, all-in, all-of, filter-from, map-from, one-with, rises-filter, rises-map}
use Rattle.vrx_core.proofs.relation.MapLemmas.{at_put-other, at_where, none-of}
use Rattle.vrx_core.proofs.relation.WindowLemmas.{among-filter, order-window, window-order}
use Rattle.vrx_core.proofs.asking.RangeLemmas.{among-from, among-to, among-with, below-bounds, below-rises}
use Rattle.vrx_core.proofs.keyframes.AnsweredLemmas.{asks-rise}
use Rattle.vrx_core.proofs.step.GapLemmas.{beyond-from, left_after, left-from}

-- a number is below the newest, and may be placed
abbrev pub IsFreshIn : Contents Held → ℕ → Type 0
IsFreshIn window n = IsSomeAnd window.newest (λ newest. n < newest) × (would_of window n ≡ Fresh)

-- each missing number is
fresh-in : (window : Contents Held) (asks : List Ask) → AreFresh window asks → (a : Ask) → Contains asks a →
    IsFreshIn window a.number
fresh-in window asks fresh a c =
    all-in (λ ask. IsFreshIn window ask.number) asks a
    (recursion_from_All (λ ask. IsFreshIn window ask.number) asks fresh) c

-- and back
fresh-all : (window : Contents Held) (asks : List Ask) → ((a : Ask) → Contains asks a → IsFreshIn window a.number) →
    AreFresh window asks
fresh-all window asks each =
    All-from_recursion (λ ask. IsFreshIn window ask.number) asks
    (all-of (λ ask. IsFreshIn window ask.number) asks each)

-- what a number needs to be fresh
free-by : (old dead there : Bool) → cond old TooOld (cond dead Dead (cond there Repeat Fresh)) ≡ Fresh →
    (old ≡ false) × (dead ≡ false) × (there ≡ false)
free-by true dead there h = absurd (cc)
free-by false true there h = absurd (cc)
free-by false false true h = absurd (cc)
free-by false false false h = (refl, refl, refl)

free-parts : (window : Contents Held) (n : ℕ) → would_of window n ≡ Fresh →
    (is_too_old window.newest n ≡ false) × (is_dead n window.dead ≡ false) × (is_available n window.packets ≡ false)
free-parts window n h = free-by (is_too_old window.newest n) (is_dead n window.dead) (is_available n window.packets) h

-- and back
fresh-by : (old dead there : Bool) → old ≡ false → dead ≡ false → there ≡ false →
    cond old TooOld (cond dead Dead (cond there Repeat Fresh)) ≡ Fresh
fresh-by true dead there young alive absent = absurd (true≢false young)
fresh-by false true there young alive absent = absurd (true≢false alive)
fresh-by false false true young alive absent = absurd (true≢false absent)
fresh-by false false false young alive absent = refl

-- what is fresh is below the newest number
pub below-fresh : (window : Contents Held) (asks : List Ask) → AreFresh window asks → AreBelow window.newest asks
below-fresh window asks fresh =
    All-from_recursion (λ ask. IsSomeAnd window.newest (λ m. ask.number < m)) asks
    (all-of (λ ask. IsSomeAnd window.newest (λ m. ask.number < m)) asks (λ a c. (fresh-in window asks fresh a c).0))

-- once a frame was pulled, those beyond it are fresh as before
pub fresh-pulled : (window : Contents Held) (front : Option ℕ) (asks : List Ask) → AreFresh window asks →
    AreFresh window (beyond_front front asks)
fresh-pulled window front asks fresh =
    fresh-all window (beyond_front front asks) (λ a c. fresh-in window asks fresh a (beyond-from front asks a c))

-- a value that isn't there isn't there after a test either
none-left : (b : Bool) (o : Option Held) → is_some o ≡ false → is_some (cond b o None) ≡ false
none-left true o h = h
none-left false o h = refl

and-none : (a b : Bool) → b ≡ false → (a && b) ≡ false
and-none true b h = h
and-none false b h = refl

-- a number that isn't available and isn't dead stays fresh once another is placed, if it is in the new window
stays-fresh : (window : Contents Held) (n : ℕ) (held : Held) (k : ℕ) → k ≢ n → k < newest_with window.newest n →
    newest_with window.newest n < k + WINDOW → is_dead k window.dead ≡ false → is_available k window.packets ≡ false
    → IsFreshIn (after_placing n held window) k
stays-fresh window n held k other below young alive absent =
    let after : ℕ = newest_with window.newest n in (
      below,
      fresh-by (is_too_old (Some after) k) (is_dead k (filter (in_window after) window.dead))
          (is_available k (entries_with after n held window.packets))
          (false_from_ne_true (is_too_old (Some after) k)
          (λ is. let old : k + WINDOW ≤ after = leb-true (k + WINDOW) after is in absurd (omega (arith, old, young))))
          (among-filter (in_window after) window.dead k ∙ and-none (in_window after k) (is_among window.dead k) alive)
          (ap is_some (at_put-other k n held (where_key nat_cmp (in_window after) window.packets) other
          ∙ at_where (in_window after) k window.packets)
          ∙ none-left (in_window after k) (at k window.packets) absent),
    )

-- the numbers that are missing with a packet lie between the newest numbers before and after, and in the new window
record IsInGap (newest : Option ℕ) (n k : ℕ) : Type 0 where
  other : k ≢ n
  below : k < newest_with newest n
  young : newest_with newest n < k + WINDOW
  outside : is_inside newest k ≡ false

gap-in : (newest : Option ℕ) (n k : ℕ) → Contains (gap_of newest n) k → IsInGap newest n k
gap-in None n k c = let p : (n ≤ k) × (k < n) = below-bounds n n k c in absurd (omega (arith, p.0, p.1))
gap-in (Some before) n k c =
    let p : (max (before + 1) (max before n + 1 - WINDOW) ≤ k) × (k < max before n) =
    below-bounds (max (before + 1) (max before n + 1 - WINDOW)) (max before n) k c in
    record {
      other = λ same. omega (arith, same, p.0, p.1);
      below = p.1;
      young = omega (arith, p.0, p.1);
      outside = false_from_ne_true (is_inside (Some before) k)
          (λ is. let q : (before < k + WINDOW) × (k ≤ before) = window-order before k is in
          absurd (omega (arith, q.1, p.0)));
    }

-- they are fresh once it is placed
gap-fresh : (window : Contents Held) (n : ℕ) (held : Held) (k : ℕ) → IsWindow window →
    Contains (gap_of window.newest n) k → IsFreshIn (after_placing n held window) k
gap-fresh window n held k is c =
    let gap : IsInGap window.newest n k = gap-in window.newest n k c in
    stays-fresh window n held k gap.other gap.below gap.young
    (false_from_ne_true (is_dead k window.dead) (λ dead. true≢false (sym (is.dead_inside k dead) ∙ gap.outside)))
    (false_from_ne_true (is_available k window.packets)
    (λ there. true≢false (sym (is.packets_inside k there) ∙ gap.outside)))

-- a number below the newest is below the newest after it
below-with : (newest : Option ℕ) (n k : ℕ) → IsSomeAnd newest (λ m. k < m) → k < newest_with newest n
below-with None n k below = absurd below
below-with (Some m) n k below = let less : k < m = below in omega (arith, less)

-- those left are fresh once it is placed
left-fresh : (window : Contents Held) (n : ℕ) (held : Held) (front : Option ℕ) (asks : List Ask) (a : Ask) →
    AreFresh window asks → Contains (left_after front (newest_with window.newest n - WINDOW) n asks) a →
    IsFreshIn (after_placing n held window) a.number
left-fresh window n held front asks a fresh c =
    let left : Contains asks a × (newest_with window.newest n - WINDOW < a.number) × (not (a.number == n) ≡ true) =
    left-from front (newest_with window.newest n - WINDOW) n asks a c in
    let was : IsFreshIn window a.number = fresh-in window asks fresh a left.0 in
    let free = free-parts window a.number was.1 in
    stays-fresh window n held a.number
    (λ same. true≢false (sym (eq-eqb a.number n same) ∙ not-true (a.number == n) left.2))
    (below-with window.newest n a.number was.0) (omega (arith, left.1)) free.1 free.2

-- what is in a list with one more at its end
end-either : (asks : List Ask) (x a : Ask) → Contains (asks ++ x ∷ []) a → Contains asks a ⊎ (x ≡ a)
end-either [] x a c =
    elim (Contains-either x [] a c) [ inl same ↦ inr same | inr later ↦ absurd (Contains-empty a later) ]
end-either (y ∷ asks) x a c = elim (Contains-either y (asks ++ x ∷ []) a c) [
  | inl same ↦ inl (subst (λ z. Contains (y ∷ asks) z) same (Contains-head y asks))
  | inr later ↦ elim (end-either asks x a later) [
    | inl there ↦ inl
        (Contains-tail y asks a there)
    | inr same ↦ inr same
  ]
]

-- what is missing was missing before, or its number is one of those that are missing too
missing-either : (now : ℕ) (ns : List ℕ) (asks : List Ask) (a : Ask) → Contains (with_all_missing now ns asks) a →
    Contains asks a ⊎ Contains ns a.number
missing-either now [] asks a c = inl c
missing-either now (n ∷ ns) asks a c = elim (missing-either now ns (with_missing n now asks) a c) [
  | inl before ↦ elim (end-either asks (record { number = n; times = 1; last = now }) a before) [
    | inl there ↦ inl there
    | inr same ↦ inr (subst (λ (z : Ask). Contains (n ∷ ns) z.number) same (Contains-head n ns))
  ]
  | inr later ↦ inr (Contains-tail n ns a.number later)
]

-- the missing numbers are fresh once a packet was placed
fresh-placed : (window : Contents Held) (n : ℕ) (held : Held) (now : ℕ) (front : Option ℕ) (asks : List Ask) →
    IsWindow window → AreFresh window asks → AreFresh (after_placing n held window)
    (with_all_missing now (gap_of window.newest n)
    (left_after front (newest_with window.newest n - WINDOW) n asks))
fresh-placed window n held now front asks is fresh =
    fresh-all (after_placing n held window) after each where
      after : List Ask
      after =
          with_all_missing now (gap_of window.newest n)
          (left_after front (newest_with window.newest n - WINDOW) n asks)

      each : (ask : Ask) → Contains
          (with_all_missing now (gap_of window.newest n)
          (left_after front (newest_with window.newest n - WINDOW) n asks))
          ask → IsFreshIn (after_placing n held window) ask.number
      each ask c = elim (missing-either now (gap_of window.newest n)
          (left_after front (newest_with window.newest n - WINDOW) n asks) ask c) [
            | inl left ↦ left-fresh window n held front asks ask fresh left
            | inr gap ↦ gap-fresh window n held ask.number is gap
          ]

-- what is left without some numbers was there, and has none of these numbers
without-from : (ns : List ℕ) (asks : List Ask) (a : Ask) → Contains (without_all ns asks) a →
    Contains asks a × (is_among ns a.number ≡ false)
without-from [] asks a c = (c, refl)
without-from (n ∷ ns) asks a c =
    let rest : Contains (without n asks) a × (is_among ns a.number ≡ false) = without-from ns (without n asks) a c in
    let here : Contains asks a × (not (a.number == n) ≡ true) =
    filter-from (λ ask. not (ask.number == n)) asks a rest.0 in
    (here.0, ap (λ b. b || is_among ns a.number) (not-true (a.number == n) here.1) ∙ rest.1)

-- a window with more packets than another, under these numbers: a number that is fresh in that and isn't one of them is
-- fresh here
more-fresh : (window more : Contents Held) (repaired : List ℕ) (k : ℕ) → more.newest ≡ window.newest →
    more.dead ≡ window.dead
    → ((m : ℕ) → is_available m more.packets ≡ true → is_among repaired m ≡ false →
    is_available m window.packets ≡ true)
    → is_among repaired k ≡ false → IsFreshIn window k → IsFreshIn more k
more-fresh window more repaired k newest_is dead_is from other fresh =
    let free = free-parts window k fresh.1 in (
      subst (λ (o : Option ℕ). IsSomeAnd o (λ newest. k < newest)) (sym newest_is) fresh.0,
      fresh-by (is_too_old more.newest k) (is_dead k more.dead) (is_available k more.packets)
          (ap (λ o. is_too_old o k) newest_is ∙ free.0) (ap (is_dead k) dead_is ∙ free.1)
          (false_from_ne_true (is_available k more.packets)
          (λ there. true≢false (sym (from k there other) ∙ free.2))),
    )

-- the missing numbers are fresh once a packet was placed, and its repairs
pub fresh-taken : (window more : Contents Held) (n : ℕ) (held : Held) (a : Arrival) (now : ℕ) (front : Option ℕ)
    (asks : List Ask) → IsWindow window → a.number ≡ n → a.newest ≡ window.newest
    → more.newest ≡ (after_placing n held window).newest → more.dead ≡ (after_placing n held window).dead
    → ((m : ℕ) → is_available m more.packets ≡ true → is_among a.repaired m ≡ false →
    is_available m (after_placing n held window).packets ≡ true)
    → AreFresh window asks → AreFresh more (asks_taken now a front asks)
fresh-taken window more n held a now front asks is number_is newest_is newest_more dead_more from fresh =
    fresh-all more (asks_taken now a front asks) each where
      inner : List Ask
      inner = with_all_missing now (gap_of a.newest a.number)
          (left_after front (newest_with a.newest a.number - WINDOW) a.number asks)

      inner_is : with_all_missing now (gap_of a.newest a.number)
          (left_after front (newest_with a.newest a.number - WINDOW) a.number asks)
          ≡ with_all_missing now (gap_of window.newest n)
          (left_after front (newest_with window.newest n - WINDOW) n asks)
      inner_is = ap (λ (o : Option ℕ).
          with_all_missing now (gap_of o a.number) (left_after front (newest_with o a.number - WINDOW) a.number asks))
          newest_is
          ∙ ap (λ (k : ℕ). with_all_missing now (gap_of window.newest k)
          (left_after front (newest_with window.newest k - WINDOW) k asks)) number_is

      inner-fresh : AreFresh (after_placing n held window) (with_all_missing now (gap_of a.newest a.number)
          (left_after front (newest_with a.newest a.number - WINDOW) a.number asks))
      inner-fresh = subst (AreFresh (after_placing n held window)) (sym inner_is)
          (fresh-placed window n held now front asks is fresh)

      each : (ask : Ask) → Contains (asks_taken now a front asks) ask → IsFreshIn more ask.number
      each ask c =
          let left = without-from a.repaired (with_all_missing now (gap_of a.newest a.number)
          (left_after front (newest_with a.newest a.number - WINDOW) a.number asks)) ask c in
          more-fresh (after_placing n held window) more a.repaired ask.number newest_more dead_more from left.1
          (fresh-in (after_placing n held window) (with_all_missing now (gap_of a.newest a.number)
          (left_after front (newest_with a.newest a.number - WINDOW) a.number asks)) inner-fresh ask left.0)

-- a fresh number stays fresh if another is given up
given-up-fresh : (window : Contents Held) (n k : ℕ) → k ≢ n → IsFreshIn window k →
    IsFreshIn (after_giving_up n window) k
given-up-fresh window n k other fresh =
    let free = free-parts window k fresh.1 in (
      fresh.0,
      fresh-by (is_too_old window.newest k) (is_dead k (with_number n window.dead))
          (is_available k window.packets) free.0
          (among-with n k window.dead ∙ ap (λ b. b || is_among window.dead k) (ne_eqb k n other) ∙ free.1) free.2,
    )

-- or if others are
given-up-all-fresh : (ns : List ℕ) (window : Contents Held) (k : ℕ) → (Contains ns k → ⊥) → IsFreshIn window k →
    IsFreshIn (given_up_all ns window) k
given-up-all-fresh [] window k out fresh = fresh
given-up-all-fresh (n ∷ ns) window k out fresh =
    given-up-all-fresh ns (after_giving_up n window) k (λ c. out (Contains-tail n ns k c))
    (given-up-fresh window n k (λ same. out (subst (λ z. Contains (n ∷ ns) z) (sym same) (Contains-head n ns))) fresh)

-- a fresh number below the newest is in the window
fresh-within : (newest : Option ℕ) (n : ℕ) → IsSomeAnd newest (λ m. n < m) → is_too_old newest n ≡ false →
    is_inside newest n ≡ true
fresh-within None n below young = absurd below
fresh-within (Some m) n below young = let less : n < m =
    below in order-window m n (leb-false (n + WINDOW) m young) (omega (arith, less))

-- fresh numbers that rise can be given up, one after the other
can-give-up-all : (ns : List ℕ) (window : Contents Held) → Rises (λ (m : ℕ). m) ns →
    ((k : ℕ) → Contains ns k → IsFreshIn window k) → CanGiveUpAll ns window
can-give-up-all [] window rise each = tt
can-give-up-all (n ∷ ns) window rise each =
    let first : IsFreshIn window n = each n (Contains-head n ns) in (
      fresh-within window.newest n first.0 (free-parts window n first.1).0,
      first.1,
      can-give-up-all ns (after_giving_up n window) rise.1
          (λ k c. given-up-fresh window n k (above k c) (each k (Contains-tail n ns k c))),
    ) where
      above : (k : ℕ) → Contains ns k → k ≢ n
      above k c same = let less : n < k = all-in (λ m. n < m) ns k rise.0 c in omega (arith, less, same)

-- the numbers of asks that pass a test rise
numbers-rise : (test : Ask → Bool) (asks : List Ask) → IsAsks asks → Rises (λ (m : ℕ). m) (numbers (filter test asks))
numbers-rise test asks is =
    rises-map (λ (ask : Ask). ask.number) (λ (m : ℕ). m) (λ (ask : Ask). ask.number) (λ ask. refl) (filter test asks)
    (rises-filter (λ (ask : Ask). ask.number) test asks (asks-rise asks is.rise))

-- each is the number of an ask that passes
record IsNumberOf (test : Ask → Bool) (asks : List Ask) (k : ℕ) : Type 0 where
  ask : Ask
  among : Contains asks ask
  passes : test ask ≡ true
  number_is : ask.number ≡ k

number-from : (test : Ask → Bool) (asks : List Ask) (k : ℕ) → Contains (numbers (filter test asks)) k →
    IsNumberOf test asks k
number-from test asks k c =
    let p : (a : Ask) × Contains (filter test asks) a × (a.number ≡ k) =
    map-from (λ (ask : Ask). ask.number) (filter test asks) k c in
    let q : Contains asks p.0 × (test p.0 ≡ true) = filter-from test asks p.0 p.1 in
    record { ask = p.0; among = q.0; passes = q.1; number_is = p.2 }

-- the numbers that a tick gives up can be given up, one after the other
pub can-give-up : (window : Contents Held) (now interval : ℕ) (asks : List Ask) → IsAsks asks → AreFresh window asks →
    CanGiveUpAll (given_up_numbers now interval asks) window
can-give-up window now interval asks is fresh =
    can-give-up-all (given_up_numbers now interval asks) window
    (numbers-rise (is_given_up now interval) asks is) each where
      each : (k : ℕ) → Contains (given_up_numbers now interval asks) k → IsFreshIn window k
      each k c =
          let p : IsNumberOf (is_given_up now interval) asks k = number-from (is_given_up now interval) asks k c in
          subst (IsFreshIn window) p.number_is (fresh-in window asks fresh p.ask p.among)

-- a tick leaves an ask its number
number-after : (now interval : ℕ) (ask : Ask) → (ask_after now interval ask).number ≡ ask.number
number-after now interval ask = by (is_asked now interval ask) where
  by : (b : Bool) → (cond b (record { number = ask.number; times = ask.times + 1; last = now }) ask).number
      ≡ ask.number
  by true = refl
  by false = refl

-- and those left are fresh
pub fresh-ticked : (window : Contents Held) (now interval : ℕ) (asks : List Ask) → IsAsks asks →
    AreFresh window asks → AreFresh (given_up_all (given_up_numbers now interval asks) window)
    (asks_left now interval asks)
fresh-ticked window now interval asks is fresh =
    fresh-all (given_up_all (given_up_numbers now interval asks) window) (asks_left now interval asks) each where
      -- a number that is left isn't given up
      apart : (a : Ask) → Contains asks a → not (is_given_up now interval a) ≡ true →
          Contains (given_up_numbers now interval asks) a.number → ⊥
      apart a there left c =
          let p : IsNumberOf (is_given_up now interval) asks a.number =
          number-from (is_given_up now interval) asks a.number c in
          let same : p.ask ≡ a =
          one-with (λ (ask : Ask). ask.number) asks p.ask a (asks-rise asks is.rise) p.among there p.number_is in
          true≢false (sym p.passes ∙ ap (is_given_up now interval) same ∙ not-true (is_given_up now interval a) left)

      each : (b : Ask) → Contains (asks_left now interval asks) b →
          IsFreshIn (given_up_all (given_up_numbers now interval asks) window) b.number
      each b c =
          let p : (a : Ask) × Contains (filter (λ ask. not (is_given_up now interval ask)) asks) a
          × (ask_after now interval a ≡ b) =
          map-from (ask_after now interval) (filter (λ ask. not (is_given_up now interval ask)) asks) b c in
          let q : Contains asks p.0 × (not (is_given_up now interval p.0) ≡ true) =
          filter-from (λ ask. not (is_given_up now interval ask)) asks p.0 p.1 in
          let number_is : p.0.number ≡ b.number =
          sym (number-after now interval p.0) ∙ ap (λ (ask : Ask). ask.number) p.2 in
          subst (IsFreshIn (given_up_all (given_up_numbers now interval asks) window)) number_is
          (given-up-all-fresh (given_up_numbers now interval asks) window p.0.number (apart p.0 q.0 q.1)
          (fresh-in window asks fresh p.0 q.0))

-- numbers in their order, and how they compare
less-from : (a b : ℕ) → nat_cmp a b ≡ Less → a < b
less-from a b h = grind (arith, common_steps)

greater-from : (a b : ℕ) → nat_cmp a b ≡ Greater → b < a
greater-from a b h = grind (arith, common_steps)

less-to : (a b : ℕ) → a < b → nat_cmp a b ≡ Less
less-to a b h = grind (arith, common_steps)

sorted-from : (ns : List ℕ) → Rises (λ (m : ℕ). m) ns → IsStrictlySortedBy nat_cmp ns
unfolding IsStrictlySortedBy
sorted-from [] rise = tt
sorted-from (n ∷ ns) rise = (
  all-of (λ m. nat_cmp n m ≡ Less) ns (λ m c. less-to n m (all-in (λ m. n < m) ns m rise.0 c)),
  sorted-from ns rise.1,
)

rise-from : (ns : List ℕ) → IsStrictlySortedBy nat_cmp ns → Rises (λ (m : ℕ). m) ns
unfolding IsStrictlySortedBy
rise-from [] sorted = tt
rise-from (n ∷ ns) sorted = (
  all-of (λ m. n < m) ns (λ m c. less-from n m (all-in (λ m. nat_cmp n m ≡ Less) ns m sorted.0 c)),
  rise-from ns sorted.1,
)

-- a number is the one that was put among others, or one of them
with-either : (n m : ℕ) (ks : List ℕ) → is_dead m (with_number n ks) ≡ true → (m ≡ n) ⊎ (is_dead m ks ≡ true)
with-either n m ks is = elim (or_cases (m == n) (is_among ks m) (sym (among-with n m ks) ∙ is)) [
  | inl same ↦ inl
      (eqb-true m n same)
  | inr there ↦ inr there
]

-- numbers rise with one more in its place
with-rises : (n : ℕ) (ks : List ℕ) → Rises (λ (m : ℕ). m) ks → Rises (λ (m : ℕ). m) (with_number n ks)
with-rises n [] rise = (tt, tt)
with-rises n (k ∷ ks) rise = by (nat_cmp n k) refl (with-rises n ks rise.1) where
  above : k < n → (m : ℕ) → Contains (with_number n ks) m → k < m
  above less m c = elim (with-either n m ks (among-to (with_number n ks) m c)) [
    | inl same ↦ omega (arith, less, same)
    | inr there ↦ all-in (λ j. k < j) ks m rise.0 (among-from ks m there)
  ]

  below : n < k → (m : ℕ) → Contains ks m → n < m
  below less m c = let more : k < m = all-in (λ j. k < j) ks m rise.0 c in omega (arith, less, more)

  by : (o : Ordering) → nat_cmp n k ≡ o → Rises (λ (m : ℕ). m) (with_number n ks) →
      Rises (λ (m : ℕ). m) (by_order o (n ∷ k ∷ ks) (k ∷ ks) (k ∷ with_number n ks))
  by Less is rest = ((less-from n k is, all-of (λ m. n < m) ks (below (less-from n k is))), rise)
  by Equal is rest = rise
  by Greater is rest = (all-of (λ m. k < m) (with_number n ks) (above (greater-from n k is)), rest)

-- a window stays one once a fresh number in it was given up
window-given-up-one : (n : ℕ) (window : Contents Held) → is_inside window.newest n ≡ true →
    would_of window n ≡ Fresh → IsWindow window → IsWindow (after_giving_up n window)
window-given-up-one n window inside fresh is = record {
  packets_rise = is.packets_rise;
  dead_rise = sorted-from (with_number n window.dead) (with-rises n window.dead (rise-from window.dead is.dead_rise));
  packets_inside = is.packets_inside;
  dead_inside = λ m dead. elim (with-either n m window.dead dead) [
    | inl same ↦ ap (is_inside window.newest) same ∙ inside
    | inr there ↦ is.dead_inside m there
  ];
  apart = λ m dead. elim (with-either n m window.dead dead) [
    | inl same ↦ ap (λ k. at k window.packets) same ∙ none-of (at n window.packets) (free-parts window n fresh).2
    | inr there ↦ is.apart m there
  ];
  few = is.few;
}

-- and so once several were
pub window-given-up : (ns : List ℕ) (window : Contents Held) → CanGiveUpAll ns window → IsWindow window →
    IsWindow (given_up_all ns window)
window-given-up [] window can is = is
window-given-up (n ∷ ns) window can is =
    window-given-up ns (after_giving_up n window) can.2 (window-given-up-one n window can.0 can.1 is)

-- numbers that rise are near if each is at most 2,046 above each
near-of : (ns : List ℕ) → Rises (λ (m : ℕ). m) ns → ((a b : ℕ) → Contains ns a → Contains ns b → b ≤ a + NACK_SPAN) →
    AreNear ns
near-of ns rise near = record {
  rise = IsStrictlyIncreasing-from_sorted ns (sorted-from ns rise);
  near = λ some. near (slice_index ns 0) (slice_index ns (length ns - 1))
      (Contains-get_or ns 0 0 (omega (arith, some))) (Contains-get_or ns (length ns - 1) 0 (omega (arith, some)));
}

-- the numbers of a gap that pass a test are near
pub near-gap : (test : ℕ → Bool) (newest : Option ℕ) (n : ℕ) → AreNear (filter test (gap_of newest n))
near-gap test newest n = near-of (filter test (gap_of newest n))
    (rises-filter (λ (m : ℕ). m) test (gap_of newest n)
    (below-rises (gap_from newest (newest_with newest n)) (newest_with newest n))) close where
      close : (a b : ℕ) → Contains (filter test (gap_of newest n)) a → Contains (filter test (gap_of newest n)) b →
          b ≤ a + NACK_SPAN
      close a b c d =
          let low : newest_with newest n < a + WINDOW =
          (gap-in newest n a (filter-from test (gap_of newest n) a c).0).young in
          let high : b < newest_with newest n =
          (gap-in newest n b (filter-from test (gap_of newest n) b d).0).below in
          omega (arith, low, high)

-- what a test says of each
list_all-in : {X : Type 0} (test : X → Bool) (xs : List X) (x : X) → list_all test xs ≡ true → Contains xs x →
    test x ≡ true
list_all-in test [] x all c = absurd (Contains-empty x c)
list_all-in test (y ∷ ys) x all c =
    let both : (test y ≡ true) × (list_all test ys ≡ true) = and_parts (test y) (list_all test ys) all in
    elim (Contains-either y ys x c) [
      | inl same ↦ ap test (sym same)
          ∙ both.0
      | inr later ↦ list_all-in test ys x both.1 later
    ]

-- a number near the first of asks that rise is near each
near-each : (n : ℕ) (asks : List Ask) (a : Ask) → Rises (λ (ask : Ask). ask.number) asks → is_near n asks ≡ true →
    Contains asks a → n ≤ a.number + NACK_SPAN
near-each n [] a rise near c = absurd (Contains-empty a c)
near-each n (first ∷ asks) a rise near c =
    let less : n + 1 < first.number + WINDOW = ltb-true (n + 1) (first.number + WINDOW) near in
    elim (Contains-either first asks a c) [
      | inl same ↦ let e : first.number ≡ a.number = ap (λ (ask : Ask). ask.number) same in omega (arith, less, e)
      | inr later ↦ let above : first.number < a.number =
          all-in (λ (ask : Ask). first.number < ask.number) asks a rise.0 later in omega (arith, less, above)
    ]

-- the numbers that a tick asks for again are near
pub near-asked : (now interval : ℕ) (asks : List Ask) → IsAsks asks → AreNear (asked_numbers now interval asks)
near-asked now interval asks is =
    near-of (asked_numbers now interval asks) (numbers-rise (is_asked now interval) asks is) close where
      close : (a b : ℕ) → Contains (asked_numbers now interval asks) a →
          Contains (asked_numbers now interval asks) b →
          b ≤ a + NACK_SPAN
      close a b c d =
          let p : IsNumberOf (is_asked now interval) asks a = number-from (is_asked now interval) asks a c in
          let q : IsNumberOf (is_asked now interval) asks b = number-from (is_asked now interval) asks b d in
          let near : q.ask.number ≤ p.ask.number + NACK_SPAN =
          near-each q.ask.number asks p.ask (asks-rise asks is.rise)
          (list_all-in (λ (ask : Ask). is_near ask.number asks) asks q.ask is.near q.among) p.among in
          omega (arith, near, p.number_is, q.number_is)
