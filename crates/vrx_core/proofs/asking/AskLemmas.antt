-- What is kept of requests, as lists: asks of moments, and the greatest of numbers.
use Rattle.std.proofs.Common.{◌≡◌, ℕ, suc, ◌+◌, ◌-◌, ◌<◌, ◌≤◌, max, Bool, true, false, cond, not, ◌&&◌, ◌||◌, ◌==◌, List, [], ◌∷◌, ◌++◌, map, length, filter, Contains, Option, Some, None, slice_get, refl, sym, ◌∙◌, ap, arith, inl, inr, nat_lt, nat_le}
use Rattle.std.specs.List.{list_all}
use Rattle.std.proofs.lemmas.Bool.{and_parts, or_parts, cases_lt, eq-eqb, ne_eqb, leb-true, le-leb, lt-leb, lt-ltb, ltb-true}
use Rattle.std.proofs.lemmas.List.{append-nil, append_assoc}
use Rattle.vrx_num.specs.Extended.{greater}
use Rattle.vrx_num.specs.declared.limits.TheConstants.{MOST_REQUESTS}
use Rattle.vrx_asks.specs.Asks.{beyond, is_asked, is_given_up, numbers, with_missing, without}
use Rattle.vrx_asks.specs.IsAsks.{IsAsks, is_counted}
use Rattle.vrx_asks.specs.declared.ask.Ask.{Ask}
use Rattle.vrx_frames.specs.Completed.{is_among}
use Rattle.vrx_frames.specs.Run.{is_passed}
use Rattle.vrx_core.specs.inside.Wants.{beyond_front, last_of, later_of, with_all_missing, without_all}
use Rattle.vrx_core.specs.machine.Machine.{Snapshot}
use Rattle.vrx_core.specs.machine.Request.{is_old, missing, requests}
use Rattle.vrx_buffer.specs.Order.{greatest_of}
use Rattle.vrx_core.specs.relation.StandsFor.{ask_of}
use Rattle.vrx_core.proofs.relation.ListLemmas.{Rises, all-of, filter-map, filter-same, filter-whole, map-to}
use Rattle.vrx_core.proofs.asking.RangeLemmas.{filter-filter, list_all-each}
use Rattle.vrx_core.proofs.asking.SaneLemmas.{was_asked}

-- the last of moments
abbrev last_moment : List ℕ → ℕ
last_moment [] = 0
last_moment (moment ∷ moments) = moment

-- an ask by the moments of the requests
abbrev pub ask_from : ℕ → List ℕ → Ask
ask_from n moments = record { number = n; times = length moments; last = last_moment moments }

pub ask-is : (past : List Snapshot) (n : ℕ) → ask_of past n ≡ ask_from n (requests past n)
ask-is past n = by (requests past n) refl where
  by : (moments : List ℕ) → requests past n ≡ moments → ask_of past n ≡ ask_from n (requests past n)
  by moments is = refl

-- an event that doesn't ask for a number leaves its requests
pub requests-none : (s : Snapshot) (past : List Snapshot) (n : ℕ) → is_among s.asked n ≡ false →
    requests (s ∷ past) n ≡ requests past n
requests-none s past n h =
    ap (λ b. map (λ (t : Snapshot). t.now)
    (cond b (s ∷ filter (λ (t : Snapshot). is_among t.asked n) past)
    (filter (λ (t : Snapshot). is_among t.asked n) past))) h

-- and one that asks for it is one more
pub requests-more : (s : Snapshot) (past : List Snapshot) (n : ℕ) → is_among s.asked n ≡ true →
    requests (s ∷ past) n ≡ s.now ∷ requests past n
requests-more s past n h =
    ap (λ b. map (λ (t : Snapshot). t.now)
    (cond b (s ∷ filter (λ (t : Snapshot). is_among t.asked n) past)
    (filter (λ (t : Snapshot). is_among t.asked n) past))) h

-- a number that wasn't asked for has no requests
pub requests-never : (past : List Snapshot) (n : ℕ) → was_asked past n ≡ false → requests past n ≡ []
requests-never [] n h = refl
requests-never (s ∷ past) n h = let p : (is_among s.asked n ≡ false) × (was_asked past n ≡ false) =
    or_parts (is_among s.asked n) (was_asked past n) h in requests-none s past n p.0 ∙ requests-never past n p.1

-- the numbers of asks
pub numbers-asks : (past : List Snapshot) (ns : List ℕ) → numbers (map (ask_of past) ns) ≡ ns
numbers-asks past [] = refl
numbers-asks past (n ∷ ns) = ap (λ (ms : List ℕ). n ∷ ms) (numbers-asks past ns)

-- images of images
pub map-map : {X Y Z : Type 0} (f : Y → Z) (g : X → Y) (xs : List X) → map f (map g xs) ≡ map (λ x. f (g x)) xs
map-map f g [] = refl
map-map f g (x ∷ xs) = ap (λ ys. f (g x) ∷ ys) (map-map f g xs)

-- how often each missing number was asked for
pub record WasCounted (past : List Snapshot) (n : ℕ) : Type 0 where
  pub once : 1 ≤ length (requests past n)
  pub few : length (requests past n) ≤ MOST_REQUESTS

pub counted-each : (past : List Snapshot) (ns : List ℕ) (n : ℕ) → list_all is_counted (map (ask_of past) ns) ≡ true →
    Contains ns n → WasCounted past n
counted-each past ns n all c =
    let is : is_counted (ask_of past n) ≡ true =
    list_all-each is_counted (map (ask_of past) ns) (ask_of past n) all (map-to (ask_of past) ns n c) in
    let p : (nat_le 1 (length (requests past n)) ≡ true) × (nat_le (length (requests past n)) MOST_REQUESTS ≡ true) =
    and_parts (nat_le 1 (length (requests past n))) (nat_le (length (requests past n)) MOST_REQUESTS) is in
    record {
      once = leb-true 1 (length (requests past n)) p.0;
      few = leb-true (length (requests past n)) MOST_REQUESTS p.1;
    }

-- the same, of asks that are those of a past
pub counted-of : (past : List Snapshot) (asks : List Ask) → asks ≡ map (ask_of past) (missing past) → IsAsks asks →
    (n : ℕ) → Contains (missing past) n → WasCounted past n
counted-of past asks is sound n c =
    counted-each past (missing past) n (ap (list_all is_counted) (sym is) ∙ sound.counted) c

-- tests in the other order
and-swap : (a b : Bool) → (a && b) ≡ (b && a)
and-swap true true = refl
and-swap true false = refl
and-swap false true = refl
and-swap false false = refl

-- ten is not below ten
pub ten-not-below : (x m : ℕ) → x ≤ m → (x == m) ≡ not (nat_lt x m)
ten-not-below x m upto = elim (cases_lt x m) [
  | inl less ↦ ne_eqb x m (λ same. absurd (omega (arith, same, less))) ∙ sym (ap not (lt-ltb x m less))
  | inr more ↦ eq-eqb x m (omega (arith, upto, more)) ∙ sym (by (nat_lt x m) refl more)
] where
  by : (b : Bool) → nat_lt x m ≡ b → m ≤ x → not b ≡ true
  by true is more = let less : x < m = ltb-true x m is in absurd (omega (arith, less, more))
  by false is more = refl

-- a number is given up by the moments of its requests, as the ask says it
pub given-up-test : (now interval n : ℕ) (moments : List ℕ) → 1 ≤ length moments → length moments ≤ MOST_REQUESTS
    → ((length moments == MOST_REQUESTS) && is_old interval now moments) ≡ is_given_up now interval
    (ask_from n moments)
given-up-test now interval n [] once few = absurd (omega (arith, once))
given-up-test now interval n (last ∷ earlier) once few =
    ap (λ b. b && nat_le (last + interval) now) (ten-not-below (length (last ∷ earlier)) MOST_REQUESTS few)
    ∙ and-swap (not (nat_lt (length (last ∷ earlier)) MOST_REQUESTS)) (nat_le (last + interval) now)

-- and it is asked for again
pub asked-test : (now interval n : ℕ) (moments : List ℕ) → 1 ≤ length moments
    → (nat_lt (length moments) MOST_REQUESTS && is_old interval now moments) ≡ is_asked now interval
    (ask_from n moments)
asked-test now interval n [] once = absurd (omega (arith, once))
asked-test now interval n (last ∷ earlier) once =
    and-swap (nat_lt (length (last ∷ earlier)) MOST_REQUESTS) (nat_le (last + interval) now)

-- a number isn't above another
pub lt-not-le : (f n : ℕ) → nat_lt f n ≡ not (nat_le n f)
lt-not-le f n = elim (cases_lt f n) [
  | inl less ↦ lt-ltb f n less ∙ sym (ap not (lt-leb n f less))
  | inr upto ↦ by (nat_lt f n) refl upto ∙ sym (ap not (le-leb n f upto))
] where
  by : (b : Bool) → nat_lt f n ≡ b → n ≤ f → b ≡ false
  by true is more = let less : f < n = ltb-true f n is in absurd (omega (arith, less, more))
  by false is more = refl

module _ (past : List Snapshot) (ns : List ℕ) where
  -- the asks of numbers beyond the front
  pub beyond-front : (front : Option ℕ) →
      beyond_front front (map (ask_of past) ns) ≡ map (ask_of past) (filter (λ n. not (is_passed front n)) ns)
  beyond-front None =
      ap (map (ask_of past)) (sym (filter-whole (λ n. true) ns (all-of (λ n. true ≡ true) ns (λ n c. refl))))
  beyond-front (Some f) = filter-map (ask_of past) (λ ask. nat_lt f ask.number) ns
      ∙ ap (map (ask_of past))
      (filter-same (λ n. nat_lt f n) (λ n. not (nat_le n f)) ns
      (all-of (λ n. nat_lt f n ≡ not (nat_le n f)) ns (λ n c. lt-not-le f n)))

  -- beyond a number
  pub beyond-number : (f : ℕ) → beyond f (map (ask_of past) ns) ≡ map (ask_of past) (filter (λ n. nat_lt f n) ns)
  beyond-number f = filter-map (ask_of past) (λ ask. nat_lt f ask.number) ns

  -- and but for one
  pub without-number : (n : ℕ) → without n (map (ask_of past) ns) ≡ map (ask_of past) (filter (λ m. not (m == n)) ns)
  without-number n = filter-map (ask_of past) (λ ask. not (ask.number == n)) ns

-- a number that isn't among others and isn't one
none-of-both : (a b : Bool) → (not a && not b) ≡ not (b || a)
none-of-both true true = refl
none-of-both true false = refl
none-of-both false true = refl
none-of-both false false = refl

-- the asks without those for these numbers
pub without-all : (ns : List ℕ) (asks : List Ask) →
    without_all ns asks ≡ filter (λ ask. not (is_among ns ask.number)) asks
without-all [] asks = sym (filter-whole (λ ask. true) asks (all-of (λ ask. true ≡ true) asks (λ ask c. refl)))
without-all (n ∷ ns) asks = without-all ns (without n asks)
    ∙ filter-filter (λ ask. not (is_among ns ask.number)) (λ ask. not (ask.number == n))
    (λ ask. not (is_among (n ∷ ns) ask.number)) asks
    (all-of (λ ask. (not (is_among ns ask.number) && not (ask.number == n)) ≡ not (is_among (n ∷ ns) ask.number)) asks
    (λ ask c. none-of-both (is_among ns ask.number) (ask.number == n)))

-- what passes a test of one list after another
pub filter-append : {X : Type 0} (test : X → Bool) (xs ys : List X) →
    filter test (xs ++ ys) ≡ filter test xs ++ filter test ys
filter-append test [] ys = refl
filter-append test (x ∷ xs) ys = by (test x) (filter-append test xs ys) where
  by : (b : Bool) → filter test (xs ++ ys) ≡ filter test xs ++ filter test ys →
      cond b (x ∷ filter test (xs ++ ys)) (filter test (xs ++ ys)) ≡ cond b (x ∷ filter test xs) (filter test xs)
      ++ filter test ys
  by true rest = ap (λ zs. x ∷ zs) rest
  by false rest = rest

-- an ask for the first time
abbrev pub first_ask : ℕ → ℕ → Ask
first_ask now n = record { number = n; times = 1; last = now }

-- numbers that are missing too
pub all-missing : (now : ℕ) (ns : List ℕ) (asks : List Ask) →
    with_all_missing now ns asks ≡ asks ++ map (first_ask now) ns
all-missing now [] asks = sym (append-nil asks)
all-missing now (n ∷ ns) asks =
    all-missing now ns (with_missing n now asks) ∙ append_assoc asks (first_ask now n ∷ []) (map (first_ask now) ns)

-- the greatest of numbers and one more
greater-later : (a b : Option ℕ) (x : ℕ) → greater (later_of a b) x ≡ later_of (greater a x) b
greater-later None b x = refl
greater-later (Some a) None x = refl
greater-later (Some a) (Some b) x =
    ap (λ (k : ℕ). Some k) (let e : max (max b a) x ≡ max b (max a x) = omega arith in e)

-- the greatest of two lists
pub greatest-append : (xs ys : List ℕ) → greatest_of (xs ++ ys) ≡ later_of (greatest_of xs) (greatest_of ys)
greatest-append [] ys = refl
greatest-append (x ∷ xs) ys =
    ap (λ o. greater o x) (greatest-append xs ys) ∙ greater-later (greatest_of xs) (greatest_of ys) x

greater-twice : (o : Option ℕ) (x y : ℕ) → x < y → greater (greater o y) x ≡ greater o y
greater-twice None x y less = ap (λ (k : ℕ). Some k) (let e : max y x ≡ y = omega (arith, less) in e)
greater-twice (Some g) x y less =
    ap (λ (k : ℕ). Some k) (let e : max (max g y) x ≡ max g y = omega (arith, less) in e)

-- the last of numbers that rise is the greatest
pub last-greatest : (ns : List ℕ) → Rises (λ n. n) ns → last_of ns ≡ greatest_of ns
last-greatest [] rises = refl
last-greatest (x ∷ []) rises = refl
last-greatest (x ∷ y ∷ ys) rises =
    ap (λ k. slice_get (x ∷ y ∷ ys) k) (let e : length (x ∷ y ∷ ys) - 1 ≡ suc (length ys) = omega arith in e)
    ∙ ap (λ k. slice_get (y ∷ ys) k) (let e : length ys ≡ length (y ∷ ys) - 1 = omega arith in e)
    ∙ last-greatest (y ∷ ys) rises.1
    ∙ sym (greater-twice (greatest_of ys) x y rises.0.0)
