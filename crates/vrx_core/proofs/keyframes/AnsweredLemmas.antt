-- Which of the numbers that were given up are answered: by the greatest first number of a keyframe that stands, and by
-- that of the last keyframe pulled. Of the numbers given up the greatest decides.
use Rattle.std.proofs.Common.{◌≡◌, ℕ, ◌-◌, ◌<◌, ◌≤◌, max, Bool, true, false, cond, not, ◌&&◌, ◌||◌, List, [], ◌∷◌, ◌++◌, map, length, slice_get, Contains, Option, Some, None, IfSome, IsSomeAnd, refl, sym, ◌∙◌, ap, subst, arith, inl, inr}
use Rattle.std.specs.Prelude.{nat_lt}
use Rattle.std.specs.List.{AllByRecursion, filter, list_all, list_any}
use Rattle.std.specs.Option.{option_map_or}
use Rattle.std.proofs.lemmas.Bool.{and_parts, cases_lt, lt-ltb, ltb-true, or_cases}
use Rattle.vrx_codec.specs.Meaning.{Meaning}
use Rattle.vrx_num.specs.Extended.{greater}
use Rattle.vrx_asks.specs.IsAsks.{rises}
use Rattle.vrx_asks.specs.declared.ask.Ask.{Ask}
use Rattle.vrx_frames.specs.IsRun.{RunsAre}
use Rattle.vrx_frames.specs.Run.{Run, summary_of}
use Rattle.vrx_core.specs.machine.KeyRequest.{has_key_beyond, is_answered}
use Rattle.vrx_core.specs.machine.Machine.{Snapshot, last_pulled, latest, snapshots}
use Rattle.vrx_core.specs.machine.PulledRise.{Rise}
use Rattle.vrx_buffer.specs.Order.{greatest_of, rises_by}
use Rattle.vrx_core.specs.relation.StandsFor.{last_key}
use Rattle.vrx_buffer.specs.Frames.{key_numbers}
use Rattle.vrx_core.specs.inside.Wants.{is_lost_open, is_open, last_of, later_of}
use Rattle.vrx_core.specs.declared.settings.Settings.{Settings}
use Rattle.vrx_core.specs.declared.event.Event.{Event}
use Rattle.vrx_core.proofs.machine.PulledLemmas.{pulled_rise}
use Rattle.vrx_core.proofs.machine.TestLemmas.{same_tests}
use Rattle.vrx_core.proofs.relation.ListLemmas.{Contains-either, Contains-empty, Contains-head, Contains-tail, Rises}

-- one number more, before the greater of two is taken or after
pub later-greater : (a : Option ℕ) (n : ℕ) (b : Option ℕ) → later_of (greater a n) b ≡ greater (later_of a b) n
later-greater None n b = refl
later-greater (Some m) n None = refl
later-greater (Some m) n (Some k) = let same : max k (max m n) ≡ max (max k m) n =
    omega arith in ap (λ (x : ℕ). Some x) same

-- the greatest of two lists
pub greatest-append : (xs ys : List ℕ) → greatest_of (xs ++ ys) ≡ later_of (greatest_of xs) (greatest_of ys)
greatest-append [] ys = refl
greatest-append (x ∷ xs) ys =
    ap (λ o. greater o x) (greatest-append xs ys) ∙ sym (later-greater (greatest_of xs) x (greatest_of ys))

-- only of no numbers there is no greatest one
pub greatest-none : (xs : List ℕ) → greatest_of xs ≡ None → xs ≡ []
greatest-none [] is = refl
greatest-none (x ∷ xs) is = absurd (by (greatest_of xs) is) where
  by : (o : Option ℕ) → greater o x ≡ None → ⊥
  by None e = cc
  by (Some k) e = cc

-- m is among the numbers, and none of them is greater
pub record IsGreatest (xs : List ℕ) (m : ℕ) : Type 0 where
  pub among : Contains xs m
  pub most : (n : ℕ) → Contains xs n → n ≤ m

-- with one number more
greatest-cons : (x : ℕ) (xs : List ℕ) (k m : ℕ) → IsGreatest xs k → max k x ≡ m → IsGreatest (x ∷ xs) m
greatest-cons x xs k m is same = record { among = among; most = most } where
  among : Contains (x ∷ xs) m
  among = elim (cases_lt k x) [
    | inl less ↦ let e : x ≡ m = omega arith in subst (λ n. Contains (x ∷ xs) n) e (Contains-head x xs)
    | inr upto ↦ let e : k ≡ m = omega arith in subst (λ n. Contains (x ∷ xs) n) e (Contains-tail x xs k is.among)
  ]

  most : (n : ℕ) → Contains (x ∷ xs) n → n ≤ m
  most n there = elim (Contains-either x xs n there) [
    | inl e ↦ omega arith
    | inr later ↦ let below : n ≤ k = is.most n later in omega arith
  ]

-- the greatest number is among them, and none is greater
pub greatest-from : (xs : List ℕ) (m : ℕ) → greatest_of xs ≡ Some m → IsGreatest xs m
greatest-from [] m is = absurd (cc)
greatest-from (x ∷ xs) m is = by (greatest_of xs) refl is (λ k e. greatest-from xs k e) where
  by : (o : Option ℕ) → greatest_of xs ≡ o → greater o x ≡ Some m →
      ((k : ℕ) → greatest_of xs ≡ Some k → IsGreatest xs k) → IsGreatest (x ∷ xs) m
  by None none e rest = let same : x ≡ m = cc in record {
    among = subst (λ n. Contains (x ∷ xs) n) same (Contains-head x xs);
    most = λ n there. elim (Contains-either x xs n there) [
      | inl here ↦ omega arith
      | inr later ↦ absurd (Contains-empty n (subst (λ ys. Contains ys n) (greatest-none xs none) later))
    ];
  }
  by (Some k) some e rest = let same : max k x ≡ m = cc in greatest-cons x xs k m (rest k some) same

-- a number below the greatest changes nothing
greater-below : (o : Option ℕ) (x : ℕ) → IsSomeAnd o (λ m. x ≤ m) → greater o x ≡ o
greater-below None x h = absurd h
greater-below (Some m) x h = let same : max m x ≡ m = omega (arith, h) in ap (λ (n : ℕ). Some n) same

-- of numbers the first is at most the greatest
first-upto : (x : ℕ) (xs : List ℕ) → IsSomeAnd (greatest_of (x ∷ xs)) (λ m. x ≤ m)
first-upto x xs = by (greatest_of xs) where
  by : (o : Option ℕ) → IsSomeAnd (greater o x) (λ m. x ≤ m)
  by None = omega arith
  by (Some k) = omega arith

-- what lies below a number lies below the numbers above that
upto-below : (o : Option ℕ) (x y : ℕ) → x < y → IsSomeAnd o (λ m. y ≤ m) → IsSomeAnd o (λ m. x ≤ m)
upto-below None x y less h = absurd h
upto-below (Some m) x y less h = omega (arith, h)

-- of numbers that rise the greatest is the last
greatest-at : (x : ℕ) (xs : List ℕ) → Rises (λ (n : ℕ). n) (x ∷ xs) →
    greatest_of (x ∷ xs) ≡ slice_get (x ∷ xs) (length xs)
greatest-at x [] rises = refl
greatest-at x (y ∷ ys) rises =
    let less : x < y = rises.0.0 in
    greater-below (greatest_of (y ∷ ys)) x (upto-below (greatest_of (y ∷ ys)) x y less (first-upto y ys))
    ∙ greatest-at y ys rises.1

pub greatest-last : (xs : List ℕ) → Rises (λ (n : ℕ). n) xs → greatest_of xs ≡ last_of xs
greatest-last [] rises = refl
greatest-last (x ∷ xs) rises = let same : length xs ≡ length (x ∷ xs) - 1 =
    omega arith in greatest-at x xs rises ∙ ap (slice_get (x ∷ xs)) same

-- what a test says of all
all-above : {X : Type 0} (number : X → ℕ) (n : ℕ) (xs : List X) → list_all (λ x. nat_lt n (number x)) xs ≡ true →
    AllByRecursion (λ x. n < number x) xs
all-above number n [] h = tt
all-above number n (x ∷ xs) h =
    let p : (nat_lt n (number x) ≡ true) × (list_all (λ y. nat_lt n (number y)) xs ≡ true) =
    and_parts (nat_lt n (number x)) (list_all (λ y. nat_lt n (number y)) xs) h in
    (ltb-true n (number x) p.0, all-above number n xs p.1)

-- a list rises if the test says so
pub rises-by : {X : Type 0} (number : X → ℕ) (xs : List X) → rises_by number xs ≡ true → Rises number xs
rises-by number [] h = tt
rises-by number (x ∷ xs) h =
    let p : (list_all (λ y. nat_lt (number x) (number y)) xs ≡ true) × (rises_by number xs ≡ true) =
    and_parts (list_all (λ y. nat_lt (number x) (number y)) xs) (rises_by number xs) h in
    (all-above number (number x) xs p.0, rises-by number xs p.1)

-- asks too
pub asks-rise : (asks : List Ask) → rises asks ≡ true → Rises (λ (ask : Ask). ask.number) asks
asks-rise [] h = tt
asks-rise (ask ∷ asks) h =
    let p : (list_all (λ (other : Ask). nat_lt ask.number other.number) asks ≡ true) × (rises asks ≡ true) =
    and_parts (list_all (λ (other : Ask). nat_lt ask.number other.number) asks) (rises asks) h in
    (all-above (λ (other : Ask). other.number) ask.number asks p.0, asks-rise asks p.1)

-- a test that holds if the other does
or-first : (a b : Bool) → (b ≡ true → a ≡ true) → (a || b) ≡ a
or-first true b h = refl
or-first false true h = sym (h refl)
or-first false false h = refl

or-second : (a b : Bool) → (a ≡ true → b ≡ true) → (a || b) ≡ b
or-second false b h = refl
or-second true b h = sym (h refl)

or-none : (a : Bool) → (a || false) ≡ a
or-none true = refl
or-none false = refl

-- A test that holds of the greater of two numbers, if of the less.
module _ (test : ℕ → Bool) (up : (n m : ℕ) → test n ≡ true → n ≤ m → test m ≡ true) where
  -- it holds of the greatest of numbers and one more, if of either
  test-greater : (x : ℕ) (o : Option ℕ) →
      (test x || option_map_or test o false) ≡ option_map_or test (greater o x) false
  test-greater x None = or-none (test x)
  test-greater x (Some k) = elim (cases_lt k x) [
    | inl less ↦ let same : x ≡ max k x =
        omega arith in or-first (test x) (test k) (λ h. up k x h (omega arith)) ∙ ap test same
    | inr upto ↦ let same : k ≡ max k x =
        omega arith in or-second (test x) (test k) (λ h. up x k h upto) ∙ ap test same
  ]

  -- it holds of some number if it holds of the greatest
  pub any-greatest : (ns : List ℕ) → list_any test ns ≡ option_map_or test (greatest_of ns) false
  any-greatest [] = refl
  any-greatest (n ∷ ns) = ap (λ b. test n || b) (any-greatest ns) ∙ test-greater n (greatest_of ns)

-- a number above n, and so each greater one
lt-up : (n a b : ℕ) → nat_lt n a ≡ true → a ≤ b → nat_lt n b ≡ true
lt-up n a b h upto = let less : n < a = ltb-true n a h in lt-ltb n b (omega arith)

-- a keyframe begins beyond a number if one of the numbers at which keyframes begin is greater
key-numbers-beyond : (runs : List Run) (n : ℕ) →
    has_key_beyond runs n ≡ list_any (nat_lt n) (key_numbers (map summary_of runs))
key-numbers-beyond [] n = refl
key-numbers-beyond (run ∷ runs) n = by run.key refl (key-numbers-beyond runs n) where
  by : (b : Bool) → run.key ≡ b → has_key_beyond runs n ≡ list_any (nat_lt n) (key_numbers (map summary_of runs)) →
      has_key_beyond (run ∷ runs) n ≡ list_any (nat_lt n) (key_numbers (map summary_of (run ∷ runs)))
  by true key rest =
      ap (λ b. (b && nat_lt n run.first) || has_key_beyond runs n) key
      ∙ ap (λ b. nat_lt n run.first || b) rest
      ∙ sym (ap (λ b. list_any (nat_lt n)
      (map (λ r. r.first) (cond b (summary_of run ∷ filter (λ r. r.key) (map summary_of runs))
      (filter (λ r. r.key) (map summary_of runs))))) key)
  by false key rest =
      ap (λ b. (b && nat_lt n run.first) || has_key_beyond runs n) key
      ∙ rest
      ∙ sym (ap (λ b. list_any (nat_lt n)
      (map (λ r. r.first) (cond b (summary_of run ∷ filter (λ r. r.key) (map summary_of runs))
      (filter (λ r. r.key) (map summary_of runs))))) key)

-- and so if the greatest of them is
pub standing-beyond : (runs : List Run) (n : ℕ) →
    has_key_beyond runs n ≡ option_map_or (λ key. nat_lt n key)
    (greatest_of (key_numbers (map summary_of runs))) false
standing-beyond runs n =
    key-numbers-beyond runs n ∙ any-greatest (nat_lt n) (lt-up n) (key_numbers (map summary_of runs))

-- of runs, the newest first, each begins beyond those before it
abbrev pub Falls : List Run → Type 0
Falls [] = Unit {0}
Falls (run ∷ before) = AllByRecursion (λ older. older.first < run.first) before × Falls before

-- what lies beyond the last of frames that rise lies beyond the first number of each
begin-before : (frames : List Run) (n : ℕ) → Rise frames → IfSome (last_pulled frames) (λ last. last < n) →
    AllByRecursion (λ frame. frame.first < n) frames
begin-before [] n rise beyond = tt
begin-before (frame ∷ before) n rise beyond =
    (upto, begin-before before n rise.2 (further (last_pulled before) rise.1)) where
      upto : frame.first < n
      upto = let within : frame.first ≤ frame.last = rise.0 in omega (arith, beyond)

      further : (o : Option ℕ) → IfSome o (λ last. last < frame.first) → IfSome o (λ last. last < n)
      further None less = tt
      further (Some last) less = omega (arith, less, upto)

-- frames that rise fall from the newest to the oldest
pub falls-from : (frames : List Run) → Rise frames → Falls frames
falls-from [] rise = tt
falls-from (frame ∷ before) rise = (begin-before before frame.first rise.2 rise.1, falls-from before rise.2)

-- the frames pulled do
pub pulled-falls : RunsAre → (settings : Settings) (codec : Meaning) (h : List Event) →
    Falls (latest (snapshots settings codec h)).pulled
pulled-falls law settings codec h =
    falls-from (latest (snapshots settings codec h)).pulled (pulled_rise law settings codec h)

-- a number beyond which one of runs begins that all begin below another
beyond-below : (runs : List Run) (n m : ℕ) → AllByRecursion (λ run. run.first < m) runs →
    has_key_beyond runs n ≡ true → nat_lt n m ≡ true
beyond-below [] n m all h = absurd (cc)
beyond-below (run ∷ runs) n m all h = elim (or_cases (run.key && nat_lt n run.first) (has_key_beyond runs n) h) [
  | inl here ↦ let less : n < run.first = ltb-true n run.first (and-second run.key (nat_lt n run.first) here) in
      let above : run.first < m = all.0 in lt-ltb n m (omega arith)
  | inr later ↦ beyond-below runs n m all.1 later
] where
  and-second : (a b : Bool) → (a && b) ≡ true → b ≡ true
  and-second true b e = e
  and-second false b e = absurd (cc)

-- of the frames pulled the last keyframe decides
pub pulled-beyond : (runs : List Run) (n : ℕ) → Falls runs →
    has_key_beyond runs n ≡ option_map_or (λ key. nat_lt n key) (last_key runs) false
pulled-beyond [] n falls = refl
pulled-beyond (run ∷ runs) n falls = by run.key refl (pulled-beyond runs n falls.1) where
  by : (b : Bool) → run.key ≡ b → has_key_beyond runs n ≡ option_map_or (λ key. nat_lt n key) (last_key runs) false →
      has_key_beyond (run ∷ runs) n ≡ option_map_or (λ key. nat_lt n key) (last_key (run ∷ runs)) false
  by true key rest =
      ap (λ b. (b && nat_lt n run.first) || has_key_beyond runs n) key
      ∙ or-first (nat_lt n run.first) (has_key_beyond runs n) (beyond-below runs n run.first falls.0)
      ∙ sym (ap (λ b. option_map_or (λ key. nat_lt n key) (cond b (Some run.first) (last_key runs)) false) key)
  by false key rest =
      ap (λ b. (b && nat_lt n run.first) || has_key_beyond runs n) key
      ∙ rest
      ∙ sym (ap (λ b. option_map_or (λ key. nat_lt n key) (cond b (Some run.first) (last_key runs)) false) key)

-- neither of two tests holds
not-either : (a b : Bool) → not (a || b) ≡ (not a && not b)
not-either true b = refl
not-either false b = refl

-- the first number of the keyframe that begins last, of those that stand
abbrev pub key_standing : Snapshot → Option ℕ
key_standing s = greatest_of (key_numbers (map summary_of s.standing))

-- a number isn't answered
pub not-answered : (s : Snapshot) → Falls s.pulled → (n : ℕ) →
    not (is_answered s n) ≡ is_open (key_standing s) (last_key s.pulled) n
not-answered s falls n =
    ap (λ b. not (b || has_key_beyond s.pulled n)) (standing-beyond s.standing n)
    ∙ ap (λ b. not (option_map_or (λ key. nat_lt n key) (key_standing s) false || b)) (pulled-beyond s.pulled n falls)
    ∙ not-either (option_map_or (λ key. nat_lt n key) (key_standing s) false)
    (option_map_or (λ key. nat_lt n key) (last_key s.pulled) false)

-- a number below one that a keyframe answers is answered by it
key-down : (o : Option ℕ) (n m : ℕ) → option_map_or (λ key. nat_lt m key) o false ≡ true → n ≤ m →
    option_map_or (λ key. nat_lt n key) o false ≡ true
key-down None n m h upto = h
key-down (Some key) n m h upto = let less : m < key = ltb-true m key h in lt-ltb n key (omega arith)

-- what one test gives, and what two give
up-each : (a a' b b' : Bool) → (a' ≡ true → a ≡ true) → (b' ≡ true → b ≡ true) → (not a && not b) ≡ true →
    (not a' && not b') ≡ true
up-each a false b false f g h = refl
up-each false true b b' f g h = absurd (let e : false ≡ true = f refl in cc)
up-each true a' b b' f g h = absurd (cc)
up-each false false false true f g h = absurd (let e : false ≡ true = g refl in cc)
up-each false false true true f g h = absurd (cc)

-- a number above one that isn't answered isn't answered
pub open-up : (standing pulled : Option ℕ) (n m : ℕ) → is_open standing pulled n ≡ true → n ≤ m →
    is_open standing pulled m ≡ true
open-up standing pulled n m h upto =
    up-each (option_map_or (λ key. nat_lt n key) standing false) (option_map_or (λ key. nat_lt m key) standing false)
    (option_map_or (λ key. nat_lt n key) pulled false) (option_map_or (λ key. nat_lt m key) pulled false)
    (λ g. key-down standing n m g upto) (λ g. key-down pulled n m g upto) h

-- some of these numbers isn't answered, if the greatest isn't
pub lost-open : (s : Snapshot) → Falls s.pulled → (ns : List ℕ) →
    list_any (λ n. not (is_answered s n)) ns ≡ is_lost_open (key_standing s) (last_key s.pulled) (greatest_of ns)
lost-open s falls ns =
    let key : Option ℕ = key_standing s in
    ap (λ (test : ℕ → Bool). list_any test ns)
    (same_tests (λ n. not (is_answered s n)) (is_open key (last_key s.pulled)) (not-answered s falls))
    ∙ any-greatest (is_open key (last_key s.pulled)) (open-up key (last_key s.pulled)) ns
