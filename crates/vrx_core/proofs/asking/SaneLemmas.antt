-- What holds after every history: of the numbers asked for and given up, and of the first and the newest number.
use Rattle.std.proofs.Common.{◌≡◌, ℕ, ◌+◌, ◌<◌, ◌≤◌, ◌⊎◌, max, Bool, true, false, not, ◌&&◌, ◌||◌, ◌==◌, List, [], ◌∷◌, Option, Some, None, is_some, IsSomeAnd, unwrap_or, Result, Ok, Err, refl, sym, ◌∙◌, ap, subst, arith, inl, inr, nat_lt, length}
use Rattle.std.specs.List.{list_any}
use Rattle.std.proofs.lemmas.Bool.{and_parts, or_cases, cases_lt, cases_Bool, false_from_ne_true, true≢false}
use Rattle.vrx_num.specs.declared.limits.TheConstants.{MOST_REQUESTS, WINDOW}
use Rattle.vrx_codec.specs.Meaning.{Meaning}
use Rattle.vrx_window.specs.Content.{Content}
use Rattle.vrx_window.specs.Window.{Contents, at, in_window, is_available, is_dead, is_inside, newest_with, after_placing, entries_with}
use Rattle.vrx_frames.specs.Completed.{is_among}
use Rattle.vrx_frames.specs.Run.{Run, is_passed}
use Rattle.vrx_repair.specs.Source.{Source}
use Rattle.vrx_core.specs.machine.Asking.{IsMissing}
use Rattle.vrx_core.specs.machine.GivenUp.{is_lost, numbers_left}
use Rattle.vrx_core.specs.machine.Machine.{Snapshot, latest, opening, next_run, after_settling, after_packet, after_datagram, after_pull, after_tick, snapshots, source_in}
use Rattle.vrx_core.specs.machine.Request.{is_old, missing, requests}
use Rattle.vrx_core.specs.machine.Snapshot.{moved}
use Rattle.vrx_core.specs.machine.Verdict.{verdict}
use Rattle.vrx_core.specs.declared.settings.Settings.{Settings}
use Rattle.vrx_core.specs.declared.event.Event.{Event}
use Rattle.vrx_core.specs.declared.event.Event.TheVariants.{Datagram, Tick, Pull}
use Rattle.vrx_core.specs.declared.original.NotTaken.{NotTaken}
use Rattle.vrx_core.proofs.machine.AvailableLemmas.{placed_new, placed_old, window-order, order-window}
use Rattle.vrx_core.proofs.machine.VerdictLemmas.{IsFresh, verdict-taken, fresh-is}
use Rattle.vrx_core.proofs.relation.ListLemmas.{filter-from}
use Rattle.vrx_core.proofs.relation.WindowLemmas.{among-filter}
use Rattle.vrx_core.proofs.asking.MadeLemmas.{made-available-stays}
use Rattle.vrx_core.proofs.asking.MissingLemmas.{missing-from}
use Rattle.vrx_core.proofs.asking.RangeLemmas.{Leaves, among-from, among-withs, left-from}

-- a number was asked for, by an event so far
abbrev pub was_asked : List Snapshot → ℕ → Bool
was_asked past n = list_any (λ s. is_among s.asked n) past

-- a number is below the newest one
abbrev pub IsBelow : Option ℕ → ℕ → Type 0
IsBelow newest n = IsSomeAnd newest (λ k. n < k)

-- there is a first number and a newest one that isn't below it, or neither of them
abbrev pub IsStarted : Contents Content → Type 0
IsStarted window = ((window.first ≡ None) × (window.newest ≡ None))
    ⊎ ((f : ℕ) × (k : ℕ) × (window.first ≡ Some f) × (window.newest ≡ Some k) × (f ≤ k))

-- what holds of what was left after each event
pub record IsSane (past : List Snapshot) : Type 0 where
  pub started : IsStarted (latest past).window
  pub asked : (n : ℕ) → was_asked past n ≡ true → IsBelow (latest past).window.newest n
  pub lost : (n : ℕ) → is_lost past n ≡ true → IsBelow (latest past).window.newest n
  pub inside : (n : ℕ) → is_dead n (latest past).window.dead ≡ true → is_inside (latest past).window.newest n ≡ true
  pub dead : (n : ℕ) → is_inside (latest past).window.newest n ≡ true →
      is_dead n (latest past).window.dead ≡ is_lost past n
  pub there : (k : ℕ) → (latest past).window.newest ≡ Some k → is_available k (latest past).window.packets ≡ true

-- a number of which something holds
pub some-value : (P : ℕ → Type 0) (o : Option ℕ) → IsSomeAnd o P → (k : ℕ) × (o ≡ Some k) × P k
some-value P None h = absurd h
some-value P (Some k) h = (k, refl, h)

-- a number below the newest is below the newest once one more is placed
pub below-with : (newest : Option ℕ) (n m : ℕ) → IsBelow newest m → m < newest_with newest n
below-with None n m below = absurd below
below-with (Some k) n m below = let less : m < k = below in omega (arith, less)

-- the newest number once one is placed is that one, or the one before, and is above it
pub newest-either : (newest : Option ℕ) (n : ℕ) →
    (newest_with newest n ≡ n) ⊎ ((k : ℕ) × (newest ≡ Some k) × (newest_with newest n ≡ k) × (n < k))
newest-either None n = inl refl
newest-either (Some k) n = elim (cases_lt n k) [
  | inl less ↦ inr (k, refl, omega (arith, less), less)
  | inr upto ↦ inl (omega (arith, upto))
]

-- what is available
pub available-there : (o : Option Content) → is_some o ≡ true → (content : Content) × (o ≡ Some content)
available-there None h = absurd (true≢false (sym h))
available-there (Some content) h = (content, refl)

-- a number inside the new window that wasn't inside the old one isn't below the newest
pub inside-before : (newest : Option ℕ) (n m : ℕ) → in_window (newest_with newest n) m ≡ true →
    is_inside newest m ≡ false → IsBelow newest m → ⊥
inside-before None n m new old below = below
inside-before (Some k) n m new old below =
    let less : m < k = below in
    let order : (max k n < m + WINDOW) × (m ≤ max k n) = window-order (max k n) m new in
    true≢false (sym (order-window k m (omega (arith, order.0)) (omega (arith, less))) ∙ old)

-- two numbers that are there are one
same_some : (a b : ℕ) → Some a ≡ Some b → a ≡ b
same_some a b h = ap (λ o. unwrap_or o a) h

-- before the first event
pub sane-opening : IsSane (opening ∷ [])
sane-opening = record {
  started = inl (refl, refl);
  asked = λ n h. absurd (true≢false (sym h));
  lost = λ n h. absurd (true≢false (sym h));
  inside = λ n h. absurd (true≢false (sym h));
  dead = λ n h. refl;
  there = λ k h. absurd (cc);
}

-- so it is after an event that leaves the window, and gives up and asks for nothing
pub sane-still : (s : Snapshot) (past : List Snapshot) → s.window ≡ (latest past).window → s.lost ≡ [] →
    s.asked ≡ [] → IsSane past → IsSane (s ∷ past)
sane-still s past same none none' sane = record {
  started = subst IsStarted (sym same) sane.started;
  asked =
      λ n h. subst (λ (w : Contents Content). IsBelow w.newest n) (sym same) (sane.asked n (sym (asked-is n) ∙ h));
  lost = λ n h. subst (λ (w : Contents Content). IsBelow w.newest n) (sym same) (sane.lost n (sym (lost-is n) ∙ h));
  inside = λ n. subst (λ (w : Contents Content). is_dead n w.dead ≡ true → is_inside w.newest n ≡ true) (sym same)
      (sane.inside n);
  dead = λ n. subst (λ (w : Contents Content). is_inside w.newest n ≡ true → is_dead n w.dead ≡ is_lost (s ∷ past) n)
      (sym same) (λ h. sane.dead n h ∙ sym (lost-is n));
  there = λ k. subst (λ (w : Contents Content). w.newest ≡ Some k → is_available k w.packets ≡ true) (sym same)
      (sane.there k);
} where
  asked-is : (n : ℕ) → was_asked (s ∷ past) n ≡ was_asked past n
  asked-is n = ap (λ ns. is_among ns n || was_asked past n) none'

  lost-is : (n : ℕ) → is_lost (s ∷ past) n ≡ is_lost past n
  lost-is n = ap (λ ns. is_among ns n || is_lost past n) none

module _ (settings : Settings) (past : List Snapshot) (moment : ℕ) where
  abbrev ticked : Snapshot
  ticked = after_tick settings past moment

  abbrev tick_now : ℕ
  tick_now = max (latest past).now moment

  -- what a tick gives up was missing
  pub tick-lost-missing : (n : ℕ) → is_among ticked.lost n ≡ true → IsMissing past n
  tick-lost-missing n h = missing-from past n
      (filter-from (λ m. (length (requests past m) == MOST_REQUESTS) && is_old settings.interval tick_now
      (requests past m)) (missing past) n (among-from ticked.lost n h)).0

  -- and so was what it asks for
  pub tick-asked-missing : (n : ℕ) → is_among ticked.asked n ≡ true → IsMissing past n
  tick-asked-missing n h =
      missing-from past n (filter-from
      (λ m. nat_lt (length (requests past m)) MOST_REQUESTS && is_old settings.interval tick_now (requests past m))
      (missing past) n (among-from ticked.asked n h)).0

  -- so it is after a tick
  pub sane-ticked : IsSane past → IsSane (ticked ∷ past)
  sane-ticked sane = record {
    started = sane.started;
    asked = λ n h. elim (or_cases (is_among ticked.asked n) (was_asked past n) h) [
      | inl new ↦ (tick-asked-missing n new).before_newest
      | inr old ↦ sane.asked n old
    ];
    lost = λ n h. elim (or_cases (is_among ticked.lost n) (is_lost past n) h) [
      | inl new ↦ (tick-lost-missing n new).before_newest
      | inr old ↦ sane.lost n old
    ];
    inside = λ n h. elim (or_cases (is_among ticked.lost n) (is_dead n (latest past).window.dead)
        (sym (among-withs ticked.lost (latest past).window.dead n) ∙ h)) [
          | inl new ↦ inside-is (latest past).window.newest n (tick-lost-missing n new).inside
          | inr old ↦ sane.inside n old
        ];
    dead = λ n h. among-withs ticked.lost (latest past).window.dead n
        ∙ ap (λ b. is_among ticked.lost n || b) (sane.dead n h);
    there = sane.there;
  } where
    inside-is : (newest : Option ℕ) (n : ℕ) → IsSomeAnd newest (λ k. (k < n + WINDOW) × (n ≤ k)) →
        is_inside newest n ≡ true
    inside-is None n h = absurd h
    inside-is (Some k) n h = order-window k n h.0 h.1

module _ (source : Source) (past : List Snapshot) (moment n : ℕ) (content : Content) where
  -- what was left after each event, once a datagram is taken
  abbrev taken : Snapshot
  taken = after_datagram source past moment (Ok (n, content))

  abbrev taken_settled : Snapshot
  taken_settled = after_settling source.codec past (after_packet source n content (moved (latest past) moment))

  abbrev placed : Contents Content
  placed = after_placing n content (latest past).window

  abbrev new_newest : ℕ
  new_newest = newest_with (latest past).window.newest n

  -- what a datagram asks for is missing, but for what it gives up
  pub taken-asked-missing : (m : ℕ) → is_among taken.asked m ≡ true → IsMissing (taken_settled ∷ past) m
  taken-asked-missing m h =
      missing-from (taken_settled ∷ past) m
      (filter-from (λ k. length (requests (taken_settled ∷ past) k) == 0) (missing (taken_settled ∷ past)) m
      (among-from taken.asked m h)).0

  -- what it gives up leaves the window
  pub taken-lost-leaves : (m : ℕ) → is_among taken.lost m ≡ true →
      Leaves (Some (unwrap_or (latest past).window.first n)) (latest past).window.newest new_newest m
  taken-lost-leaves m h =
      left-from (Some (unwrap_or (latest past).window.first n)) (latest past).window.newest new_newest m
      (filter-from (λ k. not (is_passed taken.front k) && not (is_lost past k))
      (numbers_left (Some (unwrap_or (latest past).window.first n)) (latest past).window.newest (Some new_newest)) m
      (among-from taken.lost m h)).0

  -- what is left in the window isn't given up by it
  pub taken-not-lost : (m : ℕ) → new_newest < m + WINDOW → is_among taken.lost m ≡ false
  taken-not-lost m within =
      false_from_ne_true (is_among taken.lost m)
      (λ h. let left : m + WINDOW ≤ new_newest = (taken-lost-leaves m h).left in absurd (omega (arith, left, within)))

  -- so it is given up after it if it was before
  pub taken-lost-is : (m : ℕ) → new_newest < m + WINDOW → is_lost (taken ∷ past) m ≡ is_lost past m
  taken-lost-is m within = ap (λ b. b || is_lost past m) (taken-not-lost m within)

  -- so it is after a datagram that is taken
  pub sane-taken : IsFresh (latest past).window n → IsSane past → IsSane (taken ∷ past)
  sane-taken fresh sane = record {
    started = inr (unwrap_or (latest past).window.first n, new_newest, refl, refl, first-upto sane.started);
    asked = λ m h. elim (or_cases (is_among taken.asked m) (was_asked past m) h) [
      | inl new ↦ (taken-asked-missing m new).before_newest
      | inr old ↦ below-with (latest past).window.newest n m (sane.asked m old)
    ];
    lost = λ m h. elim (or_cases (is_among taken.lost m) (is_lost past m) h) [
      | inl new ↦ let left : m + WINDOW ≤ new_newest = (taken-lost-leaves m new).left in omega (arith, left)
      | inr old ↦ below-with (latest past).window.newest n m (sane.lost m old)
    ];
    inside = λ m h. (and_parts (in_window new_newest m) (is_dead m (latest past).window.dead)
        (sym (among-filter (in_window new_newest) (latest past).window.dead m) ∙ h)).0;
    dead = λ m h. among-filter (in_window new_newest) (latest past).window.dead m
        ∙ ap (λ b. b && is_dead m (latest past).window.dead) h
        ∙ dead-before m h (cases_Bool (is_inside (latest past).window.newest m))
        ∙ sym (taken-lost-is m (window-order new_newest m h).0);
    there = λ k h. made-available-stays source placed k
        (newest-there k h (newest-either (latest past).window.newest n));
  } where
    first-upto : IsStarted (latest past).window → unwrap_or (latest past).window.first n ≤ new_newest
    first-upto (inl none) = let a : unwrap_or (latest past).window.first n ≡ n = ap (λ o. unwrap_or o n) none.0 in
        let b : new_newest ≡ n = ap (λ o. newest_with o n) none.1 in omega (arith, a, b)
    first-upto (inr some) =
        let a : unwrap_or (latest past).window.first n ≡ some.0 = ap (λ o. unwrap_or o n) some.2 in
        let b : new_newest ≡ max some.1 n = ap (λ o. newest_with o n) some.3 in
        let upto : some.0 ≤ some.1 = some.4 in
        omega (arith, a, b, upto)

    dead-before : (m : ℕ) → in_window new_newest m ≡ true →
        (is_inside (latest past).window.newest m ≡ true) ⊎ (is_inside (latest past).window.newest m ≡ false) →
        is_dead m (latest past).window.dead ≡ is_lost past m
    dead-before m h (inl within) = sane.dead m within
    dead-before m h (inr out) =
        false_from_ne_true (is_dead m (latest past).window.dead) (λ d. true≢false (sym (sane.inside m d) ∙ out))
        ∙ sym (false_from_ne_true (is_lost past m)
        (λ l. inside-before (latest past).window.newest n m h out (sane.lost m l)))

    here : is_available n (entries_with new_newest n content (latest past).window.packets) ≡ true
    here = ap is_some (placed_new new_newest n content (latest past).window.packets)

    newest-there : (k : ℕ) → Some new_newest ≡ Some k →
        (new_newest ≡ n) ⊎ ((j : ℕ) × ((latest past).window.newest ≡ Some j) × (new_newest ≡ j) × (n < j)) →
        is_available k (entries_with new_newest n content (latest past).window.packets) ≡ true
    newest-there k is (inl same) = let e : k ≡ n = sym (same_some new_newest k is) ∙ same in
        ap (λ j. is_available j (entries_with new_newest n content (latest past).window.packets)) e ∙ here
    newest-there k is (inr p) =
        let e : k ≡ p.0 = sym (same_some new_newest k is) ∙ p.2 in
        let less : n < p.0 = p.3 in
        let c : (c : Content) × (at p.0 (latest past).window.packets ≡ Some c) =
        available-there (at p.0 (latest past).window.packets) (sane.there p.0 p.1) in
        let upto : new_newest ≡ p.0 = p.2 in
        ap (λ j. is_available j (entries_with new_newest n content (latest past).window.packets)) e
        ∙ ap is_some (placed_old new_newest n p.0 content c.0 (latest past).window.packets
        (λ same. absurd (omega (arith, same, less)))
        (order-window new_newest p.0 (omega (arith, upto)) (omega (arith, upto))) c.1)

-- so it is after a datagram
sane-datagram : (settings : Settings) (codec : Meaning) (past : List Snapshot) (moment : ℕ) (octets : List ℕ)
    (v : Result (ℕ × Content) NotTaken) → verdict settings codec (latest past).window octets ≡ v → IsSane past →
    IsSane (after_datagram (source_in settings codec) past moment v ∷ past)
sane-datagram settings codec past moment octets (Err left) is sane =
    sane-still (moved (latest past) moment) past refl refl refl sane
sane-datagram settings codec past moment octets (Ok (n, content)) is sane =
    sane-taken (source_in settings codec) past moment n content
    (fresh-is (latest past).window n (verdict-taken settings codec (latest past).window octets n content is).fresh)
    sane

-- and after a pull
sane-pulled : (codec : Meaning) (past : List Snapshot) (moment : ℕ) (o : Option Run) → IsSane past →
    IsSane (after_pull codec past moment o ∷ past)
sane-pulled codec past moment None sane = sane-still (moved (latest past) moment) past refl refl refl sane
sane-pulled codec past moment (Some run) sane =
    sane-still (after_pull codec past moment (Some run)) past refl refl refl sane

-- so it is after each history
pub sane : (settings : Settings) (codec : Meaning) (h : List Event) → IsSane (snapshots settings codec h)
unfolding snapshots
sane settings codec [] = sane-opening
sane settings codec (Datagram moment octets ∷ h) =
    let past : List Snapshot = snapshots settings codec h in
    sane-datagram settings codec past moment octets (verdict settings codec (latest past).window octets) refl
    (sane settings codec h)
sane settings codec (Tick moment ∷ h) =
    sane-ticked settings (snapshots settings codec h) moment (sane settings codec h)
sane settings codec (Pull moment ∷ h) =
    let past : List Snapshot = snapshots settings codec h in
    sane-pulled codec past moment (next_run (latest past)) (sane settings codec h)

module _ (settings : Settings) (codec : Meaning) (h : List Event) where
  -- a number that was asked for is below the newest
  pub asked-below : (n : ℕ) → was_asked (snapshots settings codec h) n ≡ true →
      IsBelow (latest (snapshots settings codec h)).window.newest n
  asked-below = (sane settings codec h).asked

  -- and so is one that was given up
  pub lost-below : (n : ℕ) → is_lost (snapshots settings codec h) n ≡ true →
      IsBelow (latest (snapshots settings codec h)).window.newest n
  lost-below = (sane settings codec h).lost

  -- what the window has as given up lies in it
  pub dead-inside : (n : ℕ) → is_dead n (latest (snapshots settings codec h)).window.dead ≡ true →
      is_inside (latest (snapshots settings codec h)).window.newest n ≡ true
  dead-inside = (sane settings codec h).inside

  -- and these are the numbers in it that were given up
  pub dead-lost : (n : ℕ) → is_inside (latest (snapshots settings codec h)).window.newest n ≡ true →
      is_dead n (latest (snapshots settings codec h)).window.dead ≡ is_lost (snapshots settings codec h) n
  dead-lost = (sane settings codec h).dead

  -- the first number isn't above the newest
  pub first-started : IsStarted (latest (snapshots settings codec h)).window
  first-started = (sane settings codec h).started
