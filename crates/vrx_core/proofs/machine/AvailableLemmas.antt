-- Which packets are available.
use Rattle.std.proofs.Common.{◌≡◌, ℕ, ◌+◌, ◌<◌, ◌≤◌, ◌⊎◌, max, Bool, true, false, cond, List, [], ◌∷◌, ◌++◌, Contains, Option, Some, None, is_some, IsSomeAnd, Result, Ok, Err, refl, sym, ◌∙◌, ap, subst, arith, inl, inr, Equal, nat_cmp, nat_lt, nat_le}
use Rattle.std.specs.Ordering.{eq_by_cmp}
use Rattle.std.specs.FinMap.Entries.{find-put, find-where_key, where_key}
use Rattle.std.proofs.lemmas.Cmp.{nat_cmp_total}
use Rattle.std.proofs.lemmas.Bool.{and_parts, and_from, ltb-true, leb-true, leb-false, lt-ltb, le-leb, true≢false}
use Rattle.std.proofs.lemmas.Grind.{common_steps}
use Rattle.std.proofs.lemmas.Option.{none-some, same_Some}
use Rattle.vrx_num.specs.declared.limits.TheConstants.{WINDOW}
use Rattle.vrx_codec.specs.Meaning.{Meaning}
use Rattle.vrx_window.specs.Content.{Content}
use Rattle.vrx_window.specs.Window.{Contents, at, in_window, is_inside, is_too_old, newest_with, after_placing, entries_with}
use Rattle.vrx_frames.specs.Run.{Packets, Run}
use Rattle.vrx_repair.specs.Plan.{repairs_in}
use Rattle.vrx_repair.specs.Source.{Source}
use Rattle.vrx_core.specs.machine.Verdict.{verdict}
use Rattle.vrx_core.specs.machine.Machine.{Snapshot, latest, next_run, after_datagram, after_pull, snapshots, source_in, with_repaired}
use Rattle.vrx_core.specs.machine.Available.{WasTaken, WasRepaired, IsInWindow, AvailableHolds}
use Rattle.vrx_core.specs.declared.settings.Settings.{Settings}
use Rattle.vrx_core.specs.declared.event.Event.{Event}
use Rattle.vrx_core.specs.declared.event.Event.TheVariants.{Datagram, Tick, Pull}
use Rattle.vrx_core.specs.declared.original.NotTaken.{NotTaken}
use Rattle.vrx_core.proofs.machine.RepairedLemmas.{made-each, made-from, made-here, made-stays}
use Rattle.vrx_core.proofs.machine.VerdictLemmas.{IsFresh, verdict-taken, fresh-is}

-- keys that tie are equal
same_key : (n k : ℕ) → eq_by_cmp nat_cmp n k ≡ true → n ≡ k
same_key n k h = grind (arith, common_steps)

-- a key ties with itself
key_same : (n : ℕ) → eq_by_cmp nat_cmp n n ≡ true
key_same n = grind (arith, common_steps)

equal_key : (n k : ℕ) → nat_cmp n k ≡ Equal → n ≡ k
equal_key n k h = grind (arith, common_steps)

-- what stands under a number once m was placed
pub find-after_placing : (newest m q : ℕ) (content : Content) (packets : Packets) →
    at q (entries_with newest m content packets) ≡ cond (eq_by_cmp nat_cmp q m) (Some content)
    (cond (in_window newest q) (at q packets) None)
find-after_placing newest m q content packets =
    find-put nat_cmp nat_cmp_total q m content (where_key nat_cmp (in_window newest) packets)
    ∙ ap (cond (eq_by_cmp nat_cmp q m) (Some content))
    (find-where_key nat_cmp (in_window newest) q (λ x same. ap (in_window newest) (sym (equal_key q x same))) packets)

-- a value after two tests
found_after : (a b : Bool) (c content : Content) (o : Option Content) →
    cond a (Some c) (cond b o None) ≡ Some content → ((a ≡ true) × (c ≡ content)) ⊎ ((b ≡ true) × (o ≡ Some content))
found_after true b c content o is = inl (refl, same_Some c content is)
found_after false true c content o is = inr (refl, is)
found_after false false c content o is = absurd (none-some content is)

-- what stands under a number once m was placed: what was placed, or what stood there before and lies in the window
pub placed_at : (newest m n : ℕ) (c content : Content) (packets : Packets) →
    at n (entries_with newest m c packets) ≡ Some content →
    ((n ≡ m) × (c ≡ content)) ⊎ ((in_window newest n ≡ true) × (at n packets ≡ Some content))
placed_at newest m n c content packets is =
    elim (found_after (eq_by_cmp nat_cmp n m) (in_window newest n) c content (at n packets)
    (sym (find-after_placing newest m n c packets) ∙ is)) [
      | inl new ↦ inl (same_key n m new.0, new.1)
      | inr old ↦ inr old
    ]

-- what was placed stands under its number
pub placed_new : (newest m : ℕ) (c : Content) (packets : Packets) → at m (entries_with newest m c packets) ≡ Some c
placed_new newest m c packets = find-after_placing newest m m c packets
    ∙ ap (λ b. cond b (Some c) (cond (in_window newest m) (at m packets) None)) (key_same m)

-- what stood under another number of the window stands there still
pub placed_old : (newest m n : ℕ) (c content : Content) (packets : Packets) → (n ≡ m → ⊥) →
    in_window newest n ≡ true → at n packets ≡ Some content → at n (entries_with newest m c packets) ≡ Some content
placed_old newest m n c content packets apart inside there =
    find-after_placing newest m n c packets ∙ by_test (eq_by_cmp nat_cmp n m) refl where
      by_test : (b : Bool) → eq_by_cmp nat_cmp n m ≡ b →
          cond b (Some c) (cond (in_window newest n) (at n packets) None) ≡ Some content
      by_test true same = absurd (apart (same_key n m same))
      by_test false other = ap (λ b. cond b (at n packets) None) inside ∙ there

-- the newest number isn't below the one placed
pub newest-from : (newest : Option ℕ) (n : ℕ) → n ≤ newest_with newest n
newest-from None n = omega arith
newest-from (Some m) n = omega arith

-- a number that isn't too old lies in the window once it is placed
pub newest-upto : (newest : Option ℕ) (n : ℕ) → is_too_old newest n ≡ false → newest_with newest n < n + WINDOW
newest-upto None n young = omega arith
newest-upto (Some m) n young = let less : m < n + WINDOW = leb-false (n + WINDOW) m young in omega arith

-- the window, as an order
pub window-order : (newest n : ℕ) → in_window newest n ≡ true → (newest < n + WINDOW) × (n ≤ newest)
window-order newest n is = let both : (nat_lt newest (n + WINDOW) ≡ true) × (nat_le n newest ≡ true) =
    and_parts _ _ is in (ltb-true newest (n + WINDOW) both.0, leb-true n newest both.1)

-- and back
pub order-window : (newest n : ℕ) → newest < n + WINDOW → n ≤ newest → in_window newest n ≡ true
order-window newest n above upto = and_from _ _ (lt-ltb newest (n + WINDOW) above) (le-leb n newest upto)

-- a pull leaves the window
pub pull_window : (codec : Meaning) (past : List Snapshot) (moment : ℕ) (o : Option Run) →
    (after_pull codec past moment o).window ≡ (latest past).window
pull_window codec past moment None = refl
pull_window codec past moment (Some run) = refl

-- a number that is there
some_and : (P : ℕ → Type 0) (o : Option ℕ) → IsSomeAnd o P → (k : ℕ) × (o ≡ Some k) × P k
some_and P None h = absurd h
some_and P (Some k) h = (k, refl, h)

-- a number inside, as the sentence says it
pub inside-window : (newest : Option ℕ) (n : ℕ) → is_inside newest n ≡ true → IsInWindow newest n
inside-window None n inside = absurd (true≢false (sym inside))
inside-window (Some k) n inside = window-order k n inside

module _ (settings : Settings) (codec : Meaning) (n : ℕ) (content : Content) where
  -- what was taken or repaired in a history
  abbrev Came : List Event → Type 0
  Came h = WasTaken settings codec h n content ⊎ WasRepaired settings codec h n content

  -- what was taken in a history was taken in the history with one event more, and what was repaired was repaired
  came_before : (h : List Event) (e : Event) → Came h → Came (e ∷ h)
  came_before h e (inl w) = inl (record {
    before = w.before;
    moment = w.moment;
    octets = w.octets;
    after = e ∷ w.after;
    history = ap (λ (t : List Event). e ∷ t) w.history;
    taken = w.taken;
  })
  came_before h e (inr w) = inr (record {
    before = w.before;
    moment = w.moment;
    octets = w.octets;
    after = e ∷ w.after;
    history = ap (λ (t : List Event). e ∷ t) w.history;
    number = w.number;
    brought = w.brought;
    taken = w.taken;
    repaired = w.repaired;
  })

  -- what is available was taken or repaired, and lies in the window
  abbrev Comes : List Event → Contents Content → Type 0
  Comes h window = at n window.packets ≡ Some content → Came h × IsInWindow window.newest n

  -- so it is in the window in which a packet is placed
  available_placed : (h : List Event) (moment : ℕ) (octets : List ℕ) (m : ℕ) (c : Content) →
      verdict settings codec (latest (snapshots settings codec h)).window octets ≡ Ok (m, c) →
      Comes h (latest (snapshots settings codec h)).window →
      Comes (Datagram moment octets ∷ h) (after_placing m c (latest (snapshots settings codec h)).window)
  available_placed h moment octets m c is old there =
      let window : Contents Content = (latest (snapshots settings codec h)).window in
      elim (placed_at (newest_with window.newest m) m n c content window.packets there) [
        | inl new ↦
            let same : m ≡ n = sym new.0 in
            let least : m ≤ newest_with window.newest m = newest-from window.newest m in
            let most : newest_with window.newest m < m + WINDOW =
            newest-upto window.newest m
            (fresh-is window m (verdict-taken settings codec window octets m c is).fresh).young in (
              inl (record {
                before = h;
                moment = moment;
                octets = octets;
                after = [];
                history = refl;
                taken = is ∙ ap (λ (k : ℕ). Ok (k, c)) same ∙ ap ok_with new.1;
              }),
              (omega arith, omega arith),
            )
        | inr more ↦ (
          came_before h (Datagram moment octets) (old more.1).0,
          window-order (newest_with window.newest m) n more.0,
        )
      ] where
        ok_with : Content → Result (ℕ × Content) NotTaken
        ok_with x = Ok (n, x)

  -- so it is after a datagram
  available_after : (h : List Event) (moment : ℕ) (octets : List ℕ) (v : Result (ℕ × Content) NotTaken) →
      verdict settings codec (latest (snapshots settings codec h)).window octets ≡ v →
      Comes h (latest (snapshots settings codec h)).window →
      Comes (Datagram moment octets ∷ h)
      (after_datagram (source_in settings codec) (snapshots settings codec h) moment v).window
  available_after h moment octets (Err left) is old there =
      (came_before h (Datagram moment octets) (old there).0, (old there).1)
  available_after h moment octets (Ok (m, c)) is old there =
      let source : Source = source_in settings codec in
      let placed : Contents Content = after_placing m c (latest (snapshots settings codec h)).window in
      elim (made-from source placed n content there) [
        | inl placing ↦ available_placed h moment octets m c is old placing
        | inr among ↦ (
          inr (record {
            before = h;
            moment = moment;
            octets = octets;
            after = [];
            history = refl;
            number = m;
            brought = c;
            taken = is;
            repaired = among;
          }),
          inside-window placed.newest n (made-each source placed (n, content) among).inside,
        )
      ]

  -- so it is after each history
  comes : (h : List Event) → Comes h (latest (snapshots settings codec h)).window
  unfolding snapshots
  comes [] there = absurd (none-some content there)
  comes (Datagram moment octets ∷ h) there =
      available_after h moment octets
      (verdict settings codec (latest (snapshots settings codec h)).window octets) refl (comes h) there
  comes (Tick moment ∷ h) there = let before = comes h there in (came_before h (Tick moment) before.0, before.1)
  comes (Pull moment ∷ h) there =
      let past : List Snapshot = snapshots settings codec h in
      let same : (after_pull codec past moment (next_run (latest past))).window ≡ (latest past).window =
      pull_window codec past moment (next_run (latest past)) in
      let before = comes h (ap (λ (w : Contents Content). at n w.packets) (sym same) ∙ there) in (
        came_before h (Pull moment) before.0,
        subst (λ (w : Contents Content). IsInWindow w.newest n) (sym same) before.1,
      )

  -- the newest number isn't below this one, which is available with this content while it lies in the window
  record IsStill (window : Contents Content) : Type 0 where
    upto : IsSomeAnd window.newest (λ k. n ≤ k)
    there : IsInWindow window.newest n → at n window.packets ≡ Some content

  -- so it is once it is placed
  still-new : (window : Contents Content) → IsStill (after_placing n content window)
  still-new window = record {
    upto = newest-from window.newest n;
    there = λ inside. placed_new (newest_with window.newest n) n content window.packets;
  }

  -- and so it stays when another number is placed
  still-after_placing : (window : Contents Content) (m : ℕ) (c : Content) → IsFresh window m → IsStill window →
      IsStill (after_placing m c window)
  still-after_placing window m c fresh still = record { upto = upto; there = there } where
    known : (k : ℕ) × (window.newest ≡ Some k) × (n ≤ k)
    known = some_and (λ k. n ≤ k) window.newest still.upto

    newest_is : newest_with window.newest m ≡ max known.0 m
    newest_is = ap (λ o. newest_with o m) known.1

    upto : n ≤ newest_with window.newest m
    upto = omega (arith, newest_is, known.2)

    inside : known.0 < n + WINDOW → IsInWindow window.newest n
    inside less = subst (λ o. IsInWindow o n) (sym known.1) (less, known.2)

    -- a number that is in the window isn't taken again
    apart : n ≡ m → ⊥
    apart same =
        let young : is_too_old (Some known.0) m ≡ false = ap (λ o. is_too_old o m) (sym known.1) ∙ fresh.young in
        let less : known.0 < m + WINDOW = leb-false (m + WINDOW) known.0 young in
        let stands : at n window.packets ≡ Some content = still.there (inside (omega (arith, less, same))) in
        true≢false (ap is_some (sym stands) ∙ ap (λ k. is_some (at k window.packets)) same ∙ fresh.free)

    there : IsInWindow (Some (newest_with window.newest m)) n →
        at n (entries_with (newest_with window.newest m) m c window.packets) ≡ Some content
    there within =
        placed_old (newest_with window.newest m) m n c content window.packets apart
        (order-window (newest_with window.newest m) n within.0 within.1)
        (still.there (inside (omega (arith, within.0, newest_is))))

  -- and when the repairs are made
  still-made : (source : Source) (window : Contents Content) → IsStill window →
      IsStill (with_repaired (repairs_in source window) window)
  still-made source window still = record {
    upto = still.upto;
    there = λ within. made-stays source window n content (still.there within);
  }

  -- so it is once it is repaired
  still-repaired : (source : Source) (window : Contents Content) → Contains (repairs_in source window) (n, content) →
      IsStill (with_repaired (repairs_in source window) window)
  still-repaired source window among = record {
    upto = below window.newest (inside-window window.newest n (made-each source window (n, content) among).inside);
    there = λ within. made-here source window n content among;
  } where
    below : (o : Option ℕ) → IsInWindow o n → IsSomeAnd o (λ k. n ≤ k)
    below None within = absurd within
    below (Some k) within = within.1

  -- so it is after an event more
  still_datagram : (past : List Snapshot) (moment : ℕ) (octets : List ℕ) (v : Result (ℕ × Content) NotTaken) →
      verdict settings codec (latest past).window octets ≡ v → IsStill (latest past).window →
      IsStill (after_datagram (source_in settings codec) past moment v).window
  still_datagram past moment octets (Err left) is still = still
  still_datagram past moment octets (Ok (m, c)) is still =
      still-made (source_in settings codec) (after_placing m c (latest past).window)
      (still-after_placing (latest past).window m c
      (fresh-is (latest past).window m (verdict-taken settings codec (latest past).window octets m c is).fresh) still)

  still_next : (h : List Event) (e : Event) → IsStill (latest (snapshots settings codec h)).window →
      IsStill (latest (snapshots settings codec (e ∷ h))).window
  unfolding snapshots
  still_next h (Datagram moment octets) still =
      still_datagram (snapshots settings codec h) moment octets
      (verdict settings codec (latest (snapshots settings codec h)).window octets) refl still
  still_next h (Tick moment) still = record { upto = still.upto; there = still.there }
  still_next h (Pull moment) still =
      let past : List Snapshot = snapshots settings codec h in
      subst IsStill (sym (pull_window codec past moment (next_run (latest past)))) still

  -- so it is after the event that it came by
  still_taken : (h : List Event) (moment : ℕ) (octets : List ℕ) →
      verdict settings codec (latest (snapshots settings codec h)).window octets ≡ Ok (n, content) →
      IsStill (latest (snapshots settings codec (Datagram moment octets ∷ h))).window
  unfolding snapshots
  still_taken h moment octets taken =
      let past : List Snapshot = snapshots settings codec h in
      subst (λ v. IsStill (after_datagram (source_in settings codec) past moment v).window) (sym taken)
      (still-made (source_in settings codec) (after_placing n content (latest past).window)
      (still-new (latest past).window))

  -- and after the one that it was repaired by
  still_repaired : (h : List Event) (moment : ℕ) (octets : List ℕ) (m : ℕ) (c : Content) →
      verdict settings codec (latest (snapshots settings codec h)).window octets ≡ Ok (m, c) →
      Contains (repairs_in (source_in settings codec) (after_placing m c (latest (snapshots settings codec h)).window))
      (n, content) → IsStill (latest (snapshots settings codec (Datagram moment octets ∷ h))).window
  unfolding snapshots
  still_repaired h moment octets m c taken among =
      let past : List Snapshot = snapshots settings codec h in
      subst (λ v. IsStill (after_datagram (source_in settings codec) past moment v).window) (sym taken)
      (still-repaired (source_in settings codec) (after_placing m c (latest past).window) among)

  -- so it is after each history that goes on after one in which it is so
  still_later : (after : List Event) (before h : List Event) → h ≡ after ++ before →
      IsStill (latest (snapshots settings codec before)).window → IsStill (latest (snapshots settings codec h)).window
  still_later [] before h is still = subst (λ t. IsStill (latest (snapshots settings codec t)).window) (sym is) still
  still_later (e ∷ after) before h is still =
      subst (λ t. IsStill (latest (snapshots settings codec t)).window) (sym is)
      (still_next (after ++ before) e (still_later after before (after ++ before) refl still))

  -- so it is after each history in which it was taken or repaired
  still : (h : List Event) → Came h → IsStill (latest (snapshots settings codec h)).window
  still h (inl w) =
      still_later w.after (Datagram w.moment w.octets ∷ w.before) h w.history
      (still_taken w.before w.moment w.octets w.taken)
  still h (inr w) =
      still_later w.after (Datagram w.moment w.octets ∷ w.before) h w.history
      (still_repaired w.before w.moment w.octets w.number w.brought w.taken w.repaired)

-- a number is available exactly if it was taken or repaired and lies in the window
pub available_are : AvailableHolds
available_are settings codec h n content =
    (comes settings codec n content h, λ was. (still settings codec n content h was.0).there was.1)

-- what is available lies in the window
pub available-inside : (settings : Settings) (codec : Meaning) (h : List Event) (n : ℕ) (content : Content) →
    at n (latest (snapshots settings codec h)).window.packets ≡ Some content →
    IsInWindow (latest (snapshots settings codec h)).window.newest n
available-inside settings codec h n content there = (comes settings codec n content h there).1
