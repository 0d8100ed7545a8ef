-- What the front passes over as it goes on: numbers that are available, and none beyond the newest.
use Rattle.std.proofs.Common.{◌≡◌, ℕ, zero, suc, ◌+◌, ◌<◌, ◌≤◌, ◌⊎◌, max, Bool, true, false, cond, ◌&&◌, ◌==◌, List, [], ◌∷◌, map, Option, Some, None, is_some, IfSome, IsSomeAnd, Result, Ok, Err, refl, sym, ◌∙◌, ap, subst, arith, inl, inr, Contains}
use Rattle.std.specs.List.{cons_option, flat_map, filter_map, list_all, list_any}
use Rattle.std.specs.Option.{option_map, option_map_or}
use Rattle.std.specs.Result.{result_ok}
use Rattle.std.proofs.lemmas.Bool.{le-leb, leb-true, cases_lt, cases_Bool, false_from_ne_true, true≢false}
use Rattle.std.proofs.lemmas.Option.{none-some, same_Some}
use Rattle.vrx_num.specs.declared.limits.TheConstants.{WINDOW}
use Rattle.vrx_codec.specs.Meaning.{Meaning}
use Rattle.vrx_window.specs.Content.{Content}
use Rattle.vrx_window.specs.Window.{at, is_available, newest_with}
use Rattle.vrx_frames.specs.Front.{is_no_media, reach_from, front_after}
use Rattle.vrx_codec.specs.declared.run.Place.{Place}
use Rattle.vrx_frames.specs.Run.{Packets, Piece, Run, first_alone, is_passed, is_start, last_alone, run_of, runs_by, stands, stretch}
use Rattle.vrx_num.specs.OptionChain.{◌>>=◌}
use Rattle.vrx_repair.specs.Source.{Source}
use Rattle.vrx_core.specs.machine.Available.{IsInWindow}
use Rattle.vrx_core.specs.machine.Machine.{Snapshot, latest, last_pulled, times, next_run, after_datagram, after_pull, snapshots, source_in}
use Rattle.vrx_core.specs.machine.Standing.{began_after_end, runs}
use Rattle.vrx_core.specs.machine.Told.{place_told}
use Rattle.vrx_core.specs.machine.Verdict.{verdict}
use Rattle.vrx_core.specs.declared.settings.Settings.{Settings}
use Rattle.vrx_core.specs.declared.event.Event.{Event}
use Rattle.vrx_core.specs.declared.event.Event.TheVariants.{Datagram, Tick, Pull}
use Rattle.vrx_core.specs.declared.original.NotTaken.{NotTaken}
use Rattle.vrx_core.proofs.machine.AnswerLemmas.{answer-given}
use Rattle.vrx_core.proofs.machine.AvailableLemmas.{available-inside}
use Rattle.vrx_core.proofs.machine.PassedLemmas.{has_none, reach_from-from}
use Rattle.vrx_core.proofs.machine.StandingLemmas.{IsSettled, standing_is}
use Rattle.vrx_core.proofs.relation.ListLemmas.{Contains-head, Contains-tail, Contains-either, Contains-empty, filter-from, map-from}
use Rattle.vrx_core.proofs.relation.MapLemmas.{entry-available}
use Rattle.vrx_core.proofs.asking.RangeLemmas.{append-from}
use Rattle.vrx_core.proofs.asking.SaneLemmas.{available-there}

-- what is no media is there
no-media-there : (o : Option Content) → option_map_or is_no_media o false ≡ true → is_some o ≡ true
no-media-there None h = absurd (true≢false (sym h))
no-media-there (Some content) h = refl

-- all numbers on the way are available
pub reach_from-available : (fuel from : ℕ) (packets : Packets) (m : ℕ) → from < m → m ≤ reach_from fuel from packets →
    is_available m packets ≡ true
reach_from-available zero from packets m above upto = absurd (omega (arith, above, upto))
reach_from-available (suc fuel) from packets m above upto =
    by (option_map_or is_no_media (at (from + 1) packets) false) refl upto
    (reach_from-available fuel (from + 1) packets m) where
      by : (b : Bool) → option_map_or is_no_media (at (from + 1) packets) false ≡ b →
          m ≤ cond b (reach_from fuel (from + 1) packets) from
          → (from + 1 < m → m ≤ reach_from fuel (from + 1) packets → is_available m packets ≡ true) →
          is_available m packets ≡ true
      by true is most rest = elim (cases_lt (from + 1) m) [
        | inl later ↦ rest later most
        | inr here ↦ let same : m ≡ from + 1 = omega (arith, above, here) in
            ap (λ k. is_available k packets) same ∙ no-media-there (at (from + 1) packets) is
      ]
      by false is most rest = absurd (omega (arith, above, most))

-- a number passed after an event was passed before it, or isn't above the last number pulled, or is available
pub passed-either : (before last : Option ℕ) (packets : Packets) (m : ℕ) →
    is_passed (front_after before last packets) m ≡ true
    → (is_passed before m ≡ true) ⊎ (IsSomeAnd last (λ l. m ≤ l) ⊎ (is_available m packets ≡ true))
passed-either before None packets m h = absurd (true≢false (sym h))
passed-either None (Some l) packets m h = elim (cases_lt l m) [
  | inl above ↦ inr (inr (reach_from-available WINDOW l packets m above (leb-true m (reach_from WINDOW l packets) h)))
  | inr upto ↦ inr (inl upto)
]
passed-either (Some f) (Some l) packets m h = elim (cases_lt f m) [
  | inr upto ↦ inl (le-leb m f upto)
  | inl above ↦ elim (cases_lt l m) [
    | inr upto ↦ inr (inl upto)
    | inl above' ↦ inr (inr (reach_from-available WINDOW (max f l) packets m (omega (arith, above, above'))
        (leb-true m (reach_from WINDOW (max f l) packets) h)))
  ]
]

-- what was passed is passed, if there is no front before the first frame is pulled
pub passed-still : (before last : Option ℕ) (packets : Packets) (m : ℕ) → (last ≡ None → before ≡ None) →
    is_passed before m ≡ true → is_passed (front_after before last packets) m ≡ true
passed-still None last packets m none h = absurd (true≢false (sym h))
passed-still (Some f) None packets m none h = absurd (true≢false (ap (λ o. is_some o) (none refl)))
passed-still (Some f) (Some l) packets m none h =
    let upto : m ≤ f = leb-true m f h in
    let further : max f l ≤ reach_from WINDOW (max f l) packets = reach_from-from WINDOW (max f l) packets in
    le-leb m (reach_from WINDOW (max f l) packets) (omega (arith, upto, further))

-- the last number pulled is passed after an event
last-after : (before last : Option ℕ) (packets : Packets) →
    IfSome last (λ l. is_passed (front_after before last packets) l ≡ true)
last-after before None packets = tt
last-after None (Some l) packets = le-leb l (reach_from WINDOW l packets) (reach_from-from WINDOW l packets)
last-after (Some f) (Some l) packets =
    let further : max f l ≤ reach_from WINDOW (max f l) packets = reach_from-from WINDOW (max f l) packets in
    le-leb l (reach_from WINDOW (max f l) packets) (omega (arith, further))

abbrev LastPassed : Snapshot → Type 0
LastPassed s = IfSome (last_pulled s.pulled) (λ l. is_passed s.front l ≡ true)

last-datagram : (source : Source) (past : List Snapshot) (moment : ℕ) (v : Result (ℕ × Content) NotTaken) →
    LastPassed (latest past) → LastPassed (after_datagram source past moment v)
last-datagram source past moment (Err left) before = before
last-datagram source past moment (Ok (n, content)) before =
    let s : Snapshot = latest past in
    last-after s.front (last_pulled s.pulled) (after_datagram source past moment (Ok (n, content))).window.packets

last-pull : (codec : Meaning) (past : List Snapshot) (moment : ℕ) (o : Option Run) → LastPassed (latest past) →
    LastPassed (after_pull codec past moment o)
last-pull codec past moment None before = before
last-pull codec past moment (Some run) before = let s : Snapshot =
    latest past in last-after s.front (Some run.last) s.window.packets

-- so it is after each history
pub last-passed : (settings : Settings) (codec : Meaning) (h : List Event) →
    LastPassed (latest (snapshots settings codec h))
unfolding snapshots
last-passed settings codec [] = tt
last-passed settings codec (Datagram moment octets ∷ h) =
    let past : List Snapshot = snapshots settings codec h in
    last-datagram (source_in settings codec) past moment (verdict settings codec (latest past).window octets)
    (last-passed settings codec h)
last-passed settings codec (Tick moment ∷ h) = last-passed settings codec h
last-passed settings codec (Pull moment ∷ h) =
    let past : List Snapshot = snapshots settings codec h in
    last-pull codec past moment (next_run (latest past)) (last-passed settings codec h)

-- a number up to a passed one is passed
pub passed-upto : (front : Option ℕ) (l m : ℕ) → is_passed front l ≡ true → m ≤ l → is_passed front m ≡ true
passed-upto None l m h upto = absurd (true≢false (sym h))
passed-upto (Some f) l m h upto = let most : l ≤ f = leb-true l f h in le-leb m f (omega (arith, upto, most))

-- the front passes over no number that isn't available
not-passed : (before last : Option ℕ) (packets : Packets) (m : ℕ) → (last ≡ None → before ≡ None) →
    IfSome last (λ l. is_passed before l ≡ true)
    → is_available m packets ≡ false → is_passed (front_after before last packets) m ≡ is_passed before m
not-passed before last packets m none known absent = by (is_passed before m) refl where
  upto : (o : Option ℕ) → IfSome o (λ l. is_passed before l ≡ true) → IsSomeAnd o (λ l. m ≤ l) →
      is_passed before m ≡ true
  upto None k h = absurd h
  upto (Some l) k h = passed-upto before l m k h

  by : (b : Bool) → is_passed before m ≡ b → is_passed (front_after before last packets) m ≡ b
  by true is = passed-still before last packets m none is
  by false is = false_from_ne_true (is_passed (front_after before last packets) m)
      (λ h. elim (passed-either before last packets m h) [
        | inl before' ↦ absurd (true≢false (sym before' ∙ is))
        | inr other ↦ elim other [
          | inl least ↦ absurd (true≢false (sym (upto last known least) ∙ is))
          | inr there ↦ absurd (true≢false (sym there ∙ absent))
        ]
      ])

module _ (settings : Settings) (codec : Meaning) (h : List Event) (moment n : ℕ) (content : Content) where
  -- with a datagram that is taken no number becomes passed that isn't available after it
  pub passed-same : (m : ℕ) → is_available m (after_datagram (source_in settings codec)
      (snapshots settings codec h) moment (Ok (n, content))).window.packets ≡ false
      → is_passed (after_datagram (source_in settings codec) (snapshots settings codec h) moment
      (Ok (n, content))).front m ≡ is_passed (latest (snapshots settings codec h)).front m
  passed-same m absent =
      let s : Snapshot = latest (snapshots settings codec h) in
      not-passed s.front (last_pulled s.pulled) (after_datagram (source_in settings codec)
      (snapshots settings codec h) moment (Ok (n, content))).window.packets m
      (has_none settings codec h) (last-passed settings codec h) absent

-- what is available lies in the window
pub available-within : (settings : Settings) (codec : Meaning) (h : List Event) (m : ℕ) →
    is_available m (latest (snapshots settings codec h)).window.packets ≡ true →
    IsInWindow (latest (snapshots settings codec h)).window.newest m
available-within settings codec h m there =
    let c : (content : Content) × (at m (latest (snapshots settings codec h)).window.packets ≡ Some content) =
    available-there (at m (latest (snapshots settings codec h)).window.packets) there in
    available-inside settings codec h m c.0 c.1

-- a number isn't above the newest
abbrev IsUpToNewest : Option ℕ → ℕ → Type 0
IsUpToNewest newest m = IsSomeAnd newest (λ k. m ≤ k)

upto-window : (newest : Option ℕ) (m : ℕ) → IsInWindow newest m → IsUpToNewest newest m
upto-window None m h = absurd h
upto-window (Some k) m h = h.1

upto-less : (newest : Option ℕ) (l m : ℕ) → IsUpToNewest newest l → m ≤ l → IsUpToNewest newest m
upto-less None l m h less = absurd h
upto-less (Some k) l m h less = let most : l ≤ k = h in omega (arith, most, less)

upto-with : (newest : Option ℕ) (n m : ℕ) → IsUpToNewest newest m → m ≤ newest_with newest n
upto-with None n m h = absurd h
upto-with (Some k) n m h = let most : m ≤ k = h in omega (arith, most)

-- what is in lists of lists
flat-from : {X Y : Type 0} (f : X → List Y) (xs : List X) (y : Y) → Contains (flat_map f xs) y →
    (x : X) × Contains xs x × Contains (f x) y
flat-from f [] y c = absurd (Contains-empty y c)
flat-from f (x ∷ xs) y c = elim (append-from (f x) (flat_map f xs) y c) [
  | inl here ↦ (x, Contains-head x xs, here)
  | inr later ↦ let p : (z : _) × Contains xs z × Contains (f z) y =
      flat-from f xs y later in (p.0, Contains-tail x xs p.0 p.1, p.2)
]

-- and what is in what a function gives of a list
chosen-either : {Y : Type 0} (o : Option Y) (ys : List Y) (y : Y) → Contains (cons_option o ys) y →
    (o ≡ Some y) ⊎ Contains ys y
chosen-either None ys y c = inr c
chosen-either (Some z) ys y c =
    elim (Contains-either z ys y c) [ inl same ↦ inl (ap (λ w. Some w) same) | inr later ↦ inr later ]

chosen-from : {X Y : Type 0} (f : X → Option Y) (xs : List X) (y : Y) → Contains (filter_map f xs) y →
    (x : X) × Contains xs x × (f x ≡ Some y)
chosen-from f [] y c = absurd (Contains-empty y c)
chosen-from f (x ∷ xs) y c = elim (chosen-either (f x) (filter_map f xs) y c) [
  | inl here ↦ (x, Contains-head x xs, here)
  | inr later ↦ let p : (z : _) × Contains xs z × (f z ≡ Some y) =
      chosen-from f xs y later in (p.0, Contains-tail x xs p.0 p.1, p.2)
]

-- a run has the last number that it is looked for by
made-last : (b : Bool) (o : Option (List ℕ)) (make : List ℕ → Run) (last : ℕ) (run : Run) →
    ((bytes : List ℕ) → (make bytes).last ≡ last) → cond b (option_map make o) None ≡ Some run → run.last ≡ last
made-last false o make last run is h = absurd (none-some run h)
made-last true None make last run is h = absurd (none-some run h)
made-last true (Some bytes) make last run is h =
    ap (λ (r : Run). r.last) (sym (same_Some (make bytes) run h)) ∙ is bytes

module _ (codec : Meaning) (place : ℕ → Option Place) (starts : Piece → Bool) (packets : Packets) (run : Run) where
  pieces-last : (last : ℕ) (pieces : List Piece) → run_of codec place starts last pieces ≡ Some run → run.last ≡ last
  pieces-last last [] h = absurd (none-some run h)
  pieces-last last (piece ∷ pieces) h =
      made-last (list_all (λ p. p.packet.ts == piece.packet.ts) pieces && first_alone starts (piece ∷ pieces)
      && last_alone (λ p. p.packet.marker) (piece ∷ pieces))
      (result_ok (codec.join (map (λ (p : Piece). p.part) (piece ∷ pieces))))
      (λ bytes. record {
        first = piece.number;
        last = last;
        ts = piece.packet.ts;
        key = list_any (λ p. p.part.key) (piece ∷ pieces);
        layers = place piece.number;
        bytes = bytes;
      }) last run (λ bytes. refl) h

  stretch-last : (last : ℕ) (o : Option (List Piece)) → (o >>= run_of codec place starts last) ≡ Some run →
      run.last ≡ last
  stretch-last last None h = absurd (none-some run h)
  stretch-last last (Some pieces) h = pieces-last last pieces h

  -- its last number is available
  run-there : Contains (runs_by codec place starts packets) run → is_available run.last packets ≡ true
  run-there c =
      let ns : List ℕ = map (λ (entry : ℕ × Content). entry.0) packets in
      let p : (first : ℕ) × Contains ns first
      × Contains (filter_map (λ last. stretch codec packets first last >>= run_of codec place starts last) ns)
      run = flat-from (λ first.
      filter_map (λ last. stretch codec packets first last >>= run_of codec place starts last) ns) ns run c in
      let q : (last : ℕ) × Contains ns last
      × ((stretch codec packets p.0 last >>= run_of codec place starts last) ≡ Some run) =
      chosen-from (λ last. stretch codec packets p.0 last >>= run_of codec place starts last) ns run p.2 in
      let e : (entry : ℕ × Content) × Contains packets entry × (entry.0 ≡ q.0) =
      map-from (λ (entry : ℕ × Content). entry.0) packets q.0 q.1 in
      ap (λ m. is_available m packets) (stretch-last q.0 (stretch codec packets p.0 q.0) q.2 ∙ sym e.2)
      ∙ entry-available packets e.0 e.1

-- the last number of a run that stands is available
stood-there : (codec : Meaning) (past : List Snapshot) (run : Run) → IsSettled codec past →
    Contains (latest past).standing run → is_available run.last (latest past).window.packets ≡ true
stood-there codec past run settled c =
    let s : Snapshot = latest past in
    run-there codec (place_told s.told) (is_start s.front (began_after_end (times past))) s.window.packets run
    (filter-from (stands (last_pulled s.pulled)) (runs codec s.told (times past) s.front s.window.packets) run
    (subst (λ (rs : List Run). Contains rs run) settled c)).0

-- after each event no number above the newest is passed
abbrev FrontUpTo : Snapshot → Type 0
FrontUpTo s = (m : ℕ) → is_passed s.front m ≡ true → IsUpToNewest s.window.newest m

module _ (settings : Settings) (codec : Meaning) where
  upto-datagram : (h : List Event) (moment : ℕ) (octets : List ℕ) (v : Result (ℕ × Content) NotTaken)
      → ((m : ℕ) → is_available m (after_datagram (source_in settings codec) (snapshots settings codec h) moment v).window.packets ≡ true →
      IsInWindow (after_datagram (source_in settings codec) (snapshots settings codec h) moment v).window.newest m)
      → FrontUpTo (latest (snapshots settings codec h)) →
      FrontUpTo (after_datagram (source_in settings codec) (snapshots settings codec h) moment v)
  upto-datagram h moment octets (Err left) inside before m passed = before m passed
  upto-datagram h moment octets (Ok (n, content)) inside before m passed =
      elim (cases_Bool (is_available m (after_datagram (source_in settings codec) (snapshots settings codec h)
      moment (Ok (n, content))).window.packets)) [
        | inl there ↦ upto-window (Some (newest_with (latest (snapshots settings codec h)).window.newest n)) m
            (inside m there)
        | inr absent ↦ upto-with (latest (snapshots settings codec h)).window.newest n m
            (before m (sym (passed-same settings codec h moment n content m absent) ∙ passed))
      ]

  upto-pull : (h : List Event) (moment : ℕ) (o : Option Run) → next_run (latest (snapshots settings codec h)) ≡ o →
      FrontUpTo (latest (snapshots settings codec h)) →
      FrontUpTo (after_pull codec (snapshots settings codec h) moment o)
  upto-pull h moment None is before m passed = before m passed
  upto-pull h moment (Some run) is before m passed =
      let s : Snapshot = latest (snapshots settings codec h) in
      let given : Contains s.standing run = (answer-given s.told s.pulled s.front s.standing run is).0 in
      elim (passed-either s.front (Some run.last) s.window.packets m passed) [
        | inl old ↦ before m old
        | inr other ↦ elim other [
          | inl upto ↦ upto-less s.window.newest run.last m
              (upto-window s.window.newest run.last
              (available-within settings codec h run.last
              (stood-there codec (snapshots settings codec h) run (standing_is settings codec h) given))) upto
          | inr there ↦ upto-window s.window.newest m (available-within settings codec h m there)
        ]
      ]

  -- no number above the newest is passed
  pub passed-below : (h : List Event) (m : ℕ) → is_passed (latest (snapshots settings codec h)).front m ≡ true →
      IsSomeAnd (latest (snapshots settings codec h)).window.newest (λ k. m ≤ k)
  unfolding snapshots
  passed-below [] m passed = absurd (true≢false (sym passed))
  passed-below (Datagram moment octets ∷ h) m passed =
      upto-datagram h moment octets (verdict settings codec (latest (snapshots settings codec h)).window octets)
      (available-within settings codec (Datagram moment octets ∷ h)) (passed-below h) m passed
  passed-below (Tick moment ∷ h) m passed = passed-below h m passed
  passed-below (Pull moment ∷ h) m passed =
      upto-pull h moment (next_run (latest (snapshots settings codec h))) refl (passed-below h) m passed
