-- What the machine remembers: what was available is still, or lies below the window; and a number that is fresh never
-- stood right after the end of a frame.
use Rattle.std.proofs.Common.{◌≡◌, ℕ, ◌+◌, ◌-◌, ◌<◌, ◌≤◌, ◌⊎◌, max, Bool, true, false, cond, ◌||◌, List, [], ◌∷◌, Contains, Option, Some, None, is_some, IsSomeAnd, refl, sym, ◌∙◌, ap, subst, arith, inl, inr, nat_cmp}
use Rattle.std.specs.Prelude.{Result, Ok, Err, nat_lt, nat_le, ◌==◌}
use Rattle.std.specs.List.{AllByRecursion, list_any}
use Rattle.std.specs.Option.{option_map_or}
use Rattle.std.specs.FinMap.Entries.{where_key}
use Rattle.std.proofs.lemmas.Bool.{and_cases, and_left, and_parts, cases_Bool, cases_eq, eqb-true, false_from_ne_true, le-leb, leb-true, leb-false, ltb-false, or_from, true≢false}
use Rattle.vrx_num.specs.declared.limits.TheConstants.{WINDOW}
use Rattle.vrx_codec.specs.Meaning.{Meaning}
use Rattle.vrx_codec.specs.declared.part.Layers.{Layers}
use Rattle.vrx_window.specs.Content.{Content}
use Rattle.vrx_window.specs.Window.{Contents, at, in_window, is_available, is_inside, is_too_old, newest_with, after_placing}
use Rattle.vrx_frames.specs.Run.{Packets, Run, ends_frame, is_start, stands_after_end}
use Rattle.vrx_repair.specs.Commit.{place_beside}
use Rattle.vrx_repair.specs.Plan.{repairs_in}
use Rattle.vrx_repair.specs.Source.{Source}
use Rattle.vrx_repair.specs.Step.{with_repairs}
use Rattle.vrx_core.specs.machine.Snapshot.{moved}
use Rattle.vrx_core.specs.machine.Machine.{Snapshot, after_datagram, after_pull, last_pulled, latest, next_run, snapshots, source_in, times, with_repaired}
use Rattle.vrx_core.specs.machine.Standing.{began_after_end, standing_of}
use Rattle.vrx_core.specs.machine.Told.{Told, layers_of, place_told, newest_picture, told_by, told_with}
use Rattle.vrx_core.specs.machine.Verdict.{verdict}
use Rattle.vrx_core.specs.declared.event.Event.{Event}
use Rattle.vrx_core.specs.declared.event.Event.TheVariants.{Datagram, Tick, Pull}
use Rattle.vrx_core.specs.declared.original.NotTaken.{NotTaken}
use Rattle.vrx_core.specs.declared.settings.Settings.{Settings}
use Rattle.vrx_core.proofs.machine.RepairLemmas.{FillAll, fill-each, fill-from, fill-here, fill-stays, repairs-fill}
use Rattle.vrx_core.proofs.relation.ListLemmas.{Contains-either, Contains-head, Contains-tail, all-of, all-in}
use Rattle.vrx_core.proofs.relation.MapLemmas.{at_put-here, at_put-other, at_where-from, at_where-yes, some-of}
use Rattle.vrx_core.proofs.relation.RunMoveLemmas.{standing-by}
use Rattle.vrx_core.proofs.relation.WindowLemmas.{newest-number}

-- the packets of the present say nothing new
again : (past : List Snapshot) (n : ℕ) →
    began_after_end ((latest past).window.packets ∷ times past) n ≡ began_after_end (times past) n
again [] n = refl
again (s ∷ past) n = twice (stands_after_end n s.window.packets) (began_after_end (times past) n) where
  twice : (a b : Bool) → (a || (a || b)) ≡ (a || b)
  twice true b = refl
  twice false b = refl

-- as one test
pub began-again : (past : List Snapshot) →
    began_after_end ((latest past).window.packets ∷ times past) ≡ began_after_end (times past)
began-again past = λ i n. again past n i

-- the runs that stand are those of the present and the past
abbrev pub IsSettled : Meaning → List Snapshot → Type 0
IsSettled codec past = (latest past).standing ≡ standing_of codec (latest past).told (times past) (latest past).front
    (last_pulled (latest past).pulled) (latest past).window.packets

-- a tick keeps it
settled-tick : (codec : Meaning) (past : List Snapshot) (moment : ℕ) → IsSettled codec past →
    IsSettled codec (moved (latest past) moment ∷ past)
settled-tick codec past moment is = is
    ∙ sym (ap (λ (test : ℕ → Bool).
    standing-by codec (place_told (latest past).told) (last_pulled (latest past).pulled) (is_start (latest past).front test)
    (latest past).window.packets) (began-again past))

-- a datagram keeps it
settled-datagram : (source : Source) (past : List Snapshot) (moment : ℕ) (v : Result (ℕ × Content) NotTaken) →
    IsSettled source.codec past → IsSettled source.codec (after_datagram source past moment v ∷ past)
settled-datagram source past moment (Ok (n, content)) is = refl
settled-datagram source past moment (Err left) is = settled-tick source.codec past moment is

-- a pull keeps it
settled-pull : (codec : Meaning) (past : List Snapshot) (moment : ℕ) (o : Option Run) → IsSettled codec past →
    IsSettled codec (after_pull codec past moment o ∷ past)
settled-pull codec past moment None is = settled-tick codec past moment is
settled-pull codec past moment (Some run) is = refl

-- after each history it is so
pub settled-always : (settings : Settings) (codec : Meaning) (h : List Event) →
    IsSettled codec (snapshots settings codec h)
unfolding snapshots
settled-always settings codec [] = refl
settled-always settings codec (Datagram moment octets ∷ h) =
    settled-datagram (source_in settings codec) (snapshots settings codec h) moment
    (verdict settings codec (latest (snapshots settings codec h)).window octets) (settled-always settings codec h)
settled-always settings codec (Tick moment ∷ h) =
    settled-tick codec (snapshots settings codec h) moment (settled-always settings codec h)
settled-always settings codec (Pull moment ∷ h) =
    settled-pull codec (snapshots settings codec h) moment (next_run (latest (snapshots settings codec h)))
    (settled-always settings codec h)

-- a number is available, or too old
abbrev pub IsKnownIn : Contents Content → ℕ → Type 0
IsKnownIn window n = (is_available n window.packets ≡ true) ⊎ (is_too_old window.newest n ≡ true)

-- a number is available only up to the newest; and what was available is, or is too old
pub record Remembers (window : Contents Content) (past : List Packets) : Type 0 where
  pub upto : (n : ℕ) → is_available n window.packets ≡ true → IsSomeAnd window.newest (λ m. n ≤ m)
  pub gone : AllByRecursion (λ packets. (n : ℕ) → is_available n packets ≡ true → IsKnownIn window n) past

-- the same window once more
same-window : (window : Contents Content) (past : List Packets) → Remembers window past →
    Remembers window (window.packets ∷ past)
same-window window past r = record { upto = r.upto; gone = ((λ n there. inl there), r.gone) }

module _ (window : Contents Content) (k : ℕ) (content : Content) where
  -- once a packet was placed, all numbers are up to the newest
  upto-after_placing : ((n : ℕ) → is_available n window.packets ≡ true → IsSomeAnd window.newest (λ m. n ≤ m)) →
      (n : ℕ) → is_available n (after_placing k content window).packets ≡ true → n ≤ newest_with window.newest k
  upto-after_placing upto n there = elim (cases_eq n k) [
    | inl same ↦ subst (λ m. m ≤ newest_with window.newest k) (sym same) (newest-number window.newest k)
    | inr apart ↦
        let x : (c : Content) × (at n (after_placing k content window).packets ≡ Some c) =
        some-of (at n (after_placing k content window).packets) there in
        let p : (in_window (newest_with window.newest k) n ≡ true) × (at n window.packets ≡ Some x.0) =
        at_where-from (in_window (newest_with window.newest k)) n window.packets x.0
        (sym (at_put-other n k content
        (where_key nat_cmp (in_window (newest_with window.newest k)) window.packets) apart) ∙ x.1) in
        below window.newest (upto n (ap is_some p.1))
  ] where
    below : (o : Option ℕ) → IsSomeAnd o (λ m. n ≤ m) → n ≤ newest_with o k
    below None h = absurd h
    below (Some m) h = omega (arith, h)

  -- and what was available is, or is too old
  known-after_placing : ((n : ℕ) → is_available n window.packets ≡ true → IsSomeAnd window.newest (λ m. n ≤ m)) →
      (n : ℕ) → IsKnownIn window n → IsKnownIn (after_placing k content window) n
  known-after_placing upto n (inr old) = inr (older window.newest old) where
    older : (o : Option ℕ) → is_too_old o n ≡ true → nat_le (n + WINDOW) (newest_with o k) ≡ true
    older None h = absurd (true≢false (sym h))
    older (Some m) h = let less : n + WINDOW ≤ m =
        leb-true (n + WINDOW) m h in le-leb (n + WINDOW) (max m k) (omega arith)
  known-after_placing upto n (inl there) = elim (cases_eq n k) [
    | inl same ↦ inl (subst (λ q. is_available q (after_placing k content window).packets ≡ true) (sym same)
        (ap is_some (at_put-here k content
        (where_key nat_cmp (in_window (newest_with window.newest k)) window.packets))))
    | inr apart ↦ elim (cases_Bool (in_window (newest_with window.newest k) n)) [
      | inl inside ↦ inl (ap is_some
          (at_put-other n k content (where_key nat_cmp (in_window (newest_with window.newest k)) window.packets) apart
          ∙ at_where-yes (in_window (newest_with window.newest k)) n window.packets inside) ∙ there)
      | inr outside ↦ inr (le-leb (n + WINDOW) (newest_with window.newest k)
          (older (and_cases (nat_lt (newest_with window.newest k) (n + WINDOW))
          (nat_le n (newest_with window.newest k)) outside)))
    ]
  ] where
    below : (o : Option ℕ) → IsSomeAnd o (λ m. n ≤ m) → n ≤ newest_with o k
    below None h = absurd h
    below (Some m) h = omega (arith, h)

    older : (nat_lt (newest_with window.newest k) (n + WINDOW) ≡ false)
        ⊎ (nat_le n (newest_with window.newest k) ≡ false) → n + WINDOW ≤ newest_with window.newest k
    older (inl far) = ltb-false (newest_with window.newest k) (n + WINDOW) far
    older (inr above) = let up : n ≤ newest_with window.newest k = below window.newest (upto n there) in
        let over : newest_with window.newest k < n =
        leb-false n (newest_with window.newest k) above in absurd (omega arith)

  -- so it holds of the window in which a packet was placed
  after_placing-window : (past : List Packets) → Remembers window past →
      Remembers (after_placing k content window) ((after_placing k content window).packets ∷ past)
  after_placing-window past r = record {
    upto = upto-after_placing r.upto;
    gone = (
      (λ n there. inl there),
      all-of (λ packets. (n : ℕ) → is_available n packets ≡ true → IsKnownIn (after_placing k content window) n) past
          (λ packets among n there.
          known-after_placing r.upto n
          (all-in (λ ps. (m : ℕ) → is_available m ps ≡ true → IsKnownIn window m) past packets r.gone among n there)),
    );
  }

-- the window in which a packet was placed, with these repairs
module _ (source : Source) (placed : Contents Content) (made : List (ℕ × Content))
    (fill : FillAll source placed.newest placed.dead placed.packets made) where
  -- what is available or too old stays so
  pub known-repaired : (n : ℕ) → IsKnownIn placed n → IsKnownIn (with_repaired made placed) n
  known-repaired n (inl there) =
      let x : (content : Content) × (at n placed.packets ≡ Some content) = some-of (at n placed.packets) there in
      inl (ap is_some (fill-stays source placed.newest placed.dead placed.packets made fill n x.0 x.1))
  known-repaired n (inr old) = inr old

  -- a number that is inside isn't above the newest
  inside-upto : (newest : Option ℕ) (n : ℕ) → is_inside newest n ≡ true → IsSomeAnd newest (λ m. n ≤ m)
  inside-upto None n h = absurd (true≢false (sym h))
  inside-upto (Some m) n h = leb-true n m (and_parts (nat_lt m (n + WINDOW)) (nat_le n m) h).1

  repaired-window : (past : List Packets) → Remembers placed (placed.packets ∷ past) →
      Remembers (with_repaired made placed) ((with_repaired made placed).packets ∷ past)
  repaired-window past r = record {
    upto = λ n there.
        let x : (content : Content) × (at n (with_repairs made placed.packets) ≡ Some content) =
        some-of (at n (with_repairs made placed.packets)) there in
        elim (fill-from source placed.newest placed.dead placed.packets made fill n x.0 x.1) [
          | inl was ↦ r.upto n (ap is_some was)
          | inr new ↦ inside-upto placed.newest n
              (fill-each source placed.newest placed.dead placed.packets made fill (n, x.0) new).inside
        ];
    gone = (
      (λ n there. inl there),
      all-of (λ packets. (n : ℕ) → is_available n packets ≡ true → IsKnownIn (with_repaired made placed) n) past
          (λ packets among n there. known-repaired n
          (all-in (λ ps. (m : ℕ) → is_available m ps ≡ true → IsKnownIn placed m) past packets r.gone.1 among n there)),
    );
  }

-- the repairs of a window fill gaps
pub repairs-filled : (source : Source) (window : Contents Content) →
    FillAll source window.newest window.dead window.packets (repairs_in source window)
unfolding repairs_in
repairs-filled source window = repairs-fill source window.newest window.dead WINDOW window.packets

-- a datagram keeps it
remembers-datagram : (source : Source) (past : List Snapshot) (moment : ℕ) (v : Result (ℕ × Content) NotTaken) →
    Remembers (latest past).window (times past)
    → Remembers (after_datagram source past moment v).window (times (after_datagram source past moment v ∷ past))
remembers-datagram source past moment (Ok (n, content)) r =
    let placed : Contents Content = after_placing n content (latest past).window in
    repaired-window source placed (repairs_in source placed) (repairs-filled source placed) (times past)
    (after_placing-window (latest past).window n content (times past) r)
remembers-datagram source past moment (Err left) r = same-window (latest past).window (times past) r

-- a pull keeps it
remembers-pull : (codec : Meaning) (past : List Snapshot) (moment : ℕ) (o : Option Run) →
    Remembers (latest past).window (times past)
    → Remembers (after_pull codec past moment o).window (times (after_pull codec past moment o ∷ past))
remembers-pull codec past moment None r = same-window (latest past).window (times past) r
remembers-pull codec past moment (Some run) r = same-window (latest past).window (times past) r

-- after each history it is so
pub remembers : (settings : Settings) (codec : Meaning) (h : List Event) →
    Remembers (latest (snapshots settings codec h)).window (times (snapshots settings codec h))
unfolding snapshots
remembers settings codec [] =
    record {
      upto = λ n there. absurd (true≢false (sym there));
      gone = ((λ n there. absurd (true≢false (sym there))), tt);
    }
remembers settings codec (Datagram moment octets ∷ h) =
    remembers-datagram (source_in settings codec) (snapshots settings codec h) moment
    (verdict settings codec (latest (snapshots settings codec h)).window octets) (remembers settings codec h)
remembers settings codec (Tick moment ∷ h) = let r =
    same-window (latest (snapshots settings codec h)).window (times (snapshots settings codec h))
    (remembers settings codec h) in record { upto = r.upto; gone = r.gone }
remembers settings codec (Pull moment ∷ h) =
    remembers-pull codec (snapshots settings codec h) moment (next_run (latest (snapshots settings codec h)))
    (remembers settings codec h)

-- a number that is neither available nor too old never stood right after the end of a frame
pub never-began : (window : Contents Content) (past : List Packets) (n : ℕ) → Remembers window past →
    is_available n window.packets ≡ false → is_too_old window.newest n ≡ false → began_after_end past n ≡ false
never-began window past n r missing young =
    none past (all-of (λ packets. is_available n packets ≡ false) past each) where
      each : (packets : Packets) → Contains past packets → is_available n packets ≡ false
      each packets among = false_from_ne_true (is_available n packets)
          (λ there. elim (all-in (λ ps. (m : ℕ) → is_available m ps ≡ true →
          IsKnownIn window m) past packets r.gone among n there) [
            | inl still ↦ true≢false (sym still ∙ missing)
            | inr old ↦ true≢false (sym old ∙ young)
          ])

      none : (ps : List Packets) → AllByRecursion (λ packets. is_available n packets ≡ false) ps →
          list_any (stands_after_end n) ps ≡ false
      none [] all = refl
      none (packets ∷ ps) all =
          or_from (stands_after_end n packets) (list_any (stands_after_end n) ps)
          (and_left (is_available n packets) (option_map_or ends_frame (at (n - 1) packets) false) all.0)
          (none ps all.1)

-- what told a place is available, or too old
abbrev pub IsToldIn : Snapshot → Type 0
IsToldIn s = (n : ℕ) → is_some (place_told s.told n) ≡ true → IsKnownIn s.window n

-- what told a place did so before, or is among those that tell one more
told-from : (codec : Meaning) (packets : List (ℕ × Content)) (told : Told) (n : ℕ) →
    is_some (place_told (told_with codec packets told) n) ≡ true →
    (is_some (place_told told n) ≡ true) ⊎ ((content : Content) × Contains packets (n, content))
told-from codec [] told n is = inl is
told-from codec (packet ∷ more) told n is =
    elim (told-from codec more (told_by packet.0 (layers_of codec packet.1) told) n is) [
      | inl was ↦ by (layers_of codec packet.1) was
      | inr later ↦ inr (later.0, Contains-tail packet more (n, later.0) later.1)
    ] where
      by : (layers : Option Layers) → is_some (place_told (told_by packet.0 layers told) n) ≡ true →
          (is_some (place_told told n) ≡ true)
          ⊎ ((content : Content) × Contains (packet ∷ more) (n, content))
      by None was = inl was
      by (Some layers) was = elim (cases_Bool (packet.0 == n)) [
        | inl same ↦ inr (
          packet.1,
          subst (λ k. Contains (packet ∷ more) (k, packet.1)) (eqb-true packet.0 n same)
              (Contains-head packet more),
        )
        | inr other ↦ inl (sym (ap (λ b. is_some (cond b (Some (place_beside (newest_picture told) layers))
            (place_told told n))) other) ∙ was)
      ]

told-datagram : (source : Source) (past : List Snapshot) (moment : ℕ) (v : Result (ℕ × Content) NotTaken) →
    Remembers (latest past).window (times past) → IsToldIn (latest past) →
    IsToldIn (after_datagram source past moment v)
told-datagram source past moment (Err left) r told m is = told m is
told-datagram source past moment (Ok (n, content)) r told m is =
    elim (told-from source.codec ((n, content) ∷ made) (latest past).told m is) [
      | inl was ↦ known-repaired source placed made fill m
          (known-after_placing (latest past).window n content r.upto m (told m was))
      | inr new ↦ elim (Contains-either (n, content) made (m, new.0) new.1) [
        | inl same ↦ known-repaired source placed made fill m
            (inl (subst (λ (e : ℕ × Content). is_available e.0 placed.packets ≡ true) same
            (ap is_some (at_put-here n content
            (where_key nat_cmp (in_window (newest_with (latest past).window.newest n)) (latest past).window.packets)))))
        | inr later ↦ inl (ap is_some
            (fill-here source placed.newest placed.dead placed.packets made fill (m, new.0) later))
      ]
    ] where
      placed : Contents Content
      placed = after_placing n content (latest past).window

      made : List (ℕ × Content)
      made = repairs_in source placed

      fill : FillAll source placed.newest placed.dead placed.packets made
      fill = repairs-filled source placed

told-pull : (codec : Meaning) (past : List Snapshot) (moment : ℕ) (o : Option Run) → IsToldIn (latest past) →
    IsToldIn (after_pull codec past moment o)
told-pull codec past moment None told = told
told-pull codec past moment (Some run) told = told

-- after each history it is so
pub told-always : (settings : Settings) (codec : Meaning) (h : List Event) →
    IsToldIn (latest (snapshots settings codec h))
unfolding snapshots
told-always settings codec [] n is = absurd (true≢false (sym is))
told-always settings codec (Datagram moment octets ∷ h) n is =
    told-datagram (source_in settings codec) (snapshots settings codec h) moment
    (verdict settings codec (latest (snapshots settings codec h)).window octets) (remembers settings codec h)
    (told-always settings codec h) n is
told-always settings codec (Tick moment ∷ h) n is = told-always settings codec h n is
told-always settings codec (Pull moment ∷ h) n is =
    told-pull codec (snapshots settings codec h) moment (next_run (latest (snapshots settings codec h)))
    (told-always settings codec h) n is
