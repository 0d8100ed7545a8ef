-- Assembly that stand in a past of the machine stand in its past with one event more.
use Rattle.std.proofs.Common.{◌≡◌, ℕ, ◌+◌, ◌<◌, ◌≤◌, ◌⊎◌, Bool, true, false, ◌&&◌, ◌||◌, List, [], ◌∷◌, map, Contains, Option, Some, None, is_some, IfSome, IsSomeAnd, refl, sym, ◌∙◌, ap, subst, arith, inl, inr, ◌↔◌, ◌-◌}
use Rattle.std.specs.Prelude.{Ok}
use Rattle.std.specs.List.{AllByRecursion, filter, find}
use Rattle.std.specs.Option.{option_map}
use Rattle.std.specs.Ordering.{nat_cmp}
use Rattle.std.specs.FinMap.Entries.{is_sorted, where_key}
use Rattle.std.proofs.lemmas.Bool.{cases_eq, cases_lt, lt-leb, true≢false}
use Rattle.vrx_num.specs.declared.limits.TheConstants.{WINDOW}
use Rattle.vrx_codec.specs.Meaning.{Meaning}
use Rattle.vrx_codec.specs.declared.run.Run.{Run as RunSummary}
use Rattle.vrx_window.specs.Content.{Content, content_of, contents, contents_of}
use Rattle.vrx_window.specs.Sound.{IsSound, place_at}
use Rattle.vrx_window.specs.Window.{Contents, at, in_window, is_available, is_inside, is_too_old, newest_with, nothing, after_placing, entries_with, would_of}
use Rattle.vrx_window.specs.declared.held.Held.{Held}
use Rattle.vrx_window.specs.declared.placing.Placing.TheVariants.{Fresh}
use Rattle.vrx_frames.specs.Completed.{Known, is_among, known_packets as known_packets, nothing_known, standing_runs}
use Rattle.vrx_frames.specs.Front.{front_after, is_no_media}
use Rattle.vrx_frames.specs.IsRun.{IsPiece, IsRunBy, RunsApart, RunsAre, RunsRise}
use Rattle.vrx_frames.specs.Run.{Packets, Piece, Run, begins, is_passed, is_start, runs_by, stands, summary_of}
use Rattle.vrx_repair.specs.Commit.{window_after}
use Rattle.vrx_repair.specs.Plan.{IsPlan, IsRepaired, entries_of, numbers_of as repair_numbers, placed, repairs_in}
use Rattle.vrx_repair.specs.Source.{Source}
use Rattle.vrx_repair.specs.Step.{with_repair, with_repairs}
use Rattle.vrx_repair.specs.declared.repair.Repair.{Repair}
use Rattle.vrx_core.specs.machine.Deliverable.{answer}
use Rattle.vrx_core.specs.machine.Machine.{Snapshot, after_datagram, after_pull, last_pulled, latest, next_run, opening, snapshots, source_in, times, with_repaired}
use Rattle.vrx_core.specs.machine.Snapshot.{moved}
use Rattle.vrx_core.specs.machine.Standing.{began_after_end, standing_of}
use Rattle.vrx_core.specs.machine.Told.{Told, newest_picture, place_told, sightings, told_with}
use Rattle.vrx_buffer.specs.Frames.{is_deliverable, next_of}
use Rattle.vrx_refs.specs.Knows.{Knows}
use Rattle.vrx_refs.specs.References.{was_carried}
use Rattle.vrx_core.specs.relation.StandsFor.{Assembly, KnowsPlaces, StandsIn, numbers_of, shapes_of}
use Rattle.vrx_core.specs.inside.Places.{IsPlacedBeside, with_sightings}
use Rattle.vrx_core.specs.inside.Step.{IsKept, IsPulledAs, IsTakenAs, after_counting, known_all, packets_of, pictures_with}
use Rattle.vrx_core.specs.declared.event.Event.{Event}
use Rattle.vrx_core.specs.declared.settings.Settings.{Settings}
use Rattle.vrx_core.proofs.relation.ListLemmas.{Rises, all-of, filter-from, find-among}
use Rattle.vrx_core.proofs.relation.MapLemmas.{among-numbers, at_put-here, at_put-other, at_where-yes}
use Rattle.vrx_core.proofs.relation.RunMoveLemmas.{Held as HeldPiece, beyond-stands, piece-available, piece-in, piece-media, run-available, run-moves, standing-equal, standing-from, standing-place, stands-beyond}
use Rattle.vrx_core.proofs.relation.WindowLemmas.{among-filter, available-contents, contents_of-after_placing, fresh-inside, fresh-parts, sorted-contents, window-order}
use Rattle.vrx_core.proofs.relation.GrowLemmas.{AreGaps, NeverBegan, recall-then}
use Rattle.vrx_core.proofs.relation.PlacesLemmas.{AreTold, place-carried}
use Rattle.vrx_core.proofs.relation.CameLemmas.{Came, all-are-seen, all-are-told, came, numbers-made}
use Rattle.vrx_core.proofs.relation.AddLemmas.{first_of}
use Rattle.vrx_core.proofs.relation.TakenLemmas.{known-rises, standing_runs-whole}
use Rattle.vrx_core.proofs.relation.LeastLemmas.{answer-find, answer-told, stands-last}
use Rattle.vrx_core.proofs.relation.GoneLemmas.{began-again, never-began, remembers, settled-always, told-always}

-- a mapped value comes from one
map-some : {A B : Type 0} (f : A → B) (o : Option A) (y : B) → option_map f o ≡ Some y →
    (x : A) × (o ≡ Some x) × (f x ≡ y)
map-some f None y is = absurd (cc)
map-some f (Some x) y is = let same : f x ≡ y = cc in (x, refl, same)

-- and no value from none
map-none : {A B : Type 0} (f : A → B) (o : Option A) → option_map f o ≡ None → o ≡ None
map-none f None is = refl
map-none f (Some x) is = absurd (cc)

-- a new engine's parts stand at the opening
pub stands-opening : (codec : Meaning) (parts : Assembly) → parts.window ≡ nothing → parts.pictures ≡ None →
    parts.known ≡ nothing_known → Knows parts.finder [] [] → parts.frames ≡ [] → parts.last_pulled ≡ None → parts.front ≡ None
    → StandsIn codec parts (opening ∷ [])
stands-opening codec parts window pictures known finder frames last front = record {
  window = ap contents_of window;
  places = record { newest = pictures; places = λ n there. absurd (true≢false (sym there)) };
  known = record { arrivals = ap (λ (k : Known). k.arrivals) known; began = ap (λ (k : Known). k.began) known };
  finder = finder;
  frames = frames;
  last_pulled = last;
  front = front;
}

-- an event that only counts: it leaves what a tick leaves, and so does a datagram that isn't taken and a pull that
-- gives nothing
pub stands-after_counting : (codec : Meaning) (parts : Assembly) (past : List Snapshot) (moment : ℕ) →
    StandsIn codec parts past → StandsIn codec (after_counting parts moment) (moved (latest past) moment ∷ past)
stands-after_counting codec parts past moment stood = record {
  window = stood.window;
  places = record { newest = stood.places.newest; places = stood.places.places };
  known = record {
    arrivals = stood.known.arrivals;
    began = stood.known.began
        ∙ sym (ap (λ (test : ℕ → Bool). filter test (numbers_of (latest past).window.packets)) (began-again past));
  };
  finder = stood.finder;
  frames = stood.frames;
  last_pulled = stood.last_pulled;
  front = stood.front;
}

-- what comes of a pull that gives a run
pub record IsNext (codec : Meaning) (before after : Assembly) (past : List Snapshot) (moment : ℕ)
    (told : RunSummary) : Type 0 where
  pub run : Run
  -- it is the machine's, and is told so
  pub next_is : next_run (latest past) ≡ Some run
  pub told_is : summary_of run ≡ told
  -- it is a run of the window's packets, the only one that is told so
  pub is_run : IsRunBy codec (place_at before.window.packets) (is_start before.front (is_among before.known.began))
      (packets_of before) run
  pub only : (other : Run) →
      IsRunBy codec (place_at before.window.packets) (is_start before.front (is_among before.known.began))
      (packets_of before) other →
      summary_of other ≡ told → other ≡ run
  pub stands : StandsIn codec after (after_pull codec past moment (Some run) ∷ past)

-- the numbers of entries, by which a number is among them if it is available
among-available : (packets : Packets) (n : ℕ) → is_among (numbers_of packets) n ≡ is_available n packets
among-available packets n = sym (among-numbers packets n)

-- what began among the numbers that are available
pub among-began : (packets : Packets) (times : List Packets) (began : List ℕ) (n : ℕ) →
    began ≡ filter (began_after_end times) (numbers_of packets) →
    is_among began n ≡ (began_after_end times n && is_available n packets)
among-began packets times began n is = ap (λ ns. is_among ns n) is
    ∙ among-filter (began_after_end times) (numbers_of packets) n
    ∙ ap (λ b. began_after_end times n && b) (among-available packets n)

and_true : (b : Bool) → (b && true) ≡ b
and_true true = refl
and_true false = refl

and_false : (b : Bool) → (b && false) ≡ false
and_false true = refl
and_false false = refl

or_comm : (a b : Bool) → (a || b) ≡ (b || a)
or_comm true true = refl
or_comm true false = refl
or_comm false true = refl
or_comm false false = refl

module _ (are : RunsAre) (rise : RunsRise) where
  -- the runs that stand by the parts are those that stand by the machine: a number that is passed only by the front
  -- is no media, and it is kept of all available numbers whether they began
  pub standing_runs-same : (codec : Meaning) (parts : Assembly) (told : Told) (times : List Packets) →
      IsKept codec parts →
      is_sorted nat_cmp parts.window.packets ≡ true
      → ((m : ℕ) → is_available m parts.window.packets ≡ true → is_inside parts.window.newest m ≡ true)
      → parts.known.began ≡ filter (began_after_end times) (numbers_of (packets_of parts))
      → ((n : ℕ) → is_available n (packets_of parts) ≡ true →
      place_at parts.window.packets n ≡ place_told told n)
      → standing_runs codec (place_at parts.window.packets) parts.front parts.known (packets_of parts)
      ≡ standing_of codec told times parts.front parts.last_pulled (packets_of parts)
  standing_runs-same codec parts told times kept sorted inside began places =
      standing_runs-whole codec (place_at parts.window.packets) parts.front parts.known (packets_of parts) kept.arrivals
      ∙ standing-equal are rise codec (place_at parts.window.packets) parts.front parts.last_pulled
      (is_start parts.front (is_among parts.known.began)) (is_start parts.front (began_after_end times))
      (packets_of parts) (packets_of parts)
      (sorted-contents parts.window.packets sorted) (sorted-contents parts.window.packets sorted)
      (λ run r s. (
        run-moves codec (place_at parts.window.packets) (is_start parts.front (is_among parts.known.began))
            (is_start parts.front (began_after_end times)) (packets_of parts) (packets_of parts) run r
            (λ m piece from upto is. (is, same m piece is)),
        stands-last parts.last_pulled parts.front run kept.front.ahead s,
      ))
      (λ run r s. (
        run-moves codec (place_at parts.window.packets) (is_start parts.front (began_after_end times))
            (is_start parts.front (is_among parts.known.began)) (packets_of parts) (packets_of parts) run r
            (λ m piece from upto is. (is, sym (same m piece is))),
        beyond parts.front refl run r s,
      ))
      ∙ standing-place are rise codec (place_at parts.window.packets) (place_told told) parts.last_pulled
      (is_start parts.front (began_after_end times)) (packets_of parts) (sorted-contents parts.window.packets sorted)
      places where
        same : (m : ℕ) (piece : Piece) → IsPiece codec (packets_of parts) m piece →
            is_start parts.front (is_among parts.known.began) piece ≡ is_start parts.front
            (began_after_end times) piece
        same m piece is =
            let there : is_available piece.number (packets_of parts) ≡ true =
            ap (λ k. is_available k (packets_of parts)) is.number
            ∙ piece-available codec (packets_of parts) m piece is in
            ap (λ b. begins piece.part.start (is_passed parts.front (piece.number - 1) || b))
            (among-began (packets_of parts) times parts.known.began piece.number began
            ∙ ap (λ b. began_after_end times piece.number && b) there ∙ and_true (began_after_end times piece.number))

        media : (front : ℕ) → parts.front ≡ Some front → (run : Run) →
            IsRunBy codec (place_at parts.window.packets) (is_start parts.front (began_after_end times)) (packets_of parts) run →
            (last : Option ℕ) → parts.last_pulled ≡ last → stands last run ≡ true → front < run.first
        media front front_is run r None none s =
            absurd (cc (sym (ap is_some front_is) ∙ kept.front.both ∙ ap is_some none))
        media front front_is run r (Some l) last_is s = elim (cases_lt front run.first) [
          | inl less ↦ less
          | inr upto ↦
              let first_there : is_available run.first (packets_of parts) ≡ true =
              run-available codec (place_at parts.window.packets) (is_start parts.front (began_after_end times))
              (packets_of parts) run run.first r (omega arith) r.not_empty in
              let p = piece-in codec (place_at parts.window.packets) (is_start parts.front (began_after_end times))
              (packets_of parts) run run.first r (omega arith) r.not_empty in
              absurd (none_media p (kept.front.over run.first
              (subst (λ (o : Option ℕ). IfSome o (λ last. last < run.first)) (sym last_is) (stands-beyond l run s))
              (subst (λ (o : Option ℕ). IsSomeAnd o (λ front. run.first ≤ front)) (sym front_is) upto)
              (inside run.first (sym (available-contents run.first parts.window.packets) ∙ first_there))))
        ] where
          none_media : HeldPiece codec (packets_of parts)
              (λ p. (p.packet.marker ≡ true) ↔ (p.number ≡ run.last)) run.first →
              IsSomeAnd (at run.first (packets_of parts)) (λ content. is_no_media content ≡ true) → ⊥
          none_media p h = by (at run.first (packets_of parts)) refl h where
            by : (o : Option Content) → at run.first (packets_of parts) ≡ o →
                IsSomeAnd o (λ content. is_no_media content ≡ true) → ⊥
            by None is g = g
            by (Some content) is g = piece-media codec (packets_of parts) run.first p.piece content p.is is g

        beyond : (o : Option ℕ) → parts.front ≡ o → (run : Run) →
            IsRunBy codec (place_at parts.window.packets) (is_start parts.front (began_after_end times)) (packets_of parts) run →
            stands parts.last_pulled run ≡ true → stands parts.front run ≡ true
        beyond None front_is run r s = ap (λ (o : Option ℕ). stands o run) front_is
        beyond (Some front) front_is run r s = ap (λ (o : Option ℕ). stands o run) front_is
            ∙ beyond-stands front run (media front front_is run r parts.last_pulled refl s)

  module _ (settings : Settings) (codec : Meaning) (h : List Event) where
    -- the machine's runs that stand are those of the parts
    pub standing_runs-kept : (parts : Assembly) → StandsIn codec parts (snapshots settings codec h) →
        IsKept codec parts → is_sorted nat_cmp parts.window.packets ≡ true
        → ((m : ℕ) → is_available m parts.window.packets ≡ true → is_inside parts.window.newest m ≡ true)
        → (latest (snapshots settings codec h)).standing
        ≡ standing_runs codec (place_at parts.window.packets) parts.front parts.known (packets_of parts)
    standing_runs-kept parts stood kept sorted inside =
        settled-always settings codec h
        ∙ ap (λ (o : Option ℕ). standing_of codec s.told (times (snapshots settings codec h)) o
        (last_pulled s.pulled) s.window.packets) (sym stood.front)
        ∙ ap (λ (o : Option ℕ). standing_of codec s.told (times (snapshots settings codec h)) parts.front o
        s.window.packets) (sym stood.last_pulled)
        ∙ ap (λ ps. standing_of codec s.told (times (snapshots settings codec h)) parts.front parts.last_pulled ps)
        (sym packets_are)
        ∙ sym (standing_runs-same codec parts s.told (times (snapshots settings codec h)) kept sorted inside
        (stood.known.began ∙ sym
        (ap (λ ps. filter (began_after_end (times (snapshots settings codec h))) (numbers_of ps)) packets_are))
        (λ n there. stood.places.places n (ap (is_available n) (sym packets_are) ∙ there))) where
          s : Snapshot
          s = latest (snapshots settings codec h)

          packets_are : packets_of parts ≡ s.window.packets
          packets_are = ap (λ (w : Contents Content). w.packets) stood.window

    -- the machine's next run is told as the next of the parts
    pub next-told : (parts : Assembly) → StandsIn codec parts (snapshots settings codec h) → IsKept codec parts →
        is_sorted nat_cmp parts.window.packets ≡ true
        → ((m : ℕ) → is_available m parts.window.packets ≡ true → is_inside parts.window.newest m ≡ true)
        → (next_of (sightings (latest (snapshots settings codec h)).told)
        (map summary_of (latest (snapshots settings codec h)).pulled) parts.front parts.frames
        ≡ option_map summary_of (next_run (latest (snapshots settings codec h))))
        × (next_run (latest (snapshots settings codec h))
        ≡ find (λ run. is_deliverable (sightings (latest (snapshots settings codec h)).told)
        (map summary_of (latest (snapshots settings codec h)).pulled) parts.front (summary_of run))
        (standing_runs codec (place_at parts.window.packets) parts.front parts.known (packets_of parts)))
    next-told parts stood kept sorted inside = (
      ap (next_of (sightings s.told) (map summary_of s.pulled) parts.front) kept.frames
          ∙ answer-told s.told s.pulled parts.front
          (standing_runs codec (place_at parts.window.packets) parts.front parts.known (packets_of parts)) rises all
          ∙ ap (option_map summary_of) (sym machine),
      machine ∙ answer-find s.told s.pulled parts.front
          (standing_runs codec (place_at parts.window.packets) parts.front parts.known (packets_of parts)) rises all,
    ) where
      s : Snapshot
      s = latest (snapshots settings codec h)

      rises : Rises first_of (standing_runs codec (place_at parts.window.packets) parts.front parts.known (packets_of parts))
      rises = known-rises rise codec (place_at parts.window.packets) parts.front parts.known (packets_of parts)
          (sorted-contents parts.window.packets sorted)

      all : AllByRecursion (λ run. stands (last_pulled s.pulled) run ≡ true)
          (standing_runs codec (place_at parts.window.packets) parts.front parts.known (packets_of parts))
      all = all-of (λ run. stands (last_pulled s.pulled) run ≡ true)
          (standing_runs codec (place_at parts.window.packets) parts.front parts.known (packets_of parts))
          (λ run there. sym (ap (λ o. stands o run) stood.last_pulled)
          ∙ stands-last parts.last_pulled parts.front run kept.front.ahead
          (filter-from (stands parts.front)
          (runs_by codec (place_at parts.window.packets) (is_start parts.front (is_among parts.known.began))
          (known_packets parts.known (packets_of parts))) run there).1)

      machine : next_run s ≡ answer s.told s.pulled parts.front
          (standing_runs codec (place_at parts.window.packets) parts.front parts.known (packets_of parts))
      machine = ap (λ (o : Option ℕ). answer s.told s.pulled o s.standing) (sym stood.front)
          ∙ ap (answer s.told s.pulled parts.front) (standing_runs-kept parts stood kept sorted inside)

    -- a packet was taken
    module _ (before after : Assembly) (n : ℕ) (held : Held) (made : List Repair) (moment : ℕ)
        (stood : StandsIn codec before (snapshots settings codec h))
        (kept : IsKept codec before) (sorted : is_sorted nat_cmp before.window.packets ≡ true)
        (inside : (m : ℕ) → is_available m before.window.packets ≡ true → is_inside before.window.newest m ≡ true)
        (fresh : would_of before.window n ≡ Fresh) (sound : IsSound codec held)
        (beside : IsPlacedBeside before.pictures held)
        (plan : IsPlan (source_in settings codec) n held before.window made)
        (taken : IsTakenAs codec before after n held made)
        (kept' : IsKept codec after) (sorted' : is_sorted nat_cmp after.window.packets ≡ true)
        (inside' : (m : ℕ) → is_available m after.window.packets ≡ true → is_inside after.window.newest m ≡ true)
      where
        abbrev source : Source
        source = source_in settings codec

        abbrev now : Snapshot
        now = latest (snapshots settings codec h)

        abbrev top : ℕ
        top = newest_with before.window.newest n

        -- the window in which the packet is placed, as the machine has it, and its repairs
        abbrev here : Contents Content
        here = after_placing n (content_of held) now.window

        abbrev made_are : List (ℕ × Content)
        made_are = repairs_in source here

        here_is : placed n held before.window ≡ here
        here_is = contents_of-after_placing before.window n held ∙ ap (after_placing n (content_of held)) stood.window

        entries_are : entries_of made ≡ made_are
        entries_are = plan.repairs ∙ ap (repairs_in source) here_is

        abbrev then : Snapshot
        then = after_datagram source (snapshots settings codec h) moment (Ok (n, content_of held))

        repaired : IsRepaired source made_are here (contents_of after.window)
        repaired = subst (λ w. IsRepaired source (repairs_in source w) w (contents_of after.window)) here_is
            (taken.repaired source plan)

        window_is : contents_of after.window ≡ with_repaired made_are here
        window_is = λ i. record {
          newest = repaired.newest i;
          first = repaired.first i;
          packets = repaired.packets i;
          dead = repaired.dead i;
        }

        packets_are : packets_of after ≡ (with_repaired made_are here).packets
        packets_are = repaired.packets

        came_in : Came before.window after.window n held made top
        came_in = subst (λ (w : Contents Held). Came before.window w n held made top) (sym taken.window)
            (came source before.window n held made (pictures_with before.pictures held) sorted inside fresh plan)

        before_are : packets_of before ≡ now.window.packets
        before_are = ap (λ (w : Contents Content). w.packets) stood.window

        told_is : then.told ≡ told_with codec ((n, content_of held) ∷ entries_of made) now.told
        told_is = sym (ap (λ rs. told_with codec ((n, content_of held) ∷ rs) now.told) entries_are)

        places_were : (m : ℕ) → is_available m before.window.packets ≡ true →
            place_at before.window.packets m ≡ place_told now.told m
        places_were m there = stood.places.places m (ap (is_available m) (sym before_are)
            ∙ available-contents m before.window.packets ∙ there)

        told_were : (m : ℕ) → is_some (place_told now.told m) ≡ true →
            (is_available m before.window.packets ≡ true) ⊎ (is_too_old before.window.newest m ≡ true)
        told_were m is = elim (told-always settings codec h m is) [
          | inl there ↦ inl (sym (available-contents m before.window.packets) ∙ ap (is_available m) before_are ∙ there)
          | inr old ↦ inr (ap (λ (w : Contents Content). is_too_old w.newest m) stood.window ∙ old)
        ]

        tell : AreTold top after.window after.pictures
            (told_with codec ((n, content_of held) ∷ entries_of made) now.told)
        tell = subst (λ (w : Contents Held). AreTold top w after.pictures
            (told_with codec ((n, content_of held) ∷ entries_of made) now.told)) (sym taken.window)
            (subst (λ (o : Option ℕ). AreTold top (window_after made (pictures_with before.pictures held)
            (after_placing n held before.window)) o (told_with codec ((n, content_of held) ∷ entries_of made) now.told))
            (sym taken.pictures)
            (all-are-told source before.window n held made before.pictures sorted inside fresh plan now.told beside sound
            stood.places.newest places_were told_were (pictures_with before.pictures held) refl))

        -- and the finder is told the same
        seen_are : with_sightings after.window.packets (n ∷ repair_numbers made) (sightings now.told)
            ≡ sightings then.told
        seen_are = ap (λ (w : Contents Held). with_sightings w.packets (n ∷ repair_numbers made) (sightings now.told))
            taken.window
            ∙ all-are-seen source before.window n held made before.pictures sorted inside fresh plan now.told beside
            sound stood.places.newest places_were told_were (pictures_with before.pictures held) refl
            ∙ sym (ap sightings told_is)

        places_are : KnowsPlaces after then
        places_are = record {
          newest = tell.newest ∙ sym (ap newest_picture told_is);
          places = λ m there. tell.places m (sym (available-contents m after.window.packets)
              ∙ ap (is_available m) packets_are ∙ there) ∙ sym (ap (λ told. place_told told m) told_is);
        }

        front_is : after.front ≡ front_after now.front (last_pulled now.pulled) (packets_of after)
        front_is = taken.front ∙ ap (λ (o : Option ℕ). front_after o before.last_pulled (packets_of after)) stood.front
            ∙ ap (λ (o : Option ℕ). front_after now.front o (packets_of after)) stood.last_pulled

        -- a number that is fresh never stood right after the end of a frame
        never : (m : ℕ) → is_available m now.window.packets ≡ false → in_window top m ≡ true →
            began_after_end (times (snapshots settings codec h)) m ≡ false
        never m missing in_top =
            never-began now.window (times (snapshots settings codec h)) m (remembers settings codec h) missing
            (sym (ap (λ (w : Contents Content). is_too_old w.newest m) stood.window)
            ∙ young before.window.newest in_top) where
              young : (o : Option ℕ) → in_window (newest_with o n) m ≡ true → is_too_old o m ≡ false
              young None w = refl
              young (Some k) w =
                  let order = window-order (newest_with (Some k) n) m w in
                  let less : newest_with (Some k) n < m + WINDOW = order.0 in
                  lt-leb (m + WINDOW) k (omega arith)

        absent : (m : ℕ) → is_available m (packets_of before) ≡ false → is_available m now.window.packets ≡ false
        absent m missing = ap (is_available m) (sym before_are) ∙ missing

        nevers : (packets : Packets) (rs : List (ℕ × Content)) → AreGaps top packets rs
            → ((m : ℕ) → is_available m packets ≡ false → in_window top m ≡ true →
            is_available m (packets_of before) ≡ false)
            → NeverBegan codec top before.front (times (snapshots settings codec h)) rs
        nevers packets [] gaps away = tt
        nevers packets (r ∷ rs) gaps away = (
          never r.0 (absent r.0 (away r.0 gaps.0 gaps.1)) gaps.1,
          nevers (with_repair r packets) rs gaps.2 (λ m missing in_top. away m (gone m missing) in_top),
        ) where
          gone : (m : ℕ) → is_available m (with_repair r packets) ≡ false → is_available m packets ≡ false
          gone m missing = elim (cases_eq m r.0) [
            | inl same ↦ absurd (true≢false (sym (ap is_some (at_put-here r.0 r.1 packets))
                ∙ ap (λ k. is_available k (with_repair r packets)) (sym same) ∙ missing))
            | inr apart ↦ sym (ap is_some (at_put-other m r.0 r.1 packets apart)) ∙ missing
          ]

        abbrev entries : Packets
        entries = entries_with top n (content_of held) (packets_of before)

        still : (m : ℕ) → is_available m entries ≡ false → in_window top m ≡ true →
            is_available m (packets_of before) ≡ false
        still m missing in_top = elim (cases_eq m n) [
          | inl same ↦ ap (λ k. is_available k (packets_of before)) same
              ∙ available-contents n before.window.packets ∙ came_in.missing
          | inr apart ↦ sym (ap is_some (at_put-other m n (content_of held)
              (where_key nat_cmp (in_window top) (packets_of before)) apart
              ∙ at_where-yes (in_window top) m (packets_of before) in_top)) ∙ missing
        ]

        began_is : after.known.began
            ≡ filter (began_after_end (packets_of after ∷ times (snapshots settings codec h))) (numbers_of (packets_of after))
        began_is =
            ap (λ (k : Known). k.began) (taken.known
            ∙ ap (λ (o : Option ℕ). known_all codec o before.front (packets_of after) (n ∷ repair_numbers made) before.known)
            came_in.newest
            ∙ ap (λ ps. known_all codec (Some top) before.front ps (n ∷ repair_numbers made) before.known) came_in.final
            ∙ ap (λ ns. known_all codec (Some top) before.front (with_repairs (entries_of made) entries) (n ∷ ns)
            before.known) (numbers-made made))
            ∙ recall-then codec top before.front (times (snapshots settings codec h)) (packets_of before) n
            (content_of held) (entries_of made) before.known (sorted-contents before.window.packets sorted) kept.arrivals
            came_in.within came_in.gaps (available-contents n before.window.packets ∙ came_in.missing)
            (stood.known.began
            ∙ sym (ap (λ ps. filter (began_after_end (times (snapshots settings codec h))) (numbers_of ps)) before_are))
            (never n (absent n (available-contents n before.window.packets ∙ came_in.missing))
            (fresh-inside before.window.newest n (fresh-parts before.window n fresh).0))
            (nevers entries (entries_of made) came_in.gaps still)
            ∙ sym (ap (λ ps. filter (began_after_end (ps ∷ times (snapshots settings codec h))) (numbers_of ps))
            came_in.final)

        pub stands-taken : StandsIn codec after (then ∷ snapshots settings codec h)
        stands-taken = record {
          window = window_is;
          places = places_are;
          known = record {
            arrivals = kept'.arrivals ∙ ap (shapes_of codec) packets_are;
            began = began_is ∙ ap (λ ps. filter (began_after_end (ps ∷ times (snapshots settings codec h))) (numbers_of ps))
                packets_are;
          };
          finder = subst (λ ss. Knows after.finder ss (map summary_of now.pulled)) seen_are
              (taken.finder (sightings now.told) (map summary_of now.pulled) stood.finder);
          frames = kept'.frames
              ∙ ap (map summary_of) (standing_runs-same codec after then.told
              (packets_of after ∷ times (snapshots settings codec h)) kept' sorted' inside' began_is
              (λ m there. places_are.places m (ap (is_available m) (sym packets_are) ∙ there)))
              ∙ ap (λ (o : Option ℕ). map summary_of
              (standing_of codec then.told (packets_of after ∷ times (snapshots settings codec h)) after.front o
              (packets_of after))) (taken.last_pulled ∙ stood.last_pulled)
              ∙ ap (λ (o : Option ℕ). map summary_of
              (standing_of codec then.told (packets_of after ∷ times (snapshots settings codec h)) o
              (last_pulled now.pulled) (packets_of after))) front_is
              ∙ ap (λ ps. map summary_of
              (standing_of codec then.told (ps ∷ times (snapshots settings codec h))
              (front_after now.front (last_pulled now.pulled) ps) (last_pulled now.pulled) ps)) packets_are;
          last_pulled = taken.last_pulled ∙ stood.last_pulled;
          front = front_is ∙ ap (front_after now.front (last_pulled now.pulled)) packets_are;
        }

    -- a run was handed out
    pub stands-pulled : RunsApart → (before after : Assembly) (told : RunSummary) (moment : ℕ) →
        StandsIn codec before (snapshots settings codec h)
        → IsKept codec before → is_sorted nat_cmp before.window.packets ≡ true →
        ((m : ℕ) → is_available m before.window.packets ≡ true → is_inside before.window.newest m ≡ true)
        → next_of (sightings (latest (snapshots settings codec h)).told)
        (map summary_of (latest (snapshots settings codec h)).pulled) before.front before.frames ≡ Some told
        → IsPulledAs before after told → IsKept codec after
        → IsNext codec before after (snapshots settings codec h) moment told
    stands-pulled apart before after told moment stood kept sorted inside is pulled kept' = record {
      run = next.0;
      next_is = next.1;
      told_is = next.2;
      is_run = is_run.0;
      only = λ other r same.
          let first_is : other.first ≡ next.0.first = ap (λ (t : RunSummary). t.first) (same ∙ sym next.2) in
          let some : next.0.first ≤ next.0.last = (is_run.0).not_empty in
          let some' : other.first ≤ other.last = r.not_empty in
          apart codec (place_at before.window.packets) (is_start before.front (is_among before.known.began))
          (packets_of before) other next.0 next.0.first r is_run.0 (omega arith, omega arith) (omega arith, some);
      stands = record {
        window = ap contents_of pulled.window ∙ stood.window;
        places = record {
          newest = pulled.pictures ∙ stood.places.newest;
          places = places_are;
        };
        known = record {
          arrivals = ap (λ (k : Known). k.arrivals) pulled.known ∙ stood.known.arrivals;
          began = began_is;
        };
        finder = subst (λ (t : RunSummary). Knows after.finder (sightings (latest (snapshots settings codec h)).told)
            (t ∷ map summary_of (latest (snapshots settings codec h)).pulled)) (sym next.2)
            (pulled.finder (sightings (latest (snapshots settings codec h)).told)
            (map summary_of (latest (snapshots settings codec h)).pulled) carried stood.finder);
        frames = kept'.frames
            ∙ ap (map summary_of) (standing_runs-same codec after (latest (snapshots settings codec h)).told
            (packets_of before ∷ times (snapshots settings codec h)) kept'
            (ap (λ (w : Contents Held). is_sorted nat_cmp w.packets) pulled.window ∙ sorted)
            (subst (λ (w : Contents Held). (m : ℕ) → is_available m w.packets ≡ true → is_inside w.newest m ≡ true)
            (sym pulled.window) inside)
            (ap (λ (k : Known). k.began) pulled.known ∙ stood.known.began
            ∙ sym (ap (λ (test : ℕ → Bool).
            filter test (numbers_of (latest (snapshots settings codec h)).window.packets))
            (began-again (snapshots settings codec h)))
            ∙ sym (ap (λ ps. filter (began_after_end (ps ∷ times (snapshots settings codec h))) (numbers_of ps))
            before_are)
            ∙ sym (ap (λ ps. filter (began_after_end (packets_of before ∷ times (snapshots settings codec h)))
            (numbers_of ps)) after_are))
            (λ m there. places_are m (ap (is_available m) (sym (after_are ∙ before_are)) ∙ there)))
            ∙ ap (λ (o : Option ℕ). map summary_of
            (standing_of codec (latest (snapshots settings codec h)).told (packets_of before ∷ times (snapshots settings codec h)) after.front o
            (packets_of after))) last_is
            ∙ ap (λ (o : Option ℕ). map summary_of
            (standing_of codec (latest (snapshots settings codec h)).told (packets_of before ∷ times (snapshots settings codec h)) o (Some next.0.last)
            (packets_of after))) front_is
            ∙ ap (λ ps. map summary_of
            (standing_of codec (latest (snapshots settings codec h)).told (packets_of before ∷ times (snapshots settings codec h))
            (front_after (latest (snapshots settings codec h)).front (Some next.0.last)
            (latest (snapshots settings codec h)).window.packets) (Some next.0.last) ps)) after_are
            ∙ ap (λ ps. map summary_of
            (standing_of codec (latest (snapshots settings codec h)).told (ps ∷ times (snapshots settings codec h))
            (front_after (latest (snapshots settings codec h)).front (Some next.0.last)
            (latest (snapshots settings codec h)).window.packets) (Some next.0.last) ps)) before_are;
        last_pulled = last_is;
        front = front_is;
      };
    } where
      both : (next_of (sightings (latest (snapshots settings codec h)).told)
          (map summary_of (latest (snapshots settings codec h)).pulled) before.front before.frames
          ≡ option_map summary_of (next_run (latest (snapshots settings codec h))))
          × (next_run (latest (snapshots settings codec h))
          ≡ find (λ run. is_deliverable (sightings (latest (snapshots settings codec h)).told)
          (map summary_of (latest (snapshots settings codec h)).pulled) before.front (summary_of run))
          (standing_runs codec (place_at before.window.packets) before.front before.known (packets_of before)))
      both = next-told before stood kept sorted inside

      next : (run : Run) × (next_run (latest (snapshots settings codec h)) ≡ Some run) × (summary_of run ≡ told)
      next = map-some summary_of (next_run (latest (snapshots settings codec h))) told (sym both.0 ∙ is)

      is_run : IsRunBy codec (place_at before.window.packets) (is_start before.front (is_among before.known.began))
          (packets_of before) next.0 × (stands before.front next.0 ≡ true)
      is_run = standing-from are codec (place_at before.window.packets) before.front (is_start before.front (is_among before.known.began))
          (packets_of before) next.0
          (subst (λ runs. Contains runs next.0)
          (standing_runs-whole codec (place_at before.window.packets) before.front before.known (packets_of before) kept.arrivals)
          (find-among (λ run. is_deliverable (sightings (latest (snapshots settings codec h)).told)
          (map summary_of (latest (snapshots settings codec h)).pulled) before.front (summary_of run))
          (standing_runs codec (place_at before.window.packets) before.front before.known (packets_of before)) next.0
          (sym both.1 ∙ next.1)).0)

      places_are : (n : ℕ) → is_available n (latest (snapshots settings codec h)).window.packets ≡ true →
          place_at after.window.packets n ≡ place_told (latest (snapshots settings codec h)).told n
      places_are n there = ap (λ (w : Contents Held). place_at w.packets n) pulled.window
          ∙ stood.places.places n there

      before_are : packets_of before ≡ (latest (snapshots settings codec h)).window.packets
      before_are = ap (λ (w : Contents Content). w.packets) stood.window

      after_are : packets_of after ≡ packets_of before
      after_are = ap (λ (w : Contents Held). contents w.packets) pulled.window

      -- the picture of the run was told
      carried : was_carried (sightings (latest (snapshots settings codec h)).told) told.layers ≡ true
      carried = ap (was_carried (sightings (latest (snapshots settings codec h)).told))
          (sym (ap (λ (t : RunSummary). t.layers) next.2) ∙ (is_run.0).layers
          ∙ stood.places.places next.0.first (ap (is_available next.0.first) (sym before_are)
          ∙ run-available codec (place_at before.window.packets)
          (is_start before.front (is_among before.known.began)) (packets_of before) next.0 next.0.first is_run.0
          (omega arith) (is_run.0).not_empty))
          ∙ place-carried (latest (snapshots settings codec h)).told next.0.first

      last_is : after.last_pulled ≡ Some next.0.last
      last_is = pulled.last_pulled ∙ sym (ap (λ (t : RunSummary). Some t.last) next.2)

      front_is : after.front ≡ front_after (latest (snapshots settings codec h)).front (Some next.0.last)
          (latest (snapshots settings codec h)).window.packets
      front_is = pulled.front ∙ sym
          (ap (λ (t : RunSummary). front_after before.front (Some t.last) (packets_of before)) next.2)
          ∙ ap (λ (o : Option ℕ). front_after o (Some next.0.last) (packets_of before)) stood.front
          ∙ ap (front_after (latest (snapshots settings codec h)).front (Some next.0.last)) before_are

      began_is : after.known.began ≡ filter
          (began_after_end ((latest (snapshots settings codec h)).window.packets ∷ times
          (snapshots settings codec h))) (numbers_of (latest (snapshots settings codec h)).window.packets)
      began_is = ap (λ (k : Known). k.began) pulled.known ∙ stood.known.began
          ∙ sym (ap (λ (test : ℕ → Bool).
          filter test (numbers_of (latest (snapshots settings codec h)).window.packets))
          (began-again (snapshots settings codec h)))

    -- nothing was due
    pub stands-none : (parts : Assembly) → StandsIn codec parts (snapshots settings codec h)
        → IsKept codec parts → is_sorted nat_cmp parts.window.packets ≡ true →
        ((m : ℕ) → is_available m parts.window.packets ≡ true → is_inside parts.window.newest m ≡ true)
        → next_of (sightings (latest (snapshots settings codec h)).told)
        (map summary_of (latest (snapshots settings codec h)).pulled) parts.front parts.frames ≡ None → next_run (latest (snapshots settings codec h)) ≡ None
    stands-none parts stood kept sorted inside none =
        map-none summary_of (next_run (latest (snapshots settings codec h)))
        (sym (next-told parts stood kept sorted inside).0 ∙ none)
