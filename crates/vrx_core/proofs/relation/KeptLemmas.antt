-- What always holds of the parts, whatever came: each event keeps it.
use Rattle.std.proofs.Common.{◌≡◌, ℕ, ◌+◌, ◌*◌, ◌<◌, ◌≤◌, ◌⊎◌, true, List, [], map, Contains, Option, None, Some, IfSome, refl, sym, ◌∙◌, ap, subst, arith, inl, inr}
use Rattle.std.specs.Prelude.{nat_le}
use Rattle.std.specs.List.{filter}
use Rattle.std.specs.Ordering.{nat_cmp}
use Rattle.std.specs.FinMap.Entries.{is_sorted}
use Rattle.vrx_num.specs.declared.limits.TheConstants.{HALF_PICTURES, HALF_SPACE, MOST_EVENTS, PICTURES, WINDOW}
use Rattle.vrx_codec.specs.Meaning.{Meaning}
use Rattle.vrx_codec.specs.declared.run.Place.{Place}
use Rattle.vrx_codec.specs.declared.run.Run.{Run as RunSummary}
use Rattle.vrx_window.specs.Content.{contents}
use Rattle.vrx_window.specs.Sound.{AreSound, place_at}
use Rattle.vrx_window.specs.Window.{Contents, is_available, is_inside, nothing}
use Rattle.vrx_window.specs.declared.held.Held.{Held}
use Rattle.vrx_frames.specs.Completed.{IsUpTo, Known, is_among, nothing_known}
use Rattle.vrx_frames.specs.Front.{front_after}
use Rattle.vrx_frames.specs.IsRun.{IsRunBy, RunsApart, RunsAre, RunsRise}
use Rattle.vrx_frames.specs.Run.{Run, is_start, stands, stands_after_end, summary_of}
use Rattle.vrx_repair.specs.declared.repair.Repair.{Repair}
use Rattle.vrx_buffer.specs.Frames.{runs_from}
use Rattle.vrx_core.specs.relation.StandsFor.{Assembly, shapes_of}
use Rattle.vrx_core.specs.inside.Step.{IsKept, IsPulledAs, IsTakenAs, frames_in, packets_of}
use Rattle.vrx_core.proofs.relation.ListLemmas.{filter-map, map-from}
use Rattle.vrx_core.proofs.relation.RunMoveLemmas.{standing-by, standing-from, stands-beyond}
use Rattle.vrx_core.proofs.relation.FrontLemmas.{GoesOn}
use Rattle.vrx_core.proofs.relation.WindowLemmas.{available-contents, sorted-contents}
use Rattle.vrx_core.proofs.relation.AddLemmas.{first_told}
use Rattle.vrx_core.proofs.relation.StandLemmas.{standing-goes, standing-pulled}
use Rattle.vrx_core.proofs.relation.FrontKeptLemmas.{IsFrontOf, front-goes, front-kept, front-of, front-pulled, front-taken, goes-upto, of-front, upto-trans}
use Rattle.vrx_core.proofs.relation.TakenLemmas.{standing_runs-whole}
use Rattle.vrx_core.proofs.relation.GrowLemmas.{Grows, KnowsAll}

-- the bound of the newest number grows with the events
abbrev Reaches : ℕ → Option ℕ → Type 0
Reaches events newest = IfSome newest (λ newest. (65536 ≤ newest) × (newest ≤ 131072 + HALF_SPACE * events))

reaches-more : (events events' : ℕ) (newest : Option ℕ) → events ≤ events' → Reaches events newest →
    Reaches events' newest
reaches-more events events' None more reach = tt
reaches-more events events' (Some newest) more reach = (reach.0, omega (arith, reach.1))

-- and so does that of the newest picture
abbrev pub RoomFor : ℕ → Option ℕ → Type 0
RoomFor events pictures = IfSome pictures (λ picture. picture ≤ PICTURES * 2 + HALF_PICTURES * (WINDOW + 1) * events)

room-more : (events events' : ℕ) (pictures : Option ℕ) → events ≤ events' → RoomFor events pictures →
    RoomFor events' pictures
room-more events events' None more room = tt
room-more events events' (Some picture) more room = omega (arith, room)

-- a new engine's parts
pub kept-new : (codec : Meaning) (parts : Assembly) → parts.events ≡ 0 → parts.window ≡ nothing →
    parts.pictures ≡ None → parts.known ≡ nothing_known → parts.frames ≡ []
    → parts.last_pulled ≡ None → parts.front ≡ None → IsKept codec parts
kept-new codec parts events window pictures known frames last front = record {
  few = omega arith;
  reach = subst (λ (w : Contents Held). Reaches parts.events w.newest) (sym window) tt;
  sound = subst (λ (w : Contents Held). AreSound codec w.packets) (sym window) (λ n held is. absurd (cc));
  room = subst (RoomFor parts.events) (sym pictures) tt;
  arrivals = ap (λ (k : Known). k.arrivals) known ∙ sym (ap (shapes_of codec) empty);
  newest = ap (λ (k : Known). k.newest) known ∙ sym (ap (λ (w : Contents Held). w.newest) window);
  passed = subst (λ (k : Known). IsUpTo k.passed parts.front) (sym known) tt;
  front = of-front parts (subst (λ (l : Option ℕ). IsFrontOf l parts.front parts.window.newest (packets_of parts))
      (sym last)
      (subst (λ (f : Option ℕ). IsFrontOf None f parts.window.newest (packets_of parts)) (sym front)
      (record { both = refl; ahead = tt; within = tt; over = λ n later upto inside. absurd upto })));
  behind = λ n stood. absurd (cc (sym (ap (stands_after_end n) empty) ∙ stood));
  frames = frames ∙ sym (ap (λ (w : Contents Held). frames_in codec w parts.front parts.known) window);
} where
  empty : packets_of parts ≡ []
  empty = ap (λ (w : Contents Held). contents w.packets) window

module _ (are : RunsAre) (rise : RunsRise) where
  -- a packet was taken
  pub kept-taken : (codec : Meaning) (before after : Assembly) (n : ℕ) (held : Held) (made : List Repair)
      → IsKept codec before → IsTakenAs codec before after n held made → (top : ℕ) → after.window.newest ≡ Some top
      → Grows (packets_of before) (packets_of after) before.window.newest top
      → KnowsAll codec (Some top) before.front (packets_of after) [] after.known → AreSound codec after.window.packets
      → after.events ≤ MOST_EVENTS → Reaches after.events after.window.newest → RoomFor after.events after.pictures
      → IsKept codec after
  kept-taken codec before after n held made kept taken top newest_is grows knows sound few reach room = record {
    few = few;
    reach = reach;
    sound = sound;
    room = room;
    arrivals = knows.arrivals;
    newest = knows.newest_is ∙ sym newest_is;
    passed = subst (λ (o : Option ℕ). IsUpTo o after.front) (sym knows.passed_is) passed_on;
    front = of-front after front_kept;
    behind = knows.behind;
    frames = taken.frames ∙ ap (map summary_of)
        (standing_runs-whole codec place before.front after.known (packets_of after) knows.arrivals ∙ moves goes
        ∙ sym (standing_runs-whole codec place after.front after.known (packets_of after) knows.arrivals));
  } where
    place : ℕ → Option Place
    place = place_at after.window.packets

    goes : ((before.front ≡ None) × (after.front ≡ None))
        ⊎ ((f : ℕ) × (before.front ≡ Some f) × GoesOn (packets_of after) f after.front)
    goes = elim (front-goes (packets_of before) (packets_of after) before.window.newest top grows before.last_pulled
        before.front (front-of before kept.front)) [
          | inl none ↦ inl (
            none.1,
            taken.front ∙ ap (λ (l : Option ℕ). front_after before.front l (packets_of after)) none.0,
          )
          | inr some ↦ inr (
            some.0,
            some.1,
            subst (λ (o : Option ℕ). GoesOn (packets_of after) some.0 o) (sym taken.front) some.2,
          )
        ]

    passed_on : IsUpTo before.front after.front
    passed_on = elim goes [
      | inl none ↦ subst (λ (o : Option ℕ). IsUpTo o after.front) (sym none.0) tt
      | inr some ↦ goes-upto (packets_of after) some.0 after.front some.2
          before.front (subst (λ (o : Option ℕ). IsUpTo o (Some some.0)) (sym some.1) (omega arith))
    ]

    front_kept : IsFrontOf after.last_pulled after.front after.window.newest (packets_of after)
    front_kept =
        subst (λ (l : Option ℕ). IsFrontOf l after.front after.window.newest (packets_of after))
        (sym taken.last_pulled)
        (subst (λ (o : Option ℕ). IsFrontOf before.last_pulled o after.window.newest (packets_of after))
        (sym taken.front)
        (subst (λ (o : Option ℕ). IsFrontOf before.last_pulled
        (front_after before.front before.last_pulled (packets_of after)) o (packets_of after)) (sym newest_is)
        (front-taken (packets_of before) (packets_of after) before.window.newest top grows before.last_pulled
        before.front (front-of before kept.front))))

    moves : ((before.front ≡ None) × (after.front ≡ None))
        ⊎ ((f : ℕ) × (before.front ≡ Some f) × GoesOn (packets_of after) f after.front)
        → standing-by codec place before.front (is_start before.front (is_among after.known.began)) (packets_of after)
        ≡ standing-by codec place after.front (is_start after.front (is_among after.known.began)) (packets_of after)
    moves (inl none) =
        ap (λ o. standing-by codec place o (is_start o (is_among after.known.began)) (packets_of after))
        (none.0 ∙ sym none.1)
    moves (inr some) =
        ap (λ o. standing-by codec place o (is_start o (is_among after.known.began)) (packets_of after)) some.1
        ∙ standing-goes are rise codec place (packets_of after) (is_among after.known.began) some.0 after.front
        grows.rises knows.behind some.2

  -- a run was handed out
  pub kept-pulled : RunsApart → (codec : Meaning) (before after : Assembly) (run : RunSummary)
      → IsKept codec before → is_sorted nat_cmp before.window.packets ≡ true →
      ((m : ℕ) → is_available m before.window.packets ≡ true → is_inside before.window.newest m ≡ true)
      → Contains before.frames run → IsPulledAs before after run
      → after.events ≡ before.events + 1 → after.events ≤ MOST_EVENTS → IsKept codec after
  kept-pulled apart codec before after run kept sorted inside is pulled count few = record {
    few = few;
    reach = subst (λ (w : Contents Held). Reaches after.events w.newest) (sym pulled.window)
        (reaches-more before.events after.events before.window.newest (omega arith) kept.reach);
    sound = subst (λ (w : Contents Held). AreSound codec w.packets) (sym pulled.window) kept.sound;
    room = subst (RoomFor after.events) (sym pulled.pictures)
        (room-more before.events after.events before.pictures (omega arith) kept.room);
    arrivals = ap (λ (k : Known). k.arrivals) pulled.known ∙ kept.arrivals ∙ sym (ap (shapes_of codec) packets_are);
    newest = ap (λ (k : Known). k.newest) pulled.known ∙ kept.newest
        ∙ sym (ap (λ (w : Contents Held). w.newest) pulled.window);
    passed = subst (λ (k : Known). IsUpTo k.passed after.front) (sym pulled.known)
        (upto-trans before.known.passed before.front after.front kept.passed passed_on);
    front = of-front after front_is_kept;
    behind = λ m stood. ap (λ (k : Known). is_among k.began m) pulled.known
        ∙ kept.behind m (sym (ap (stands_after_end m) packets_are) ∙ stood);
    frames = pulled.frames
        ∙ ap (runs_from (run.first + 1))
        (kept.frames ∙ ap (map summary_of)
        (standing_runs-whole codec place before.front before.known (packets_of before) kept.arrivals))
        ∙ filter-map summary_of (λ (r : RunSummary). nat_le (run.first + 1) r.first) stood_before
        ∙ ap (λ (k : ℕ). map summary_of (filter (λ r. nat_le (k + 1) r.first) stood_before))
        (sym (ap first_told told_is))
        ∙ ap (map summary_of) (standing-pulled are rise codec place (packets_of before)
        (is_among before.known.began) apart before.front after.front itself.0 sorted' kept.behind itself.1 goes)
        ∙ ap (map summary_of) (sym
        (standing_runs-whole codec place after.front before.known (packets_of before) kept.arrivals))
        ∙ sym (ap (λ (k : Known). frames_in codec before.window after.front k)
        pulled.known)
        ∙ sym (ap (λ (w : Contents Held). frames_in codec w after.front after.known) pulled.window);
  } where
    place : ℕ → Option Place
    place = place_at before.window.packets

    stood_before : List Run
    stood_before = standing-by codec place before.front (is_start before.front (is_among before.known.began))
        (packets_of before)

    packets_are : packets_of after ≡ packets_of before
    packets_are = ap (λ (w : Contents Held). contents w.packets) pulled.window

    sorted' : is_sorted nat_cmp (packets_of before) ≡ true
    sorted' = sorted-contents before.window.packets sorted

    inside' : (m : ℕ) → is_available m (packets_of before) ≡ true → is_inside before.window.newest m ≡ true
    inside' m there = inside m (sym (available-contents m before.window.packets) ∙ there)

    itself : (r : Run) × Contains stood_before r × (summary_of r ≡ run)
    itself = map-from summary_of stood_before run
        (subst (λ frames. Contains frames run)
        (kept.frames ∙ ap (map summary_of)
        (standing_runs-whole codec place before.front before.known (packets_of before) kept.arrivals))
        is)

    told_is : summary_of itself.0 ≡ run
    told_is = itself.2

    is_run : IsRunBy codec place (is_start before.front (is_among before.known.began))
        (packets_of before) itself.0 × (stands before.front itself.0 ≡ true)
    is_run = standing-from are codec place before.front (is_start before.front (is_among before.known.began))
        (packets_of before) itself.0 itself.1

    front_is : after.front ≡ front_after before.front (Some itself.0.last) (packets_of before)
    front_is = pulled.front ∙ ap (λ (r : RunSummary). front_after before.front (Some r.last) (packets_of before))
        (sym told_is)

    goes : GoesOn (packets_of before) itself.0.last after.front
    goes = subst (λ (o : Option ℕ). GoesOn (packets_of before) itself.0.last o) (sym front_is)
        (front-pulled (packets_of before) before.window.newest inside' codec place
        (is_start before.front (is_among before.known.began)) before.front itself.0 is_run.0 is_run.1)

    passed_on : IsUpTo before.front after.front
    passed_on =
        goes-upto (packets_of before) itself.0.last after.front goes before.front (below before.front is_run.1) where
          below : (o : Option ℕ) → stands o itself.0 ≡ true → IsUpTo o (Some itself.0.last)
          below None s = tt
          below (Some old) s = let less : old < itself.0.first = stands-beyond old itself.0 s in
              let within : itself.0.first ≤ itself.0.last = (is_run.0).not_empty in omega arith

    front_is_kept : IsFrontOf after.last_pulled after.front after.window.newest (packets_of after)
    front_is_kept =
        subst (λ (l : Option ℕ). IsFrontOf l after.front after.window.newest (packets_of after))
        (sym (pulled.last_pulled ∙ sym (ap (λ (r : RunSummary). Some r.last) told_is)))
        (subst (λ (o : Option ℕ). IsFrontOf (Some itself.0.last) o after.window.newest (packets_of after))
        (sym front_is)
        (subst (λ (w : Contents Held).
        IsFrontOf (Some itself.0.last) (front_after before.front (Some itself.0.last) (packets_of before)) w.newest
        (contents w.packets)) (sym pulled.window)
        (front-kept (packets_of before) before.window.newest inside' codec place
        (is_start before.front (is_among before.known.began)) before.front itself.0 is_run.0 is_run.1)))
