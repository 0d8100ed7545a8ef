-- One event over the engine's parts, beside the machine.
use Rattle.std.proofs.Common.{◌≡◌, ℕ, ◌+◌, ◌*◌, ◌≤◌, max, List, [], ◌∷◌, map, length, Option, Some, None, IfSome, Result, Ok, Err, refl, sym, subst, ap, ◌∙◌, arith, option_map}
use Rattle.std.specs.Prelude.{◌↔◌, IsErr}
use Rattle.std.proofs.lemmas.Bool.{false≢true}
use Rattle.std.proofs.lemmas.Option.{none-some, same_Some}
use Rattle.vrx_num.specs.declared.limits.TheConstants.{HALF_SPACE}
use Rattle.vrx_codec.specs.Meaning.{Meaning}
use Rattle.vrx_codec.specs.declared.run.Run.{Run as RunSummary}
use Rattle.vrx_window.specs.Content.{Content, contents_of}
use Rattle.vrx_window.specs.Sound.{place_at}
use Rattle.vrx_window.specs.Window.{Contents, after_giving_up}
use Rattle.vrx_window.specs.declared.held.Held.{Held}
use Rattle.vrx_frames.specs.IsRun.{RunsApart, RunsAre, RunsRise}
use Rattle.vrx_frames.specs.Run.{Run, summary_of}
use Rattle.vrx_core.specs.machine.Answers.{AnswersHold, IsLeastDeliverable, NoneDeliverable}
use Rattle.vrx_core.specs.machine.History.{now}
use Rattle.vrx_core.specs.machine.Snapshot.{moved}
use Rattle.vrx_core.specs.machine.Machine.{IfFrame, ToPull, Snapshot, after_datagram, after_pull, after_tick, frame_of, latest, next, next_run, pulled_of, reply, snapshots, source_in, what_of, with_numbers}
use Rattle.vrx_core.specs.machine.Verdict.{verdict}
use Rattle.vrx_buffer.specs.Frames.{next_of}
use Rattle.vrx_core.specs.machine.Told.{sightings}
use Rattle.vrx_core.specs.relation.StandsFor.{Assembly, IsAssembled, StandsIn}
use Rattle.vrx_core.specs.inside.Step.{after_counting}
use Rattle.vrx_core.specs.inside.Fields.{ComesOf, ComesOfPull, IsHandedOut, IsHandled, IsWhole}
use Rattle.vrx_core.specs.declared.settings.Settings.{Settings}
use Rattle.vrx_core.specs.declared.event.Event.{Event}
use Rattle.vrx_core.specs.declared.event.Event.TheVariants.{Datagram, Tick, Pull}
use Rattle.vrx_core.specs.declared.original.NotTaken.{NotTaken}
use Rattle.vrx_core.specs.declared.reply.Frame.{Frame}
use Rattle.vrx_core.specs.declared.reply.Pulled.{Pulled}
use Rattle.vrx_core.specs.declared.reply.Pulled.TheVariants as pulls
use Rattle.vrx_core.specs.inside.Wants.{given_up_all}
use Rattle.vrx_core.specs.declared.assembler.Arrival.{Arrival}
use Rattle.vrx_core.specs.declared.assembler.Outcome.{Outcome}
use Rattle.vrx_core.proofs.machine.MachineLemmas.{snapshots-cons, reply-is}
use Rattle.vrx_core.proofs.step.FieldLemmas.{given-up-is}
use Rattle.vrx_core.proofs.relation.PastLemmas.{IsNext, next-told, stands-after_counting, stands-none, stands-pulled, stands-taken}

-- parts stand for a history with one event more, if they count it and stand in its past
stands-on : (codec : Meaning) (before after : Assembly) (h : List Event) (e : Event) (moment : ℕ) →
    IsAssembled codec before h → after.settings ≡ before.settings
    → after.events ≡ before.events + 1 → after.clock ≡ now (e ∷ h) →
    StandsIn codec after (next before.settings codec (snapshots before.settings codec h) e
    ∷ snapshots before.settings codec h)
    → IsAssembled codec after (e ∷ h)
stands-on codec before after h e moment stands settings events clock past =
    let count : before.events ≡ length h = stands.events in
    record {
      events = omega arith;
      clock = clock;
      stands = subst (λ s. StandsIn codec after (snapshots s codec (e ∷ h))) (sym settings)
          (subst (λ p. StandsIn codec after p) (sym (snapshots-cons before.settings codec e h)) past);
    }

-- what a verdict changes beside the past
comes-settings : (codec : Meaning) (before after : Assembly) (moment : ℕ) (arrival : Option Arrival)
    (v : Result (ℕ × Content) NotTaken) → ComesOf codec before after moment arrival v →
    after.settings ≡ before.settings
comes-settings codec before after moment arrival (Err left) comes = ap (λ (p : Assembly). p.settings) comes.1
comes-settings codec before after moment arrival (Ok (n, content)) comes = comes.2.taken.settings

comes-counts : (codec : Meaning) (before after : Assembly) (moment : ℕ) (arrival : Option Arrival)
    (v : Result (ℕ × Content) NotTaken) → ComesOf codec before after moment arrival v →
    (after.events ≡ before.events + 1) × (after.clock ≡ max before.clock moment)
comes-counts codec before after moment arrival (Err left) comes =
    (ap (λ (p : Assembly). p.events) comes.1, ap (λ (p : Assembly). p.clock) comes.1)
comes-counts codec before after moment arrival (Ok (n, content)) comes = (comes.2.counts.events, comes.2.counts.clock)

comes-refused : (codec : Meaning) (before after : Assembly) (moment : ℕ) (arrival : Option Arrival)
    (v : Result (ℕ × Content) NotTaken) → ComesOf codec before after moment arrival v → IsErr v →
    (arrival ≡ None) × (after ≡ after_counting before moment)
comes-refused codec before after moment arrival (Err left) comes refused = comes
comes-refused codec before after moment arrival (Ok (n, content)) comes refused = absurd (false≢true refused)

pub datagram-settings : (codec : Meaning) (before after : Assembly) (moment : ℕ) (octets : List ℕ)
    (outcome : Outcome) → IsHandled codec before after moment octets outcome → after.settings ≡ before.settings
datagram-settings codec before after moment octets outcome handled =
    comes-settings codec before after moment outcome.arrival
    (verdict before.settings codec (contents_of before.window) octets) handled.comes

pub datagram-counts : (codec : Meaning) (before after : Assembly) (moment : ℕ) (octets : List ℕ) (outcome : Outcome) →
    IsHandled codec before after moment octets outcome →
    (after.events ≡ before.events + 1) × (after.clock ≡ max before.clock moment)
datagram-counts codec before after moment octets outcome handled =
    comes-counts codec before after moment outcome.arrival
    (verdict before.settings codec (contents_of before.window) octets) handled.comes

pub datagram-refused : (codec : Meaning) (before after : Assembly) (moment : ℕ) (octets : List ℕ)
    (outcome : Outcome) → IsHandled codec before after moment octets outcome →
    IsErr (verdict before.settings codec (contents_of before.window) octets) →
    (outcome.arrival ≡ None) × (after ≡ after_counting before moment)
datagram-refused codec before after moment octets outcome handled refused =
    comes-refused codec before after moment outcome.arrival
    (verdict before.settings codec (contents_of before.window) octets) handled.comes refused

-- the newest number has a number far below it
pub newest-beyond : (codec : Meaning) (parts : Assembly) → IsWhole codec parts →
    IfSome parts.window.newest (λ m. HALF_SPACE ≤ m)
newest-beyond codec parts whole = by-cases parts.window.newest whole.kept.reach where
  by-cases : (o : Option ℕ) → IfSome o (λ m. (65536 ≤ m) × (m ≤ 131072 + HALF_SPACE * parts.events)) →
      IfSome o (λ m. HALF_SPACE ≤ m)
  by-cases None reach = tt
  by-cases (Some m) reach = let low : 65536 ≤ m = reach.0 in omega arith

-- the answer to a datagram
pub datagram-what : (codec : Meaning) (before after : Assembly) (moment : ℕ) (octets : List ℕ) (outcome : Outcome)
    (h : List Event) → IsHandled codec before after moment octets outcome → IsAssembled codec before h
    → outcome.what ≡ what_of
    (verdict before.settings codec (latest (snapshots before.settings codec h)).window octets)
datagram-what codec before after moment octets outcome h handled stands =
    handled.answer ∙ ap (λ w. what_of (verdict before.settings codec w octets)) stands.stands.window

-- numbers given up are among the window's
contents-given-up : (ns : List ℕ) (window : Contents Held) →
    contents_of (given_up_all ns window) ≡ record (contents_of window) { dead = with_numbers ns window.dead }
contents-given-up [] window = refl
contents-given-up (n ∷ ns) window = contents-given-up ns (after_giving_up n window)

-- a tick
pub tick-stands : (codec : Meaning) (before after : Assembly) (moment : ℕ) (lost : List ℕ) (h : List Event) →
    after ≡ record (after_counting before moment) { window = given_up_all lost before.window }
    → lost ≡ (after_tick before.settings (snapshots before.settings codec h) moment).lost →
    IsAssembled codec before h → IsAssembled codec after (Tick moment ∷ h)
tick-stands codec before after moment lost h is lost_is stands =
    stands-on codec before after h (Tick moment) moment stands (ap (λ (p : Assembly). p.settings) is)
    (ap (λ (p : Assembly). p.events) is) (ap (λ (p : Assembly). p.clock) is ∙ ap (λ k. max k moment) stands.clock)
    (subst (λ p. StandsIn codec p (after_tick before.settings past moment ∷ past)) (sym is) (record {
      window = contents-given-up lost before.window
          ∙ ap (λ (w : Contents Content). record w { dead = with_numbers lost w.dead }) stands.stands.window
          ∙ ap (λ ns. record (latest past).window { dead = with_numbers ns (latest past).window.dead }) lost_is;
      places = record {
        newest = counts.places.newest;
        places = λ n there. ap (λ (w : Contents Held). place_at w.packets n) (given-up-is lost before.window)
            ∙ counts.places.places n there;
      };
      known = record { arrivals = counts.known.arrivals; began = counts.known.began };
      finder = counts.finder;
      frames = counts.frames;
      last_pulled = counts.last_pulled;
      front = counts.front;
    })) where
      past : List Snapshot
      past = snapshots before.settings codec h

      counts : StandsIn codec (after_counting before moment) (moved (latest past) moment ∷ past)
      counts = stands-after_counting codec before past moment stands.stands

-- what a pull changes beside the past
pull-settings-by : (codec : Meaning) (before after : Assembly) (moment : ℕ) (frame : Option Frame)
    (o : Option RunSummary) → ComesOfPull codec before after moment frame o → after.settings ≡ before.settings
pull-settings-by codec before after moment frame None comes = ap (λ (p : Assembly). p.settings) comes.1
pull-settings-by codec before after moment frame (Some told) comes = comes.3.settings

pub pull-settings : (codec : Meaning) (before after : Assembly) (moment : ℕ) (frame : Option Frame) →
    IsHandedOut codec before after moment frame → after.settings ≡ before.settings
pull-settings codec before after moment frame handed =
    pull-settings-by codec before after moment frame handed.run handed.comes

pull-counts-by : (codec : Meaning) (before after : Assembly) (moment : ℕ) (frame : Option Frame)
    (o : Option RunSummary) → ComesOfPull codec before after moment frame o →
    (after.events ≡ before.events + 1) × (after.clock ≡ max before.clock moment)
pull-counts-by codec before after moment frame None comes =
    (ap (λ (p : Assembly). p.events) comes.1, ap (λ (p : Assembly). p.clock) comes.1)
pull-counts-by codec before after moment frame (Some told) comes = (comes.4.events, comes.4.clock)

pub pull-counts : (codec : Meaning) (before after : Assembly) (moment : ℕ) (frame : Option Frame) →
    IsHandedOut codec before after moment frame →
    (after.events ≡ before.events + 1) × (after.clock ≡ max before.clock moment)
pull-counts codec before after moment frame handed =
    pull-counts-by codec before after moment frame handed.run handed.comes

-- a pull leaves the window
pull-window-by : (codec : Meaning) (before after : Assembly) (moment : ℕ) (frame : Option Frame)
    (o : Option RunSummary) → ComesOfPull codec before after moment frame o → after.window ≡ before.window
pull-window-by codec before after moment frame None comes = ap (λ (p : Assembly). p.window) comes.1
pull-window-by codec before after moment frame (Some told) comes = comes.3.window

pub pull-window : (codec : Meaning) (before after : Assembly) (moment : ℕ) (frame : Option Frame) →
    IsHandedOut codec before after moment frame → after.window ≡ before.window
pull-window codec before after moment frame handed =
    pull-window-by codec before after moment frame handed.run handed.comes

-- a pull's answer, by the frame that is given
abbrev pub pulled_by : Option Frame → Pulled
pulled_by None = pulls.NotReady
pulled_by (Some frame) = pulls.Frame frame

pulled-mapped : (o : Option Run) → pulled_by (option_map frame_of o) ≡ pulled_of o
pulled-mapped None = refl
pulled-mapped (Some run) = refl

-- what a pull comes to beside the machine
pub record IsPull (codec : Meaning) (after : Assembly) (past : List Snapshot) (moment : ℕ)
    (frame : Option Frame) : Type 0 where
  pub stands : StandsIn codec after (after_pull codec past moment (next_run (latest past)) ∷ past)
  pub frame_is : frame ≡ option_map frame_of (next_run (latest past))

pub pull-reply-by : (settings : Settings) (codec : Meaning) (after : Assembly) (moment : ℕ) (frame : Option Frame)
    (h : List Event) → IsPull codec after (snapshots settings codec h) moment frame
    → ToPull (pulled_by frame) ≡ reply settings codec h (Pull moment)
pull-reply-by settings codec after moment frame h pull =
    ap (λ f. ToPull (pulled_by f)) pull.frame_is
    ∙ ap ToPull (pulled-mapped (next_run (latest (snapshots settings codec h))))
    ∙ sym (reply-is settings codec h (Pull moment))

module _ (are : RunsAre) (rise : RunsRise) where
  comes-stands : (codec : Meaning) (h : List Event) (before after : Assembly) (moment : ℕ)
      (arrival : Option Arrival) (v : Result (ℕ × Content) NotTaken) → ComesOf codec before after moment arrival v →
      IsWhole codec before → IsWhole codec after
      → StandsIn codec before (snapshots before.settings codec h) →
      StandsIn codec after (after_datagram (source_in before.settings codec) (snapshots before.settings codec h) moment v
      ∷ snapshots before.settings codec h)
  comes-stands codec h before after moment arrival (Err left) comes whole whole' stands =
      subst (λ p. StandsIn codec p (moved (latest (snapshots before.settings codec h)) moment
      ∷ snapshots before.settings codec h))
      (sym comes.1) (stands-after_counting codec before (snapshots before.settings codec h) moment stands)
  comes-stands codec h before after moment arrival (Ok (n, content)) comes whole whole' stands =
      let t = comes.2 in
      subst (λ (c : Content). StandsIn codec after
      (after_datagram (source_in before.settings codec) (snapshots before.settings codec h) moment (Ok (n, c))
      ∷ snapshots before.settings codec h))
      t.content_is
      (stands-taken are rise before.settings codec h before after n t.held t.made moment stands whole.kept
      whole.window.packets_rise whole.window.packets_inside t.may.fresh t.may.sound t.may.placed t.planned t.taken
      whole'.kept whole'.window.packets_rise whole'.window.packets_inside)

  pub datagram-stands : (codec : Meaning) (before after : Assembly) (moment : ℕ) (octets : List ℕ) (outcome : Outcome)
      (h : List Event) → IsHandled codec before after moment octets outcome → IsWhole codec before →
      IsWhole codec after
      → IsAssembled codec before h → IsAssembled codec after (Datagram moment octets ∷ h)
  datagram-stands codec before after moment octets outcome h handled whole whole' stands =
      let past : List Snapshot = snapshots before.settings codec h in
      let count = datagram-counts codec before after moment octets outcome handled in
      stands-on codec before after h (Datagram moment octets) moment stands
      (datagram-settings codec before after moment octets outcome handled) count.0
      (count.1 ∙ ap (λ k. max k moment) stands.clock)
      (subst (λ (w : Contents Content).
      StandsIn codec after (after_datagram (source_in before.settings codec) past moment
      (verdict before.settings codec w octets) ∷ past))
      stands.stands.window
      (comes-stands codec h before after moment outcome.arrival
      (verdict before.settings codec (contents_of before.window) octets) handled.comes whole whole' stands.stands))

  module _ (apart : RunsApart) where
    pull-by : (settings : Settings) (codec : Meaning) (h : List Event) (before after : Assembly) (moment : ℕ)
        (frame : Option Frame) (o : Option RunSummary) →
        next_of (sightings (latest (snapshots settings codec h)).told)
        (map summary_of (latest (snapshots settings codec h)).pulled) before.front before.frames ≡ o →
        ComesOfPull codec before after moment frame o
        → IsWhole codec before → IsWhole codec after → StandsIn codec before (snapshots settings codec h) →
        IsPull codec after (snapshots settings codec h) moment frame
    pull-by settings codec h before after moment frame None due comes whole whole' stands =
        let past : List Snapshot = snapshots settings codec h in
        let none : next_run (latest past) ≡ None =
        stands-none are rise settings codec h before stands whole.kept whole.window.packets_rise
        whole.window.packets_inside due in
        record {
          stands = subst (λ o. StandsIn codec after (after_pull codec past moment o ∷ past)) (sym none)
              (subst (λ p. StandsIn codec p (moved (latest past) moment ∷ past)) (sym comes.1)
              (stands-after_counting codec before past moment stands));
          frame_is = comes.0 ∙ sym (ap (option_map frame_of) none);
        }
    pull-by settings codec h before after moment frame (Some told) due comes whole whole' stands =
        let past : List Snapshot = snapshots settings codec h in
        let is : IsNext codec before after past moment told =
        stands-pulled are rise settings codec h apart before after told moment stands whole.kept
        whole.window.packets_rise whole.window.packets_inside due comes.3 whole'.kept in
        record {
          stands =
              subst (λ o. StandsIn codec after (after_pull codec past moment o ∷ past)) (sym is.next_is) is.stands;
          frame_is =
              comes.1 ∙ ap Some (comes.2 is.run is.is_run is.told_is) ∙ sym (ap (option_map frame_of) is.next_is);
        }

    pub pull-is : (codec : Meaning) (before after : Assembly) (moment : ℕ) (frame : Option Frame) (h : List Event) →
        IsHandedOut codec before after moment frame → IsWhole codec before → IsWhole codec after →
        IsAssembled codec before h
        → IsPull codec after (snapshots before.settings codec h) moment frame
    pull-is codec before after moment frame h handed whole whole' stands =
        let s : Snapshot = latest (snapshots before.settings codec h) in
        pull-by before.settings codec h before after moment frame handed.run
        (sym (handed.is_next.next (sightings s.told) (map summary_of s.pulled) stands.stands.finder)) handed.comes
        whole whole' stands.stands

    pub pull-stands : (codec : Meaning) (before after : Assembly) (moment : ℕ) (frame : Option Frame)
        (h : List Event) → IsHandedOut codec before after moment frame → IsWhole codec before → IsWhole codec after →
        IsAssembled codec before h
        → IsAssembled codec after (Pull moment ∷ h)
    pull-stands codec before after moment frame h handed whole whole' stands =
        let count = pull-counts codec before after moment frame handed in
        let pull : IsPull codec after (snapshots before.settings codec h) moment frame =
        pull-is codec before after moment frame h handed whole whole' stands in
        stands-on codec before after h (Pull moment) moment stands
        (pull-settings codec before after moment frame handed) count.0
        (count.1 ∙ ap (λ k. max k moment) stands.clock) pull.stands

    pub pull-reply : (codec : Meaning) (before after : Assembly) (moment : ℕ) (frame : Option Frame)
        (h : List Event) → IsHandedOut codec before after moment frame → IsWhole codec before → IsWhole codec after →
        IsAssembled codec before h
        → ToPull (pulled_by frame) ≡ reply before.settings codec h (Pull moment)
    pull-reply codec before after moment frame h handed whole whole' stands =
        pull-reply-by before.settings codec after moment frame h
        (pull-is codec before after moment frame h handed whole whole' stands)

    -- if the next reply is that no frame is ready, no run is next
    pub pull-none : (codec : Meaning) (parts : Assembly) (moment : ℕ) (h : List Event) → IsWhole codec parts →
        IsAssembled codec parts h → reply parts.settings codec h (Pull moment) ≡ ToPull pulls.NotReady →
        next_of (sightings (latest (snapshots parts.settings codec h)).told)
        (map summary_of (latest (snapshots parts.settings codec h)).pulled) parts.front parts.frames ≡ None
    pull-none codec parts moment h whole stands is =
        (next-told are rise parts.settings codec h parts stands.stands whole.kept whole.window.packets_rise
        whole.window.packets_inside).0
        ∙ ap (option_map summary_of) (by (next_run (latest (snapshots parts.settings codec h)))
        (sym (reply-is parts.settings codec h (Pull moment)) ∙ is)) where
          by : (o : Option Run) → ToPull (pulled_of o) ≡ ToPull pulls.NotReady → o ≡ None
          by None e = refl
          by (Some run) e = absurd (ready run e) where
            ready : (run : Run) → ToPull (pulls.Frame (frame_of run)) ≡ ToPull pulls.NotReady → ⊥
            ready run e = cc

    module _ (answers : AnswersHold) where
      -- no frame comes exactly if no run that stands is deliverable
      pub pull-exactly : (codec : Meaning) (before after : Assembly) (moment : ℕ) (frame : Option Frame)
          (h : List Event) → IsHandedOut codec before after moment frame → IsWhole codec before →
          IsWhole codec after → IsAssembled codec before h
          → let s : Snapshot = latest (snapshots before.settings codec h) in
          (pulled_by frame ≡ pulls.NotReady) ↔ NoneDeliverable s.told s.pulled s.front s.standing
      pull-exactly codec before after moment frame h handed whole whole' stands =
          let s : Snapshot = latest (snapshots before.settings codec h) in
          let pull : IsPull codec after (snapshots before.settings codec h) moment frame =
          pull-is codec before after moment frame h handed whole whole' stands in
          let law = (answers s.told s.pulled s.front s.standing).none in (
            λ e. law.0 (none-of (next_run s) frame pull.frame_is e),
            λ none.
                ap pulled_by (pull.frame_is ∙ ap (option_map frame_of) (law.1 none)),
          ) where
            none-of : (o : Option Run) (f : Option Frame) → f ≡ option_map frame_of o → pulled_by f ≡ pulls.NotReady →
                o ≡ None
            none-of None f is e = refl
            none-of (Some run) f is e = absurd (never (sym (ap pulled_by is) ∙ e)) where
              never : ◌≡◌ {A = Pulled} (pulls.Frame (frame_of run)) pulls.NotReady → ⊥
              never e = cc

      -- the frame that comes is that of the least run that is deliverable
      pub pull-frame : (codec : Meaning) (before after : Assembly) (moment : ℕ) (frame : Option Frame)
          (h : List Event) → IsHandedOut codec before after moment frame → IsWhole codec before →
          IsWhole codec after → IsAssembled codec before h
          → let s : Snapshot = latest (snapshots before.settings codec h) in
          IfFrame (pulled_by frame)
          (λ f. (run : Run) × IsLeastDeliverable s.told s.pulled s.front s.standing run × (f ≡ frame_of run))
      pull-frame codec before after moment frame h handed whole whole' stands =
          let s : Snapshot = latest (snapshots before.settings codec h) in
          let pull : IsPull codec after (snapshots before.settings codec h) moment frame =
          pull-is codec before after moment frame h handed whole whole' stands in
          least-of s (next_run s) frame pull.frame_is (answers s.told s.pulled s.front s.standing).some where
            least-of : (s : Snapshot) (o : Option Run) (f : Option Frame) → f ≡ option_map frame_of o →
                IfSome o (λ run. IsLeastDeliverable s.told s.pulled s.front s.standing run)
                → IfFrame (pulled_by f) (λ f. (run : Run)
                × IsLeastDeliverable s.told s.pulled s.front s.standing run × (f ≡ frame_of run))
            least-of s o None is least = tt
            least-of s None (Some f) is least = absurd (none-some f (sym is))
            least-of s (Some run) (Some f) is least = (run, least, same_Some f (frame_of run) is)
