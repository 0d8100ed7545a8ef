-- An engine stands for its history with each event: what it assembles, and what it wants.
use Rattle.std.proofs.Common.{◌≡◌, ℕ, max, Bool, true, not, ◌&&◌, ◌||◌, List, [], ◌∷◌, map, Option, Some, None, is_some, Result, Ok, Err, refl, sym, subst, ap, ◌∙◌}
use Rattle.std.specs.List.{filter}
use Rattle.std.specs.Option.{option_map}
use Rattle.vrx_asks.specs.Asks.{asked_numbers, given_up_numbers}
use Rattle.vrx_asks.specs.IsAsks.{IsAsks}
use Rattle.vrx_codec.specs.Meaning.{Meaning}
use Rattle.vrx_window.specs.Content.{Content, contents_of}
use Rattle.vrx_window.specs.Window.{Contents, after_placing, is_dead, newest_with}
use Rattle.vrx_window.specs.declared.held.Held.{Held}
use Rattle.vrx_frames.specs.IsRun.{RunsApart, RunsAre, RunsRise}
use Rattle.vrx_frames.specs.Run.{Run, is_passed, summary_of}
use Rattle.vrx_repair.specs.Plan.{repairs_in}
use Rattle.vrx_repair.specs.Source.{Source}
use Rattle.vrx_core.specs.machine.GivenUp.{all_lost, numbers_left}
use Rattle.vrx_core.specs.machine.KeyRequest.{completes_key}
use Rattle.vrx_core.specs.machine.Machine.{Snapshot, ToDatagram, ToTick, after_datagram, after_pull, after_tick, frame_of, latest, nack_for, next, next_run, opening, pli_for, reply, snapshots, source_in}
use Rattle.vrx_core.specs.machine.Snapshot.{moved}
use Rattle.vrx_core.specs.machine.Verdict.{verdict}
use Rattle.vrx_buffer.specs.Order.{greatest_of}
use Rattle.vrx_core.specs.relation.StandsFor.{Assembly, IsAssembled, StandsFor, StandsIn, Wanted, WantsIn, parts_of}
use Rattle.vrx_core.specs.inside.Fields.{ComesOf, IsArrival, IsHandedOut, IsHandled, IsTakenWith, IsWhole}
use Rattle.vrx_buffer.specs.Frames.{key_numbers}
use Rattle.vrx_core.specs.inside.Step.{after_counting, lowest_of, pictures_with}
use Rattle.vrx_buffer.specs.Frames.{runs_from}
use Rattle.vrx_core.specs.inside.Wants.{asked_with, asks_key, key_after, is_lost_open, key_with, given_up_all, lost_ticked, needs_key, nothing_wanted, open_after, pulled_with, repaired_with, wanted_pulled, wanted_ticked, wanted_with}
use Rattle.vrx_core.specs.declared.assembler.Arrival.{Arrival}
use Rattle.vrx_core.specs.declared.assembler.Outcome.{Outcome}
use Rattle.vrx_core.specs.declared.event.Event.{Event}
use Rattle.vrx_core.specs.declared.event.Event.TheVariants.{Datagram, Tick, Pull}
use Rattle.vrx_core.specs.declared.original.NotTaken.{NotTaken}
use Rattle.vrx_core.specs.declared.reply.Frame.{Frame}
use Rattle.vrx_core.specs.declared.settings.Settings.{Settings}
use Rattle.vrx_core.proofs.asking.WantsLemmas.{asked-ticked, asks-moved, asks-opening, asks-pulled, asks-taken, asks-ticked, gap-taken, given-up-ticked, lost-arrived, lost-moved, lost-opening, lost-pulled, lost-taken, lost-ticked, passed-pulled}
use Rattle.vrx_core.proofs.keyframes.AnsweredLemmas.{Falls, key_standing, pulled-falls}
use Rattle.vrx_core.proofs.keyframes.CompletesLemmas.{taken-completes}
use Rattle.vrx_core.proofs.keyframes.KeyWantsLemmas.{moved-key_asked, moved-key_pulled, moved-keyed, opening-key_asked, opening-key_pulled, opening-keyed, pulled-key_asked, pulled-key_pulled, pulled-keyed, ticked-asks, ticked-key_asked, ticked-key_pulled, ticked-keyed, taken-asks, taken-key_asked, taken-key_pulled, taken-keyed}
use Rattle.vrx_core.proofs.relation.CameLemmas.{Came, came, left-of, numbers-made}
use Rattle.vrx_core.proofs.relation.GrowLemmas.{numbers_made}
use Rattle.vrx_core.proofs.relation.WindowLemmas.{contents_of-after_placing}
use Rattle.vrx_core.proofs.machine.MachineLemmas.{clock-is, reply-is, snapshots-cons}
use Rattle.vrx_core.proofs.step.EventLemmas.{IsPull, datagram-counts, datagram-settings, datagram-stands, datagram-what, pull-is, pull-settings, pull-stands, tick-stands}

-- a new engine wants nothing
pub wants-opening : WantsIn nothing_wanted (opening ∷ [])
wants-opening = record {
  asks = asks-opening;
  lost = lost-opening;
  key_pulled = opening-key_pulled;
  keyed = opening-keyed;
  key_asked = opening-key_asked;
}

pub stands-opened : (codec : Meaning) (assembly : Assembly) (wanted : Wanted) → IsAssembled codec assembly [] →
    wanted ≡ nothing_wanted → StandsFor codec (parts_of assembly wanted) []
unfolding snapshots
stands-opened codec assembly wanted assembled wanted_is = record {
  assembled = assembled;
  wants = subst (λ w. WantsIn w (opening ∷ [])) (sym wanted_is) wants-opening;
}

-- an event that only moves the clock
pub wants-moved : (wanted : Wanted) (past : List Snapshot) (moment : ℕ) → WantsIn wanted past →
    WantsIn wanted (moved (latest past) moment ∷ past)
wants-moved wanted past moment wants = record {
  asks = asks-moved past moment wanted.asks wants.asks;
  lost = lost-moved past moment wanted.lost wants.lost;
  key_pulled = moved-key_pulled wanted past moment wants.key_pulled;
  keyed = moved-keyed wanted past moment wants.keyed;
  key_asked = moved-key_asked wanted past moment wants.key_asked;
}

-- what an engine wants, after one event more
wants-on : (settings : Settings) (codec : Meaning) (wanted : Wanted) (h : List Event) (e : Event) →
    WantsIn wanted (next settings codec (snapshots settings codec h) e ∷ snapshots settings codec h) →
    WantsIn wanted (snapshots settings codec (e ∷ h))
wants-on settings codec wanted h e wants =
    subst (λ p. WantsIn wanted p) (sym (snapshots-cons settings codec e h)) wants

module _ (are : RunsAre) (rise : RunsRise) (codec : Meaning) (before after : Assembly) (wanted : Wanted) (moment : ℕ)
    (octets : List ℕ) (outcome : Outcome) (h : List Event)
    (handled : IsHandled codec before after moment octets outcome) (whole : IsWhole codec before)
    (whole' : IsWhole codec after) (sound : is_some outcome.arrival ≡ true → IsAsks wanted.asks)
    (stands : StandsFor codec (parts_of before wanted) h) where
  abbrev past : List Snapshot
  past = snapshots before.settings codec h

  -- the keyframe with the greatest first number that stands
  abbrev key : Option ℕ
  key = greatest_of (key_numbers after.frames)

  assembled : IsAssembled codec after (Datagram moment octets ∷ h)
  assembled =
      datagram-stands are rise codec before after moment octets outcome h handled whole whole' stands.assembled

  settings-is : after.settings ≡ before.settings
  settings-is = datagram-settings codec before after moment octets outcome handled

  clock-after : after.clock ≡ max (latest past).now moment
  clock-after = (datagram-counts codec before after moment octets outcome handled).1
      ∙ ap (λ k. max k moment) (stands.assembled.clock ∙ sym (clock-is before.settings codec h))

  -- the source whose packets are repaired
  abbrev source : Source
  source = source_in before.settings codec

  -- what is left, and what it says
  record Comes (s : Snapshot) : Type 0 where
    wants : WantsIn (wanted_with after.clock after.front key outcome.arrival wanted) (s ∷ past)
    asked : asked_with outcome.arrival ≡ s.asked
    key_asked : key_with after.clock key outcome.arrival wanted ≡ s.key_asked
    repaired : repaired_with outcome.arrival ≡ s.repaired

  by-arrival : (arrival : Option Arrival) → outcome.arrival ≡ arrival → (s : Snapshot)
      → WantsIn (wanted_with after.clock after.front key arrival wanted) (s ∷ past) → asked_with arrival ≡ s.asked →
      key_with after.clock key arrival wanted ≡ s.key_asked → repaired_with arrival ≡ s.repaired → Comes s
  by-arrival arrival is s wants asked key_asked repaired = record {
    wants = subst (λ a. WantsIn (wanted_with after.clock after.front key a wanted) (s ∷ past)) (sym is) wants;
    asked = ap asked_with is ∙ asked;
    key_asked = ap (λ a. key_with after.clock key a wanted) is ∙ key_asked;
    repaired = ap repaired_with is ∙ repaired;
  }

  taken-comes : (n : ℕ) (content : Content) (arrival : Arrival) → outcome.arrival ≡ Some arrival →
      IsTakenWith codec before after moment n content arrival
      → StandsIn codec after (after_datagram source past moment (Ok (n, content)) ∷ past) →
      Comes (after_datagram source past moment (Ok (n, content)))
  taken-comes n content arrival is taken stood = by-arrival (Some arrival) is s (record {
    asks = ap (λ k. (wanted_with k after.front key (Some arrival) wanted).asks) clock-after
        ∙ ap (λ f. (wanted_with (max (latest past).now moment) f key (Some arrival) wanted).asks) stood.front
        ∙ asks-taken before.settings codec h moment n content arrival arrives.number_is newest_is repaired_is wanted.asks
        stands.wants.asks asks_sound;
    lost = lost-taken before.settings codec h moment n content arrival arrives.number_is newest_is repaired_is lost_is
        wanted.lost stands.wants.lost;
    key_pulled = taken-key_pulled source past moment n content wanted stands.wants.key_pulled;
    keyed = ap (λ b. wanted.keyed || b) completed
        ∙ taken-keyed source past moment n content wanted stands.wants.keyed;
    key_asked = ap (λ k. (wanted_with k after.front key (Some arrival) wanted).key_asked) clock-after
        ∙ ap (λ f. (wanted_with (max (latest past).now moment) after.front (greatest_of (key_numbers f))
        (Some arrival) wanted).key_asked) stood.frames
        ∙ ap (λ b. key_after (max (latest past).now moment)
        (is_lost_open (greatest_of (key_numbers (map summary_of s.standing))) wanted.key_pulled arrival.lost)
        (open_after b wanted.key_asked)) completed
        ∙ taken-key_asked source past moment n content wanted falls stands.wants.key_pulled stands.wants.key_asked
        arrival.lost lost_now;
  }) (gap-taken before.settings codec h moment n content arrival arrives.number_is newest_is repaired_is wanted.asks
      stands.wants.asks asks_sound)
      (ap (λ k. key_with k key (Some arrival) wanted) clock-after
      ∙ ap (λ f. key_with (max (latest past).now moment) (greatest_of (key_numbers f)) (Some arrival) wanted)
      stood.frames
      ∙ ap (λ b. asks_key (max (latest past).now moment)
      (is_lost_open (greatest_of (key_numbers (map summary_of s.standing))) wanted.key_pulled arrival.lost)
      (open_after b wanted.key_asked)) completed
      ∙ taken-asks source past moment n content wanted falls stands.wants.key_pulled stands.wants.key_asked
      arrival.lost lost_now)
      repaired_is where
        s : Snapshot
        s = after_datagram source past moment (Ok (n, content))

        arrives : IsArrival before n taken.made taken.taken.key arrival
        arrives = taken.arrives

        -- the repairs, as the machine has them
        repaired_is : arrival.repaired ≡ (after_datagram source past moment (Ok (n, content))).repaired
        repaired_is = arrives.repaired_is ∙ numbers-made taken.made
            ∙ ap numbers_made taken.planned.repairs
            ∙ ap (λ w. numbers_made (repairs_in source w)) (contents_of-after_placing before.window n taken.held)
            ∙ ap (λ c. numbers_made (repairs_in source (after_placing n c (contents_of before.window)))) taken.content_is
            ∙ ap (λ w. numbers_made (repairs_in source (after_placing n content w))) stands.assembled.stands.window

        asks_sound : IsAsks wanted.asks
        asks_sound = sound (ap is_some is)

        newest_is : arrival.newest ≡ (latest past).window.newest
        newest_is = arrives.newest_is ∙ ap (λ (w : Contents Content). w.newest) stands.assembled.stands.window

        lost_is : arrival.lost ≡ greatest_of
            (filter (λ m. not (is_passed (latest past).front m) && not (is_dead m (latest past).window.dead))
            (numbers_left (latest past).window.first (latest past).window.newest
            (Some (newest_with (latest past).window.newest n))))
        lost_is = arrives.lost_is
            ∙ ap (λ (w : Contents Content).
            greatest_of (filter (λ m. not (is_passed before.front m) && not (is_dead m w.dead))
            (numbers_left w.first w.newest (Some (newest_with w.newest n))))) stands.assembled.stands.window
            ∙ ap (λ (f : Option ℕ). greatest_of
            (filter (λ m. not (is_passed f m) && not (is_dead m (latest past).window.dead))
            (numbers_left (latest past).window.first (latest past).window.newest
            (Some (newest_with (latest past).window.newest n))))) stands.assembled.stands.front

        lost_now : arrival.lost ≡ greatest_of (after_datagram source past moment (Ok (n, content))).lost
        lost_now = lost-arrived before.settings codec h moment n content arrival arrives.number_is newest_is repaired_is
            lost_is

        came_in : Came before.window after.window n taken.held taken.made (newest_with before.window.newest n)
        came_in = subst (λ (w : Contents Held). Came before.window w n taken.held taken.made
            (newest_with before.window.newest n)) (sym taken.taken.window)
            (came source before.window n taken.held taken.made (pictures_with before.pictures taken.held) whole.window.packets_rise
            whole.window.packets_inside taken.may.fresh taken.planned)

        completed : arrival.key ≡ completes_key (latest past).standing s.standing
        completed = arrives.key_is
            ∙ sym (taken-completes are rise codec before after n taken.held taken.made whole'.window
            (ap (runs_from (lowest_of after.window.newest)) whole.kept.frames
            ∙ left-of are rise codec before.window after.window n taken.held taken.made before.front before.known
            whole.kept.arrivals whole.window.packets_rise whole.window.packets_inside came_in
            whole'.window.packets_rise)
            taken.taken (latest past).standing s.standing stands.assembled.stands.frames stood.frames)

        falls : Falls (latest (snapshots before.settings codec h)).pulled
        falls = pulled-falls are before.settings codec h

  comes-by : (v : Result (ℕ × Content) NotTaken) → ComesOf codec before after moment outcome.arrival v →
      StandsIn codec after (after_datagram source past moment v ∷ past) → Comes (after_datagram source past moment v)
  comes-by (Err left) comes stood =
      by-arrival None comes.0 (moved (latest past) moment) (wants-moved wanted past moment stands.wants) refl refl refl
  comes-by (Ok (n, content)) comes stood = taken-comes n content comes.0 comes.1 comes.2 stood

  comes : Comes (after_datagram source past moment (verdict before.settings codec (latest past).window octets))
  comes = subst (λ w. Comes (after_datagram source past moment (verdict before.settings codec w octets)))
      stands.assembled.stands.window
      (comes-by (verdict before.settings codec (contents_of before.window) octets) handled.comes
      (subst (λ w. StandsIn codec after
      (after_datagram source past moment (verdict before.settings codec w octets) ∷ past))
      (sym stands.assembled.stands.window)
      (subst (λ p. StandsIn codec after p) (snapshots-cons before.settings codec (Datagram moment octets) h)
      (subst (λ t. StandsIn codec after (snapshots t codec (Datagram moment octets ∷ h))) settings-is
      assembled.stands))))

  pub datagram-stands-for : StandsFor codec
      (parts_of after (wanted_with after.clock after.front
      (greatest_of (key_numbers after.frames)) outcome.arrival wanted)) (Datagram moment octets ∷ h)
  datagram-stands-for = record {
    assembled = assembled;
    wants = subst (λ t. WantsIn (wanted_with after.clock after.front key outcome.arrival wanted)
        (snapshots t codec (Datagram moment octets ∷ h))) (sym settings-is)
        (wants-on before.settings codec (wanted_with after.clock after.front key outcome.arrival wanted) h
        (Datagram moment octets) comes.wants);
  }

  pub datagram-reply : (repaired : List ℕ) → repaired ≡ repaired_with outcome.arrival → ToDatagram (record {
    what = outcome.what;
    repaired = repaired;
    feedback = record {
      nack = nack_for after.settings (asked_with outcome.arrival);
      pli = pli_for after.settings
          (key_with after.clock (greatest_of (key_numbers after.frames)) outcome.arrival wanted);
    };
  }) ≡ reply before.settings codec h (Datagram moment octets)
  datagram-reply repaired repaired_is =
      (λ i. ToDatagram (record {
        what = datagram-what codec before after moment octets outcome h handled stands.assembled i;
        repaired = (repaired_is ∙ comes.repaired) i;
        feedback = record {
          nack = nack_for (settings-is i) (comes.asked i);
          pli = pli_for (settings-is i) (comes.key_asked i);
        };
      }))
      ∙ sym (reply-is before.settings codec h (Datagram moment octets))

-- a pull, by the frame that it gives
wants-pulled : (codec : Meaning) (wanted : Wanted) (past : List Snapshot) (moment : ℕ) (frame : Option Frame)
    (o : Option Run) (front : Option ℕ) → frame ≡ option_map frame_of o →
    front ≡ (after_pull codec past moment o).front
    → WantsIn wanted past → WantsIn (pulled_with front frame wanted) (after_pull codec past moment o ∷ past)
wants-pulled codec wanted past moment frame None front frame_is front_is wants =
    subst (λ f. WantsIn (pulled_with front f wanted) (moved (latest past) moment ∷ past)) (sym frame_is)
    (wants-moved wanted past moment wants)
wants-pulled codec wanted past moment frame (Some run) front frame_is front_is wants =
    subst (λ f. WantsIn (pulled_with front f wanted) (after_pull codec past moment (Some run) ∷ past)) (sym frame_is)
    (subst (λ f. WantsIn (wanted_pulled f run.key run.first wanted) (after_pull codec past moment (Some run) ∷ past))
    (sym front_is) (record {
      asks = asks-pulled codec past moment run (passed-pulled codec past moment run) wanted.asks wants.asks;
      lost = lost-pulled codec past moment run wanted.lost wants.lost;
      key_pulled = pulled-key_pulled codec wanted past moment run wants.key_pulled;
      keyed = pulled-keyed codec wanted past moment run wants.keyed;
      key_asked = pulled-key_asked codec wanted past moment run wants.key_asked;
    }))

module _ (are : RunsAre) (rise : RunsRise) (apart : RunsApart) (codec : Meaning) (before after : Assembly)
    (wanted : Wanted) (moment : ℕ) (frame : Option Frame) (h : List Event)
    (handed : IsHandedOut codec before after moment frame) (whole : IsWhole codec before)
    (whole' : IsWhole codec after) (stands : StandsFor codec (parts_of before wanted) h) where
  pub pull-stands-for : StandsFor codec (parts_of after (pulled_with after.front frame wanted)) (Pull moment ∷ h)
  pull-stands-for =
      let past : List Snapshot = snapshots before.settings codec h in
      let pull : IsPull codec after past moment frame =
      pull-is are rise apart codec before after moment frame h handed whole whole' stands.assembled in
      record {
        assembled = pull-stands are rise apart codec before after moment frame h handed whole whole' stands.assembled;
        wants = subst (λ t. WantsIn (pulled_with after.front frame wanted) (snapshots t codec (Pull moment ∷ h)))
            (sym (pull-settings codec before after moment frame handed))
            (wants-on before.settings codec (pulled_with after.front frame wanted) h (Pull moment)
            (wants-pulled codec wanted past moment frame
            (next_run (latest past)) after.front pull.frame_is pull.stands.front stands.wants));
      }

-- a tick, of what it wants before and after
module _ (are : RunsAre) (codec : Meaning) (before after : Assembly) (wanted : Wanted) (moment : ℕ) (h : List Event)
    (stands : StandsFor codec (parts_of before wanted) h) (sound : IsAsks wanted.asks)
    (after_is : after ≡ record (after_counting before moment) {
      window =
          given_up_all (given_up_numbers (max before.clock moment) before.settings.interval wanted.asks)
          before.window;
    }) where
  abbrev ticks_past : List Snapshot
  ticks_past = snapshots before.settings codec h

  clock-ticked : max before.clock moment ≡ max (latest ticks_past).now moment
  clock-ticked = ap (λ k. max k moment) (stands.assembled.clock ∙ sym (clock-is before.settings codec h))

  abbrev pub key_before : Option ℕ
  key_before = greatest_of (key_numbers before.frames)

  abbrev pub started : Bool
  started = is_some before.window.newest

  falls-now : Falls (latest (snapshots before.settings codec h)).pulled
  falls-now = pulled-falls are before.settings codec h

  lost-now : lost_ticked (max (latest ticks_past).now moment) before.settings.interval wanted ≡ greatest_of
      (all_lost (after_tick before.settings ticks_past moment ∷ ticks_past))
  lost-now = lost-ticked before.settings ticks_past moment wanted stands.wants.asks sound stands.wants.lost

  key-same : key_before ≡ key_standing (latest ticks_past)
  key-same = ap (λ f. greatest_of (key_numbers f)) stands.assembled.stands.frames

  started-same : started ≡ is_some (latest ticks_past).window.newest
  started-same = ap (λ (w : Contents Content). is_some w.newest) stands.assembled.stands.window

  asks-key : asks_key (max before.clock moment)
      (needs_key (max before.clock moment) before.settings.interval started key_before wanted) wanted.key_asked
      ≡ (after_tick before.settings ticks_past moment).key_asked
  asks-key =
      (λ i. asks_key (clock-ticked i)
      (needs_key (clock-ticked i) before.settings.interval (started-same i) (key-same i) wanted) wanted.key_asked)
      ∙ ticked-asks before.settings ticks_past moment wanted falls-now stands.wants lost-now

  wants-ticked : WantsIn (wanted_ticked (max before.clock moment) before.settings.interval started key_before wanted)
      (after_tick before.settings ticks_past moment ∷ ticks_past)
  wants-ticked = subst (λ w. WantsIn w (after_tick before.settings ticks_past moment ∷ ticks_past))
      (sym (λ i. wanted_ticked (clock-ticked i) before.settings.interval (started-same i) (key-same i) wanted))
      (record {
        asks = asks-ticked before.settings ticks_past moment wanted.asks stands.wants.asks sound;
        lost = lost-now;
        key_pulled = ticked-key_pulled before.settings ticks_past moment wanted falls-now stands.wants;
        keyed = ticked-keyed before.settings ticks_past moment wanted falls-now stands.wants;
        key_asked = ticked-key_asked before.settings ticks_past moment wanted falls-now stands.wants lost-now;
      })

  pub tick-stands-for : StandsFor codec
      (parts_of after (wanted_ticked (max before.clock moment) before.settings.interval (is_some before.window.newest)
      (greatest_of (key_numbers before.frames)) wanted)) (Tick moment ∷ h)
  tick-stands-for = record {
    assembled = tick-stands codec before after moment
        (given_up_numbers (max before.clock moment) before.settings.interval wanted.asks) h after_is
        (ap (λ k. given_up_numbers k before.settings.interval wanted.asks) clock-ticked
        ∙ given-up-ticked before.settings ticks_past moment wanted.asks stands.wants.asks sound) stands.assembled;
    wants = subst (λ t. WantsIn
        (wanted_ticked (max before.clock moment) before.settings.interval started key_before wanted)
        (snapshots t codec (Tick moment ∷ h))) (sym (ap (λ (a : Assembly). a.settings) after_is))
        (wants-on before.settings codec
        (wanted_ticked (max before.clock moment) before.settings.interval started key_before wanted) h
        (Tick moment) wants-ticked);
  }

  pub tick-reply : ToTick (record {
    nack = nack_for after.settings (asked_numbers (max before.clock moment) before.settings.interval wanted.asks);
    pli = pli_for after.settings
        (asks_key (max before.clock moment)
        (needs_key (max before.clock moment) before.settings.interval (is_some before.window.newest)
        (greatest_of (key_numbers before.frames)) wanted) wanted.key_asked);
  }) ≡ reply before.settings codec h (Tick moment)
  tick-reply =
      (λ i. ToTick (record {
        nack = nack_for (settings-same i) (numbers-same i);
        pli = pli_for (settings-same i) (asks-key i);
      }))
      ∙ sym (reply-is before.settings codec h (Tick moment)) where
        settings-same : after.settings ≡ before.settings
        settings-same = ap (λ (a : Assembly). a.settings) after_is

        numbers-same : asked_numbers (max before.clock moment) before.settings.interval wanted.asks
            ≡ (after_tick before.settings ticks_past moment).asked
        numbers-same = ap (λ k. asked_numbers k before.settings.interval wanted.asks) clock-ticked
            ∙ asked-ticked before.settings ticks_past moment wanted.asks stands.wants.asks sound
