-- Every honest call is answered rightly.
use Rattle.std.proofs.Common.{Err, Ok, ◌≡◌, ℕ, zero, suc, ◌+◌, ◌<◌, ◌≤◌, true, List, [], ◌∷◌, length, slice_get, slice_index, Contains, All, Option, Some, None, IfSome, IsSomeAnd, refl, sym, subst, arith, suc-add}
use Rattle.std.specs.List.Sorted.{IsStrictlyIncreasing}
use Rattle.vrx_codec.specs.Meaning.{Meaning}
use Rattle.vrx_num.specs.Extended.{GivesMeant}
use Rattle.vrx_num.specs.Pictures.{GivesPicture}
use Rattle.vrx_frames.specs.Run.{Run}
use Rattle.vrx_frames.specs.IsRun.{RunsAre}
use Rattle.vrx_repair.specs.Truth.{TrueRepairs}
use Rattle.vrx_core.specs.machine.SettingsFault.{fault_of}
use Rattle.vrx_core.specs.machine.Verdict.{verdict}
use Rattle.vrx_core.specs.machine.Machine.{Reply, ToDatagram, ToTick, ToPull, Snapshot, latest, last_pulled, next_run, pulled_of, after_pull, snapshots, reply, replies}
use Rattle.vrx_window.specs.Content.{Content}
use Rattle.vrx_core.specs.honest.Sender.{Sender, wire_of}
use Rattle.vrx_core.specs.honest.WireForm.{content_sent}
use Rattle.vrx_core.specs.honest.Ready.{IsNumber}
use Rattle.vrx_core.specs.honest.Chain.{InChain}
use Rattle.vrx_core.specs.honest.HonestSender.{HonestSender}
use Rattle.vrx_core.specs.honest.HonestNetwork.{Origin, FromSender, Elsewhere, IsDelivery, HonestNetwork, PicturesAreNear, packets_taken}
use Rattle.vrx_core.specs.honest.HonestRuns.{IsFrameRun}
use Rattle.vrx_core.specs.honest.HonestCall.{IsSentFrame, IsAnswer, Answers, places_of, frames_of, AreSent, BeginsWithKey, AfterReferences, HonestCall, HonestCallHolds}
use Rattle.vrx_core.specs.declared.settings.Settings.{Settings}
use Rattle.vrx_core.specs.declared.event.Event.{Event}
use Rattle.vrx_core.specs.declared.event.Event.TheVariants.{Datagram, Tick, Pull}
use Rattle.vrx_core.specs.declared.original.NotTaken.{NotTaken}
use Rattle.vrx_core.specs.declared.reply.Pulled.TheVariants as pulls
use Rattle.vrx_core.proofs.machine.AnswerLemmas.{answer-given}
use Rattle.vrx_core.proofs.machine.StandingLemmas.{given-rises, standing_is}
use Rattle.vrx_core.proofs.honest.BroughtLemmas.{verdict_aside, verdict_taken}
use Rattle.vrx_core.proofs.honest.NumberLemmas.{taken-number}
use Rattle.vrx_core.proofs.honest.WireLemmas.{Brings, FormLaws, brings}
use Rattle.vrx_core.proofs.honest.TookLemmas.{Took}
use Rattle.vrx_core.proofs.honest.HonestTakenLemmas.{took_step, first_took}
use Rattle.vrx_core.proofs.honest.LossLemmas.{losses-asked}
use Rattle.vrx_core.proofs.honest.HoldsLemmas.{Holds, bound_of, opening-holds, datagram-holds, aside-holds, tick-holds, none-holds, frame-holds}
use Rattle.vrx_core.proofs.honest.ReadyLemmas.{frame_is, none_ready, answer_least, answer_sent, answer_later, answer_pulled, answer_key, answer_chain, answer_references}

-- places that rise strictly, from this bound on
abbrev RiseFrom : ℕ → List ℕ → Type 0
RiseFrom bound [] = Unit {0}
RiseFrom bound (p ∷ ps) = (bound ≤ p) × RiseFrom (p + 1) ps

-- such places rise strictly
rising : (bound : ℕ) (ps : List ℕ) → RiseFrom bound ps → IsStrictlyIncreasing ps
rising bound [] r k within = absurd (omega arith)
rising bound (p ∷ []) r k within = absurd (omega arith)
rising bound (p ∷ q ∷ ps) r zero within = omega arith
rising bound (p ∷ q ∷ ps) r (suc k) within =
    let inside : k + 1 < length (q ∷ ps) = omega arith in
    let less : slice_index (q ∷ ps) k < slice_index (q ∷ ps) (k + 1) = rising (p + 1) (q ∷ ps) r.1 k inside in
    rw suc-add less

-- what a reply gives: the sender's frame of this place, which comes after those given, after its chain and its
-- references, and is a keyframe if none was given; or nothing
abbrev pub Gives : Sender → ℕ → List ℕ → List ℕ → Option ℕ → Reply → Type 0
Gives sender bound fs after None (ToDatagram handled) = after ≡ fs
Gives sender bound fs after None (ToTick feedback) = after ≡ fs
Gives sender bound fs after None (ToPull pulls.NotReady) = after ≡ fs
Gives sender bound fs after (Some f) (ToPull (pulls.Frame frame)) =
    (bound ≤ f) × (after ≡ f ∷ fs) × IsSomeAnd (slice_get sender.frames f) (λ sent. IsSentFrame sent frame)
    × (fs ≡ [] → frame.key ≡ true)
    × ((g : ℕ) → InChain sender f g → Contains fs g)
    × IfSome (slice_get sender.frames f) (λ sent. All (λ g. Contains fs g) sent.references)
Gives sender bound fs after _ _ = ⊥

module _ (meant : GivesMeant) (picture : GivesPicture) (laws : FormLaws) (truth : TrueRepairs) (are : RunsAre)
    (settings : Settings) (codec : Meaning) (sender : Sender) (good : fault_of settings ≡ None) (honest : HonestSender settings codec sender) where
  -- what held after a history
  abbrev HoldsAt : List Event → List Origin → List ℕ → Type 0
  HoldsAt h origins fs =
      Holds settings codec sender honest (snapshots settings codec h) (packets_taken settings codec h origins) fs

  -- the place from which a frame may come
  abbrev bound : List ℕ → ℕ
  bound fs = bound_of settings codec sender honest fs

  -- one event of an honest call: it is answered rightly, and what held goes on to hold
  pub record Step (h : List Event) (origins : List Origin) (fs : List ℕ) (e : Event) (o : Origin) : Type 0 where
    pub after : List ℕ
    pub place : Option ℕ
    pub holds : HoldsAt (e ∷ h) (o ∷ origins) after
    pub answer : IsAnswer settings codec sender h origins e (reply settings codec h e) place
    pub gives : Gives sender (bound fs) fs after place (reply settings codec h e)

  -- the rest of an honest call, after a history
  record CallFrom (h : List Event) (origins : List Origin) (fs : List ℕ) (events : List Event) (later : List Origin)
      (rs : List Reply) : Type 0 where
    frames_given : List (Option ℕ)
    answers : Answers settings codec sender h origins events later rs frames_given
    rise : RiseFrom (bound fs) (places_of frames_given)
    sent : AreSent sender (places_of frames_given) (frames_of rs)
    from_key : fs ≡ [] → BeginsWithKey (frames_of rs)
    references : AfterReferences sender fs (places_of frames_given)

  module _ (h : List Event) (origins : List Origin) (fs : List ℕ) where
    -- what was left after the events
    abbrev past : List Snapshot
    past = snapshots settings codec h

    -- what was taken after one event more
    took_now : HoldsAt h origins fs → (e : Event) (o : Origin) → IsDelivery settings codec sender h origins e o →
        PicturesAreNear settings codec sender (e ∷ h) (o ∷ origins) →
        Took sender (snapshots settings codec (e ∷ h)) (packets_taken settings codec (e ∷ h) (o ∷ origins))
    took_now holds e o delivery near =
        took_step settings codec sender h origins meant picture laws truth good honest holds.took e o delivery near

    -- a packet that is taken has its number
    numbered_now : (octets : List ℕ) (i : ℕ) → HoldsAt h origins fs →
        IsDelivery settings codec sender h origins (Datagram 0 octets) (FromSender i) → (n : ℕ) (content : Content) →
        verdict settings codec (latest past).window octets ≡ Ok (n, content) →
        IsNumber sender (i ∷ packets_taken settings codec h origins) i n
    numbered_now octets i holds delivery n content taken =
        let b : Brings settings codec sender i octets =
        brings laws settings codec good sender honest i octets delivery.0 in
        taken-number meant sender (packets_taken settings codec h origins) (latest past).window.newest i n
        holds.took.here.newest delivery.1
        (verdict_taken settings codec (latest past).window octets
        (record { wire = wire_of sender i; content = content_sent b.packet }) n content b.is taken).0

    -- a datagram of the sender
    sent_step : (moment : ℕ) (octets : List ℕ) (i : ℕ) → HoldsAt h origins fs →
        IsDelivery settings codec sender h origins (Datagram moment octets) (FromSender i) →
        PicturesAreNear settings codec sender (Datagram moment octets ∷ h) (FromSender i ∷ origins) →
        Step h origins fs (Datagram moment octets) (FromSender i)
    unfolding snapshots packets_taken reply
    sent_step moment octets i holds delivery near = record {
      after = fs;
      place = None;
      holds = datagram-holds settings codec sender honest past
          (packets_taken settings codec h origins) fs holds moment i
          (verdict settings codec (latest past).window octets) (numbered_now octets i holds delivery)
          (took_now holds (Datagram moment octets) (FromSender i) delivery near);
      answer = tt;
      gives = refl;
    }

    -- a datagram that is RTCP or refused, whatever came before
    other_step : (moment : ℕ) (octets : List ℕ) → HoldsAt h origins fs →
        IsDelivery settings codec sender h origins (Datagram moment octets) Elsewhere →
        PicturesAreNear settings codec sender (Datagram moment octets ∷ h) (Elsewhere ∷ origins) →
        Step h origins fs (Datagram moment octets) Elsewhere
    unfolding snapshots packets_taken reply
    other_step moment octets holds aside near =
        let v : (left : NotTaken) × (verdict settings codec (latest past).window octets ≡ Err left) =
        verdict_aside settings codec (latest past).window octets aside in
        record {
          after = fs;
          place = None;
          holds = aside-holds settings codec sender honest past
              (packets_taken settings codec h origins) fs holds moment v.0
              (verdict settings codec (latest past).window octets) v.1
              (took_now holds (Datagram moment octets) Elsewhere aside near);
          answer = tt;
          gives = refl;
        }

    -- a tick
    tick_step : (moment : ℕ) → HoldsAt h origins fs →
        PicturesAreNear settings codec sender (Tick moment ∷ h) (Elsewhere ∷ origins) →
        Step h origins fs (Tick moment) Elsewhere
    unfolding snapshots packets_taken reply
    tick_step moment holds near = record {
      after = fs;
      place = None;
      holds = tick-holds settings codec sender honest past (packets_taken settings codec h origins) fs holds moment
          (took_now holds (Tick moment) Elsewhere tt near);
      answer = tt;
      gives = refl;
    }

    -- what a pull answers
    abbrev answered : Option Run
    answered = next_run (latest past)

    module _ (moment : ℕ) (holds : HoldsAt h origins fs)
        (near : PicturesAreNear settings codec sender (Pull moment ∷ h) (Elsewhere ∷ origins)) where
      -- what was taken after the pull
      took_pull : (o : Option Run) → answered ≡ o →
          Took sender (after_pull codec past moment o ∷ past) (packets_taken settings codec h origins)
      unfolding snapshots packets_taken
      took_pull o is = subst (λ (x : Option Run).
          Took sender (after_pull codec past moment x ∷ past) (packets_taken settings codec h origins)) is
          (took_now holds (Pull moment) Elsewhere tt near)

      -- a pull that gives no frame
      none_step : answered ≡ None → Step h origins fs (Pull moment) Elsewhere
      unfolding snapshots packets_taken reply
      none_step none = record {
        after = fs;
        place = None;
        holds = subst (λ (o : Option Run).
            Holds settings codec sender honest (after_pull codec past moment o ∷ past)
            (packets_taken settings codec h origins) fs) (sym none)
            (none-holds settings codec sender honest past (packets_taken settings codec h origins) fs holds moment
            (took_pull None none));
        answer = subst (λ (o : Option Run).
            IsAnswer settings codec sender h origins (Pull moment) (ToPull (pulled_of o)) None) (sym none)
            (λ f ready. none_ready are settings codec sender honest h origins fs holds none f ready);
        gives = subst (λ (o : Option Run). Gives sender (bound fs) fs fs None (ToPull (pulled_of o))) (sym none) refl;
      }

      -- the frame that a pull gives ends no earlier than the last one pulled
      later_end : (run : Run) → answered ≡ Some run →
          IfSome (last_pulled (latest past).pulled) (λ last. last ≤ run.last)
      later_end run given =
          let rises : (run.first ≤ run.last) × IfSome (last_pulled (latest past).pulled) (λ last. last < run.first) =
          given-rises are codec past run (standing_is settings codec h) given in
          further (last_pulled (latest past).pulled) rises.0 rises.1 where
            further : (o : Option ℕ) → run.first ≤ run.last → IfSome o (λ last. last < run.first) →
                IfSome o (λ last. last ≤ run.last)
            further None within less = tt
            further (Some last) within less = omega (arith, within, less)

      -- a pull that gives a run's frame
      frame_step : (run : Run) → answered ≡ Some run → Step h origins fs (Pull moment) Elsewhere
      unfolding snapshots packets_taken reply
      frame_step run given =
          let s : Snapshot = latest past in
          let there = answer-given s.told s.pulled s.front s.standing run given in
          let p : (f : ℕ) × IsFrameRun sender (packets_taken settings codec h origins) f run =
          frame_is are settings codec sender honest h origins fs holds run there.0 in
          let chain : (g : ℕ) → InChain sender p.0 g → Contains fs g =
          answer_chain are settings codec sender honest h origins fs holds run given p.0 p.1 in
          record {
            after = p.0 ∷ fs;
            place = Some p.0;
            holds = subst (λ (o : Option Run).
                Holds settings codec sender honest (after_pull codec past moment o ∷ past)
                (packets_taken settings codec h origins) (p.0 ∷ fs)) (sym given)
                (frame-holds settings codec sender honest past
                (packets_taken settings codec h origins) fs holds moment run p.0
                (answer_pulled are settings codec sender honest h origins fs holds run given p.0 p.1)
                (answer_later are settings codec sender honest h origins fs holds run given p.0 p.1) chain
                (later_end run given) (took_pull (Some run) given));
            answer = subst (λ (o : Option Run).
                IsAnswer settings codec sender h origins (Pull moment) (ToPull (pulled_of o)) (Some p.0)) (sym given)
                (answer_least are settings codec sender honest h origins fs holds run given p.0 p.1);
            gives = subst (λ (o : Option Run).
                Gives sender (bound fs) fs (p.0 ∷ fs) (Some p.0) (ToPull (pulled_of o))) (sym given) (
                  answer_later are settings codec sender honest h origins fs holds run given p.0 p.1,
                  refl,
                  answer_sent are settings codec sender honest h origins fs holds run given p.0 p.1,
                  answer_key are settings codec sender honest h origins fs holds run given p.0 p.1,
                  chain,
                  answer_references are settings codec sender honest h origins fs holds run given p.0 p.1,
                );
          }

      -- a pull, by what it answers
      pull_by : (o : Option Run) → answered ≡ o → Step h origins fs (Pull moment) Elsewhere
      pull_by None none = none_step none
      pull_by (Some run) given = frame_step run given

    -- each delivery
    pub step : HoldsAt h origins fs → (e : Event) (o : Origin) → IsDelivery settings codec sender h origins e o →
        PicturesAreNear settings codec sender (e ∷ h) (o ∷ origins) → Step h origins fs e o
    step holds (Datagram moment octets) (FromSender i) delivery near = sent_step moment octets i holds delivery near
    step holds (Datagram moment octets) Elsewhere delivery near = other_step moment octets holds delivery near
    step holds (Tick moment) (FromSender i) delivery near = absurd delivery
    step holds (Tick moment) Elsewhere delivery near = tick_step moment holds near
    step holds (Pull moment) (FromSender i) delivery near = absurd delivery
    step holds (Pull moment) Elsewhere delivery near = pull_by moment holds near answered refl

    -- nothing given before the rest
    nothing_before : (after : List ℕ) (e : Event) (o : Origin) (es : List Event) (os : List Origin) (r : Reply)
        (rs : List Reply) → frames_of (r ∷ rs) ≡ frames_of rs → IsAnswer settings codec sender h origins e r None →
        after ≡ fs → CallFrom (e ∷ h) (o ∷ origins) after es os rs → CallFrom h origins fs (e ∷ es) (o ∷ os) (r ∷ rs)
    nothing_before after e o es os r rs none answer same rest = record {
      frames_given = None ∷ rest.frames_given;
      answers = (answer, rest.answers);
      rise = subst (λ xs. RiseFrom (bound xs) (places_of rest.frames_given)) same rest.rise;
      sent = subst (AreSent sender (places_of rest.frames_given)) (sym none) rest.sent;
      from_key = λ empty. subst BeginsWithKey (sym none) (rest.from_key (same_list same empty));
      references = subst (λ xs. AfterReferences sender xs (places_of rest.frames_given)) same rest.references;
    } where
      same_list : after ≡ fs → fs ≡ [] → after ≡ []
      same_list a b = subst (λ xs. after ≡ xs) b a

    -- one event before the rest, by its reply
    step_before : (after : List ℕ) (e : Event) (o : Origin) (es : List Event) (os : List Origin) (place : Option ℕ)
        (r : Reply) (rs : List Reply) → IsAnswer settings codec sender h origins e r place →
        Gives sender (bound fs) fs after place r → CallFrom (e ∷ h) (o ∷ origins) after es os rs →
        CallFrom h origins fs (e ∷ es) (o ∷ os) (r ∷ rs)
    step_before after e o es os None (ToDatagram handled) rs answer gives rest =
        nothing_before after e o es os (ToDatagram handled) rs refl answer gives rest
    step_before after e o es os (Some f) (ToDatagram handled) rs answer gives rest = absurd gives
    step_before after e o es os None (ToTick feedback) rs answer gives rest =
        nothing_before after e o es os (ToTick feedback) rs refl answer gives rest
    step_before after e o es os (Some f) (ToTick feedback) rs answer gives rest = absurd gives
    step_before after e o es os None (ToPull pulls.NotReady) rs answer gives rest =
        nothing_before after e o es os (ToPull pulls.NotReady) rs refl answer gives rest
    step_before after e o es os (Some f) (ToPull pulls.NotReady) rs answer gives rest = absurd gives
    step_before after e o es os None (ToPull (pulls.Frame frame)) rs answer gives rest = absurd gives
    step_before after e o es os (Some f) (ToPull (pulls.Frame frame)) rs answer gives rest = record {
      frames_given = Some f ∷ rest.frames_given;
      answers = (answer, rest.answers);
      rise = (gives.0, subst (λ xs. RiseFrom (bound xs) (places_of rest.frames_given)) gives.1 rest.rise);
      sent = (gives.2, rest.sent);
      from_key = gives.3;
      references = (
        gives.4,
        gives.5,
        subst (λ xs. AfterReferences sender xs (places_of rest.frames_given)) gives.1 rest.references,
      );
    }

  -- the rest of an honest call
  call_from : (events : List Event) (h : List Event) (origins later : List Origin) (fs : List ℕ) →
      HoldsAt h origins fs → HonestNetwork settings codec sender h origins events later →
      CallFrom h origins fs events later (replies settings codec h events)
  unfolding replies
  call_from [] h origins [] fs holds network =
      record { frames_given = []; answers = tt; rise = tt; sent = tt; from_key = λ _. tt; references = tt }
  call_from [] h origins (o ∷ os) fs holds network = absurd network
  call_from (e ∷ es) h origins [] fs holds network = absurd network
  call_from (e ∷ es) h origins (o ∷ os) fs holds network =
      let s : Step h origins fs e o = step h origins fs holds e o network.0 network.1 in
      step_before h origins fs s.after e o es os s.place (reply settings codec h e)
      (replies settings codec (e ∷ h) es) s.answer s.gives
      (call_from es (e ∷ h) (o ∷ origins) os s.after s.holds network.2)

  -- before the first event
  pub first_holds : HoldsAt [] [] []
  unfolding snapshots packets_taken
  first_holds = opening-holds settings codec sender honest (first_took settings codec sender)

  -- a whole honest call
  pub honest-call : (events : List Event) (origins : List Origin) →
      HonestNetwork settings codec sender [] [] events origins →
      HonestCall settings codec sender events origins (replies settings codec [] events)
  honest-call events origins network =
      let call : CallFrom [] [] [] events origins (replies settings codec [] events) =
      call_from events [] [] origins [] first_holds network in
      record {
        frames_given = call.frames_given;
        answers = call.answers;
        rising = rising 0 (places_of call.frames_given) call.rise;
        sent = call.sent;
        from_key = call.from_key refl;
        after_references = call.references;
        losses = losses-asked settings codec sender events [] [] origins network;
      }

-- every honest call is answered rightly
pub honest_call : GivesMeant → GivesPicture → FormLaws → TrueRepairs → RunsAre → HonestCallHolds
honest_call meant picture laws truth are settings codec sender events origins good honest network =
    honest-call meant picture laws truth are settings codec sender good honest events origins network
