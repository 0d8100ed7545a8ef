-- In an honest call the deliverable runs are the ready frames.
use Rattle.std.proofs.Common.{◌≡◌, ◌↔◌, ℕ, zero, suc, ◌+◌, ◌-◌, ◌<◌, ◌≤◌, ◌⊎◌, Bool, true, false, cond, ◌&&◌, List, [], ◌∷◌, map, length, slice_get, Contains, All, Option, Some, None, IfSome, IsSomeAnd, is_some, refl, sym, ◌∙◌, ap, subst, arith, inl, inr}
use Rattle.std.specs.List.{AllByRecursion}
use Rattle.std.specs.Option.{option_map_or}
use Rattle.std.proofs.lemmas.Bool.{and_parts, and_from, or_cases, or_left, or_right, both_ways, true≢false, leb-true}
use Rattle.std.proofs.lemmas.Option.{slice_get_within, slice_get-get_or, same_Some}
use Rattle.std.proofs.lemmas.List.Elements.{All-from_recursion, recursion_from_All}
use Rattle.vrx_codec.specs.Meaning.{Meaning}
use Rattle.vrx_rtp.specs.Reading.{read}
use Rattle.vrx_codec.specs.declared.part.Start.{Start}
use Rattle.vrx_codec.specs.declared.run.Place.{Place}
use Rattle.vrx_codec.specs.declared.part.Start.TheVariants.{Yes, No, ByNeighbour}
use Rattle.vrx_num.specs.declared.limits.TheConstants.{WINDOW}
use Rattle.vrx_window.specs.Content as contents
use Rattle.vrx_window.specs.Window.{at, is_available}
use Rattle.vrx_frames.specs.Run.{Packets, Run, Piece, begins, ends_frame, stands, stands_after_end, is_start, is_passed, summary_of}
use Rattle.vrx_frames.specs.IsRun.{IsPiece, ArePieces, RunsAre}
use Rattle.vrx_core.specs.machine.Standing.{began_after_end}
use Rattle.vrx_refs.specs.References.{Key, Needs, Unknown, is_passed_before, is_some_pulled, judge_delta}
use Rattle.vrx_buffer.specs.Frames.{is_ready}
use Rattle.vrx_core.specs.machine.Told.{Told, sightings}
use Rattle.vrx_core.specs.machine.Deliverable.{answer, is_deliverable, judged}
use Rattle.vrx_core.specs.machine.Machine.{latest, last_pulled, frame_of, snapshots, times}
use Rattle.vrx_core.specs.honest.Sender.{SentFrame, SentPacket, Media, Fec, Empty, Sender, IsNoPart, IsOf}
use Rattle.vrx_core.specs.honest.WireForm.{content_sent}
use Rattle.vrx_core.specs.honest.Chain.{IsRuleReference, Leads, RefersTo, InChain}
use Rattle.vrx_core.specs.honest.Layers.{HaveNoLayers, IsKey, KeepsLayers, layers_at}
use Rattle.vrx_core.specs.honest.HonestSender.{CarriedPart, IsPart, Travels, HonestSender}
use Rattle.vrx_core.specs.honest.HonestNetwork.{Origin, greatest, packets_taken}
use Rattle.vrx_core.specs.honest.Ready.{IsEvident, IsNumber, IsPassedUpTo, SaysStart, BeginsEvidently, StandsComplete, Ready, WasPulled}
use Rattle.vrx_core.specs.honest.HonestTaken.{IsNewestOf, IsRepaired}
use Rattle.vrx_core.specs.honest.HonestRuns.{IsFrameRun}
use Rattle.vrx_core.specs.honest.HonestCall.{IsSentFrame, IsLeastReady}
use Rattle.vrx_core.specs.declared.settings.Settings.{Settings}
use Rattle.vrx_core.specs.declared.event.Event.{Event}
use Rattle.vrx_core.proofs.machine.AnswerLemmas.{answer-given, answer-least, answer-none}
use Rattle.vrx_core.proofs.machine.MemberLemmas.{Contains-empty, Contains-head, Contains-either}
use Rattle.vrx_core.proofs.machine.TestLemmas.{list_any-from}
use Rattle.vrx_core.proofs.machine.PulledLemmas.{beyond-every, beyond-last, stands-beyond}
use Rattle.vrx_core.proofs.machine.StandingLemmas.{IsRunNow, stands_from, standing_is, standing-from, standing-to}
use Rattle.vrx_core.proofs.asking.FrontLemmas.{passed-upto}
use Rattle.vrx_core.proofs.honest.NumberLemmas.{IsNumber-upto}
use Rattle.vrx_core.proofs.honest.KeepsLemmas.{Came, near-number, one-number, one-place}
use Rattle.vrx_core.proofs.honest.KeptLemmas.{kept-there}
use Rattle.vrx_core.proofs.honest.PartLemmas.{IsSent, frame_spans, frame_travels, frame_upto, one_span, part-of, size, some_holds, some_from, some_there}
use Rattle.vrx_core.proofs.honest.FrameLemmas.{number_later, media_text, is_behind, FirstBehind, frame_run, frame-run, pieces-present, run-frame}
use Rattle.vrx_core.proofs.honest.BeginLemmas.{there_tested, after_other, behind_last, began_first, were_behind, first_begins, says_yes}
use Rattle.vrx_core.proofs.honest.PlaceLemmas.{available-came, same-place}
use Rattle.vrx_core.proofs.honest.FrontLemmas.{IsFrontOf}
use Rattle.vrx_core.proofs.honest.HoldsLemmas.{IsPulled, ArePulled, Holds, below_bound, bound_of, bound_upto, frame_after}
use Rattle.vrx_core.proofs.honest.LastLemmas.{placed, some_if}
use Rattle.vrx_core.proofs.honest.UnbrokenLemmas.{available-unbroken, pulled-passed, pulled-unbroken}
use Rattle.vrx_core.proofs.honest.EvidentLemmas.{has_reference, layers-from, layers-to, run_none, run_pulled, was-from, was-to}

-- what holds of each of a list holds of one in it
pub of_all : {X : Type 0} (P : X → Type 0) (xs : List X) (x : X) → All P xs → Contains xs x → P x
of_all {X = X} P xs x all there = by_recursion xs (recursion_from_All P xs all) there where
  by_recursion : (ys : List X) → AllByRecursion P ys → Contains ys x → P x
  by_recursion [] each c = absurd (omega arith)
  by_recursion (y ∷ ys) each c =
      elim (Contains-either y ys x c) [ inl same ↦ subst P same each.0 | inr later ↦ by_recursion ys each.1 later ]

-- and what follows from it holds of each
pub all_more : {X : Type 0} (P Q : X → Type 0) (xs : List X) → ((x : X) → P x → Q x) → All P xs → All Q xs
all_more {X = X} P Q xs more all = All-from_recursion Q xs (by_recursion xs (recursion_from_All P xs all)) where
  by_recursion : (ys : List X) → AllByRecursion P ys → AllByRecursion Q ys
  by_recursion [] each = tt
  by_recursion (y ∷ ys) each = (more y each.0, by_recursion ys each.1)

-- a run that stands and is a keyframe is deliverable
deliverable_key : (told : Told) (pulled : List Run) (front : Option ℕ) (run : Run) →
    stands (last_pulled pulled) run ≡ true → run.key ≡ true → is_deliverable told pulled front run ≡ true
deliverable_key told pulled front run beyond key =
    and_from (stands (last_pulled pulled) run) (is_ready (judged told pulled front run)) beyond
    (ap (λ b. is_ready (cond b Key (judge_delta (sightings told) (map summary_of pulled) front run.first run.layers)))
    key)

-- whether a run without layers is ready, if it isn't key
evident_ready : (b : Bool) → b ≡ true → is_ready (cond b (Needs []) Unknown) ≡ true
evident_ready true is = refl
evident_ready false is = absurd (true≢false (sym is))

ready_evident : (b : Bool) → is_ready (cond b (Needs []) Unknown) ≡ true → b ≡ true
ready_evident true is = refl
ready_evident false is = absurd (true≢false (sym is))

-- the frames pulled, as they are told
some_told : (pulled : List Run) → is_some_pulled (map summary_of pulled) ≡ is_some (last_pulled pulled)
some_told [] = refl
some_told (run ∷ runs) = refl

passed_told : (front : Option ℕ) (n : ℕ) → is_passed_before front n ≡ is_passed front (n - 1)
passed_told None n = refl
passed_told (Some f) n = refl

-- a run that stands, has no layers and evidently follows the last frame pulled is deliverable
deliverable_next : (told : Told) (pulled : List Run) (front : Option ℕ) (run : Run) →
    stands (last_pulled pulled) run ≡ true → run.layers ≡ None → is_some (last_pulled pulled) ≡ true →
    is_passed front (run.first - 1) ≡ true → is_deliverable told pulled front run ≡ true
deliverable_next told pulled front run beyond layers some passed =
    and_from (stands (last_pulled pulled) run) (is_ready (judged told pulled front run)) beyond (by run.key) where
      here : is_ready (judge_delta (sightings told) (map summary_of pulled) front run.first run.layers) ≡ true
      here = ap (λ o. is_ready (judge_delta (sightings told) (map summary_of pulled) front run.first o)) layers
          ∙ evident_ready (is_some_pulled (map summary_of pulled) && is_passed_before front run.first)
          (and_from (is_some_pulled (map summary_of pulled)) (is_passed_before front run.first)
          (some_told pulled ∙ some) (passed_told front run.first ∙ passed))

      by : (b : Bool) → is_ready
          (cond b Key (judge_delta (sightings told) (map summary_of pulled) front run.first run.layers)) ≡ true
      by true = refl
      by false = here

-- a deliverable run without layers that isn't key evidently follows the last frame pulled
next_evident : (told : Told) (pulled : List Run) (front : Option ℕ) (run : Run) →
    is_deliverable told pulled front run ≡ true → run.key ≡ false → run.layers ≡ None →
    (is_some (last_pulled pulled) ≡ true) × (is_passed front (run.first - 1) ≡ true)
next_evident told pulled front run h no_key layers =
    let ready : is_ready (judged told pulled front run) ≡ true =
    (and_parts (stands (last_pulled pulled) run) (is_ready (judged told pulled front run)) h).1 in
    let delta : is_ready (judge_delta (sightings told) (map summary_of pulled) front run.first run.layers) ≡ true =
    sym (ap (λ b. is_ready
    (cond b Key (judge_delta (sightings told) (map summary_of pulled) front run.first run.layers))) no_key) ∙ ready in
    let plain : is_ready (judge_delta (sightings told) (map summary_of pulled) front run.first None) ≡ true =
    sym (ap (λ o. is_ready (judge_delta (sightings told) (map summary_of pulled) front run.first o)) layers) ∙ delta in
    let both = and_parts (is_some_pulled (map summary_of pulled)) (is_passed_before front run.first)
    (ready_evident (is_some_pulled (map summary_of pulled) && is_passed_before front run.first) plain) in
    (sym (some_told pulled) ∙ both.0, sym (passed_told front run.first) ∙ both.1)

-- if a frame was pulled there is a last one
last_there : (runs : List Run) (run : Run) → Contains runs run → is_some (last_pulled runs) ≡ true
last_there [] run c = absurd (omega arith)
last_there (r ∷ rs) run c = refl

-- a number up to another, or after it
before_or_behind : (n m : ℕ) → (n ≤ m) ⊎ (m < n)
before_or_behind zero m = inl (omega arith)
before_or_behind (suc n) zero = inr (omega arith)
before_or_behind (suc n) (suc m) =
    elim (before_or_behind n m) [ inl upto ↦ inl (omega arith) | inr less ↦ inr (omega arith) ]

-- media is no FEC packet, and not empty
no_fec_text : (text payload : List ℕ) → contents.Media text ≡ contents.Fec payload → ⊥
no_fec_text text payload e = absurd (cc)

no_text : (text : List ℕ) → contents.Media text ≡ contents.Empty → ⊥
no_text text e = absurd (cc)

module _ (are : RunsAre) (settings : Settings) (codec : Meaning) (sender : Sender)
    (honest : HonestSender settings codec sender) where
  -- after the last frame pulled, and after the packets that are no parts and follow it, stands a first part
  passed_first : (js : List ℕ) (told : Told) (fs : List ℕ) (runs : List Run) (front : Option ℕ) (i n : ℕ)
      (s : IsSent settings codec sender honest i) → ArePulled settings codec sender honest js told fs runs →
      IsFrontOf sender js (last_pulled runs) front → IfSome (last_pulled runs) (λ last. last < n) →
      IsNumber sender js i n → is_passed front (n - 1) ≡ true → s.k ≡ 0
  passed_first js told [] [] front i n s pulled of beyond numbered passed =
      absurd (true≢false (sym passed ∙ ap (λ o. is_passed o (n - 1)) of))
  passed_first js told [] (run ∷ runs) front i n s pulled of beyond numbered passed = absurd pulled
  passed_first js told (f ∷ fs) [] front i n s pulled of beyond numbered passed = absurd pulled
  passed_first js told (f ∷ fs) (run ∷ runs) None i n s pulled of beyond numbered passed = absurd of
  passed_first js told (f ∷ fs) (run ∷ runs) (Some front) i n s pulled of beyond numbered passed =
      let p : IsPulled settings codec sender honest js told f run = pulled.0 in
      let upto : n - 1 ≤ front = leb-true (n - 1) front passed in
      elim (before_or_behind (n - 1) run.last) [
        | inl before ↦
            let behind : IsNumber sender js (p.numbered.to + 1) n =
            number_later sender js p.numbered.to run.last 1 (p.numbered.to + 1) n p.numbered.last_is refl
            (omega arith) in
            let same : i ≡ p.numbered.to + 1 = one-place sender js i (p.numbered.to + 1) n numbered behind in
            let span =
            one_span settings codec sender honest f p.sent p.numbered.from p.numbered.to p.is p.numbered.spans in
            behind_last settings codec sender honest i f p.sent p.is (same ∙ span.1) s
        | inr after ↦
            let e : (j : ℕ) × IsNumber sender js j (n - 1) × IsSomeAnd (slice_get sender.packets j) IsNoPart =
            of.1 (n - 1) after upto in
            let next : IsNumber sender js (e.0 + 1) n =
            number_later sender js e.0 (n - 1) 1 (e.0 + 1) n e.1 refl (omega arith) in
            after_other settings codec sender honest e.0 i e.2 (one-place sender js (e.0 + 1) i n next numbered) s
      ]

  -- a frame that follows another over packets that are no parts is the next
  next_over_others : (js : List ℕ) (k f : ℕ) (frame : SentFrame) (to last first : ℕ) →
      slice_get sender.frames f ≡ Some frame → k < f → IsNumber sender js to last →
      to + 1 ≡ honest.place k + size settings codec sender honest k → IsNumber sender js (honest.place f) first →
      last < first
      → ((m : ℕ) → last < m → m < first →
      (i : ℕ) × IsNumber sender js i m × IsSomeAnd (slice_get sender.packets i) IsNoPart) → k + 1 ≡ f
  next_over_others js k f frame to last first is less ends end_is numbered above empty =
      elim (before_or_behind f (k + 1)) [
        | inl upto ↦ omega arith
        | inr between ↦
            let within : f < length sender.frames = slice_get_within sender.frames f frame is in
            let before : honest.place k + size settings codec sender honest k ≤ honest.place (k + 1) =
            honest.in_order k (k + 1) (omega arith) (omega arith) in
            let after : honest.place (k + 1) + size settings codec sender honest (k + 1) ≤ honest.place f =
            honest.in_order (k + 1) f between within in
            let inside : k + 1 < length sender.frames = omega arith in
            let t : Travels settings codec sender (k + 1) _ (honest.place (k + 1)) (honest.parts (k + 1)) =
            frame_travels settings codec sender honest (k + 1) _
            (slice_get-get_or sender.frames (k + 1) frame inside) in
            let some : 0 < size settings codec sender honest (k + 1) = t.some in
            let d : ℕ = honest.place (k + 1) - to in
            let there : IsNumber sender js (honest.place (k + 1)) (last + d) =
            number_later sender js to last d (honest.place (k + 1)) (last + d) ends (omega arith) refl in
            let below : last + d < first = near_first (honest.place (k + 1)) (last + d) there (omega arith) in
            let p : (packet : SentPacket) × (slice_get sender.packets (honest.place (k + 1)) ≡ Some packet)
            × IsNoPart packet = some_there IsNoPart (slice_get sender.packets (honest.place (k + 1)))
            (at_other (honest.place (k + 1)) (last + d) there (omega arith) below) in
            absurd (part-of (k + 1) p.0 p.2
            (some_holds (IsOf (k + 1)) (slice_get sender.packets (honest.place (k + 1))) p.0 p.1
            (((frame_spans settings codec sender honest (k + 1) _
            (slice_get-get_or sender.frames (k + 1) frame inside)).exactly (honest.place (k + 1))).1
            (omega arith, omega arith))))
      ] where
        at_other : (i m : ℕ) → IsNumber sender js i m → last < m → m < first →
            IsSomeAnd (slice_get sender.packets i) IsNoPart
        at_other i m at_i above below =
            let e : (j : ℕ) × IsNumber sender js j m × IsSomeAnd (slice_get sender.packets j) IsNoPart =
            empty m above below in
            subst (λ (j : ℕ). IsSomeAnd (slice_get sender.packets j) IsNoPart) (one-place sender js e.0 i m e.1 at_i) e.2

        near_first : (i m : ℕ) → IsNumber sender js i m → i + 1 ≤ honest.place f → m < first
        near_first i m at_i less =
            let near : m < first + 0 =
            near-number sender js (honest.place f) i first m 0 numbered at_i (omega arith) in
            omega arith

  module _ (h : List Event) (origins : List Origin) where
    -- which numbers stood right after the end of a frame at some time
    abbrev began : ℕ → Bool
    began = began_after_end (times (snapshots settings codec h))

    -- the packets now
    abbrev packets_now : Packets
    packets_now = (latest (snapshots settings codec h)).window.packets

    -- the places told, and the frames pulled
    abbrev told_now : Told
    told_now = (latest (snapshots settings codec h)).told

    abbrev runs_pulled : List Run
    runs_pulled = (latest (snapshots settings codec h)).pulled

    -- the runs that stand now
    abbrev pub runs_now : List Run
    runs_now = (latest (snapshots settings codec h)).standing

    -- the last number of the last frame pulled, and the front
    abbrev pub pulled_now : Option ℕ
    pulled_now = last_pulled (latest (snapshots settings codec h)).pulled

    abbrev pub front_now : Option ℕ
    front_now = (latest (snapshots settings codec h)).front

    -- the numbers repaired
    abbrev rep : ℕ → Type 0
    rep = IsRepaired (snapshots settings codec h)

    -- the packets taken
    abbrev js : List ℕ
    js = packets_taken settings codec h origins

    module _ (fs : List ℕ) (holds : Holds settings codec sender honest (snapshots settings codec h)
        (packets_taken settings codec h origins) fs) where
      -- an available number isn't the first of all
      from_one : (n : ℕ) → is_available n packets_now ≡ true → 1 ≤ n
      from_one n available = by_taken js (latest (snapshots settings codec h)).window.newest holds.took.here.newest
          (holds.took.here.keeps.from n available) where
            by_taken : (taken : List ℕ) (o : Option ℕ) → IsNewestOf sender taken o →
                (i : ℕ) × Came taken (IsRepaired (snapshots settings codec h)) i n × IsNumber sender taken i n
                × (greatest taken < i + WINDOW) → 1 ≤ n
            by_taken [] o newest p = absurd p.2
            by_taken (j ∷ others) o newest p =
                let least : 65536 ≤ newest.0 = newest.2 in
                let near : newest.0 < n + WINDOW =
                near-number sender (j ∷ others) p.0 (greatest (j ∷ others)) n newest.0 WINDOW p.2 newest.3 p.3 in
                omega arith

      -- beyond the frames pulled none but a first part stands after the end of a frame
      first_behind : (from : ℕ) → IfSome pulled_now (λ last. last < from) →
          FirstBehind settings codec sender js packets_now holds.took.here.kept honest front_now began from
      first_behind from beyond i n upto available numbered sent behind =
          elim (or_cases (is_passed front_now (n - 1)) (began n) behind) [
            | inl passed ↦ passed_first js told_now fs
                (latest (snapshots settings codec h)).pulled front_now i n sent holds.pulled holds.front
                (further pulled_now beyond) numbered passed
            | inr stood ↦ began_first settings codec sender honest js (snapshots settings codec h) i n sent
                (from_one n available) holds.took.were numbered stood
          ] where
            further : (o : Option ℕ) → IfSome o (λ last. last < from) → IfSome o (λ last. last < n)
            further None less = tt
            further (Some last) less = omega (arith, less, upto)

      -- a run that stands is a whole frame, beyond the last frame pulled
      stood : (run : Run) → Contains runs_now run →
          IsRunNow codec (snapshots settings codec h) run × (stands pulled_now run ≡ true)
      stood run there = standing-from are codec (snapshots settings codec h) (standing_is settings codec h) run there

      -- a run that stands is a frame of the sender
      pub frame_is : (run : Run) → Contains runs_now run → (f : ℕ) × IsFrameRun sender js f run
      frame_is run there = run-frame settings codec sender js packets_now holds.took.here.kept honest rep
          told_now holds.took.here.keeps holds.took.told front_now began run
          (first_behind run.first (stands-beyond pulled_now run (stood run there).1)) (stood run there).0

      -- if it is evident that a frame begins with its first packet, its first part is a start
      evident_begins : (f first : ℕ) (frame : SentFrame) → slice_get sender.frames f ≡ Some frame →
          IsNumber sender js (honest.place f) first → 1 ≤ first →
          BeginsEvidently settings codec sender h (honest.place f) first
          → (c : CarriedPart) → IsPart settings codec sender f frame (size settings codec sender honest f) 0
          (honest.place f) c → begins c.part.start (is_behind front_now began first) ≡ true
      evident_begins f first frame is numbered from evident c part =
          first_begins settings codec sender honest f (size settings codec sender honest f) (honest.place f) frame c
          (is_behind front_now began first) part (elim evident [
            | inl says ↦ inl (says_yes settings codec sender honest f (size settings codec sender honest f) 0
                (honest.place f) frame c part says)
            | inr other ↦ inr (elim other [
              | inl passed ↦ or_left (is_passed front_now (first - 1)) (began first) passed
              | inr beside ↦ or_right (is_passed front_now (first - 1)) (began first)
                  (were_behind settings codec sender honest js f frame first
                  (snapshots settings codec h) is from holds.took.were numbered beside)
            ])
          ])

      -- its first number is that of the frame's first packet
      pub first_place : (f : ℕ) (run : Run) (is : IsFrameRun sender js f run) →
          IsNumber sender js (honest.place f) run.first
      first_place f run is = subst (λ (i : ℕ). IsNumber sender js i run.first)
          (one_span settings codec sender honest f is.frame is.numbered.from is.numbered.to is.sent
          is.numbered.spans).0 is.numbered.first_is

      -- a frame that stands complete, as a run that stands
      pub record IsRunOf (f first : ℕ) : Type 0 where
        pub run : Run
        pub there : Contains runs_now run
        pub beyond : stands pulled_now run ≡ true
        pub is_frame : IsFrameRun sender js f run
        pub first_is : run.first ≡ first

      -- a frame that stands complete is a run that stands
      pub complete_run : (f : ℕ) (c : StandsComplete settings codec sender h origins f) → IsRunOf f c.first
      complete_run f c =
          let pulled : List Run = (latest (snapshots settings codec h)).pulled in
          let span =
          one_span settings codec sender honest f c.frame c.numbered.from c.numbered.to c.sent c.numbered.spans in
          let first : IsNumber sender js (honest.place f) c.first =
          subst (λ (i : ℕ). IsNumber sender js i c.first) span.0 c.numbered.first_is in
          let t : Travels settings codec sender f c.frame (honest.place f) (honest.parts f) =
          frame_travels settings codec sender honest f c.frame c.sent in
          let some : 0 < length (honest.parts f) = t.some in
          let to_is : c.numbered.to + 1 ≡ honest.place f + length (honest.parts f) = span.1 in
          let last : IsNumber sender js c.numbered.to (c.first + length (honest.parts f) - 1) =
          number_later sender js (honest.place f) c.first (length (honest.parts f) - 1) c.numbered.to
          (c.first + length (honest.parts f) - 1) first (omega arith) (omega arith) in
          let last_is : c.last ≡ c.first + length (honest.parts f) - 1 =
          one-number sender js c.numbered.to c.last
          (c.first + length (honest.parts f) - 1) c.numbered.last_is last in
          let run : Run =
          frame_run settings codec sender js packets_now holds.took.here.kept told_now c.frame c.first
          (honest.parts f) in
          let beyond : stands pulled_now run ≡ true =
          stands_from pulled_now run (beyond-last pulled c.first c.beyond) in
          record {
            run = run;
            there = standing-to are codec (snapshots settings codec h) (standing_is settings codec h) run
                (frame-run settings codec sender js packets_now holds.took.here.kept honest told_now front_now
                began f c.frame c.first c.sent
                (first_behind c.first (beyond-last pulled c.first c.beyond))
                (evident_begins f c.first c.frame c.sent first
                (from_one c.first (c.available c.first (omega arith) (omega arith)))
                (subst (λ (i : ℕ). BeginsEvidently settings codec sender h i c.first) span.0 c.begins))
                first (λ n from upto. c.available n from (omega arith))) beyond;
            beyond = beyond;
            is_frame = record {
              frame = c.frame;
              sent = c.sent;
              numbered = record {
                from = c.numbered.from;
                to = c.numbered.to;
                spans = c.numbered.spans;
                first_is = c.numbered.first_is;
                last_is = last;
              };
              ts = refl;
              key = refl;
              bytes = refl;
              layers = same-place sender js rep told_now holds.took.told (honest.place f) c.first f c.frame c.sent
                  (available-came sender js rep packets_now (honest.place f) c.first holds.took.here.keeps first
                  (c.available c.first (omega arith) (omega arith))) first
                  (((frame_spans settings codec sender honest f c.frame c.sent).exactly (honest.place f)).1
                  (omega arith, omega (arith, some)));
            };
            first_is = refl;
          }

      -- if the numbers between a frame that was pulled and another one are passed, so is that before the other
      was_passed : (g first : ℕ) (was : WasPulled settings codec sender h origins g) → was.run.last < first →
          IsPassedUpTo settings codec sender h origins g first → is_passed front_now (first - 1) ≡ true
      was_passed g first was less passed = elim (before_or_behind (first - 1) was.run.last) [
        | inl upto ↦ pulled-passed are settings codec h was.run (first - 1) was.pulled upto
        | inr after ↦ passed was (first - 1) after (omega arith)
      ]

      -- each number of a whole frame is available
      run_available : (run : Run) → IsRunNow codec (snapshots settings codec h) run → (n : ℕ) → run.first ≤ n →
          n ≤ run.last → is_available n packets_now ≡ true
      run_available run r n from upto =
          let to : run.first + length r.pieces ≡ run.last + 1 = r.to_last in
          pieces-present codec packets_now run.first n r.pieces r.from_first from (omega arith)

      first_available : (run : Run) → IsRunNow codec (snapshots settings codec h) run →
          is_available run.first packets_now ≡ true
      first_available run r = run_available run r run.first (omega arith) r.not_empty

      -- a frame that stands comes after those that were pulled
      stands_later : (f : ℕ) (run : Run) → IsFrameRun sender js f run → stands pulled_now run ≡ true →
          bound_of settings codec sender honest fs ≤ f
      stands_later f run is beyond = bound_upto settings codec sender honest js told_now fs runs_pulled f is.frame run
          holds.pulled is.sent (first_place f run is) beyond

      beyond_pulled : (f : ℕ) (run : Run) → IsFrameRun sender js f run → stands pulled_now run ≡ true → (g : ℕ) →
          Contains fs g → g < f
      beyond_pulled f run is beyond g there =
          below_bound settings codec sender honest fs f g holds.fall (stands_later f run is beyond) there

      -- the first frame is a keyframe
      first_is_key : (frame : SentFrame) → slice_get sender.frames 0 ≡ Some frame → frame.key ≡ true
      first_is_key frame there = some_if (λ x. x.key ≡ true) (slice_get sender.frames 0) frame there honest.from_key

      -- of frames without layers each that is no keyframe has the one before it as its rule reference, and no other
      module _ (none : HaveNoLayers sender.frames) (f : ℕ) (frame : SentFrame)
          (there : slice_get sender.frames f ≡ Some frame) where
        no_layers : frame.layers ≡ None
        no_layers = some_if (λ x. x.layers ≡ None) (slice_get sender.frames f) frame there (none f)

        refers_before : (g : ℕ) → frame.key ≡ false → g + 1 ≡ f → IsRuleReference sender f g
        refers_before g is at = some_from (λ x. (x.key ≡ false) × RefersTo sender.frames x.layers f g)
            (slice_get sender.frames f) frame there
            (is, subst (λ (o : Option Place). RefersTo sender.frames o f g) (sym no_layers) at)

        before_refers : (g : ℕ) → IsRuleReference sender f g → (frame.key ≡ false) × (g + 1 ≡ f)
        before_refers g reference =
            let both : (frame.key ≡ false) × RefersTo sender.frames frame.layers f g =
            some_holds (λ x. (x.key ≡ false) × RefersTo sender.frames x.layers f g) (slice_get sender.frames f) frame
            there reference in
            (both.0, subst (λ (o : Option Place). RefersTo sender.frames o f g) no_layers both.1)

        has_before : frame.key ≡ false → (g : ℕ) × IsRuleReference sender f g
        has_before is = by f refl where
          by : (k : ℕ) → f ≡ k → (g : ℕ) × IsRuleReference sender f g
          by zero at = absurd (true≢false
              (sym (first_is_key frame (ap (slice_get sender.frames) (sym at) ∙ there)) ∙ is))
          by (suc k) at = (k, refers_before k is (omega (arith, at)))

      -- each frame that is no keyframe has a rule reference
      some_reference : (f : ℕ) (frame : SentFrame) → slice_get sender.frames f ≡ Some frame → frame.key ≡ false →
          (g : ℕ) × IsRuleReference sender f g
      some_reference f frame there is = elim honest.layers [
        | inl keeps ↦
            let p : (place : Place) × (layers_at sender.frames f ≡ Some place) × (place.tl0 < 256)
            × (IsKey sender.frames f → place.tid ≡ 0) =
            placed sender.frames keeps f (slice_get_within sender.frames f frame there) in
            has_reference sender keeps honest.from_key f p.0 p.1
            (λ key. true≢false (sym (some_holds (λ x. x.key ≡ true) (slice_get sender.frames f) frame there key) ∙ is))
        | inr none ↦ has_before none f frame there is
      ]

      -- the run of a ready frame is deliverable
      module _ (f : ℕ) (ready : Ready settings codec sender h origins f) (r : IsRunOf f ready.complete.first) where
        abbrev c : StandsComplete settings codec sender h origins f
        c = ready.complete

        now : IsRunNow codec (snapshots settings codec h) r.run
        now = (stood r.run r.there).0

        same_frame : c.frame ≡ r.is_frame.frame
        same_frame = same_Some c.frame r.is_frame.frame (sym c.sent ∙ r.is_frame.sent)

        module _ (delta : r.is_frame.frame.key ≡ false) where
          evident : IsEvident settings codec sender h origins f r.run.first r.is_frame.frame.layers
          evident = subst (λ (x : SentFrame). IsEvident settings codec sender h origins f r.run.first x.layers)
              same_frame (subst (λ (n : ℕ). IsEvident settings codec sender h origins f n c.frame.layers)
              (sym r.first_is) (ready.evident (ap (λ (x : SentFrame). x.key) same_frame ∙ delta)))

          -- with layers
          layers_deliverable : KeepsLayers sender.frames → is_deliverable told_now runs_pulled front_now r.run ≡ true
          layers_deliverable keeps =
              layers-to settings codec sender honest h origins fs holds r.run f r.is_frame.frame r.is_frame.sent
              r.is_frame.numbered r.is_frame.key now.layers (first_available r.run now) keeps delta
              (beyond_pulled f r.run r.is_frame r.beyond) r.beyond evident
              (λ g reference. was-from settings codec sender honest h origins fs holds g (ready.pulled g reference))

          -- and without
          none_deliverable : HaveNoLayers sender.frames → is_deliverable told_now runs_pulled front_now r.run ≡ true
          none_deliverable none =
              let g : (g : ℕ) × IsRuleReference sender f g = has_before none f r.is_frame.frame r.is_frame.sent delta in
              let at : g.0 + 1 ≡ f = (before_refers none f r.is_frame.frame r.is_frame.sent g.0 g.1).1 in
              let was : WasPulled settings codec sender h origins g.0 = ready.pulled g.0 g.1 in
              let passed : IsPassedUpTo settings codec sender h origins g.0 r.run.first =
              subst (λ (o : Option Place). IsEvident settings codec sender h origins f r.run.first o)
              (no_layers none f r.is_frame.frame r.is_frame.sent) evident g.0 at in
              let less : was.run.last < r.run.first =
              subst (λ (n : ℕ). was.run.last < n) (sym r.first_is)
              (of_all (λ x. x.last < c.first) runs_pulled was.run c.beyond was.pulled) in
              deliverable_next told_now runs_pulled front_now r.run r.beyond
              (run_none settings codec sender honest h origins fs holds r.run f r.is_frame.frame r.is_frame.sent
              r.is_frame.numbered r.is_frame.key now.layers (first_available r.run now) none)
              (last_there runs_pulled was.run was.pulled)
              (was_passed g.0 r.run.first was less passed)

        ready_deliverable : is_deliverable told_now runs_pulled front_now r.run ≡ true
        ready_deliverable = by_key r.is_frame.frame.key refl where
          by_key : (b : Bool) → r.is_frame.frame.key ≡ b → is_deliverable told_now runs_pulled front_now r.run ≡ true
          by_key true is = deliverable_key told_now runs_pulled front_now r.run r.beyond (r.is_frame.key ∙ is)
          by_key false is = elim honest.layers [
            | inl keeps ↦ layers_deliverable is keeps
            | inr none ↦ none_deliverable is none
          ]

      -- if no run is deliverable, no frame is ready
      pub none_ready : answer told_now runs_pulled front_now runs_now ≡ None → (f : ℕ) →
          Ready settings codec sender h origins f → ⊥
      none_ready none f ready =
          let r : IsRunOf f ready.complete.first = complete_run f ready.complete in
          both_ways (is_deliverable told_now runs_pulled front_now r.run)
          (answer-none told_now runs_pulled front_now runs_now none r.run r.there) (ready_deliverable f ready r)

      module _ (run : Run) (is : answer told_now runs_pulled front_now runs_now ≡ Some run) (f : ℕ)
          (is_frame : IsFrameRun sender js f run) where
        -- the run that a pull answers is deliverable, and stands
        pub answer_deliverable : is_deliverable told_now runs_pulled front_now run ≡ true
        answer_deliverable = (answer-given told_now runs_pulled front_now runs_now run is).1

        pub answer_stands : stands pulled_now run ≡ true
        answer_stands = (and_parts (stands pulled_now run) _ answer_deliverable).0

        -- it is a whole frame
        answer_run : IsRunNow codec (snapshots settings codec h) run
        answer_run = (stood run (answer-given told_now runs_pulled front_now runs_now run is).0).0

        -- each of its numbers is available
        answer_available : (n : ℕ) → run.first ≤ n → n ≤ run.last → is_available n packets_now ≡ true
        answer_available = run_available run answer_run

        -- if the frames have layers, it is evident to what it refers, and that was pulled
        layers_known : KeepsLayers sender.frames → is_frame.frame.key ≡ false →
            IsEvident settings codec sender h origins f run.first is_frame.frame.layers
            × ((g : ℕ) → IsRuleReference sender f g → Contains fs g)
        layers_known keeps delta =
            layers-from settings codec sender honest h origins fs holds run f is_frame.frame is_frame.sent
            is_frame.numbered is_frame.key answer_run.layers (first_available run answer_run) keeps delta
            (beyond_pulled f run is_frame answer_stands) answer_deliverable

        -- if they have none, it evidently follows the last frame pulled
        follows_last : HaveNoLayers sender.frames → is_frame.frame.key ≡ false →
            (is_some pulled_now ≡ true) × (is_passed front_now (run.first - 1) ≡ true)
        follows_last none delta = next_evident told_now runs_pulled front_now run answer_deliverable
            (is_frame.key ∙ delta)
            (run_none settings codec sender honest h origins fs holds run f is_frame.frame is_frame.sent
            is_frame.numbered is_frame.key answer_run.layers (first_available run answer_run) none)

        -- which is its rule reference
        none_among : HaveNoLayers sender.frames → is_frame.frame.key ≡ false → (g : ℕ) → g + 1 ≡ f → Contains fs g
        none_among none delta g at =
            by_runs fs runs_pulled front_now holds.pulled holds.front refl refl refl where
              last : (is_some pulled_now ≡ true) × (is_passed front_now (run.first - 1) ≡ true)
              last = follows_last none delta

              by_runs : (places : List ℕ) (runs : List Run) (front : Option ℕ) →
                  ArePulled settings codec sender honest js told_now places runs →
                  IsFrontOf sender js (last_pulled runs) front →
                  front_now ≡ front → runs_pulled ≡ runs → fs ≡ places → Contains fs g
              by_runs [] [] front p of same there those =
                  absurd (true≢false (sym last.0 ∙ ap (λ rs. is_some (last_pulled rs)) there))
              by_runs [] (old ∷ runs) front p of same there those = absurd p
              by_runs (k ∷ ks) [] front p of same there those = absurd p
              by_runs (k ∷ ks) (old ∷ runs) None p of same there those = absurd of
              by_runs (k ∷ ks) (old ∷ runs) (Some front) p of same there those =
                  let beyond : old.last < run.first =
                  subst (λ rs. IfSome (last_pulled rs) (λ last. last < run.first)) there
                  (stands-beyond pulled_now run answer_stands) in
                  let passed : run.first - 1 ≤ front =
                  leb-true (run.first - 1) front (sym (ap (λ o. is_passed o (run.first - 1)) same) ∙ last.1) in
                  let less : k < f = frame_after settings codec sender honest js k f p.0.sent is_frame.frame old.first
                  old.last run.first p.0.is p.0.numbered is_frame.sent (first_place f run is_frame) beyond in
                  let span = one_span settings codec sender honest k p.0.sent p.0.numbered.from p.0.numbered.to p.0.is
                  p.0.numbered.spans in
                  let k_is : k + 1 ≡ f = next_over_others js k f is_frame.frame p.0.numbered.to old.last run.first
                  is_frame.sent less p.0.numbered.last_is span.1 (first_place f run is_frame) beyond
                  (λ m above below. of.1 m above (omega arith)) in
                  let same_place : k ≡ g = omega arith in
                  subst (λ xs. Contains xs g) (sym those)
                  (subst (λ (x : ℕ). Contains (k ∷ ks) x) same_place (Contains-head k ks))

        -- each rule reference of the frame was pulled
        reference_among : (g : ℕ) → IsRuleReference sender f g → Contains fs g
        reference_among g reference = elim honest.layers [
          | inl keeps ↦ (layers_known keeps (some_holds (λ x. (x.key ≡ false) × RefersTo sender.frames x.layers f g)
              (slice_get sender.frames f) is_frame.frame is_frame.sent reference).0).1 g reference
          | inr none ↦
              let before : (is_frame.frame.key ≡ false) × (g + 1 ≡ f) =
              before_refers none f is_frame.frame is_frame.sent g reference in
              none_among none before.0 g before.1
        ]

        -- and it is evident to what it refers
        answer_evident : is_frame.frame.key ≡ false →
            IsEvident settings codec sender h origins f run.first is_frame.frame.layers
        answer_evident delta = elim honest.layers [
          | inl keeps ↦ (layers_known keeps delta).0
          | inr none ↦ subst (λ (o : Option Place). IsEvident settings codec sender h origins f run.first o)
              (sym (no_layers none f is_frame.frame is_frame.sent))
              (λ g at was n above below. passed-upto front_now (run.first - 1) n
              (follows_last none delta).1 (omega (arith, below)))
        ]

        -- its chain was pulled
        pub answer_chain : (g : ℕ) → InChain sender f g → Contains fs g
        answer_chain g chain = by_way chain.0 chain.1 where
          by_way : (way : List ℕ) → Leads sender f way g → Contains fs g
          by_way [] leads = reference_among g leads
          by_way (k ∷ ks) leads = holds.closed k g (reference_among k leads.0) (ks, leads.1)

        -- and so were its references
        pub answer_references : IfSome (slice_get sender.frames f)
            (λ frame. All (λ g. Contains fs g) frame.references)
        answer_references = by_frame (slice_get sender.frames f) (honest.references f) where
          by_frame : (o : Option SentFrame) → IfSome o (λ frame. All (λ g. InChain sender f g) frame.references) →
              IfSome o (λ frame. All (λ g. Contains fs g) frame.references)
          by_frame None each = tt
          by_frame (Some frame) each =
              all_more (λ g. InChain sender f g) (λ g. Contains fs g) frame.references answer_chain each

        -- a start that the packet before decides
        behind_evident : (i n : ℕ) → is_behind front_now began n ≡ true → BeginsEvidently settings codec sender h i n
        behind_evident i n behind = elim (or_cases (is_passed front_now (n - 1)) (began n) behind) [
          | inl passed ↦ inr (inl passed)
          | inr stood_behind ↦
              let t : (packets : Packets) × Contains (times (snapshots settings codec h)) packets
              × (stands_after_end n packets ≡ true) =
              list_any-from (stands_after_end n) (times (snapshots settings codec h)) stood_behind in
              let both : (is_available n t.0 ≡ true) × (option_map_or ends_frame (at (n - 1) t.0) false ≡ true) =
              and_parts _ _ t.2 in
              inr (inr (t.0, t.1, both.0, ap is_some (there_tested ends_frame (at (n - 1) t.0) both.1).1))
        ]

        -- the packet of a piece that is a start begins a frame evidently
        piece_evident : (i n : ℕ) (p : Piece) → IsNumber sender js i n → IsPiece codec packets_now n p →
            is_start front_now began p ≡ true → BeginsEvidently settings codec sender h i n
        piece_evident i n p numbered piece start = by_start p.part.start refl where
          says : (packet : SentPacket) → at n packets_now ≡ Some (content_sent packet) → p.part.start ≡ Yes →
              SaysStart codec packet
          says (Media g k text) there start_is =
              let same : piece.text ≡ text =
              ap media_text (same_Some (contents.Media piece.text) (contents.Media text)
              (sym piece.media ∙ there)) in
              (p.packet, p.part, sym (ap read same) ∙ piece.reads, piece.part_reads, start_is)
          says (Fec payload) there start_is =
              absurd (no_fec_text piece.text payload
              (same_Some (contents.Media piece.text) (contents.Fec payload) (sym piece.media ∙ there)))
          says Empty there start_is =
              absurd (no_text piece.text
              (same_Some (contents.Media piece.text) contents.Empty (sym piece.media ∙ there)))

          sent_says : p.part.start ≡ Yes → IsSomeAnd (slice_get sender.packets i) (SaysStart codec)
          sent_says start_is =
              let packets : Packets = packets_now in
              let k = kept-there sender js n packets holds.took.here.kept (ap is_some piece.media) in
              let q : (packet : SentPacket) × (slice_get sender.packets k.0 ≡ Some packet)
              × (at n packets ≡ Some (content_sent packet)) =
              some_there (λ packet. at n packets ≡ Some (content_sent packet))
              (slice_get sender.packets k.0) k.2 in
              subst (λ (x : ℕ). IsSomeAnd (slice_get sender.packets x) (SaysStart codec))
              (one-place sender js k.0 i n k.1 numbered)
              (some_from (SaysStart codec) (slice_get sender.packets k.0) q.0 q.1 (says q.0 q.2 start_is))

          by_start : (x : Start) → p.part.start ≡ x → BeginsEvidently settings codec sender h i n
          by_start Yes is = inl (sent_says is)
          by_start No is =
              absurd (true≢false (sym start ∙ ap (λ x. begins x (is_behind front_now began p.number)) is))
          by_start ByNeighbour is =
              behind_evident i n (ap (is_behind front_now began) (sym piece.number)
              ∙ sym (ap (λ x. begins x (is_behind front_now began p.number)) is) ∙ start)

        -- it is evident where it begins
        answer_begins : (i : ℕ) → IsNumber sender js i run.first → BeginsEvidently settings codec sender h i run.first
        answer_begins i numbered = by_pieces answer_run answer_run.pieces refl where
          by_pieces : (r : IsRunNow codec (snapshots settings codec h) run) (xs : List Piece) → r.pieces ≡ xs →
              BeginsEvidently settings codec sender h i run.first
          by_pieces r [] none =
              let to : run.first + length r.pieces ≡ run.last + 1 = r.to_last in
              let empty : length r.pieces ≡ 0 = ap length none in
              let within : run.first ≤ run.last = r.not_empty in
              absurd (omega arith)
          by_pieces r (p ∷ ps) those =
              let piece : IsPiece codec packets_now run.first p =
              (subst (ArePieces codec packets_now run.first) those r.from_first).0 in
              let start : AllByRecursion (λ q. (is_start front_now began q ≡ true) ↔ (q.number ≡ run.first))
              (p ∷ ps) = subst (AllByRecursion
              (λ q. (is_start front_now began q ≡ true) ↔ (q.number ≡ run.first))) those
              (recursion_from_All _ r.pieces r.start) in
              piece_evident i run.first p numbered piece (start.0.1 piece.number)

        -- it is ready
        answer_ready : Ready settings codec sender h origins f
        answer_ready = record {
          complete = record {
            frame = is_frame.frame;
            sent = is_frame.sent;
            first = run.first;
            last = run.last;
            numbered = is_frame.numbered;
            available = answer_available;
            beyond = beyond-every are settings codec h run.first (stands-beyond pulled_now run answer_stands);
            begins = answer_begins is_frame.numbered.from is_frame.numbered.first_is;
          };
          pulled = λ g reference.
              was-to settings codec sender honest h origins fs holds g (reference_among g reference);
          evident = answer_evident;
        }

        -- no earlier frame is ready
        answer_first : (g : ℕ) → Ready settings codec sender h origins g → f ≤ g
        answer_first g ready =
            let r : IsRunOf g ready.complete.first = complete_run g ready.complete in
            let upto : run.first ≤ r.run.first =
            answer-least told_now runs_pulled front_now runs_now run r.run is r.there (ready_deliverable g ready r) in
            frame_upto settings codec sender honest f g r.is_frame.frame r.is_frame.sent
            (slice_get_within sender.frames f is_frame.frame is_frame.sent)
            (IsNumber-upto sender js (honest.place f) (honest.place g) run.first r.run.first
            (first_place f run is_frame) (first_place g r.run r.is_frame) upto)

        -- it is the least ready frame
        pub answer_least : IsLeastReady settings codec sender h origins (frame_of run) f
        unfolding answer_ready
        answer_least = record {
          ready = answer_ready;
          least = answer_first;
          first = refl;
          last = refl;
          sent = record { ts = is_frame.ts; key = is_frame.key; bytes = is_frame.bytes };
          kept = available-unbroken are settings codec sender h origins f run.first run.last is_frame.numbered
              answer_available;
          chain_kept = λ g chain. pulled-unbroken are settings codec sender h origins g
              (was-to settings codec sender honest h origins fs holds g (answer_chain g chain));
        }

        -- it is the sender's frame of this place
        pub answer_sent : IsSomeAnd (slice_get sender.frames f) (λ sent. IsSentFrame sent (frame_of run))
        answer_sent = subst (λ (o : Option SentFrame). IsSomeAnd o (λ sent. IsSentFrame sent (frame_of run)))
            (sym is_frame.sent) (record { ts = is_frame.ts; key = is_frame.key; bytes = is_frame.bytes })

        -- it comes after those that were pulled
        pub answer_later : bound_of settings codec sender honest fs ≤ f
        answer_later = stands_later f run is_frame answer_stands

        -- it is then the last frame pulled
        pub answer_pulled : IsPulled settings codec sender honest js told_now f run
        answer_pulled = run_pulled settings codec sender honest h origins fs holds run f is_frame.frame is_frame.sent
            is_frame.numbered is_frame.key answer_run.layers (first_available run answer_run)

        -- the first frame pulled is a keyframe
        pub answer_key : fs ≡ [] → run.key ≡ true
        answer_key none = by_key run.key refl where
          by_key : (b : Bool) → run.key ≡ b → b ≡ true
          by_key true is = refl
          by_key false is =
              let g : (g : ℕ) × IsRuleReference sender f g =
              some_reference f is_frame.frame is_frame.sent (sym is_frame.key ∙ is) in
              absurd (Contains-empty g.0 (subst (λ (xs : List ℕ). Contains xs g.0) none (reference_among g.0 g.1)))
