-- What holds of the machine's state after each event of an honest call.
use Rattle.std.proofs.Common.{◌≡◌, ℕ, ◌+◌, ◌<◌, ◌≤◌, true, if◌then◌else◌, List, [], ◌∷◌, slice_get, Contains, inl, inr, Some, None, IfSome, is_ok, Result, Ok, Err, refl, sym, ap, subst, arith}
use Rattle.std.proofs.lemmas.Option.{slice_get_within}
use Rattle.vrx_codec.specs.Meaning.{Meaning}
use Rattle.vrx_codec.specs.declared.run.Place.{Place}
use Rattle.vrx_window.specs.Content.{Content}
use Rattle.vrx_frames.specs.Run.{Run, stands}
use Rattle.vrx_core.specs.machine.Machine.{Snapshot, opening, latest, last_pulled, source_in, after_datagram, after_tick, after_pull}
use Rattle.vrx_window.specs.Window.{after_placing}
use Rattle.vrx_repair.specs.Plan.{repairs_in}
use Rattle.vrx_core.specs.machine.Told.{Told}
use Rattle.vrx_core.specs.honest.Sender.{SentFrame, Sender}
use Rattle.vrx_core.specs.honest.Layers.{layers_at}
use Rattle.vrx_core.specs.honest.HonestSender.{Travels, HonestSender}
use Rattle.vrx_core.specs.honest.Chain.{InChain}
use Rattle.vrx_core.specs.honest.Ready.{IsNumber, HasNumbers}
use Rattle.vrx_core.specs.declared.settings.Settings.{Settings}
use Rattle.vrx_core.specs.declared.original.NotTaken.{NotTaken}
use Rattle.vrx_core.proofs.machine.MemberLemmas.{Contains-either, Contains-empty, Contains-tail}
use Rattle.vrx_core.proofs.machine.PulledLemmas.{stands-beyond}
use Rattle.vrx_core.proofs.honest.NumberLemmas.{IsNumber-grown, IsNumber-below}
use Rattle.vrx_core.proofs.honest.PartLemmas.{frame_travels, frame_upto, one_span, size}
use Rattle.vrx_core.proofs.honest.TookLemmas.{Took}
use Rattle.vrx_core.proofs.honest.ToldLemmas.{told-stays}
use Rattle.vrx_core.proofs.honest.SightLemmas.{Fall}
use Rattle.vrx_core.proofs.honest.FrontLemmas.{IsFrontOf, front-grown, front-moves, front-stays}

module _ (settings : Settings) (codec : Meaning) (sender : Sender) (honest : HonestSender settings codec sender) where
  -- a frame pulled is the sender's frame f; if this has layers, the run has the place that its first number told
  pub record IsPulled (js : List ℕ) (told : Told) (f : ℕ) (run : Run) : Type 0 where
    pub sent : SentFrame
    pub is : slice_get sender.frames f ≡ Some sent
    pub numbered : HasNumbers sender js f run.first run.last
    pub key : run.key ≡ sent.key
    pub placed : (place : Place) → layers_at sender.frames f ≡ Some place →
        (known : Place) × (run.layers ≡ Some known) × Contains told (run.first, known)

  -- the frames pulled are the sender's of these places, both the newest first
  abbrev pub ArePulled : List ℕ → Told → List ℕ → List Run → Type 0
  ArePulled js told [] [] = Unit {0}
  ArePulled js told (f ∷ fs) (run ∷ runs) = IsPulled js told f run × ArePulled js told fs runs
  ArePulled js told [] (run ∷ runs) = ⊥
  ArePulled js told (f ∷ fs) [] = ⊥

  -- each packet taken has a number
  abbrev pub AreCounted : List ℕ → Type 0
  AreCounted js = (i : ℕ) → Contains js i → (n : ℕ) × IsNumber sender js i n

  -- with a frame its chain is among these
  abbrev pub Closed : List ℕ → Type 0
  Closed fs = (f g : ℕ) → Contains fs f → InChain sender f g → Contains fs g

  -- after these packets were taken the window has them; the frames pulled have these places, one before the other, and
  -- are closed under their chains; and the front lies after them over empty packets
  pub record Holds (past : List Snapshot) (js fs : List ℕ) : Type 0 where
    pub took : Took sender past js
    pub counted : AreCounted js
    pub pulled : ArePulled js (latest past).told fs (latest past).pulled
    pub fall : Fall fs
    pub closed : Closed fs
    pub front : IsFrontOf sender js (last_pulled (latest past).pulled) (latest past).front

  -- the frames pulled stay the sender's when one more packet is taken, and more is told
  pulled_grown : (i : ℕ) (js : List ℕ) (told after : Told) (fs : List ℕ) (runs : List Run) →
      ((entry : ℕ × Place) → Contains told entry → Contains after entry) → ArePulled js told fs runs →
      ArePulled (i ∷ js) after fs runs
  pulled_grown i js told after [] [] stays p = tt
  pulled_grown i js told after [] (run ∷ runs) stays p = absurd p
  pulled_grown i js told after (f ∷ fs) [] stays p = absurd p
  pulled_grown i js told after (f ∷ fs) (run ∷ runs) stays p =
      let n : HasNumbers sender js f run.first run.last = p.0.numbered in (
        record {
          sent = p.0.sent;
          is = p.0.is;
          numbered = record {
            from = n.from;
            to = n.to;
            spans = n.spans;
            first_is = IsNumber-grown sender i js n.from run.first n.first_is;
            last_is = IsNumber-grown sender i js n.to run.last n.last_is;
          };
          key = p.0.key;
          placed = λ place is.
              let known : (known : Place) × (run.layers ≡ Some known) × Contains told (run.first, known) =
              p.0.placed place is in
              (known.0, known.1, stays (run.first, known.0) known.2);
        },
        pulled_grown i js told after fs runs stays p.1,
      )

  -- one more packet that is taken has its number
  counted_grown : (i n : ℕ) (js : List ℕ) → IsNumber sender (i ∷ js) i n → AreCounted js → AreCounted (i ∷ js)
  counted_grown i n js is counted k there = elim (Contains-either i js k there) [
    | inl same ↦ (n, subst (λ (x : ℕ). IsNumber sender (i ∷ js) x n) same is)
    | inr later ↦ let m : (m : ℕ) × IsNumber sender js k m = counted k later in
        (m.0, IsNumber-grown sender i js k m.0 m.1)
  ]

  -- a frame whose first number lies beyond the last of another comes after it
  pub frame_after : (js : List ℕ) (f g : ℕ) (old frame : SentFrame) (first last n : ℕ) →
      slice_get sender.frames f ≡ Some old → HasNumbers sender js f first last →
      slice_get sender.frames g ≡ Some frame → IsNumber sender js (honest.place g) n → last < n → f < g
  frame_after js f g old frame first last n there numbered is place_is beyond =
      let less : numbered.to < honest.place g =
      IsNumber-below sender js numbered.to (honest.place g) last n numbered.last_is place_is beyond in
      let ends : numbered.to + 1 ≡ honest.place f + size settings codec sender honest f =
      (one_span settings codec sender honest f old numbered.from numbered.to there numbered.spans).1 in
      let upto : f ≤ g = frame_upto settings codec sender honest f g frame is
      (slice_get_within sender.frames f old there) (omega arith) in
      let t : Travels settings codec sender f old (honest.place f) (honest.parts f) =
      frame_travels settings codec sender honest f old there in
      let some : 0 < size settings codec sender honest f = t.some in
      let apart : f ≡ g → ⊥ = λ same. let place_is : honest.place f ≡ honest.place g =
      ap honest.place same in omega arith in
      omega arith

  -- the places from which a frame may come now
  abbrev pub bound_of : List ℕ → ℕ
  bound_of [] = 0
  bound_of (f ∷ fs) = f + 1

  -- a frame beyond the last frame pulled comes after it
  pub bound_upto : (js : List ℕ) (told : Told) (fs : List ℕ) (runs : List Run) (g : ℕ) (frame : SentFrame) (run : Run) →
      ArePulled js told fs runs → slice_get sender.frames g ≡ Some frame → IsNumber sender js (honest.place g) run.first →
      stands (last_pulled runs) run ≡ true → bound_of fs ≤ g
  bound_upto js told [] runs g frame run p is numbered beyond = omega arith
  bound_upto js told (f ∷ fs) [] g frame run p is numbered beyond = absurd p
  bound_upto js told (f ∷ fs) (old ∷ runs) g frame run p is numbered beyond =
      let less : f < g = frame_after js f g p.0.sent frame old.first old.last run.first p.0.is p.0.numbered is
      numbered (stands-beyond (Some old.last) run beyond) in
      omega arith

  -- so after all of them
  pub below_bound : (fs : List ℕ) (f g : ℕ) → Fall fs → bound_of fs ≤ f → Contains fs g → g < f
  below_bound [] f g fall bound there = absurd (Contains-empty g there)
  below_bound (k ∷ fs) f g fall bound there = elim (Contains-either k fs g there) [
    | inl same ↦ omega (arith, same, bound)
    | inr later ↦ let less : g < k = fall.0 g later in omega (arith, less, bound)
  ]

  -- before the first event
  pub opening-holds : Took sender (opening ∷ []) [] → Holds (opening ∷ []) [] []
  opening-holds took =
      record {
        took = took;
        counted = λ i there. absurd (Contains-empty i there);
        pulled = tt;
        fall = tt;
        closed = λ f g c way. absurd (Contains-empty f c);
        front = refl;
      }

  module _ (past : List Snapshot) (js fs : List ℕ) (h : Holds past js fs) (moment : ℕ) where
    -- a datagram that isn't taken
    refused-holds : (left : NotTaken) → Took sender (after_datagram (source_in settings codec) past moment (Err left) ∷ past) js →
        Holds (after_datagram (source_in settings codec) past moment (Err left) ∷ past) js fs
    refused-holds left took = record {
      took = took;
      counted = h.counted;
      pulled = h.pulled;
      fall = h.fall;
      closed = h.closed;
      front = h.front;
    }

    -- a datagram of the sender, whatever the verdict
    pub datagram-holds : (i : ℕ) (r : Result (ℕ × Content) NotTaken) →
        ((n : ℕ) (content : Content) → r ≡ Ok (n, content) → IsNumber sender (i ∷ js) i n) →
        Took sender (after_datagram (source_in settings codec) past moment r ∷ past) (if is_ok r then i ∷ js else js) →
        Holds (after_datagram (source_in settings codec) past moment r ∷ past) (if is_ok r then i ∷ js else js) fs
    datagram-holds i (Err left) numbered took = refused-holds left took
    datagram-holds i (Ok (n, content)) numbered took =
        let s : Snapshot = latest past in
        let t : Snapshot = after_datagram (source_in settings codec) past moment (Ok (n, content)) in
        record {
          took = took;
          counted = counted_grown i n js (numbered n content refl) h.counted;
          pulled = pulled_grown i js s.told t.told fs s.pulled
              (told-stays codec ((n, content) ∷ repairs_in (source_in settings codec) (after_placing n content s.window))
              s.told) h.pulled;
          fall = h.fall;
          closed = h.closed;
          front = front-stays sender settings codec honest (i ∷ js) t.window.packets took.here.kept s.front
              (last_pulled s.pulled) (front-grown sender i js (last_pulled s.pulled) s.front h.front);
        }

    -- a datagram of nobody, whatever the verdict, if it leaves the packets taken
    pub aside-holds : (left : NotTaken) (r : Result (ℕ × Content) NotTaken) → r ≡ Err left →
        Took sender (after_datagram (source_in settings codec) past moment r ∷ past) js →
        Holds (after_datagram (source_in settings codec) past moment r ∷ past) js fs
    aside-holds left (Err other) is took = refused-holds other took
    aside-holds left (Ok x) is took = absurd (cc)

    -- a tick
    pub tick-holds : Took sender (after_tick settings past moment ∷ past) js →
        Holds (after_tick settings past moment ∷ past) js fs
    tick-holds took = record {
      took = took;
      counted = h.counted;
      pulled = h.pulled;
      fall = h.fall;
      closed = h.closed;
      front = h.front;
    }

    -- a pull that gives nothing
    pub none-holds : Took sender (after_pull codec past moment None ∷ past) js →
        Holds (after_pull codec past moment None ∷ past) js fs
    none-holds took = record {
      took = took;
      counted = h.counted;
      pulled = h.pulled;
      fall = h.fall;
      closed = h.closed;
      front = h.front;
    }

    -- a pull that gives a frame, whose chain was pulled
    pub frame-holds : (run : Run) (f : ℕ) → IsPulled js (latest past).told f run → bound_of fs ≤ f →
        ((g : ℕ) → InChain sender f g → Contains fs g) →
        IfSome (last_pulled (latest past).pulled) (λ last. last ≤ run.last) →
        Took sender (after_pull codec past moment (Some run) ∷ past) js →
        Holds (after_pull codec past moment (Some run) ∷ past) js (f ∷ fs)
    frame-holds run f is later chain rises took = record {
      took = took;
      counted = h.counted;
      pulled = (is, h.pulled);
      fall = (λ g there. below_bound fs f g h.fall later there, h.fall);
      closed = closed;
      front = front-moves sender settings codec honest js (latest past).window.packets h.took.here.kept
          (latest past).front (last_pulled (latest past).pulled) run.last h.front rises;
    } where
      closed : Closed (f ∷ fs)
      closed k g there way = elim (Contains-either f fs k there) [
        | inl same ↦ Contains-tail f fs g (chain g (subst (λ (x : ℕ). InChain sender x g) (sym same) way))
        | inr later ↦ Contains-tail f fs g (h.closed k g later way)
      ]
