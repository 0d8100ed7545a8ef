-- Where the frames of an honest sender begin, as a receiver tells it.
use Rattle.std.proofs.Common.{◌≡◌, ℕ, zero, suc, ◌+◌, ◌-◌, ◌<◌, ◌≤◌, ◌⊎◌, Bool, true, false, List, [], ◌∷◌, slice_get, Contains, Option, Some, None, IsSomeAnd, is_some, refl, sym, ◌∙◌, ap, subst, arith, inl, inr}
use Rattle.std.specs.Option.{option_map_or}
use Rattle.std.proofs.lemmas.Bool.{and_parts, and_from, or_cases, true≢false, cases_order}
use Rattle.std.proofs.lemmas.Option.{same_Some, slice_get_within}
use Rattle.vrx_rtp.specs.Packet.{Packet}
use Rattle.vrx_codec.specs.Part.{Part}
use Rattle.vrx_codec.specs.declared.part.Start.{Start}
use Rattle.vrx_codec.specs.declared.part.Start.TheVariants.{Yes, No, ByNeighbour}
use Rattle.vrx_codec.specs.declared.fault.PartFault.{PartFault}
use Rattle.vrx_codec.specs.Meaning.{Meaning}
use Rattle.vrx_window.specs.Content.{Content}
use Rattle.vrx_window.specs.Content as contents
use Rattle.vrx_window.specs.Window.{at, is_available}
use Rattle.vrx_frames.specs.Run.{Packets, begins, ends_frame, stands_after_end}
use Rattle.vrx_core.specs.machine.Standing.{began_after_end}
use Rattle.vrx_core.specs.machine.Machine.{Snapshot, times}
use Rattle.vrx_core.specs.honest.Sender.{SentFrame, SentPacket, Media, Fec, Empty, Sender, IsNoPart, IsOf}
use Rattle.vrx_core.specs.honest.WireForm.{content_sent}
use Rattle.vrx_core.specs.honest.HonestSender.{CarriedPart, SaysRightly, IsPart, Travels, HonestSender}
use Rattle.vrx_core.specs.honest.Ready.{IsNumber, SaysStart, WereBeside}
use Rattle.vrx_core.specs.declared.settings.Settings.{Settings}
use Rattle.vrx_core.proofs.machine.MemberLemmas.{Contains-either, Contains-empty}
use Rattle.vrx_core.proofs.machine.TestLemmas.{list_any-to}
use Rattle.vrx_core.proofs.honest.KeepsLemmas.{one-place}
use Rattle.vrx_core.proofs.honest.KeptLemmas.{AreKept, kept-there}
use Rattle.vrx_core.proofs.honest.PartLemmas.{IsSent, packet_sent, frame_spans, frame_travels, part-of, text_sent, size, some_there, some_holds, some_from}
use Rattle.vrx_core.proofs.honest.FrameLemmas.{number_later, same_ok}
use Rattle.vrx_core.proofs.honest.TookLemmas.{WereKept}

-- a test that holds is one of something that is there
pub there_tested : (test : Content → Bool) (o : Option Content) → option_map_or test o false ≡ true →
    (content : Content) × (o ≡ Some content) × (test content ≡ true)
there_tested test None h = absurd (true≢false (sym h))
there_tested test (Some content) h = (content, refl, h)

module _ (settings : Settings) (codec : Meaning) (sender : Sender) (honest : HonestSender settings codec sender) where
  -- a packet right after the last packet of a frame is the first of its own
  pub behind_last : (i g : ℕ) (frame : SentFrame) → slice_get sender.frames g ≡ Some frame →
      i ≡ honest.place g + size settings codec sender honest g → (s : IsSent settings codec sender honest i) → s.k ≡ 0
  behind_last i g frame is behind s =
      let t : Travels settings codec sender g frame (honest.place g) (honest.parts g) =
      frame_travels settings codec sender honest g frame is in
      let some : 0 < size settings codec sender honest g = t.some in
      let here : honest.place s.f + s.k ≡ i = s.here in
      let within : s.k < size settings codec sender honest s.f = s.within in
      elim (cases_order s.f g) [
        | inl same ↦
            let place_is : honest.place s.f ≡ honest.place g = ap honest.place same in
            let size_is : size settings codec sender honest s.f ≡ size settings codec sender honest g =
            ap (size settings codec sender honest) same in
            absurd (omega arith)
        | inr other ↦ elim other [
          | inl before ↦
              let order : honest.place s.f + size settings codec sender honest s.f ≤ honest.place g =
              honest.in_order s.f g before (slice_get_within sender.frames g frame is) in
              absurd (omega arith)
          | inr after ↦
              let order : honest.place g + size settings codec sender honest g ≤ honest.place s.f =
              honest.in_order g s.f after (slice_get_within sender.frames s.f s.frame s.sent) in
              omega arith
        ]
      ]

  -- the packet before the first of a frame is the last of its own
  before_first : (i f : ℕ) (frame : SentFrame) → slice_get sender.frames f ≡ Some frame → i + 1 ≡ honest.place f →
      (s : IsSent settings codec sender honest i) → s.k + 1 ≡ size settings codec sender honest s.f
  before_first i f frame is before s =
      let t : Travels settings codec sender f frame (honest.place f) (honest.parts f) =
      frame_travels settings codec sender honest f frame is in
      let some : 0 < size settings codec sender honest f = t.some in
      let here : honest.place s.f + s.k ≡ i = s.here in
      let within : s.k < size settings codec sender honest s.f = s.within in
      elim (cases_order s.f f) [
        | inl same ↦
            let place_is : honest.place s.f ≡ honest.place f = ap honest.place same in
            absurd (omega arith)
        | inr other ↦ elim other [
          | inl earlier ↦
              let order : honest.place s.f + size settings codec sender honest s.f ≤ honest.place f =
              honest.in_order s.f f earlier (slice_get_within sender.frames f frame is) in
              omega arith
          | inr later ↦
              let order : honest.place f + size settings codec sender honest f ≤ honest.place s.f =
              honest.in_order f s.f later (slice_get_within sender.frames s.f s.frame s.sent) in
              absurd (omega arith)
        ]
      ]

  -- a packet after one that is no part is the first of its frame
  pub after_other : (j i : ℕ) → IsSomeAnd (slice_get sender.packets j) IsNoPart → j + 1 ≡ i →
      (s : IsSent settings codec sender honest i) → s.k ≡ 0
  after_other j i other next s = by_part s.k refl where
    by_part : (k : ℕ) → s.k ≡ k → s.k ≡ 0
    by_part zero is = is
    by_part (suc k) is =
        let here : honest.place s.f + s.k ≡ i = s.here in
        let within : s.k < size settings codec sender honest s.f = s.within in
        let p : (packet : SentPacket) × (slice_get sender.packets j ≡ Some packet) × IsNoPart packet =
        some_there IsNoPart (slice_get sender.packets j) other in
        absurd (part-of s.f p.0 p.2 (some_holds (IsOf s.f) (slice_get sender.packets j) p.0 p.1
        (((frame_spans settings codec sender honest s.f s.frame s.sent).exactly j).1 (omega arith, omega arith))))

  -- what a media packet says of the end of its frame
  ends-is : (j f k : ℕ) (text : List ℕ) (t : IsSent settings codec sender honest j) →
      slice_get sender.packets j ≡ Some (Media f k text) → ends_frame (contents.Media text) ≡ t.carried.packet.marker
  ends-is j f k text t there =
      let same : text ≡ t.carried.text =
      ap text_sent (same_Some (Media f k text) (Media t.f t.k t.carried.text) (sym there ∙ t.part.sent)) in
      ap (λ x. ends_frame (contents.Media x)) same
      ∙ ap (λ o. option_map_or (λ packet. packet.marker) o false) t.part.media.reads

  -- a packet after one that ends a frame is the first of its own
  ends_first : (j i : ℕ) (packet : SentPacket) → slice_get sender.packets j ≡ Some packet →
      ends_frame (content_sent packet) ≡ true → i ≡ j + 1 → (s : IsSent settings codec sender honest i) → s.k ≡ 0
  ends_first j i (Media f k text) there ends next s =
      let t : IsSent settings codec sender honest j =
      packet_sent settings codec sender honest j (Media f k text) there tt in
      let last : t.k + 1 ≡ size settings codec sender honest t.f =
      t.part.marker.0 (sym (ends-is j f k text t there) ∙ ends) in
      let here : honest.place t.f + t.k ≡ j = t.here in
      behind_last i t.f t.frame t.sent (omega arith) s
  ends_first j i (Fec payload) there ends next s =
      after_other j i (some_from IsNoPart (slice_get sender.packets j) (Fec payload) there tt) (sym next) s
  ends_first j i Empty there ends next s =
      after_other j i (some_from IsNoPart (slice_get sender.packets j) Empty there tt) (sym next) s

  -- the packet before the first of a frame ends one
  first_ends : (j f : ℕ) (frame : SentFrame) (packet : SentPacket) → slice_get sender.frames f ≡ Some frame →
      slice_get sender.packets j ≡ Some packet → j + 1 ≡ honest.place f → ends_frame (content_sent packet) ≡ true
  first_ends j f frame (Media g k text) is there next =
      let t : IsSent settings codec sender honest j =
      packet_sent settings codec sender honest j (Media g k text) there tt in
      ends-is j g k text t there ∙ t.part.marker.1 (before_first j f frame is next t)
  first_ends j f frame (Fec payload) is there next = refl
  first_ends j f frame Empty is there next = refl

  -- what stands under a number is a packet of the sender
  pub record IsPacketAt (js : List ℕ) (n : ℕ) (content : Content) : Type 0 where
    pub i : ℕ
    pub numbered : IsNumber sender js i n
    pub packet : SentPacket
    pub sent : slice_get sender.packets i ≡ Some packet
    pub content_is : content ≡ content_sent packet

  pub packet_at : (js : List ℕ) (packets : Packets) (n : ℕ) (content : Content) → AreKept sender js packets →
      at n packets ≡ Some content → IsPacketAt js n content
  packet_at js packets n content kept is =
      let k = kept-there sender js n packets kept (ap is_some is) in
      let p : (packet : SentPacket) × (slice_get sender.packets k.0 ≡ Some packet)
      × (at n packets ≡ Some (content_sent packet)) =
      some_there (λ packet. at n packets ≡ Some (content_sent packet)) (slice_get sender.packets k.0) k.2 in
      record {
        i = k.0;
        numbered = k.1;
        packet = p.0;
        sent = p.1;
        content_is = same_Some content (content_sent p.0) (sym is ∙ p.2);
      }

  -- if at some time a number stood right after the end of a frame, its packet is the first part of a frame
  pub began_first : (js : List ℕ) (past : List Snapshot) (i n : ℕ) (s : IsSent settings codec sender honest i) →
      1 ≤ n → WereKept sender js past → IsNumber sender js i n → began_after_end (times past) n ≡ true → s.k ≡ 0
  began_first js [] i n s from were numbered began = absurd (cc)
  began_first js (t ∷ past) i n s from were numbered began =
      elim (or_cases (stands_after_end n t.window.packets) (began_after_end (times past) n) began) [
        | inl here ↦
            let both : (is_available n t.window.packets ≡ true)
            × (option_map_or ends_frame (at (n - 1) t.window.packets) false ≡ true) = and_parts _ _ here in
            let c : (content : Content) × (at (n - 1) t.window.packets ≡ Some content) × (ends_frame content ≡ true) =
            there_tested ends_frame (at (n - 1) t.window.packets) both.1 in
            let p : IsPacketAt js (n - 1) c.0 = packet_at js t.window.packets (n - 1) c.0 were.0 c.1 in
            let behind : IsNumber sender js (p.i + 1) n =
            number_later sender js p.i (n - 1) 1 (p.i + 1) n p.numbered refl (omega arith) in
            ends_first p.i i p.packet p.sent (sym (ap ends_frame p.content_is) ∙ c.2)
            (one-place sender js i (p.i + 1) n numbered behind) s
        | inr earlier ↦ began_first js past i n s from were.1 numbered earlier
      ]

  -- if the number of a frame's first part and the one before were available at some time, it stood right after the
  -- end of a frame
  beside_behind : (js : List ℕ) (f : ℕ) (frame : SentFrame) (n : ℕ) (packets : Packets) →
      slice_get sender.frames f ≡ Some frame → 1 ≤ n → AreKept sender js packets →
      IsNumber sender js (honest.place f) n → is_available n packets ≡ true → is_available (n - 1) packets ≡ true →
      stands_after_end n packets ≡ true
  beside_behind js f frame n packets is from kept numbered here before =
      and_from _ _ here (by_content (at (n - 1) packets) refl before) where
        by_content : (o : Option Content) → at (n - 1) packets ≡ o → is_some o ≡ true →
            option_map_or ends_frame o false ≡ true
        by_content None none h = absurd (true≢false (sym h))
        by_content (Some content) there h =
            let p : IsPacketAt js (n - 1) content = packet_at js packets (n - 1) content kept there in
            let behind : IsNumber sender js (p.i + 1) n =
            number_later sender js p.i (n - 1) 1 (p.i + 1) n p.numbered refl (omega arith) in
            ap ends_frame p.content_is
            ∙ first_ends p.i f frame p.packet is p.sent
            (one-place sender js (p.i + 1) (honest.place f) n behind numbered)

  pub were_behind : (js : List ℕ) (f : ℕ) (frame : SentFrame) (n : ℕ) (past : List Snapshot) →
      slice_get sender.frames f ≡ Some frame → 1 ≤ n → WereKept sender js past →
      IsNumber sender js (honest.place f) n → WereBeside (times past) n → began_after_end (times past) n ≡ true
  were_behind js f frame n past is from were numbered beside =
      list_any-to (stands_after_end n) (times past) beside.0 beside.1
      (beside_behind js f frame n beside.0 is from (kept_of past were beside.1) numbered beside.2 beside.3) where
        kept_of : (ts : List Snapshot) → WereKept sender js ts → Contains (times ts) beside.0 →
            AreKept sender js beside.0
        kept_of [] each c = absurd (Contains-empty beside.0 c)
        kept_of (t ∷ ts) each c = elim (Contains-either t.window.packets (times ts) beside.0 c) [
          | inl same ↦ subst (AreKept sender js) same each.0
          | inr later ↦ kept_of ts each.1 later
        ]

  -- a first part that says so, or stands right after the end of a frame, is a start
  pub first_begins : (f count i : ℕ) (frame : SentFrame) (c : CarriedPart) (behind : Bool) →
      IsPart settings codec sender f frame count 0 i c → (c.part.start ≡ Yes) ⊎ (behind ≡ true) →
      begins c.part.start behind ≡ true
  first_begins f count i frame c behind part either = by_start c.part.start refl where
    by_start : (x : Start) → c.part.start ≡ x → begins c.part.start behind ≡ true
    by_start Yes is = ap (λ x. begins x behind) is
    by_start No is = absurd (subst (SaysRightly 0) is part.start refl)
    by_start ByNeighbour is = elim either [
      | inl says ↦ ap (λ x. begins x behind) says
      | inr stands ↦ ap (λ x. begins x behind) is ∙ stands
    ]

  -- a packet that says that a frame begins with it says so as a part
  pub says_yes : (f count k i : ℕ) (frame : SentFrame) (c : CarriedPart) →
      IsPart settings codec sender f frame count k i c → IsSomeAnd (slice_get sender.packets i) (SaysStart codec) →
      c.part.start ≡ Yes
  says_yes f count k i frame c part says =
      let s : SaysStart codec (Media f k c.text) =
      some_holds (SaysStart codec) (slice_get sender.packets i) (Media f k c.text) part.sent says in
      let packet_is : s.0 ≡ c.packet = same_Some s.0 c.packet (sym s.2 ∙ part.media.reads) in
      let part_is : s.1 ≡ c.part =
      same_ok {E = PartFault} s.1 c.part
      (sym s.3 ∙ ap (λ (p : Packet). codec.read p.payload) packet_is ∙ part.media.part_reads) in
      ap (λ (p : Part). p.start) (sym part_is) ∙ s.4
