-- The packets of an honest sender are the parts of its frames.
use Rattle.std.proofs.Common.{◌≡◌, ℕ, zero, suc, ◌+◌, ◌-◌, ◌<◌, ◌≤◌, ◌⊎◌, false, List, [], ◌∷◌, length, slice_get, Option, Some, None, IfSome, IsSomeAnd, refl, sym, ◌∙◌, ap, subst, arith, inl, inr}
use Rattle.std.proofs.lemmas.Option.{none-some, same_Some, slice_get_within, slice_get-get_or}
use Rattle.vrx_codec.specs.Meaning.{Meaning}
use Rattle.vrx_core.specs.honest.Sender.{SentFrame, SentPacket, Media, Fec, Empty, Sender, IsNoPart, IsOf, Spans}
use Rattle.vrx_core.specs.honest.HonestSender.{CarriedPart, IsPart, AreParts, Travels, HonestSender}
use Rattle.vrx_core.specs.declared.settings.Settings.{Settings}

-- a value that is there, of which a condition holds
some_here : {A : Type 0} (P : A → Type 0) (o : Option A) (x : A) → o ≡ Some x → IfSome o P → P x
some_here P None x is p = absurd (none-some x is)
some_here P (Some y) x is p = subst P (same_Some y x is) p

-- and the same of a condition that holds of some value
pub some_holds : {A : Type 0} (P : A → Type 0) (o : Option A) (x : A) → o ≡ Some x → IsSomeAnd o P → P x
some_holds P None x is p = absurd (none-some x is)
some_holds P (Some y) x is p = subst P (same_Some y x is) p

-- and back
pub some_from : {A : Type 0} (P : A → Type 0) (o : Option A) (x : A) → o ≡ Some x → P x → IsSomeAnd o P
some_from {A = A} P o x is p = subst (λ (q : Option A). IsSomeAnd q P) (sym is) p

-- a value of which a condition holds is there
pub some_there : {A : Type 0} (P : A → Type 0) (o : Option A) → IsSomeAnd o P → (x : A) × (o ≡ Some x) × P x
some_there P None p = absurd p
some_there P (Some x) p = (x, refl, p)

-- the text of a packet, if it is media
abbrev pub text_sent : SentPacket → List ℕ
text_sent (Media f k text) = text
text_sent (Fec payload) = []
text_sent Empty = []

-- a packet is media
abbrev pub IsMediaSent : SentPacket → Type 0
IsMediaSent (Media f k text) = Unit {0}
IsMediaSent (Fec payload) = ⊥
IsMediaSent Empty = ⊥

-- a part of a frame is media
pub part-media : (packet : SentPacket) → IsNoPart packet → IsMediaSent packet → ⊥
part-media (Media f k text) none media = none
part-media (Fec payload) none media = media
part-media Empty none media = media

-- and a packet that is no part is of no frame
pub part-of : (f : ℕ) (packet : SentPacket) → IsNoPart packet → IsOf f packet → ⊥
part-of f (Media g k text) none of = none
part-of f (Fec payload) none of = of
part-of f Empty none of = of

module _ (settings : Settings) (codec : Meaning) (sender : Sender) where
  -- the part at a place among those of a frame
  pub part-at : (f : ℕ) (frame : SentFrame) (count k i d m j : ℕ) (cs : List CarriedPart) →
      AreParts settings codec sender f frame count k i cs → d < length cs → m ≡ k + d → j ≡ i + d →
      (c : CarriedPart) × IsPart settings codec sender f frame count m j c
  part-at f frame count k i d m j [] are within is_m is_j = absurd (omega arith)
  part-at f frame count k i zero m j (c ∷ cs) are within is_m is_j =
      let same_k : k ≡ m = omega arith in
      let same_i : i ≡ j = omega arith in (
        c,
        subst (λ (x : ℕ). IsPart settings codec sender f frame count x j c) same_k
            (subst (λ (y : ℕ). IsPart settings codec sender f frame count k y c) same_i are.0),
      )
  part-at f frame count k i (suc d) m j (c ∷ cs) are within is_m is_j =
      part-at f frame count (k + 1) (i + 1) d m j cs are.1 (omega arith) (omega arith) (omega arith)

  module _ (honest : HonestSender settings codec sender) where
    -- how many parts a frame has
    abbrev pub size : ℕ → ℕ
    size f = length (honest.parts f)

    -- a frame that is there travels
    pub frame_travels : (f : ℕ) (frame : SentFrame) → slice_get sender.frames f ≡ Some frame →
        Travels settings codec sender f frame (honest.place f) (honest.parts f)
    frame_travels f frame is =
        some_here (λ (x : SentFrame). Travels settings codec sender f x (honest.place f) (honest.parts f))
        (slice_get sender.frames f) frame is (honest.travels f)

    -- what packet i is: a part of a frame
    pub record IsSent (i : ℕ) : Type 0 where
      pub f : ℕ
      pub k : ℕ
      pub frame : SentFrame
      pub carried : CarriedPart
      pub sent : slice_get sender.frames f ≡ Some frame
      pub within : k < size f
      pub here : honest.place f + k ≡ i
      pub part : IsPart settings codec sender f frame (size f) k i carried

    -- a media packet is a part of a frame
    pub packet_sent : (i : ℕ) (packet : SentPacket) → slice_get sender.packets i ≡ Some packet → IsMediaSent packet →
        IsSent i
    packet_sent i packet is media = elim (honest.no_other i (slice_get_within sender.packets i packet is)) [
      | inl none ↦ absurd (part-media packet (some_holds IsNoPart (slice_get sender.packets i) packet is none) media)
      | inr p ↦ sent_in p.0 (slice_get sender.frames p.0) refl p.1 p.2 p.3
    ] where
      sent_in : (f : ℕ) (o : Option SentFrame) → slice_get sender.frames f ≡ o → f < length sender.frames →
          honest.place f ≤ i → i < honest.place f + size f → IsSent i
      sent_in f None none within from upto =
          absurd (none-some _ (sym none
          ∙ slice_get-get_or sender.frames f
          (record { bytes = []; key = false; ts = 0; layers = None; references = [] }) within))
      sent_in f (Some frame) there within from upto =
          let t : Travels settings codec sender f frame (honest.place f) (honest.parts f) =
          frame_travels f frame there in
          let c : (c : CarriedPart) × IsPart settings codec sender f frame (size f) (i - honest.place f) i c =
          part-at f frame (size f) 0 (honest.place f) (i - honest.place f) (i - honest.place f) i
          (honest.parts f) t.each (omega arith) (omega arith) (omega arith) in
          record {
            f = f;
            k = i - honest.place f;
            frame = frame;
            carried = c.0;
            sent = there;
            within = omega arith;
            here = omega arith;
            part = c.1;
          }

    -- the packets of a frame are those from its place on
    pub frame_spans : (f : ℕ) (frame : SentFrame) → slice_get sender.frames f ≡ Some frame →
        Spans sender f (honest.place f) (honest.place f + size f - 1)
    frame_spans f frame is =
        let t : Travels settings codec sender f frame (honest.place f) (honest.parts f) = frame_travels f frame is in
        let some : 0 < size f = t.some in
        record { some = omega arith; exactly = λ i. (within i, λ bounds. there i t some bounds.0 bounds.1) } where
          of_media : (packet : SentPacket) → IsOf f packet → IsMediaSent packet
          of_media (Media g k text) of = tt
          of_media (Fec payload) of = absurd of
          of_media Empty of = absurd of

          within : (i : ℕ) → IsSomeAnd (slice_get sender.packets i) (IsOf f) →
              (honest.place f ≤ i) × (i ≤ honest.place f + size f - 1)
          within i of =
              let p : (packet : SentPacket) × (slice_get sender.packets i ≡ Some packet) × IsOf f packet =
              some_there (IsOf f) (slice_get sender.packets i) of in
              let s : IsSent i = packet_sent i p.0 p.1 (of_media p.0 p.2) in
              let same : s.f ≡ f =
              some_holds (IsOf f) (slice_get sender.packets i) (Media s.f s.k s.carried.text) s.part.sent of in
              let place_is : honest.place s.f ≡ honest.place f = ap honest.place same in
              let size_is : size s.f ≡ size f = ap size same in
              let here : honest.place s.f + s.k ≡ i = s.here in
              let less : s.k < size s.f = s.within in
              (omega arith, omega arith)

          there : (i : ℕ) → Travels settings codec sender f frame (honest.place f) (honest.parts f) → 0 < size f →
              honest.place f ≤ i → i ≤ honest.place f + size f - 1 → IsSomeAnd (slice_get sender.packets i) (IsOf f)
          there i t some from upto =
              let c : (c : CarriedPart) × IsPart settings codec sender f frame (size f) (i - honest.place f) i c =
              part-at f frame (size f) 0 (honest.place f) (i - honest.place f) (i - honest.place f) i
              (honest.parts f) t.each (omega arith) (omega arith) (omega arith) in
              some_from (IsOf f) (slice_get sender.packets i) (Media f (i - honest.place f) c.0.text) c.1.sent refl

    -- a span of the same frame is the same
    pub one_span : (f : ℕ) (frame : SentFrame) (from to : ℕ) → slice_get sender.frames f ≡ Some frame →
        Spans sender f from to → (from ≡ honest.place f) × (to + 1 ≡ honest.place f + size f)
    one_span f frame from to is spans =
        let mine : Spans sender f (honest.place f) (honest.place f + size f - 1) = frame_spans f frame is in
        let t : Travels settings codec sender f frame (honest.place f) (honest.parts f) = frame_travels f frame is in
        let some : 0 < size f = t.some in
        let upto : from ≤ to = spans.some in
        let a : (honest.place f ≤ from) × (from ≤ honest.place f + size f - 1) =
        (mine.exactly from).0 ((spans.exactly from).1 (omega arith, upto)) in
        let b : (honest.place f ≤ to) × (to ≤ honest.place f + size f - 1) =
        (mine.exactly to).0 ((spans.exactly to).1 (upto, omega arith)) in
        let c : (from ≤ honest.place f) × (honest.place f ≤ to) =
        (spans.exactly (honest.place f)).0 ((mine.exactly (honest.place f)).1 (omega arith, omega arith)) in
        let d : (from ≤ honest.place f + size f - 1) × (honest.place f + size f - 1 ≤ to) =
        (spans.exactly (honest.place f + size f - 1)).0
        ((mine.exactly (honest.place f + size f - 1)).1 (omega arith, omega arith)) in
        (omega arith, omega arith)

    -- a frame that begins no later than another is no later frame
    pub frame_upto : (f g : ℕ) (frame : SentFrame) → slice_get sender.frames g ≡ Some frame →
        f < length sender.frames → honest.place f ≤ honest.place g → f ≤ g
    frame_upto f g frame is there upto = elim (either f g) [
      | inl here ↦ here
      | inr later ↦
          let before : honest.place g + size g ≤ honest.place f = honest.in_order g f later there in
          let some : 0 < size g = (frame_travels g frame is).some in
          absurd (omega arith)
    ] where
      either : (f g : ℕ) → (f ≤ g) ⊎ (g < f)
      either zero g = inl (omega arith)
      either (suc f) zero = inr (omega arith)
      either (suc f) (suc g) = elim (either f g) [ inl upto ↦ inl (omega arith) | inr less ↦ inr (omega arith) ]
