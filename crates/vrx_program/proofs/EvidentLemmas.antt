-- The first packet of a frame of VP8 says that the frame begins with it.
use Rattle.std.proofs.Common.{◌≡◌, ℕ, zero, suc, ◌+◌, ◌-◌, ◌<◌, ◌≤◌, ◌⊎◌, Bool, true, false, if◌then◌else◌, List, [], ◌∷◌, length, slice_get, Option, Some, None, IfSome, IsSomeAnd, refl, sym, ◌∙◌, ap, subst, arith, inl, inr}
use Rattle.std.specs.Prelude.{Ok}
use Rattle.std.specs.Result.{result_ok}
use Rattle.std.proofs.lemmas.Option.{none-some, same_Some, slice_get_within, slice_get-get_or}
use Rattle.vrx_codec.specs.Part.{Part}
use Rattle.vrx_codec.specs.declared.part.Start.{Start}
use Rattle.vrx_codec.specs.declared.part.Start.TheVariants.{Yes, No}
use Rattle.vrx_vp8.specs.Descriptor.{Fields, fields, part_with, part_of, vp8}
use Rattle.vrx_core.specs.honest.Sender.{SentFrame, SentPacket, Media, Fec, Empty, Sender, IsNoPart, IsOf, Spans}
use Rattle.vrx_core.specs.honest.HonestSender.{CarriedPart, SaysRightly, IsPart, AreParts, Travels, HonestSender}
use Rattle.vrx_core.specs.honest.Ready.{SaysStart}
use Rattle.vrx_core.specs.declared.settings.Settings.{Settings}
use Rattle.vrx_program.specs.Evident.{Vp8BeginsHolds}

-- a part of VP8 says yes or no
either_said : (b : Bool) →
    (◌≡◌ {A = Start} (if b then Yes else No) Yes) ⊎ (◌≡◌ {A = Start} (if b then Yes else No) No)
either_said true = inl refl
either_said false = inr refl

said_with : (len : ℕ) (f : Fields) (body : List ℕ) (part : Part) → part_with len f body ≡ Ok part →
    (part.start ≡ Yes) ⊎ (part.start ≡ No)
said_with len f [] part is = absurd (none-some part (ap result_ok is))
said_with len f (octet ∷ rest) part is =
    subst (λ (p : Part). (p.start ≡ Yes) ⊎ (p.start ≡ No)) (same_Some _ part (ap result_ok is)) (either_said f.start)

said_of : (len : ℕ) (f : Option Fields) (part : Part) → part_of len f ≡ Ok part →
    (part.start ≡ Yes) ⊎ (part.start ≡ No)
said_of len None part is = absurd (none-some part (ap result_ok is))
said_of len (Some f) part is = said_with len f f.body part is

said : (payload : List ℕ) (part : Part) → vp8.read payload ≡ Ok part → (part.start ≡ Yes) ⊎ (part.start ≡ No)
said payload part is = said_of (length payload) (fields payload) part is

-- a first part of VP8 says yes
first_says : (payload : List ℕ) (part : Part) → vp8.read payload ≡ Ok part → SaysRightly 0 part.start →
    part.start ≡ Yes
first_says payload part reads rightly = elim (said payload part reads) [
  | inl yes_is ↦ yes_is
  | inr no_is ↦ absurd (subst (SaysRightly 0) no_is rightly refl)
]

-- a value of which a condition holds, where there is one
if_there : {A : Type 0} (P : A → Type 0) (o : Option A) (x : A) → o ≡ Some x → IfSome o P → P x
if_there P None x is p = absurd (none-some x is)
if_there P (Some y) x is p = subst P (same_Some y x is) p

-- a value that is there, and a condition on it
there_and : {A : Type 0} (P : A → Type 0) (o : Option A) (x : A) → o ≡ Some x → P x → IsSomeAnd o P
there_and {A = A} P o x is p = subst (λ (q : Option A). IsSomeAnd q P) (sym is) p

and_there : {A : Type 0} (P : A → Type 0) (o : Option A) (x : A) → o ≡ Some x → IsSomeAnd o P → P x
and_there P None x is p = absurd (none-some x is)
and_there P (Some y) x is p = subst P (same_Some y x is) p

-- what is there of which a condition holds
what_is_there : {A : Type 0} (P : A → Type 0) (o : Option A) → IsSomeAnd o P → (x : A) × (o ≡ Some x)
what_is_there P None p = absurd p
what_is_there P (Some x) p = (x, refl)

module _ (settings : Settings) (sender : Sender) where
  -- the part at a place among those of a frame
  part_at : (f : ℕ) (frame : SentFrame) (count k i d m j : ℕ) (cs : List CarriedPart) →
      AreParts settings vp8 sender f frame count k i cs → d < length cs → m ≡ k + d → j ≡ i + d →
      (c : CarriedPart) × IsPart settings vp8 sender f frame count m j c
  part_at f frame count k i d m j [] are within is_m is_j = absurd (omega arith)
  part_at f frame count k i zero m j (c ∷ cs) are within is_m is_j =
      let same_k : k ≡ m = omega arith in
      let same_i : i ≡ j = omega arith in (
        c,
        subst (λ (x : ℕ). IsPart settings vp8 sender f frame count x j c) same_k
            (subst (λ (y : ℕ). IsPart settings vp8 sender f frame count k y c) same_i are.0),
      )
  part_at f frame count k i (suc d) m j (c ∷ cs) are within is_m is_j =
      part_at f frame count (k + 1) (i + 1) d m j cs are.1 (omega arith) (omega arith) (omega arith)

  module _ (honest : HonestSender settings vp8 sender) (f from to : ℕ) (spans : Spans sender f from to) where
    -- the packet from which the frame goes is one of it
    of_frame : IsSomeAnd (slice_get sender.packets from) (IsOf f)
    of_frame = let some : from ≤ to = spans.some in (spans.exactly from).1 (omega arith, some)

    -- as part k of frame g it is its first
    by_part : (g : ℕ) (frame : SentFrame) → Travels settings vp8 sender g frame (honest.place g) (honest.parts g) →
        (k : ℕ) → honest.place g + k ≡ from → k < length (honest.parts g) →
        IsSomeAnd (slice_get sender.packets from) (SaysStart vp8)
    by_part g frame travels zero here within =
        let p : (c : CarriedPart) × IsPart settings vp8 sender g frame (length (honest.parts g)) 0 from c =
        part_at g frame (length (honest.parts g)) 0 (honest.place g) 0 0 from
        (honest.parts g) travels.each within refl (omega arith) in
        there_and (SaysStart vp8) (slice_get sender.packets from) (Media g 0 p.0.text) p.1.sent (
          p.0.packet,
          p.0.part,
          p.1.media.reads,
          p.1.media.part_reads,
          first_says p.0.packet.payload p.0.part p.1.media.part_reads p.1.start,
        )
    by_part g frame travels (suc k) here within =
        let p : (c : CarriedPart) × IsPart settings vp8 sender g frame (length (honest.parts g)) (suc k) from c =
        part_at g frame (length (honest.parts g)) 0 (honest.place g) (suc k) (suc k) from
        (honest.parts g) travels.each within (omega arith) (omega arith) in
        let q : (c : CarriedPart) × IsPart settings vp8 sender g frame (length (honest.parts g)) k (from - 1) c =
        part_at g frame (length (honest.parts g)) 0 (honest.place g) k k (from - 1) (honest.parts g) travels.each
        (omega arith) (omega arith) (omega arith) in
        let same : g ≡ f =
        and_there (IsOf f) (slice_get sender.packets from) (Media g (suc k) p.0.text) p.1.sent of_frame in
        let bounds : (from ≤ from - 1) × (from - 1 ≤ to) =
        (spans.exactly (from - 1)).0
        (there_and (IsOf f) (slice_get sender.packets (from - 1)) (Media g k q.0.text) q.1.sent same) in
        absurd (omega (arith, bounds.0, here))

    -- the frame of which it is a part is there
    by_frame : (g : ℕ) (o : Option SentFrame) → slice_get sender.frames g ≡ o → g < length sender.frames →
        honest.place g ≤ from → from < honest.place g + length (honest.parts g) →
        IsSomeAnd (slice_get sender.packets from) (SaysStart vp8)
    by_frame g None none there after upto =
        absurd (none-some _ (sym none
        ∙ slice_get-get_or sender.frames g (record { bytes = []; key = false; ts = 0; layers = None; references = [] }) there))
    by_frame g (Some frame) is there after upto =
        by_part g frame (if_there
        (λ (x : SentFrame). Travels settings vp8 sender g x (honest.place g) (honest.parts g))
        (slice_get sender.frames g) frame is (honest.travels g)) (from - honest.place g) (omega arith) (omega arith)

    -- a packet that is no part is of no frame
    no_part : (packet : SentPacket) → IsNoPart packet → IsOf f packet → ⊥
    no_part (Media g k text) none of = none
    no_part (Fec payload) none of = of
    no_part Empty none of = of

    -- it says that the frame begins with it
    says : IsSomeAnd (slice_get sender.packets from) (SaysStart vp8)
    says =
        let w : (packet : SentPacket) × (slice_get sender.packets from ≡ Some packet) =
        what_is_there (IsOf f) (slice_get sender.packets from) of_frame in
        elim (honest.no_other from (slice_get_within sender.packets from w.0 w.1)) [
          | inl none ↦ absurd (no_part w.0 (and_there IsNoPart (slice_get sender.packets from) w.0 w.1 none)
              (and_there (IsOf f) (slice_get sender.packets from) w.0 w.1 of_frame))
          | inr p ↦ by_frame p.0 (slice_get sender.frames p.0) refl p.1 p.2 p.3
        ]

-- so it is evident at every time
pub vp8-begins : Vp8BeginsHolds
vp8-begins settings sender honest h f from to n spans = inl (says settings sender honest f from to spans)
