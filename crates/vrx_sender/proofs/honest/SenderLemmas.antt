-- A drill's sender is honest, whatever was drawn.
use Rattle.std.proofs.Common.{◌≡◌, ◌≢◌, ◌⊎◌, ℕ, zero, suc, ◌+◌, ◌*◌, ◌%◌, ◌<◌, ◌≤◌, true, All, List, [], ◌∷◌, ◌++◌, length, ◌==◌, Option, Some, None, slice_get, IfSome, IsSomeAnd, refl, ap, sym, ◌∙◌, subst, inl, inr, arith}
use Rattle.std.proofs.lemmas.Bool.{cases_lt}
use Rattle.vrx_rtp.specs.Laws.{ReadsPackets, SpellsItself}
use Rattle.vrx_rtp.specs.Packet.{Packet, octets_of}
use Rattle.vrx_fec.specs.Mask.{numbers_from}
use Rattle.vrx_fec.specs.Payload.{IsPayload}
use Rattle.vrx_fec.specs.Parity.{Texts, offsets_of}
use Rattle.vrx_vp8.specs.Descriptor.{vp8}
use Rattle.vrx_core.specs.honest.Sender.{Sender, Media, Fec, IsNoPart, wire_of}
use Rattle.vrx_core.specs.honest.Chain.{InChain}
use Rattle.vrx_core.specs.honest.HonestSender.{CarriedPart, HasText, HonestSender, IsTrueFec, Travels}
use Rattle.vrx_sender.specs.Draws.{Drawn}
use Rattle.vrx_sender.specs.Frames.{octets, packet_count, part_count, sent_frame}
use Rattle.vrx_sender.specs.Packets.{fec_payload, frames_from, media, media_from, packets_from, longest, parity, parts, payload, sender_of, sent_media, sent_packets, settings, texts_from, wire}
use Rattle.vrx_sender.proofs.FecLemmas.{own_of}
use Rattle.vrx_sender.proofs.honest.LayersLemmas.{drawn-at, drawn-within, if-frame, keeps, references-in}
use Rattle.vrx_sender.proofs.PacketLemmas.{length-packet, length-texts}
use Rattle.vrx_sender.proofs.honest.ParityLemmas.{AreTexts, parity-octets, parity-spells, parity-true}
use Rattle.vrx_sender.proofs.honest.PartLemmas.{octets-packet, octets-payload}
use Rattle.vrx_sender.proofs.honest.PlaceLemmas.{Located, Sized, length-frames, length-octets, locate, media-count, packet-at, start, start-later}
use Rattle.vrx_sender.proofs.honest.TravelsLemmas.{AreBodies, bodies-are, carries, length-carries, octets-are, travels-is}

-- ---- the packets of a frame, among all of its own

get-front : {A : Type 0} (xs ys : List A) (i : ℕ) → i < length xs → slice_get (xs ++ ys) i ≡ slice_get xs i
get-front [] ys i lt = absurd (omega arith)
get-front (x ∷ xs) ys zero lt = refl
get-front (x ∷ xs) ys (suc i) lt = get-front xs ys i (omega arith)

get-last : {A : Type 0} (xs : List A) (y : A) (n : ℕ) → length xs ≡ n → slice_get (xs ++ y ∷ []) n ≡ Some y
get-last [] y zero is = refl
get-last [] y (suc n) is = absurd (omega (arith, is))
get-last (x ∷ xs) y zero is = absurd (omega (arith, is))
get-last (x ∷ xs) y (suc n) is = get-last xs y n (omega (arith, is))

length-sent-media : (f k : ℕ) (ps : List Packet) → length (sent_media f k ps) ≡ length ps
length-sent-media f k [] = refl
length-sent-media f k (p ∷ ps) = omega (arith, length-sent-media f (k + 1) ps)

-- a media packet is some part of its frame, and has its text
media-at : (f k : ℕ) (ps : List Packet) (j : ℕ) → j < length ps →
    (p : Packet) × (slice_get ps j ≡ Some p) × (slice_get (sent_media f k ps) j ≡ Some (Media f (k + j) (octets_of p)))
media-at f k [] j lt = absurd (omega (arith, lt))
media-at f k (p ∷ ps) zero lt = (p, refl, ap (λ (n : ℕ). Some (Media f n (octets_of p))) (let t : k ≡ k + 0 = omega arith in t))
media-at f k (p ∷ ps) (suc j) lt =
    let at = media-at f (k + 1) ps j (omega (arith, lt)) in
    (at.0, at.1, at.2 ∙ ap (λ (n : ℕ). Some (Media f n (octets_of at.0))) (let t : k + 1 + j ≡ k + suc j = omega arith in t))

-- ---- the texts of a frame's packets

offsets-are : (k : ℕ) (ps : List Packet) → offsets_of (texts_from k ps) ≡ numbers_from k (length ps)
offsets-are k [] = refl
offsets-are k (p ∷ ps) = ap (λ (ns : List ℕ). k ∷ ns) (offsets-are (k + 1) ps)

pub texts-are : (f count k i first : ℕ) (bodies : List (List ℕ)) → AreBodies bodies →
    AreTexts (texts_from first (media_from f count k i bodies))
texts-are f count k i first [] are = tt
texts-are f count k i first (body ∷ bodies) are = (
  octets-packet i f 96 (k + 1 == count) (payload f k body) (omega arith) (octets-payload f k body are.0.are),
  texts-are f count (k + 1) (i + 1) (first + 1) bodies are.1,
)

pub short-media : (f count k i first : ℕ) (bodies : List (List ℕ)) → AreBodies bodies → longest (texts_from first (media_from f count k i bodies)) ≤ 1006
short-media f count k i first [] are = omega arith
short-media f count k i first (body ∷ bodies) are =
    omega (arith, length-packet i f 96 (k + 1 == count) (payload f k body), are.0.few, short-media f count (k + 1) (i + 1) (first + 1) bodies are.1)

pub bodies-of : (f size : ℕ) → 0 < size → AreBodies (parts (part_count (length (octets f size))) (octets f size))
bodies-of f size some =
    bodies-are (part_count (length (octets f size))) (octets f size) (omega (arith, length-octets f size, some))
    (omega (arith, length-octets f size)) (octets-are f size)

-- each text of a frame's packets is that of the packet there
has-texts : (sender : Sender) (f k i first : ℕ) (ps : List Packet) →
    ((j : ℕ) → j < length ps → slice_get sender.packets (i + j) ≡ slice_get (sent_media f k ps) j) → (back from : ℕ) →
    i + back ≡ from + first →
    All (λ t. (j : ℕ) × (j + back ≡ from + t.0) × IsSomeAnd (slice_get sender.packets j) (HasText t.1)) (texts_from first ps)
has-texts sender f k i first [] sent back from at n d lt = absurd (omega (arith, lt))
has-texts sender f k i first (p ∷ ps) sent back from at zero d lt =
    (i, at, rw (ap (slice_get sender.packets) (let t : i ≡ i + 0 = omega arith in t) ∙ sent 0 (omega arith)) refl)
has-texts sender f k i first (p ∷ ps) sent back from at (suc n) d lt =
    has-texts sender f (k + 1) (i + 1) (first + 1) ps
    (λ j less. ap (slice_get sender.packets) (let t : i + 1 + j ≡ i + suc j = omega arith in t) ∙ sent (suc j) (omega (arith, less)))
    back from (omega (arith, at)) n d (omega (arith, lt))

sized-at : (ds : List Drawn) (f : ℕ) (d : Drawn) → Sized ds → slice_get ds f ≡ Some d → (0 < d.size) × (d.size < 12000)
sized-at [] f d sized is = absurd cc
sized-at (e ∷ ds) zero d sized is = let same : e ≡ d = cc in subst (λ (x : Drawn). (0 < x.size) × (x.size < 12000)) same sized.0
sized-at (e ∷ ds) (suc f) d sized is = sized-at ds f d sized.1 is

module _ (spells : SpellsItself) (reads : ReadsPackets) (ds : List Drawn) (sized : Sized ds) where
  -- packet j of frame f
  here : (f j : ℕ) (d : Drawn) → slice_get ds f ≡ Some d → j < packet_count d.size →
      slice_get (sender_of ds).packets (start ds f + j) ≡ slice_get (sent_packets f (start ds f) (octets f d.size)) j
  here f j d is within =
      packet-at 0 0 ds f j d is within
      ∙ ap (λ (n : ℕ). slice_get (sent_packets n (0 + start ds f) (octets n d.size)) j) (let t : 0 + f ≡ f = omega arith in t)
      ∙ ap (λ (n : ℕ). slice_get (sent_packets f n (octets f d.size)) j) (let t : 0 + start ds f ≡ start ds f = omega arith in t)

  -- a part of it
  part-here : (f j : ℕ) (d : Drawn) → slice_get ds f ≡ Some d → j < part_count d.size →
      slice_get (sender_of ds).packets (start ds f + j) ≡ slice_get (sent_media f 0 (media f (start ds f) (octets f d.size))) j
  part-here f j d is within =
      here f j d is (omega (arith, within))
      ∙ get-front (sent_media f 0 (media f (start ds f) (octets f d.size))) _ j
      (omega (arith, within, length-sent-media f 0 (media f (start ds f) (octets f d.size)), media-count f (start ds f) d.size))

  -- and its FEC packet
  fec-here : (f : ℕ) (d : Drawn) → slice_get ds f ≡ Some d →
      slice_get (sender_of ds).packets (start ds f + part_count d.size) ≡ Some (Fec (fec_payload (start ds f) (media f (start ds f) (octets f d.size))))
  fec-here f d is =
      here f (part_count d.size) d is (omega arith)
      ∙ get-last (sent_media f 0 (media f (start ds f) (octets f d.size))) _ (part_count d.size)
      (length-sent-media f 0 (media f (start ds f) (octets f d.size)) ∙ media-count f (start ds f) d.size)

  -- ---- FEC packets are true

  true-fec : (f : ℕ) (d : Drawn) → slice_get ds f ≡ Some d →
      IsTrueFec (sender_of ds) (start ds f + part_count d.size) (fec_payload (start ds f) (media f (start ds f) (octets f d.size)))
  true-fec f d is =
      let i : ℕ = start ds f in
      let ps : List Packet = media f i (octets f d.size) in
      let n : ℕ = part_count d.size in
      let texts : Texts = texts_from 0 ps in
      let size = sized-at ds f d sized is in
      let bodies = bodies-of f d.size size.0 in
      let count : length texts ≡ n = length-texts 0 ps ∙ media-count f i d.size in
      let are : AreTexts texts = texts-are f (part_count (length (octets f d.size))) 0 i 0 _ bodies in
      let short : longest texts < 65536 = omega (arith, short-media f (part_count (length (octets f d.size))) 0 i 0 _ bodies) in
      let fits : wire i < 65536 = omega arith in
      let some : 0 < n = omega (arith, size.0) in
      let few : n < 13 = omega (arith, size.1) in
      let own : own_of (wire i) n ≡ wire_of (sender_of ds) (i + n) = omega arith in
      record {
        says = parity (wire i) texts;
        below = parity-octets (wire i) n fits some few texts count are short;
        spells = subst (λ (m : ℕ). IsPayload (fec_payload i ps) m (parity (wire i) texts)) own
            (parity-spells (wire i) n fits some few texts count are short);
        back = n;
        near = omega (arith, few);
        base_is = omega (arith, few);
        texts = texts;
        true_is = parity-true (wire i) n fits some few texts count are short (offsets-are 0 ps ∙ ap (numbers_from 0) (media-count f i d.size));
        protects = has-texts (sender_of ds) f 0 i 0 ps
            (λ j lt. part-here f j d is (omega (arith, lt, media-count f i d.size))) n (i + n) (omega arith);
      }

  -- ---- what a packet is

  -- a packet is a part of its frame, or the FEC packet
  pub parity-is : (i : ℕ) (payload : List ℕ) → slice_get (sender_of ds).packets i ≡ Some (Fec payload) →
      IsTrueFec (sender_of ds) i payload
  parity-is i payload is =
      let its : Located ds i = locate 0 0 ds i (drawn-within (packets_from 0 0 ds) i (Fec payload) is) in
      let ps : List Packet = media its.f (start ds its.f) (octets its.f its.d.size) in
      elim (cases_lt its.j (part_count its.d.size)) [
        | inl part ↦
            let at = media-at its.f 0 ps its.j (omega (arith, part, media-count its.f (start ds its.f) its.d.size)) in
            let clash : Some (Fec payload) ≡ Some (Media its.f (0 + its.j) (octets_of at.0)) =
            sym is ∙ ap (slice_get (packets_from 0 0 ds)) its.at ∙ part-here its.f its.j its.d its.drawn_is part ∙ at.2 in
            absurd cc
        | inr last ↦
            let j : its.j ≡ part_count its.d.size = omega (arith, last, its.within) in
            let at : i ≡ start ds its.f + part_count its.d.size = its.at ∙ ap (λ (n : ℕ). start ds its.f + n) j in
            let same : Some (Fec payload) ≡ Some (Fec (fec_payload (start ds its.f) ps)) =
            sym is ∙ ap (slice_get (packets_from 0 0 ds)) at ∙ fec-here its.f its.d its.drawn_is in
            let octets-same : fec_payload (start ds its.f) ps ≡ payload = cc in
            subst (λ (n : ℕ). IsTrueFec (sender_of ds) n payload) (sym at)
            (subst (λ (o : List ℕ). IsTrueFec (sender_of ds) (start ds its.f + part_count its.d.size) o) octets-same
            (true-fec its.f its.d its.drawn_is))
      ]

  -- ---- the frames

  parts-with : ℕ → Option Drawn → List CarriedPart
  parts-with f None = []
  parts-with f (Some d) = carries f (start ds f) d.size

  parts-of : ℕ → List CarriedPart
  parts-of f = parts-with f (slice_get ds f)

  parts-here : (f : ℕ) (d : Drawn) → slice_get ds f ≡ Some d → parts-of f ≡ carries f (start ds f) d.size
  unfolding parts-of parts-with
  parts-here f d is = ap (parts-with f) is

  length-here : (f : ℕ) (d : Drawn) → slice_get ds f ≡ Some d → length (parts-of f) ≡ part_count d.size
  length-here f d is = ap length (parts-here f d is) ∙ length-carries f (start ds f) d.size

  travels-here : (f : ℕ) → IfSome (slice_get (frames_from 0 ds) f)
      (λ frame. Travels settings vp8 (sender_of ds) f frame (start ds f) (parts-of f))
  travels-here f = if-frame ds f (λ frame. Travels settings vp8 (sender_of ds) f frame (start ds f) (parts-of f)) (λ d is.
      let size = sized-at ds f d sized is in
      subst (λ (ps : List CarriedPart). Travels settings vp8 (sender_of ds) f (sent_frame f d.size) (start ds f) ps)
      (sym (parts-here f d is))
      (travels-is spells reads (sender_of ds) refl f (start ds f) d.size size.0 size.1 (λ j lt. part-here f j d is lt)))

  no-other-here : (i : ℕ) → i < length (packets_from 0 0 ds) →
      IsSomeAnd (slice_get (packets_from 0 0 ds) i) IsNoPart
      ⊎ ((f : ℕ) × (f < length (frames_from 0 ds)) × (start ds f ≤ i) × (i < start ds f + length (parts-of f)))
  no-other-here i lt =
      let its : Located ds i = locate 0 0 ds i lt in
      elim (cases_lt its.j (part_count its.d.size)) [
        | inl part ↦ inr (
          its.f,
          omega (arith, drawn-within ds its.f its.d its.drawn_is, length-frames 0 ds),
          omega (arith, its.at),
          omega (arith, its.at, part, length-here its.f its.d its.drawn_is),
        )
        | inr last ↦
            let j : its.j ≡ part_count its.d.size = omega (arith, last, its.within) in
            inl (rw (ap (slice_get (packets_from 0 0 ds)) (its.at ∙ ap (λ (n : ℕ). start ds its.f + n) j)
            ∙ fec-here its.f its.d its.drawn_is) tt)
      ]

  in-order-here : (f g : ℕ) → f < g → g < length (frames_from 0 ds) → start ds f + length (parts-of f) ≤ start ds g
  in-order-here f g before within =
      let d = drawn-at ds f (omega (arith, before, within, length-frames 0 ds)) in
      omega (arith, start-later ds f g d.0 d.1 before, length-here f d.0 d.1)

  -- THE SENDER of these draws is honest
  pub honest-sender : HonestSender settings vp8 (sender_of ds)
  honest-sender = record {
    begins = omega arith;
    place = start ds;
    parts = parts-of;
    travels = travels-here;
    in_order = in-order-here;
    no_other = no-other-here;
    parity = parity-is;
    from_key = if-frame ds 0 (λ frame. frame.key ≡ true) (λ d is. refl);
    references = λ f. if-frame ds f (λ frame. All (λ g. InChain (sender_of ds) f g) frame.references) (λ d is. references-in ds f d is);
    layers = inl (keeps ds);
    apart = λ f. if-frame ds f (λ frame. IfSome (slice_get (frames_from 0 ds) (f + 1)) (λ after. frame.ts ≢ after.ts))
        (λ d is. if-frame ds (f + 1) (λ after. (3000 * f) % 4294967296 ≢ after.ts) (λ e is-next same. omega (arith, same)));
  }
