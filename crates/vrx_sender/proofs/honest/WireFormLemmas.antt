-- Each packet of a drill's sender comes in RED, and so sent again: these octets are wire forms of it.
use Rattle.std.proofs.Common.{◌≡◌, ℕ, zero, suc, ◌+◌, ◌%◌, ◌<◌, ◌≤◌, Bool, false, All, List, [], ◌∷◌, ◌++◌, length, map, Some, slice_get, IsSomeAnd, refl, ap, ◌∙◌, subst, arith}
use Rattle.std.specs.Prelude.{◌==◌}
use Rattle.std.specs.Int.{w16, to_be_bytes}
use Rattle.std.proofs.lemmas.List.{length-append}
use Rattle.std.proofs.lemmas.List.Elements.{All-append, All-cons, All-nil}
use Rattle.vrx_num.specs.Octets.{AreOctets}
use Rattle.vrx_rtp.specs.Laws.{ReadsPackets, SpellsItself}
use Rattle.vrx_rtp.specs.Packet.{Packet, octets_of}
use Rattle.vrx_wrap.specs.Red.{red_of}
use Rattle.vrx_wrap.specs.Rtx.{rtx_of}
use Rattle.vrx_fec.specs.Mask.{numbers_from}
use Rattle.vrx_fec.specs.Payload as fec
use Rattle.vrx_fec.specs.Parity.{Texts, xor_of_octets}
use Rattle.vrx_core.specs.honest.Sender.{SentPacket, Media, Fec}
use Rattle.vrx_core.specs.honest.WireForm.{Carries, InRed, IsFecPacket, IsFormOf, IsThroughRed, IsWireForm, RedAgain}
use Rattle.vrx_sender.specs.Drill.{datagram, datagram_again}
use Rattle.vrx_sender.specs.Frames.{octets, part_count, timestamp}
use Rattle.vrx_sender.specs.Packets.{fec_packet, fec_payload, longest, mask_of, media, media_from, packet, packets, parity, parts, payload, sent_media, sent_packets, settings, texts_from, wire}
use Rattle.vrx_sender.proofs.NumbersLemmas.{length-mapped}
use Rattle.vrx_sender.proofs.PacketLemmas.{length-plain, length-texts}
use Rattle.vrx_sender.proofs.honest.ParityLemmas.{AreTexts, parity-octets}
use Rattle.vrx_sender.proofs.honest.PartLemmas.{octets-both, octets-first, octets-payload, octets-plain, octets-two, plain, reads-packet, reads-plain}
use Rattle.vrx_sender.proofs.honest.PlaceLemmas.{length-sent, media-count}
use Rattle.vrx_sender.proofs.honest.SenderLemmas.{bodies-of, short-media, texts-are}
use Rattle.vrx_sender.proofs.honest.TravelsLemmas.{AreBodies}

-- octets are a wire form of one of these packets
abbrev pub IsCarried : List SentPacket → List ℕ → Type 0
IsCarried all octets = (i : ℕ) × IsSomeAnd (slice_get all i) (λ sent. IsWireForm settings (wire i) sent octets)

-- a packet comes as one of these, in RED and so sent again
pub record Comes (all : List SentPacket) (p : Packet) : Type 0 where
  pub at_once : IsCarried all (datagram p)
  pub again : (number : ℕ) → IsCarried all (datagram_again number p)

-- these packets stand among all, from packet i on
abbrev pub Stand : List SentPacket → ℕ → List SentPacket → Type 0
Stand all i [] = Unit {0}
Stand all i (sent ∷ others) = (slice_get all i ≡ Some sent) × Stand all (i + 1) others

-- ---- where packets stand

stand-from : (all : List SentPacket) (i : ℕ) (others : List SentPacket) →
    ((j : ℕ) → slice_get all (i + j) ≡ slice_get others j) → Stand all i others
stand-from all i [] same = tt
stand-from all i (sent ∷ others) same = (
  ap (slice_get all) (let t : i ≡ i + 0 = omega arith in t) ∙ same 0,
  stand-from all (i + 1) others
      (λ j. ap (slice_get all) (let t : i + 1 + j ≡ i + suc j = omega arith in t) ∙ same (suc j)),
)

pub stand-all : (all : List SentPacket) → Stand all 0 all
stand-all all = stand-from all 0 all (λ j. ap (slice_get all) (let t : 0 + j ≡ j = omega arith in t))

pub stand-left : (all : List SentPacket) (i : ℕ) (xs ys : List SentPacket) → Stand all i (xs ++ ys) → Stand all i xs
stand-left all i [] ys stand = tt
stand-left all i (x ∷ xs) ys stand = (stand.0, stand-left all (i + 1) xs ys stand.1)

pub stand-right : (all : List SentPacket) (i n : ℕ) (xs ys : List SentPacket) → length xs ≡ n →
    Stand all i (xs ++ ys) → Stand all (i + n) ys
stand-right all i n [] ys is stand = subst (λ (m : ℕ). Stand all m ys) (let t : i ≡ i + n = omega (arith, is) in t) stand
stand-right all i zero (x ∷ xs) ys is stand = absurd (omega (arith, is))
stand-right all i (suc n) (x ∷ xs) ys is stand =
    subst (λ (m : ℕ). Stand all m ys) (let t : i + 1 + n ≡ i + suc n = omega arith in t)
    (stand-right all (i + 1) n xs ys (omega (arith, is)) stand.1)

-- ---- the length of a FEC payload

length-parity : (base : ℕ) (texts : Texts) → length (fec.octets_of (parity base texts)) ≡ 14 + longest texts
length-parity base texts =
    let octet-of : ℕ → ℕ = λ k. xor_of_octets false (record { mask = mask_of (length texts); size = longest texts } ∷ []) k texts in
    let level : List ℕ = map octet-of (numbers_from 0 (longest texts)) in
    omega (arith, length-append level [], length-mapped octet-of 0 (longest texts))

module _ (spells : SpellsItself) (reads : ReadsPackets) where
  -- ---- forms of one packet

  carries-plain : (marker : Bool) (pt seq ts ssrc : ℕ) (body : List ℕ) → pt < 128 → seq < 65536 → ts < 4294967296 →
      ssrc < 4294967296 → length body ≤ 9000 → AreOctets body →
      Carries (octets_of (plain marker pt seq ts ssrc body)) (plain marker pt seq ts ssrc body)
  carries-plain marker pt seq ts ssrc body pt-fits seq-fits ts-fits ssrc-fits few are = record {
    size = omega (arith, few, length-plain marker pt seq ts ssrc body);
    below = octets-plain marker pt seq ts ssrc body pt-fits are;
    packet = plain marker pt seq ts ssrc body;
    reads = reads-plain spells reads marker pt seq ts ssrc body pt-fits seq-fits ts-fits ssrc-fits are;
    unpadded = refl;
  }

  module _ (i f type : ℕ) (marker : Bool) (body : List ℕ) (fits : type < 128) (few : length body ≤ 8000)
      (are : AreOctets body) where
    in-red : (form : IsFormOf settings red_of (packet i f type marker body) (datagram (packet i f type marker body)))
        × IsThroughRed form.how
    in-red = (
      record {
        how = InRed;
        wire = red_of 100 (packet i f type marker body);
        travels = refl;
        carries = carries-plain marker 100 (wire i) (timestamp f) 1 (type ∷ body) (omega arith) (omega arith) (omega arith)
            (omega arith) (omega (arith, few)) (octets-first type body (omega (arith, fits)) are);
      },
      tt,
    )

    red-again : (number : ℕ) → (form : IsFormOf settings red_of (packet i f type marker body)
        (datagram_again number (packet i f type marker body))) × IsThroughRed form.how
    red-again number = (
      record {
        how = RedAgain (number % 65536);
        wire = rtx_of 98 2 (number % 65536) (red_of 100 (packet i f type marker body));
        travels = refl;
        carries = carries-plain marker 98 (number % 65536) (timestamp f) 2 (to_be_bytes w16 (wire i) ++ type ∷ body)
            (omega arith) (omega arith) (omega arith) (omega arith) (omega (arith, few))
            (octets-both (to_be_bytes w16 (wire i)) (type ∷ body) (octets-two (wire i))
            (octets-first type body (omega (arith, fits)) are));
      },
      tt,
    )

  -- ---- the packets of a frame

  part-comes : (all : List SentPacket) (i f k count : ℕ) (body : List ℕ) → length body ≤ 1000 → AreOctets body →
      slice_get all i ≡ Some (Media f k (octets_of (packet i f 96 (k + 1 == count) (payload f k body)))) →
      Comes all (packet i f 96 (k + 1 == count) (payload f k body))
  part-comes all i f k count body few are sent =
      let p : Packet = packet i f 96 (k + 1 == count) (payload f k body) in
      let its : AreOctets (payload f k body) = octets-payload f k body are in
      let read-is = reads-packet spells reads i f 96 (k + 1 == count) (payload f k body) (omega arith) its in
      record {
        at_once = (i, rw sent (p, read-is, (in-red i f 96 (k + 1 == count) (payload f k body) (omega arith) (omega (arith, few)) its).0));
        again = λ number. (i, rw sent (p, read-is, (red-again i f 96 (k + 1 == count) (payload f k body) (omega arith) (omega (arith, few)) its number).0));
      }

  parts-come : (all : List SentPacket) (f count k i : ℕ) (bodies : List (List ℕ)) → AreBodies bodies →
      Stand all i (sent_media f k (media_from f count k i bodies)) → All (Comes all) (media_from f count k i bodies)
  parts-come all f count k i [] are stand = All-nil (Comes all)
  parts-come all f count k i (body ∷ bodies) are stand =
      All-cons (Comes all) _ (media_from f count (k + 1) (i + 1) bodies)
      (part-comes all i f k count body are.0.few are.0.are stand.0)
      (parts-come all f count (k + 1) (i + 1) bodies are.1 stand.1)

  fec-comes : (all : List SentPacket) (i f : ℕ) (body : List ℕ) → length body ≤ 8000 → AreOctets body →
      slice_get all i ≡ Some (Fec body) → Comes all (packet i f 101 false body)
  fec-comes all i f body few are sent =
      let p : Packet = packet i f 101 false body in
      let its : IsFecPacket settings (wire i) body p = record { number_is = refl; type = refl; source = refl; payload_is = refl } in
      record {
        at_once = let form = in-red i f 101 false body (omega arith) few are in (i, rw sent (p, its, form.0, form.1));
        again = λ number. let form = red-again i f 101 false body (omega arith) few are number in
            (i, rw sent (p, its, form.0, form.1));
      }

  -- the packets of a frame come
  pub frame-comes : (all : List SentPacket) (f i size : ℕ) → 0 < size → size < 12000 →
      Stand all i (sent_packets f i (octets f size)) → All (Comes all) (packets f i (octets f size))
  unfolding packets
  frame-comes all f i size some most stand =
      let ps : List Packet = media f i (octets f size) in
      let count : ℕ = part_count (length (octets f size)) in
      let bodies : List (List ℕ) = parts count (octets f size) in
      let texts : Texts = texts_from 0 ps in
      let are : AreBodies bodies = bodies-of f size some in
      let its-texts : AreTexts texts = texts-are f count 0 i 0 bodies are in
      let short : longest texts ≤ 1006 = short-media f count 0 i 0 bodies are in
      let n : length ps ≡ part_count size = media-count f i size in
      All-append (Comes all) ps (fec_packet f i ps ∷ [])
      (parts-come all f count 0 i bodies are (stand-left all i (sent_media f 0 ps) _ stand))
      (All-cons (Comes all) (fec_packet f i ps) []
      (fec-comes all (i + length ps) f (fec_payload i ps) (omega (arith, short, length-parity (wire i) texts))
      (parity-octets (wire i) (part_count size) (omega arith) (omega (arith, some)) (omega (arith, most)) texts
      (length-texts 0 ps ∙ n) its-texts (omega (arith, short)))
      (stand-right all i (length ps) (sent_media f 0 ps) _ (length-sent f 0 ps) stand).0)
      (All-nil (Comes all)))
