-- THE PACKETS of a drill's sender (RFC 3550, RFC 7741, RFC 5109). Packet i counts from 0, over all frames.
use Rattle.std.specs.Prelude.{ℕ, zero, suc, ◌+◌, ◌-◌, ◌%◌, ◌^◌, max, Bool, false, ◌==◌, List, [], ◌∷◌, ◌++◌, length, map, take, drop, Some, None}
use Rattle.vrx_rtp.specs.Packet.{Packet, octets_of}
use Rattle.vrx_vp8.specs.Writing.{written_payload}
use Rattle.vrx_window.specs.Sound.{on_wire}
use Rattle.vrx_fec.specs.Making.{head_of}
use Rattle.vrx_fec.specs.Mask.{numbers_from}
use Rattle.vrx_fec.specs.Payload.{Payload}
use Rattle.vrx_fec.specs.Payload as fec
use Rattle.vrx_fec.specs.Parity.{Texts, xor_of_fields, xor_of_octets}
use Rattle.vrx_core.specs.honest.Sender.{SentFrame, SentPacket, Media, Fec, Sender}
use Rattle.vrx_core.specs.declared.settings.Settings.{Settings}
use Rattle.vrx_sender.specs.Draws.{Drawn}
use Rattle.vrx_sender.specs.Frames.{octets, part_count, packet_count, place, sent_frame, timestamp}

-- the settings of a drill's receiver
abbrev pub settings : Settings
settings = record {
  media_ssrc = 1;
  media_type = 96;
  red = Some (record { red_type = 100; fec_type = Some 101 });
  rtx = Some (record { ssrc = 2; media_rtx_type = 97; red_rtx_type = Some 98 });
  from_ssrc = 3;
  interval = 100;
}

-- the sequence number of packet i
abbrev pub wire : ℕ → ℕ
wire i = (65000 + i) % 65536

-- packet i, of frame f, with this type, marker and payload
abbrev pub packet : ℕ → ℕ → ℕ → Bool → List ℕ → Packet
packet i f type marker payload = record {
  marker = marker;
  pt = type;
  seq = wire i;
  ts = timestamp f;
  ssrc = 1;
  csrc = [];
  extension = None;
  payload = payload;
  padding = 0;
}

-- bytes in so many parts: 1,000 octets each, and what is left in the last
abbrev pub parts : ℕ → List ℕ → List (List ℕ)
parts zero bytes = []
parts (suc count) bytes = take 1000 bytes ∷ parts count (drop 1000 bytes)

-- the payload of part k of frame f, with the frame's layers
abbrev pub payload : ℕ → ℕ → List ℕ → List ℕ
payload f k body = written_payload (k == 0) (Some (on_wire (place f))) body

-- the media packets of frame f, which has so many parts: from part k on, which is packet i; the last has the marker
abbrev pub media_from : ℕ → ℕ → ℕ → ℕ → List (List ℕ) → List Packet
media_from f count k i [] = []
media_from f count k i (body ∷ bodies) =
    packet i f 96 (k + 1 == count) (payload f k body) ∷ media_from f count (k + 1) (i + 1) bodies

-- the media packets of frame f with these octets, the first of which is packet i
abbrev pub media : ℕ → ℕ → List ℕ → List Packet
media f i bytes = let count : ℕ = part_count (length bytes) in media_from f count 0 i (parts count bytes)

-- packets as FEC protects them: each text with its offset from the first one's number
abbrev pub texts_from : ℕ → List Packet → Texts
texts_from k [] = []
texts_from k (p ∷ ps) = (k, octets_of p) ∷ texts_from (k + 1) ps

-- the mask that names so many offsets, from 0 on
abbrev pub mask_of : ℕ → ℕ
mask_of count = 2 ^ 16 - 2 ^ (16 - count)

-- the greatest length of a text after its first twelve octets
abbrev pub longest : Texts → ℕ
longest [] = 0
longest (t ∷ ts) = max (length t.1 - 12) (longest ts)

-- The FEC payload of texts, from this SN base on (RFC 5109 8): L = 0, and one level, which names all of them and
-- protects them whole.
abbrev pub parity : ℕ → Texts → Payload
parity base texts = let mask : ℕ = mask_of (length texts) in record {
  head = head_of false base (map (λ k. xor_of_fields k texts) (numbers_from 0 8));
  long = false;
  base = base;
  levels = record {
    mask = mask;
    octets = map (λ k. xor_of_octets false (record { mask = mask; size = longest texts } ∷ []) k texts)
        (numbers_from 0 (longest texts));
  } ∷ [];
}

-- the payload of the FEC packet after these media packets, the first of which is packet i
abbrev pub fec_payload : ℕ → List Packet → List ℕ
fec_payload i ps = fec.octets_of (parity (wire i) (texts_from 0 ps))

-- the FEC packet after the media packets of frame f, the first of which is packet i
abbrev pub fec_packet : ℕ → ℕ → List Packet → Packet
fec_packet f i ps = packet (i + length ps) f 101 false (fec_payload i ps)

-- the packets of frame f with these octets, the first of which is packet i
unfoldable pub packets : ℕ → ℕ → List ℕ → List Packet
packets f i bytes = let ps : List Packet = media f i bytes in ps ++ fec_packet f i ps ∷ []

-- the same, as a sender's: part k of frame f and those after it, and the FEC packet
abbrev pub sent_media : ℕ → ℕ → List Packet → List SentPacket
sent_media f k [] = []
sent_media f k (p ∷ ps) = Media f k (octets_of p) ∷ sent_media f (k + 1) ps

abbrev pub sent_packets : ℕ → ℕ → List ℕ → List SentPacket
sent_packets f i bytes = let ps : List Packet = media f i bytes in sent_media f 0 ps ++ Fec (fec_payload i ps) ∷ []

-- all frames, from frame f on
abbrev pub frames_from : ℕ → List Drawn → List SentFrame
frames_from f [] = []
frames_from f (d ∷ ds) = sent_frame f d.size ∷ frames_from (f + 1) ds

-- the packets of all frames, from frame f on, the first of which is packet i
abbrev pub packets_from : ℕ → ℕ → List Drawn → List SentPacket
packets_from f i [] = []
packets_from f i (d ∷ ds) = sent_packets f i (octets f d.size) ++ packets_from (f + 1) (i + packet_count d.size) ds

-- THE SENDER of a drill with these draws
abbrev pub sender_of : List Drawn → Sender
sender_of ds = record { first_wire = 65000; frames = frames_from 0 ds; packets = packets_from 0 0 ds }
