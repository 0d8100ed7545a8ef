-- The text of a packet: what is kept of it.
use Rattle.std.specs.Prelude.{◌≡◌, ℕ, List, Some}
use Rattle.vrx_rtp.specs.Packet.{Packet, octets_of}
use Rattle.vrx_num.specs.Octets.{AreOctets}
use Rattle.vrx_rtp.specs.Reading.{read}

-- the packet without its padding: P = 0, and no padding octets (RFC 3550 5.1)
abbrev pub without_padding : Packet → Packet
without_padding packet = record packet { padding = 0 }

-- the text of a packet: the octets that spell it without its padding
abbrev pub packet_text : Packet → List ℕ
packet_text packet = octets_of (without_padding packet)

-- the text of a packet that octets, each below 256, read as: it reads as the packet without its padding; if the
-- packet has no padding, it is the octets themselves; and each of its octets is below 256
pub record TextOf (octets : List ℕ) (packet : Packet) : Type 0 where
  pub reads : read (packet_text packet) ≡ Some (without_padding packet)
  pub same : packet.padding ≡ 0 → packet_text packet ≡ octets
  pub below : AreOctets (packet_text packet)

-- every text is so
abbrev pub TextsHold : Type 0
TextsHold = (octets : List ℕ) (packet : Packet) → AreOctets octets → read octets ≡ Some packet → TextOf octets packet
