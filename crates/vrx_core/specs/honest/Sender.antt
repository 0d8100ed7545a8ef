-- A sender: what was sent, whatever came of it.
use Rattle.std.specs.Prelude.{◌≡◌, ◌↔◌, ℕ, ◌+◌, ◌%◌, ◌≤◌, Bool, List, slice_get, Option, IsSomeAnd}
use Rattle.vrx_codec.specs.declared.run.Place.{Place}

-- a frame as it was sent: its bytes, whether it is a keyframe, its RTP timestamp (RFC 3550 5.1), its place among
-- temporal layers, if it has one (RFC 7741 4.2), with its picture as it is before it is cut to 15 bits, and its
-- references: the places in the list of the frames that its decoder needs
pub record SentFrame : Type 0 where
  pub bytes : List ℕ
  pub key : Bool
  pub ts : ℕ
  pub layers : Option Place
  pub references : List ℕ

-- a packet as it was sent: part k of frame f, both counted from 0, with its text (the RTP packet); a FEC packet, with
-- its payload (RFC 5109 7.3); or one without a payload
pub data SentPacket : Type 0 where
  Media : (frame part : ℕ) (text : List ℕ) → SentPacket
  Fec : (payload : List ℕ) → SentPacket
  Empty : SentPacket

-- the frames and the packets, in order, and the sequence number of the first packet
pub record Sender : Type 0 where
  pub first_wire : ℕ
  pub frames : List SentFrame
  pub packets : List SentPacket

-- the sequence number of packet i (RFC 3550 5.1: it rises by one for each packet sent)
abbrev pub wire_of : Sender → ℕ → ℕ
wire_of sender i = (sender.first_wire + i) % 65536

-- a packet is a part of frame f
abbrev pub IsOf : ℕ → SentPacket → Type 0
IsOf f (Media g k text) = g ≡ f
IsOf f (Fec payload) = ⊥
IsOf f Empty = ⊥

-- a packet is no part of a frame: it is a FEC packet, or one without a payload
abbrev pub IsNoPart : SentPacket → Type 0
IsNoPart (Media f k text) = ⊥
IsNoPart (Fec payload) = Unit {0}
IsNoPart Empty = Unit {0}

-- the packets of frame f are those from one place to another, of which there is at least one
pub record Spans (sender : Sender) (f from to : ℕ) : Type 0 where
  pub some : from ≤ to
  pub exactly : (i : ℕ) → IsSomeAnd (slice_get sender.packets i) (IsOf f) ↔ ((from ≤ i) × (i ≤ to))
