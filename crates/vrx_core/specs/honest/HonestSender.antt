-- An honest sender, for given settings and a codec. Each packet is a part of a frame, a FEC packet, or empty.
use Rattle.std.specs.Prelude.{◌≡◌, ◌≢◌, ◌↔◌, ◌⊎◌, ℕ, ◌+◌, ◌-◌, ◌%◌, ◌<◌, ◌≤◌, true, List, [], ◌∷◌, map, length, slice_get, All, Contains, Some, IfSome, IsSomeAnd, Ok}
use Rattle.std.specs.Option.{option_map}
use Rattle.vrx_num.specs.declared.limits.TheConstants.{HALF_SPACE, MOST_OCTETS}
use Rattle.vrx_rtp.specs.Packet.{Packet}
use Rattle.vrx_num.specs.Octets.{AreOctets}
use Rattle.vrx_rtp.specs.Reading.{read}
use Rattle.vrx_codec.specs.Part.{Part}
use Rattle.vrx_codec.specs.declared.part.Start.{Start}
use Rattle.vrx_codec.specs.declared.part.Start.TheVariants.{Yes, No, ByNeighbour}
use Rattle.vrx_codec.specs.Meaning.{Meaning}
use Rattle.vrx_window.specs.Sound.{on_wire}
use Rattle.vrx_fec.specs.Parity.{IsTrue, Texts}
use Rattle.vrx_fec.specs.Payload.{IsPayload, Payload}
use Rattle.vrx_core.specs.honest.Sender.{SentFrame, SentPacket, Media, Fec, Sender, IsNoPart, wire_of}
use Rattle.vrx_core.specs.honest.Layers.{LayersAreRight}
use Rattle.vrx_core.specs.honest.Chain.{InChain}
use Rattle.vrx_core.specs.declared.settings.Settings.{Settings}

-- what a packet carries: its text (the RTP packet), how the text reads, and what the payload says
pub record CarriedPart : Type 0 where
  pub text : List ℕ
  pub packet : Packet
  pub part : Part

-- a media packet of the stream, under this sequence number: its text has at most 9,216 octets, each below 256, and
-- reads as an RTP packet without padding, with the media type and the media SSRC (RFC 3550 5.1); its payload isn't
-- empty and is read by the codec. The limit on its octets is this project's own
pub record IsMedia (settings : Settings) (codec : Meaning) (wire : ℕ) (carried : CarriedPart) : Type 0 where
  pub size : length carried.text ≤ MOST_OCTETS
  pub below : AreOctets carried.text
  pub reads : read carried.text ≡ Some carried.packet
  pub no_padding : carried.packet.padding ≡ 0
  pub number : carried.packet.seq ≡ wire
  pub type : carried.packet.pt ≡ settings.media_type
  pub source : carried.packet.ssrc ≡ settings.media_ssrc
  pub payload : carried.packet.payload ≢ []
  pub part_reads : codec.read carried.packet.payload ≡ Ok carried.part

-- what part k of a frame may say of its beginning, k counted from 0: one that says that it begins the frame is the
-- first, one that says that it doesn't isn't, and each may leave it to the packet before (RFC 7741 4.2, RFC 6184 5.1)
abbrev pub SaysRightly : ℕ → Start → Type 0
SaysRightly k Yes = k ≡ 0
SaysRightly k No = k ≢ 0
SaysRightly k ByNeighbour = Unit {0}

-- packet i is part k of frame f, which has so many parts: it has the frame's timestamp, has the marker exactly if it is
-- the last part (RFC 7741 4.1, RFC 6184 5.1), says rightly whether it begins the frame, and carries the frame's layers,
-- its picture cut to 15 bits (RFC 7741 4.2)
pub record IsPart (settings : Settings) (codec : Meaning) (sender : Sender) (f : ℕ) (frame : SentFrame)
    (count k i : ℕ) (carried : CarriedPart) : Type 0 where
  pub sent : slice_get sender.packets i ≡ Some (Media f k carried.text)
  pub media : IsMedia settings codec (wire_of sender i) carried
  pub timestamp : carried.packet.ts ≡ frame.ts
  pub marker : (carried.packet.marker ≡ true) ↔ (k + 1 ≡ count)
  pub start : SaysRightly k carried.part.start
  pub layers : carried.part.layers ≡ option_map on_wire frame.layers

-- packet i is part k of the frame, packet i + 1 is part k + 1, and so on
abbrev pub AreParts : Settings → Meaning → Sender → ℕ → SentFrame → ℕ → ℕ → ℕ → List CarriedPart → Type 0
AreParts settings codec sender f frame count k i [] = Unit {0}
AreParts settings codec sender f frame count k i (carried ∷ others) =
    IsPart settings codec sender f frame count k i carried
    × AreParts settings codec sender f frame count (k + 1) (i + 1) others

-- frame f travels in the packets from this place on: they are its parts, of which there is at least one, and join to
-- its bytes; it is a keyframe exactly if some part says so
pub record Travels (settings : Settings) (codec : Meaning) (sender : Sender) (f : ℕ) (frame : SentFrame) (place : ℕ)
    (parts : List CarriedPart) : Type 0 where
  pub some : 0 < length parts
  pub each : AreParts settings codec sender f frame (length parts) 0 place parts
  pub joins : codec.join (map (λ carried. carried.part) parts) ≡ Ok frame.bytes
  pub key : (frame.key ≡ true) ↔ ((carried : CarriedPart) × Contains parts carried × (carried.part.key ≡ true))

-- a packet is media with this text
abbrev pub HasText : List ℕ → SentPacket → Type 0
HasText text (Media f k other) = other ≡ text
HasText text _ = ⊥

-- this payload of packet i, a FEC packet, is true (RFC 5109 8). It protects media packets alone; they lie before it, as
-- those of each payload that reads do
pub record IsTrueFec (sender : Sender) (i : ℕ) (payload : List ℕ) : Type 0 where
  -- it is octets, each below 256, that read under the packet's sequence number (RFC 5109 7.3, 7.4)
  pub says : Payload
  pub below : AreOctets payload
  pub spells : IsPayload payload (wire_of sender i) says
  -- SN base is the sequence number of so many places before the packet, fewer than 32,768
  pub back : ℕ
  pub near : back < HALF_SPACE
  pub base_is : says.base ≡ (wire_of sender i + 65536 - back) % 65536
  -- it is the parity of just the texts that its level 0 names, each with its offset from SN base
  pub texts : Texts
  pub true_is : IsTrue says texts
  -- and each of these is the text of the media packet there
  pub protects : All (λ t. (j : ℕ) × (j + back ≡ i + t.0) × IsSomeAnd (slice_get sender.packets j) (HasText t.1)) texts

pub record HonestSender (settings : Settings) (codec : Meaning) (sender : Sender) : Type 0 where
  pub begins : sender.first_wire < 65536
  -- the place of each frame's first packet, and what its packets carry
  pub place : ℕ → ℕ
  pub parts : ℕ → List CarriedPart
  -- each frame travels in the packets from its place on
  pub travels : (f : ℕ) → IfSome (slice_get sender.frames f)
      (λ frame. Travels settings codec sender f frame (place f) (parts f))
  -- frame after frame, in the order of the frames
  pub in_order : (f g : ℕ) → f < g → g < length sender.frames → place f + length (parts f) ≤ place g
  -- each other packet is a FEC packet or empty
  pub no_other : (i : ℕ) → i < length sender.packets →
      IsSomeAnd (slice_get sender.packets i) IsNoPart
      ⊎ ((f : ℕ) × (f < length sender.frames) × (place f ≤ i) × (i < place f + length (parts f)))
  -- and each FEC packet is true
  pub parity : (i : ℕ) (payload : List ℕ) → slice_get sender.packets i ≡ Some (Fec payload) →
      IsTrueFec sender i payload
  -- the first frame is a keyframe
  pub from_key : IfSome (slice_get sender.frames 0) (λ frame. frame.key ≡ true)
  -- each reference of a frame lies in its chain
  pub references : (f : ℕ) →
      IfSome (slice_get sender.frames f) (λ frame. All (λ g. InChain sender f g) frame.references)
  -- all frames have layers, by the rules, or none has
  pub layers : LayersAreRight sender.frames
  -- frames beside each other have different timestamps, which is this project's own rule
  pub apart : (f : ℕ) → IfSome (slice_get sender.frames f)
      (λ frame. IfSome (slice_get sender.frames (f + 1)) (λ after. frame.ts ≢ after.ts))
