-- In which octets a sender's packet travels, and what it brings to the receiver.
use Rattle.std.specs.Prelude.{◌≡◌, ◌⊎◌, ◌≤◌, ℕ, List, [], length, Some, IsSomeAnd}
use Rattle.vrx_num.specs.declared.limits.TheConstants.{MOST_OCTETS}
use Rattle.vrx_rtp.specs.Packet.{Packet}
use Rattle.vrx_num.specs.Octets.{AreOctets}
use Rattle.vrx_rtp.specs.Reading.{read}
use Rattle.vrx_wrap.specs.Red.{red_of}
use Rattle.vrx_wrap.specs.Rtx.{rtx_of}
use Rattle.vrx_window.specs.Content.{Content}
use Rattle.vrx_window.specs.Content as contents
use Rattle.vrx_core.specs.machine.Text.{without_padding}
use Rattle.vrx_core.specs.honest.Sender.{SentPacket, Media, Fec, Empty}
use Rattle.vrx_core.specs.declared.settings.Settings.{Settings}

-- how a packet travels: as it is; in RED (RFC 2198 3); sent again, under a number of the source of retransmissions
-- (RFC 4588 4); or in RED, and so sent again
pub data Wrapping : Type 0 where
  Plain : Wrapping
  InRed : Wrapping
  Again : (number : ℕ) → Wrapping
  RedAgain : (number : ℕ) → Wrapping

-- the packet as which it travels so, if the settings have the types for it. What RED makes of a packet is given
abbrev pub TravelsAs : Settings → (ℕ → Packet → Packet) → Packet → Wrapping → Packet → Type 0
TravelsAs settings in_red packet Plain wire = wire ≡ packet
TravelsAs settings in_red packet InRed wire = IsSomeAnd settings.red (λ red. wire ≡ in_red red.red_type packet)
TravelsAs settings in_red packet (Again number) wire =
    IsSomeAnd settings.rtx (λ rtx. wire ≡ rtx_of rtx.media_rtx_type rtx.ssrc number packet)
TravelsAs settings in_red packet (RedAgain number) wire = IsSomeAnd settings.red
    (λ red. IsSomeAnd settings.rtx
    (λ rtx. IsSomeAnd rtx.red_rtx_type
    (λ type. wire ≡ rtx_of type rtx.ssrc number (in_red red.red_type packet))))

-- octets carry a packet, with padding after it or without (RFC 3550 5.1): at most 9,216, each below 256, they read as
-- a packet that without its padding is this one
pub record Carries (octets : List ℕ) (wire : Packet) : Type 0 where
  pub size : length octets ≤ MOST_OCTETS
  pub below : AreOctets octets
  pub packet : Packet
  pub reads : read octets ≡ Some packet
  pub unpadded : without_padding packet ≡ wire

-- octets carry a packet in one of its forms
pub record IsFormOf (settings : Settings) (in_red : ℕ → Packet → Packet) (packet : Packet) (octets : List ℕ) : Type 0 where
  pub how : Wrapping
  pub wire : Packet
  pub travels : TravelsAs settings in_red packet how wire
  pub carries : Carries octets wire

-- a packet of the stream without a payload, under this sequence number (RFC 3550 5.1). Its timestamp, marker,
-- contributing sources and extension are free
pub record IsEmptyPacket (settings : Settings) (number : ℕ) (packet : Packet) : Type 0 where
  pub number_is : packet.seq ≡ number
  pub type : packet.pt ≡ settings.media_type
  pub source : packet.ssrc ≡ settings.media_ssrc
  pub payload : packet.payload ≡ []

-- a FEC packet of the stream with this payload, under this sequence number, and with the type of FEC, if the settings
-- have one (RFC 5109 7, RFC 3550 5.1). Its timestamp, marker, contributing sources and extension are free
pub record IsFecPacket (settings : Settings) (number : ℕ) (payload : List ℕ) (packet : Packet) : Type 0 where
  pub number_is : packet.seq ≡ number
  pub type : IsSomeAnd settings.red (λ red. red.fec_type ≡ Some packet.pt)
  pub source : packet.ssrc ≡ settings.media_ssrc
  pub payload_is : packet.payload ≡ payload

-- a packet travels in RED
abbrev pub IsThroughRed : Wrapping → Type 0
IsThroughRed Plain = ⊥
IsThroughRed InRed = Unit {0}
IsThroughRed (Again number) = ⊥
IsThroughRed (RedAgain number) = Unit {0}

-- a packet in RED without a block: its payload stays as it is
abbrev pub bare_red : ℕ → Packet → Packet
bare_red red_type packet = record packet { pt = red_type }

-- a packet with this sequence number travels so: a media packet in one of the forms of its text; a FEC packet in one of
-- the forms with RED of any FEC packet of the stream with its payload; an empty packet in one of the forms of any packet
-- of the stream without a payload, in RED with a block without octets or without a block
abbrev pub IsWireForm : Settings → ℕ → SentPacket → List ℕ → Type 0
IsWireForm settings number (Media frame part text) octets =
    (packet : Packet) × (read text ≡ Some packet) × IsFormOf settings red_of packet octets
IsWireForm settings number (Fec payload) octets = (packet : Packet) × IsFecPacket settings number payload packet
    × (form : IsFormOf settings red_of packet octets) × IsThroughRed form.how
IsWireForm settings number Empty octets = (packet : Packet) × IsEmptyPacket settings number packet
    × (IsFormOf settings red_of packet octets ⊎ IsFormOf settings bare_red packet octets)

-- what a sender's packet brings: a media packet its text, and a FEC packet its payload
abbrev pub content_sent : SentPacket → Content
content_sent (Media frame part text) = contents.Media text
content_sent (Fec payload) = contents.Fec payload
content_sent Empty = contents.Empty
