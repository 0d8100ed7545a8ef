-- RTCP packets, and the octets that spell them (RFC 3550 6.4 to 6.7, RFC 4585 6.1 to 6.3.1).
--
--  0                   1                   2                   3
--  0 1 2 3 4 5 6 7 8 9 0 1 2 3 4 5 6 7 8 9 0 1 2 3 4 5 6 7 8 9 0 1
-- +-+-+-+-+-+-+-+-+-+-+-+-+-+-+-+-+-+-+-+-+-+-+-+-+-+-+-+-+-+-+-+-+
-- |V=2|P|  count  |     kind      |             words             |
-- +-+-+-+-+-+-+-+-+-+-+-+-+-+-+-+-+-+-+-+-+-+-+-+-+-+-+-+-+-+-+-+-+
-- |                            content                            |
-- :                                                               :
-- +-+-+-+-+-+-+-+-+-+-+-+-+-+-+-+-+-+-+-+-+-+-+-+-+-+-+-+-+-+-+-+-+
-- :                padding, if P = 1              | its length    |
-- +-+-+-+-+-+-+-+-+-+-+-+-+-+-+-+-+-+-+-+-+-+-+-+-+-+-+-+-+-+-+-+-+
--
-- count: of report blocks or sources, or the format of a feedback message (FMT); kind: the packet type;
-- words: the packet's length in words of four octets, less one. Numbers have their highest octet first.
use Rattle.std.specs.Prelude.{◌≡◌, ◌≢◌, ℕ, ◌+◌, ◌*◌, ◌%◌, ◌^◌, ◌<◌, ◌≤◌, Bool, true, false, if◌then◌else◌, List, [], ◌∷◌, ◌++◌, length}
use Rattle.std.specs.Int.{w16, w32, w64, to_be_bytes}
use Rattle.vrx_rtcp.specs.declared.types.TheConstants.{SR, RR, BYE, RTPFB, PSFB, FMT_NACK, FMT_PLI}

-- what a sender report says: its sender, the moment in NTP format and in the clock of its RTP timestamps,
-- how many packets and octets of payload it sent, and the octets of its report blocks
pub record SenderFields : Type 0 where
  pub ssrc : ℕ
  pub ntp : ℕ
  pub rtp_time : ℕ
  pub packets : ℕ
  pub octets : ℕ
  pub blocks : List ℕ

-- what a packet says: octets stand for what is left to its reader
pub data Message : Type 0 where
  Sender : SenderFields → Message
  Report : (ssrc : ℕ) → (blocks : List ℕ) → Message
  Bye : (sources : List ℕ) → Message
  Nack : (sender media : ℕ) → (items : List ℕ) → Message
  Pli : (sender media : ℕ) → Message
  Other : (kind : ℕ) → Message

-- The content of a sender report (RFC 3550 6.4.1), with count report blocks of 24 octets.
--
-- +-+-+-+-+-+-+-+-+-+-+-+-+-+-+-+-+-+-+-+-+-+-+-+-+-+-+-+-+-+-+-+-+
-- |                             ssrc                              |
-- +-+-+-+-+-+-+-+-+-+-+-+-+-+-+-+-+-+-+-+-+-+-+-+-+-+-+-+-+-+-+-+-+
-- |                 ntp, most significant word                    |
-- +-+-+-+-+-+-+-+-+-+-+-+-+-+-+-+-+-+-+-+-+-+-+-+-+-+-+-+-+-+-+-+-+
-- |                 ntp, least significant word                   |
-- +-+-+-+-+-+-+-+-+-+-+-+-+-+-+-+-+-+-+-+-+-+-+-+-+-+-+-+-+-+-+-+-+
-- |                           rtp_time                            |
-- +-+-+-+-+-+-+-+-+-+-+-+-+-+-+-+-+-+-+-+-+-+-+-+-+-+-+-+-+-+-+-+-+
-- |                            packets                            |
-- +-+-+-+-+-+-+-+-+-+-+-+-+-+-+-+-+-+-+-+-+-+-+-+-+-+-+-+-+-+-+-+-+
-- |                            octets                             |
-- +-+-+-+-+-+-+-+-+-+-+-+-+-+-+-+-+-+-+-+-+-+-+-+-+-+-+-+-+-+-+-+-+
-- :                  blocks, then the extension                   :
pub record IsSenderReport (count : ℕ) (content : List ℕ) (s : SenderFields) : Type 0 where
  pub extension : List ℕ
  pub spelled : content ≡ to_be_bytes w32 s.ssrc ++ to_be_bytes w64 s.ntp ++ to_be_bytes w32 s.rtp_time
      ++ to_be_bytes w32 s.packets ++ to_be_bytes w32 s.octets ++ s.blocks ++ extension
  pub whole_blocks : length s.blocks ≡ 24 * count
  pub ssrc_fits : s.ssrc < 2 ^ 32
  pub ntp_fits : s.ntp < 2 ^ 64
  pub rtp_time_fits : s.rtp_time < 2 ^ 32
  pub packets_fits : s.packets < 2 ^ 32
  pub octets_fits : s.octets < 2 ^ 32

-- The content of a receiver report (RFC 3550 6.4.2): the SSRC of its sender, count report blocks of
-- 24 octets, and the extension.
pub record IsReceiverReport (count : ℕ) (content : List ℕ) (ssrc : ℕ) (blocks : List ℕ) : Type 0 where
  pub extension : List ℕ
  pub spelled : content ≡ to_be_bytes w32 ssrc ++ blocks ++ extension
  pub whole_blocks : length blocks ≡ 24 * count
  pub ssrc_fits : ssrc < 2 ^ 32

-- The content of a goodbye (RFC 3550 6.6): count sources of four octets, and whatever gives the reason.
pub record IsBye (count : ℕ) (content sources : List ℕ) : Type 0 where
  pub reason : List ℕ
  pub spelled : content ≡ sources ++ reason
  pub whole_sources : length sources ≡ 4 * count

-- The content of a feedback message (RFC 4585 6.1): the SSRC of its sender, the SSRC of the media that
-- it speaks of, and the control information, as the items of a generic NACK (6.2.1). A PLI needs none (6.3.1).
--
-- +-+-+-+-+-+-+-+-+-+-+-+-+-+-+-+-+-+-+-+-+-+-+-+-+-+-+-+-+-+-+-+-+
-- |                            sender                             |
-- +-+-+-+-+-+-+-+-+-+-+-+-+-+-+-+-+-+-+-+-+-+-+-+-+-+-+-+-+-+-+-+-+
-- |                             media                             |
-- +-+-+-+-+-+-+-+-+-+-+-+-+-+-+-+-+-+-+-+-+-+-+-+-+-+-+-+-+-+-+-+-+
-- :                            control                            :
pub record IsFeedback (content : List ℕ) (sender media : ℕ) (control : List ℕ) : Type 0 where
  pub spelled : content ≡ to_be_bytes w32 sender ++ to_be_bytes w32 media ++ control
  pub sender_fits : sender < 2 ^ 32
  pub media_fits : media < 2 ^ 32

-- Every other content: of a kind that isn't read, or a feedback message of another format.
pub record IsOther (count kind : ℕ) (content : List ℕ) : Type 0 where
  pub no_report : (kind ≢ SR) × (kind ≢ RR)
  pub no_bye : kind ≢ BYE
  pub other_nack : kind ≡ RTPFB → (count ≢ FMT_NACK) × (8 ≤ length content)
  pub other_pli : kind ≡ PSFB → (count ≢ FMT_PLI) × (8 ≤ length content)

-- what a packet with this count or format, this kind and this content says
abbrev pub Means : ℕ → ℕ → List ℕ → Message → Type 0
Means count kind content (Sender s) = (kind ≡ SR) × IsSenderReport count content s
Means count kind content (Report ssrc blocks) = (kind ≡ RR) × IsReceiverReport count content ssrc blocks
Means count kind content (Bye sources) = (kind ≡ BYE) × IsBye count content sources
Means count kind content (Nack sender media items) =
    (kind ≡ RTPFB) × (count ≡ FMT_NACK) × IsFeedback content sender media items
Means count kind content (Pli sender media) =
    (kind ≡ PSFB) × (count ≡ FMT_PLI) × (control : List ℕ) × IsFeedback content sender media control
Means count kind content (Other other) = (kind ≡ other) × IsOther count kind content

-- Without P there is no padding. With P there are octets of it in whole words, and the last is their
-- number (RFC 3550 6.4.1).
abbrev pub IsPadding : Bool → List ℕ → Type 0
IsPadding false padding = padding ≡ []
IsPadding true padding = (front : List ℕ) × (padding ≡ front ++ length padding ∷ []) × (length padding % 4 ≡ 0)

-- the first octet: version 2, whether there is padding, and the count or format
abbrev pub first_octet : Bool → ℕ → ℕ
first_octet padded count = 128 + (if padded then 32 else 0) + count

-- the octets are one packet, from the first to the last, and this is what it says
pub record IsPacket (packet : List ℕ) (message : Message) : Type 0 where
  pub padded : Bool
  pub count : ℕ
  pub kind : ℕ
  pub words : ℕ
  pub content : List ℕ
  pub padding : List ℕ
  pub spelled : packet ≡ first_octet padded count ∷ kind ∷ to_be_bytes w16 words ++ content ++ padding
  pub measured : length packet ≡ 4 * (words + 1)
  pub count_fits : count < 32
  pub words_fit : words < 2 ^ 16
  pub ends : IsPadding padded padding
  pub means : Means count kind content message

-- the octets begin with a packet
pub record BeginsWithPacket (octets : List ℕ) : Type 0 where
  pub packet : List ℕ
  pub behind : List ℕ
  pub message : Message
  pub spelled : octets ≡ packet ++ behind
  pub is : IsPacket packet message
