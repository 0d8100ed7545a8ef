-- The fields of the packet at the front of some octets, by their places (RFC 3550 6.4.1).
use Rattle.std.specs.Prelude.{ℕ, ◌+◌, ◌-◌, ◌*◌, ◌/◌, ◌%◌, ◌==◌, Bool, if◌then◌else◌, ◌&&◌, List, [], ◌∷◌, take, drop, slice_index}
use Rattle.std.specs.Int.{w16, w32, w64, from_be_bytes}
use Rattle.vrx_rtcp.specs.declared.types.TheConstants.{SR, RR, BYE, RTPFB, PSFB, FMT_NACK, FMT_PLI}
use Rattle.vrx_rtcp.specs.Packet.{Message, Sender, Report, Bye, Nack, Pli, Other}

-- the numbers of 32 and of 64 bits at a place
abbrev pub u32_at : List ℕ → ℕ → ℕ
u32_at octets i = from_be_bytes w32 (take 4 (drop i octets))

abbrev pub u64_at : List ℕ → ℕ → ℕ
u64_at octets i = from_be_bytes w64 (take 8 (drop i octets))

-- V: the two highest bits of octet 0
abbrev pub version : List ℕ → ℕ
version octets = slice_index octets 0 / 64

-- P: the bit below them
abbrev pub is_padded : List ℕ → Bool
is_padded octets = slice_index octets 0 / 32 % 2 == 1

-- the count or format: the five lowest bits
abbrev pub count : List ℕ → ℕ
count octets = slice_index octets 0 % 32

-- the packet type
abbrev pub kind : List ℕ → ℕ
kind octets = slice_index octets 1

-- how many octets the packet has: four for each word that its length counts, and four
unfoldable pub size : List ℕ → ℕ
size octets = 4 * (from_be_bytes w16 (slice_index octets 2 ∷ slice_index octets 3 ∷ []) + 1)

-- the packet's last octet
abbrev pub last : List ℕ → ℕ
last octets = slice_index octets (size octets - 1)

-- how many octets of padding there are
abbrev pub padding : List ℕ → ℕ
padding octets = if is_padded octets then last octets else 0

-- how many octets the packet has without its padding
abbrev pub unpadded_size : List ℕ → ℕ
unpadded_size octets = size octets - padding octets

-- what lies between the header's four octets and the padding
abbrev pub content : List ℕ → List ℕ
content octets = take (unpadded_size octets - 4) (drop 4 octets)

-- what a packet with this count or format, this kind and this content says
unfoldable pub message_of : ℕ → ℕ → List ℕ → Message
message_of count kind content =
    if kind == SR then Sender (record {
      ssrc = u32_at content 0;
      ntp = u64_at content 4;
      rtp_time = u32_at content 12;
      packets = u32_at content 16;
      octets = u32_at content 20;
      blocks = take (24 * count) (drop 24 content);
    })
    else if kind == RR then Report (u32_at content 0) (take (24 * count) (drop 4 content))
    else if kind == BYE then Bye (take (4 * count) content)
    else if (kind == RTPFB) && (count == FMT_NACK) then Nack (u32_at content 0) (u32_at content 4) (drop 8 content)
    else if (kind == PSFB) && (count == FMT_PLI) then Pli (u32_at content 0) (u32_at content 4)
    else Other kind

-- what the packet at the front says
abbrev pub message : List ℕ → Message
message octets = message_of (count octets) (kind octets) (content octets)
