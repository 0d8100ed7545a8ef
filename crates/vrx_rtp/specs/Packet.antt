-- RTP packets, and the octets that spell them (RFC 3550 5.1; the header extension: 5.3.1).
--
--  0                   1                   2                   3
--  0 1 2 3 4 5 6 7 8 9 0 1 2 3 4 5 6 7 8 9 0 1 2 3 4 5 6 7 8 9 0 1
-- +-+-+-+-+-+-+-+-+-+-+-+-+-+-+-+-+-+-+-+-+-+-+-+-+-+-+-+-+-+-+-+-+
-- |V=2|P|X|  CC   |M|     PT      |              seq              |
-- +-+-+-+-+-+-+-+-+-+-+-+-+-+-+-+-+-+-+-+-+-+-+-+-+-+-+-+-+-+-+-+-+
-- |                              ts                               |
-- +-+-+-+-+-+-+-+-+-+-+-+-+-+-+-+-+-+-+-+-+-+-+-+-+-+-+-+-+-+-+-+-+
-- |                             ssrc                              |
-- +=+=+=+=+=+=+=+=+=+=+=+=+=+=+=+=+=+=+=+=+=+=+=+=+=+=+=+=+=+=+=+=+
-- |                        csrc: CC words                         |
-- +-+-+-+-+-+-+-+-+-+-+-+-+-+-+-+-+-+-+-+-+-+-+-+-+-+-+-+-+-+-+-+-+
-- |            profile            |        count of words         |   if X = 1
-- +-+-+-+-+-+-+-+-+-+-+-+-+-+-+-+-+-+-+-+-+-+-+-+-+-+-+-+-+-+-+-+-+
-- |                             words                             |
-- +-+-+-+-+-+-+-+-+-+-+-+-+-+-+-+-+-+-+-+-+-+-+-+-+-+-+-+-+-+-+-+-+
-- |                            payload                            |
-- |                                               +-+-+-+-+-+-+-+-+
-- |               filler          |               |    padding    |   if P = 1
-- +-+-+-+-+-+-+-+-+-+-+-+-+-+-+-+-+-+-+-+-+-+-+-+-+-+-+-+-+-+-+-+-+
use Rattle.std.specs.Prelude.{◌≡◌, ℕ, zero, suc, ◌+◌, ◌-◌, ◌/◌, ◌%◌, ◌^◌, ◌<◌, ◌≤◌, Bool, ◌==◌, if◌then◌else◌, List, [], ◌∷◌, ◌++◌, length, replicate, Option, None, Some, is_some, IfSome}
use Rattle.std.specs.Int.{w16, w32, to_be_bytes}

-- a header extension: the 16 bits that its profile defines, and its words, four octets each (RFC 3550 5.3.1)
pub record HeaderExtension : Type 0 where
  pub profile : ℕ
  pub words : List ℕ

-- a packet, wherever it lies in memory: marker bit, payload type, sequence number, timestamp in ticks of the
-- payload's clock, identifier of the synchronization source, the contributing sources, four octets each, the header
-- extension if there is one, the payload, and how many padding octets follow it
pub record Packet : Type 0 where
  pub marker : Bool
  pub pt : ℕ
  pub seq : ℕ
  pub ts : ℕ
  pub ssrc : ℕ
  pub csrc : List ℕ
  pub extension : Option HeaderExtension
  pub payload : List ℕ
  pub padding : ℕ

-- the first octet: the version 2 in its two high bits; bit P if there is padding; bit X if there is an extension;
-- and in its four low bits CC, the count of contributing sources
abbrev pub first_octet : Packet → ℕ
first_octet p = 128 + (if p.padding == 0 then 0 else 32) + (if is_some p.extension then 16 else 0) + length p.csrc / 4

-- the octet of the marker bit and, below it, the payload type
abbrev pub marker_and_type : Bool → ℕ → ℕ
marker_and_type marker pt = if marker then 128 + pt else pt

-- the twelve octets that each header has: each number with its highest octet first (RFC 3550 4)
abbrev pub fixed_header : Packet → List ℕ
fixed_header p =
    first_octet p ∷ marker_and_type p.marker p.pt ∷ to_be_bytes w16 p.seq
    ++ to_be_bytes w32 p.ts ++ to_be_bytes w32 p.ssrc

-- the octets of a header extension: the profile's 16 bits, the count of the words, which doesn't count these four
-- octets, and the words (RFC 3550 5.3.1)
abbrev pub extension_octets : Option HeaderExtension → List ℕ
extension_octets None = []
extension_octets (Some e) = to_be_bytes w16 e.profile ++ to_be_bytes w16 (length e.words / 4) ++ e.words

-- The padding octets, so many of them: the last says how many there are, itself included (RFC 3550 5.1, padding). The
-- others are a filler, of which the standard says nothing.
abbrev pub padding_octets : List ℕ → ℕ → List ℕ
padding_octets filler zero = []
padding_octets filler (suc n) = filler ++ suc n ∷ []

-- the octets of a packet, with this filler
abbrev pub octets_with : List ℕ → Packet → List ℕ
octets_with filler p =
    fixed_header p ++ p.csrc ++ extension_octets p.extension ++ p.payload ++ padding_octets filler p.padding

-- the octets are whole 32-bit words, and at most so many octets
pub record AreWords (most : ℕ) (octets : List ℕ) : Type 0 where
  pub whole : length octets % 4 ≡ 0
  pub fit : length octets ≤ most

-- the profile has 16 bits, and so has the count of the words, each of four octets
pub record FitsExtension (e : HeaderExtension) : Type 0 where
  pub profile : e.profile < 2 ^ 16
  pub words : AreWords 262140 e.words

-- each field fits the bits that it has in the header: CC has four bits, so there are at most 15 sources of four
-- octets
pub record Fits (p : Packet) : Type 0 where
  pub pt : p.pt < 128
  pub seq : p.seq < 2 ^ 16
  pub ts : p.ts < 2 ^ 32
  pub ssrc : p.ssrc < 2 ^ 32
  pub csrc : AreWords 60 p.csrc
  pub extension : IfSome p.extension FitsExtension
  pub padding : p.padding < 256

-- THE GRAMMAR: the octets are the packet's, with some filler, and no field is cut off
pub record IsPacket (octets : List ℕ) (p : Packet) : Type 0 where
  -- the padding octets but the last
  pub filler : List ℕ
  pub filled : length filler ≡ p.padding - 1
  pub spelled : octets ≡ octets_with filler p
  pub fits : Fits p

-- the octets of a packet in which each padding octet but the last is 0
abbrev pub octets_of : Packet → List ℕ
octets_of p = octets_with (replicate (p.padding - 1) 0) p
