-- What a datagram is, in one line: RTP that reads (RFC 3550 5.1), RTCP packets (RFC 3550 6.1), or neither, with the
-- first fault and its offset. Each line ends with a line feed.
use Rattle.std.specs.Prelude.{◌≡◌, ℕ, suc, zero, ◌+◌, ◌/◌, Bool, true, false, if◌then◌else◌, List, [], ◌∷◌, ◌++◌, length, drop, codes, Option, None, Some, Result, Ok, Err}
use Rattle.std.specs.List.{flat_map}
use Rattle.std.specs.Int.{w32, to_be_bytes}
use Rattle.std.specs.Fmt.{decimal}
use Rattle.hex.specs.Hex.{encode_lower}
use Rattle.vrx_rtp.specs.declared.fault.RtpFault.{RtpFault}
use Rattle.vrx_rtp.specs.declared.fault.RtpFaultKind.{RtpFaultKind}
use Rattle.vrx_rtp.specs.declared.fault.RtpFaultKind.TheVariants as rtp_kind
use Rattle.vrx_rtp.specs.Rtcp.{IsRtcp, is_rtcp}
use Rattle.vrx_rtp.specs.Packet as rtp
use Rattle.vrx_rtp.specs.Faults as rtp_faults
use Rattle.vrx_rtp.specs.Reading.{reading}
use Rattle.vrx_rtcp.specs.declared.fault.RtcpFault.{RtcpFault}
use Rattle.vrx_rtcp.specs.declared.fault.RtcpFaultKind.{RtcpFaultKind}
use Rattle.vrx_rtcp.specs.declared.fault.RtcpFaultKind.TheVariants as rtcp_kind
use Rattle.vrx_rtcp.specs.Packet.{Message, Sender, Report, Bye, Nack, Pli, Other}
use Rattle.vrx_rtcp.specs.Compound.{SpelledPacket, IsCompound, HasFault}
use Rattle.vrx_rtcp.specs.Fault as rtcp_faults
use Rattle.vrx_rtcp.specs.Field.{size, message}
use Rattle.vrx_rtcp.specs.View.{fault_at}
use Rattle.vrx_text.specs.Transcript.{line_feed}

-- ---- the lines

-- the marker bit
abbrev pub marker_text : Bool → List ℕ
marker_text true = codes "1"
marker_text false = codes "0"

-- the number of the extension's words, or - if there is no extension
abbrev pub extension_text : Option rtp.HeaderExtension → List ℕ
extension_text None = codes "-"
extension_text (Some e) = decimal (length e.words / 4)

-- K rtp pt=P seq=S ts=T ssrc=H m=M csrc=C ext=E pad=D payload=L: the SSRC in eight lower-case digits, and of the
-- sources, the extension's words, the padding octets and the payload's octets their numbers
abbrev pub rtp_line : ℕ → rtp.Packet → List ℕ
rtp_line k p =
    decimal k ++ codes " rtp pt=" ++ decimal p.pt ++ codes " seq=" ++ decimal p.seq
    ++ codes " ts=" ++ decimal p.ts ++ codes " ssrc=" ++ encode_lower (to_be_bytes w32 p.ssrc) ++ codes " m="
    ++ marker_text p.marker
    ++ codes " csrc=" ++ decimal (length p.csrc / 4) ++ codes " ext=" ++ extension_text p.extension
    ++ codes " pad=" ++ decimal p.padding ++ codes " payload=" ++ decimal (length p.payload) ++ line_feed

-- the name of a fault of RTP
abbrev pub rtp_kind_text : RtpFaultKind → List ℕ
rtp_kind_text rtp_kind.Short = codes "Short"
rtp_kind_text rtp_kind.Version = codes "Version"
rtp_kind_text rtp_kind.CsrcPastEnd = codes "CsrcPastEnd"
rtp_kind_text rtp_kind.ExtensionPastEnd = codes "ExtensionPastEnd"
rtp_kind_text rtp_kind.PaddingPastEnd = codes "PaddingPastEnd"

-- K bad rtp KIND AT
abbrev pub bad_rtp_line : ℕ → RtpFault → List ℕ
bad_rtp_line k fault =
    decimal k ++ codes " bad rtp " ++ rtp_kind_text fault.kind ++ codes " " ++ decimal fault.at ++ line_feed

-- the word for what an RTCP packet says; another one's has its type after it
abbrev pub message_word : Message → List ℕ
message_word (Sender s) = codes "sr"
message_word (Report ssrc blocks) = codes "rr"
message_word (Bye sources) = codes "bye"
message_word (Nack sender media items) = codes "nack"
message_word (Pli sender media) = codes "pli"
message_word (Other kind) = codes "other" ++ decimal kind

-- a space and the word of a packet
abbrev pub spaced_word : Message → List ℕ
spaced_word says = codes " " ++ message_word says

-- the words of packets, in order
abbrev pub packet_words : List SpelledPacket → List ℕ
packet_words packets = flat_map (λ p. spaced_word p.message) packets

-- K rtcp, and the word of each packet
abbrev pub rtcp_line : ℕ → List ℕ → List ℕ
rtcp_line k words = decimal k ++ codes " rtcp" ++ words ++ line_feed

-- the name of a fault of RTCP
abbrev pub rtcp_kind_text : RtcpFaultKind → List ℕ
rtcp_kind_text rtcp_kind.Short = codes "Short"
rtcp_kind_text rtcp_kind.Version = codes "Version"
rtcp_kind_text rtcp_kind.PastEnd = codes "PastEnd"
rtcp_kind_text rtcp_kind.Padding = codes "Padding"
rtcp_kind_text rtcp_kind.Body = codes "Body"

-- K bad rtcp KIND AT
abbrev pub bad_rtcp_line : ℕ → RtcpFault → List ℕ
bad_rtcp_line k fault =
    decimal k ++ codes " bad rtcp " ++ rtcp_kind_text fault.kind ++ codes " " ++ decimal fault.at ++ line_feed

-- ---- which of them a datagram has

-- the line that says what the datagram of line k is
pub data IsInspection (k : ℕ) (octets line : List ℕ) : Type 0 where
  RtpPacket : ¬ IsRtcp octets → (p : rtp.Packet) → rtp.IsPacket octets p → line ≡ rtp_line k p →
      IsInspection k octets line
  BadRtp : ¬ IsRtcp octets → (fault : RtpFault) → rtp_faults.first_fault octets ≡ Some fault →
      line ≡ bad_rtp_line k fault → IsInspection k octets line
  Compound : IsRtcp octets → (packets : List SpelledPacket) → IsCompound octets packets →
      line ≡ rtcp_line k (packet_words packets) → IsInspection k octets line
  BadRtcp : IsRtcp octets → (fault : RtcpFault) → HasFault octets fault → line ≡ bad_rtcp_line k fault →
      IsInspection k octets line

-- ---- the same line, computed

abbrev pub line_of_rtp : ℕ → Result rtp.Packet RtpFault → List ℕ
line_of_rtp k (Ok p) = rtp_line k p
line_of_rtp k (Err fault) = bad_rtp_line k fault

abbrev pub line_of_rtcp : ℕ → Result (List ℕ) RtcpFault → List ℕ
line_of_rtcp k (Ok words) = rtcp_line k words
line_of_rtcp k (Err fault) = bad_rtcp_line k fault

-- a packet's word before the words of those after it, unless one of those has a fault
abbrev pub with_word : List ℕ → Result (List ℕ) RtcpFault → Result (List ℕ) RtcpFault
with_word word (Ok words) = Ok (word ++ words)
with_word word (Err fault) = Err fault

-- the fault of the packet at an offset; else the words, which begin with its own
abbrev pub words_or : ℕ → Option RtcpFaultKind → Result (List ℕ) RtcpFault → Result (List ℕ) RtcpFault
words_or offset (Some kind) words = Err (fault_at offset kind)
words_or offset None words = words

-- The words of the packets that the octets at an offset are, at most so many, or the first fault: if the packet at
-- the front has none, its word, and then the words of what lies after it.
unfoldable pub words_from : ℕ → ℕ → List ℕ → Result (List ℕ) RtcpFault
words_from zero offset octets = Ok []
words_from (suc most) offset [] = Ok []
words_from (suc most) offset (octet ∷ octets) = let rest : List ℕ = octet ∷ octets in
    words_or offset (rtcp_faults.first_fault rest)
    (with_word (spaced_word (message rest)) (words_from most (offset + size rest) (drop (size rest) rest)))

-- the words of all packets: there are fewer of them than octets
abbrev pub words_in : List ℕ → Result (List ℕ) RtcpFault
words_in octets = words_from (length octets) 0 octets

-- the line that says what the datagram of line k is
unfoldable pub inspection : ℕ → List ℕ → List ℕ
inspection k octets = if is_rtcp octets then line_of_rtcp k (words_in octets) else line_of_rtp k (reading octets)
