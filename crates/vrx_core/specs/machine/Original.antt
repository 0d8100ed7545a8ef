-- What octets are, whatever came before: the rows of the table of reasons that ask for nothing else.
use Rattle.std.specs.Prelude.{ℕ, Bool, false, ◌||◌, ◌==◌, nat_lt, if◌then◌else◌, List, [], ◌∷◌, length, Option, None, Some, Result, Ok, Err}
use Rattle.std.specs.Option.{option_and_then, option_map_or}
use Rattle.std.specs.Result.{result_map_both}
use Rattle.vrx_num.specs.ResultChain.{◌>>=◌}
use Rattle.vrx_num.specs.declared.limits.TheConstants.{MOST_OCTETS}
use Rattle.vrx_rtp.specs.Packet.{Packet}
use Rattle.vrx_rtp.specs.Reading.{reading}
use Rattle.vrx_rtp.specs.Rtcp.{is_rtcp}
use Rattle.vrx_rtp.specs.declared.fault.RtpFault.{RtpFault}
use Rattle.vrx_rtp.specs.declared.fault.RtpFaultKind.{RtpFaultKind}
use Rattle.vrx_rtp.specs.declared.fault.RtpFaultKind.TheVariants.{Short, Version, CsrcPastEnd, ExtensionPastEnd, PaddingPastEnd}
use Rattle.vrx_rtcp.specs.Compound.{is_compound}
use Rattle.vrx_wrap.specs.Red.{Block, block_of}
use Rattle.vrx_wrap.specs.Rtx.{Apt, original_of as rtx_original}
use Rattle.vrx_wrap.specs.declared.red.RedFault.{RedFault}
use Rattle.vrx_wrap.specs.declared.red.RedFault.TheVariants as reds
use Rattle.vrx_wrap.specs.declared.rtx.RtxFault.{RtxFault}
use Rattle.vrx_wrap.specs.declared.rtx.RtxFault.TheVariants as faults
use Rattle.vrx_codec.specs.Part.{Part}
use Rattle.vrx_codec.specs.declared.fault.PartFault.{PartFault}
use Rattle.vrx_codec.specs.Meaning.{Meaning}
use Rattle.vrx_fec.specs.Payload.{Payload}
use Rattle.vrx_fec.specs.Reading.{reading as fec_reading}
use Rattle.vrx_fec.specs.declared.fault.FecFault.{FecFault}
use Rattle.vrx_window.specs.Content.{Content, Media, Fec, Empty}
use Rattle.vrx_core.specs.machine.Text.{packet_text}
use Rattle.vrx_core.specs.declared.original.NotTaken.{NotTaken}
use Rattle.vrx_core.specs.declared.original.NotTaken.TheVariants.{Control, Refused}
use Rattle.vrx_core.specs.declared.reply.Reason.{Reason}
use Rattle.vrx_core.specs.declared.reply.Reason.TheVariants.{TooLong, BadRtcp, NotRtp, BadHeader, OtherSsrc, OtherType, NoApt, RtxEmpty, MoreBlocks, BadRed, BadFec, BadPart}
use Rattle.vrx_core.specs.declared.settings.Red.{Red}
use Rattle.vrx_core.specs.declared.settings.Rtx.{Rtx}
use Rattle.vrx_core.specs.declared.settings.Settings.{Settings}

-- a packet of the stream, as it was sent: its sequence number of 16 bits (RFC 3550 5.1), and what it brings
pub record Original : Type 0 where
  pub wire : ℕ
  pub content : Content

-- a payload that isn't empty brings media, with this text, if the codec reads a part of a frame in it
abbrev pub part_content : List ℕ → Result Part PartFault → Result Content Reason
part_content text (Err fault) = Err (BadPart fault.code)
part_content text (Ok part) = Ok (Media text)

-- what a packet with this text and this payload brings: without a payload it is empty
abbrev pub content_by : Meaning → (text payload : List ℕ) → Result Content Reason
content_by codec text [] = Ok Empty
content_by codec text (octet ∷ octets) = part_content text (codec.read (octet ∷ octets))

-- the payload type under which RED packets come again, with that of RED, if they do
abbrev pub red_pair : Option ℕ → Option Red → List (ℕ × ℕ)
red_pair (Some red_rtx_type) (Some red) = (red_rtx_type, red.red_type) ∷ []
red_pair red_rtx_type red = []

-- what retransmissions are of (RFC 4588 8.6): media, and RED if it comes again
abbrev pub apt_of : Settings → Rtx → Apt
apt_of settings rtx = record {
  pairs = (rtx.media_rtx_type, settings.media_type) ∷ red_pair rtx.red_rtx_type settings.red;
  media_ssrc = settings.media_ssrc;
}

-- a payload type is that of RED
abbrev pub is_red_type : Settings → ℕ → Bool
is_red_type settings pt = option_map_or (λ red. red.red_type == pt) settings.red false

-- why a retransmission has no original
abbrev pub rtx_reason : RtxFault → Reason
rtx_reason faults.NoApt = NoApt
rtx_reason faults.RtxEmpty = RtxEmpty

-- the original of a packet of the source of retransmissions, if there is such a source (RFC 4588 4)
abbrev pub original_from : Settings → Packet → Option Rtx → Result Packet Reason
original_from settings packet None = Err OtherSsrc
original_from settings packet (Some rtx) =
    if packet.ssrc == rtx.ssrc
    then result_map_both (λ original. original) rtx_reason (rtx_original (apt_of settings rtx) packet)
    else Err OtherSsrc

-- the packet of the media source that a packet is: itself, if its payload type is that of media or of RED; or the
-- original of a retransmission
abbrev pub media_packet : Settings → Packet → Result Packet Reason
media_packet settings packet =
    if packet.ssrc == settings.media_ssrc
    then (if (packet.pt == settings.media_type) || is_red_type settings packet.pt then Ok packet else Err OtherType)
    else original_from settings packet settings.rtx

-- a packet as the media packet of this payload
abbrev pub as_media : Settings → Packet → List ℕ → Packet
as_media settings packet payload = record packet { pt = settings.media_type; payload = payload }

-- a payload type is that of ULPFEC blocks in RED
abbrev pub is_fec_type : Settings → ℕ → Bool
is_fec_type settings pt =
    option_map_or (λ fec_type. fec_type == pt) (option_and_then (λ red. red.fec_type) settings.red) false

-- what a packet of the media source carries, out of RED: media; or parity, whose payload is that of a FEC packet
-- (RFC 5109 7)
pub data Carried : Type 0 where
  Plain : (packet : Packet) → Carried
  Parity : (packet : Packet) → Carried

-- what a RED packet carries, by its one block (RFC 2198 3). Without a payload it is an empty packet
abbrev pub from_block : Settings → Packet → Result Block RedFault → Result Carried Reason
from_block settings packet (Err reds.Empty) = Ok (Plain (as_media settings packet []))
from_block settings packet (Err reds.MoreBlocks) = Err MoreBlocks
from_block settings packet (Ok block) =
    if block.pt == settings.media_type then Ok (Plain (as_media settings packet block.rest))
    else if is_fec_type settings block.pt then Ok (Parity (record packet { payload = block.rest }))
    else Err BadRed

-- what a packet carries, out of RED if it is in RED
abbrev pub out_of_red : Settings → Packet → Result Carried Reason
out_of_red settings packet =
    if is_red_type settings packet.pt then from_block settings packet (block_of packet.payload) else Ok (Plain packet)

-- a FEC payload brings itself, if it reads
abbrev pub parity_content : List ℕ → Result Payload FecFault → Result Content Reason
parity_content payload (Err fault) = Err BadFec
parity_content payload (Ok read) = Ok (Fec payload)

-- what is carried brings; the masks of a FEC payload count from a base beside its packet's sequence number
abbrev pub content_in : Meaning → Carried → Result Content Reason
content_in codec (Plain packet) = content_by codec (packet_text packet) packet.payload
content_in codec (Parity packet) = parity_content packet.payload (fec_reading packet.payload packet.seq)

-- the sequence number of what is carried
abbrev pub seq_of : Carried → ℕ
seq_of (Plain packet) = packet.seq
seq_of (Parity packet) = packet.seq

-- what a packet is: its number, and what it brings
abbrev pub original_in : Meaning → Carried → Result Original Reason
original_in codec carried = result_map_both (λ content. record { wire = seq_of carried; content = content })
    (λ reason. reason) (content_in codec carried)

-- what an RTP packet is: what the packet of the media source carries, out of RED
abbrev pub original_of : Settings → Meaning → Packet → Result Original Reason
original_of settings codec packet =
    media_packet settings packet >>= λ sent. out_of_red settings sent >>= λ carried. original_in codec carried

-- why octets are refused that are no packet (RFC 3550 5.1)
abbrev pub fault_reason : RtpFaultKind → Reason
fault_reason Short = NotRtp
fault_reason Version = NotRtp
fault_reason CsrcPastEnd = BadHeader
fault_reason ExtensionPastEnd = BadHeader
fault_reason PaddingPastEnd = BadHeader

-- what octets are, as they read
abbrev pub original_read : Settings → Meaning → Result Packet RtpFault → Result Original Reason
original_read settings codec (Err fault) = Err (fault_reason fault.kind)
original_read settings codec (Ok packet) = original_of settings codec packet

-- what becomes of RTCP: it isn't taken, and it is refused if the octets are no packets to their end
abbrev pub control : List ℕ → NotTaken
control octets = if is_compound octets then Control else Refused BadRtcp

-- what octets are, or why they aren't taken, whatever came before: they are too long (the limit is this project's
-- own); then RTCP (RFC 5761 4); and then as they read
abbrev pub original : Settings → Meaning → List ℕ → Result Original NotTaken
original settings codec octets =
    if nat_lt MOST_OCTETS (length octets) then Err (Refused TooLong)
    else if is_rtcp octets then Err (control octets)
    else result_map_both (λ packet. packet) Refused (original_read settings codec (reading octets))
