-- When a datagram is taken, and what becomes of it otherwise.
use Rattle.std.specs.Prelude.{◌≡◌, ◌≢◌, ◌↔◌, ◌⊎◌, ℕ, ◌+◌, ◌<◌, ◌≤◌, true, false, List, [], length, Option, Some, IfSome, IsSomeAnd, Result, Ok, Err}
use Rattle.vrx_num.specs.Extended.{IsHalfAway, extended_number}
use Rattle.vrx_num.specs.declared.limits.TheConstants.{WINDOW, MOST_OCTETS, HALF_SPACE}
use Rattle.vrx_rtp.specs.Packet.{Packet}
use Rattle.vrx_num.specs.Octets.{AreOctets}
use Rattle.vrx_rtp.specs.Reading.{reading}
use Rattle.vrx_rtp.specs.Rtcp.{IsRtcp}
use Rattle.vrx_rtp.specs.declared.fault.RtpFault.{RtpFault}
use Rattle.vrx_rtp.specs.declared.fault.RtpFaultKind.{RtpFaultKind}
use Rattle.vrx_rtp.specs.declared.fault.RtpFaultKind.TheVariants.{Short, Version, CsrcPastEnd, ExtensionPastEnd, PaddingPastEnd}
use Rattle.vrx_rtcp.specs.Compound.{SpelledPacket, IsCompound, HasFault}
use Rattle.vrx_rtcp.specs.declared.fault.RtcpFault.{RtcpFault}
use Rattle.vrx_wrap.specs.Red.{Block, IsRed, HasMore}
use Rattle.vrx_wrap.specs.Rtx.{IsOriginal, IsRtxType}
use Rattle.vrx_codec.specs.Part.{Part}
use Rattle.vrx_codec.specs.declared.fault.PartFault.{PartFault}
use Rattle.vrx_codec.specs.Meaning.{Meaning}
use Rattle.vrx_fec.specs.Payload.{Payload, IsPayload}
use Rattle.vrx_window.specs.Content.{Content, Media, Fec, Empty}
use Rattle.vrx_window.specs.Window.{Contents, is_available, is_dead}
use Rattle.vrx_core.specs.machine.Original.{Carried, Plain, Parity, apt_of, as_media, seq_of}
use Rattle.vrx_core.specs.machine.Text.{packet_text}
use Rattle.vrx_core.specs.machine.Verdict.{verdict}
use Rattle.vrx_core.specs.declared.settings.Rtx.{Rtx}
use Rattle.vrx_core.specs.declared.settings.Settings.{Settings}
use Rattle.vrx_core.specs.declared.original.NotTaken.{NotTaken}
use Rattle.vrx_core.specs.declared.original.NotTaken.TheVariants.{Control, Refused}
use Rattle.vrx_core.specs.declared.reply.What.{What}
use Rattle.vrx_core.specs.declared.reply.What.TheVariants as whats
use Rattle.vrx_core.specs.declared.reply.Reason.TheVariants.{TooLong, BadRtcp, NotRtp, BadHeader, OtherSsrc, OtherType, NoApt, RtxEmpty, MoreBlocks, BadRed, BadFec, BadPart, TooFar, TooOld, Dead, Repeat}

-- a datagram isn't too long, and is RTCP
pub record IsControl (octets : List ℕ) : Type 0 where
  pub size : length octets ≤ MOST_OCTETS
  pub rtcp : IsRtcp octets

-- a datagram isn't too long, and isn't RTCP
pub record IsForRtp (octets : List ℕ) : Type 0 where
  pub size : length octets ≤ MOST_OCTETS
  pub other : IsRtcp octets → ⊥

-- octets that are for RTP read as this packet
pub record IsRead (octets : List ℕ) (packet : Packet) : Type 0 where
  pub rtp : IsForRtp octets
  pub reads : reading octets ≡ Ok packet

-- a payload type is that of RED
abbrev pub IsRedType : Settings → ℕ → Type 0
IsRedType settings pt = IsSomeAnd settings.red (λ red. red.red_type ≡ pt)

-- a payload type is that of the ULPFEC blocks in RED
abbrev pub IsFecType : Settings → ℕ → Type 0
IsFecType settings pt = IsSomeAnd settings.red (λ red. red.fec_type ≡ Some pt)

-- a packet has the media SSRC, and the payload type of media or of RED
pub record IsDirect (settings : Settings) (packet : Packet) : Type 0 where
  pub source : packet.ssrc ≡ settings.media_ssrc
  pub type : (packet.pt ≡ settings.media_type) ⊎ IsRedType settings packet.pt

-- a packet has the SSRC of retransmissions, and not that of media
pub record IsAgain (settings : Settings) (packet : Packet) : Type 0 where
  pub other : packet.ssrc ≢ settings.media_ssrc
  pub rtx : Rtx
  pub given : settings.rtx ≡ Some rtx
  pub source : packet.ssrc ≡ rtx.ssrc

-- a packet is this one of the media source itself, or is a retransmission, and this is its original (RFC 4588 4)
abbrev pub IsOrAgain : Settings → Packet → Packet → Type 0
IsOrAgain settings packet sent = (IsDirect settings packet × (sent ≡ packet))
    ⊎ ((again : IsAgain settings packet) × IsOriginal (apt_of settings again.rtx) packet sent)

-- octets bring this packet of the media source
pub record IsSent (settings : Settings) (octets : List ℕ) (sent : Packet) : Type 0 where
  pub packet : Packet
  pub read : IsRead octets packet
  pub brings : IsOrAgain settings packet sent

-- a RED payload brings this one: that of its one block, of the media type (RFC 2198 3); or none, if it has no octet
abbrev pub IsBlockOf : Settings → List ℕ → List ℕ → Type 0
IsBlockOf settings payload rest =
    ((payload ≡ []) × (rest ≡ [])) ⊎ IsRed payload (record { pt = settings.media_type; rest = rest })

-- a packet is in RED, and this is the media packet in it
pub record IsInRed (settings : Settings) (sent plain : Packet) : Type 0 where
  pub red : IsRedType settings sent.pt
  pub rest : List ℕ
  pub block : IsBlockOf settings sent.payload rest
  pub same : plain ≡ as_media settings sent rest

-- a packet of the media source is this media packet itself, or has it in RED
abbrev pub IsOrInRed : Settings → Packet → Packet → Type 0
IsOrInRed settings sent plain =
    ((IsRedType settings sent.pt → ⊥) × (plain ≡ sent)) ⊎ IsInRed settings sent plain

-- a packet is in RED, and this is the FEC packet in it: its payload is that of the one block, whose type is that of FEC
-- and not that of media (RFC 5109 7)
pub record IsFecInRed (settings : Settings) (sent parity : Packet) : Type 0 where
  pub red : IsRedType settings sent.pt
  pub block : Block
  pub has : IsRed sent.payload block
  pub other : block.pt ≢ settings.media_type
  pub fec : IsFecType settings block.pt
  pub same : parity ≡ record sent { payload = block.rest }

-- a packet of the media source carries this: it is this media packet or has it in RED, or has this FEC packet in RED
abbrev pub CarriesOut : Settings → Packet → Carried → Type 0
CarriesOut settings sent (Plain packet) = IsOrInRed settings sent packet
CarriesOut settings sent (Parity packet) = IsFecInRed settings sent packet

-- octets bring this packet of the stream, a media packet or a FEC packet
pub record IsOfStream (settings : Settings) (octets : List ℕ) (carried : Carried) : Type 0 where
  pub sent : Packet
  pub is : IsSent settings octets sent
  pub out : CarriesOut settings sent carried

-- octets that are for RTP have this fault as such
pub record IsMisread (octets : List ℕ) (what : RtpFaultKind) : Type 0 where
  pub rtp : IsForRtp octets
  pub fault : RtpFault
  pub reads : reading octets ≡ Err fault
  pub kind : fault.kind ≡ what

-- a payload isn't empty, and the codec's reader finds a fault of this code in it
pub record HasBadPart (codec : Meaning) (payload : List ℕ) (code : ℕ) : Type 0 where
  pub some : payload ≢ []
  pub fault : PartFault
  pub reads : codec.read payload ≡ Err fault
  pub code_is : fault.code ≡ code

-- a payload isn't empty, and is a part
pub record IsPartOf (codec : Meaning) (payload : List ℕ) : Type 0 where
  pub some : payload ≢ []
  pub part : Part
  pub reads : codec.read payload ≡ Ok part

-- octets are the payload of the FEC packet of this number (RFC 5109 7.3, 7.4)
abbrev pub IsFecPayload : List ℕ → ℕ → Type 0
IsFecPayload octets own = (payload : Payload) × IsPayload octets own payload

-- what a media packet brings: media, by its text without padding, if its payload is a part; nothing, if it has no
-- payload. A FEC packet brings its payload, if that is one of a FEC packet of its number
abbrev pub Brings : Meaning → Carried → Content → Type 0
Brings codec (Plain packet) (Media text) = IsPartOf codec packet.payload × (text ≡ packet_text packet)
Brings codec (Plain packet) Empty = packet.payload ≡ []
Brings codec (Parity packet) (Fec payload) = IsFecPayload packet.payload packet.seq × (payload ≡ packet.payload)
Brings codec carried content = ⊥

-- what each answer means that octets get by themselves
abbrev pub MeansAside : Settings → Meaning → List ℕ → NotTaken → Type 0
-- the datagram has more than 9,216 octets
MeansAside settings codec octets (Refused TooLong) = MOST_OCTETS < length octets
-- it is RTCP, and has a fault
MeansAside settings codec octets (Refused BadRtcp) = IsControl octets × (fault : RtcpFault) × HasFault octets fault
-- it is RTCP, and packets to its end
MeansAside settings codec octets Control =
    IsControl octets × (packets : List SpelledPacket) × IsCompound octets packets
-- it is shorter than a header, or its version isn't 2
MeansAside settings codec octets (Refused NotRtp) = IsMisread octets Short ⊎ IsMisread octets Version
-- its contributing sources, its extension or its padding run past its end
MeansAside settings codec octets (Refused BadHeader) =
    IsMisread octets CsrcPastEnd ⊎ (IsMisread octets ExtensionPastEnd ⊎ IsMisread octets PaddingPastEnd)
-- it is a packet of another SSRC than those of media and of retransmissions
MeansAside settings codec octets (Refused OtherSsrc) = (packet : Packet) × IsRead octets packet
    × (packet.ssrc ≢ settings.media_ssrc) × IfSome settings.rtx (λ rtx. packet.ssrc ≢ rtx.ssrc)
-- it is a packet of the media SSRC, and of another payload type than those of media and of RED
MeansAside settings codec octets (Refused OtherType) = (packet : Packet) × IsRead octets packet
    × (packet.ssrc ≡ settings.media_ssrc) × (packet.pt ≢ settings.media_type) × (IsRedType settings packet.pt → ⊥)
-- it is a packet of the SSRC of retransmissions, and its payload type isn't one of theirs
MeansAside settings codec octets (Refused NoApt) = (packet : Packet) × IsRead octets packet
    × (again : IsAgain settings packet) × (IsRtxType (apt_of settings again.rtx) packet.pt → ⊥)
-- it is a retransmission, and its payload has no room for the original's number
MeansAside settings codec octets (Refused RtxEmpty) = (packet : Packet) × IsRead octets packet
    × (again : IsAgain settings packet) × IsRtxType (apt_of settings again.rtx) packet.pt
    × (length packet.payload < 2)
-- it brings a packet in RED, which has more than one block
MeansAside settings codec octets (Refused MoreBlocks) =
    (sent : Packet) × IsSent settings octets sent × IsRedType settings sent.pt × HasMore sent.payload
-- it brings a packet in RED, whose one block has another payload type than those of media and of FEC
MeansAside settings codec octets (Refused BadRed) = (sent : Packet) × IsSent settings octets sent
    × IsRedType settings sent.pt × (block : Block) × IsRed sent.payload block × (block.pt ≢ settings.media_type)
    × (IsFecType settings block.pt → ⊥)
-- it brings a FEC packet of the stream: the block is of the FEC type, and reads as no FEC payload
MeansAside settings codec octets (Refused BadFec) = (packet : Packet) × IsOfStream settings octets (Parity packet)
    × (IsFecPayload packet.payload packet.seq → ⊥)
-- it brings a media packet of the stream, whose payload isn't empty and is no part: the codec's reader finds a fault of
-- this code
MeansAside settings codec octets (Refused (BadPart code)) =
    (packet : Packet) × IsOfStream settings octets (Plain packet) × HasBadPart codec packet.payload code
-- no other answer comes so
MeansAside settings codec octets (Refused _) = ⊥

-- a datagram brings a packet of the stream, and that brings this
pub record IsBrought (settings : Settings) (codec : Meaning) (octets : List ℕ) (carried : Carried)
    (content : Content) : Type 0 where
  pub stream : IsOfStream settings octets carried
  pub brings : Brings codec carried content

-- it has this extended number
pub record IsNumbered (settings : Settings) (codec : Meaning) (newest : Option ℕ) (octets : List ℕ) (n : ℕ)
    (content : Content) : Type 0 where
  pub carried : Carried
  pub brought : IsBrought settings codec octets carried content
  pub number : extended_number newest (seq_of carried) ≡ Some n

-- a number lies below the window of the newest number
abbrev pub IsBelow : Option ℕ → ℕ → Type 0
IsBelow newest n = IsSomeAnd newest (λ m. n + WINDOW ≤ m)

-- what each verdict means, after a history that left this window
abbrev pub Means : Settings → Meaning → Contents Content → List ℕ → Result (ℕ × Content) NotTaken → Type 0
-- the datagram brings a packet of the stream, whose wire number lies just half of the number space away from the newest
-- number
Means settings codec window octets (Err (Refused TooFar)) = (carried : Carried) × (content : Content)
    × IsBrought settings codec octets carried content × IsHalfAway window.newest (seq_of carried)
-- it has an extended number, which lies below the window
Means settings codec window octets (Err (Refused TooOld)) =
    (n : ℕ) × (content : Content) × IsNumbered settings codec window.newest octets n content × IsBelow window.newest n
-- it has an extended number, which doesn't lie below the window and was given up
Means settings codec window octets (Err (Refused Dead)) = (n : ℕ) × (content : Content)
    × IsNumbered settings codec window.newest octets n content × (IsBelow window.newest n → ⊥)
    × (is_dead n window.dead ≡ true)
-- it has an extended number, which doesn't lie below the window, wasn't given up and is available
Means settings codec window octets (Err (Refused Repeat)) = (n : ℕ) × (content : Content)
    × IsNumbered settings codec window.newest octets n content × (IsBelow window.newest n → ⊥)
    × (is_dead n window.dead ≡ false) × (is_available n window.packets ≡ true)
-- every other answer comes by the octets themselves
Means settings codec window octets (Err left) = MeansAside settings codec octets left
-- it has this extended number and brings this; the number doesn't lie below the window, wasn't given up and isn't
-- available
Means settings codec window octets (Ok (n, content)) = IsNumbered settings codec window.newest octets n content
    × (IsBelow window.newest n → ⊥) × (is_dead n window.dead ≡ false) × (is_available n window.packets ≡ false)

-- what each answer to a datagram means
abbrev pub MeansAnswer : Settings → Meaning → Contents Content → List ℕ → What → Type 0
MeansAnswer settings codec window octets (whats.Media n) =
    (text : List ℕ) × Means settings codec window octets (Ok (n, Media text))
MeansAnswer settings codec window octets (whats.Fec n) =
    (payload : List ℕ) × Means settings codec window octets (Ok (n, Fec payload))
MeansAnswer settings codec window octets (whats.Empty n) = Means settings codec window octets (Ok (n, Empty))
MeansAnswer settings codec window octets whats.Rtcp = Means settings codec window octets (Err Control)
MeansAnswer settings codec window octets (whats.Dropped reason) =
    Means settings codec window octets (Err (Refused reason))

-- a verdict comes exactly if its meaning holds, of octets, each below 256. A newest number of 32,768 or more has
-- no number below 0 nearer to it than half of the number space
abbrev pub ReasonsHolds : Type 0
ReasonsHolds = (settings : Settings) (codec : Meaning) (window : Contents Content) (octets : List ℕ) →
    AreOctets octets → IfSome window.newest (λ m. HALF_SPACE ≤ m)
    → (result : Result (ℕ × Content) NotTaken) →
    (verdict settings codec window octets ≡ result) ↔ Means settings codec window octets result
