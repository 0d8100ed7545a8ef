-- What octets are by themselves, and when.
use Rattle.std.proofs.Common.{◌≡◌, ◌≢◌, ℕ, ◌<◌, ◌≤◌, ◌&&◌, Bool, true, false, if◌then◌else◌, List, [], ◌∷◌, length, Result, Ok, Err, refl, sym, ◌∙◌, ap, subst, inl, inr}
use Rattle.std.specs.Prelude.{nat_lt, nat_le, slice_index}
use Rattle.std.specs.Int.{w16, to_be_bytes}
use Rattle.std.specs.Result.{result_map_both}
use Rattle.std.proofs.lemmas.Bool.{le-ltb, lt-ltb, ltb-true, ltb-false, leb-true, le-leb, and_parts, and_from, false_from_ne_true, true≢false}
use Rattle.std.proofs.lemmas.List.Elements.{All-tail}
use Rattle.vrx_num.specs.declared.limits.TheConstants.{MOST_OCTETS}
use Rattle.vrx_num.specs.ResultChain.{◌>>=◌}
use Rattle.vrx_rtp.specs.Packet.{Packet, IsPacket}
use Rattle.vrx_num.specs.Octets.{AreOctets}
use Rattle.vrx_rtp.specs.Reading.{reading}
use Rattle.vrx_rtp.specs.Rtcp.{IsRtcp, is_rtcp}
use Rattle.vrx_rtp.specs.declared.fault.RtpFault.{RtpFault}
use Rattle.vrx_rtp.specs.declared.fault.RtpFaultKind.{RtpFaultKind}
use Rattle.vrx_rtp.specs.declared.fault.RtpFaultKind.TheVariants.{Short, Version, CsrcPastEnd, ExtensionPastEnd, PaddingPastEnd}
use Rattle.vrx_rtcp.specs.Compound.{is_compound}
use Rattle.vrx_rtcp.specs.Laws.{PassesCompounds, FailsFaults}
use Rattle.vrx_codec.specs.Part.{Part}
use Rattle.vrx_codec.specs.declared.fault.PartFault.{PartFault}
use Rattle.vrx_codec.specs.Meaning.{Meaning}
use Rattle.vrx_fec.specs.Payload.{Payload}
use Rattle.vrx_fec.specs.Reading.{reading as fec_reading}
use Rattle.vrx_fec.specs.declared.fault.FecFault.{FecFault}
use Rattle.vrx_window.specs.Content.{Content, Media, Fec, Empty}
use Rattle.vrx_core.specs.machine.Text.{packet_text}
use Rattle.vrx_core.specs.machine.Original.{Original, Carried, Plain, Parity, part_content, content_by, content_in, parity_content, seq_of, original_in, media_packet, out_of_red, fault_reason, original_read, control, original}
use Rattle.vrx_core.specs.machine.Reasons.{IsControl, IsForRtp, IsRead, IsOrAgain, IsSent, IsFecInRed, CarriesOut, IsOfStream, IsMisread, IsFecPayload, Brings, IsBrought, MeansAside}
use Rattle.vrx_core.specs.declared.settings.Settings.{Settings}
use Rattle.vrx_core.specs.declared.original.NotTaken.{NotTaken}
use Rattle.vrx_core.specs.declared.original.NotTaken.TheVariants.{Control, Refused}
use Rattle.vrx_core.specs.declared.reply.Reason.{Reason}
use Rattle.vrx_core.specs.declared.reply.Reason.TheVariants.{TooLong, BadRtcp, NotRtp, BadHeader, OtherSsrc, OtherType, NoApt, RtxEmpty, MoreBlocks, BadRed, BadFec, BadPart, TooFar, TooOld, Dead, Repeat}
use Rattle.vrx_core.proofs.machine.SentLemmas.{Wraps, SaysSent, SaysCarried, sent-says, sent-is, carried-says, carried-is, last-octets, payload-octets}
use Rattle.vrx_core.proofs.machine.TextLemmas.{ReadsPacket}

-- RTCP, as the test says it
pub rtcp-to : (octets : List ℕ) → is_rtcp octets ≡ true → IsRtcp octets
rtcp-to octets h =
    let a = and_parts (nat_le 2 (length octets) && nat_le 192 (slice_index octets 1))
    (nat_le (slice_index octets 1) 223) h in
    let b = and_parts (nat_le 2 (length octets)) (nat_le 192 (slice_index octets 1)) a.0 in
    record {
      has_type = leb-true 2 (length octets) b.0;
      at_least = leb-true 192 (slice_index octets 1) b.1;
      at_most = leb-true (slice_index octets 1) 223 a.1;
    }

pub rtcp-from : (octets : List ℕ) → IsRtcp octets → is_rtcp octets ≡ true
rtcp-from octets r = and_from _ _
    (and_from _ _ (le-leb 2 (length octets) r.has_type) (le-leb 192 (slice_index octets 1) r.at_least))
    (le-leb (slice_index octets 1) 223 r.at_most)

-- a list with a first member isn't empty
cons-nil : (x : ℕ) (xs : List ℕ) → x ∷ xs ≡ [] → ⊥
cons-nil x xs e = absurd (cc)

-- what is carried, and brings this, or why not
abbrev made : Carried → Result Content Reason → Result Original Reason
made carried r = result_map_both (λ content. record { wire = seq_of carried; content = content }) (λ reason. reason) r

abbrev refused : Result Original Reason → Result Original NotTaken
refused r = result_map_both (λ packet. packet) Refused r

-- by the tests, each with what comes after it
abbrev by_rtcp : Bool → NotTaken → Result Original NotTaken → Result Original NotTaken
by_rtcp rtcp left r = if rtcp then Err left else r

abbrev by_size : Bool → Result Original NotTaken → Result Original NotTaken
by_size long r = if long then Err (Refused TooLong) else r

-- what comes of what is carried, and of the packet of the media source
abbrev from_carried : Meaning → Result Carried Reason → Result Original Reason
from_carried codec r = r >>= λ carried. original_in codec carried

abbrev from_sent : Settings → Meaning → Result Packet Reason → Result Original Reason
from_sent settings codec r = r >>= λ sent. from_carried codec (out_of_red settings sent)

-- what it means that octets are this
abbrev pub Said : Settings → Meaning → List ℕ → Result Original NotTaken → Type 0
Said settings codec octets (Err left) = MeansAside settings codec octets left
Said settings codec octets (Ok o) =
    (carried : Carried) × IsBrought settings codec octets carried o.content × (seq_of carried ≡ o.wire)

-- a result isn't both
ok-err : {X E : Type 0} (r : Result X E) (x : X) (e : E) → r ≡ Err e → r ≡ Ok x → ⊥
ok-err r x e bad good = absurd (cc)

module _ (wraps : Wraps) (packets : ReadsPacket) (passes : PassesCompounds) (fails : FailsFaults)
    (settings : Settings) (codec : Meaning) (octets : List ℕ) (below : AreOctets octets) where
  is-packet : (packet : Packet) → IsRead octets packet → IsPacket octets packet
  is-packet packet read = (packets octets packet below).0 read.reads

  are-octets : (packet : Packet) → IsRead octets packet → AreOctets packet.payload
  are-octets packet read = payload-octets octets packet (is-packet packet read) below

  -- a wire number has 16 bits, in the datagram's header or in a retransmission's payload
  sent-below : (packet sent : Packet) → IsRead octets packet → IsOrAgain settings packet sent → sent.seq < 65536
  sent-below packet sent read (inl (direct, same)) =
      subst (λ (p : Packet). p.seq < 65536) (sym same) (is-packet packet read).fits.seq
  sent-below packet sent read (inr (again, original)) = original.number

  carried-below : (sent : Packet) (carried : Carried) → sent.seq < 65536 → CarriesOut settings sent carried →
      seq_of carried < 65536
  carried-below sent (Plain plain) small (inl (other, same)) = subst (λ (p : Packet). p.seq < 65536) (sym same) small
  carried-below sent (Plain plain) small (inr is) = subst (λ (p : Packet). p.seq < 65536) (sym is.same) small
  carried-below sent (Parity parity) small is = subst (λ (p : Packet). p.seq < 65536) (sym is.same) small

  pub seq-below : (carried : Carried) → IsOfStream settings octets carried → seq_of carried < 65536
  seq-below carried stream =
      let s = stream.is in
      carried-below stream.sent carried (sent-below s.packet stream.sent s.read s.brings) stream.out

  -- the payload of a FEC packet is the end of that of the packet that it came in
  sent-octets : (packet sent : Packet) → IsRead octets packet → IsOrAgain settings packet sent → AreOctets sent.payload
  sent-octets packet sent read (inl (direct, same)) =
      subst (λ (p : Packet). AreOctets p.payload) (sym same) (are-octets packet read)
  sent-octets packet sent read (inr (again, original)) =
      last-octets (to_be_bytes w16 sent.seq) sent.payload (subst AreOctets original.payload (are-octets packet read))

  parity-octets : (parity : Packet) → IsOfStream settings octets (Parity parity) → AreOctets parity.payload
  parity-octets parity stream =
      let s = stream.is in
      let is : IsFecInRed settings stream.sent parity = stream.out in
      subst (λ (p : Packet). AreOctets p.payload) (sym is.same)
      (All-tail (λ octet. octet < 256) is.block.pt is.block.rest
      (subst AreOctets is.has.spelled (sent-octets s.packet stream.sent s.read s.brings)))

  said_control : IsControl octets → (c : Bool) → is_compound octets ≡ c →
      Said settings codec octets (Err (if c then Control else Refused BadRtcp))
  said_control is true passed = let c = (passes octets below).0 passed in (is, c.0, c.1)
  said_control is false failed = let f = (fails octets below).0 failed in (is, f.0, f.1)

  said_fault : IsForRtp octets → (fault : RtpFault) → reading octets ≡ Err fault → (kind : RtpFaultKind) →
      fault.kind ≡ kind → Said settings codec octets (Err (Refused (fault_reason kind)))
  said_fault rtp fault reads Short kind = inl (record { rtp = rtp; fault = fault; reads = reads; kind = kind })
  said_fault rtp fault reads Version kind = inr (record { rtp = rtp; fault = fault; reads = reads; kind = kind })
  said_fault rtp fault reads CsrcPastEnd kind = inl (record { rtp = rtp; fault = fault; reads = reads; kind = kind })
  said_fault rtp fault reads ExtensionPastEnd kind =
      inr (inl (record { rtp = rtp; fault = fault; reads = reads; kind = kind }))
  said_fault rtp fault reads PaddingPastEnd kind =
      inr (inr (record { rtp = rtp; fault = fault; reads = reads; kind = kind }))

  said_read : (packet : Packet) → IsOfStream settings octets (Plain packet) → packet.payload ≢ [] →
      (r : Result Part PartFault) → codec.read packet.payload ≡ r →
      Said settings codec octets (refused (made (Plain packet) (part_content (packet_text packet) r)))
  said_read packet stream some (Err fault) reads =
      (packet, stream, record { some = some; fault = fault; reads = reads; code_is = refl })
  said_read packet stream some (Ok part) reads = (
    Plain packet,
    record { stream = stream; brings = (record { some = some; part = part; reads = reads }, refl) },
    refl,
  )

  said_payload : (packet : Packet) → IsOfStream settings octets (Plain packet) → (payload : List ℕ) →
      packet.payload ≡ payload
      → Said settings codec octets (refused (made (Plain packet) (content_by codec (packet_text packet) payload)))
  said_payload packet stream [] is = (Plain packet, record { stream = stream; brings = is }, refl)
  said_payload packet stream (octet ∷ rest) is =
      said_read packet stream (λ none. absurd (cons-nil octet rest (sym is ∙ none))) (codec.read (octet ∷ rest))
      (ap codec.read is)

  said_fec : (packet : Packet) → IsOfStream settings octets (Parity packet) → (r : Result Payload FecFault) →
      fec_reading packet.payload packet.seq ≡ r →
      Said settings codec octets (refused (made (Parity packet) (parity_content packet.payload r)))
  said_fec packet stream (Ok payload) reads = (
    Parity packet,
    record {
      stream = stream;
      brings = (
        (
          payload,
          (wraps.one_payload packet.payload packet.seq payload (parity-octets packet stream)).0 reads,
        ),
        refl,
      );
    },
    refl,
  )
  said_fec packet stream (Err fault) reads = (
    packet,
    stream,
    λ is. ok-err (fec_reading packet.payload packet.seq) is.0 fault reads
        ((wraps.one_payload packet.payload packet.seq is.0 (parity-octets packet stream)).1 is.1),
  )

  -- what comes out of RED
  said_carried : (sent : Packet) → IsSent settings octets sent → (r : Result Carried Reason) →
      SaysCarried settings sent r → Said settings codec octets (refused (from_carried codec r))
  said_carried sent is (Ok (Plain plain)) says =
      said_payload plain (record { sent = sent; is = is; out = says }) plain.payload refl
  said_carried sent is (Ok (Parity parity)) says =
      said_fec parity (record { sent = sent; is = is; out = says }) (fec_reading parity.payload parity.seq) refl
  said_carried sent is (Err MoreBlocks) says = (sent, is, says.0, says.1)
  said_carried sent is (Err BadRed) says = (sent, is, says.0, says.1, says.2, says.3, says.4)
  said_carried sent is (Err TooLong) says = absurd says
  said_carried sent is (Err BadRtcp) says = absurd says
  said_carried sent is (Err NotRtp) says = absurd says
  said_carried sent is (Err BadHeader) says = absurd says
  said_carried sent is (Err OtherSsrc) says = absurd says
  said_carried sent is (Err OtherType) says = absurd says
  said_carried sent is (Err NoApt) says = absurd says
  said_carried sent is (Err RtxEmpty) says = absurd says
  said_carried sent is (Err BadFec) says = absurd says
  said_carried sent is (Err (BadPart code)) says = absurd says
  said_carried sent is (Err TooFar) says = absurd says
  said_carried sent is (Err TooOld) says = absurd says
  said_carried sent is (Err Dead) says = absurd says
  said_carried sent is (Err Repeat) says = absurd says

  -- what is of the media source
  said_sent : (packet : Packet) → IsRead octets packet → (r : Result Packet Reason) → SaysSent settings packet r →
      Said settings codec octets (refused (from_sent settings codec r))
  said_sent packet read (Ok sent) says =
      said_carried sent (record { packet = packet; read = read; brings = says }) (out_of_red settings sent)
      (carried-says settings wraps sent)
  said_sent packet read (Err OtherSsrc) says = (packet, read, says.0, says.1)
  said_sent packet read (Err OtherType) says = (packet, read, says.0, says.1, says.2)
  said_sent packet read (Err NoApt) says = (packet, read, says.0, says.1)
  said_sent packet read (Err RtxEmpty) says = (packet, read, says.0, says.1, says.2)
  said_sent packet read (Err TooLong) says = absurd says
  said_sent packet read (Err BadRtcp) says = absurd says
  said_sent packet read (Err NotRtp) says = absurd says
  said_sent packet read (Err BadHeader) says = absurd says
  said_sent packet read (Err MoreBlocks) says = absurd says
  said_sent packet read (Err BadRed) says = absurd says
  said_sent packet read (Err BadFec) says = absurd says
  said_sent packet read (Err (BadPart code)) says = absurd says
  said_sent packet read (Err TooFar) says = absurd says
  said_sent packet read (Err TooOld) says = absurd says
  said_sent packet read (Err Dead) says = absurd says
  said_sent packet read (Err Repeat) says = absurd says

  said_reading : IsForRtp octets → (r : Result Packet RtpFault) → reading octets ≡ r →
      Said settings codec octets (refused (original_read settings codec r))
  said_reading rtp (Err fault) reads = said_fault rtp fault reads fault.kind refl
  said_reading rtp (Ok packet) reads =
      let read : IsRead octets packet = record { rtp = rtp; reads = reads } in
      said_sent packet read (media_packet settings packet) (sent-says settings wraps packet (are-octets packet read))

  said_rtcp : length octets ≤ MOST_OCTETS → (c : Bool) → is_rtcp octets ≡ c →
      Said settings codec octets
      (by_rtcp c (control octets) (refused (original_read settings codec (reading octets))))
  said_rtcp short true is = said_control (record { size = short; rtcp = rtcp-to octets is }) (is_compound octets) refl
  said_rtcp short false is =
      said_reading (record { size = short; other = λ r. true≢false (sym (rtcp-from octets r) ∙ is) })
      (reading octets) refl

  said_size : (long : Bool) → nat_lt MOST_OCTETS (length octets) ≡ long →
      Said settings codec octets
      (by_size long (by_rtcp (is_rtcp octets) (control octets)
      (refused (original_read settings codec (reading octets)))))
  said_size true is = ltb-true MOST_OCTETS (length octets) is
  said_size false is = said_rtcp (ltb-false MOST_OCTETS (length octets) is) (is_rtcp octets) refl

  -- octets are only what that means
  pub original-to : (r : Result Original NotTaken) → original settings codec octets ≡ r →
      Said settings codec octets r
  original-to r is =
      subst (Said settings codec octets) is (said_size (nat_lt MOST_OCTETS (length octets)) refl)

  -- octets that aren't too long
  short_is : length octets ≤ MOST_OCTETS →
      original settings codec octets ≡ by_rtcp (is_rtcp octets) (control octets)
      (refused (original_read settings codec (reading octets)))
  short_is short = ap (λ b.
      by_size b (by_rtcp (is_rtcp octets) (control octets) (refused (original_read settings codec (reading octets)))))
      (le-ltb MOST_OCTETS (length octets) short)

  control_is : IsControl octets → original settings codec octets ≡ Err (control octets)
  control_is is = short_is is.size
      ∙ ap (λ b. by_rtcp b (control octets) (refused (original_read settings codec (reading octets))))
      (rtcp-from octets is.rtcp)

  rtp_is : IsForRtp octets → (r : Result Packet RtpFault) → reading octets ≡ r →
      original settings codec octets ≡ refused (original_read settings codec r)
  rtp_is is r reads =
      short_is is.size
      ∙ ap (λ b. by_rtcp b (control octets) (refused (original_read settings codec (reading octets))))
      (false_from_ne_true (is_rtcp octets) (λ h. is.other (rtcp-to octets h)))
      ∙ ap (λ x. refused (original_read settings codec x)) reads

  misread_is : (kind : RtpFaultKind) → IsMisread octets kind →
      original settings codec octets ≡ Err (Refused (fault_reason kind))
  misread_is kind m = rtp_is m.rtp (Err m.fault) m.reads ∙ ap misread m.kind where
    misread : RtpFaultKind → Result Original NotTaken
    misread k = Err (Refused (fault_reason k))

  read_is : (packet : Packet) → IsRead octets packet →
      original settings codec octets ≡ refused (from_sent settings codec (media_packet settings packet))
  read_is packet read = rtp_is read.rtp (Ok packet) read.reads

  -- what is of the media source, or isn't
  sent_is : (packet : Packet) → IsRead octets packet → (r : Result Packet Reason) → SaysSent settings packet r →
      original settings codec octets ≡ refused (from_sent settings codec r)
  sent_is packet read r says = read_is packet read
      ∙ ap (λ x. refused (from_sent settings codec x))
      (sent-is settings wraps packet (are-octets packet read) r says)

  -- what comes out of RED, or doesn't
  carried_is : (sent : Packet) → IsSent settings octets sent → (r : Result Carried Reason) →
      SaysCarried settings sent r → original settings codec octets ≡ refused (from_carried codec r)
  carried_is sent is r says = sent_is is.packet is.read (Ok sent) is.brings
      ∙ ap (λ x. refused (from_carried codec x)) (carried-is settings wraps sent r says)

  -- a packet of the stream
  stream_is : (carried : Carried) → IsOfStream settings octets carried →
      original settings codec octets ≡ refused (made carried (content_in codec carried))
  stream_is carried stream = carried_is stream.sent stream.is (Ok carried) stream.out

  -- a payload that isn't empty brings what the codec reads
  payload_is : (text payload : List ℕ) → payload ≢ [] →
      content_by codec text payload ≡ part_content text (codec.read payload)
  payload_is text [] some = absurd (some refl)
  payload_is text (octet ∷ rest) some = refl

  -- what a packet brings, it brings
  brings_is : (carried : Carried) (content : Content) → IsOfStream settings octets carried →
      Brings codec carried content → content_in codec carried ≡ Ok content
  brings_is (Plain packet) (Media text) stream b =
      payload_is (packet_text packet) packet.payload b.0.some
      ∙ ap (part_content (packet_text packet)) b.0.reads
      ∙ ap media (sym b.1) where
        media : List ℕ → Result Content Reason
        media t = Ok (Media t)
  brings_is (Plain packet) Empty stream b = ap (content_by codec (packet_text packet)) b
  brings_is (Plain packet) (Fec payload) stream b = absurd b
  brings_is (Parity packet) (Fec payload) stream b =
      ap (parity_content packet.payload)
      ((wraps.one_payload packet.payload packet.seq b.0.0 (parity-octets packet stream)).1 b.0.1)
      ∙ ap fec (sym b.1) where
        fec : List ℕ → Result Content Reason
        fec p = Ok (Fec p)
  brings_is (Parity packet) (Media text) stream b = absurd b
  brings_is (Parity packet) Empty stream b = absurd b

  -- octets that are no FEC payload are refused
  no_payload_is : (packet : Packet) → IsOfStream settings octets (Parity packet) →
      (IsFecPayload packet.payload packet.seq → ⊥) → (r : Result Payload FecFault) →
      fec_reading packet.payload packet.seq ≡ r → parity_content packet.payload r ≡ Err BadFec
  no_payload_is packet stream none (Ok payload) is = absurd (none (
    payload,
    (wraps.one_payload packet.payload packet.seq payload (parity-octets packet stream)).0 is,
  ))
  no_payload_is packet stream none (Err fault) is = refl

  -- a packet of the stream that brings this is so
  pub brought-is : (carried : Carried) (content : Content) → IsBrought settings codec octets carried content →
      original settings codec octets ≡ Ok (record { wire = seq_of carried; content = content })
  brought-is carried content is = stream_is carried is.stream
      ∙ ap (λ r. refused (made carried r)) (brings_is carried content is.stream is.brings)

  -- an answer comes if it means what is so
  pub aside-is : (left : NotTaken) → MeansAside settings codec octets left → original settings codec octets ≡ Err left
  aside-is (Refused TooLong) m =
      ap (λ b. by_size b (by_rtcp (is_rtcp octets) (control octets)
      (refused (original_read settings codec (reading octets))))) (lt-ltb MOST_OCTETS (length octets) m)
  aside-is (Refused BadRtcp) m = control_is m.0 ∙ ap becomes ((fails octets below).1 (m.1, m.2)) where
    becomes : Bool → Result Original NotTaken
    becomes b = Err (if b then Control else Refused BadRtcp)
  aside-is Control m = control_is m.0 ∙ ap becomes ((passes octets below).1 (m.1, m.2)) where
    becomes : Bool → Result Original NotTaken
    becomes b = Err (if b then Control else Refused BadRtcp)
  aside-is (Refused NotRtp) (inl m) = misread_is Short m
  aside-is (Refused NotRtp) (inr m) = misread_is Version m
  aside-is (Refused BadHeader) (inl m) = misread_is CsrcPastEnd m
  aside-is (Refused BadHeader) (inr (inl m)) = misread_is ExtensionPastEnd m
  aside-is (Refused BadHeader) (inr (inr m)) = misread_is PaddingPastEnd m
  aside-is (Refused OtherSsrc) m = sent_is m.0 m.1 (Err OtherSsrc) (m.2, m.3)
  aside-is (Refused OtherType) m = sent_is m.0 m.1 (Err OtherType) (m.2, m.3, m.4)
  aside-is (Refused NoApt) m = sent_is m.0 m.1 (Err NoApt) (m.2, m.3)
  aside-is (Refused RtxEmpty) m = sent_is m.0 m.1 (Err RtxEmpty) (m.2, m.3, m.4)
  aside-is (Refused MoreBlocks) m = carried_is m.0 m.1 (Err MoreBlocks) (m.2, m.3)
  aside-is (Refused BadRed) m = carried_is m.0 m.1 (Err BadRed) (m.2, m.3, m.4, m.5, m.6)
  aside-is (Refused BadFec) m =
      stream_is (Parity m.0) m.1
      ∙ ap (λ r. refused (made (Parity m.0) r))
      (no_payload_is m.0 m.1 m.2 (fec_reading m.0.payload m.0.seq) refl)
  aside-is (Refused (BadPart code)) m =
      stream_is (Plain m.0) m.1
      ∙ ap (λ r. refused (made (Plain m.0) r))
      (payload_is (packet_text m.0) m.0.payload m.2.some ∙ ap (part_content (packet_text m.0)) m.2.reads
      ∙ ap bad m.2.code_is) where
        bad : ℕ → Result Content Reason
        bad c = Err (BadPart c)
  aside-is (Refused Dead) m = absurd m
  aside-is (Refused TooFar) m = absurd m
  aside-is (Refused TooOld) m = absurd m
  aside-is (Refused Repeat) m = absurd m
