-- A wire form of a sender's packet is a packet of the stream that brings what the sender's packet brings.
use Rattle.std.proofs.Common.{◌≡◌, ◌≢◌, ℕ, ◌^◌, ◌<◌, ◌≤◌, ◌⊎◌, Bool, true, false, if◌then◌else◌, List, [], ◌∷◌, length, Some, None, IsSomeAnd, Result, Ok, Err, slice_get, refl, sym, ◌∙◌, ap, subst, inl, inr, arith}
use Rattle.std.specs.Prelude.{◌&&◌, nat_lt, nat_le}
use Rattle.std.specs.Result.{result_map_both}
use Rattle.std.proofs.lemmas.Bool.{and_from, or_left, both_ways, le-leb, le-ltb, false_from_ne_true}
use Rattle.std.proofs.lemmas.Option.{same_Some}
use Rattle.vrx_num.specs.Octets.{AreOctets}
use Rattle.vrx_num.specs.ResultChain.{◌>>=◌}
use Rattle.vrx_num.specs.declared.limits.TheConstants.{MOST_OCTETS}
use Rattle.vrx_rtp.specs.Packet.{Packet, IsPacket, marker_and_type, octets_of, octets_with}
use Rattle.vrx_rtp.specs.Reading.{reading, read}
use Rattle.vrx_rtp.specs.Rtcp.{IsRtcp, is_rtcp}
use Rattle.vrx_wrap.specs.Laws.{ReadsRtxAgain}
use Rattle.vrx_wrap.specs.Red.{red_of}
use Rattle.vrx_codec.specs.Part.{Part}
use Rattle.vrx_codec.specs.Meaning.{Meaning}
use Rattle.vrx_fec.specs.Laws.{ReadsPayloads}
use Rattle.vrx_fec.specs.Payload.{IsPayload, Payload}
use Rattle.vrx_fec.specs.Reading.{reading as fec_reading}
use Rattle.vrx_fec.specs.declared.fault.FecFault.{FecFault}
use Rattle.vrx_window.specs.Content.{Content}
use Rattle.vrx_window.specs.Content as contents
use Rattle.vrx_core.specs.machine.SettingsFault.{is_bad_type, fault_of}
use Rattle.vrx_core.specs.machine.Text.{packet_text}
use Rattle.vrx_core.specs.machine.Original.{Carried, Original, Plain, Parity, part_content, parity_content, content_by, media_packet, original_in, out_of_red, original_read, control, original}
use Rattle.vrx_core.specs.honest.Sender.{SentPacket, Media, Fec, Empty, Sender, wire_of}
use Rattle.vrx_core.specs.honest.WireForm.{IsFormOf, IsEmptyPacket, IsFecPacket, IsThroughRed, bare_red, IsWireForm, content_sent}
use Rattle.vrx_core.specs.honest.HonestSender.{CarriedPart, IsMedia, IsTrueFec, HonestSender}
use Rattle.vrx_core.specs.declared.settings.Red.{Red}
use Rattle.vrx_core.specs.declared.settings.Settings.{Settings}
use Rattle.vrx_core.specs.declared.original.NotTaken.TheVariants.{Refused}
use Rattle.vrx_core.specs.declared.reply.Reason.{Reason}
use Rattle.vrx_core.specs.declared.reply.Reason.TheVariants.{TooLong}
use Rattle.vrx_core.proofs.machine.OriginalLemmas.{rtcp-to}
use Rattle.vrx_core.proofs.machine.TextLemmas.{ReadsPacket, reading-ok, plain-text}
use Rattle.vrx_core.proofs.honest.NumberLemmas.{wire_below}
use Rattle.vrx_core.proofs.honest.PartLemmas.{IsSent, packet_sent, text_sent, some_there}
use Rattle.vrx_core.proofs.honest.IntoRedLemmas.{IsIntoRed, red-into, bare-into}
use Rattle.vrx_core.proofs.honest.FormLemmas.{BringsOut, brings_out}
use Rattle.vrx_core.proofs.honest.FecFormLemmas.{FecOut, fec_out}

-- the payload type in the second octet of RTCP
type_between : (marker : Bool) (type : ℕ) → type < 128 → 192 ≤ marker_and_type marker type →
    marker_and_type marker type ≤ 223 → (64 ≤ type) × (type ≤ 95)
type_between true type below least most = (omega arith, omega arith)
type_between false type below least most = absurd (omega arith)

-- a packet of a type that RTCP doesn't take isn't RTCP
not_rtcp : (octets : List ℕ) (p : Packet) → IsPacket octets p → is_bad_type p.pt ≡ false → is_rtcp octets ≡ false
not_rtcp octets p is good =
    false_from_ne_true (is_rtcp octets) (λ h. bad (subst IsRtcp is.spelled (rtcp-to octets h))) where
      bad : IsRtcp (octets_with is.filler p) → ⊥
      bad r =
          let between : (64 ≤ p.pt) × (p.pt ≤ 95) = type_between p.marker p.pt is.fits.pt r.at_least r.at_most in
          both_ways (is_bad_type p.pt) good
          (or_left (nat_le 64 p.pt && nat_le p.pt 95) (nat_lt 127 p.pt)
          (and_from (nat_le 64 p.pt) (nat_le p.pt 95) (le-leb 64 p.pt between.0) (le-leb p.pt 95 between.1)))

-- a payload that the codec reads as a part brings its text
pub content-media : (codec : Meaning) (text payload : List ℕ) (part : Part) → payload ≢ [] →
    codec.read payload ≡ Ok part → content_by codec text payload ≡ Ok (contents.Media text)
content-media codec text [] part some reads = absurd (some refl)
content-media codec text (octet ∷ octets) part some reads = ap (part_content text) reads

-- the laws that reading the forms rests on: octets read as the packet that they are, the original of a packet's
-- retransmission is the packet, and octets read as the FEC payload that they are
pub record FormLaws : Type 0 where
  pub packets : ReadsPacket
  pub again : ReadsRtxAgain
  pub payloads : ReadsPayloads

module _ (laws : FormLaws) (settings : Settings) (codec : Meaning) (good : fault_of settings ≡ None) where
  -- a packet brings what it brings without padding
  abbrev brought : Packet → Result Original Reason
  brought q = result_map_both (λ content. record { wire = q.seq; content = content }) (λ reason. reason)
      (content_by codec (octets_of q) q.payload)

  -- what octets are that read as a packet that carries this by the stages
  carried-original : (octets : List ℕ) (w sent : Packet) (carried : Carried) → length octets ≤ MOST_OCTETS →
      AreOctets octets → read octets ≡ Some w → is_bad_type w.pt ≡ false → media_packet settings w ≡ Ok sent →
      out_of_red settings sent ≡ Ok carried → (o : Original) → original_in codec carried ≡ Ok o →
      original settings codec octets ≡ Ok o
  carried-original octets w sent carried size below reads good_type media out o is =
      let reads_ok : reading octets ≡ Ok w = reading-ok (reading octets) w reads in
      let not_long : nat_lt MOST_OCTETS (length octets) ≡ false = le-ltb MOST_OCTETS (length octets) size in
      let other : is_rtcp octets ≡ false =
      not_rtcp octets w ((laws.packets octets w below).0 reads_ok) good_type in
      ap (λ b. if b then Err (Refused TooLong) else if is_rtcp octets then Err (control octets)
      else result_map_both (λ (x : Original). x) Refused (original_read settings codec (reading octets))) not_long
      ∙ ap (λ b. if b then Err (control octets)
      else result_map_both (λ (x : Original). x) Refused (original_read settings codec (reading octets))) other
      ∙ ap (λ r. result_map_both (λ (x : Original). x) Refused (original_read settings codec r)) reads_ok
      ∙ ap (λ r. result_map_both (λ (x : Original). x) Refused
      (r >>= λ sent. out_of_red settings sent >>= λ carried. original_in codec carried)) media
      ∙ ap (λ r. result_map_both (λ (x : Original). x) Refused (r >>= λ carried. original_in codec carried)) out
      ∙ ap (result_map_both (λ (x : Original). x) Refused) is

  -- what octets are that read as a packet out of which a packet of the stream comes
  out-original : (octets : List ℕ) (p w : Packet) → length octets ≤ MOST_OCTETS → AreOctets octets →
      read octets ≡ Some w → BringsOut settings p w → (o : Original) → original_in codec (Plain p) ≡ Ok o →
      original settings codec octets ≡ Ok o
  out-original octets p w size below reads b o is =
      carried-original octets w b.sent (Plain b.plain) size below reads b.good b.media b.out o (ap brought b.same ∙ is)

  -- a FEC packet, in one of the forms of its payload
  fec-original : (octets : List ℕ) (wire : ℕ) (payload : List ℕ) (says : Payload) (p : Packet) → wire < 2 ^ 16 →
      AreOctets payload → IsPayload payload wire says → IsFecPacket settings wire payload p →
      (form : IsFormOf settings red_of p octets) → IsThroughRed form.how →
      original settings codec octets ≡ Ok (record { wire = wire; content = contents.Fec payload })
  fec-original octets wire payload says p small below spells is form through =
      let r = some_there (λ (red : Red). red.fec_type ≡ Some p.pt) settings.red is.type in
      let f : FecOut settings p form.carries.packet =
      fec_out laws.again settings good p r.0 r.1 r.2 is.source (omega (arith, small, is.number_is)) form.how form.wire
      form.carries.packet through form.travels form.carries.unpadded in
      carried-original octets form.carries.packet f.sent (Parity (record f.sent { payload = p.payload }))
      form.carries.size form.carries.below form.carries.reads f.good f.media f.out
      (record { wire = wire; content = contents.Fec payload })
      (ap (λ n. in_parity p.payload n) (f.number ∙ is.number_is) ∙ ap (λ os. in_parity os wire) is.payload_is
      ∙ ap (λ (r : Result Payload FecFault).
      result_map_both (λ (content : Content). record { wire = wire; content = content }) (λ (reason : Reason). reason)
      (parity_content payload r)) ((laws.payloads payload wire says below).1 spells)) where
        in_parity : List ℕ → ℕ → Result Original Reason
        in_parity os n = result_map_both (λ (content : Content). record { wire = n; content = content })
            (λ (reason : Reason). reason) (parity_content os (fec_reading os n))

  -- what octets are that carry a packet of the stream in one of its forms
  form-original : (octets : List ℕ) (p : Packet) (into : ℕ → Packet → Packet) → p.pt ≡ settings.media_type →
      p.ssrc ≡ settings.media_ssrc → p.seq < 2 ^ 16 → IsIntoRed settings into p →
      IsFormOf settings into p octets → (o : Original) → original_in codec (Plain p) ≡ Ok o →
      original settings codec octets ≡ Ok o
  form-original octets p into type source small red f o is =
      out-original octets p f.carries.packet f.carries.size f.carries.below f.carries.reads
      (brings_out laws.again settings good p type source small into red f.how f.wire f.carries.packet f.travels
      f.carries.unpadded) o is

  -- a media packet, in one of the forms of its text
  media-original : (octets : List ℕ) (wire : ℕ) (carried : CarriedPart) (p : Packet) → wire < 2 ^ 16 →
      IsMedia settings codec wire carried → read carried.text ≡ Some p → IsFormOf settings red_of p octets →
      original settings codec octets ≡ Ok (record { wire = wire; content = contents.Media carried.text })
  media-original octets wire carried p small m reads f =
      let same : p ≡ carried.packet = same_Some p carried.packet (sym reads ∙ m.reads) in
      form-original octets carried.packet red_of m.type m.source (omega (arith, small, m.number))
      (red-into settings carried.packet m.type good)
      (subst (λ (q : Packet). IsFormOf settings red_of q octets) same f)
      (record { wire = wire; content = contents.Media carried.text }) is_original where
        text_is : packet_text carried.packet ≡ carried.text
        text_is =
            let ok : reading carried.text ≡ Ok carried.packet =
            reading-ok (reading carried.text) carried.packet m.reads in
            sym (plain-text carried.text carried.packet ((laws.packets carried.text carried.packet m.below).0 ok)
            m.no_padding)

        is_original : original_in codec (Plain carried.packet)
            ≡ Ok (record { wire = wire; content = contents.Media carried.text })
        is_original =
            ap (result_map_both (λ (content : Content). record { wire = carried.packet.seq; content = content })
            (λ (reason : Reason). reason))
            (content-media codec (packet_text carried.packet) carried.packet.payload carried.part m.payload
            m.part_reads)
            ∙ ap (λ n. Ok (record { wire = n; content = contents.Media (packet_text carried.packet) })) m.number
            ∙ ap (λ t. Ok (record { wire = wire; content = contents.Media t })) text_is

  -- an empty packet, in one of the forms of a packet without a payload
  empty-original : (octets : List ℕ) (wire : ℕ) (p : Packet) → wire < 2 ^ 16 → IsEmptyPacket settings wire p →
      IsFormOf settings red_of p octets ⊎ IsFormOf settings bare_red p octets →
      original settings codec octets ≡ Ok (record { wire = wire; content = contents.Empty })
  empty-original octets wire p small e form = by form where
    is_original : original_in codec (Plain p) ≡ Ok (record { wire = wire; content = contents.Empty })
    is_original =
        ap (λ os. result_map_both (λ (content : Content). record { wire = p.seq; content = content })
        (λ (reason : Reason). reason) (content_by codec (packet_text p) os)) e.payload
        ∙ ap (λ n. Ok (record { wire = n; content = contents.Empty })) e.number_is

    by : IsFormOf settings red_of p octets ⊎ IsFormOf settings bare_red p octets →
        original settings codec octets ≡ Ok (record { wire = wire; content = contents.Empty })
    by (inl red) =
        form-original octets p red_of e.type e.source (omega (arith, small, e.number_is))
        (red-into settings p e.type good) red (record { wire = wire; content = contents.Empty }) is_original
    by (inr bare) =
        form-original octets p bare_red e.type e.source (omega (arith, small, e.number_is))
        (bare-into settings p e.type e.payload) bare (record { wire = wire; content = contents.Empty }) is_original

-- a datagram brings the sender's packet of this place: it is a packet of the stream with its number and its content
pub record Brings (settings : Settings) (codec : Meaning) (sender : Sender) (i : ℕ) (octets : List ℕ) : Type 0 where
  pub packet : SentPacket
  pub sent : slice_get sender.packets i ≡ Some packet
  pub is : original settings codec octets ≡ Ok (record { wire = wire_of sender i; content = content_sent packet })

module _ (laws : FormLaws) (settings : Settings) (codec : Meaning) (good : fault_of settings ≡ None)
    (sender : Sender) (honest : HonestSender settings codec sender) (i : ℕ) (octets : List ℕ) where
  -- what a media packet is, in each of the forms of its text
  original_by : (f k : ℕ) (text : List ℕ) → slice_get sender.packets i ≡ Some (Media f k text) →
      (p : Packet) → read text ≡ Some p → IsFormOf settings red_of p octets →
      original settings codec octets ≡ Ok (record { wire = wire_of sender i; content = contents.Media text })
  original_by f k text there p reads form =
      let s : IsSent settings codec sender honest i =
      packet_sent settings codec sender honest i (Media f k text) there tt in
      let same : s.carried.text ≡ text =
      ap text_sent (same_Some (Media s.f s.k s.carried.text) (Media f k text) (sym s.part.sent ∙ there)) in
      media-original laws settings codec good octets (wire_of sender i) s.carried p (wire_below sender i) s.part.media
      (ap read same ∙ reads) form
      ∙ ap (λ t. Ok (record { wire = wire_of sender i; content = contents.Media t })) same

  -- the packet that is there
  brings_packet : (packet : SentPacket) → slice_get sender.packets i ≡ Some packet →
      IsWireForm settings (wire_of sender i) packet octets → Brings settings codec sender i octets
  brings_packet (Media f k text) there form =
      record { packet = Media f k text; sent = there; is = original_by f k text there form.0 form.1 form.2 }
  brings_packet (Fec payload) there form =
      let t : IsTrueFec sender i payload = honest.parity i payload there in
      record {
        packet = Fec payload;
        sent = there;
        is = fec-original laws settings codec good octets (wire_of sender i) payload t.says form.0 (wire_below sender i)
            t.below t.spells form.1 form.2 form.3;
      }
  brings_packet Empty there form =
      record {
        packet = Empty;
        sent = there;
        is = empty-original laws settings codec good octets (wire_of sender i) form.0 (wire_below sender i) form.1
            form.2;
      }

  -- a wire form of an honest sender's packet brings it
  pub brings : IsSomeAnd (slice_get sender.packets i)
      (λ packet. IsWireForm settings (wire_of sender i) packet octets) → Brings settings codec sender i octets
  brings wire =
      let p : (packet : SentPacket) × (slice_get sender.packets i ≡ Some packet)
      × IsWireForm settings (wire_of sender i) packet octets =
      some_there (λ packet. IsWireForm settings (wire_of sender i) packet octets)
      (slice_get sender.packets i) wire in
      brings_packet p.0 p.1 p.2
