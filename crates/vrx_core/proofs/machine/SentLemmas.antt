-- Which packet of the media source a packet is, and what it has in RED.
use Rattle.std.proofs.Common.{◌≡◌, ◌≢◌, ℕ, ◌<◌, ◌==◌, ◌||◌, Bool, true, false, if◌then◌else◌, List, [], ◌++◌, length, Option, Some, None, IfSome, Result, Ok, Err, refl, sym, ◌∙◌, ap, subst, inl, inr}
use Rattle.std.specs.Prelude.{IsSomeAnd}
use Rattle.std.specs.Option.{option_and_then, option_map_or}
use Rattle.std.specs.Result.{result_map_both}
use Rattle.std.proofs.lemmas.Bool.{both_ways, eqb-true, eqb-false, eq-eqb, ne_eqb, or_left, or_right, or_from, false_from_ne_true}
use Rattle.std.proofs.lemmas.List.{drop_at}
use Rattle.std.proofs.lemmas.List.Elements.{All-drop}
use Rattle.vrx_num.specs.Octets.{AreOctets}
use Rattle.vrx_rtp.specs.Packet.{Packet, IsPacket, fixed_header, extension_octets, padding_octets}
use Rattle.vrx_wrap.specs.declared.red.RedFault.{RedFault}
use Rattle.vrx_wrap.specs.declared.red.RedFault.TheVariants as reds
use Rattle.vrx_wrap.specs.declared.rtx.RtxFault.{RtxFault}
use Rattle.vrx_wrap.specs.declared.rtx.RtxFault.TheVariants as faults
use Rattle.vrx_wrap.specs.Red.{Block, IsRed, HasMore, block_of}
use Rattle.vrx_wrap.specs.Rtx.{IsRtxType, original_of as rtx_original}
use Rattle.vrx_fec.specs.Laws.{ReadsPayloads}
use Rattle.vrx_wrap.specs.Laws.{HasOneBlock, FailsEmpty, FailsMoreBlocks, HasOneOriginal, FailsNoApt, FailsRtxEmpty}
use Rattle.vrx_core.specs.machine.Original.{Carried, Plain, Parity, apt_of, as_media, from_block, is_fec_type, is_red_type, media_packet, original_from, out_of_red, rtx_reason}
use Rattle.vrx_core.specs.machine.Reasons.{CarriesOut, IsAgain, IsBlockOf, IsDirect, IsFecInRed, IsFecType, IsOrAgain, IsRedType}
use Rattle.vrx_core.specs.declared.settings.Red.{Red}
use Rattle.vrx_core.specs.declared.settings.Rtx.{Rtx}
use Rattle.vrx_core.specs.declared.settings.Settings.{Settings}
use Rattle.vrx_core.specs.declared.reply.Reason.{Reason}
use Rattle.vrx_core.specs.declared.reply.Reason.TheVariants.{TooLong, BadRtcp, NotRtp, BadHeader, OtherSsrc, OtherType, NoApt, RtxEmpty, MoreBlocks, BadRed, BadFec, BadPart, TooFar, TooOld, Dead, Repeat}
use Rattle.vrx_core.proofs.machine.TextLemmas.{first-octets}

-- the laws of what wraps a packet, and of what is in it
pub record Wraps : Type 0 where
  pub one_original : HasOneOriginal
  pub no_apt : FailsNoApt
  pub rtx_empty : FailsRtxEmpty
  pub one_block : HasOneBlock
  pub empty : FailsEmpty
  pub more_blocks : FailsMoreBlocks
  pub one_payload : ReadsPayloads

-- ---- the octets of a payload

-- the second of two lists of octets
pub last-octets : (xs ys : List ℕ) → AreOctets (xs ++ ys) → AreOctets ys
last-octets xs ys all =
    subst AreOctets (drop_at xs ys (length xs) refl) (All-drop (λ octet. octet < 256) (length xs) (xs ++ ys) all)

-- a payload's octets are those of the packet
pub payload-octets : (octets : List ℕ) (p : Packet) → IsPacket octets p → AreOctets octets → AreOctets p.payload
payload-octets octets p is below =
    last-octets (fixed_header p ++ p.csrc ++ extension_octets p.extension) p.payload
    (first-octets (fixed_header p ++ p.csrc ++ extension_octets p.extension ++ p.payload)
    (padding_octets is.filler p.padding) (subst AreOctets is.spelled below))

-- ---- the payload types of RED and of FEC

-- a payload type is that of RED, as the test says it
red-to : (o : Option Red) (pt : ℕ) → option_map_or (λ red. red.red_type == pt) o false ≡ true →
    IsSomeAnd o (λ red. red.red_type ≡ pt)
red-to None pt h = absurd (cc)
red-to (Some red) pt h = eqb-true red.red_type pt h

red-from : (o : Option Red) (pt : ℕ) → IsSomeAnd o (λ red. red.red_type ≡ pt) →
    option_map_or (λ red. red.red_type == pt) o false ≡ true
red-from None pt is = absurd is
red-from (Some red) pt is = eq-eqb red.red_type pt is

-- a payload type is that of FEC, as the test says it
fec-to : (o : Option Red) (pt : ℕ) →
    option_map_or (λ fec_type. fec_type == pt) (option_and_then (λ red. red.fec_type) o) false ≡ true →
    IsSomeAnd o (λ red. red.fec_type ≡ Some pt)
fec-to None pt h = absurd (cc)
fec-to (Some red) pt h = by red.fec_type h where
  by : (fec : Option ℕ) → option_map_or (λ fec_type. fec_type == pt) fec false ≡ true → fec ≡ Some pt
  by None h' = absurd (cc)
  by (Some fec_type) h' = ap (λ n. Some n) (eqb-true fec_type pt h')

fec-from : (o : Option Red) (pt : ℕ) → IsSomeAnd o (λ red. red.fec_type ≡ Some pt) →
    option_map_or (λ fec_type. fec_type == pt) (option_and_then (λ red. red.fec_type) o) false ≡ true
fec-from None pt is = absurd is
fec-from (Some red) pt is =
    ap (λ (fec : Option ℕ). option_map_or (λ fec_type. fec_type == pt) fec false) is ∙ eq-eqb pt pt refl

module _ (settings : Settings) where
  red_type-to : (pt : ℕ) → is_red_type settings pt ≡ true → IsRedType settings pt
  red_type-to pt h = red-to settings.red pt h

  red_type-from : (pt : ℕ) → IsRedType settings pt → is_red_type settings pt ≡ true
  red_type-from pt is = red-from settings.red pt is

  -- and that it isn't
  other_type-to : (pt : ℕ) → is_red_type settings pt ≡ false → IsRedType settings pt → ⊥
  other_type-to pt h is = both_ways (is_red_type settings pt) h (red_type-from pt is)

  other_type-from : (pt : ℕ) → (IsRedType settings pt → ⊥) → is_red_type settings pt ≡ false
  other_type-from pt other = false_from_ne_true (is_red_type settings pt) (λ h. other (red_type-to pt h))

  fec_type-to : (pt : ℕ) → is_fec_type settings pt ≡ true → IsFecType settings pt
  fec_type-to pt h = fec-to settings.red pt h

  fec_type-from : (pt : ℕ) → IsFecType settings pt → is_fec_type settings pt ≡ true
  fec_type-from pt is = fec-from settings.red pt is

  no_fec-to : (pt : ℕ) → is_fec_type settings pt ≡ false → IsFecType settings pt → ⊥
  no_fec-to pt h is = both_ways (is_fec_type settings pt) h (fec_type-from pt is)

  no_fec-from : (pt : ℕ) → (IsFecType settings pt → ⊥) → is_fec_type settings pt ≡ false
  no_fec-from pt other = false_from_ne_true (is_fec_type settings pt) (λ h. other (fec_type-to pt h))

  -- ---- the packet of the media source

  -- what it means that a packet is this one of the media source, or none
  abbrev pub SaysSent : Packet → Result Packet Reason → Type 0
  SaysSent packet (Ok sent) = IsOrAgain settings packet sent
  SaysSent packet (Err OtherSsrc) =
      (packet.ssrc ≢ settings.media_ssrc) × IfSome settings.rtx (λ rtx. packet.ssrc ≢ rtx.ssrc)
  SaysSent packet (Err OtherType) = (packet.ssrc ≡ settings.media_ssrc)
      × (packet.pt ≢ settings.media_type) × (IsRedType settings packet.pt → ⊥)
  SaysSent packet (Err NoApt) =
      (again : IsAgain settings packet) × (IsRtxType (apt_of settings again.rtx) packet.pt → ⊥)
  SaysSent packet (Err RtxEmpty) = (again : IsAgain settings packet)
      × IsRtxType (apt_of settings again.rtx) packet.pt × (length packet.payload < 2)
  SaysSent packet (Err _) = ⊥

  -- a packet of the media SSRC, by its payload type
  abbrev by_type : Bool → Packet → Result Packet Reason
  by_type taken packet = if taken then Ok packet else Err OtherType

  -- a packet, by its SSRC
  abbrev by_source : Bool → Packet → Result Packet Reason
  by_source media packet =
      if media
      then by_type ((packet.pt == settings.media_type) || is_red_type settings packet.pt) packet
      else original_from settings packet settings.rtx

  -- a packet, by the SSRC of retransmissions
  abbrev by_rtx : Rtx → Bool → Packet → Result Packet Reason
  by_rtx rtx again packet =
      if again
      then result_map_both (λ original. original) rtx_reason (rtx_original (apt_of settings rtx) packet)
      else Err OtherSsrc

  says_type : (packet : Packet) → packet.ssrc ≡ settings.media_ssrc → (media red : Bool) →
      (packet.pt == settings.media_type) ≡ media → is_red_type settings packet.pt ≡ red →
      SaysSent packet (by_type (media || red) packet)
  says_type packet source true red is is_red =
      inl (record { source = source; type = inl (eqb-true packet.pt settings.media_type is) }, refl)
  says_type packet source false true is is_red =
      inl (record { source = source; type = inr (red_type-to packet.pt is_red) }, refl)
  says_type packet source false false is is_red =
      (source, eqb-false packet.pt settings.media_type is, other_type-to packet.pt is_red)

  direct_is : (packet : Packet) → IsDirect settings packet → media_packet settings packet ≡ Ok packet
  direct_is packet is =
      ap (λ b. by_source b packet) (eq-eqb packet.ssrc settings.media_ssrc is.source)
      ∙ ap (λ b. by_type b packet) (elim is.type [
        | inl media ↦ or_left (packet.pt == settings.media_type) (is_red_type settings packet.pt)
            (eq-eqb packet.pt settings.media_type media)
        | inr red ↦ or_right (packet.pt == settings.media_type) (is_red_type settings packet.pt)
            (red_type-from packet.pt red)
      ])

  -- a packet of another SSRC than that of media
  other_is : (packet : Packet) → packet.ssrc ≢ settings.media_ssrc →
      media_packet settings packet ≡ original_from settings packet settings.rtx
  other_is packet other = ap (λ b. by_source b packet) (ne_eqb packet.ssrc settings.media_ssrc other)

  again_is : (packet : Packet) (again : IsAgain settings packet) →
      media_packet settings packet
      ≡ result_map_both (λ original. original) rtx_reason (rtx_original (apt_of settings again.rtx) packet)
  again_is packet again =
      other_is packet again.other
      ∙ ap (original_from settings packet) again.given
      ∙ ap (λ b. by_rtx again.rtx b packet) (eq-eqb packet.ssrc again.rtx.ssrc again.source)

  foreign_is : (packet : Packet) (o : Option Rtx) → IfSome o (λ rtx. packet.ssrc ≢ rtx.ssrc) →
      original_from settings packet o ≡ Err OtherSsrc
  foreign_is packet None none = refl
  foreign_is packet (Some rtx) none = ap (λ b. by_rtx rtx b packet) (ne_eqb packet.ssrc rtx.ssrc none)

  module _ (wraps : Wraps) where
    says_original : (packet : Packet) → AreOctets packet.payload → (again : IsAgain settings packet) →
        (r : Result Packet RtxFault) → rtx_original (apt_of settings again.rtx) packet ≡ r →
        SaysSent packet (result_map_both (λ original. original) rtx_reason r)
    says_original packet are again (Ok sent) is =
        inr (again, (wraps.one_original (apt_of settings again.rtx) packet sent are).0 is)
    says_original packet are again (Err faults.NoApt) is =
        (again, (wraps.no_apt (apt_of settings again.rtx) packet).0 is)
    says_original packet are again (Err faults.RtxEmpty) is =
        let empty = (wraps.rtx_empty (apt_of settings again.rtx) packet).0 is in (again, empty.0, empty.1)

    says_rtx : (packet : Packet) → AreOctets packet.payload → packet.ssrc ≢ settings.media_ssrc → (rtx : Rtx) →
        settings.rtx ≡ Some rtx → (again : Bool) → (packet.ssrc == rtx.ssrc) ≡ again →
        SaysSent packet (by_rtx rtx again packet)
    says_rtx packet are other rtx given true is =
        let source : packet.ssrc ≡ rtx.ssrc = eqb-true packet.ssrc rtx.ssrc is in
        let again : IsAgain settings packet =
        record { other = other; rtx = rtx; given = given; source = source } in
        says_original packet are again (rtx_original (apt_of settings rtx) packet) refl
    says_rtx packet are other rtx given false is = (
      other,
      subst (λ o. IfSome o (λ x. packet.ssrc ≢ x.ssrc)) (sym given) (eqb-false packet.ssrc rtx.ssrc is),
    )

    says_from : (packet : Packet) → AreOctets packet.payload → packet.ssrc ≢ settings.media_ssrc →
        (o : Option Rtx) → settings.rtx ≡ o → SaysSent packet (original_from settings packet o)
    says_from packet are other None given = (
      other,
      subst (λ o. IfSome o (λ x. packet.ssrc ≢ x.ssrc)) (sym given) tt,
    )
    says_from packet are other (Some rtx) given =
        says_rtx packet are other rtx given (packet.ssrc == rtx.ssrc) refl

    says_source : (packet : Packet) → AreOctets packet.payload → (media : Bool) →
        (packet.ssrc == settings.media_ssrc) ≡ media → SaysSent packet (by_source media packet)
    says_source packet are true is =
        says_type packet (eqb-true packet.ssrc settings.media_ssrc is) (packet.pt == settings.media_type)
        (is_red_type settings packet.pt) refl refl
    says_source packet are false is =
        says_from packet are (eqb-false packet.ssrc settings.media_ssrc is) settings.rtx refl

    -- a packet is only what that means
    pub sent-says : (packet : Packet) → AreOctets packet.payload → SaysSent packet (media_packet settings packet)
    sent-says packet are = says_source packet are (packet.ssrc == settings.media_ssrc) refl

    -- and is what is so
    pub sent-is : (packet : Packet) → AreOctets packet.payload → (r : Result Packet Reason) → SaysSent packet r →
        media_packet settings packet ≡ r
    sent-is packet are (Ok sent) (inl (direct, same)) =
        direct_is packet direct ∙ ap given (sym same) where
          given : Packet → Result Packet Reason
          given p = Ok p
    sent-is packet are (Ok sent) (inr (again, original)) = again_is packet again
        ∙ ap (result_map_both (λ o. o) rtx_reason)
        ((wraps.one_original (apt_of settings again.rtx) packet sent are).1 original)
    sent-is packet are (Err OtherSsrc) says =
        other_is packet says.0 ∙ foreign_is packet settings.rtx says.1
    sent-is packet are (Err OtherType) says =
        ap (λ b. by_source b packet) (eq-eqb packet.ssrc settings.media_ssrc says.0)
        ∙ ap (λ b. by_type b packet)
        (or_from (packet.pt == settings.media_type) (is_red_type settings packet.pt)
        (ne_eqb packet.pt settings.media_type says.1) (other_type-from packet.pt says.2))
    sent-is packet are (Err NoApt) says = again_is packet says.0
        ∙ ap (result_map_both (λ o. o) rtx_reason) ((wraps.no_apt (apt_of settings says.0.rtx) packet).1 says.1)
    sent-is packet are (Err RtxEmpty) says = again_is packet says.0
        ∙ ap (result_map_both (λ o. o) rtx_reason)
        ((wraps.rtx_empty (apt_of settings says.0.rtx) packet).1 (says.1, says.2))
    sent-is packet are (Err TooLong) says = absurd says
    sent-is packet are (Err BadRtcp) says = absurd says
    sent-is packet are (Err NotRtp) says = absurd says
    sent-is packet are (Err BadHeader) says = absurd says
    sent-is packet are (Err MoreBlocks) says = absurd says
    sent-is packet are (Err BadRed) says = absurd says
    sent-is packet are (Err BadFec) says = absurd says
    sent-is packet are (Err (BadPart code)) says = absurd says
    sent-is packet are (Err TooFar) says = absurd says
    sent-is packet are (Err TooOld) says = absurd says
    sent-is packet are (Err Dead) says = absurd says
    sent-is packet are (Err Repeat) says = absurd says

  -- ---- what is in RED

  -- what it means that a packet of the media source carries this, or nothing
  abbrev pub SaysCarried : Packet → Result Carried Reason → Type 0
  SaysCarried sent (Ok carried) = CarriesOut settings sent carried
  SaysCarried sent (Err MoreBlocks) = IsRedType settings sent.pt × HasMore sent.payload
  SaysCarried sent (Err BadRed) = IsRedType settings sent.pt
      × (block : Block) × IsRed sent.payload block × (block.pt ≢ settings.media_type)
      × (IsFecType settings block.pt → ⊥)
  SaysCarried sent (Err _) = ⊥

  -- a packet, by whether it is in RED
  abbrev by_red : Bool → Packet → Result Carried Reason
  by_red red sent = if red then from_block settings sent (block_of sent.payload) else Ok (Plain sent)

  -- a packet in RED, by the type of its block: it is that of media, or that of FEC
  abbrev by_block : (media fec : Bool) → Packet → List ℕ → Result Carried Reason
  by_block media fec sent rest =
      if media then Ok (Plain (as_media settings sent rest))
      else if fec then Ok (Parity (record sent { payload = rest })) else Err BadRed

  plain_is : (sent : Packet) → (IsRedType settings sent.pt → ⊥) → out_of_red settings sent ≡ Ok (Plain sent)
  plain_is sent other = ap (λ b. by_red b sent) (other_type-from sent.pt other)

  in_red_is : (sent : Packet) → IsRedType settings sent.pt → (r : Result Block RedFault) → block_of sent.payload ≡ r →
      out_of_red settings sent ≡ from_block settings sent r
  in_red_is sent red r is =
      ap (λ b. by_red b sent) (red_type-from sent.pt red) ∙ ap (from_block settings sent) is

  -- a block of another type than media
  other_block : (sent : Packet) (block : Block) → block.pt ≢ settings.media_type →
      from_block settings sent (Ok block) ≡ by_block false (is_fec_type settings block.pt) sent block.rest
  other_block sent block other =
      ap (λ b. by_block b (is_fec_type settings block.pt) sent block.rest) (ne_eqb block.pt settings.media_type other)

  module _ (wraps : Wraps) where
    says_block : (sent : Packet) → IsRedType settings sent.pt → (block : Block) → IsRed sent.payload block →
        (media fec : Bool) → (block.pt == settings.media_type) ≡ media → is_fec_type settings block.pt ≡ fec →
        SaysCarried sent (by_block media fec sent block.rest)
    says_block sent red block has true fec is is_fec =
        inr (record {
          red = red;
          rest = block.rest;
          block = inr (subst (λ pt. IsRed sent.payload (record { pt = pt; rest = block.rest }))
              (eqb-true block.pt settings.media_type is) has);
          same = refl;
        })
    says_block sent red block has false true is is_fec = record {
      red = red;
      block = block;
      has = has;
      other = eqb-false block.pt settings.media_type is;
      fec = fec_type-to block.pt is_fec;
      same = refl;
    }
    says_block sent red block has false false is is_fec =
        (red, block, has, eqb-false block.pt settings.media_type is, no_fec-to block.pt is_fec)

    says_red : (sent : Packet) → IsRedType settings sent.pt → (r : Result Block RedFault) →
        block_of sent.payload ≡ r → SaysCarried sent (from_block settings sent r)
    says_red sent red (Err reds.Empty) is =
        inr (record {
          red = red;
          rest = [];
          block = inl ((wraps.empty sent.payload).0 is, refl);
          same = refl;
        })
    says_red sent red (Err reds.MoreBlocks) is = (red, (wraps.more_blocks sent.payload).0 is)
    says_red sent red (Ok block) is =
        says_block sent red block ((wraps.one_block sent.payload block).0 is) (block.pt == settings.media_type)
        (is_fec_type settings block.pt) refl refl

    says_out : (sent : Packet) (red : Bool) → is_red_type settings sent.pt ≡ red →
        SaysCarried sent (by_red red sent)
    says_out sent true is = says_red sent (red_type-to sent.pt is) (block_of sent.payload) refl
    says_out sent false is = inl (other_type-to sent.pt is, refl)

    -- a packet carries only what that means
    pub carried-says : (sent : Packet) → SaysCarried sent (out_of_red settings sent)
    carried-says sent = says_out sent (is_red_type settings sent.pt) refl

    -- a RED payload that brings this one
    block_is : (sent : Packet) → IsRedType settings sent.pt → (rest : List ℕ) →
        IsBlockOf settings sent.payload rest → out_of_red settings sent ≡ Ok (Plain (as_media settings sent rest))
    block_is sent red rest (inl (none, is)) =
        in_red_is sent red (Err reds.Empty) ((wraps.empty sent.payload).1 none)
        ∙ ap (λ x. by_block true true sent x) (sym is)
    block_is sent red rest (inr has) =
        in_red_is sent red (Ok (record { pt = settings.media_type; rest = rest }))
        ((wraps.one_block sent.payload (record { pt = settings.media_type; rest = rest })).1 has)
        ∙ ap (λ b. by_block b (is_fec_type settings settings.media_type) sent rest)
        (eq-eqb settings.media_type settings.media_type refl)

    -- and so it is of the FEC packet
    parity_is : (sent parity : Packet) → IsFecInRed settings sent parity → out_of_red settings sent ≡ Ok (Parity parity)
    parity_is sent parity is =
        in_red_is sent is.red (Ok is.block) ((wraps.one_block sent.payload is.block).1 is.has)
        ∙ other_block sent is.block is.other
        ∙ ap (λ b. by_block false b sent is.block.rest) (fec_type-from is.block.pt is.fec)
        ∙ ap given (sym is.same) where
          given : Packet → Result Carried Reason
          given p = Ok (Parity p)

    -- and carries what is so
    pub carried-is : (sent : Packet) (r : Result Carried Reason) → SaysCarried sent r → out_of_red settings sent ≡ r
    carried-is sent (Ok (Plain plain)) (inl (other, same)) = plain_is sent other ∙ ap given (sym same) where
      given : Packet → Result Carried Reason
      given p = Ok (Plain p)
    carried-is sent (Ok (Plain plain)) (inr is) =
        block_is sent is.red is.rest is.block ∙ ap given (sym is.same) where
          given : Packet → Result Carried Reason
          given p = Ok (Plain p)
    carried-is sent (Ok (Parity parity)) is = parity_is sent parity is
    carried-is sent (Err MoreBlocks) says =
        in_red_is sent says.0 (Err reds.MoreBlocks) ((wraps.more_blocks sent.payload).1 says.1)
    carried-is sent (Err BadRed) says =
        in_red_is sent says.0 (Ok says.1) ((wraps.one_block sent.payload says.1).1 says.2)
        ∙ other_block sent says.1 says.3
        ∙ ap (λ b. by_block false b sent says.1.rest) (no_fec-from says.1.pt says.4)
    carried-is sent (Err TooLong) says = absurd says
    carried-is sent (Err BadRtcp) says = absurd says
    carried-is sent (Err NotRtp) says = absurd says
    carried-is sent (Err BadHeader) says = absurd says
    carried-is sent (Err OtherSsrc) says = absurd says
    carried-is sent (Err OtherType) says = absurd says
    carried-is sent (Err NoApt) says = absurd says
    carried-is sent (Err RtxEmpty) says = absurd says
    carried-is sent (Err BadFec) says = absurd says
    carried-is sent (Err (BadPart code)) says = absurd says
    carried-is sent (Err TooFar) says = absurd says
    carried-is sent (Err TooOld) says = absurd says
    carried-is sent (Err Dead) says = absurd says
    carried-is sent (Err Repeat) says = absurd says
