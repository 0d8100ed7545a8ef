-- The forms in which a FEC packet travels: out of each comes the packet with its payload (RFC 5109 7).
use Rattle.std.proofs.Common.{◌≡◌, ℕ, ◌^◌, ◌<◌, true, false, if◌then◌else◌, Option, Some, None, IsSomeAnd, Ok, Err, refl, sym, ◌∙◌, ap}
use Rattle.std.specs.Prelude.{◌==◌}
use Rattle.std.specs.Option.{option_and_then, option_map_or}
use Rattle.std.proofs.lemmas.Bool.{or_right, eq-eqb, ne_eqb, lt-ltb}
use Rattle.std.proofs.lemmas.Option.{same_Some}
use Rattle.vrx_rtp.specs.Packet.{Packet}
use Rattle.vrx_wrap.specs.Laws.{ReadsRtxAgain}
use Rattle.vrx_wrap.specs.Red.{block_of, red_of, red_payload}
use Rattle.vrx_wrap.specs.Rtx.{rtx_of, unpadded_packet}
use Rattle.vrx_wrap.specs.declared.red.RedFault.TheVariants as reds
use Rattle.vrx_core.specs.machine.SettingsFault.{is_bad_type, fault_of}
use Rattle.vrx_core.specs.machine.Text.{without_padding}
use Rattle.vrx_core.specs.machine.Original as originals
use Rattle.vrx_core.specs.machine.Original.{Parity, as_media, from_block, is_fec_type, is_red_type, media_packet, out_of_red}
use Rattle.vrx_core.specs.honest.WireForm.{IsThroughRed, Wrapping, Plain, InRed, Again, RedAgain, TravelsAs}
use Rattle.vrx_core.specs.declared.settings.Red.{Red}
use Rattle.vrx_core.specs.declared.settings.Rtx.{Rtx}
use Rattle.vrx_core.specs.declared.settings.Settings.{Settings}
use Rattle.vrx_core.specs.declared.reply.Reason.TheVariants.{BadRed}
use Rattle.vrx_core.proofs.honest.PartLemmas.{some_there}
use Rattle.vrx_core.proofs.honest.IntoRedLemmas.{seven_bits}
use Rattle.vrx_core.proofs.honest.FormLemmas.{again, direct, is_red, original_again, red_again-type, red_out}
use Rattle.vrx_core.proofs.honest.SettingsTypesLemmas.{fec-apart, fec-good, red-good, red_rtx-good}

-- out of this packet comes a FEC packet: its type isn't one that RTCP takes, and it carries the payload by the stages
pub record FecOut (settings : Settings) (p w : Packet) : Type 0 where
  pub good : is_bad_type w.pt ≡ false
  pub sent : Packet
  pub media : media_packet settings w ≡ Ok sent
  pub out : out_of_red settings sent ≡ Ok (Parity (record sent { payload = p.payload }))
  pub number : sent.seq ≡ p.seq

module _ (law : ReadsRtxAgain) (settings : Settings) (fine : fault_of settings ≡ None) (p : Packet) (red : Red)
    (given : settings.red ≡ Some red) (type : red.fec_type ≡ Some p.pt) (source : p.ssrc ≡ settings.media_ssrc)
    (number : p.seq < 2 ^ 16) where
  -- its type is that of FEC
  fec_type : is_fec_type settings p.pt ≡ true
  fec_type =
      ap (λ (o : Option Red). option_map_or (λ (t : ℕ). t == p.pt) (option_and_then (λ red. red.fec_type) o) false) given
      ∙ ap (λ (o : Option ℕ). option_map_or (λ (t : ℕ). t == p.pt) o false) type ∙ eq-eqb p.pt p.pt refl

  -- out of RED comes its payload
  out_fec : (w : Packet) → w.pt ≡ red.red_type → w.payload ≡ red_payload p.pt p.payload →
      out_of_red settings w ≡ Ok (Parity (record w { payload = p.payload }))
  out_fec w is_type is_payload =
      let below : p.pt < 128 = seven_bits p.pt (fec-good settings fine red p.pt given type) in
      red_out settings w (block_of w.payload) (is_red settings red w.pt given is_type) refl
      ∙ ap (λ os. from_block settings w (block_of os)) is_payload
      ∙ ap (λ b. from_block settings w
      (if b then Ok (record { pt = p.pt; rest = p.payload }) else Err reds.MoreBlocks)) (lt-ltb p.pt 128 below)
      ∙ ap (λ b. if b then Ok (originals.Plain (as_media settings w p.payload))
      else if is_fec_type settings p.pt then Ok (Parity (record w { payload = p.payload })) else Err BadRed)
      (ne_eqb p.pt settings.media_type (fec-apart settings fine red p.pt given type))
      ∙ ap (λ b. if b then Ok (Parity (record w { payload = p.payload })) else Err BadRed) fec_type

  -- the packet in RED
  fec_in_red : (w : Packet) → without_padding w ≡ red_of red.red_type p → FecOut settings p w
  fec_in_red w e =
      let red_type : w.pt ≡ red.red_type = ap (λ (q : Packet). q.pt) e in
      record {
        good = ap is_bad_type red_type ∙ red-good settings fine red given;
        sent = w;
        media = direct settings w (ap (λ (q : Packet). q.ssrc) e ∙ source)
            (or_right (w.pt == settings.media_type) (is_red_type settings w.pt)
            (is_red settings red w.pt given red_type));
        out = out_fec w red_type (ap (λ (q : Packet). q.payload) e);
        number = ap (λ (q : Packet). q.seq) e;
      }

  -- the packet in RED and sent again
  fec_again : (rtx : Rtx) (rtx_type n : ℕ) (w : Packet) → settings.rtx ≡ Some rtx →
      rtx.red_rtx_type ≡ Some rtx_type → without_padding w ≡ rtx_of rtx_type rtx.ssrc n (red_of red.red_type p) →
      FecOut settings p w
  fec_again rtx rtx_type n w given_rtx has e =
      let q : Packet = red_of red.red_type p in
      record {
        good = ap is_bad_type (ap (λ (x : Packet). x.pt) e) ∙ red_rtx-good settings fine rtx rtx_type given_rtx has;
        sent = unpadded_packet q;
        media = again settings fine rtx w (unpadded_packet q) given_rtx (ap (λ (x : Packet). x.ssrc) e)
            (original_again settings law rtx rtx_type n q w e number source
            (red_again-type settings fine red rtx rtx_type given given_rtx has));
        out = out_fec (unpadded_packet q) refl refl;
        number = refl;
      }

  -- whatever the form
  pub fec_out : (how : Wrapping) (wire w : Packet) → IsThroughRed how → TravelsAs settings red_of p how wire →
      without_padding w ≡ wire → FecOut settings p w
  fec_out Plain wire w through travels e = absurd through
  fec_out InRed wire w through travels e =
      let r = some_there (λ (x : Red). wire ≡ red_of x.red_type p) settings.red travels in
      fec_in_red w (e ∙ r.2 ∙ ap (λ (x : Red). red_of x.red_type p) (same_red r.0 r.1)) where
        same_red : (other : Red) → settings.red ≡ Some other → other ≡ red
        same_red other is = same_Some other red (sym is ∙ given)
  fec_out (Again n) wire w through travels e = absurd through
  fec_out (RedAgain n) wire w through travels e =
      let r = some_there (λ (x : Red). IsSomeAnd settings.rtx
      (λ rtx. IsSomeAnd rtx.red_rtx_type (λ type. wire ≡ rtx_of type rtx.ssrc n (red_of x.red_type p))))
      settings.red travels in
      let x = some_there (λ (rtx : Rtx). IsSomeAnd rtx.red_rtx_type
      (λ type. wire ≡ rtx_of type rtx.ssrc n (red_of r.0.red_type p))) settings.rtx r.2 in
      let t = some_there (λ (type : ℕ). wire ≡ rtx_of type x.0.ssrc n (red_of r.0.red_type p)) x.0.red_rtx_type x.2 in
      fec_again x.0 t.0 n w x.1 t.1
      (e ∙ t.2 ∙ ap (λ (y : Red). rtx_of t.0 x.0.ssrc n (red_of y.red_type p)) (same_red r.0 r.1)) where
        same_red : (other : Red) → settings.red ≡ Some other → other ≡ red
        same_red other is = same_Some other red (sym is ∙ given)
