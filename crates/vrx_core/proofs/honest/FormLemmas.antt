-- The forms in which a packet of the stream travels: out of each comes the packet.
use Rattle.std.proofs.Common.{◌≡◌, ℕ, ◌^◌, ◌<◌, true, false, if◌then◌else◌, List, Option, Some, None, IsSomeAnd, Result, Ok, Err, refl, sym, ◌∙◌, ap, arith}
use Rattle.std.specs.Prelude.{◌==◌, ◌||◌}
use Rattle.std.specs.List.{find}
use Rattle.std.specs.Option.{option_map, option_map_or}
use Rattle.std.specs.Result.{result_map_both}
use Rattle.std.proofs.lemmas.Bool.{or_left, or_right, eq-eqb, ne_eqb}
use Rattle.vrx_rtp.specs.Packet.{Packet}
use Rattle.vrx_wrap.specs.Laws.{ReadsRtxAgain}
use Rattle.vrx_wrap.specs.Red.{Block, block_of}
use Rattle.vrx_wrap.specs.Rtx.{Apt, original_type, number_at, original_with, original_typed, rtx_of, unpadded_packet}
use Rattle.vrx_wrap.specs.Rtx.{original_of as rtx_original}
use Rattle.vrx_wrap.specs.declared.red.RedFault.{RedFault}
use Rattle.vrx_core.specs.machine.SettingsFault.{is_bad_type, fault_of}
use Rattle.vrx_core.specs.machine.Text.{without_padding}
use Rattle.vrx_core.specs.machine.Original as originals
use Rattle.vrx_core.specs.machine.Original.{apt_of, red_pair, is_red_type, rtx_reason, original_from, media_packet, as_media, from_block, out_of_red}
use Rattle.vrx_core.specs.honest.WireForm.{Wrapping, Plain, InRed, Again, RedAgain, TravelsAs}
use Rattle.vrx_core.specs.declared.settings.Red.{Red}
use Rattle.vrx_core.specs.declared.settings.Rtx.{Rtx}
use Rattle.vrx_core.specs.declared.settings.Settings.{Settings}
use Rattle.vrx_core.specs.declared.reply.Reason.TheVariants.{OtherSsrc, OtherType}
use Rattle.vrx_core.proofs.honest.PartLemmas.{some_there}
use Rattle.vrx_core.proofs.honest.IntoRedLemmas.{IsIntoRed}
use Rattle.vrx_core.proofs.honest.SettingsTypesLemmas.{media-good, red-good, rtx-good, red_rtx-good, red-apart, red_rtx-apart, rtx-apart}

-- the original of a retransmission, whatever its padding
with_same : (apt : Apt) (w : Packet) (pt : ℕ) (found : Option (ℕ × List ℕ)) →
    original_with apt w pt found ≡ original_with apt (without_padding w) pt found
with_same apt w pt None = refl
with_same apt w pt (Some x) = refl

typed_same : (apt : Apt) (w : Packet) (type : Option ℕ) →
    original_typed apt w type ≡ original_typed apt (without_padding w) type
typed_same apt w None = refl
typed_same apt w (Some pt) = with_same apt w pt (number_at w.payload)

module _ (settings : Settings) where
  -- the type of RED
  pub is_red : (red : Red) (pt : ℕ) → settings.red ≡ Some red → pt ≡ red.red_type → is_red_type settings pt ≡ true
  is_red red pt given same = ap (λ (o : Option Red). option_map_or (λ red. red.red_type == pt) o false) given
      ∙ eq-eqb red.red_type pt (sym same)

  -- a packet of the media source is the media packet
  pub direct : (w : Packet) → w.ssrc ≡ settings.media_ssrc →
      ((w.pt == settings.media_type) || is_red_type settings w.pt) ≡ true → media_packet settings w ≡ Ok w
  direct w source type =
      ap (λ b.
      if b then (if (w.pt == settings.media_type) || is_red_type settings w.pt then Ok w else Err OtherType)
      else original_from settings w settings.rtx) (eq-eqb w.ssrc settings.media_ssrc source)
      ∙ ap (λ b. if b then Ok w else Err OtherType) type

  -- so is the original of a retransmission
  pub again : (good : fault_of settings ≡ None) (rtx : Rtx) (w sent : Packet) → settings.rtx ≡ Some rtx →
      w.ssrc ≡ rtx.ssrc → rtx_original (apt_of settings rtx) w ≡ Ok sent → media_packet settings w ≡ Ok sent
  again good rtx w sent given source is =
      ap (λ b.
      if b then (if (w.pt == settings.media_type) || is_red_type settings w.pt then Ok w else Err OtherType)
      else original_from settings w settings.rtx)
      (ne_eqb w.ssrc settings.media_ssrc (λ e. rtx-apart settings good rtx given (sym source ∙ e)))
      ∙ ap (original_from settings w) given
      ∙ ap (λ b.
      if b then result_map_both (λ (p : Packet). p) rtx_reason (rtx_original (apt_of settings rtx) w)
      else Err OtherSsrc) (eq-eqb w.ssrc rtx.ssrc source)
      ∙ ap (result_map_both (λ (p : Packet). p) rtx_reason) is

  -- the original of a retransmission of a packet, whatever the padding
  pub original_again : ReadsRtxAgain → (rtx : Rtx) (rtx_type n : ℕ) (q w : Packet) →
      without_padding w ≡ rtx_of rtx_type rtx.ssrc n q → q.seq < 2 ^ 16 → q.ssrc ≡ settings.media_ssrc →
      original_type (apt_of settings rtx) rtx_type ≡ Some q.pt
      → rtx_original (apt_of settings rtx) w ≡ Ok (unpadded_packet q)
  original_again law rtx rtx_type n q w e small from is =
      typed_same (apt_of settings rtx) w (original_type (apt_of settings rtx) w.pt)
      ∙ ap (rtx_original (apt_of settings rtx)) e
      ∙ law (apt_of settings rtx) rtx_type rtx.ssrc n q small (record { type_of = is; source = sym from })

  -- the type of the original of a retransmission in RED
  pub red_again-type : (fine : fault_of settings ≡ None) (red : Red) (rtx : Rtx) (rtx_type : ℕ) →
      settings.red ≡ Some red → settings.rtx ≡ Some rtx → rtx.red_rtx_type ≡ Some rtx_type →
      original_type (apt_of settings rtx) rtx_type ≡ Some red.red_type
  red_again-type fine red rtx rtx_type given_red given has =
      ap (λ b. option_map (λ (pair : ℕ × ℕ). pair.1)
      (if b then Some (rtx.media_rtx_type, settings.media_type)
      else find (λ (pair : ℕ × ℕ). pair.0 == rtx_type) (red_pair rtx.red_rtx_type settings.red)))
      (ne_eqb rtx.media_rtx_type rtx_type (λ e'. red_rtx-apart settings fine rtx rtx_type given has (sym e')))
      ∙ ap (λ o. option_map (λ (pair : ℕ × ℕ). pair.1)
      (find (λ (pair : ℕ × ℕ). pair.0 == rtx_type) (red_pair o settings.red))) has
      ∙ ap (λ o. option_map (λ (pair : ℕ × ℕ). pair.1)
      (find (λ (pair : ℕ × ℕ). pair.0 == rtx_type) (red_pair (Some rtx_type) o))) given_red
      ∙ ap (λ b. option_map (λ (pair : ℕ × ℕ). pair.1)
      (if b then Some (rtx_type, red.red_type) else None)) (eq-eqb rtx_type rtx_type refl)

  -- what a packet in RED brings, by its block
  pub red_out : (w : Packet) (r : Result Block RedFault) → is_red_type settings w.pt ≡ true → block_of w.payload ≡ r →
      out_of_red settings w ≡ from_block settings w r
  red_out w r red is =
      ap (λ b. if b then from_block settings w (block_of w.payload) else Ok (originals.Plain w)) red
      ∙ ap (from_block settings w) is

-- out of this packet comes a packet of the stream, padding aside: its type isn't one that RTCP takes, and it is that
-- packet by the stages
pub record BringsOut (settings : Settings) (p w : Packet) : Type 0 where
  pub good : is_bad_type w.pt ≡ false
  pub sent : Packet
  pub media : media_packet settings w ≡ Ok sent
  pub plain : Packet
  pub out : out_of_red settings sent ≡ Ok (originals.Plain plain)
  pub same : without_padding plain ≡ without_padding p

module _ (law : ReadsRtxAgain) (settings : Settings) (fine : fault_of settings ≡ None) (p : Packet)
    (type : p.pt ≡ settings.media_type) (source : p.ssrc ≡ settings.media_ssrc) (number : p.seq < 2 ^ 16)
    (into : ℕ → Packet → Packet) (red_is : IsIntoRed settings into p) where
  -- a media packet isn't in RED
  plain_out : (w : Packet) → w.pt ≡ settings.media_type → out_of_red settings w ≡ Ok (originals.Plain w)
  plain_out w media =
      ap (λ b. if b then from_block settings w (block_of w.payload) else Ok (originals.Plain w))
      (no_red settings.red refl) where
        no_red : (o : Option Red) → settings.red ≡ o → option_map_or (λ red. red.red_type == w.pt) o false ≡ false
        no_red None given = refl
        no_red (Some red) given =
            ne_eqb red.red_type w.pt (λ e. red-apart settings fine red given (e ∙ media))

  -- out of RED comes the packet
  red_plain : (red : Red) (w : Packet) → settings.red ≡ Some red →
      without_padding w ≡ without_padding (into red.red_type p) →
      out_of_red settings w ≡ Ok (originals.Plain (as_media settings w p.payload))
  red_plain red w given e =
      red_out settings w (block_of w.payload)
      (is_red settings red w.pt given (ap (λ (q : Packet). q.pt) e ∙ red_is.type red.red_type)) refl
      ∙ red_is.back red.red_type w e

  -- the packet as it is
  as_it_is : (w : Packet) → without_padding w ≡ p → BringsOut settings p w
  as_it_is w e =
      let media : w.pt ≡ settings.media_type = ap (λ (q : Packet). q.pt) e ∙ type in
      record {
        good = ap is_bad_type media ∙ media-good settings fine;
        sent = w;
        media = direct settings w (ap (λ (q : Packet). q.ssrc) e ∙ source)
            (or_left (w.pt == settings.media_type) (is_red_type settings w.pt)
            (eq-eqb w.pt settings.media_type media));
        plain = w;
        out = plain_out w media;
        same = ap without_padding e;
      }

  -- the packet in RED
  in_red : (red : Red) (w : Packet) → settings.red ≡ Some red → without_padding w ≡ into red.red_type p →
      BringsOut settings p w
  in_red red w given e =
      let e' : without_padding w ≡ without_padding (into red.red_type p) = ap without_padding e in
      let red_type : w.pt ≡ red.red_type = ap (λ (q : Packet). q.pt) e ∙ red_is.type red.red_type in
      record {
        good = ap is_bad_type red_type ∙ red-good settings fine red given;
        sent = w;
        media = direct settings w (ap (λ (q : Packet). q.ssrc) e ∙ red_is.source red.red_type ∙ source)
            (or_right (w.pt == settings.media_type) (is_red_type settings w.pt)
            (is_red settings red w.pt given red_type));
        plain = as_media settings w p.payload;
        out = red_plain red w given e';
        same = red_is.same red.red_type w e';
      }

  -- the packet sent again
  sent_again : (rtx : Rtx) (n : ℕ) (w : Packet) → settings.rtx ≡ Some rtx →
      without_padding w ≡ rtx_of rtx.media_rtx_type rtx.ssrc n p → BringsOut settings p w
  sent_again rtx n w given e = record {
    good = ap is_bad_type (ap (λ (q : Packet). q.pt) e) ∙ rtx-good settings fine rtx given;
    sent = unpadded_packet p;
    media = again settings fine rtx w (unpadded_packet p) given (ap (λ (q : Packet). q.ssrc) e)
        (original_again settings law rtx rtx.media_rtx_type n p w e number source first);
    plain = unpadded_packet p;
    out = plain_out (unpadded_packet p) type;
    same = refl;
  } where
    first : original_type (apt_of settings rtx) rtx.media_rtx_type ≡ Some p.pt
    first = ap (λ b. option_map (λ (pair : ℕ × ℕ). pair.1)
        (if b then Some (rtx.media_rtx_type, settings.media_type)
        else find (λ (pair : ℕ × ℕ). pair.0 == rtx.media_rtx_type) (red_pair rtx.red_rtx_type settings.red)))
        (eq-eqb rtx.media_rtx_type rtx.media_rtx_type refl)
        ∙ ap Some (sym type)

  -- the packet in RED and sent again
  red_again : (red : Red) (rtx : Rtx) (rtx_type n : ℕ) (w : Packet) → settings.red ≡ Some red →
      settings.rtx ≡ Some rtx → rtx.red_rtx_type ≡ Some rtx_type →
      without_padding w ≡ rtx_of rtx_type rtx.ssrc n (into red.red_type p) → BringsOut settings p w
  red_again red rtx rtx_type n w given_red given has e =
      let q : Packet = into red.red_type p in
      record {
        good = ap is_bad_type (ap (λ (x : Packet). x.pt) e) ∙ red_rtx-good settings fine rtx rtx_type given has;
        sent = unpadded_packet q;
        media = again settings fine rtx w (unpadded_packet q) given (ap (λ (x : Packet). x.ssrc) e)
            (original_again settings law rtx rtx_type n q w e small (red_is.source red.red_type ∙ source)
            second);
        plain = as_media settings (unpadded_packet q) p.payload;
        out = red_plain red (unpadded_packet q) given_red refl;
        same = red_is.same red.red_type (unpadded_packet q) refl;
      } where
        small : (into red.red_type p).seq < 2 ^ 16
        small = omega (arith, red_is.number red.red_type, number)

        second : original_type (apt_of settings rtx) rtx_type ≡ Some (into red.red_type p).pt
        second = red_again-type settings fine red rtx rtx_type given_red given has
            ∙ ap Some (sym (red_is.type red.red_type))

  -- whatever the form
  pub brings_out : (how : Wrapping) (wire w : Packet) → TravelsAs settings into p how wire →
      without_padding w ≡ wire → BringsOut settings p w
  brings_out Plain wire w travels e = as_it_is w (e ∙ travels)
  brings_out InRed wire w travels e =
      let r = some_there (λ (red : Red). wire ≡ into red.red_type p) settings.red travels in
      in_red r.0 w r.1 (e ∙ r.2)
  brings_out (Again n) wire w travels e =
      let x = some_there (λ (rtx : Rtx). wire ≡ rtx_of rtx.media_rtx_type rtx.ssrc n p) settings.rtx travels in
      sent_again x.0 n w x.1 (e ∙ x.2)
  brings_out (RedAgain n) wire w travels e =
      let r = some_there (λ (red : Red). IsSomeAnd settings.rtx
      (λ rtx. IsSomeAnd rtx.red_rtx_type (λ type. wire ≡ rtx_of type rtx.ssrc n (into red.red_type p))))
      settings.red travels in
      let x = some_there (λ (rtx : Rtx). IsSomeAnd rtx.red_rtx_type
      (λ type. wire ≡ rtx_of type rtx.ssrc n (into r.0.red_type p))) settings.rtx r.2 in
      let t = some_there (λ (type : ℕ). wire ≡ rtx_of type x.0.ssrc n (into r.0.red_type p)) x.0.red_rtx_type x.2 in
      red_again r.0 x.0 t.0 n w r.1 x.1 t.1 (e ∙ t.2)
