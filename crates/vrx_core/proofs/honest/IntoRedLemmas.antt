-- The ways into RED: with a block, and without one if there is no payload. Out of each comes the packet (RFC 2198 3).
use Rattle.std.proofs.Common.{◌≡◌, ℕ, ◌<◌, false, if◌then◌else◌, [], None, Ok, Err, refl, sym, ◌∙◌, ap, arith}
use Rattle.std.specs.Prelude.{nat_lt, nat_le, ◌&&◌}
use Rattle.std.proofs.lemmas.Bool.{or_parts, eq-eqb, ltb-false, lt-ltb}
use Rattle.vrx_rtp.specs.Packet.{Packet}
use Rattle.vrx_wrap.specs.Red.{block_of, red_of}
use Rattle.vrx_wrap.specs.declared.red.RedFault.TheVariants as reds
use Rattle.vrx_core.specs.machine.SettingsFault.{is_bad_type, fault_of}
use Rattle.vrx_core.specs.machine.Text.{without_padding}
use Rattle.vrx_core.specs.machine.Original.{Plain, Parity, as_media, from_block, is_fec_type}
use Rattle.vrx_core.specs.honest.WireForm.{bare_red}
use Rattle.vrx_core.specs.declared.settings.Settings.{Settings}
use Rattle.vrx_core.specs.declared.reply.Reason.TheVariants.{BadRed}
use Rattle.vrx_core.proofs.honest.SettingsTypesLemmas.{media-good}

-- a type that RTCP doesn't take has seven bits
pub seven_bits : (type : ℕ) → is_bad_type type ≡ false → type < 128
seven_bits type good =
    let upto : nat_lt 127 type ≡ false = (or_parts (nat_le 64 type && nat_le type 95) (nat_lt 127 type) good).1 in
    omega (arith, ltb-false 127 type upto)

-- a way into RED has the type of RED, leaves number and source, and its payload is that of the packet once it is out
pub record IsIntoRed (settings : Settings) (into : ℕ → Packet → Packet) (p : Packet) : Type 0 where
  pub type : (t : ℕ) → (into t p).pt ≡ t
  pub number : (t : ℕ) → (into t p).seq ≡ p.seq
  pub source : (t : ℕ) → (into t p).ssrc ≡ p.ssrc
  pub back : (t : ℕ) (w : Packet) → without_padding w ≡ without_padding (into t p) →
      from_block settings w (block_of w.payload) ≡ Ok (Plain (as_media settings w p.payload))
  pub same : (t : ℕ) (w : Packet) → without_padding w ≡ without_padding (into t p) →
      without_padding (as_media settings w p.payload) ≡ without_padding p

module _ (settings : Settings) (p : Packet) (type : p.pt ≡ settings.media_type) where
  -- the packet under the media type is itself
  typed : without_padding (as_media settings p p.payload) ≡ without_padding p
  typed = ap (λ (t : ℕ). record (without_padding p) { pt = t }) (sym type)

  -- RED with a block
  pub red-into : fault_of settings ≡ None → IsIntoRed settings red_of p
  red-into good = record {
    type = λ t. refl;
    number = λ t. refl;
    source = λ t. refl;
    back = back;
    same = λ t w e.
        ap (λ (q : Packet). record q { pt = settings.media_type; payload = p.payload }) e ∙ typed;
  } where
    below : p.pt < 128
    below = seven_bits p.pt (ap is_bad_type type ∙ media-good settings good)

    back : (t : ℕ) (w : Packet) → without_padding w ≡ without_padding (red_of t p) →
        from_block settings w (block_of w.payload) ≡ Ok (Plain (as_media settings w p.payload))
    back t w e =
        ap (λ (q : Packet). from_block settings w (block_of q.payload)) e
        ∙ ap (λ b. from_block settings w
        (if b then Ok (record { pt = p.pt; rest = p.payload }) else Err reds.MoreBlocks)) (lt-ltb p.pt 128 below)
        ∙ ap (λ b. if b then Ok (Plain (as_media settings w p.payload))
        else if is_fec_type settings p.pt then Ok (Parity (record w { payload = p.payload })) else Err BadRed)
        (eq-eqb p.pt settings.media_type type)

  -- RED without a block, if there is no payload
  pub bare-into : p.payload ≡ [] → IsIntoRed settings bare_red p
  bare-into none = record {
    type = λ t. refl;
    number = λ t. refl;
    source = λ t. refl;
    back = λ t w e.
        ap (λ (q : Packet). from_block settings w (block_of q.payload)) e
        ∙ ap (λ os. from_block settings w (block_of os)) none
        ∙ ap (λ os. Ok (Plain (as_media settings w os))) (sym none);
    same = λ t w e.
        ap (λ (q : Packet). record q { pt = settings.media_type; payload = p.payload }) e ∙ typed;
  }
