-- The rule references of a sender's frames with layers.
use Rattle.std.proofs.Common.{◌≡◌, ℕ, zero, suc, ◌<◌, ◌≤◌, Bool, true, false, List, length, slice_get, Option, Some, sym, ◌∙◌, ap, subst, arith, inl, inr}
use Rattle.std.specs.Prelude.{◌==◌}
use Rattle.std.specs.Option.{option_and_then}
use Rattle.std.proofs.lemmas.Bool.{cases_lt, eq-eqb, false_from_ne_true, or_left}
use Rattle.std.proofs.lemmas.Option.{slice_get_cases, slice_get_within}
use Rattle.vrx_codec.specs.declared.run.Place.{Place}
use Rattle.vrx_core.specs.honest.Sender.{SentFrame, Sender}
use Rattle.vrx_core.specs.honest.Layers.{HasTid, IsKey, IsLastKey, IsLastOf, KeepsLayers, is_on_base, layers_at}
use Rattle.vrx_core.specs.honest.Chain.{IsRuleReference, RefersBy, RefersTo}
use Rattle.vrx_core.proofs.honest.PartLemmas.{some_from, some_there}
use Rattle.vrx_core.proofs.honest.LastLemmas.{last_from, layers_within, placed}

-- the layers of a frame that is there
pub layers_of : (frames : List SentFrame) (f : ℕ) (place : Place) (frame : SentFrame) →
    layers_at frames f ≡ Some place → slice_get frames f ≡ Some frame → frame.layers ≡ Some place
layers_of frames f place frame is at = sym (ap (λ o. option_and_then (λ frame. frame.layers) o) at) ∙ is

-- a keyframe has TID 0
pub key_tid : (frames : List SentFrame) → KeepsLayers frames → (k : ℕ) → IsKey frames k → HasTid frames k 0
key_tid frames keeps k key =
    let frame : (frame : SentFrame) × (slice_get frames k ≡ Some frame) × (frame.key ≡ true) =
    some_there (λ frame. frame.key ≡ true) (slice_get frames k) key in
    let p : (place : Place) × (layers_at frames k ≡ Some place) × (place.tl0 < 256)
    × (IsKey frames k → place.tid ≡ 0) =
    placed frames keeps k (slice_get_within frames k frame.0 frame.1) in
    some_from (λ place. place.tid ≡ 0) (layers_at frames k) p.0 p.1 (p.3 key)

module _ (sender : Sender) where
  -- a frame that is no keyframe refers as its place says
  pub refers : (f g : ℕ) (place : Place) → layers_at sender.frames f ≡ Some place → (IsKey sender.frames f → ⊥) →
      RefersBy sender.frames place (is_on_base place) f g → IsRuleReference sender f g
  refers f g place is delta by = elim ((slice_get_cases sender.frames f).1) [
    | inl there ↦ some_from (λ frame. (frame.key ≡ false) × RefersTo sender.frames frame.layers f g)
        (slice_get sender.frames f) there.0 there.2 (
          false_from_ne_true there.0.key
              (λ key. delta (some_from (λ frame. frame.key ≡ true) (slice_get sender.frames f) there.0 there.2 key)),
          subst (λ (o : Option Place). RefersTo sender.frames o f g)
              (sym (layers_of sender.frames f place there.0 is there.2)) by,
        )
    | inr past ↦ let within : f < length sender.frames = layers_within sender.frames f place is in
        absurd (omega (arith, within, past.0))
  ]

  -- and back
  pub referred : (f g : ℕ) (place : Place) → layers_at sender.frames f ≡ Some place → IsRuleReference sender f g →
      RefersBy sender.frames place (is_on_base place) f g
  referred f g place is by =
      let p : (frame : SentFrame) × (slice_get sender.frames f ≡ Some frame)
      × ((frame.key ≡ false) × RefersTo sender.frames frame.layers f g) =
      some_there (λ frame. (frame.key ≡ false) × RefersTo sender.frames frame.layers f g) (slice_get sender.frames f)
      by in
      subst (λ (o : Option Place). RefersTo sender.frames o f g) (layers_of sender.frames f place p.0 is p.1) p.2.1

  -- From a frame of TID 0 before frame f, and not before the last keyframe before f, rule references lead down to
  -- that keyframe.
  module _ (keeps : KeepsLayers sender.frames) (Pulled : ℕ → Type 0)
      (closed : (g h : ℕ) → Pulled g → IsRuleReference sender g h → Pulled h)
      (f k : ℕ) (key : IsLastKey sender.frames f k) where
    lead : (n b : ℕ) → b < n → k ≤ b → b < f → HasTid sender.frames b 0 → Pulled b → Pulled k
    lead zero b low upto below of_tid pulled = absurd (omega (arith, low))
    lead (suc n) b low upto below of_tid pulled = elim (cases_lt k b) [
      | inl more ↦
          let p : (place : Place) × (layers_at sender.frames b ≡ Some place) × (place.tid ≡ 0) =
          some_there (λ place. place.tid ≡ 0) (layers_at sender.frames b) of_tid in
          let g : (g : ℕ) × (k ≤ g) × IsLastOf sender.frames 0 b g =
          last_from sender.frames 0 b k more (key_tid sender.frames keeps k key.key) in
          let on_base : is_on_base p.0 ≡ true = or_left (p.0.tid == 0) p.0.sync (eq-eqb p.0.tid 0 p.2) in
          let reference : IsRuleReference sender b g.0 =
          refers b g.0 p.0 p.1 (λ is_key. key.last b more below is_key)
          (subst (λ (x : Bool). RefersBy sender.frames p.0 x b g.0) (sym on_base) g.2) in
          let before : g.0 < b = g.2.before in
          lead n g.0 (omega (arith, before, low)) g.1 (omega (arith, before, below)) g.2.of_tid
          (closed b g.0 pulled reference)
      | inr less ↦ let same : b ≡ k = omega (arith, upto, less) in subst Pulled same pulled
    ]

    pub down_to_key : (b : ℕ) → k ≤ b → b < f → HasTid sender.frames b 0 → Pulled b → Pulled k
    down_to_key b upto below of_tid pulled = lead (suc b) b (omega arith) upto below of_tid pulled
