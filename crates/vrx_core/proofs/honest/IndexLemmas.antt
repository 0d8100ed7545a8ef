-- Pictures and indexes of a sender's frames with layers.
use Rattle.std.proofs.Common.{◌≡◌, ℕ, zero, suc, ◌+◌, ◌%◌, ◌<◌, ◌≤◌, Bool, true, false, List, length, slice_get, Some, IfSome, IsSomeAnd, sym, ◌∙◌, ap, subst, arith, inl, inr}
use Rattle.std.specs.Prelude.{◌==◌, if◌then◌else◌}
use Rattle.std.proofs.lemmas.Bool.{cases_lt, cond-true, eq-eqb}
use Rattle.std.proofs.lemmas.Option.{same_Some}
use Rattle.vrx_num.specs.Index.{index_after, index_before}
use Rattle.vrx_codec.specs.declared.run.Place.{Place}
use Rattle.vrx_core.specs.honest.Sender.{SentFrame}
use Rattle.vrx_core.specs.honest.Layers.{HasTid, IsKey, IsLastOf, KeepsLayers, layers_at}
use Rattle.vrx_core.proofs.honest.PartLemmas.{some_from, some_holds, some_there}
use Rattle.vrx_core.proofs.honest.LastLemmas.{key_first, last_from, layers_within, placed, some_if}

module _ (frames : List SentFrame) (keeps : KeepsLayers frames) where
  -- frame f has the picture of frame 0 plus f
  pub pictures_rise : (p : ℕ) → IsSomeAnd (layers_at frames 0) (λ place. place.picture ≡ p) → (f : ℕ) →
      f < length frames → IsSomeAnd (layers_at frames f) (λ place. place.picture ≡ p + f)
  pictures_rise p first zero within =
      let q : (place : Place) × (layers_at frames 0 ≡ Some place) × (place.picture ≡ p) =
      some_there (λ place. place.picture ≡ p) (layers_at frames 0) first in
      some_from (λ place. place.picture ≡ p + 0) (layers_at frames 0) q.0 q.1 (omega (arith, q.2))
  pictures_rise p first (suc f) within =
      let q : (place : Place) × (layers_at frames f ≡ Some place) × (place.picture ≡ p + f) =
      some_there (λ place. place.picture ≡ p + f) (layers_at frames f)
      (pictures_rise p first f (omega (arith, within))) in
      let after : (place : Place) × (layers_at frames (suc f) ≡ Some place) × (place.tl0 < 256)
      × (IsKey frames (suc f) → place.tid ≡ 0) = placed frames keeps (suc f) within in
      let next : suc f ≡ f + 1 = omega arith in
      let rises : after.0.picture ≡ q.0.picture + 1 =
      some_if (λ after. after.picture ≡ q.0.picture + 1) (layers_at frames (f + 1)) after.0
      (ap (layers_at frames) (sym next) ∙ after.1)
      (some_if (λ place. IfSome (layers_at frames (f + 1)) (λ after. after.picture ≡ place.picture + 1))
      (layers_at frames f) q.0 q.1 (keeps.pictures f)) in
      some_from (λ place. place.picture ≡ p + suc f) (layers_at frames (suc f)) after.0 after.1
      (omega (arith, rises, q.2))

  -- the index of frame f, after the last frame of TID 0 before it
  index_by : (f g : ℕ) (place base : Place) → layers_at frames f ≡ Some place → layers_at frames g ≡ Some base →
      IsLastOf frames 0 f g → place.tl0 ≡ (if place.tid == 0 then index_after base.tl0 else base.tl0)
  index_by f g place base is is_base last =
      some_if (λ base. place.tl0 ≡ (if place.tid == 0 then index_after base.tl0 else base.tl0)) (layers_at frames g)
      base is_base
      (some_if (λ place. IfSome (layers_at frames g)
      (λ base. place.tl0 ≡ (if place.tid == 0 then index_after base.tl0 else base.tl0)))
      (layers_at frames f) place is (keeps.indexes f g last))

  -- along the frames of TID 0 the index goes up by one, modulo 256
  goes_up : (n f g : ℕ) (place base : Place) → f < n → g < f → layers_at frames f ≡ Some place →
      layers_at frames g ≡ Some base → place.tid ≡ 0 → base.tid ≡ 0 →
      (c : ℕ) × (0 < c) × (g + c ≤ f) × (place.tl0 ≡ (base.tl0 + c) % 256)
  goes_up zero f g place base low below is is_base zero_f zero_g = absurd (omega (arith, low))
  goes_up (suc n) f g place base low below is is_base zero_f zero_g =
      let h : (h : ℕ) × (g ≤ h) × IsLastOf frames 0 f h =
      last_from frames 0 f g below
      (some_from (λ place. place.tid ≡ 0) (layers_at frames g) base is_base zero_g) in
      let p : (place : Place) × (layers_at frames h.0 ≡ Some place) × (place.tid ≡ 0) =
      some_there (λ place. place.tid ≡ 0) (layers_at frames h.0) h.2.of_tid in
      let by : place.tl0 ≡ (p.0.tl0 + 1) % 256 =
      index_by f h.0 place p.0 is p.1 h.2
      ∙ cond-true (place.tid == 0) (index_after p.0.tl0) p.0.tl0 (eq-eqb place.tid 0 zero_f) in
      elim (cases_lt g h.0) [
        | inl more ↦
            let up : (c : ℕ) × (0 < c) × (g + c ≤ h.0) × (p.0.tl0 ≡ (base.tl0 + c) % 256) =
            goes_up n h.0 g p.0 base (omega (arith, h.2.before, low)) more p.1 is_base p.2 zero_g in (
              up.0 + 1,
              omega arith,
              omega (arith, h.2.before, up.2),
              omega (arith, by, up.3),
            )
        | inr less ↦
            let same : h.0 ≡ g = omega (arith, h.1, less) in
            let one : p.0 ≡ base = same_Some p.0 base (sym p.1 ∙ ap (layers_at frames) same ∙ is_base) in (
              1,
              omega arith,
              omega (arith, below),
              by ∙ ap (λ (q : Place). (q.tl0 + 1) % 256) one,
            )
      ]

  -- frames of TID 0 with one index lie at least 256 frames apart
  pub one_index : (f g : ℕ) (place base : Place) → g < f → layers_at frames f ≡ Some place →
      layers_at frames g ≡ Some base → place.tid ≡ 0 → base.tid ≡ 0 → place.tl0 ≡ base.tl0 → g + 256 ≤ f
  one_index f g place base below is is_base zero_f zero_g same =
      let up : (c : ℕ) × (0 < c) × (g + c ≤ f) × (place.tl0 ≡ (base.tl0 + c) % 256) =
      goes_up (suc f) f g place base (omega arith) below is is_base zero_f zero_g in
      let p : (place : Place) × (layers_at frames g ≡ Some place) × (place.tl0 < 256)
      × (IsKey frames g → place.tid ≡ 0) =
      placed frames keeps g (layers_within frames g base is_base) in
      let low : base.tl0 < 256 = subst (λ (q : Place). q.tl0 < 256) (same_Some p.0 base (sym p.1 ∙ is_base)) p.2 in
      omega (arith, up.1, up.2, up.3, same, low)

  -- the index that the base of a frame has
  abbrev pub base_index : Place → ℕ
  base_index place = if place.tid == 0 then index_before place.tl0 else place.tl0

  index_back : (b : Bool) (i j : ℕ) → j < 256 → i ≡ (if b then index_after j else j) →
      j ≡ (if b then index_before i else i)
  index_back true i j low is = omega (arith, low, is)
  index_back false i j low is = sym is

  -- the last frame of TID 0 before frame f has the index of its base
  pub last_has_index : (f g : ℕ) (place : Place) → layers_at frames f ≡ Some place → IsLastOf frames 0 f g →
      IsSomeAnd (layers_at frames g) (λ base. base.tl0 ≡ base_index place)
  last_has_index f g place is last =
      let within : g < length frames = omega (arith, last.before, layers_within frames f place is) in
      let p : (base : Place) × (layers_at frames g ≡ Some base) × (base.tl0 < 256)
      × (IsKey frames g → base.tid ≡ 0) = placed frames keeps g within in
      some_from (λ base. base.tl0 ≡ base_index place) (layers_at frames g) p.0 p.1
      (index_back (place.tid == 0) place.tl0 p.0.tl0 p.2 (index_by f g place p.0 is p.1 last))

  -- A frame of TID 0 that has the index of the base of frame f, and lies at most 255 frames before it, is the last one
  -- of TID 0 before it.
  pub base_is_last : (f g : ℕ) (place : Place) → layers_at frames f ≡ Some place → g < f → f ≤ g + 255 →
      HasTid frames g 0 → IsSomeAnd (layers_at frames g) (λ base. base.tl0 ≡ base_index place) → IsLastOf frames 0 f g
  base_is_last f g place is below near of_tid index =
      let b : (b : ℕ) × (g ≤ b) × IsLastOf frames 0 f b = last_from frames 0 f g below of_tid in
      elim (cases_lt g b.0) [
        | inl more ↦
            let p : (base : Place) × (layers_at frames g ≡ Some base) × (base.tl0 ≡ base_index place) =
            some_there (λ base. base.tl0 ≡ base_index place) (layers_at frames g) index in
            let q : (base : Place) × (layers_at frames b.0 ≡ Some base) × (base.tl0 ≡ base_index place) =
            some_there (λ base. base.tl0 ≡ base_index place) (layers_at frames b.0)
            (last_has_index f b.0 place is b.2) in
            let apart : g + 256 ≤ b.0 =
            one_index b.0 g q.0 p.0 more q.1 p.1
            (some_holds (λ place. place.tid ≡ 0) (layers_at frames b.0) q.0 q.1 b.2.of_tid)
            (some_holds (λ place. place.tid ≡ 0) (layers_at frames g) p.0 p.1 of_tid)
            (q.2 ∙ sym p.2) in
            absurd (omega (arith, apart, b.2.before, near))
        | inr less ↦ let same : b.0 ≡ g = omega (arith, b.1, less) in
            subst (λ (x : ℕ). IsLastOf frames 0 f x) same b.2
      ]

  -- the first frame is a keyframe, so each later one has a base
  pub base_there : IfSome (slice_get frames 0) (λ frame. frame.key ≡ true) → (f : ℕ) → 0 < f → f < length frames →
      (g : ℕ) × IsLastOf frames 0 f g
  base_there from_key f later within =
      let first : (place : Place) × (layers_at frames 0 ≡ Some place) × (place.tl0 < 256)
      × (IsKey frames 0 → place.tid ≡ 0) = placed frames keeps 0 (omega (arith, within)) in
      let b : (b : ℕ) × (0 ≤ b) × IsLastOf frames 0 f b =
      last_from frames 0 f 0 later
      (some_from (λ place. place.tid ≡ 0) (layers_at frames 0) first.0 first.1
      (first.3 (key_first frames from_key (omega (arith, within))))) in
      (b.0, b.2)
