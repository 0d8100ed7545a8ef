-- What settings without a fault have: payload types that RTCP doesn't take, and types and SSRCs that all differ.
use Rattle.std.proofs.Common.{◌≡◌, ◌≢◌, ℕ, zero, suc, ◌<◌, Bool, true, false, List, [], ◌∷◌, Option, Some, None, slice_get, refl, sym, ◌∙◌, ap, arith}
use Rattle.std.specs.Prelude.{◌==◌}
use Rattle.std.specs.List.{list_any}
use Rattle.std.specs.Option.{option_map, option_and_then}
use Rattle.std.proofs.lemmas.Bool.{or_parts, both_ways, eq-eqb}
use Rattle.std.proofs.lemmas.Option.{none-some, same_Some}
use Rattle.vrx_core.specs.machine.SettingsFault.{values_in, types_of, ssrcs_of, is_bad_type, holds, has_equal, lacks_red, is_bad_interval, first_of, fault_of}
use Rattle.vrx_core.specs.declared.settings.Red.{Red}
use Rattle.vrx_core.specs.declared.settings.Rtx.{Rtx}
use Rattle.vrx_core.specs.declared.settings.Settings.{Settings}
use Rattle.vrx_core.specs.declared.settings.NewFault.{NewFault}
use Rattle.vrx_core.specs.declared.settings.NewFault.TheVariants.{BadType, SameType, SameSsrc, RedMissing, BadInterval}

-- if no test finds a fault, the first doesn't, and those after it don't
none_first : (test : Bool) (fault : NewFault) (others : Option NewFault) → first_of test fault others ≡ None →
    (test ≡ false) × (others ≡ None)
none_first true fault others e = absurd (none-some fault (sym e))
none_first false fault others e = (refl, e)

-- if no value given is a bad type, this one isn't
good_at : (values : List (Option ℕ)) (k type : ℕ) → slice_get values k ≡ Some (Some type) →
    list_any is_bad_type (values_in values) ≡ false → is_bad_type type ≡ false
good_at [] k type there none = absurd (none-some (Some type) there)
good_at (None ∷ values) zero type there none = absurd (none-some type (same_Some None (Some type) there))
good_at (None ∷ values) (suc k) type there none = good_at values k type there none
good_at (Some other ∷ values) zero type there none =
    ap is_bad_type (sym (same_Some other type (same_Some (Some other) (Some type) there)))
    ∙ (or_parts (is_bad_type other) (list_any is_bad_type (values_in values)) none).0
good_at (Some other ∷ values) (suc k) type there none =
    good_at values k type there (or_parts (is_bad_type other) (list_any is_bad_type (values_in values)) none).1

-- a value that no value given is equal to
not_held : (values : List (Option ℕ)) (k value member : ℕ) → slice_get values k ≡ Some (Some value) →
    holds (values_in values) member ≡ false → value ≢ member
not_held [] k value member there none = absurd (none-some (Some value) there)
not_held (None ∷ values) zero value member there none = absurd (none-some value (same_Some None (Some value) there))
not_held (None ∷ values) (suc k) value member there none = not_held values k value member there none
not_held (Some other ∷ values) zero value member there none = λ same.
    both_ways (other == member) (or_parts (other == member) (holds (values_in values) member) none).0
    (eq-eqb other member (same_Some other value (same_Some (Some other) (Some value) there) ∙ same))
not_held (Some other ∷ values) (suc k) value member there none =
    not_held values k value member there (or_parts (other == member) (holds (values_in values) member) none).1

-- if no two values given are equal, these two aren't
apart_at : (values : List (Option ℕ)) (j k earlier later : ℕ) → j < k → slice_get values j ≡ Some (Some earlier) →
    slice_get values k ≡ Some (Some later) → has_equal (values_in values) ≡ false → later ≢ earlier
apart_at [] j k earlier later less first second none = absurd (none-some (Some earlier) first)
apart_at (value ∷ values) j zero earlier later less first second none = absurd (omega (arith, less))
apart_at (None ∷ values) zero (suc k) earlier later less first second none =
    absurd (none-some earlier (same_Some None (Some earlier) first))
apart_at (None ∷ values) (suc j) (suc k) earlier later less first second none =
    apart_at values j k earlier later (omega (arith, less)) first second none
apart_at (Some value ∷ values) zero (suc k) earlier later less first second none = λ same.
    not_held values k later value second
    (or_parts (holds (values_in values) value) (has_equal (values_in values)) none).0
    (same ∙ sym (same_Some value earlier (same_Some (Some value) (Some earlier) first)))
apart_at (Some value ∷ values) (suc j) (suc k) earlier later less first second none =
    apart_at values j k earlier later (omega (arith, less)) first second
    (or_parts (holds (values_in values) value) (has_equal (values_in values)) none).1

module _ (settings : Settings) (good : fault_of settings ≡ None) where
  -- the types and the SSRCs, each of which may be given
  abbrev types : List (Option ℕ)
  types = Some settings.media_type
      ∷ option_map (λ red. red.red_type) settings.red ∷ option_and_then (λ red. red.fec_type) settings.red
      ∷ option_map (λ rtx. rtx.media_rtx_type) settings.rtx ∷ option_and_then (λ rtx. rtx.red_rtx_type) settings.rtx
      ∷ []

  abbrev ssrcs : List (Option ℕ)
  ssrcs = Some settings.media_ssrc ∷ option_map (λ rtx. rtx.ssrc) settings.rtx ∷ Some settings.from_ssrc ∷ []

  -- the faults after a test
  abbrev after_ssrc : Option NewFault
  after_ssrc = first_of (lacks_red settings) RedMissing
      (first_of (is_bad_interval settings.interval) BadInterval None)

  abbrev after_same : Option NewFault
  after_same = first_of (has_equal (ssrcs_of settings)) SameSsrc after_ssrc

  abbrev after_bad : Option NewFault
  after_bad = first_of (has_equal (types_of settings)) SameType after_same

  none_bad : (list_any is_bad_type (types_of settings) ≡ false) × (after_bad ≡ None)
  none_bad = none_first (list_any is_bad_type (types_of settings)) BadType after_bad good

  none_same : (has_equal (types_of settings) ≡ false) × (after_same ≡ None)
  none_same = none_first (has_equal (types_of settings)) SameType after_same none_bad.1

  none_equal : (has_equal (ssrcs_of settings) ≡ false) × (after_ssrc ≡ None)
  none_equal = none_first (has_equal (ssrcs_of settings)) SameSsrc after_ssrc none_same.1

  -- RTCP takes none of the types: not that of media
  pub media-good : is_bad_type settings.media_type ≡ false
  media-good = good_at types 0 settings.media_type refl none_bad.0

  -- nor that of RED
  red_there : (red : Red) → settings.red ≡ Some red → slice_get types 1 ≡ Some (Some red.red_type)
  red_there red given = ap (λ (o : Option Red). Some (option_map (λ red. red.red_type) o)) given

  pub red-good : (red : Red) → settings.red ≡ Some red → is_bad_type red.red_type ≡ false
  red-good red given = good_at types 1 red.red_type (red_there red given) none_bad.0

  -- nor that of FEC
  fec_there : (red : Red) (type : ℕ) → settings.red ≡ Some red → red.fec_type ≡ Some type →
      slice_get types 2 ≡ Some (Some type)
  fec_there red type given has =
      ap (λ (o : Option Red). Some (option_and_then (λ red. red.fec_type) o)) given ∙ ap Some has

  pub fec-good : (red : Red) (type : ℕ) → settings.red ≡ Some red → red.fec_type ≡ Some type →
      is_bad_type type ≡ false
  fec-good red type given has = good_at types 2 type (fec_there red type given has) none_bad.0

  -- nor those of retransmissions, of media and of RED
  rtx_there : (rtx : Rtx) → settings.rtx ≡ Some rtx → slice_get types 3 ≡ Some (Some rtx.media_rtx_type)
  rtx_there rtx given = ap (λ (o : Option Rtx). Some (option_map (λ rtx. rtx.media_rtx_type) o)) given

  pub rtx-good : (rtx : Rtx) → settings.rtx ≡ Some rtx → is_bad_type rtx.media_rtx_type ≡ false
  rtx-good rtx given = good_at types 3 rtx.media_rtx_type (rtx_there rtx given) none_bad.0

  red_rtx_there : (rtx : Rtx) (type : ℕ) → settings.rtx ≡ Some rtx → rtx.red_rtx_type ≡ Some type →
      slice_get types 4 ≡ Some (Some type)
  red_rtx_there rtx type given has =
      ap (λ (o : Option Rtx). Some (option_and_then (λ rtx. rtx.red_rtx_type) o)) given ∙ ap Some has

  pub red_rtx-good : (rtx : Rtx) (type : ℕ) → settings.rtx ≡ Some rtx → rtx.red_rtx_type ≡ Some type →
      is_bad_type type ≡ false
  red_rtx-good rtx type given has = good_at types 4 type (red_rtx_there rtx type given has) none_bad.0

  -- RED has another type than media
  pub red-apart : (red : Red) → settings.red ≡ Some red → red.red_type ≢ settings.media_type
  red-apart red given =
      apart_at types 0 1 settings.media_type red.red_type (omega arith) refl (red_there red given) none_same.0

  -- FEC has another type than media
  pub fec-apart : (red : Red) (type : ℕ) → settings.red ≡ Some red → red.fec_type ≡ Some type →
      type ≢ settings.media_type
  fec-apart red type given has = apart_at types 0 2 settings.media_type type (omega arith) refl
      (fec_there red type given has) none_same.0

  -- RED comes again under another type than media
  pub red_rtx-apart : (rtx : Rtx) (type : ℕ) → settings.rtx ≡ Some rtx → rtx.red_rtx_type ≡ Some type →
      type ≢ rtx.media_rtx_type
  red_rtx-apart rtx type given has = apart_at types 3 4 rtx.media_rtx_type type (omega arith) (rtx_there rtx given)
      (red_rtx_there rtx type given has) none_same.0

  -- retransmissions have another SSRC than media
  pub rtx-apart : (rtx : Rtx) → settings.rtx ≡ Some rtx → rtx.ssrc ≢ settings.media_ssrc
  rtx-apart rtx given = apart_at ssrcs 0 1 settings.media_ssrc rtx.ssrc (omega arith) refl
      (ap (λ (o : Option Rtx). Some (option_map (λ rtx. rtx.ssrc) o)) given) none_equal.0
