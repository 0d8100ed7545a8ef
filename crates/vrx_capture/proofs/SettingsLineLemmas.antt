-- Lemmas on what the settings line means.
use Rattle.std.proofs.Common.{◌≡◌, ℕ, ◌^◌, ◌<◌, ◌≤◌, ◌==◌, Bool, true, false, if◌then◌else◌, List, [], ◌∷◌, ◌++◌, Option, Some, None, refl, sym, ap, subst, ◌∙◌, append_assoc, append-nil, arith}
use Rattle.std.specs.Prelude.{◌↔◌, codes}
use Rattle.std.specs.Fmt.{decimal}
use Rattle.std.specs.Int.{w32, to_be_bytes}
use Rattle.std.specs.List.{All, list_any}
use Rattle.std.specs.Option.{option_map, option_and_then, unwrap_or, IfSome}
use Rattle.std.specs.Str.{all_ascii_digits, bytes_eq}
use Rattle.std.proofs.lemmas.Bool.{and_parts}
use Rattle.std.proofs.lemmas.List.Elements.{All-nil, All-cons, All-head, All-tail}
use Rattle.std.proofs.lemmas.Slice.Eq.{bytes_eq-Decides}
use Rattle.vrx_core.specs.machine.SettingsFault.{values_in, types_of, ssrcs_of}
use Rattle.vrx_core.specs.declared.settings.Settings.{Settings}
use Rattle.vrx_core.specs.declared.settings.Red.{Red}
use Rattle.vrx_core.specs.declared.settings.Rtx.{Rtx}
use Rattle.vrx_capture.specs.Words.{after_prefix, number_in}
use Rattle.vrx_capture.specs.SettingsLine.{ssrc_in, codec_text, codec_in, greatest_type, type_in, longest_interval, interval_in, usual_interval, field, field_if, group_if, red_in, rtx_in, at_end, last_interval, settings_in}
use Rattle.vrx_capture.specs.IsSettingsLine.{ssrc_text, number_text, red_text, rtx_text, interval_text, IsSettingsLine}
use Rattle.vrx_capture.specs.declared.settings_line.CodecName.{CodecName}
use Rattle.vrx_capture.specs.declared.settings_line.CodecName.TheVariants.{Vp8, H264}
use Rattle.vrx_capture.proofs.NumberLemmas.{number_mean, decimal_digits}
use Rattle.vrx_capture.proofs.SsrcLemmas.{encoded_plain, octets_fit, ssrc_in-read, ssrc_in-write}
use Rattle.vrx_capture.proofs.FieldLemmas.{bind_some, same_value, is_apart, Spells, Reads, field_reads, ends_if, part_reads}

-- ---- the values of fields

-- digits hold no space
digits_plain : (ds : List ℕ) → all_ascii_digits ds ≡ true → list_any (λ o. o == 32) ds ≡ false
digits_plain [] digits = refl
digits_plain (d ∷ ds) digits =
    let more : list_any (λ o. o == 32) ds ≡ false = digits_plain ds (grind arith) in
    let no_space : (d == 32) ≡ false = grind arith in
    rw (no_space, more) refl

decimal_plain : (n : ℕ) → n < 2 ^ 64 → list_any (λ o. o == 32) (decimal n) ≡ false
decimal_plain n fits = digits_plain (decimal n) (decimal_digits n fits)

number_spells : (most : ℕ) → most < 2 ^ 64 → Spells (number_in most) decimal (λ n. n ≤ most)
number_spells most fits = record {
  back = λ w n h. (number_mean most n w fits).0 h;
  forth = λ n bound. (number_mean most n (decimal n) fits).1 (refl, bound);
  plain = λ n bound. decimal_plain n (omega arith);
}

type_spells : Spells type_in decimal (λ n. n ≤ greatest_type)
unfolding type_in
type_spells = number_spells greatest_type (omega arith)

interval_spells : Spells interval_in decimal (λ n. n ≤ longest_interval)
unfolding interval_in
interval_spells = number_spells longest_interval (omega arith)

ssrc_spells : Spells ssrc_in ssrc_text (λ ssrc. ssrc < 2 ^ 32)
ssrc_spells = record {
  back = ssrc_in-read;
  forth = ssrc_in-write;
  plain = λ ssrc fits. (encoded_plain (to_be_bytes w32 ssrc) (octets_fit ssrc)).1;
}

codec_chosen : (name : List ℕ) (codec : CodecName) (first second : Bool) →
    (if first then Some Vp8 else if second then Some H264 else None) ≡ Some codec →
    (first ≡ bytes_eq name (codec_text Vp8)) → (second ≡ bytes_eq name (codec_text H264)) → name ≡ codec_text codec
codec_chosen name codec true second h is_first is_second =
    (bytes_eq-Decides name (codec_text Vp8)).0 (sym is_first) ∙ ap codec_text (same_value Vp8 codec h)
codec_chosen name codec false true h is_first is_second =
    (bytes_eq-Decides name (codec_text H264)).0 (sym is_second) ∙ ap codec_text (same_value H264 codec h)
codec_chosen name codec false false h is_first is_second = cc h

codec_back : (name : List ℕ) (codec : CodecName) → codec_in name ≡ Some codec → name ≡ codec_text codec
unfolding codec_in
codec_back name codec h =
    codec_chosen name codec (bytes_eq name (codec_text Vp8)) (bytes_eq name (codec_text H264)) h refl refl

codec_forth : (codec : CodecName) → codec_in (codec_text codec) ≡ Some codec
unfolding codec_in
codec_forth Vp8 = refl
codec_forth H264 = refl

codec_plain : (codec : CodecName) → list_any (λ o. o == 32) (codec_text codec) ≡ false
codec_plain Vp8 = refl
codec_plain H264 = refl

codec_spells : Spells codec_in codec_text (λ codec. Unit {0})
codec_spells = record {
  back = λ w codec h. (codec_back w codec h, tt);
  forth = λ codec fits. codec_forth codec;
  plain = λ codec fits. codec_plain codec;
}

-- ---- fields

-- bounds
abbrev FitsType : ℕ → Type 0
FitsType type = type ≤ greatest_type

abbrev FitsSsrc : ℕ → Type 0
FitsSsrc ssrc = ssrc < 2 ^ 32

abbrev FitsInterval : ℕ → Type 0
FitsInterval interval = interval ≤ longest_interval

type_reads : (name : List ℕ) → Reads (field name type_in) (λ type. name ++ decimal type) FitsType is_apart
type_reads name = field_reads name type_in decimal FitsType type_spells

ssrc_reads : (name : List ℕ) → Reads (field name ssrc_in) (λ ssrc. name ++ ssrc_text ssrc) FitsSsrc is_apart
ssrc_reads name = field_reads name ssrc_in ssrc_text FitsSsrc ssrc_spells

codec_reads : (name : List ℕ) →
    Reads (field name codec_in) (λ codec. name ++ codec_text codec) (λ codec. Unit {0}) is_apart
codec_reads name = field_reads name codec_in codec_text (λ codec. Unit {0}) codec_spells

type_if_reads : (name : List ℕ) →
    Reads (group_if name (field name type_in)) (number_text name) (λ type. IfSome type FitsType)
    (ends_if name is_apart)
type_if_reads name = part_reads name (field name type_in) (number_text name) FitsType is_apart refl
    (λ type. (decimal type, refl)) (type_reads name)

interval_if_reads : (name : List ℕ) →
    Reads (group_if name (field name interval_in)) (number_text name) (λ told. IfSome told FitsInterval)
    (ends_if name is_apart)
interval_if_reads name =
    part_reads name (field name interval_in) (number_text name) FitsInterval is_apart refl (λ n. (decimal n, refl))
    (field_reads name interval_in decimal FitsInterval interval_spells)

-- ---- RED, and the stream of retransmissions

abbrev FitsRed : Red → Type 0
FitsRed red = FitsType red.red_type × IfSome red.fec_type FitsType

abbrev FitsRtx : Rtx → Type 0
FitsRtx rtx = FitsSsrc rtx.ssrc × FitsType rtx.media_rtx_type × IfSome rtx.red_rtx_type FitsType

-- a number that may be absent leaves a text apart from what stands before it
number_apart : (name : List ℕ) (number : Option ℕ) (rest : List ℕ) → is_apart rest ≡ true →
    is_apart (number_text (32 ∷ name) number ++ rest) ≡ true
number_apart name None rest apart = apart
number_apart name (Some number) rest apart = refl

red_back : (text : List ℕ) (told : Red × List ℕ) → red_in text ≡ Some told →
    (text ≡ red_text (Some told.0) ++ told.1) × FitsRed told.0
unfolding red_in
red_back text told h =
    let red = bind_some (field (codes " red=") type_in text) _ told h in
    let fec = bind_some (field_if (codes " fec=") type_in red.0.1) _ told red.2 in
    let read : Red = record { red_type = red.0.0; fec_type = fec.0.0 } in
    let same : (read, fec.0.1) ≡ told = same_value (read, fec.0.1) told fec.2 in
    let first = (type_reads (codes " red=")).back text red.0 red.1 in
    let second = (type_if_reads (codes " fec=")).back red.0.1 fec.0 fec.1 in
    let front : List ℕ = codes " red=" ++ decimal red.0.0 in
    let whole : text ≡ red_text (Some read) ++ fec.0.1 = first.0 ∙ ap (λ (octets : List ℕ). front ++ octets) second.0
    ∙ sym (append_assoc front (number_text (codes " fec=") fec.0.0) fec.0.1) in
    subst (λ (t : Red × List ℕ). (text ≡ red_text (Some t.0) ++ t.1) × FitsRed t.0) same (whole, (first.1, second.1))

red_forth : (red : Red) (rest : List ℕ) → FitsRed red → ends_if (codes " fec=") is_apart rest ≡ true →
    red_in (red_text (Some red) ++ rest) ≡ Some (red, rest)
unfolding red_in
red_forth red rest fits ends =
    let behind_it : List ℕ = number_text (codes " fec=") red.fec_type ++ rest in
    let apart : is_apart behind_it ≡ true = number_apart (codes "fec=") red.fec_type rest (and_parts _ _ ends).0 in
    rw (
      append_assoc (codes " red=" ++ decimal red.red_type) (number_text (codes " fec=") red.fec_type) rest,
      (type_reads (codes " red=")).forth red.red_type behind_it fits.0 apart,
      (type_if_reads (codes " fec=")).forth red.fec_type rest fits.1 ends,
    ) refl

red_if_reads : Reads (group_if (codes " red=") red_in) red_text (λ red. IfSome red FitsRed)
    (ends_if (codes " red=") (ends_if (codes " fec=") is_apart))
red_if_reads = part_reads (codes " red=") red_in red_text FitsRed (ends_if (codes " fec=") is_apart) refl
    (λ red. (
      decimal red.red_type ++ number_text (codes " fec=") red.fec_type,
      append_assoc (codes " red=") (decimal red.red_type) (number_text (codes " fec=") red.fec_type),
    ))
    (record { back = red_back; forth = red_forth })

rtx_grouped : (a n d r rest : List ℕ) → (a ++ n ++ d ++ r) ++ rest ≡ a ++ ((n ++ d) ++ (r ++ rest))
rtx_grouped a n d r rest = simp append_assoc

rtx_back : (text : List ℕ) (told : Rtx × List ℕ) → rtx_in text ≡ Some told →
    (text ≡ rtx_text (Some told.0) ++ told.1) × FitsRtx told.0
unfolding rtx_in
rtx_back text told h =
    let ssrc = bind_some (field (codes " rtxssrc=") ssrc_in text) _ told h in
    let media = bind_some (field (codes " rtx=") type_in ssrc.0.1) _ told ssrc.2 in
    let red = bind_some (field_if (codes " rtxred=") type_in media.0.1) _ told media.2 in
    let read : Rtx = record { ssrc = ssrc.0.0; media_rtx_type = media.0.0; red_rtx_type = red.0.0 } in
    let same : (read, red.0.1) ≡ told = same_value (read, red.0.1) told red.2 in
    let first = (ssrc_reads (codes " rtxssrc=")).back text ssrc.0 ssrc.1 in
    let second = (type_reads (codes " rtx=")).back ssrc.0.1 media.0 media.1 in
    let third = (type_if_reads (codes " rtxred=")).back media.0.1 red.0 red.1 in
    let front : List ℕ = codes " rtxssrc=" ++ ssrc_text ssrc.0.0 in
    let next : List ℕ = codes " rtx=" ++ decimal media.0.0 in
    let whole : text ≡ rtx_text (Some read) ++ red.0.1 =
    first.0 ∙ ap (λ (octets : List ℕ). front ++ octets) (second.0 ∙ ap (λ (octets : List ℕ). next ++ octets) third.0)
    ∙ sym (rtx_grouped front (codes " rtx=") (decimal media.0.0) (number_text (codes " rtxred=") red.0.0) red.0.1) in
    subst (λ (t : Rtx × List ℕ). (text ≡ rtx_text (Some t.0) ++ t.1) × FitsRtx t.0) same
    (whole, (first.1, second.1, third.1))

rtx_forth : (rtx : Rtx) (rest : List ℕ) → FitsRtx rtx → ends_if (codes " rtxred=") is_apart rest ≡ true →
    rtx_in (rtx_text (Some rtx) ++ rest) ≡ Some (rtx, rest)
unfolding rtx_in
rtx_forth rtx rest fits ends =
    let behind_media : List ℕ = number_text (codes " rtxred=") rtx.red_rtx_type ++ rest in
    let behind_ssrc : List ℕ = (codes " rtx=" ++ decimal rtx.media_rtx_type) ++ behind_media in
    let apart : is_apart behind_media ≡ true =
    number_apart (codes "rtxred=") rtx.red_rtx_type rest (and_parts _ _ ends).0 in
    rw (
      rtx_grouped (codes " rtxssrc=" ++ ssrc_text rtx.ssrc) (codes " rtx=") (decimal rtx.media_rtx_type)
          (number_text (codes " rtxred=") rtx.red_rtx_type) rest,
      (ssrc_reads (codes " rtxssrc=")).forth rtx.ssrc behind_ssrc fits.0 refl,
      (type_reads (codes " rtx=")).forth rtx.media_rtx_type behind_media fits.1 apart,
      (type_if_reads (codes " rtxred=")).forth rtx.red_rtx_type rest fits.2 ends,
    ) refl

rtx_begins : (rtx : Rtx) → (more : List ℕ) × (rtx_text (Some rtx) ≡ codes " rtxssrc=" ++ more)
rtx_begins rtx = (
  ssrc_text rtx.ssrc ++ ((codes " rtx=" ++ decimal rtx.media_rtx_type) ++ number_text
      (codes " rtxred=") rtx.red_rtx_type),
  simp append_assoc,
)

rtx_if_reads : Reads (group_if (codes " rtxssrc=") rtx_in) rtx_text (λ rtx. IfSome rtx FitsRtx)
    (ends_if (codes " rtxssrc=") (ends_if (codes " rtxred=") is_apart))
rtx_if_reads = part_reads (codes " rtxssrc=") rtx_in rtx_text FitsRtx
    (ends_if (codes " rtxred=") is_apart) refl rtx_begins (record { back = rtx_back; forth = rtx_forth })

-- ---- the interval that ends the line

ended : (n value : ℕ) (rest : List ℕ) → at_end value rest ≡ Some n → (rest ≡ []) × (n ≡ value)
ended n value [] h = (refl, sym (same_value value n h))
ended n value (o ∷ rest) h = cc h

last_back : (text : List ℕ) (n : ℕ) → last_interval text ≡ Some n →
    (told : Option ℕ) × (text ≡ interval_text told) × (n ≡ unwrap_or told usual_interval) × IfSome told FitsInterval
unfolding last_interval
last_back text n h =
    let interval = bind_some (field_if (codes " interval=") interval_in text) _ n h in
    let last = ended n (unwrap_or interval.0.0 usual_interval) interval.0.1 interval.2 in
    let read = (interval_if_reads (codes " interval=")).back text interval.0 interval.1 in
    let whole : text ≡ interval_text interval.0.0 = read.0
    ∙ ap (λ (octets : List ℕ). interval_text interval.0.0 ++ octets) last.0
    ∙ append-nil (interval_text interval.0.0) in
    (interval.0.0, whole, last.1, read.1)

nothing_ends : ends_if (codes " interval=") is_apart [] ≡ true
unfolding after_prefix
nothing_ends = refl

last_forth : (told : Option ℕ) → IfSome told FitsInterval →
    last_interval (interval_text told) ≡ Some (unwrap_or told usual_interval)
unfolding last_interval
last_forth told fits =
    let read : field_if (codes " interval=") interval_in (interval_text told ++ []) ≡ Some (told, []) =
    (interval_if_reads (codes " interval=")).forth told [] fits nothing_ends in
    let whole : field_if (codes " interval=") interval_in (interval_text told) ≡ Some (told, []) =
    subst (λ (octets : List ℕ). field_if (codes " interval=") interval_in octets ≡ Some (told, []))
    (append-nil (interval_text told)) read in
    rw whole refl

told_fits : (told : Option ℕ) (n : ℕ) → n ≡ unwrap_or told usual_interval → n ≤ longest_interval →
    IfSome told FitsInterval
told_fits None n same within = tt
told_fits (Some m) n same within = omega arith

interval_fits : (told : Option ℕ) (n : ℕ) → n ≡ unwrap_or told usual_interval → IfSome told FitsInterval →
    n ≤ longest_interval
interval_fits None n same fits = omega arith
interval_fits (Some m) n same fits = omega arith

-- ---- bounds of what may be given

given_front : (P : ℕ → Type 0) (o : Option ℕ) (os : List (Option ℕ)) → IfSome o P → All P (values_in os) →
    All P (values_in (o ∷ os))
given_front P None os fits rest = rest
given_front P (Some x) os fits rest = All-cons P x (values_in os) fits rest

given_first : (P : ℕ → Type 0) (o : Option ℕ) (os : List (Option ℕ)) → All P (values_in (o ∷ os)) →
    IfSome o P × All P (values_in os)
given_first P None os all = (tt, all)
given_first P (Some x) os all = (All-head P x (values_in os) all, All-tail P x (values_in os) all)

red_split : (red : Option Red) → IfSome red FitsRed →
    IfSome (option_map (λ r. r.red_type) red) FitsType × IfSome (option_and_then (λ r. r.fec_type) red) FitsType
red_split None fits = (tt, tt)
red_split (Some red) fits = (fits.0, fits.1)

red_joined : (red : Option Red) → IfSome (option_map (λ r. r.red_type) red) FitsType →
    IfSome (option_and_then (λ r. r.fec_type) red) FitsType → IfSome red FitsRed
red_joined None first second = tt
red_joined (Some red) first second = (first, second)

rtx_split : (rtx : Option Rtx) → IfSome rtx FitsRtx →
    IfSome (option_map (λ r. r.ssrc) rtx) FitsSsrc × IfSome (option_map (λ r. r.media_rtx_type) rtx) FitsType
    × IfSome (option_and_then (λ r. r.red_rtx_type) rtx) FitsType
rtx_split None fits = (tt, tt, tt)
rtx_split (Some rtx) fits = (fits.0, fits.1, fits.2)

rtx_joined : (rtx : Option Rtx) → IfSome (option_map (λ r. r.ssrc) rtx) FitsSsrc →
    IfSome (option_map (λ r. r.media_rtx_type) rtx) FitsType →
    IfSome (option_and_then (λ r. r.red_rtx_type) rtx) FitsType → IfSome rtx FitsRtx
rtx_joined None ssrc media red = tt
rtx_joined (Some rtx) ssrc media red = (ssrc, media, red)

-- each part of settings is within its bounds
record AllFit (settings : Settings) : Type 0 where
  type : FitsType settings.media_type
  red : IfSome settings.red FitsRed
  rtx : IfSome settings.rtx FitsRtx
  media : FitsSsrc settings.media_ssrc
  from : FitsSsrc settings.from_ssrc

three_fit : (P : ℕ → Type 0) (a b c : Option ℕ) → IfSome a P → IfSome b P → IfSome c P →
    All P (values_in (a ∷ b ∷ c ∷ []))
three_fit P a b c fits_a fits_b fits_c =
    given_front P a (b ∷ c ∷ []) fits_a (given_front P b (c ∷ []) fits_b (given_front P c [] fits_c (All-nil P)))

five_fit : (P : ℕ → Type 0) (a b c d e : Option ℕ) → IfSome a P → IfSome b P → IfSome c P → IfSome d P → IfSome e P →
    All P (values_in (a ∷ b ∷ c ∷ d ∷ e ∷ []))
five_fit P a b c d e fits_a fits_b fits_c fits_d fits_e =
    given_front P a (b ∷ c ∷ d ∷ e ∷ []) fits_a
    (given_front P b (c ∷ d ∷ e ∷ []) fits_b (three_fit P c d e fits_c fits_d fits_e))

three_split : (P : ℕ → Type 0) (a b c : Option ℕ) → All P (values_in (a ∷ b ∷ c ∷ [])) →
    IfSome a P × IfSome b P × IfSome c P
three_split P a b c all =
    let first = given_first P a (b ∷ c ∷ []) all in
    let second = given_first P b (c ∷ []) first.1 in
    (first.0, second.0, (given_first P c [] second.1).0)

five_split : (P : ℕ → Type 0) (a b c d e : Option ℕ) → All P (values_in (a ∷ b ∷ c ∷ d ∷ e ∷ [])) →
    IfSome a P × IfSome b P × IfSome c P × IfSome d P × IfSome e P
five_split P a b c d e all =
    let first = given_first P a (b ∷ c ∷ d ∷ e ∷ []) all in
    let second = given_first P b (c ∷ d ∷ e ∷ []) first.1 in
    let others = three_split P c d e second.1 in
    (first.0, second.0, others.0, others.1, others.2)

types_fit : (settings : Settings) → AllFit settings → All FitsType (types_of settings)
types_fit settings fit =
    let red = red_split settings.red fit.red in
    let rtx = rtx_split settings.rtx fit.rtx in
    five_fit FitsType (Some settings.media_type) (option_map (λ r. r.red_type) settings.red)
    (option_and_then (λ r. r.fec_type) settings.red) (option_map (λ r. r.media_rtx_type) settings.rtx)
    (option_and_then (λ r. r.red_rtx_type) settings.rtx) fit.type red.0 red.1 rtx.1 rtx.2

ssrcs_fit : (settings : Settings) → AllFit settings → All FitsSsrc (ssrcs_of settings)
ssrcs_fit settings fit =
    three_fit FitsSsrc (Some settings.media_ssrc) (option_map (λ r. r.ssrc) settings.rtx)
    (Some settings.from_ssrc) fit.media (rtx_split settings.rtx fit.rtx).0 fit.from

all_fit : (settings : Settings) → All FitsType (types_of settings) → All FitsSsrc (ssrcs_of settings) →
    AllFit settings
all_fit settings types ssrcs =
    let type = five_split FitsType (Some settings.media_type) (option_map (λ r. r.red_type) settings.red)
    (option_and_then (λ r. r.fec_type) settings.red) (option_map (λ r. r.media_rtx_type) settings.rtx)
    (option_and_then (λ r. r.red_rtx_type) settings.rtx) types in
    let ssrc = three_split FitsSsrc (Some settings.media_ssrc) (option_map (λ r. r.ssrc) settings.rtx)
    (Some settings.from_ssrc) ssrcs in
    record {
      type = type.0;
      red = red_joined settings.red type.1 type.2;
      rtx = rtx_joined settings.rtx ssrc.1 type.3 type.4;
      media = ssrc.0;
      from = ssrc.2;
    }

-- ---- the line

-- the text of a line, in the order in which it is read
line_grouped : (vrx codec ssrc media pt type red rtx from sender interval : List ℕ) →
    vrx ++ codec ++ ssrc ++ media ++ pt ++ type ++ red ++ rtx ++ from ++ sender ++ interval ≡ (vrx ++ codec)
    ++ ((ssrc ++ media) ++ ((pt ++ type) ++ (red ++ (rtx ++ ((from ++ sender) ++ interval)))))
line_grouped vrx codec ssrc media pt type red rtx from sender interval = simp append_assoc

line_joined : (line t1 t2 t3 t4 t5 t6 vrx codec ssrc media pt type red rtx from sender interval : List ℕ) →
    line ≡ (vrx ++ codec) ++ t1 → t1 ≡ (ssrc ++ media) ++ t2 → t2 ≡ (pt ++ type) ++ t3 → t3 ≡ red ++ t4 →
    t4 ≡ rtx ++ t5 → t5 ≡ (from ++ sender) ++ t6 → t6 ≡ interval →
    line ≡ vrx ++ codec ++ ssrc ++ media ++ pt ++ type ++ red ++ rtx ++ from ++ sender ++ interval
line_joined line t1 t2 t3 t4 t5 t6 vrx codec ssrc media pt type red rtx from sender interval e0 e1 e2 e3 e4 e5 e6 =
    let whole : line ≡ (vrx ++ codec)
    ++ ((ssrc ++ media) ++ ((pt ++ type) ++ (red ++ (rtx ++ ((from ++ sender) ++ interval))))) = cc in
    whole ∙ sym (line_grouped vrx codec ssrc media pt type red rtx from sender interval)

settings_back : (line : List ℕ) (told : CodecName × Settings) → settings_in line ≡ Some told →
    IsSettingsLine line told.0 told.1
unfolding settings_in
settings_back line told h =
    let codec = bind_some (field (codes "vrx 1 codec=") codec_in line) _ told h in
    let media = bind_some (field (codes " ssrc=") ssrc_in codec.0.1) _ told codec.2 in
    let type = bind_some (field (codes " pt=") type_in media.0.1) _ told media.2 in
    let red = bind_some (group_if (codes " red=") red_in type.0.1) _ told type.2 in
    let rtx = bind_some (group_if (codes " rtxssrc=") rtx_in red.0.1) _ told red.2 in
    let from = bind_some (field (codes " from=") ssrc_in rtx.0.1) _ told rtx.2 in
    let interval = bind_some (last_interval from.0.1) _ told from.2 in
    let read : Settings = record {
      media_ssrc = media.0.0;
      media_type = type.0.0;
      red = red.0.0;
      rtx = rtx.0.0;
      from_ssrc = from.0.0;
      interval = interval.0;
    } in
    let same : (codec.0.0, read) ≡ told = same_value (codec.0.0, read) told interval.2 in
    let is_codec = (codec_reads (codes "vrx 1 codec=")).back line codec.0 codec.1 in
    let is_media = (ssrc_reads (codes " ssrc=")).back codec.0.1 media.0 media.1 in
    let is_type = (type_reads (codes " pt=")).back media.0.1 type.0 type.1 in
    let is_red = red_if_reads.back type.0.1 red.0 red.1 in
    let is_rtx = rtx_if_reads.back red.0.1 rtx.0 rtx.1 in
    let is_from = (ssrc_reads (codes " from=")).back rtx.0.1 from.0 from.1 in
    let last = last_back from.0.1 interval.0 interval.1 in
    let fit : AllFit read =
    record { type = is_type.1; red = is_red.1; rtx = is_rtx.1; media = is_media.1; from = is_from.1 } in
    let is : IsSettingsLine line codec.0.0 read = record {
      told = last.0;
      spelled = line_joined line codec.0.1 media.0.1 type.0.1 red.0.1 rtx.0.1 from.0.1 (codes "vrx 1 codec=")
          (codec_text codec.0.0) (codes " ssrc=") (ssrc_text media.0.0) (codes " pt=") (decimal type.0.0)
          (red_text red.0.0) (rtx_text rtx.0.0) (codes " from=") (ssrc_text from.0.0)
          (interval_text last.0) is_codec.0 is_media.0 is_type.0 is_red.0 is_rtx.0 is_from.0 last.1;
      interval = last.2;
      types = types_fit read fit;
      ssrcs = ssrcs_fit read fit;
      within = interval_fits last.0 interval.0 last.2 last.3;
    } in
    subst (λ (t : CodecName × Settings). IsSettingsLine line t.0 t.1) same is

-- ---- what follows a part isn't read as more of it

rtx_ends : (sender : List ℕ) (rest : List ℕ) →
    ends_if (codes " rtxssrc=") (ends_if (codes " rtxred=") is_apart) ((codes " from=" ++ sender) ++ rest) ≡ true
unfolding after_prefix
rtx_ends sender rest = refl

red_ends : (rtx : Option Rtx) (sender rest : List ℕ) →
    ends_if (codes " red=") (ends_if (codes " fec=") is_apart) (rtx_text rtx ++ ((codes " from=" ++ sender) ++ rest))
    ≡ true
unfolding after_prefix
red_ends None sender rest = refl
red_ends (Some rtx) sender rest = refl

type_ends : (red : Option Red) (rtx : Option Rtx) (sender rest : List ℕ) →
    is_apart (red_text red ++ (rtx_text rtx ++ ((codes " from=" ++ sender) ++ rest))) ≡ true
type_ends None None sender rest = refl
type_ends None (Some rtx) sender rest = refl
type_ends (Some red) rtx sender rest = refl

from_ends : (told : Option ℕ) → is_apart (interval_text told) ≡ true
from_ends None = refl
from_ends (Some told) = refl

settings_forth : (line : List ℕ) (codec : CodecName) (settings : Settings) → IsSettingsLine line codec settings →
    settings_in line ≡ Some (codec, settings)
unfolding settings_in
settings_forth line codec settings is =
    let fit = all_fit settings is.types is.ssrcs in
    let sender : List ℕ = ssrc_text settings.from_ssrc in
    let t6 : List ℕ = interval_text is.told in
    let t5 : List ℕ = (codes " from=" ++ sender) ++ t6 in
    let t4 : List ℕ = rtx_text settings.rtx ++ t5 in
    let t3 : List ℕ = red_text settings.red ++ t4 in
    let t2 : List ℕ = (codes " pt=" ++ decimal settings.media_type) ++ t3 in
    let t1 : List ℕ = (codes " ssrc=" ++ ssrc_text settings.media_ssrc) ++ t2 in
    rw (
      is.spelled ∙ line_grouped (codes "vrx 1 codec=") (codec_text codec) (codes " ssrc=")
          (ssrc_text settings.media_ssrc) (codes " pt=") (decimal settings.media_type) (red_text settings.red)
          (rtx_text settings.rtx) (codes " from=") sender t6,
      (codec_reads (codes "vrx 1 codec=")).forth codec t1 tt refl,
      (ssrc_reads (codes " ssrc=")).forth settings.media_ssrc t2 fit.media refl,
      (type_reads (codes " pt=")).forth settings.media_type t3 fit.type
          (type_ends settings.red settings.rtx sender t6),
      red_if_reads.forth settings.red t4 fit.red (red_ends settings.rtx sender t6),
      rtx_if_reads.forth settings.rtx t5 fit.rtx (rtx_ends sender t6),
      (ssrc_reads (codes " from=")).forth settings.from_ssrc t6 fit.from (from_ends is.told),
      last_forth is.told (told_fits is.told settings.interval is.interval is.within),
    ) (ap (λ (n : ℕ). Some (codec, record settings { interval = n })) (sym is.interval))

pub settings_mean : (line : List ℕ) (codec : CodecName) (settings : Settings) →
    (settings_in line ≡ Some (codec, settings)) ↔ IsSettingsLine line codec settings
settings_mean line codec settings = (settings_back line (codec, settings), settings_forth line codec settings)
