-- Settings lines worked by hand: the definition on them.
use Rattle.std.specs.Prelude.{⊤, ◌≡◌, codes, refl, None, Some}
use Rattle.hex.proofs.OnLiterals.{hex_on_literals}
use Rattle.vrx_capture.specs.Words.{after_prefix, until_space, from_space, number_from, number_in}
use Rattle.vrx_capture.specs.SettingsLine.{ssrc_in, codec_in, type_in, interval_in, field, group_if, red_in, rtx_in, last_interval, settings_in}
use Rattle.vrx_capture.specs.declared.settings_line.CodecName.TheVariants.{Vp8, H264}

-- what a row unfolds to compute the definition on a literal
unfoldable settings_on_literals : ⊤
unfolding after_prefix until_space from_space number_from number_in ssrc_in codec_in type_in interval_in field
    group_if red_in rtx_in last_interval settings_in hex_on_literals
settings_on_literals = tt

-- the plain line: no RED, no RTX, and the usual interval
pub plain : settings_in (codes "vrx 1 codec=vp8 ssrc=0000000a pt=96 from=0000000b") ≡ Some
    (Vp8, record { media_ssrc = 10; media_type = 96; red = None; rtx = None; from_ssrc = 11; interval = 100 })
unfolding settings_on_literals
plain = refl

-- the fullest line
pub fullest : settings_in
    (codes "vrx 1 codec=h264 ssrc=0000000a pt=96 red=100 fec=101 rtxssrc=0000000c rtx=97 rtxred=98 from=0000000b interval=99999") ≡ Some (H264, record { media_ssrc = 10; media_type = 96; red = Some (record { red_type = 100; fec_type = Some 101 }); rtx = Some (record { ssrc = 12; media_rtx_type = 97; red_rtx_type = Some 98 }); from_ssrc = 11; interval = 99999 })
unfolding settings_on_literals
fullest = refl

-- upper-case digits, a leading zero, more than eight bits, a type of FEC without RED, an interval of six digits, and
-- anything after the end are refused
pub upper_case : settings_in (codes "vrx 1 codec=vp8 ssrc=0000000A pt=96 from=0000000b") ≡ None
unfolding settings_on_literals
upper_case = refl

pub leading_zero : settings_in (codes "vrx 1 codec=vp8 ssrc=0000000a pt=096 from=0000000b") ≡ None
unfolding settings_on_literals
leading_zero = refl

pub nine_bits : settings_in (codes "vrx 1 codec=vp8 ssrc=0000000a pt=256 from=0000000b") ≡ None
unfolding settings_on_literals
nine_bits = refl

pub fec_alone : settings_in (codes "vrx 1 codec=vp8 ssrc=0000000a pt=96 fec=101 from=0000000b") ≡ None
unfolding settings_on_literals
fec_alone = refl

pub six_digits : settings_in (codes "vrx 1 codec=vp8 ssrc=0000000a pt=96 from=0000000b interval=100000") ≡ None
unfolding settings_on_literals
six_digits = refl

pub space_at_the_end : settings_in (codes "vrx 1 codec=vp8 ssrc=0000000a pt=96 from=0000000b ") ≡ None
unfolding settings_on_literals
space_at_the_end = refl
