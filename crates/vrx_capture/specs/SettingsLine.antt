-- The settings line of a capture, which is its first:
--
--     vrx 1 codec=C ssrc=H pt=N[ red=N[ fec=N]][ rtxssrc=H rtx=N[ rtxred=N]] from=H[ interval=N]
--
-- C is vp8 or h264, H is eight lower-case hexadecimal digits, and N is one to five decimal digits without a leading
-- zero (0 by itself may be), at most 255 for a payload type. What stands in brackets may be absent.
use Rattle.std.specs.Prelude.{ℕ, Bool, ◌&&◌, nat_le, if◌then◌else◌, List, [], ◌∷◌, codes, Option, Some, None, is_none}
use Rattle.std.specs.List.{list_any}
use Rattle.std.specs.Option.{option_map, unwrap_or}
use Rattle.std.specs.Result.{result_ok}
use Rattle.std.specs.Str.{bytes_eq}
use Rattle.std.specs.Int.{from_be_bytes, w32}
use Rattle.hex.specs.Hex.{decode_sized}
use Rattle.vrx_core.specs.declared.settings.Settings.{Settings}
use Rattle.vrx_core.specs.declared.settings.Red.{Red}
use Rattle.vrx_core.specs.declared.settings.Rtx.{Rtx}
use Rattle.vrx_capture.specs.Words.{after_prefix, until_space, from_space, number_in}
use Rattle.vrx_num.specs.OptionChain.{◌>>=◌}
use Rattle.vrx_capture.specs.declared.settings_line.CodecName.{CodecName}
use Rattle.vrx_capture.specs.declared.settings_line.CodecName.TheVariants.{Vp8, H264}

-- an octet is an upper-case letter, A to Z
abbrev pub is_upper : ℕ → Bool
is_upper octet = nat_le 65 octet && nat_le octet 90

-- an SSRC: eight hexadecimal digits, the highest first, the letters in lower case
unfoldable pub ssrc_in : List ℕ → Option ℕ
ssrc_in digits =
    if list_any is_upper digits then None else option_map (from_be_bytes w32) (result_ok (decode_sized digits 4))

-- the codec of a name
abbrev pub codec_text : CodecName → List ℕ
codec_text Vp8 = codes "vp8"
codec_text H264 = codes "h264"

unfoldable pub codec_in : List ℕ → Option CodecName
codec_in name =
    if bytes_eq name (codec_text Vp8) then Some Vp8
    else if bytes_eq name (codec_text H264) then Some H264
    else None

-- a payload type: one octet
abbrev pub greatest_type : ℕ
greatest_type = 255

unfoldable pub type_in : List ℕ → Option ℕ
type_in digits = number_in greatest_type digits

-- an interval of requests, in milliseconds: five digits; and the usual one, if the line reports none
abbrev pub longest_interval : ℕ
longest_interval = 99999

unfoldable pub interval_in : List ℕ → Option ℕ
interval_in digits = number_in longest_interval digits

abbrev pub usual_interval : ℕ
usual_interval = 100

-- a field: its name, and its value up to the next space or the end. It gives the value, and what stands after it
unfoldable pub field : {A : Type 0} → List ℕ → (List ℕ → Option A) → List ℕ → Option (A × List ℕ)
field name value_in text = do
  told ← after_prefix name text
  value ← value_in (until_space told)
  Some (value, from_space told)

-- what may be absent: it's read if the text begins with the name of its first field
unfoldable pub group_if : {A : Type 0} → List ℕ → (List ℕ → Option (A × List ℕ)) → List ℕ → Option (Option A × List ℕ)
group_if name read text =
    if is_none (after_prefix name text) then Some (None, text)
    else option_map (λ told. (Some told.0, told.1)) (read text)

-- a field that may be absent
abbrev pub field_if : {A : Type 0} → List ℕ → (List ℕ → Option A) → List ℕ → Option (Option A × List ℕ)
field_if name value_in text = group_if name (field name value_in) text

-- RED: its payload type, and that of FEC in it, if there is one
unfoldable pub red_in : List ℕ → Option (Red × List ℕ)
red_in text = do
  red ← field (codes " red=") type_in text
  fec ← field_if (codes " fec=") type_in red.1
  Some (record { red_type = red.0; fec_type = fec.0 }, fec.1)

-- the stream of retransmissions: its SSRC, its payload type for media, and that for RED, if there is one
unfoldable pub rtx_in : List ℕ → Option (Rtx × List ℕ)
rtx_in text = do
  ssrc ← field (codes " rtxssrc=") ssrc_in text
  media ← field (codes " rtx=") type_in ssrc.1
  red ← field_if (codes " rtxred=") type_in media.1
  Some (record { ssrc = ssrc.0; media_rtx_type = media.0; red_rtx_type = red.0 }, red.1)

-- a value if nothing stands after it
abbrev pub at_end : {A : Type 0} → A → List ℕ → Option A
at_end value [] = Some value
at_end value (octet ∷ octets) = None

-- the interval that ends the line, or the usual one if the line ends without
unfoldable pub last_interval : List ℕ → Option ℕ
last_interval text = do
  interval ← field_if (codes " interval=") interval_in text
  at_end (unwrap_or interval.0 usual_interval) interval.1

-- the settings line: the codec that it names, and the settings
unfoldable pub settings_in : List ℕ → Option (CodecName × Settings)
settings_in line = do
  codec ← field (codes "vrx 1 codec=") codec_in line
  media_ssrc ← field (codes " ssrc=") ssrc_in codec.1
  media_type ← field (codes " pt=") type_in media_ssrc.1
  red ← group_if (codes " red=") red_in media_type.1
  rtx ← group_if (codes " rtxssrc=") rtx_in red.1
  from_ssrc ← field (codes " from=") ssrc_in rtx.1
  interval ← last_interval from_ssrc.1
  Some (
    codec.0,
    record {
      media_ssrc = media_ssrc.0;
      media_type = media_type.0;
      red = red.0;
      rtx = rtx.0;
      from_ssrc = from_ssrc.0;
      interval = interval;
    },
  )
