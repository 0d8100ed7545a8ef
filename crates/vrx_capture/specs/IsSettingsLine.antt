-- What the settings line means, as a relation between its octets, the codec and the settings.
use Rattle.std.specs.Prelude.{◌≡◌, ℕ, ◌≤◌, ◌<◌, ◌^◌, List, [], ◌++◌, codes, Option, Some, None}
use Rattle.std.specs.Fmt.{decimal}
use Rattle.std.specs.Int.{to_be_bytes, w32}
use Rattle.std.specs.List.{All}
use Rattle.std.specs.Option.{unwrap_or}
use Rattle.hex.specs.Hex.{encode_lower}
use Rattle.vrx_core.specs.machine.SettingsFault.{types_of, ssrcs_of}
use Rattle.vrx_core.specs.declared.settings.Settings.{Settings}
use Rattle.vrx_core.specs.declared.settings.Red.{Red}
use Rattle.vrx_core.specs.declared.settings.Rtx.{Rtx}
use Rattle.vrx_capture.specs.SettingsLine.{codec_text, greatest_type, longest_interval, usual_interval}
use Rattle.vrx_capture.specs.declared.settings_line.CodecName.{CodecName}

-- an SSRC is written as its four octets, the highest first, and two hexadecimal digits for each
abbrev pub ssrc_text : ℕ → List ℕ
ssrc_text ssrc = encode_lower (to_be_bytes w32 ssrc)

-- a field with a number, and nothing if the number is absent
abbrev pub number_text : List ℕ → Option ℕ → List ℕ
number_text name None = []
number_text name (Some number) = name ++ decimal number

-- RED's types, and nothing if there is no RED
abbrev pub red_text : Option Red → List ℕ
red_text None = []
red_text (Some red) = codes " red=" ++ decimal red.red_type ++ number_text (codes " fec=") red.fec_type

-- the stream of retransmissions, and nothing if there is none
abbrev pub rtx_text : Option Rtx → List ℕ
rtx_text None = []
rtx_text (Some rtx) = codes " rtxssrc=" ++ ssrc_text rtx.ssrc ++ codes " rtx=" ++ decimal rtx.media_rtx_type
    ++ number_text (codes " rtxred=") rtx.red_rtx_type

-- the interval of requests, and nothing if the line reports none
abbrev pub interval_text : Option ℕ → List ℕ
interval_text told = number_text (codes " interval=") told

-- a line is the settings line of a codec and of settings: it is spelled so. If it reports no interval, the settings
-- have the usual one. Each payload type fits an octet, each SSRC 32 bits, and the interval five digits
pub record IsSettingsLine (line : List ℕ) (codec : CodecName) (settings : Settings) : Type 0 where
  pub told : Option ℕ
  pub spelled : line ≡ codes "vrx 1 codec=" ++ codec_text codec ++ codes " ssrc=" ++ ssrc_text settings.media_ssrc
      ++ codes " pt=" ++ decimal settings.media_type ++ red_text settings.red ++ rtx_text settings.rtx
      ++ codes " from=" ++ ssrc_text settings.from_ssrc ++ interval_text told
  pub interval : settings.interval ≡ unwrap_or told usual_interval
  pub types : All (λ type. type ≤ greatest_type) (types_of settings)
  pub ssrcs : All (λ ssrc. ssrc < 2 ^ 32) (ssrcs_of settings)
  pub within : settings.interval ≤ longest_interval
