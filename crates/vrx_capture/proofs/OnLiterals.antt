-- What an answer unfolds to compute this crate's definitions on a literal.
use Rattle.std.specs.Prelude.{⊤}
use Rattle.hex.proofs.OnLiterals.{hex_on_literals}
use Rattle.vrx_capture.specs.Words.{after_prefix, until_space, after_space, from_space, number_from, number_in}
use Rattle.vrx_capture.specs.SettingsLine.{ssrc_in, codec_in, type_in, interval_in, field, group_if, red_in, rtx_in, last_interval, settings_in}
use Rattle.vrx_capture.specs.Line.{lines_of, octets_in, event_in, event_line, line_at}
use Rattle.vrx_capture.specs.Reading.{reading}

unfoldable pub capture_on_literals : ⊤
unfolding after_prefix until_space after_space from_space number_from number_in ssrc_in codec_in type_in interval_in
    field group_if red_in rtx_in last_interval settings_in lines_of octets_in event_in event_line line_at reading
    hex_on_literals
capture_on_literals = tt
