-- What a replay of a capture gives: a status and a text.
use Rattle.std.specs.Prelude.{ℕ, nat_lt, if◌then◌else◌, List, [], ◌∷◌, length, Option, Some, None, Result, Ok, Err}
use Rattle.std.specs.Option.{option_map}
use Rattle.vrx_codec.specs.Meaning.{Meaning}
use Rattle.vrx_vp8.specs.Descriptor.{vp8}
use Rattle.vrx_h264.specs.AccessUnit.{h264}
use Rattle.vrx_core.specs.machine.SettingsFault.{fault_of}
use Rattle.vrx_core.specs.declared.settings.Settings.{Settings}
use Rattle.vrx_core.specs.declared.settings.NewFault.{NewFault}
use Rattle.vrx_core.specs.declared.settings.NewFault.TheVariants as faults
use Rattle.vrx_core.specs.declared.event.Event.{Event}
use Rattle.vrx_capture.specs.Line.{lines_of, longest_line}
use Rattle.vrx_capture.specs.Reading.{Reading, reading}
use Rattle.vrx_capture.specs.SettingsLine.{settings_in}
use Rattle.vrx_text.specs.Transcript.{transcript}
use Rattle.vrx_capture.specs.declared.settings_line.CodecName.{CodecName}
use Rattle.vrx_capture.specs.declared.settings_line.CodecName.TheVariants.{Vp8, H264}
use Rattle.vrx_text.specs.declared.transcript.ErrorReason.{ErrorReason}
use Rattle.vrx_text.specs.declared.transcript.ErrorReason.TheVariants as errors
use Rattle.vrx_text.specs.Transcript.{text_of}
use Rattle.vrx_core.specs.machine.Machine.{reply}
use Rattle.vrx_program.specs.Outcome.{Outcome, refusal, status_of, error_text}
pub use Rattle.vrx_program.specs.Job.{most_events}
use Rattle.vrx_program.specs.Job.{Answering, bad_line}
use Rattle.vrx_program.specs.declared.job.Unanswered.{Unanswered}
use Rattle.vrx_program.specs.declared.job.Unanswered.TheVariants as unanswered

-- what the codec of a settings line means (RFC 7741, RFC 6184)
abbrev pub meaning_of : CodecName → Meaning
meaning_of Vp8 = vp8
meaning_of H264 = h264

-- a codec and settings with this fault, if any: the fault is the line's
abbrev pub unless_fault : CodecName → Settings → Option NewFault → Result (CodecName × Settings) ErrorReason
unless_fault codec settings (Some fault) = Err errors.Settings
unless_fault codec settings None = Ok (codec, settings)

-- the codec and the settings that a settings line says, or why it is refused
abbrev pub settings_or_reason : Option (CodecName × Settings) → Result (CodecName × Settings) ErrorReason
settings_or_reason None = Err errors.Settings
settings_or_reason (Some (codec, settings)) = unless_fault codec settings (fault_of settings)

-- the codec and the settings that the first line says, or why it is refused
unfoldable pub settings_of : List ℕ → Result (CodecName × Settings) ErrorReason
settings_of line =
    if nat_lt longest_line (length line) then Err errors.Settings else settings_or_reason (settings_in line)

-- a call, as a capture reports it: its codec and its settings, its events in order, each with the number of its
-- line, up to the first bad line; and that line with the reason, if there is one
pub record Call : Type 0 where
  pub codec : CodecName
  pub settings : Settings
  pub events : List (ℕ × Event)
  pub bad : Option (ℕ × ErrorReason)

-- the call with this codec and these settings, of what the lines after the first give
abbrev pub call_with : CodecName × Settings → Reading → Call
call_with told r = record { codec = told.0; settings = told.1; events = r.events; bad = option_map bad_line r.bad }

-- the call of the first line, which says a codec and settings or is refused, and of the others
abbrev pub call_from : Result (CodecName × Settings) ErrorReason → List (List ℕ) → Result Call ErrorReason
call_from (Err reason) lines = Err reason
call_from (Ok told) lines = Ok (call_with told (reading most_events 2 0 lines))

-- the call of these lines, or why the first is refused: an absent one says no settings
abbrev pub call_in : List (List ℕ) → Result Call ErrorReason
call_in [] = Err errors.Settings
call_in (line ∷ lines) = call_from (settings_of line) lines

abbrev pub call_of : List ℕ → Result Call ErrorReason
call_of capture = call_in (lines_of capture)

-- what a replay of a call gives, or of a first line that is refused
abbrev pub outcome_of : Result Call ErrorReason → Outcome
outcome_of (Err reason) = refusal reason
outcome_of (Ok call) = record {
  status = status_of call.bad;
  text = transcript call.settings (meaning_of call.codec) [] call.events;
  last =
      error_text call.bad;
}

-- what a replay of a capture gives
abbrev pub replay_outcome : List ℕ → Outcome
replay_outcome capture = outcome_of (call_of capture)

-- what a replay does with each event: its text is that of the machine's reply
abbrev pub replaying : Settings → Meaning → Answering
replaying settings codec = record { text = λ h k event. text_of k (reply settings codec h event) }

-- why no engine stands for settings with this fault
abbrev pub hindrance_of : NewFault → Unanswered
hindrance_of faults.NoMemory = unanswered.NoMemory
hindrance_of fault = unanswered.Refused errors.Settings
