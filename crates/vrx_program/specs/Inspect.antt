-- What an inspection of a capture gives: a status and a text.
use Rattle.std.specs.Prelude.{ℕ, Bool, true, false, nat_lt, if◌then◌else◌, List, [], ◌∷◌, ◌++◌, length, Option, Some, None, is_none}
use Rattle.std.specs.Option.{option_map}
use Rattle.vrx_core.specs.machine.SettingsFault.{fault_of}
use Rattle.vrx_core.specs.declared.settings.Settings.{Settings}
use Rattle.vrx_core.specs.declared.event.Event.{Event}
use Rattle.vrx_core.specs.declared.event.Event.TheVariants.{Datagram, Tick, Pull}
use Rattle.vrx_capture.specs.Line.{lines_of, longest_line}
use Rattle.vrx_capture.specs.Reading.{Reading, reading}
use Rattle.vrx_capture.specs.SettingsLine.{settings_in}
use Rattle.vrx_text.specs.Inspection.{inspection}
use Rattle.vrx_capture.specs.declared.settings_line.CodecName.{CodecName}
use Rattle.vrx_text.specs.declared.transcript.ErrorReason.{ErrorReason}
use Rattle.vrx_text.specs.declared.transcript.ErrorReason.TheVariants as errors
use Rattle.vrx_program.specs.Outcome.{Outcome, refusal, status_of, error_text}
use Rattle.vrx_program.specs.Job.{Answering, most_events, bad_line}

-- settings without a fault are right, whatever the codec
abbrev pub has_right_settings : Option (CodecName × Settings) → Bool
has_right_settings None = false
has_right_settings (Some (codec, settings)) = is_none (fault_of settings)

-- a settings line is right
unfoldable pub is_head : List ℕ → Bool
is_head line = if nat_lt longest_line (length line) then false else has_right_settings (settings_in line)

-- the text of an event: of a datagram what it is; ticks and pulls give none
abbrev pub inspected_event : ℕ → Event → List ℕ
inspected_event k (Datagram moment octets) = inspection k octets
inspected_event k (Tick moment) = []
inspected_event k (Pull moment) = []

-- the text of events, in order, each with the number of its line
unfoldable pub inspections : List (ℕ × Event) → List ℕ
inspections [] = []
inspections ((k, event) ∷ lines) = inspected_event k event ++ inspections lines

-- what the inspection of lines gives that give this reading
abbrev pub inspected_reading : Reading → Outcome
inspected_reading r = let bad : Option (ℕ × ErrorReason) =
    option_map bad_line r.bad in record { status = status_of bad; text = inspections r.events; last = error_text bad }

-- what the inspection of a first line, which is right or refused, and of the others gives
abbrev pub inspected_from : Bool → List (List ℕ) → Outcome
inspected_from true lines = inspected_reading (reading most_events 2 0 lines)
inspected_from false lines = refusal errors.Settings

-- what the inspection of these lines gives: an absent first line has no settings
abbrev pub inspected_lines : List (List ℕ) → Outcome
inspected_lines [] = refusal errors.Settings
inspected_lines (line ∷ lines) = inspected_from (is_head line) lines

-- what the inspection of a capture gives
abbrev pub inspection_outcome : List ℕ → Outcome
inspection_outcome capture = inspected_lines (lines_of capture)

-- what an inspection does with each event
abbrev pub inspecting : Answering
inspecting = record { text = λ h k event. inspected_event k event }
