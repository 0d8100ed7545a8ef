-- What a word does with the events of a capture, and what a run gives then.
use Rattle.std.specs.Prelude.{◌≡◌, ℕ, List, [], ◌∷◌, ◌++◌, Option}
use Rattle.std.specs.Option.{option_map}
use Rattle.vrx_core.specs.declared.event.Event.{Event}
use Rattle.vrx_capture.specs.Line.{lines_of}
use Rattle.vrx_capture.specs.Reading.{Reading, reading}
use Rattle.vrx_capture.specs.declared.line.LineReason.{LineReason}
use Rattle.vrx_text.specs.declared.transcript.ErrorReason.{ErrorReason}
use Rattle.vrx_text.specs.declared.transcript.ErrorReason.TheVariants as errors
use Rattle.vrx_num.specs.declared.limits.TheConstants.{MOST_EVENTS}
use Rattle.vrx_program.specs.Outcome.{Outcome, refusal, status_of, error_text}
use Rattle.vrx_program.specs.declared.job.Unanswered.{Unanswered}
use Rattle.vrx_program.specs.declared.job.Unanswered.TheVariants as unanswered

-- an engine takes so many events at most, and so does each run
abbrev pub most_events : ℕ
most_events = MOST_EVENTS

-- what a word does with each event: its text, by the events before it, the newest first, and by the number of its
-- line. No word refuses an event
pub record Answering : Type 0 where
  pub text : List Event → ℕ → Event → List ℕ

-- the history after the events of these lines
abbrev pub history_after : List Event → List (ℕ × Event) → List Event
history_after h [] = h
history_after h ((k, event) ∷ lines) = history_after (event ∷ h) lines

-- the text of events that follow a history
unfoldable pub texts : Answering → List Event → List (ℕ × Event) → List ℕ
texts job h [] = []
texts job h ((k, event) ∷ lines) = job.text h k event ++ texts job (event ∷ h) lines

-- a bad line, with its reason
abbrev pub bad_line : ℕ × LineReason → ℕ × ErrorReason
bad_line (k, reason) = (k, errors.Line reason)

-- what a run gives if the lines after the first give this reading
abbrev pub reading_outcome : Answering → Reading → Outcome
reading_outcome job r = let bad : Option (ℕ × ErrorReason) = option_map bad_line r.bad in
    record { status = status_of bad; text = texts job [] r.events; last = error_text bad }

-- a first line begins a run: of each capture with this first line the run gives what the word does with the events of
-- the other lines
abbrev pub Begins : (List ℕ → Outcome) → List ℕ → Answering → Type 0
Begins outcome line job = (capture : List ℕ) (others : List (List ℕ)) → lines_of capture ≡ line ∷ others →
    outcome capture ≡ reading_outcome job (reading most_events 2 0 others)

-- a first line is refused, for this reason
abbrev pub IsRefused : (List ℕ → Outcome) → List ℕ → ErrorReason → Type 0
IsRefused outcome line reason =
    (capture : List ℕ) (others : List (List ℕ)) → lines_of capture ≡ line ∷ others → outcome capture ≡ refusal reason

-- why a word doesn't begin by a first line: the line is refused, or memory ran out
abbrev pub IfRefused : Unanswered → (ErrorReason → Type 0) → Type 0
IfRefused (unanswered.Refused reason) P = P reason
IfRefused unanswered.NoMemory P = Unit {0}
