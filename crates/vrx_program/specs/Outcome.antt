-- What a run of the program over a capture gives.
use Rattle.std.specs.Prelude.{ℕ, List, [], ◌++◌, Option, Some, None}
use Rattle.vrx_text.specs.Transcript.{error_line}
use Rattle.vrx_text.specs.declared.transcript.ErrorReason.{ErrorReason}
use Rattle.vrx_program.specs.declared.status.Status.{Status}
use Rattle.vrx_program.specs.declared.status.Status.TheVariants.{Done, BadCapture}

-- how a run ends if nothing fails: its status, the text of the events, and the error line, if there is one
pub record Outcome : Type 0 where
  pub status : Status
  pub text : List ℕ
  pub last : List ℕ

-- the whole text
abbrev pub text_of_outcome : Outcome → List ℕ
text_of_outcome outcome = outcome.text ++ outcome.last

-- Done if no line is refused
abbrev pub status_of : Option (ℕ × ErrorReason) → Status
status_of None = Done
status_of (Some bad) = BadCapture

-- the last line, if a line is refused
abbrev pub error_text : Option (ℕ × ErrorReason) → List ℕ
error_text None = []
error_text (Some (k, reason)) = error_line k reason

-- the first line is refused: no text stands before the error line
abbrev pub refusal : ErrorReason → Outcome
refusal reason = record { status = BadCapture; text = []; last = error_line 1 reason }
