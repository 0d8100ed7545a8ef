-- Captures without a first line that may be taken.
use Rattle.std.specs.Prelude.{◌≡◌, ℕ, List, []}
use Rattle.vrx_capture.specs.Line.{lines_of}
use Rattle.vrx_capture.specs.Reader.{HasNoHead}
use Rattle.vrx_text.specs.declared.transcript.ErrorReason.TheVariants as errors
use Rattle.vrx_program.specs.Outcome.{Outcome, refusal}

-- a run refuses a capture that has no first line, or one that is too long; and of no octets it writes nothing before the
-- error line
pub record RefusesHeads (outcome : List ℕ → Outcome) : Type 0 where
  pub refuses : (capture : List ℕ) → HasNoHead (lines_of capture) → outcome capture ≡ refusal errors.Settings
  pub nothing : (outcome []).text ≡ []
