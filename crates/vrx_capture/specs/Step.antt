-- One step of a reader: what it does with one line.
use Rattle.std.specs.Prelude.{◌≡◌, ℕ, ◌+◌, ◌<◌, ◌≤◌, nat_lt, if◌then◌else◌, List, [], drop, Option, Some, None, Result, Ok, Err}
use Rattle.vrx_capture.specs.Line.{most_lines}
use Rattle.vrx_capture.specs.Reading.{sound}
use Rattle.vrx_capture.specs.Reader.{Reader, says, Passes, IsNext}
use Rattle.vrx_capture.specs.Holding.{Holding}
use Rattle.vrx_capture.specs.declared.line.LineKind.{LineKind}
use Rattle.vrx_capture.specs.declared.line.LineKind.TheVariants.{Blank, Happens, Wrong}
use Rattle.vrx_capture.specs.declared.line.LineReason.{LineReason}
use Rattle.vrx_capture.specs.declared.line.LineReason.TheVariants.{Lines, Long}
use Rattle.vrx_capture.specs.declared.lines.Line.{Line}
use Rattle.vrx_capture.specs.declared.lines.Line.TheVariants as lines
use Rattle.vrx_capture.specs.declared.lines.LineFault.{LineFault}
use Rattle.vrx_capture.specs.declared.lines.LineFault.TheVariants as faults

-- a line that isn't wrong is within the limits
abbrev pub IsWithin : ℕ → ℕ → ℕ → LineKind → Type 0
IsWithin max k events Blank = k ≤ most_lines
IsWithin max k events (Happens event) = (k ≤ most_lines) × (events < max)
IsWithin max k events (Wrong reason) = Unit {0}

-- what a reader keeps
abbrev pub holding_of : Reader → Holding
holding_of reader = record { kept = reader.kept; ended = reader.ended }

-- a reader read on, and did nothing else
abbrev pub KeepsCounts : Reader → Reader → Type 0
KeepsCounts old new = new ≡ record old { kept = new.kept; ended = new.ended }

-- why a line is bad that is too long; that it is one too many counts first
abbrev pub long_reason : ℕ → LineReason
long_reason k = if nat_lt most_lines k then Lines else Long

-- a reader passed over a line of `len` octets with its line feed, which is so many event lines
abbrev pub after_passing : Reader → ℕ → ℕ → Reader
after_passing reader len count =
    record reader { kept = drop (len + 1) reader.kept; given = reader.given + 1; events = reader.events + count }

-- what a reader does with its next line, of `len` octets, which says this
abbrev pub IsTaken : Reader → LineKind → ℕ → Reader → Result (Option Line) LineFault → Type 0
IsTaken old kind len new (Ok None) = (kind ≡ Blank) × (new ≡ after_passing old len 0)
IsTaken old kind len new (Ok (Some (lines.Event k event))) =
    (kind ≡ Happens event) × (k ≡ old.given + 1) × (new ≡ after_passing old len 1) × (new.events ≤ new.max)
IsTaken old kind len new (Ok (Some lines.End)) = ⊥
IsTaken old kind len new (Err (faults.Bad k reason)) =
    (kind ≡ Wrong reason) × (k ≡ old.given + 1) × (new ≡ record old { bad = Some (k, reason) })
IsTaken old kind len new (Err faults.ReadFault) = ⊥
IsTaken old kind len new (Err faults.NoMemory) = new ≡ old

-- a reader passed over lines that say nothing
pub record GoesOn (old new : Reader) (before after : Option (List ℕ)) : Type 0 where
  pub passes : Passes old new before after
  pub nothing : says old passes.gone ≡ sound []
  pub events : new.events ≡ old.events
  pub bad : new.bad ≡ None

-- the answer to a step, which read its octets so: none if it passed over a line that says nothing
abbrev pub IsStep : (List ℕ → Type 0) → Reader → Reader → Option (List ℕ) → Option (List ℕ) →
    Result (Option Line) LineFault → Type 0
IsStep so old new before after (Ok None) = (goes : GoesOn old new before after) × so goes.passes.read
IsStep so old new before after (Ok (Some line)) =
    (passes : Passes old new before after) × IsNext old new passes.read passes.gone (Ok line) × so passes.read
IsStep so old new before after (Err fault) =
    (passes : Passes old new before after) × IsNext old new passes.read passes.gone (Err fault) × so passes.read
