-- How a capture is read after its settings line.
use Rattle.std.specs.Prelude.{ℕ, ◌+◌, List, [], ◌∷◌, Option, Some, None}
use Rattle.vrx_core.specs.declared.event.Event.{Event}
use Rattle.vrx_capture.specs.Line.{line_at}
use Rattle.vrx_capture.specs.declared.line.LineKind.{LineKind}
use Rattle.vrx_capture.specs.declared.line.LineKind.TheVariants.{Blank, Happens, Wrong}
use Rattle.vrx_capture.specs.declared.line.LineReason.{LineReason}

-- what lines give: the events in order, each with the number of its line, up to the first bad line; and the number
-- of that line with its reason, if there is one
pub record Reading : Type 0 where
  pub events : List (ℕ × Event)
  pub bad : Option (ℕ × LineReason)

-- these events, and no bad line
abbrev pub sound : List (ℕ × Event) → Reading
sound events = record { events = events; bad = None }

-- no event, since line k is bad
abbrev pub bad_at : ℕ × LineReason → Reading
bad_at bad = record { events = []; bad = Some bad }

-- how many event lines a line is
abbrev pub event_count : LineKind → ℕ
event_count Blank = 0
event_count (Wrong reason) = 0
event_count (Happens event) = 1

-- what line k, which says this, gives with the lines after it
abbrev pub with_line : ℕ → LineKind → Reading → Reading
with_line k Blank rest = rest
with_line k (Wrong reason) rest = bad_at (k, reason)
with_line k (Happens event) rest = record { events = (k, event) ∷ rest.events; bad = rest.bad }

-- what lines give, the first of them with the number k, after this many event lines; a capture has at most `max` of
-- these
unfoldable pub reading : ℕ → ℕ → ℕ → List (List ℕ) → Reading
reading max k events [] = sound []
reading max k events (line ∷ lines) = let kind : LineKind = line_at max k events line in
    with_line k kind (reading max (k + 1) (events + event_count kind) lines)
