-- How a run of the program over a capture ends.
use Rattle.std.specs.Prelude.{◌≡◌, ◌⊎◌, ◌≤◌, ℕ, length, List, [], ◌++◌, take, Option, Some, IfSome}
use Rattle.vrx_io.specs.Sink.{with_more, TakesShortPrefix}
use Rattle.vrx_capture.specs.Line.{longest_line}
use Rattle.vrx_capture.specs.Ahead.{ahead}
use Rattle.vrx_capture.specs.Reader.{AreWhole, HasNoFeed}
use Rattle.vrx_program.specs.Outcome.{Outcome, text_of_outcome}
use Rattle.vrx_program.specs.declared.status.Status.{Status}
use Rattle.vrx_program.specs.declared.status.Status.TheVariants as statuses

-- a sink took a part of a text, from its front, or all of it
abbrev pub TookPrefix : Option (List ℕ) → Option (List ℕ) → List ℕ → Type 0
TookPrefix before after text = (n : ℕ) × (after ≡ with_more before (take n text))

-- a sink took exactly the text of the whole lines that were read of a capture
pub record TookLines (outcome : List ℕ → Outcome) (capture : List ℕ)
    (before after left : Option (List ℕ)) : Type 0 where
  -- what was read: whole lines, and a part of a line after them
  pub lines : List ℕ
  pub part : List ℕ
  pub read : Some capture ≡ ahead (lines ++ part) left
  pub whole : AreWhole lines
  pub no_feed : HasNoFeed part
  -- none of the lines is refused, and the part isn't too long already
  pub right : (lines ≡ []) ⊎ ((outcome lines).status ≡ statuses.Done)
  pub short : length part ≤ longest_line
  pub took : after ≡ with_more before (outcome lines).text

-- how a run over a capture ends, which gives this outcome of each capture: what the sink took before and after it,
-- and what the source has left
abbrev pub Ends : (List ℕ → Outcome) → Status → List ℕ → Option (List ℕ) → Option (List ℕ) → Option (List ℕ) → Type 0
-- no line is refused: the sink took exactly the text, and the source has nothing left
Ends outcome statuses.Done capture before after left = ((outcome capture).status ≡ statuses.Done)
    × (after ≡ with_more before (text_of_outcome (outcome capture))) × (left ≡ Some [])
-- a line is refused: the sink took exactly the text, with the error line
Ends outcome statuses.BadCapture capture before after left =
    ((outcome capture).status ≡ statuses.BadCapture) × (after ≡ with_more before (text_of_outcome (outcome capture)))
-- a read failed: the sink took exactly the text of the whole lines read before
Ends outcome statuses.ReadFault capture before after left = TookLines outcome capture before after left
-- a write failed: the sink took a part of the text, and not all of it
Ends outcome statuses.WriteFault capture before after left =
    TakesShortPrefix before after (text_of_outcome (outcome capture))
-- memory ran out: the sink took a part of the text, or all of it
Ends outcome statuses.NoMemory capture before after left = TookPrefix before after (text_of_outcome (outcome capture))
Ends outcome statuses.BadUsage capture before after left = ⊥

-- how a run ends over this source and sink, if the source tells its bytes
abbrev pub EndsOver : (List ℕ → Outcome) → Status → Option (List ℕ) → Option (List ℕ) → Option (List ℕ) →
    Option (List ℕ) → Type 0
EndsOver outcome status source sink left taken =
    IfSome source (λ capture. Ends outcome status capture sink taken left)

-- how a run ends at a line that is refused, of which this text speaks
abbrev pub EndsBadly : Status → List ℕ → Option (List ℕ) → Option (List ℕ) → Type 0
EndsBadly statuses.BadCapture text before after = after ≡ with_more before text
EndsBadly statuses.WriteFault text before after = TakesShortPrefix before after text
EndsBadly statuses.NoMemory text before after = TookPrefix before after text
EndsBadly statuses.Done text before after = ⊥
EndsBadly statuses.BadUsage text before after = ⊥
EndsBadly statuses.ReadFault text before after = ⊥

-- how a run ends in the text of an event
abbrev pub EndsAmid : Status → List ℕ → Option (List ℕ) → Option (List ℕ) → Type 0
EndsAmid statuses.WriteFault text before after = TakesShortPrefix before after text
EndsAmid statuses.NoMemory text before after = TookPrefix before after text
EndsAmid statuses.Done text before after = ⊥
EndsAmid statuses.BadUsage text before after = ⊥
EndsAmid statuses.BadCapture text before after = ⊥
EndsAmid statuses.ReadFault text before after = ⊥
