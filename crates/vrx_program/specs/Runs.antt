-- A run in the middle, and what of the source it has read.
use Rattle.std.specs.Prelude.{◌≡◌, ◌⊎◌, ℕ, List, [], ◌∷◌, ◌++◌, Option, Some, None}
use Rattle.vrx_io.specs.Sink.{with_more}
use Rattle.vrx_io.specs.Reads.{ReadsSo}
use Rattle.vrx_core.specs.declared.event.Event.{Event}
use Rattle.vrx_capture.specs.Line.{IsOpenLine}
use Rattle.vrx_capture.specs.Ahead.{ahead}
use Rattle.vrx_capture.specs.Reader.{Reader, AreWhole}
use Rattle.vrx_program.specs.HasRead.{HasRead}
use Rattle.vrx_program.specs.Outcome.{Outcome}
use Rattle.vrx_program.specs.Job.{Answering, most_events, history_after, texts, Begins}
use Rattle.vrx_program.specs.Ends.{EndsOver, EndsAmid}
use Rattle.vrx_program.specs.declared.status.Status.{Status}
use Rattle.vrx_program.specs.declared.status.Status.TheVariants as statuses

-- octets are whole lines, none of which is refused, and a part of a line that may be taken yet; and the sink took the
-- text of these lines, and maybe more
pub record IsWritten (outcome : List ℕ → Outcome) (before after : Option (List ℕ)) (octets : List ℕ) : Type 0 where
  pub lines : List ℕ
  pub part : List ℕ
  pub are : octets ≡ lines ++ part
  pub whole : AreWhole lines
  pub short : IsOpenLine part
  pub right : (lines ≡ []) ⊎ ((outcome lines).status ≡ statuses.Done)
  pub more : List ℕ
  pub wrote : after ≡ with_more before ((outcome lines).text ++ more)

-- what a run read of its source: these octets, in one read after the other; and each read was made only once the text of
-- every whole line read until then was written, and none of these lines was refused
pub record ReadsInStep {S : Type 0} (outcome : List ℕ → Outcome) (is_read : S → List ℕ → S → Type 0)
    (left : S → Option (List ℕ)) (old new : S) (before after : Option (List ℕ)) : Type 0 where
  pub read : List ℕ
  pub source : left old ≡ ahead read (left new)
  pub reads : ReadsSo is_read (IsWritten outcome before after) [] old new read

-- a run in the middle: the first line began it, the reader read some events, the word answered them, and the sink took
-- their text
pub record IsRunning {S : Type 0} (outcome : List ℕ → Outcome) (job : Answering) (answers : List Event → Type 0)
    (is_read : S → List ℕ → S → Type 0) (left : S → Option (List ℕ)) (start now : S) (before after : Option (List ℕ))
    (reader : Reader) : Type 0 where
  pub first : List ℕ
  pub begins : Begins outcome first job
  pub events : List (ℕ × Event)
  pub read : HasRead most_events (left start) first reader (left now) events
  pub history : answers (history_after [] events)
  pub wrote : after ≡ with_more before (texts job [] events)
  pub reads : ReadsSo is_read (IsWritten outcome before after) [] start now (read.gone ++ reader.kept)

-- how a run ends that began over this source and this sink: by its status, and by what it read
pub record IsOver {S : Type 0} (outcome : List ℕ → Outcome) (is_read : S → List ℕ → S → Type 0)
    (left : S → Option (List ℕ)) (start now : S) (before after : Option (List ℕ)) (status : Status) : Type 0 where
  pub ends : EndsOver outcome status (left start) before (left now) after
  pub in_step : ReadsInStep outcome is_read left start now before after

-- what becomes of a run at an event of line k after a history: the word answered it, and the sink took the text; or the
-- run ends in the text
abbrev pub IsAnswered : Answering → (List Event → Type 0) → List Event → ℕ → Event → Option Status → Option (List ℕ) →
    Option (List ℕ) → Type 0
IsAnswered job answers h k event None before after =
    answers (event ∷ h) × (after ≡ with_more before (job.text h k event))
IsAnswered job answers h k event (Some status) before after = EndsAmid status (job.text h k event) before after
