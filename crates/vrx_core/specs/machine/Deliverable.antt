-- What a pull answers.
use Rattle.std.specs.Prelude.{ℕ, Bool, ◌&&◌, nat_lt, if◌then◌else◌, List, [], ◌∷◌, filter, map, Option, Some, None}
use Rattle.vrx_refs.specs.References.{Judgement, judge}
use Rattle.vrx_buffer.specs.Frames.{is_ready}
use Rattle.vrx_frames.specs.Run.{Run, stands, summary_of}
use Rattle.vrx_core.specs.machine.Snapshot.{last_pulled}
use Rattle.vrx_core.specs.machine.Told.{Told, sightings}

-- how far a run is from being decoded: to which of the pictures that were told it refers, and which of them weren't
-- pulled yet
abbrev pub judged : Told → (pulled : List Run) → (front : Option ℕ) → Run → Judgement
judged told pulled front run = judge (sightings told) (map summary_of pulled) front (summary_of run)

-- a run is deliverable if it stands, and is ready: it refers to nothing, or to what is known and was pulled
abbrev pub is_deliverable : Told → (pulled : List Run) → (front : Option ℕ) → Run → Bool
is_deliverable told pulled front run = stands (last_pulled pulled) run && is_ready (judged told pulled front run)

-- the run with the lesser first number
abbrev pub lesser : Run → Option Run → Run
lesser run None = run
lesser run (Some other) = if nat_lt other.first run.first then other else run

-- the run with the least first number
abbrev pub least : List Run → Option Run
least [] = None
least (run ∷ runs) = Some (lesser run (least runs))

-- the answer: the deliverable run with the least first number
abbrev pub answer : Told → (pulled : List Run) → (front : Option ℕ) → List Run → Option Run
answer told pulled front runs = least (filter (is_deliverable told pulled front) runs)
