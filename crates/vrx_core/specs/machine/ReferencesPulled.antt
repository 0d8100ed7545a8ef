-- A frame with layers goes out after each frame to which it refers.
use Rattle.std.specs.Prelude.{◌≡◌, ℕ, true, false, List, map, Some, IsSomeAnd}
use Rattle.vrx_codec.specs.Meaning.{Meaning}
use Rattle.vrx_codec.specs.declared.run.Place.{Place}
use Rattle.vrx_refs.specs.Laws.{is_among}
use Rattle.vrx_refs.specs.References.{references, was_pulled}
use Rattle.vrx_frames.specs.Run.{Run, summary_of}
use Rattle.vrx_core.specs.machine.Machine.{Snapshot, latest, next_run, snapshots}
use Rattle.vrx_core.specs.machine.Told.{sightings}
use Rattle.vrx_core.specs.declared.settings.Settings.{Settings}
use Rattle.vrx_core.specs.declared.event.Event.{Event}

-- it is known to what a place refers, by what was told and pulled, and each of these pictures was pulled
abbrev pub AllPulled : Snapshot → Place → Type 0
AllPulled s place = IsSomeAnd (references (sightings s.told) (map summary_of s.pulled) place)
    (λ found. (q : ℕ) → is_among q found ≡ true → was_pulled (map summary_of s.pulled) q ≡ true)

-- so it is of the frame that a pull gives after any history, if it has layers and isn't key
abbrev pub ReferencesPulledHolds : Type 0
ReferencesPulledHolds = (settings : Settings) (codec : Meaning) (h : List Event) (run : Run) (place : Place) →
    next_run (latest (snapshots settings codec h)) ≡ Some run → run.key ≡ false → run.layers ≡ Some place →
    AllPulled (latest (snapshots settings codec h)) place
