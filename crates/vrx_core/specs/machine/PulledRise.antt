-- The frames pulled lie one after the other.
use Rattle.std.specs.Prelude.{◌<◌, ◌≤◌, List, [], ◌∷◌, IfSome}
use Rattle.vrx_codec.specs.Meaning.{Meaning}
use Rattle.vrx_frames.specs.Run.{Run}
use Rattle.vrx_core.specs.machine.Machine.{latest, last_pulled, snapshots}
use Rattle.vrx_core.specs.declared.settings.Settings.{Settings}
use Rattle.vrx_core.specs.declared.event.Event.{Event}

-- of frames pulled, the newest first: none ends before it begins, and each begins beyond the last number of the frame
-- pulled before it
abbrev pub Rise : List Run → Type 0
Rise [] = Unit {0}
Rise (run ∷ before) = (run.first ≤ run.last) × IfSome (last_pulled before) (λ last. last < run.first) × Rise before

-- the frames pulled rise, whatever the settings, the codec and the history
abbrev pub PulledRiseHolds : Type 0
PulledRiseHolds =
    (settings : Settings) (codec : Meaning) (h : List Event) → Rise (latest (snapshots settings codec h)).pulled
