-- The machine's clock is the history's.
use Rattle.std.specs.Prelude.{◌≡◌, List}
use Rattle.vrx_codec.specs.Meaning.{Meaning}
use Rattle.vrx_core.specs.machine.History.{now}
use Rattle.vrx_core.specs.machine.Machine.{latest, snapshots}
use Rattle.vrx_core.specs.declared.settings.Settings.{Settings}
use Rattle.vrx_core.specs.declared.event.Event.{Event}

-- after each history the machine's clock is the greatest moment of its events, whatever the settings and the codec
abbrev pub ClockHolds : Type 0
ClockHolds =
    (settings : Settings) (codec : Meaning) (h : List Event) → (latest (snapshots settings codec h)).now ≡ now h
