-- What has happened. A history is a list of events, the newest first.
use Rattle.std.specs.Prelude.{ℕ, List, [], ◌∷◌, max}
use Rattle.vrx_core.specs.declared.event.Event.{Event}
use Rattle.vrx_core.specs.declared.event.Event.TheVariants.{Datagram, Tick, Pull}

abbrev pub moment_of : Event → ℕ
moment_of (Datagram moment bytes) = moment
moment_of (Tick moment) = moment
moment_of (Pull moment) = moment

-- the clock: the greatest moment of the events. Moments may go back, it doesn't
abbrev pub now : List Event → ℕ
now [] = 0
now (e ∷ h) = max (now h) (moment_of e)
