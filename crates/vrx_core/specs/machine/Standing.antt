-- The runs that stand after a history: the whole frames among the available packets, beyond the last frame pulled.
use Rattle.std.specs.Prelude.{ℕ, Bool, List, Option}
use Rattle.std.specs.List.{filter, list_any}
use Rattle.vrx_codec.specs.Meaning.{Meaning}
use Rattle.vrx_frames.specs.Run.{Packets, Run, is_start, runs_by, stands, stands_after_end}
use Rattle.vrx_core.specs.machine.Told.{Told, place_told}

-- at the end of some event n and the number before were both available, and the number before ended a frame; times
-- are the packets available at the end of each event
abbrev pub began_after_end : List Packets → ℕ → Bool
began_after_end times n = list_any (stands_after_end n) times

-- the runs among these packets, if all numbers up to the front are passed, and these places were told
abbrev pub runs : Meaning → Told → List Packets → Option ℕ → Packets → List Run
runs codec told times front packets = runs_by codec (place_told told) (is_start front (began_after_end times)) packets

-- those that lie beyond the last frame pulled, whose last number this is
abbrev pub standing_of : Meaning → Told → List Packets → (front last : Option ℕ) → Packets → List Run
standing_of codec told times front last packets = filter (stands last) (runs codec told times front packets)
