-- Passed numbers: those that no frame to come still needs.
use Rattle.std.specs.Prelude.{ℕ, zero, suc, ◌+◌, Bool, false, true, if◌then◌else◌, Option, Some, None, max}
use Rattle.std.specs.Option.{option_map_or}
use Rattle.vrx_num.specs.declared.limits.TheConstants.{WINDOW}
use Rattle.vrx_window.specs.Content.{Content, Media, Fec, Empty}
use Rattle.vrx_window.specs.Window.{at}
use Rattle.vrx_frames.specs.Run.{Packets}

abbrev pub is_no_media : Content → Bool
is_no_media (Media text) = false
is_no_media (Fec payload) = true
is_no_media Empty = true

-- the greatest number reached from a number over available numbers that are no media, without a gap, in at most so
-- many steps
abbrev pub reach_from : ℕ → ℕ → Packets → ℕ
reach_from zero from packets = from
reach_from (suc more) from packets =
    if option_map_or is_no_media (at (from + 1) packets) false then reach_from more (from + 1) packets else from

-- the front after an event: nothing is passed before the first frame is pulled. After it, all numbers are up to the
-- front before and up to the last number of the last frame pulled, and on over available numbers that are no media:
-- at most the 2,048 of the window
abbrev pub front_after : Option ℕ → Option ℕ → Packets → Option ℕ
front_after before None packets = None
front_after None (Some last) packets = Some (reach_from WINDOW last packets)
front_after (Some front) (Some last) packets = Some (reach_from WINDOW (max front last) packets)
