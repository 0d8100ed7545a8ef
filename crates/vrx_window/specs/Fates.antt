-- How a ring of fates stands for a window. No public clause cites this module.
use Rattle.std.specs.Prelude.{ℕ, List, map, Option, Some, None}
use Rattle.std.specs.List.{filter_map}
use Rattle.std.specs.Option.{option_map}
use Rattle.vrx_window.specs.declared.fate.Fate.{Fate}
use Rattle.vrx_window.specs.declared.fate.Fate.TheVariants.{Taken, GivenUp}
use Rattle.vrx_window.specs.declared.held.Held.{Held}
use Rattle.vrx_window.specs.Numbered.{Numbered}
use Rattle.vrx_window.specs.Window.{Contents}

-- the packet held
abbrev pub packet_of : Fate → Option Held
packet_of (Taken held) = Some held
packet_of GivenUp = None

-- a mark, if the number was given up
abbrev pub mark_of : Fate → Option (Unit {0})
mark_of (Taken held) = None
mark_of GivenUp = Some tt

-- the entries of whose values f gives something, with what it gives
abbrev pub entries_by : {X Y : Type 0} → (X → Option Y) → List (ℕ × X) → List (ℕ × Y)
entries_by f entries = filter_map (λ entry. option_map (λ y. (entry.0, y)) (f entry.1)) entries

-- the numbers of a map
abbrev pub numbers_of : {X : Type 0} → List (ℕ × X) → List ℕ
numbers_of entries = map (λ entry. entry.0) entries

-- the window that the fates show
abbrev pub window_of : Option ℕ → Numbered Fate → Contents Held
window_of first ring = record {
  newest = ring.newest;
  first = first;
  packets = entries_by packet_of ring.entries;
  dead = numbers_of (entries_by mark_of ring.entries);
}
