-- What is kept of the numbers told. No public clause cites this module.
use Rattle.std.specs.Prelude.{◌≡◌, ℕ, ◌-◌, Bool, true, false, ◌||◌, ◌==◌, if◌then◌else◌, List, map, Option, Some, None}
use Rattle.std.specs.List.{filter}
use Rattle.std.specs.Option.{option_map, option_map_or}
use Rattle.vrx_window.specs.Numbered.{Numbered, IsNumbered}
use Rattle.vrx_window.specs.Window.{at, in_window}
use Rattle.vrx_window.specs.declared.held.Held.{Held}
use Rattle.vrx_window.specs.declared.held.Held.TheVariants as helds
use Rattle.vrx_frames.specs.Completed.{Known}
use Rattle.vrx_frames.specs.Linked.{ends, ends_at}
use Rattle.vrx_frames.specs.declared.shape.Shape.{Shape}
use Rattle.vrx_frames.specs.declared.shape.Shape.TheVariants as shapes
use Rattle.vrx_frames.specs.declared.arrival.Arrival.{Arrival}

-- the shape of a held packet, by what is held beside its text
abbrev pub held_shape : Held → Shape
held_shape (helds.Media text marker ts start key layers) = shapes.Media ts marker start
held_shape (helds.Empty marker) = shapes.Other
held_shape (helds.Fec payload) = shapes.Other

-- a number told, with its shape, that isn't known to have stood after the end of a frame
abbrev pub fresh : Shape → Arrival
fresh shape = record { shape = shape; began = false }

-- what stands under each number once n was told with a shape: what stood there, of the window
abbrev pub arrival_with : ℕ → ℕ → Shape → List (ℕ × Arrival) → ℕ → Option Arrival
arrival_with newest n shape entries m =
    if m == n then Some (fresh shape) else (if in_window newest m then at m entries else None)

-- something stands under a number after which a frame begins
abbrev pub ends_in : (ℕ → Option Arrival) → ℕ → Bool
ends_in under n = option_map_or (λ told. ends told.shape) (under n) false

-- a number is remembered, if it stands after the end of a frame
abbrev pub remember_if : Bool → Arrival → Arrival
remember_if behind told = record { shape = told.shape; began = told.began || behind }

-- what stands under each number once n was told with a shape, and each number that then stands after the end of a
-- frame is remembered
abbrev pub settled_arrival : ℕ → ℕ → Shape → List (ℕ × Arrival) → ℕ → Option Arrival
settled_arrival newest n shape entries m =
    option_map (remember_if (ends_in (arrival_with newest n shape entries) (m - 1)))
    (arrival_with newest n shape entries m)

-- what is known, by what is kept
abbrev pub known_of : Option ℕ → Numbered Arrival → Known
known_of passed ring = record {
  arrivals = map (λ entry. (entry.0, entry.1.shape)) ring.entries;
  began = map (λ entry. entry.0) (filter (λ entry. entry.1.began) ring.entries);
  newest = ring.newest;
  passed = passed;
}

-- what always holds: each number that stands after the end of a frame is remembered
pub record IsKept (ring : Numbered Arrival) : Type 0 where
  pub numbered : IsNumbered ring
  pub settled : (n : ℕ) (told : Arrival) → at n ring.entries ≡ Some told → ends_at ring.entries (n - 1) ≡ true →
      told.began ≡ true
