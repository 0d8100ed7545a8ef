-- Which runs one number more completes.
use Rattle.std.specs.Prelude.{◌≡◌, ◌⊎◌, ℕ, ◌≤◌, Bool, true, ◌==◌, ◌||◌, List, [], map, Contains, Option, Some, None, IsSomeAnd}
use Rattle.std.specs.List.{list_any, filter}
use Rattle.std.specs.Option.{option_map, option_map_or}
use Rattle.std.specs.Ordering.{nat_cmp}
use Rattle.std.specs.FinMap.Entries.{put, where_key}
use Rattle.vrx_codec.specs.Meaning.{Meaning}
use Rattle.vrx_codec.specs.declared.run.Place.{Place}
use Rattle.vrx_codec.specs.declared.run.Run.{Run as RunSummary}
use Rattle.vrx_window.specs.Window.{at, is_available, is_inside}
use Rattle.vrx_frames.specs.Run.{Packets, Run, is_start, stands_after_end, runs_by, stands, summary_of}
use Rattle.vrx_frames.specs.Shape.{shape_of}
use Rattle.vrx_frames.specs.declared.shape.Shape.{Shape}
use Rattle.vrx_frames.specs.declared.shape.Shape.TheVariants as shapes

-- what was told: the numbers that are in the window, each with its shape, in their order; those of them that ever
-- stood right after the end of a frame, in their order; and the newest and the passed number of the last call
pub record Known : Type 0 where
  pub arrivals : List (ℕ × Shape)
  pub began : List ℕ
  pub newest : Option ℕ
  pub passed : Option ℕ

-- nothing was told
abbrev pub nothing_known : Known
nothing_known = record { arrivals = []; began = []; newest = None; passed = None }

-- a number is among others
abbrev pub is_among : List ℕ → ℕ → Bool
is_among numbers n = list_any (λ k. n == k) numbers

-- the packets under numbers told
abbrev pub packets_under : List (ℕ × Shape) → Packets → Packets
packets_under told packets = where_key nat_cmp (λ n. is_available n told) packets

-- the packets that are known
abbrev pub known_packets : Known → Packets → Packets
known_packets k packets = packets_under k.arrivals packets

-- the shape of what is available under a number
abbrev pub shape_at : Meaning → ℕ → Packets → Shape
shape_at codec n packets = option_map_or (shape_of codec) (at n packets) shapes.Other

-- What is known once n is told too. Of the numbers told before those stay that are in the window, and each number
-- that now stands right after the end of a frame is remembered.
abbrev pub known_with : Meaning → Option ℕ → ℕ → Option ℕ → Packets → Known → Known
known_with codec newest n passed packets k =
    record {
      arrivals = told;
      began = filter began (map (λ entry. entry.0) told);
      newest = newest;
      passed = passed;
    } where
      told : List (ℕ × Shape)
      told = put nat_cmp n (shape_at codec n packets) (where_key nat_cmp (is_inside newest) k.arrivals)

      began : ℕ → Bool
      began m = is_among k.began m || stands_after_end m (packets_under told packets)

-- the runs that stand beyond the passed numbers, of what is known
abbrev pub standing_runs : Meaning → (ℕ → Option Place) → Option ℕ → Known → Packets → List Run
standing_runs codec place passed k packets =
    filter (stands passed) (runs_by codec place (is_start passed (is_among k.began)) (known_packets k packets))

-- what one number more completes, of the runs that stood before it was told and those that stand after: each of those
-- after stood before or is answered, and not both; only such are answered; and none is lost
pub record Completes (before after : List Run) (answers : List RunSummary) : Type 0 where
  pub either : (run : Run) → Contains after run → Contains before run ⊎ Contains answers (summary_of run)
  pub not_both : (run : Run) → Contains after run → Contains before run → Contains answers (summary_of run) → ⊥
  pub only : (told : RunSummary) → Contains answers told → (run : Run) × Contains after run × (summary_of run ≡ told)
  pub stay : (run : Run) → Contains before run → Contains after run

-- a number, if there is one, isn't above the other
abbrev pub IsUpTo : Option ℕ → Option ℕ → Type 0
IsUpTo None later = Unit {0}
IsUpTo (Some earlier) later = IsSomeAnd later (λ n. earlier ≤ n)

-- each number told that is still in the window has a packet of the shape that it had
abbrev pub AreStill : Meaning → Option ℕ → Packets → List (ℕ × Shape) → Type 0
AreStill codec newest packets told = (n : ℕ) (shape : Shape) → at n told ≡ Some shape → is_inside newest n ≡ true →
    option_map (shape_of codec) (at n packets) ≡ Some shape
