-- How numbers told are linked to frames, as the search for runs sees them. No public clause cites this module.
use Rattle.std.specs.Prelude.{◌≡◌, ℕ, ◌-◌, ◌<◌, ◌≤◌, Bool, true, false, ◌&&◌, ◌||◌, not, ◌==◌, List, Option, Some, None}
use Rattle.std.specs.Option.{option_map, option_map_or, option_and_then}
use Rattle.vrx_window.specs.Window.{at}
use Rattle.vrx_frames.specs.Run.{begins, is_passed}
use Rattle.vrx_frames.specs.declared.search.Span.{Span}
use Rattle.vrx_frames.specs.declared.shape.Shape.{Shape}
use Rattle.vrx_frames.specs.declared.shape.Shape.TheVariants as shapes
use Rattle.vrx_frames.specs.declared.arrival.Fact.{Fact}
use Rattle.vrx_frames.specs.declared.arrival.Arrival.{Arrival}

-- a shape after which a frame begins: it has the marker, or is no media
abbrev pub ends : Shape → Bool
ends (shapes.Media ts marker start) = marker
ends shapes.Other = true

-- a number was told, and a frame begins after it
abbrev pub ends_at : List (ℕ × Arrival) → ℕ → Bool
ends_at entries n = option_map_or (λ told. ends told.shape) (at n entries) false

-- a number told that is media: its timestamp, its marker, and whether it is a start
abbrev pub fact_with : Option ℕ → ℕ → Bool → Shape → Option Fact
fact_with passed n began (shapes.Media ts marker start) =
    Some (record { ts = ts; marker = marker; starts = begins start (is_passed passed (n - 1) || began) })
fact_with passed n began shapes.Other = None

abbrev pub fact_of : Option ℕ → ℕ → Arrival → Option Fact
fact_of passed n told = fact_with passed n told.began told.shape

abbrev pub fact_at : Option ℕ → List (ℕ × Arrival) → ℕ → Option Fact
fact_at passed entries n = option_and_then (fact_of passed n) (at n entries)

-- a number told is a start
abbrev pub starts_at : Option ℕ → List (ℕ × Arrival) → ℕ → Bool
starts_at passed entries n = option_map_or (λ fact. fact.starts) (fact_at passed entries n) false

-- a number told has the marker
abbrev pub marker_at : Option ℕ → List (ℕ × Arrival) → ℕ → Bool
marker_at passed entries n = option_map_or (λ fact. fact.marker) (fact_at passed entries n) false

-- the second goes on the frame of the first
abbrev pub follows : Fact → Fact → Bool
follows a b = not a.marker && (a.ts == b.ts) && not b.starts

-- a number of a stretch that lies in one frame: it is told media of the frame's timestamp, no start after the first
-- number, and has no marker before the last
pub record Sits (facts : ℕ → Option Fact) (ts first last n : ℕ) : Type 0 where
  pub fact : Fact
  pub told : facts n ≡ Some fact
  pub ts_is : fact.ts ≡ ts
  pub later : first < n → fact.starts ≡ false
  pub earlier : n < last → fact.marker ≡ false

-- the numbers from first to last lie in one frame
pub record AreLinked (facts : ℕ → Option Fact) (ts first last : ℕ) : Type 0 where
  pub upto : first ≤ last
  pub each : (n : ℕ) → first ≤ n → n ≤ last → Sits facts ts first last n

-- a number is told media and a start, or has the marker
pub record IsStartOf (facts : ℕ → Option Fact) (n : ℕ) : Type 0 where
  pub fact : Fact
  pub told : facts n ≡ Some fact
  pub starts : fact.starts ≡ true

pub record IsEndOf (facts : ℕ → Option Fact) (n : ℕ) : Type 0 where
  pub fact : Fact
  pub told : facts n ≡ Some fact
  pub marker : fact.marker ≡ true

-- the numbers from first to last are a whole frame, but for the joining of its parts
pub record AreWhole (facts : ℕ → Option Fact) (ts first last : ℕ) : Type 0 where
  pub linked : AreLinked facts ts first last
  pub start : IsStartOf facts first
  pub end : IsEndOf facts last

-- no whole frame has this number
abbrev pub NoneHas : (ℕ → Option Fact) → ℕ → Type 0
NoneHas facts n = (ts first last : ℕ) → AreWhole facts ts first last → first ≤ n → n ≤ last → ⊥

-- the last number that is linked to a number on the way up
pub record IsReach (facts : ℕ → Option Fact) (ts n last : ℕ) : Type 0 where
  pub linked : AreLinked facts ts n last
  pub most : (other m : ℕ) → AreLinked facts other n m → m ≤ last

-- what a search found for a number: a whole frame that begins beyond the passed numbers
abbrev pub SpanFound : (ℕ → Option Fact) → Option ℕ → ℕ → Option Span → Type 0
SpanFound facts passed n None =
    (ts first last : ℕ) → AreWhole facts ts first last → first ≤ n → n ≤ last → is_passed passed first ≡ true
SpanFound facts passed n (Some span) = AreWhole facts span.ts span.first span.last × (span.first ≤ n)
    × (n ≤ span.last) × (is_passed passed span.first ≡ false)

-- what stands under each number once n is remembered, if it stands after the end of a frame
abbrev pub after_remembering : ℕ → List (ℕ × Arrival) → ℕ → Option Arrival
after_remembering n entries m =
    option_map (λ told. record { shape = told.shape; began = told.began || ((m == n) && ends_at entries (n - 1)) })
    (at m entries)
