-- What stands at the front of the octets that a reader keeps.
use Rattle.std.specs.Prelude.{◌≡◌, ◌⊎◌, ℕ, ◌<◌, ◌≤◌, Bool, true, List, [], length}
use Rattle.vrx_capture.specs.Line.{feed_place, longest_line}
use Rattle.vrx_capture.specs.declared.buffer.Found.{Found}
use Rattle.vrx_capture.specs.declared.buffer.Found.TheVariants.{Line, TooLong, End}

-- the first line is the first `len` octets kept; after it stands its line feed, or it is the last of its source
pub record IsFirstLine (kept : List ℕ) (ended : Bool) (len : ℕ) : Type 0 where
  pub place : len ≡ feed_place kept
  pub short : len ≤ longest_line
  pub whole : (len < length kept) ⊎ ((0 < len) × (ended ≡ true))

-- a find is right of these octets that are kept, with a source that was read to its end or not
abbrev pub IsFound : List ℕ → Bool → Found → Type 0
IsFound kept ended (Line len) = IsFirstLine kept ended len
IsFound kept ended TooLong = longest_line < feed_place kept
IsFound kept ended End = (kept ≡ []) × (ended ≡ true)
