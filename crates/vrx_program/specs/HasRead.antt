-- What the reader of a capture has read.
use Rattle.std.specs.Prelude.{◌≡◌, ◌⊎◌, ℕ, ◌+◌, true, List, [], ◌∷◌, ◌++◌, length, Option, None}
use Rattle.vrx_io.specs.Source.{IsSpent}
use Rattle.vrx_core.specs.declared.event.Event.{Event}
use Rattle.vrx_capture.specs.Line.{lines_of}
use Rattle.vrx_capture.specs.Reading.{sound, reading}
use Rattle.vrx_capture.specs.Ahead.{ahead}
use Rattle.vrx_capture.specs.Reader.{Reader, AreWhole}

-- what a reader read of a source: the first line, and whole lines after it that give these events
pub record HasRead (max : ℕ) (before : Option (List ℕ)) (first : List ℕ) (reader : Reader) (left : Option (List ℕ))
    (events : List (ℕ × Event)) : Type 0 where
  -- the octets passed over, and the lines that they are
  pub gone : List ℕ
  pub others : List (List ℕ)
  pub source : before ≡ ahead (gone ++ reader.kept) left
  pub lines : lines_of gone ≡ first ∷ others
  pub gives : reading max 2 0 others ≡ sound events
  pub whole : AreWhole gone ⊎ ((reader.ended ≡ true) × (reader.kept ≡ []))
  pub end : reader.ended ≡ true → IsSpent left
  pub given : reader.given ≡ 1 + length others
  pub count : reader.events ≡ length events
  pub max_is : reader.max ≡ max
  pub bad : reader.bad ≡ None
