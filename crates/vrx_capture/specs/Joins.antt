-- How what is read of a text and of the text after it join.
use Rattle.std.specs.Prelude.{◌≡◌, ◌≢◌, ℕ, ◌+◌, List, [], ◌∷◌, ◌++◌, length}
use Rattle.vrx_core.specs.declared.event.Event.{Event}
use Rattle.vrx_capture.specs.Line.{lines_of}
use Rattle.vrx_capture.specs.Reading.{Reading, sound, reading}
use Rattle.vrx_capture.specs.Reader.{AreWhole, HasNoFeed}

-- the lines of whole lines and of what stands after them are the lines of both
abbrev pub LinesJoin : Type 0
LinesJoin = (octets more : List ℕ) → AreWhole octets → lines_of (octets ++ more) ≡ lines_of octets ++ lines_of more

-- octets without a line feed, ended by one, are one line; so are such octets at the end of a text, if there are any
abbrev pub OneLine : Type 0
OneLine = (line : List ℕ) → HasNoFeed line → lines_of (line ++ 10 ∷ []) ≡ line ∷ []

abbrev pub LastLine : Type 0
LastLine = (line : List ℕ) → HasNoFeed line → line ≢ [] → lines_of line ≡ line ∷ []

-- events, and then what others give
abbrev pub behind_events : List (ℕ × Event) → Reading → Reading
behind_events events rest = record { events = events ++ rest.events; bad = rest.bad }

-- lines with no bad one and lines after them give the events of the first, and then what the others give, with the
-- numbers and after the event lines that follow
abbrev pub ReadingsJoin : Type 0
ReadingsJoin = (max k events : ℕ) (lines more : List (List ℕ)) (given : List (ℕ × Event)) →
    reading max k events lines ≡ sound given →
    reading max k events (lines ++ more) ≡ behind_events given
    (reading max (k + length lines) (events + length given) more)
