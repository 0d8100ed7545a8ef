-- A reader of a capture, as its contracts see it, and what its calls answer. Each call passes over some lines, and
-- its answer is what these lines say: so in what pieces the source gives its octets never matters.
use Rattle.std.specs.Prelude.{◌≡◌, ◌⊎◌, ℕ, ◌+◌, ◌<◌, ◌≤◌, Bool, true, false, List, [], ◌∷◌, ◌++◌, length, Option, Some, None, Result, Ok, Err}
use Rattle.std.specs.Option.{option_map_or}
use Rattle.vrx_io.specs.Source.{IsSpent}
use Rattle.vrx_capture.specs.Line.{feed_place, lines_of, longest_line, most_lines, IsOpenLine}
use Rattle.vrx_capture.specs.Reading.{Reading, sound, bad_at, reading}
use Rattle.vrx_capture.specs.Ahead.{ahead}
use Rattle.vrx_capture.specs.declared.line.LineReason.{LineReason}
use Rattle.vrx_capture.specs.declared.lines.Line.{Line}
use Rattle.vrx_capture.specs.declared.lines.Line.TheVariants as lines
use Rattle.vrx_capture.specs.declared.lines.LineFault.{LineFault}
use Rattle.vrx_capture.specs.declared.lines.LineFault.TheVariants as faults
use Rattle.vrx_capture.specs.declared.lines.HeadFault.{HeadFault}
use Rattle.vrx_capture.specs.declared.lines.HeadFault.TheVariants as heads

-- a reader: the octets that it read and didn't pass over yet; whether its source was read to its end; how many lines
-- it passed over, and how many event lines it gave; how many of these it may give; and the bad line with its reason,
-- once it met one
pub record Reader : Type 0 where
  pub kept : List ℕ
  pub ended : Bool
  pub given : ℕ
  pub events : ℕ
  pub max : ℕ
  pub bad : Option (ℕ × LineReason)

-- before the first line
abbrev pub opening : ℕ → Reader
opening max = record { kept = []; ended = false; given = 0; events = 0; max = max; bad = None }

-- what lines say to a reader as the next ones; after a bad line they say only that
abbrev pub says : Reader → List ℕ → Reading
says reader octets =
    option_map_or bad_at reader.bad (reading reader.max (reader.given + 1) reader.events (lines_of octets))

-- octets are whole lines: there are none, or the last is a line feed
abbrev pub AreWhole : List ℕ → Type 0
AreWhole octets = (octets ≡ []) ⊎ ((front : List ℕ) × (octets ≡ front ++ 10 ∷ []))

-- no line feed is among octets
abbrev pub HasNoFeed : List ℕ → Type 0
HasNoFeed octets = feed_place octets ≡ length octets

-- octets may follow, or none do if the source was read to its end
abbrev pub MayFollow : Reader → List ℕ → Type 0
MayFollow reader octets = reader.ended ≡ true → octets ≡ []

-- what a call did: it read some octets, and passed over some lines, of those that it kept and those that it read
pub record Passes (old new : Reader) (before after : Option (List ℕ)) : Type 0 where
  pub read : List ℕ
  pub gone : List ℕ
  -- the source gave these octets, and was read to its end if the reader says so
  pub source : before ≡ ahead read after
  pub end : new.ended ≡ true → (old.ended ≡ true) ⊎ IsSpent after
  -- after the end nothing is read
  pub stays : old.ended ≡ true → (new.ended ≡ true) × (read ≡ [])
  pub octets : old.kept ++ read ≡ gone ++ new.kept
  -- whole lines are passed over; the last line of a source needs no line feed
  pub whole : AreWhole gone ⊎ ((new.ended ≡ true) × (new.kept ≡ []))
  pub given : new.given ≡ old.given + length (lines_of gone)
  pub max : new.max ≡ old.max

-- all that may follow what a reader keeps says that this line is bad
abbrev pub AllSayBad : Reader → Reader → List ℕ → ℕ × LineReason → Type 0
AllSayBad old new octets bad = (more : List ℕ) → MayFollow new more → says old (octets ++ more) ≡ bad_at bad

-- the answer to a call for the next event, if the reader read these octets and passed over these lines
abbrev pub IsNext : Reader → Reader → List ℕ → List ℕ → Result Line LineFault → Type 0
-- an event: the lines say it, and nothing else
IsNext old new read gone (Ok (lines.Event k event)) = (says old gone ≡ sound ((k, event) ∷ []))
    × (new.events ≡ old.events + 1) × (new.events ≤ new.max) × (new.bad ≡ None)
-- the end: the lines say nothing, no octet is kept, and the source was read to its end
IsNext old new read gone (Ok lines.End) =
    (says old gone ≡ sound []) × (new.kept ≡ []) × (new.ended ≡ true) × (new.events ≡ old.events) × (new.bad ≡ None)
-- a bad line: the octets say it, whatever follows them
IsNext old new read gone (Err (faults.Bad k reason)) =
    AllSayBad old new (old.kept ++ read) (k, reason) × (new.events ≡ old.events) × (new.bad ≡ Some (k, reason))
-- a failed read: the lines say nothing, and no whole line is kept, but a part of one that may be taken yet
IsNext old new read gone (Err faults.ReadFault) = (says old gone ≡ sound []) × HasNoFeed new.kept
    × (new.ended ≡ false) × (new.events ≡ old.events) × (new.bad ≡ None) × (length new.kept ≤ longest_line)
-- out of memory: the lines say nothing
IsNext old new read gone (Err faults.NoMemory) =
    (says old gone ≡ sound []) × (new.events ≡ old.events) × (new.bad ≡ None)

-- octets that a reader kept and read are whole lines that say nothing, and a part of a line that may be taken yet
pub record SayNothing (reader : Reader) (octets : List ℕ) : Type 0 where
  pub lines : List ℕ
  pub part : List ℕ
  pub are : octets ≡ lines ++ part
  pub whole : AreWhole lines
  pub short : IsOpenLine part
  pub nothing : says reader lines ≡ sound []

-- there is no line, or none that may be taken
abbrev pub HasNoHead : List (List ℕ) → Type 0
HasNoHead [] = Unit {0}
HasNoHead (line ∷ lines) = longest_line < length line

-- the answer to a call for the next line as it stands, if the reader read these octets and passed over these lines
abbrev pub IsHead : Reader → Reader → List ℕ → List ℕ → Option (List ℕ) → Type 0
-- a line: it was passed over
IsHead old new read gone (Some line) = (lines_of gone ≡ line ∷ []) × (length line ≤ longest_line)
-- none: no line is left, or the next is too long, or so many were given already that it has no number; it is the next
-- still
IsHead old new read gone None = (gone ≡ [])
    × (old.given < most_lines → (more : List ℕ) → MayFollow new more →
    HasNoHead (lines_of (old.kept ++ read ++ more)))

-- a failed read, or out of memory: no line was passed over; and after a failed read no whole line is kept, but a
-- part of one that may be taken yet
abbrev pub IsHeadFault : Reader → List ℕ → HeadFault → Type 0
IsHeadFault new gone heads.ReadFault =
    (gone ≡ []) × HasNoFeed new.kept × (new.ended ≡ false) × (length new.kept ≤ longest_line)
IsHeadFault new gone heads.NoMemory = gone ≡ []
