-- The lines of a capture, and what each says. A capture is octets: a line ends before a line feed, and what stands
-- after the last line feed is a line if it isn't empty.
use Rattle.std.specs.Prelude.{◌≡◌, ◌≤◌, ℕ, Bool, true, not, ◌&&◌, ◌||◌, ◌==◌, nat_lt, nat_le, if◌then◌else◌, List, [], ◌∷◌, length, drop, codes, Option, Some, None, is_some, is_none}
use Rattle.std.specs.List.{list_any, position_or_len}
use Rattle.std.specs.Option.{option_map}
use Rattle.std.specs.Result.{result_ok}
use Rattle.hex.specs.Hex.{decode_of}
use Rattle.vrx_core.specs.declared.event.Event.{Event}
use Rattle.vrx_core.specs.declared.event.Event.TheVariants.{Datagram, Tick, Pull}
use Rattle.vrx_capture.specs.Words.{after_prefix, until_space, after_space, number_in}
use Rattle.vrx_num.specs.OptionChain.{◌>>=◌}
use Rattle.vrx_capture.specs.declared.line.LineKind.{LineKind}
use Rattle.vrx_capture.specs.declared.line.LineKind.TheVariants.{Blank, Happens, Wrong}
use Rattle.vrx_capture.specs.declared.line.LineReason.{LineReason}
use Rattle.vrx_capture.specs.declared.line.LineReason.TheVariants.{Lines, Long, Kind, Events, Moment, End, Hex}

-- the place of the first line feed, or the length if there is none
abbrev pub feed_place : List ℕ → ℕ
feed_place octets = position_or_len (λ octet. octet == 10) octets

-- the lines with one more octet at the front of the first
abbrev pub with_octet : ℕ → List (List ℕ) → List (List ℕ)
with_octet octet [] = (octet ∷ []) ∷ []
with_octet octet (line ∷ lines) = (octet ∷ line) ∷ lines

-- the lines of a text; a line feed is 10
unfoldable pub lines_of : List ℕ → List (List ℕ)
lines_of [] = []
lines_of (octet ∷ octets) = if octet == 10 then [] ∷ lines_of octets else with_octet octet (lines_of octets)

-- how many lines a capture may have
abbrev pub most_lines : ℕ
most_lines = 2097152

-- the longest line that may be taken, in octets
abbrev pub longest_line : ℕ
longest_line = 20000

-- octets are a part of a line that may be taken yet: no line feed is among them, and they aren't too long
abbrev pub IsOpenLine : List ℕ → Type 0
IsOpenLine octets = (feed_place octets ≡ length octets) × (length octets ≤ longest_line)

-- the greatest moment that a line reports: twelve digits
abbrev pub latest_moment : ℕ
latest_moment = 999999999999

-- a line begins with these octets
abbrev pub begins : List ℕ → List ℕ → Bool
begins prefix line = is_some (after_prefix prefix line)

-- an empty line, and one that begins with #, say nothing
abbrev pub is_blank : List ℕ → Bool
is_blank [] = true
is_blank (octet ∷ octets) = begins (codes "#") (octet ∷ octets)

-- a line reports a datagram, a tick or a pull
abbrev pub is_datagram : List ℕ → Bool
is_datagram line = begins (codes "d ") line

abbrev pub is_tick : List ℕ → Bool
is_tick line = begins (codes "t ") line

abbrev pub is_pull : List ℕ → Bool
is_pull line = begins (codes "p ") line

-- a line reports an event
abbrev pub is_event : List ℕ → Bool
is_event line = is_datagram line || is_tick line || is_pull line

-- what an event line reports after its first letter and a space: MOMENT, or MOMENT and more
abbrev pub after_letter : List ℕ → List ℕ
after_letter line = drop 2 line

-- the moment that an event line reports, up to the next space or its end
abbrev pub moment_in : List ℕ → Option ℕ
moment_in line = number_in latest_moment (until_space (after_letter line))

-- something stands after the moment, a space at least; a space is 32
abbrev pub has_more : List ℕ → Bool
has_more line = list_any (λ octet. octet == 32) (after_letter line)

-- the octets of a datagram: two hexadecimal digits each, in either case, and at least one octet
abbrev pub some_octets : Option (List ℕ) → Option (List ℕ)
some_octets None = None
some_octets (Some []) = None
some_octets (Some (octet ∷ octets)) = Some (octet ∷ octets)

unfoldable pub octets_in : List ℕ → Option (List ℕ)
octets_in digits = some_octets (result_ok (decode_of digits))

-- the octets that a datagram's line reports after its moment and a space
abbrev pub bytes_in : List ℕ → Option (List ℕ)
bytes_in line = octets_in (after_space (after_letter line))

-- why an event line may be bad that is within the limits, in the order in which the reasons count
abbrev pub event_reasons : List ℕ → List (Bool × LineReason)
event_reasons line =
    (is_event line && is_none (moment_in line), Moment)
    ∷ ((is_tick line || is_pull line) && has_more line, End)
    ∷ (is_datagram line && is_none (bytes_in line), Hex)
    ∷ []

-- why line k may be bad, after `events` other event lines of at most `max`, in the order in which the reasons count
abbrev pub reasons : ℕ → ℕ → ℕ → List ℕ → List (Bool × LineReason)
reasons max k events line =
    (nat_lt most_lines k, Lines)
    ∷ (nat_lt longest_line (length line), Long)
    ∷ (not (is_blank line || is_event line), Kind)
    ∷ (is_event line && nat_le max events, Events)
    ∷ event_reasons line

-- the first reason that applies
abbrev pub first_reason : List (Bool × LineReason) → Option LineReason
first_reason [] = None
first_reason ((applies, reason) ∷ rows) = if applies then Some reason else first_reason rows

-- the event that a line reports at a moment; after the moment of a tick or a pull nothing stands
abbrev pub event_at : List ℕ → ℕ → Option Event
event_at line moment =
    if is_datagram line then option_map (λ bytes. Datagram moment bytes) (bytes_in line)
    else if has_more line then None
    else if is_tick line then Some (Tick moment)
    else if is_pull line then Some (Pull moment)
    else None

-- d MOMENT HEX is a datagram, t MOMENT a tick, and p MOMENT a pull
unfoldable pub event_in : List ℕ → Option Event
event_in line = do
  moment ← moment_in line
  event_at line moment

-- what a line says: that it is bad, for this reason; or its event; or nothing
abbrev pub kind_of : Option LineReason → Option Event → LineKind
kind_of (Some reason) event = Wrong reason
kind_of None (Some event) = Happens event
kind_of None None = Blank

-- what an event line says that is within the limits
unfoldable pub event_line : List ℕ → LineKind
event_line line = kind_of (first_reason (event_reasons line)) (event_in line)

-- what line k says, after this many event lines
unfoldable pub line_at : ℕ → ℕ → ℕ → List ℕ → LineKind
line_at max k events line = kind_of (first_reason (reasons max k events line)) (event_in line)
