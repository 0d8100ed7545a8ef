-- What the event lines of a capture mean, as relations between their octets and what they report.
use Rattle.std.specs.Prelude.{◌≡◌, ◌≢◌, ◌⊎◌, ℕ, ◌<◌, ◌≤◌, ◌==◌, true, List, [], ◌++◌, length, drop, codes, Ok}
use Rattle.std.specs.List.{list_any}
use Rattle.std.specs.Fmt.{decimal}
use Rattle.hex.specs.Hex.{decode_of}
use Rattle.vrx_capture.specs.Line.{most_lines, longest_line, latest_moment}
use Rattle.vrx_capture.specs.declared.line.LineReason.{LineReason}
use Rattle.vrx_capture.specs.declared.line.LineReason.TheVariants.{Lines, Long, Kind, Events, Moment, End, Hex}

-- d MOMENT HEX: some octets came at this moment
pub record IsDatagramLine (line : List ℕ) (m : ℕ) (octets : List ℕ) : Type 0 where
  pub digits : List ℕ
  pub spelled : line ≡ codes "d " ++ decimal m ++ codes " " ++ digits
  pub hex : decode_of digits ≡ Ok octets
  pub some : octets ≢ []
  pub moment : m ≤ latest_moment

-- a line begins with these octets
abbrev pub BeginsWith : List ℕ → List ℕ → Type 0
BeginsWith prefix line = (rest : List ℕ) × (line ≡ prefix ++ rest)

-- a line is empty, or a comment
abbrev pub IsBlankLine : List ℕ → Type 0
IsBlankLine line = (line ≡ []) ⊎ BeginsWith (codes "#") line

-- a line begins as that of a tick or a pull, after whose moment nothing may stand
abbrev pub BeginsAlone : List ℕ → Type 0
BeginsAlone line = BeginsWith (codes "t ") line ⊎ BeginsWith (codes "p ") line

-- a line begins as that of an event
abbrev pub BeginsEvent : List ℕ → Type 0
BeginsEvent line = BeginsWith (codes "d ") line ⊎ BeginsAlone line

-- octets hold a space, which is 32
abbrev pub HasSpace : List ℕ → Type 0
HasSpace octets = list_any (λ octet. octet == 32) octets ≡ true

-- after its letter and a space a line reports this moment: its decimal digits, and then the line ends or a space
-- follows
pub record TellsMoment (line : List ℕ) (m : ℕ) : Type 0 where
  pub rest : List ℕ
  pub spelled : drop 2 line ≡ decimal m ++ rest
  pub ends : (rest ≡ []) ⊎ BeginsWith (codes " ") rest
  pub bound : m ≤ latest_moment

-- after its letter, a space, a word and a space a line reports these octets, one or more: two hexadecimal digits each
pub record TellsOctets (line octets : List ℕ) : Type 0 where
  pub word : List ℕ
  pub digits : List ℕ
  pub spelled : drop 2 line ≡ word ++ codes " " ++ digits
  pub plain : HasSpace word → ⊥
  pub hex : decode_of digits ≡ Ok octets
  pub some : octets ≢ []

-- line k, after this many event lines of at most `max`, is bad for a reason, whether or not for an earlier one too
abbrev pub IsBad : ℕ → ℕ → ℕ → List ℕ → LineReason → Type 0
IsBad max k events line Lines = most_lines < k
IsBad max k events line Long = longest_line < length line
IsBad max k events line Kind = (IsBlankLine line ⊎ BeginsEvent line) → ⊥
IsBad max k events line Events = BeginsEvent line × (max ≤ events)
IsBad max k events line Moment = BeginsEvent line × ((m : ℕ) → TellsMoment line m → ⊥)
IsBad max k events line End = BeginsAlone line × HasSpace (drop 2 line)
IsBad max k events line Hex = BeginsWith (codes "d ") line × ((octets : List ℕ) → TellsOctets line octets → ⊥)

-- the place of a reason in the order in which the reasons count
abbrev pub rank : LineReason → ℕ
rank Lines = 0
rank Long = 1
rank Kind = 2
rank Events = 3
rank Moment = 4
rank End = 5
rank Hex = 6

-- line k is bad for this reason, and for none that counts before it
abbrev pub IsFirstReason : ℕ → ℕ → ℕ → List ℕ → LineReason → Type 0
IsFirstReason max k events line reason = IsBad max k events line reason
    × ((other : LineReason) → rank other < rank reason → IsBad max k events line other → ⊥)
