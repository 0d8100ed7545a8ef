-- What the lines of a capture give, by what each of them is: which are good, and which is the first bad one.
use Rattle.std.specs.Prelude.{◌≡◌, ◌⊎◌, ℕ, ◌+◌, ◌<◌, ◌≤◌, List, [], ◌∷◌, ◌++◌, length, codes}
use Rattle.std.specs.Fmt.{decimal}
use Rattle.vrx_core.specs.declared.event.Event.{Event}
use Rattle.vrx_core.specs.declared.event.Event.TheVariants.{Datagram, Tick, Pull}
use Rattle.vrx_capture.specs.Line.{most_lines, longest_line, latest_moment}
use Rattle.vrx_capture.specs.IsLine.{IsDatagramLine, IsBlankLine, IsFirstReason}
use Rattle.vrx_capture.specs.declared.line.LineReason.{LineReason}

-- a line is spelled as that of an event
abbrev pub Tells : List ℕ → Event → Type 0
Tells line (Datagram m octets) = IsDatagramLine line m octets
Tells line (Tick m) = (line ≡ codes "t " ++ decimal m) × (m ≤ latest_moment)
Tells line (Pull m) = (line ≡ codes "p " ++ decimal m) × (m ≤ latest_moment)

-- line k says nothing, within the limits
abbrev pub SaysNothing : ℕ → List ℕ → Type 0
SaysNothing k line = (k ≤ most_lines) × (length line ≤ longest_line) × IsBlankLine line

-- line k reports an event, within the limits, after this many event lines of at most `max`
abbrev pub SaysEvent : ℕ → ℕ → ℕ → List ℕ → Event → Type 0
SaysEvent max k events line event =
    (k ≤ most_lines) × (length line ≤ longest_line) × (events < max) × Tells line event

-- No line is bad, of lines from number k on, after this many event lines: each says nothing or reports an event. They
-- give these events in order, each with the number of its line.
abbrev pub AreGood : ℕ → ℕ → ℕ → List (List ℕ) → List (ℕ × Event) → Type 0
AreGood max k events [] given = given ≡ []
AreGood max k events (line ∷ lines) given =
    (SaysNothing k line × AreGood max (k + 1) events lines given)
    ⊎ ((event : Event) × (rest : List (ℕ × Event)) × SaysEvent max k events line event × (given ≡ (k, event) ∷ rest)
    × AreGood max (k + 1) (events + 1) lines rest)

-- Of lines from number k on, after this many event lines, line j is the first bad one, for this reason; and the
-- lines before it give these events.
pub record HasBad (max k events : ℕ) (lines : List (List ℕ)) (given : List (ℕ × Event)) (j : ℕ)
    (reason : LineReason) : Type 0 where
  pub before : List (List ℕ)
  pub line : List ℕ
  pub behind : List (List ℕ)
  pub order : lines ≡ before ++ line ∷ behind
  pub good : AreGood max k events before given
  pub number : j ≡ k + length before
  pub why : IsFirstReason max j (events + length given) line reason
