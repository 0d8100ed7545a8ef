-- Lines worked by hand: the definitions on them.
use Rattle.std.specs.Prelude.{◌≡◌, [], ◌∷◌, ◌++◌, codes, refl, None, Some}
use Rattle.vrx_core.specs.declared.event.Event.TheVariants.{Datagram, Tick, Pull}
use Rattle.vrx_capture.specs.Line.{lines_of, line_at}
use Rattle.vrx_capture.specs.Reading.{reading}
use Rattle.vrx_capture.specs.declared.line.LineKind.TheVariants.{Blank, Happens, Wrong}
use Rattle.vrx_capture.specs.declared.line.LineReason.TheVariants.{Lines, Kind, Events, Moment, End, Hex}
use Rattle.vrx_capture.proofs.OnLiterals.{capture_on_literals}

-- a line without a line feed at the end counts if it isn't empty
pub three_lines : lines_of (codes "a" ++ (10 ∷ 10 ∷ codes "bc")) ≡ codes "a" ∷ [] ∷ codes "bc" ∷ []
unfolding capture_on_literals
three_lines = refl

pub two_lines : lines_of (codes "a" ++ (10 ∷ 10 ∷ [])) ≡ codes "a" ∷ [] ∷ []
unfolding capture_on_literals
two_lines = refl

pub a_datagram : line_at 1 2 0 (codes "d 33 80fF") ≡ Happens (Datagram 33 (128 ∷ 255 ∷ []))
unfolding capture_on_literals
a_datagram = refl

pub a_tick : line_at 1 2 0 (codes "t 33") ≡ Happens (Tick 33)
unfolding capture_on_literals
a_tick = refl

pub a_pull : line_at 1 2 0 (codes "p 0") ≡ Happens (Pull 0)
unfolding capture_on_literals
a_pull = refl

pub a_comment : line_at 1 2 1 (codes "#p 0") ≡ Blank
unfolding capture_on_literals
a_comment = refl

-- one line for each reason but its length
pub the_last : line_at 1 2097152 0 (codes "p 0") ≡ Happens (Pull 0)
unfolding capture_on_literals
the_last = refl

pub too_late : line_at 1 2097153 0 (codes "p 0") ≡ Wrong Lines
unfolding capture_on_literals
too_late = refl

pub no_kind : line_at 1 2 1 (codes "p") ≡ Wrong Kind
unfolding capture_on_literals
no_kind = refl

pub too_many : line_at 1 2 1 (codes "p 00") ≡ Wrong Events
unfolding capture_on_literals
too_many = refl

pub two_spaces : line_at 1 2 0 (codes "p  0") ≡ Wrong Moment
unfolding capture_on_literals
two_spaces = refl

pub a_space_behind : line_at 1 2 0 (codes "t 0 ") ≡ Wrong End
unfolding capture_on_literals
a_space_behind = refl

pub half_an_octet : line_at 1 2 0 (codes "d 3 80e") ≡ Wrong Hex
unfolding capture_on_literals
half_an_octet = refl

-- the events up to the first bad line
pub up_to_the_bad_line : reading 9 2 0 (codes "p 1" ∷ [] ∷ codes "t 2" ∷ codes "x" ∷ codes "p 3" ∷ [])
    ≡ record { events = (2, Pull 1) ∷ (4, Tick 2) ∷ []; bad = Some (5, Kind) }
unfolding capture_on_literals
up_to_the_bad_line = refl

pub no_bad_line : reading 9 2 0 (codes "p 1" ∷ codes "#" ∷ []) ≡ record { events = (2, Pull 1) ∷ []; bad = None }
unfolding capture_on_literals
no_bad_line = refl
