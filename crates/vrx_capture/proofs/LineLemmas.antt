-- Lemmas on what one line says.
use Rattle.std.proofs.Common.{◌≡◌, ℕ, ◌<◌, ◌≤◌, ◌==◌, ◌&&◌, ◌||◌, not, nat_lt, nat_le, Bool, true, false, if◌then◌else◌, List, [], ◌∷◌, length, Option, Some, None, is_some, refl}
use Rattle.std.specs.Option.{option_map}
use Rattle.std.proofs.lemmas.Bool.{eqb-true, ltb-false, leb-false, lt-ltb, le-ltb}
use Rattle.vrx_core.specs.declared.event.Event.{Event}
use Rattle.vrx_core.specs.declared.event.Event.TheVariants.{Datagram, Tick, Pull}
use Rattle.vrx_capture.specs.Words.{after_prefix}
use Rattle.vrx_num.specs.OptionChain.{◌>>=◌}
use Rattle.vrx_capture.specs.Line.{begins, is_blank, is_datagram, is_tick, is_pull, is_event, moment_in, has_more, bytes_in, event_reasons, first_reason, event_in, kind_of, most_lines, longest_line, line_at}
use Rattle.vrx_capture.specs.Step.{IsWithin, long_reason}
use Rattle.vrx_capture.specs.declared.line.LineKind.TheVariants.{Blank, Wrong}
use Rattle.vrx_capture.specs.declared.line.LineReason.{LineReason}
use Rattle.vrx_capture.specs.declared.line.LineReason.TheVariants.{Lines, Long, Kind, Events}

-- ---- a line is of one kind

-- a line begins with the first octet of what it begins with
first_octet : (p : ℕ) (ps os : List ℕ) (o : ℕ) → begins (p ∷ ps) (o ∷ os) ≡ true → o ≡ p
unfolding after_prefix
first_octet p ps os o h = by (o == p) refl h
  where
    by : (same : Bool) → (o == p) ≡ same → is_some (if same then after_prefix ps os else None) ≡ true → o ≡ p
    by true e h = eqb-true o p e
    by false e h = cc h

other_octet : (p q : ℕ) (ps qs os : List ℕ) (o : ℕ) → begins (p ∷ ps) (o ∷ os) ≡ true → (p == q) ≡ false →
    begins (q ∷ qs) (o ∷ os) ≡ false
unfolding after_prefix
other_octet p q ps qs os o h differs = rw (first_octet p ps os o h, differs) refl

pub no_tick : (line : List ℕ) → is_datagram line ≡ true → is_tick line ≡ false
unfolding after_prefix
no_tick [] h = cc
no_tick (o ∷ os) h = other_octet 100 116 (32 ∷ []) (32 ∷ []) os o h refl

pub no_pull : (line : List ℕ) → is_datagram line ≡ true → is_pull line ≡ false
unfolding after_prefix
no_pull [] h = cc
no_pull (o ∷ os) h = other_octet 100 112 (32 ∷ []) (32 ∷ []) os o h refl

-- a line that says nothing reports no event
no_kind : (line : List ℕ) → is_blank line ≡ true →
    (is_datagram line ≡ false) × (is_tick line ≡ false) × (is_pull line ≡ false)
unfolding after_prefix
no_kind [] h = (refl, refl, refl)
no_kind (o ∷ os) h = (
  other_octet 35 100 [] (32 ∷ []) os o h refl,
  other_octet 35 116 [] (32 ∷ []) os o h refl,
  other_octet 35 112 [] (32 ∷ []) os o h refl,
)

-- the event of a line, by what it begins with and what it reports
abbrev pub event_by : Option ℕ → Bool → Bool → Bool → Bool → Option (List ℕ) → Option Event
event_by moment datagram more tick pull bytes = do
  m ← moment
  if datagram then option_map (λ octets. Datagram m octets) bytes
      else if more then None
      else if tick then Some (Tick m)
      else if pull then Some (Pull m)
      else None

none_by : (moment : Option ℕ) (more : Bool) (bytes : Option (List ℕ)) →
    event_by moment false more false false bytes ≡ None
none_by None more bytes = refl
none_by (Some m) true bytes = refl
none_by (Some m) false bytes = refl

-- a line of no kind reports no event
event_in-none : (line : List ℕ) → is_datagram line ≡ false → is_tick line ≡ false → is_pull line ≡ false →
    event_in line ≡ None
unfolding event_in
event_in-none line datagram tick pull =
    rw (datagram, tick, pull) (none_by (moment_in line) (has_more line) (bytes_in line))

-- ---- blank lines and long ones

pub blank_line : (max k events : ℕ) (line : List ℕ) → is_blank line ≡ true → k ≤ most_lines →
    length line ≤ longest_line → line_at max k events line ≡ Blank
unfolding line_at
blank_line max k events line blank few short =
    let none = no_kind line blank in
    let late : nat_lt most_lines k ≡ false = le-ltb most_lines k few in
    let long : nat_lt longest_line (length line) ≡ false = le-ltb longest_line (length line) short in
    let event : event_in line ≡ None = event_in-none line none.0 none.1 none.2 in
    rw (late, long, blank, none.0, none.1, none.2, event) refl

long_by : (late : Bool) (rest : Option LineReason) (event : Option Event) →
    kind_of (if late then Some Lines else if true then Some Long else rest) event ≡ Wrong
    (if late then Lines else Long)
long_by true rest event = refl
long_by false rest event = refl

pub long_line : (max k events : ℕ) (line : List ℕ) → longest_line < length line →
    line_at max k events line ≡ Wrong (long_reason k)
unfolding line_at
long_line max k events line long =
    let beyond : nat_lt longest_line (length line) ≡ true = lt-ltb longest_line (length line) long in
    rw beyond (long_by (nat_lt most_lines k)
    (first_reason ((not (is_blank line || is_event line), Kind) ∷ (is_event line && nat_le max events, Events)
    ∷ event_reasons line)) (event_in line))

-- ---- the limits

-- what a line says by the tests of the first four reasons: that it is late, long, of no kind, and an event too many
within_by : (max k events : ℕ) (late long other event full : Bool) (rest : Option LineReason) (told : Option Event) →
    (late ≡ false → k ≤ most_lines) → (full ≡ false → events < max) → (event ≡ false → told ≡ None) →
    IsWithin max k events (kind_of
    (if late then Some Lines else if long then Some Long else if other then Some Kind else if event && full
    then Some Events else rest) told)
within_by max k events true long other event full rest told few more none = tt
within_by max k events false true other event full rest told few more none = tt
within_by max k events false false true event full rest told few more none = tt
within_by max k events false false false true true rest told few more none = tt
within_by max k events false false false true false (Some reason) told few more none = tt
within_by max k events false false false true false None (Some event) few more none = (few refl, more refl)
within_by max k events false false false true false None None few more none = few refl
within_by max k events false false false false full (Some reason) told few more none = tt
within_by max k events false false false false full None told few more none = rw (none refl) (few refl)

pub no_event : (line : List ℕ) → is_event line ≡ false → event_in line ≡ None
no_event line none = event_in-none line (or_left (is_datagram line) (is_tick line) (is_pull line) none).0
    (or_left (is_datagram line) (is_tick line) (is_pull line) none).1
    (or_left (is_datagram line) (is_tick line) (is_pull line) none).2
  where
    or_left : (a b c : Bool) → (a || b || c) ≡ false → (a ≡ false) × (b ≡ false) × (c ≡ false)
    or_left false false false h = (refl, refl, refl)
    or_left true b c h = cc h
    or_left false true c h = cc h
    or_left false false true h = cc h

-- a line that isn't wrong is within the limits
pub line_within : (max k events : ℕ) (line : List ℕ) → IsWithin max k events (line_at max k events line)
unfolding line_at
line_within max k events line =
    within_by max k events (nat_lt most_lines k) (nat_lt longest_line (length line))
    (not (is_blank line || is_event line)) (is_event line) (nat_le max events) (first_reason (event_reasons line))
    (event_in line) (λ few. ltb-false most_lines k few) (λ more. leb-false max events more) (no_event line)
