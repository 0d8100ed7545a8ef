-- Lemmas on what lines give, by what each of them is.
use Rattle.std.proofs.Common.{◌≡◌, ◌↔◌, ℕ, ◌+◌, List, [], ◌∷◌, ◌++◌, length, Option, Some, None, refl, sym, ap, ◌∙◌, inl, inr, arith}
use Rattle.std.proofs.lemmas.List.{append-nil}
use Rattle.vrx_core.specs.declared.event.Event.{Event}
use Rattle.vrx_core.specs.declared.event.Event.TheVariants.{Datagram, Tick, Pull}
use Rattle.vrx_capture.specs.Line.{event_in, line_at}
use Rattle.vrx_capture.specs.Reading.{Reading, sound, bad_at, event_count, with_line, reading}
use Rattle.vrx_capture.specs.Readings.{Tells, SaysEvent, AreGood, HasBad}
use Rattle.vrx_capture.specs.Joins.{behind_events}
use Rattle.vrx_capture.specs.declared.line.LineKind.{LineKind}
use Rattle.vrx_capture.specs.declared.line.LineKind.TheVariants.{Blank, Happens, Wrong}
use Rattle.vrx_capture.specs.declared.line.LineReason.{LineReason}
use Rattle.vrx_capture.proofs.GrammarLemmas.{datagram_mean, tick_mean, pull_mean}
use Rattle.vrx_capture.proofs.ReasonLemmas.{wrong_mean, blank_mean, happens_mean}
use Rattle.vrx_capture.proofs.JoinLemmas.{readings_join}

-- ---- one line

told-shows : (line : List ℕ) (event : Event) → event_in line ≡ Some event → Tells line event
told-shows line (Datagram m octets) h = (datagram_mean line m octets).0 h
told-shows line (Tick m) h = (tick_mean line m).0 h
told-shows line (Pull m) h = (pull_mean line m).0 h

told-write : (line : List ℕ) (event : Event) → Tells line event → event_in line ≡ Some event
told-write line (Datagram m octets) is = (datagram_mean line m octets).1 is
told-write line (Tick m) is = (tick_mean line m).1 is
told-write line (Pull m) is = (pull_mean line m).1 is

event-shows : (max k events : ℕ) (line : List ℕ) (event : Event) → line_at max k events line ≡ Happens event →
    SaysEvent max k events line event
event-shows max k events line event h = let is =
    (happens_mean max k events line event).0 h in (is.0, is.1, is.2, told-shows line event is.3)

event-write : (max k events : ℕ) (line : List ℕ) (event : Event) → SaysEvent max k events line event →
    line_at max k events line ≡ Happens event
event-write max k events line event is =
    (happens_mean max k events line event).1 (is.0, is.1, is.2, told-write line event is.3)

-- what a first line and the others give, by what it says
first_reading : (max k events : ℕ) (line : List ℕ) (lines : List (List ℕ)) (kind : LineKind) →
    line_at max k events line ≡ kind →
    reading max k events (line ∷ lines) ≡ with_line k kind (reading max (k + 1) (events + event_count kind) lines)
unfolding reading
first_reading max k events line lines kind is = rw is refl

-- after the line of an event stand the other lines
event_rest : (k : ℕ) (event : Event) (rest : Reading) (given : List (ℕ × Event)) (bad : Option (ℕ × LineReason)) →
    with_line k (Happens event) rest ≡ record { events = given; bad = bad } →
    (given ≡ (k, event) ∷ rest.events) × (rest ≡ record { events = rest.events; bad = bad })
event_rest k event rest given bad h =
    let events : (k, event) ∷ rest.events ≡ given = ap (λ (r : Reading). r.events) h in
    let same : rest.bad ≡ bad = ap (λ (r : Reading). r.bad) h in
    (sym events, ap (λ b. record { events = rest.events; bad = b }) same)

-- ---- lines with no bad one

good_by : (max k events : ℕ) (line : List ℕ) (lines : List (List ℕ)) (kind : LineKind) (rest : Reading)
    (given : List (ℕ × Event)) → line_at max k events line ≡ kind → with_line k kind rest ≡ sound given →
    ((others : List (ℕ × Event)) → rest ≡ sound others →
    AreGood max (k + 1) (events + event_count kind) lines others) → AreGood max k events (line ∷ lines) given
good_by max k events line lines Blank rest given is h good =
    let none : events + 0 ≡ events = omega arith in
    inl ((blank_mean max k events line).0 is, rw none at (good given h))
good_by max k events line lines (Wrong reason) rest given is h good =
    let none : Some (k, reason) ≡ None = ap (λ (r : Reading). r.bad) h in
    cc none
good_by max k events line lines (Happens event) rest given is h good =
    let shown = event_rest k event rest given None h in
    inr (event, rest.events, event-shows max k events line event is, shown.0, good rest.events shown.1)

good-shows : (max k events : ℕ) (lines : List (List ℕ)) (given : List (ℕ × Event)) →
    reading max k events lines ≡ sound given → AreGood max k events lines given
unfolding reading
good-shows max k events [] given h = sym (ap (λ (r : Reading). r.events) h)
good-shows max k events (line ∷ lines) given h =
    good_by max k events line lines (line_at max k events line)
    (reading max (k + 1) (events + event_count (line_at max k events line)) lines) given refl h
    (λ others shown. good-shows max (k + 1) (events + event_count (line_at max k events line)) lines others shown)

none_write : (max k events : ℕ) (given : List (ℕ × Event)) → given ≡ [] → reading max k events [] ≡ sound given
unfolding reading
none_write max k events given none = rw none refl

good-write : (max k events : ℕ) (lines : List (List ℕ)) (given : List (ℕ × Event)) →
    AreGood max k events lines given → reading max k events lines ≡ sound given
good-write max k events [] given none = none_write max k events given none
good-write max k events (line ∷ lines) given (inl (blank, rest)) =
    let none : events + 0 ≡ events = omega arith in
    let others : reading max (k + 1) (events + 0) lines ≡ sound given =
    rw none (good-write max (k + 1) events lines given rest) in
    first_reading max k events line lines Blank ((blank_mean max k events line).1 blank) ∙ others
good-write max k events (line ∷ lines) given (inr (event, others, is, told, rest)) =
    let shown : reading max (k + 1) (events + 1) lines ≡ sound others =
    good-write max (k + 1) (events + 1) lines others rest in
    first_reading max k events line lines (Happens event) (event-write max k events line event is)
    ∙ rw (shown, told) refl

pub good_mean : (max k events : ℕ) (lines : List (List ℕ)) (given : List (ℕ × Event)) →
    (reading max k events lines ≡ sound given) ↔ AreGood max k events lines given
good_mean max k events lines given = (good-shows max k events lines given, good-write max k events lines given)

-- ---- lines with a bad one

-- the bad line is among the others
bad_blank : (max k events : ℕ) (line : List ℕ) (lines : List (List ℕ)) (given : List (ℕ × Event)) (j : ℕ)
    (reason : LineReason) → line_at max k events line ≡ Blank → HasBad max (k + 1) events lines given j reason →
    HasBad max k events (line ∷ lines) given j reason
bad_blank max k events line lines given j reason is bad = record {
  before = line ∷ bad.before;
  line = bad.line;
  behind = bad.behind;
  order = ap (λ (others : List (List ℕ)). line ∷ others) bad.order;
  good = inl ((blank_mean max k events line).0 is, bad.good);
  number = omega (arith, bad.number);
  why = bad.why;
}

bad_event : (max k events : ℕ) (line : List ℕ) (lines : List (List ℕ)) (event : Event) (rest given : List (ℕ × Event))
    (j : ℕ) (reason : LineReason) → line_at max k events line ≡ Happens event → given ≡ (k, event) ∷ rest →
    HasBad max (k + 1) (events + 1) lines rest j reason → HasBad max k events (line ∷ lines) given j reason
bad_event max k events line lines event rest given j reason is told bad =
    let count : events + 1 + length rest ≡ events + length given = rw told (omega arith) in
    record {
      before = line ∷ bad.before;
      line = bad.line;
      behind = bad.behind;
      order = ap (λ (others : List (List ℕ)). line ∷ others) bad.order;
      good = inr (event, rest, event-shows max k events line event is, told, bad.good);
      number = omega (arith, bad.number);
      why = rw count at bad.why;
    }

-- it is the first line
bad_first : (max k events : ℕ) (line : List ℕ) (lines : List (List ℕ)) (given : List (ℕ × Event)) (j : ℕ)
    (reason : LineReason) → given ≡ [] → j ≡ k → line_at max k events line ≡ Wrong reason →
    HasBad max k events (line ∷ lines) given j reason
bad_first max k events line lines given j reason none same is =
    let count : events ≡ events + length given = rw none (omega arith) in
    record {
      before = [];
      line = line;
      behind = lines;
      order = refl;
      good = none;
      number = omega (arith, same);
      why = (wrong_mean max j (events + length given) line reason).0 (rw (same, sym count) is);
    }

bad_by : (max k events : ℕ) (line : List ℕ) (lines : List (List ℕ)) (kind : LineKind) (rest : Reading)
    (given : List (ℕ × Event)) (j : ℕ) (reason : LineReason) → line_at max k events line ≡ kind →
    with_line k kind rest ≡ record { events = given; bad = Some (j, reason) } →
    ((others : List (ℕ × Event)) → rest ≡ record { events = others; bad = Some (j, reason) } →
    HasBad max (k + 1) (events + event_count kind) lines others j reason) →
    HasBad max k events (line ∷ lines) given j reason
bad_by max k events line lines Blank rest given j reason is h bad =
    let none : events + 0 ≡ events = omega arith in
    bad_blank max k events line lines given j reason is (rw none at (bad given h))
bad_by max k events line lines (Wrong other) rest given j reason is h bad =
    let events_same : [] ≡ given = ap (λ (r : Reading). r.events) h in
    let bad_same : Some (k, other) ≡ Some (j, reason) = ap (λ (r : Reading). r.bad) h in
    let pair : (k, other) ≡ (j, reason) = cc bad_same in
    let number : j ≡ k = sym (ap (λ (b : ℕ × LineReason). b.0) pair) in
    let why : other ≡ reason = ap (λ (b : ℕ × LineReason). b.1) pair in
    bad_first max k events line lines given j reason (sym events_same) number (is ∙ ap Wrong why)
bad_by max k events line lines (Happens event) rest given j reason is h bad =
    let shown = event_rest k event rest given (Some (j, reason)) h in
    bad_event max k events line lines event rest.events given j reason is shown.0 (bad rest.events shown.1)

bad-shows : (max k events : ℕ) (lines : List (List ℕ)) (given : List (ℕ × Event)) (j : ℕ) (reason : LineReason) →
    reading max k events lines ≡ record { events = given; bad = Some (j, reason) } →
    HasBad max k events lines given j reason
unfolding reading
bad-shows max k events [] given j reason h =
    let none : None ≡ Some (j, reason) = ap (λ (r : Reading). r.bad) h in
    cc none
bad-shows max k events (line ∷ lines) given j reason h =
    bad_by max k events line lines (line_at max k events line)
    (reading max (k + 1) (events + event_count (line_at max k events line)) lines) given j reason refl h
    (λ others shown. bad-shows max (k + 1)
    (events + event_count (line_at max k events line)) lines others j reason shown)

bad-write : (max k events : ℕ) (lines : List (List ℕ)) (given : List (ℕ × Event)) (j : ℕ) (reason : LineReason) →
    HasBad max k events lines given j reason →
    reading max k events lines ≡ record { events = given; bad = Some (j, reason) }
bad-write max k events lines given j reason bad =
    let kind : line_at max j (events + length given) bad.line ≡ Wrong reason =
    (wrong_mean max j (events + length given) bad.line reason).1 bad.why in
    let last : reading max j (events + length given) (bad.line ∷ bad.behind) ≡ bad_at (j, reason) =
    first_reading max j (events + length given) bad.line bad.behind (Wrong reason) kind in
    let joined : reading max k events (bad.before ++ bad.line ∷ bad.behind) ≡ behind_events given
    (reading max (k + length bad.before) (events + length given) (bad.line ∷ bad.behind)) =
    readings_join max k events bad.before (bad.line ∷ bad.behind) given
    (good-write max k events bad.before given bad.good) in
    let told : behind_events given
    (reading max (k + length bad.before) (events + length given) (bad.line ∷ bad.behind)) ≡ behind_events given
    (bad_at (j, reason)) = rw (sym bad.number, last) refl in
    rw bad.order (joined ∙ told ∙ rw (append-nil given) refl)

pub bad_mean : (max k events : ℕ) (lines : List (List ℕ)) (given : List (ℕ × Event)) (j : ℕ) (reason : LineReason) →
    (reading max k events lines ≡ record { events = given; bad = Some (j, reason) })
    ↔ HasBad max k events lines given j reason
bad_mean max k events lines given j reason =
    (bad-shows max k events lines given j reason, bad-write max k events lines given j reason)
