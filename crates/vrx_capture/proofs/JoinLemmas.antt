-- Lemmas on the lines of a text and of the text after it, and on what they give.
use Rattle.std.proofs.Common.{◌≡◌, ◌≢◌, ℕ, suc, ◌+◌, ◌==◌, Bool, true, false, if◌then◌else◌, List, [], ◌∷◌, ◌++◌, length, Some, None, refl, sym, ap, inl, inr, arith}
use Rattle.vrx_core.specs.declared.event.Event.{Event}
use Rattle.vrx_capture.specs.Line.{with_octet, lines_of, line_at}
use Rattle.vrx_capture.specs.Reading.{Reading, sound, event_count, with_line, reading}
use Rattle.vrx_capture.specs.Joins.{LinesJoin, ReadingsJoin, behind_events}
use Rattle.vrx_capture.specs.declared.line.LineKind.{LineKind}
use Rattle.vrx_capture.specs.declared.line.LineKind.TheVariants.{Blank, Happens, Wrong}

-- ---- lines

-- a text that isn't empty has a line
some_line : (is_feed : Bool) (o : ℕ) (lines : List (List ℕ)) →
    (if is_feed then [] ∷ lines else with_octet o lines) ≢ []
some_line true o lines none = cc none
some_line false o [] none = cc none
some_line false o (line ∷ lines) none = cc none

lines_of-some : (front octets : List ℕ) (o : ℕ) → lines_of (front ++ o ∷ octets) ≢ []
unfolding lines_of
lines_of-some [] octets o = some_line (o == 10) o (lines_of octets)
lines_of-some (p ∷ front) octets o = some_line (p == 10) p (lines_of (front ++ o ∷ octets))

with_octet-join : (o : ℕ) (lines others : List (List ℕ)) → lines ≢ [] →
    with_octet o (lines ++ others) ≡ with_octet o lines ++ others
with_octet-join o [] others some = absurd (some refl)
with_octet-join o (line ∷ lines) others some = refl

join_behind : (is_feed : Bool) (o : ℕ) (all lines others : List (List ℕ)) → lines ≢ [] → all ≡ lines ++ others →
    (if is_feed then [] ∷ all else with_octet o all) ≡ (if is_feed then [] ∷ lines else with_octet o lines) ++ others
join_behind true o all lines others some joined = ap (λ (rest : List (List ℕ)). [] ∷ rest) joined
join_behind false o all lines others some joined = rw joined (with_octet-join o lines others some)

feed_join : (front more : List ℕ) →
    lines_of ((front ++ 10 ∷ []) ++ more) ≡ lines_of (front ++ 10 ∷ []) ++ lines_of more
unfolding lines_of
feed_join [] more = refl
feed_join (o ∷ front) more =
    join_behind (o == 10) o (lines_of ((front ++ 10 ∷ []) ++ more)) (lines_of (front ++ 10 ∷ [])) (lines_of more)
    (lines_of-some front [] 10) (feed_join front more)

none_join : (more : List ℕ) → lines_of more ≡ lines_of [] ++ lines_of more
unfolding lines_of
none_join more = refl

pub lines_join : LinesJoin
lines_join octets more (inl none) = rw none (none_join more)
lines_join octets more (inr (front, spelled)) = rw spelled (feed_join front more)

-- ---- what lines give

-- the reading of lines with no bad one shows their events
sound_rest : (k : ℕ) (event : Event) (rest : Reading) (given : List (ℕ × Event)) →
    with_line k (Happens event) rest ≡ sound given → (given ≡ (k, event) ∷ rest.events) × (rest ≡ sound rest.events)
sound_rest k event rest given h =
    let events : (k, event) ∷ rest.events ≡ given = ap (λ (r : Reading). r.events) h in
    let bad : rest.bad ≡ None = ap (λ (r : Reading). r.bad) h in
    (sym events, ap (λ b. record { events = rest.events; bad = b }) bad)

line_join : (max k events n : ℕ) (kind : LineKind) (first all : Reading) (more : List (List ℕ))
    (given : List (ℕ × Event)) → with_line k kind first ≡ sound given →
    ((rest : List (ℕ × Event)) → first ≡ sound rest →
    all ≡ behind_events rest (reading max (k + 1 + n) (events + event_count kind + length rest) more)) →
    with_line k kind all ≡ behind_events given (reading max (k + suc n) (events + length given) more)
line_join max k events n Blank first all more given h rest =
    let number : k + 1 + n ≡ k + suc n = omega arith in
    let count : events + 0 + length given ≡ events + length given = omega arith in
    rw (number, count) at (rest given h)
line_join max k events n (Wrong reason) first all more given h rest =
    let none : Some (k, reason) ≡ None = ap (λ (r : Reading). r.bad) h in
    cc none
line_join max k events n (Happens event) first all more given h rest =
    let shown = sound_rest k event first given h in
    let number : k + 1 + n ≡ k + suc n = omega arith in
    let count : events + 1 + length first.events ≡ events + length ((k, event) ∷ first.events) = omega arith in
    let joined : all ≡ behind_events first.events
    (reading max (k + suc n) (events + length ((k, event) ∷ first.events)) more) =
    rw (number, count) at (rest first.events shown.1) in
    rw (joined, shown.0) refl

pub readings_join : ReadingsJoin
unfolding reading
readings_join max k events [] more given h =
    let none : [] ≡ given = ap (λ (r : Reading). r.events) h in
    let number : k + 0 ≡ k = omega arith in
    let count : events + 0 ≡ events = omega arith in
    rw (sym none, number, count) refl
readings_join max k events (line ∷ lines) more given h =
    line_join max k events (length lines) (line_at max k events line)
    (reading max (k + 1) (events + event_count (line_at max k events line)) lines)
    (reading max (k + 1) (events + event_count (line_at max k events line)) (lines ++ more)) more given h
    (λ rest shown. readings_join max (k + 1) (events + event_count (line_at max k events line)) lines more rest shown)
