-- Lemmas on what the table of reasons means.
use Rattle.std.proofs.Common.{◌≡◌, ◌⊎◌, ℕ, suc, ◌+◌, ◌<◌, ◌≤◌, ◌==◌, ◌&&◌, ◌||◌, not, nat_lt, nat_le, Bool, true, false, if◌then◌else◌, cond, List, [], ◌∷◌, ◌++◌, length, take, drop, get_or, Option, Some, None, is_some, is_none, refl, sym, ap, subst, ◌∙◌, inl, inr, append_assoc, arith}
use Rattle.std.specs.Prelude.{◌↔◌, codes}
use Rattle.std.specs.Fmt.{decimal}
use Rattle.std.specs.List.{position_or_len, list_any}
use Rattle.std.proofs.lemmas.Bool.{cases_lt, eqb-true, ltb-true, ltb-false, leb-true, leb-false, lt-ltb, le-ltb, le-leb}
use Rattle.std.proofs.lemmas.List.{take_all, append-nil}
use Rattle.std.proofs.lemmas.List.Sums.{split_at_first, passes_at_first}
use Rattle.vrx_core.specs.declared.event.Event.{Event}
use Rattle.vrx_capture.specs.Words.{after_prefix, until_space, after_space, number_in}
use Rattle.vrx_capture.specs.Line.{latest_moment, most_lines, longest_line, begins, is_blank, is_datagram, is_tick, is_pull, is_event, after_letter, moment_in, has_more, bytes_in, event_in, event_reasons, first_reason, reasons, kind_of, line_at}
use Rattle.vrx_capture.specs.IsLine.{BeginsWith, IsBlankLine, BeginsAlone, BeginsEvent, HasSpace, TellsMoment, TellsOctets, IsBad, rank, IsFirstReason}
use Rattle.vrx_capture.specs.declared.line.LineKind.TheVariants.{Blank, Happens, Wrong}
use Rattle.vrx_capture.specs.declared.line.LineReason.{LineReason}
use Rattle.vrx_capture.specs.declared.line.LineReason.TheVariants.{Lines, Long, Kind, Events, Moment, End, Hex}
use Rattle.vrx_capture.proofs.NumberLemmas.{number_mean}
use Rattle.vrx_capture.proofs.LineLemmas.{no_tick, no_pull, blank_line, no_event, event_by}
use Rattle.vrx_capture.proofs.GrammarLemmas.{until_space-write, until_space-read, until_space-whole, octets_in-read, octets_in-write, octets_in-some, decimal_plain}

-- ---- tests

or-read : (a b : Bool) → (a || b) ≡ true → (a ≡ true) ⊎ (b ≡ true)
or-read true b h = inl refl
or-read false b h = inr h

or-write : (a b : Bool) → (a ≡ true) ⊎ (b ≡ true) → (a || b) ≡ true
or-write true b h = refl
or-write false b (inl other) = cc other
or-write false b (inr h) = h

and-read : (a b : Bool) → (a && b) ≡ true → (a ≡ true) × (b ≡ true)
and-read true b h = (refl, h)
and-read false b h = cc h

and-write : (a b : Bool) → (a ≡ true) × (b ≡ true) → (a && b) ≡ true
and-write true b h = h.1
and-write false b h = h.0

not-read : (a : Bool) → not a ≡ true → a ≡ true → ⊥
not-read true h same = cc h
not-read false h same = cc same

not-write : (a : Bool) → (a ≡ true → ⊥) → not a ≡ true
not-write true never = absurd (never refl)
not-write false never = refl

none-write : {A : Type 0} (o : Option A) → ((x : A) → o ≡ Some x → ⊥) → is_none o ≡ true
none-write None never = refl
none-write (Some x) never = absurd (never x refl)

none-read : {A : Type 0} (o : Option A) (x : A) → is_none o ≡ true → o ≡ Some x → ⊥
none-read None x h same = cc same
none-read (Some y) x h same = cc h

-- ---- beginnings

begins-read : (p line : List ℕ) → begins p line ≡ true → BeginsWith p line
unfolding after_prefix
begins-read [] line h = (line, refl)
begins-read (c ∷ p) [] h = cc h
begins-read (c ∷ p) (o ∷ os) h = by (o == c) refl h (λ more. begins-read p os more)
  where
    by : (same : Bool) → (o == c) ≡ same → is_some (if same then after_prefix p os else None) ≡ true →
        (begins p os ≡ true → BeginsWith p os) → BeginsWith (c ∷ p) (o ∷ os)
    by true e h rest = let more = rest h in (more.0, rw (eqb-true o c e, more.1) refl)
    by false e h rest = cc h

begins-append : (p rest : List ℕ) → begins p (p ++ rest) ≡ true
unfolding after_prefix
begins-append [] rest = refl
begins-append (c ∷ p) rest = let same : (c == c) ≡ true = grind arith in rw same (begins-append p rest)

begins-write : (p line : List ℕ) → BeginsWith p line → begins p line ≡ true
begins-write p line is = rw is.1 (begins-append p is.0)

alone-read : (line : List ℕ) → (is_tick line || is_pull line) ≡ true → BeginsAlone line
alone-read line h = by (or-read (is_tick line) (is_pull line) h)
  where
    by : (is_tick line ≡ true) ⊎ (is_pull line ≡ true) → BeginsAlone line
    by (inl tick) = inl (begins-read (codes "t ") line tick)
    by (inr pull) = inr (begins-read (codes "p ") line pull)

alone-write : (line : List ℕ) → BeginsAlone line → (is_tick line || is_pull line) ≡ true
alone-write line (inl tick) = or-write (is_tick line) (is_pull line) (inl (begins-write (codes "t ") line tick))
alone-write line (inr pull) = or-write (is_tick line) (is_pull line) (inr (begins-write (codes "p ") line pull))

event-three : (a b c : Bool) → (a || b || c) ≡ (a || (b || c))
event-three true b c = refl
event-three false b c = refl

event-read : (line : List ℕ) → is_event line ≡ true → BeginsEvent line
event-read line h = by (or-read (is_datagram line) (is_tick line || is_pull line)
    (sym (event-three (is_datagram line) (is_tick line) (is_pull line)) ∙ h))
  where
    by : (is_datagram line ≡ true) ⊎ ((is_tick line || is_pull line) ≡ true) → BeginsEvent line
    by (inl datagram) = inl (begins-read (codes "d ") line datagram)
    by (inr alone) = inr (alone-read line alone)

event-write : (line : List ℕ) → BeginsEvent line → is_event line ≡ true
event-write line (inl datagram) = event-three (is_datagram line) (is_tick line) (is_pull line)
    ∙ or-write (is_datagram line) (is_tick line || is_pull line) (inl (begins-write (codes "d ") line datagram))
event-write line (inr alone) = event-three (is_datagram line) (is_tick line) (is_pull line)
    ∙ or-write (is_datagram line) (is_tick line || is_pull line) (inr (alone-write line alone))

blank-read : (line : List ℕ) → is_blank line ≡ true → IsBlankLine line
blank-read [] h = inl refl
blank-read (o ∷ os) h = inr (begins-read (codes "#") (o ∷ os) h)

blank-write : (line : List ℕ) → IsBlankLine line → is_blank line ≡ true
blank-write [] is = refl
blank-write (o ∷ os) (inl none) = cc none
blank-write (o ∷ os) (inr comment) = begins-write (codes "#") (o ∷ os) comment

-- ---- moments

-- a text is its word and what stands from there on
until_space-parts : (text : List ℕ) →
    (rest : List ℕ) × (text ≡ until_space text ++ rest) × ((rest ≡ []) ⊎ BeginsWith (codes " ") rest)
unfolding until_space after_space
until_space-parts text = elim (cases_lt (position_or_len (λ octet. octet == 32) text) (length text)) [
  | inl within ↦
      let space : get_or text (position_or_len (λ octet. octet == 32) text) 0 ≡ 32 =
      eqb-true _ 32 (passes_at_first (λ octet. octet == 32) text 0 within) in (
        32 ∷ after_space text,
        rw space at (split_at_first (λ octet. octet == 32) text 0 within),
        inr (after_space text, refl),
      )
  | inr beyond ↦ ([], sym (append-nil (until_space text) ∙ take_all _ text (omega arith)), inl refl)
]

moment-read : (line : List ℕ) (m : ℕ) → moment_in line ≡ Some m → TellsMoment line m
moment-read line m h =
    let number = (number_mean latest_moment m (until_space (after_letter line)) (omega arith)).0 h in
    let parts = until_space-parts (after_letter line) in
    record {
      rest = parts.0;
      spelled = parts.1 ∙ ap (λ (w : List ℕ). w ++ parts.0) number.0;
      ends = parts.2;
      bound = number.1;
    }

moment-write : (line : List ℕ) (m : ℕ) → TellsMoment line m → moment_in line ≡ Some m
moment-write line m is = by is.ends
  where
    number : number_in latest_moment (decimal m) ≡ Some m
    number = (number_mean latest_moment m (decimal m) (omega arith)).1 (refl, is.bound)

    plain : list_any (λ o. o == 32) (decimal m) ≡ false
    plain = decimal_plain m (omega (arith, is.bound))

    by : (is.rest ≡ []) ⊎ BeginsWith (codes " ") is.rest → moment_in line ≡ Some m
    by (inl none) = rw (is.spelled, none, append-nil (decimal m), until_space-whole (decimal m) plain) number
    by (inr more) = rw (is.spelled, more.1, (until_space-write (decimal m) more.0 plain).0) number

-- ---- octets

-- a word holds no space
plain_by : (space : Bool) (o : ℕ) (os : List ℕ) → (o == 32) ≡ space →
    list_any (λ octet. octet == 32) (take (position_or_len (λ octet. octet == 32) os) os) ≡ false →
    list_any (λ octet. octet == 32)
    (take (cond (not space) (1 + position_or_len (λ octet. octet == 32) os) 0) (o ∷ os)) ≡ false
plain_by true o os e more = refl
plain_by false o os e more =
    let next : 1 + position_or_len (λ octet. octet == 32) os ≡ suc (position_or_len (λ octet. octet == 32) os) =
    omega arith in rw (next, e) more

until_space-plain : (text : List ℕ) → list_any (λ octet. octet == 32) (until_space text) ≡ false
unfolding until_space
until_space-plain [] = refl
until_space-plain (o ∷ os) = plain_by (o == 32) o os refl (until_space-plain os)

octets-read : (line octets : List ℕ) → bytes_in line ≡ Some octets → TellsOctets line octets
octets-read line octets h =
    let hex = octets_in-read (after_space (after_letter line)) octets h in
    record {
      word = until_space (after_letter line);
      digits = after_space (after_letter line);
      spelled = until_space-read (after_letter line) (octets_in-some (after_space (after_letter line)) octets h)
          ∙ sym (append_assoc (until_space (after_letter line)) (codes " ") (after_space (after_letter line)));
      plain = λ space. let no : false ≡ true = sym (until_space-plain (after_letter line)) ∙ space in cc no;
      hex = hex.0;
      some = hex.1;
    }

plain-of : (b : Bool) → (b ≡ true → ⊥) → b ≡ false
plain-of true never = absurd (never refl)
plain-of false never = refl

octets-write : (line octets : List ℕ) → TellsOctets line octets → bytes_in line ≡ Some octets
octets-write line octets is =
    let plain : list_any (λ octet. octet == 32) is.word ≡ false =
    plain-of (list_any (λ octet. octet == 32) is.word) is.plain in
    rw (is.spelled ∙ append_assoc is.word (codes " ") is.digits, (until_space-write is.word is.digits plain).1)
    (octets_in-write is.digits octets is.hex is.some)

-- ---- the rows

kind_row : (line : List ℕ) →
    (not (is_blank line || is_event line) ≡ true) ↔ ((IsBlankLine line ⊎ BeginsEvent line) → ⊥)
kind_row line = (
  λ h is. not-read (is_blank line || is_event line) h (known is),
  λ no.
      not-write (is_blank line || is_event line) (λ h. no (shown (or-read (is_blank line) (is_event line) h))),
)
  where
    known : IsBlankLine line ⊎ BeginsEvent line → (is_blank line || is_event line) ≡ true
    known (inl blank) = or-write (is_blank line) (is_event line) (inl (blank-write line blank))
    known (inr event) = or-write (is_blank line) (is_event line) (inr (event-write line event))

    shown : (is_blank line ≡ true) ⊎ (is_event line ≡ true) → IsBlankLine line ⊎ BeginsEvent line
    shown (inl blank) = inl (blank-read line blank)
    shown (inr event) = inr (event-read line event)

events_row : (max events : ℕ) (line : List ℕ) →
    ((is_event line && nat_le max events) ≡ true) ↔ (BeginsEvent line × (max ≤ events))
events_row max events line = (
  λ h. let both =
      and-read (is_event line) (nat_le max events) h in (event-read line both.0, leb-true max events both.1),
  λ is. and-write (is_event line) (nat_le max events) (event-write line is.0, le-leb max events is.1),
)

moment_row : (line : List ℕ) →
    ((is_event line && is_none (moment_in line)) ≡ true) ↔ (BeginsEvent line × ((m : ℕ) → TellsMoment line m → ⊥))
moment_row line = (
  λ h. let both = and-read (is_event line) (is_none (moment_in line)) h in
      (event-read line both.0, λ m tells. none-read (moment_in line) m both.1 (moment-write line m tells)),
  λ is. and-write (is_event line) (is_none (moment_in line))
      (event-write line is.0, none-write (moment_in line) (λ m h. is.1 m (moment-read line m h))),
)

end_row : (line : List ℕ) →
    (((is_tick line || is_pull line) && has_more line) ≡ true) ↔ (BeginsAlone line × HasSpace (drop 2 line))
end_row line = (
  λ h. let both = and-read (is_tick line || is_pull line) (has_more line) h in (alone-read line both.0, both.1),
  λ is. and-write (is_tick line || is_pull line) (has_more line) (alone-write line is.0, is.1),
)

hex_row : (line : List ℕ) →
    ((is_datagram line && is_none (bytes_in line)) ≡ true)
    ↔ (BeginsWith (codes "d ") line × ((octets : List ℕ) → TellsOctets line octets → ⊥))
hex_row line = (
  λ h. let both = and-read (is_datagram line) (is_none (bytes_in line)) h in (
    begins-read (codes "d ") line both.0,
    λ octets tells.
        none-read (bytes_in line) octets both.1 (octets-write line octets tells),
  ),
  λ is. and-write (is_datagram line) (is_none (bytes_in line)) (
    begins-write (codes "d ") line is.0,
    none-write (bytes_in line) (λ octets h. is.1 octets (octets-read line octets h)),
  ),
)

-- a list of rows, each of which holds exactly if its reason has a property
abbrev RowsMean : (LineReason → Type 0) → List (Bool × LineReason) → Type 0
RowsMean P [] = Unit {0}
RowsMean P ((applies, reason) ∷ rows) = ((applies ≡ true) ↔ P reason) × RowsMean P rows

-- the rows stand in order, the first of them at a place
abbrev Ordered : ℕ → List (Bool × LineReason) → Type 0
Ordered n [] = 7 ≤ n
Ordered n ((applies, reason) ∷ rows) = (rank reason ≡ n) × Ordered (n + 1) rows

rows_mean : (max k events : ℕ) (line : List ℕ) → RowsMean (IsBad max k events line) (reasons max k events line)
rows_mean max k events line = (
  (ltb-true most_lines k, lt-ltb most_lines k),
  (
    (ltb-true longest_line (length line), lt-ltb longest_line (length line)),
    (kind_row line, (events_row max events line, (moment_row line, (end_row line, (hex_row line, tt))))),
  ),
)

reason_at : ℕ → LineReason
reason_at n = if n == 0 then Lines else if n == 1 then Long else if n == 2 then Kind else if n == 3 then Events
    else if n == 4 then Moment else if n == 5 then End else Hex

placed : (reason : LineReason) → reason_at (rank reason) ≡ reason
unfolding reason_at
placed Lines = refl
placed Long = refl
placed Kind = refl
placed Events = refl
placed Moment = refl
placed End = refl
placed Hex = refl

same_place : (a b : LineReason) → rank a ≡ rank b → a ≡ b
same_place a b same = sym (placed a) ∙ ap reason_at same ∙ placed b

place_below : (reason : LineReason) → rank reason < 7
place_below Lines = omega arith
place_below Long = omega arith
place_below Kind = omega arith
place_below Events = omega arith
place_below Moment = omega arith
place_below End = omega arith
place_below Hex = omega arith

-- ---- the first reason

first-shows : (P : LineReason → Type 0) (n : ℕ) (rows : List (Bool × LineReason)) (r : LineReason) → Ordered n rows →
    RowsMean P rows → first_reason rows ≡ Some r →
    P r × (n ≤ rank r) × ((other : LineReason) → n ≤ rank other → rank other < rank r → P other → ⊥)
first-shows P n [] r order mean h = cc h
first-shows P n ((true, a) ∷ rows) r order mean h =
    let same : a ≡ r = cc h in (
      subst P same (mean.0.0 refl),
      omega (arith, order.0, ap rank same),
      λ other at below is.
          absurd (omega (arith, order.0, ap rank same)),
    )
first-shows P n ((false, a) ∷ rows) r order mean h =
    let more = first-shows P (n + 1) rows r order.1 mean.1 h in (
      more.0,
      omega (arith, more.1),
      λ other at below is. elim (cases_lt n (rank other)) [
        | inl later ↦ more.2 other (omega arith) below is
        | inr here ↦
            let same : other ≡ a = same_place other a (omega (arith, order.0)) in
            let no : false ≡ true = mean.0.1 (subst P same is) in
            cc no
      ],
    )

first-write : (P : LineReason → Type 0) (n : ℕ) (rows : List (Bool × LineReason)) (r : LineReason) → Ordered n rows →
    RowsMean P rows → n ≤ rank r → P r → ((other : LineReason) → rank other < rank r → P other → ⊥) →
    first_reason rows ≡ Some r
first-write P n [] r order mean at is first = absurd (omega (arith, place_below r))
first-write P n ((true, a) ∷ rows) r order mean at is first = elim (cases_lt n (rank r)) [
  | inl later ↦ absurd (first a (omega (arith, order.0)) (mean.0.0 refl))
  | inr here ↦ ap Some (same_place a r (omega (arith, order.0)))
]
first-write P n ((false, a) ∷ rows) r order mean at is first = elim (cases_lt n (rank r)) [
  | inl later ↦ first-write P (n + 1) rows r order.1 mean.1 (omega arith) is first
  | inr here ↦
      let same : r ≡ a = same_place r a (omega (arith, order.0)) in
      let no : false ≡ true = mean.0.1 (subst P same is) in
      cc no
]

ordered : (max k events : ℕ) (line : List ℕ) → Ordered 0 (reasons max k events line)
ordered max k events line = (refl, (refl, (refl, (refl, (refl, (refl, (refl, omega arith)))))))

said_wrong : (shown : Option LineReason) (event : Option Event) (reason : LineReason) →
    kind_of shown event ≡ Wrong reason → shown ≡ Some reason
said_wrong (Some shown) event reason h = let same : shown ≡ reason = cc h in ap Some same
said_wrong None (Some event) reason h = cc h
said_wrong None None reason h = cc h

wrong-shows : (max k events : ℕ) (line : List ℕ) (reason : LineReason) → line_at max k events line ≡ Wrong reason →
    IsFirstReason max k events line reason
unfolding line_at
wrong-shows max k events line reason h =
    let first = first-shows (IsBad max k events line) 0 (reasons max k events line) reason (ordered max k events line)
    (rows_mean max k events line)
    (said_wrong (first_reason (reasons max k events line)) (event_in line) reason h) in
    (first.0, λ other below is. first.2 other (omega arith) below is)

wrong-write : (max k events : ℕ) (line : List ℕ) (reason : LineReason) → IsFirstReason max k events line reason →
    line_at max k events line ≡ Wrong reason
unfolding line_at
wrong-write max k events line reason is =
    let first : first_reason (reasons max k events line) ≡ Some reason =
    first-write (IsBad max k events line) 0 (reasons max k events line) reason (ordered max k events line)
    (rows_mean max k events line) (omega arith) is.0 is.1 in
    rw first refl

pub wrong_mean : (max k events : ℕ) (line : List ℕ) (reason : LineReason) →
    (line_at max k events line ≡ Wrong reason) ↔ IsFirstReason max k events line reason
wrong_mean max k events line reason = (wrong-shows max k events line reason, wrong-write max k events line reason)

-- ---- lines that no reason applies to

said_blank : (reason : Option LineReason) (event : Option Event) → kind_of reason event ≡ Blank →
    (reason ≡ None) × (event ≡ None)
said_blank (Some reason) event h = cc h
said_blank None (Some event) h = cc h
said_blank None None h = (refl, refl)

said_happens : (reason : Option LineReason) (told : Option Event) (event : Event) →
    kind_of reason told ≡ Happens event → (reason ≡ None) × (told ≡ Some event)
said_happens (Some reason) told event h = cc h
said_happens None (Some told) event h = let same : told ≡ event = cc h in (refl, ap Some same)
said_happens None None event h = cc h

-- what no reason of the first four shows
record Passed (late long other event full : Bool) (rest : Option LineReason) : Type 0 where
  few : late ≡ false
  short : long ≡ false
  known : other ≡ false
  fewer : event ≡ true → full ≡ false
  none : rest ≡ None

passed_by : (late long other event full : Bool) (rest : Option LineReason) →
    (if late then Some Lines else if long then Some Long else if other then Some Kind else if event && full
    then Some Events else rest) ≡ None → Passed late long other event full rest
passed_by true long other event full rest h = cc h
passed_by false true other event full rest h = cc h
passed_by false false true event full rest h = cc h
passed_by false false false true true rest h = cc h
passed_by false false false true false rest h =
    record { few = refl; short = refl; known = refl; fewer = λ e. refl; none = h }
passed_by false false false false full rest h =
    record { few = refl; short = refl; known = refl; fewer = λ e. cc e; none = h }

-- an event line to which no reason applies reports an event
some_event : (moment : Option ℕ) (datagram more tick pull : Bool) (bytes : Option (List ℕ)) →
    (datagram || tick || pull) ≡ true →
    (if (datagram || tick || pull) && is_none moment then Some Moment else if (tick || pull) && more then Some End
    else if datagram && is_none bytes then Some Hex else None) ≡ None →
    event_by moment datagram more tick pull bytes ≡ None → ⊥
some_event None true more tick pull bytes event h none = cc h
some_event None false more true pull bytes event h none = cc h
some_event None false more false true bytes event h none = cc h
some_event None false more false false bytes event h none = cc event
some_event (Some m) true more tick pull (Some octets) event h none = cc none
some_event (Some m) true true true pull None event h none = cc h
some_event (Some m) true false true pull None event h none = cc h
some_event (Some m) true true false true None event h none = cc h
some_event (Some m) true false false true None event h none = cc h
some_event (Some m) true more false false None event h none = cc h
some_event (Some m) false true true pull bytes event h none = cc h
some_event (Some m) false false true pull bytes event h none = cc none
some_event (Some m) false true false true bytes event h none = cc h
some_event (Some m) false false false true bytes event h none = cc none
some_event (Some m) false more false false bytes event h none = cc event

-- to an event line that reports an event none of the last three reasons applies
no_reason : (moment : Option ℕ) (datagram more tick pull : Bool) (bytes : Option (List ℕ)) (told : Event) →
    (datagram ≡ true → tick ≡ false) → (datagram ≡ true → pull ≡ false) →
    event_by moment datagram more tick pull bytes ≡ Some told →
    (if (datagram || tick || pull) && is_none moment then Some Moment else if (tick || pull) && more then Some End
    else if datagram && is_none bytes then Some Hex else None) ≡ None
no_reason None datagram more tick pull bytes told not_tick not_pull h = cc h
no_reason (Some m) true more tick pull None told not_tick not_pull h = cc h
no_reason (Some m) true more tick pull (Some octets) told not_tick not_pull h = rw (not_tick refl, not_pull refl) refl
no_reason (Some m) false true tick pull bytes told not_tick not_pull h = cc h
no_reason (Some m) false false true pull bytes told not_tick not_pull h = refl
no_reason (Some m) false false false true bytes told not_tick not_pull h = refl
no_reason (Some m) false false false false bytes told not_tick not_pull h = cc

no_more : (line : List ℕ) → first_reason (event_reasons line) ≡ None → event_in line ≡ None → is_event line ≡ true → ⊥
unfolding event_in
no_more line h none event =
    some_event (moment_in line) (is_datagram line) (has_more line) (is_tick line) (is_pull line)
    (bytes_in line) event h none

no_reasons : (line : List ℕ) (told : Event) → event_in line ≡ Some told → first_reason (event_reasons line) ≡ None
unfolding event_in
no_reasons line told h =
    no_reason (moment_in line) (is_datagram line) (has_more line) (is_tick line) (is_pull line) (bytes_in line) told
    (no_tick line) (no_pull line) h

is_told : (event : Bool) (line : List ℕ) (told : Event) → is_event line ≡ event → event_in line ≡ Some told →
    event ≡ true
is_told true line told is h = refl
is_told false line told is h = let no : None ≡ Some told = sym (no_event line is) ∙ h in cc no

passed_line : (max k events : ℕ) (line : List ℕ) → first_reason (reasons max k events line) ≡ None →
    Passed (nat_lt most_lines k) (nat_lt longest_line (length line)) (not (is_blank line || is_event line))
    (is_event line) (nat_le max events) (first_reason (event_reasons line))
passed_line max k events line h =
    passed_by (nat_lt most_lines k) (nat_lt longest_line (length line)) (not (is_blank line || is_event line))
    (is_event line) (nat_le max events) (first_reason (event_reasons line)) h

is_nothing : (blank event : Bool) → not (blank || event) ≡ false → (event ≡ true → ⊥) → blank ≡ true
is_nothing true event h never = refl
is_nothing false true h never = absurd (never refl)
is_nothing false false h never = cc h

blank-shows : (max k events : ℕ) (line : List ℕ) → line_at max k events line ≡ Blank →
    (k ≤ most_lines) × (length line ≤ longest_line) × IsBlankLine line
unfolding line_at
blank-shows max k events line h =
    let none = said_blank (first_reason (reasons max k events line)) (event_in line) h in
    let passed = passed_line max k events line none.0 in (
      ltb-false most_lines k passed.few,
      ltb-false longest_line (length line) passed.short,
      blank-read line (is_nothing (is_blank line) (is_event line) passed.known (no_more line passed.none none.1)),
    )

pub blank_mean : (max k events : ℕ) (line : List ℕ) →
    (line_at max k events line ≡ Blank) ↔ ((k ≤ most_lines) × (length line ≤ longest_line) × IsBlankLine line)
blank_mean max k events line =
    (blank-shows max k events line, λ is. blank_line max k events line (blank-write line is.2) is.0 is.1)

happens-shows : (max k events : ℕ) (line : List ℕ) (event : Event) → line_at max k events line ≡ Happens event →
    (k ≤ most_lines) × (length line ≤ longest_line) × (events < max) × (event_in line ≡ Some event)
unfolding line_at
happens-shows max k events line event h =
    let shown = said_happens (first_reason (reasons max k events line)) (event_in line) event h in
    let passed = passed_line max k events line shown.0 in
    let is : is_event line ≡ true = is_told (is_event line) line event refl shown.1 in (
      ltb-false most_lines k passed.few,
      ltb-false longest_line (length line) passed.short,
      leb-false max events (passed.fewer is),
      shown.1,
    )

happens-write : (max k events : ℕ) (line : List ℕ) (event : Event) →
    (k ≤ most_lines) × (length line ≤ longest_line) × (events < max) × (event_in line ≡ Some event) →
    line_at max k events line ≡ Happens event
unfolding line_at
happens-write max k events line event is =
    let few : nat_lt most_lines k ≡ false = le-ltb most_lines k is.0 in
    let short : nat_lt longest_line (length line) ≡ false = le-ltb longest_line (length line) is.1 in
    let told : is_event line ≡ true = is_told (is_event line) line event refl is.3 in
    let known : not (is_blank line || is_event line) ≡ false = some_kind (is_blank line) (is_event line) told in
    let fewer : (is_event line && nat_le max events) ≡ false = not_full (is_event line) max events is.2 in
    let none : first_reason (event_reasons line) ≡ None = no_reasons line event is.3 in
    rw (few, short, known, fewer, none, is.3) refl
  where
    some_kind : (blank event : Bool) → event ≡ true → not (blank || event) ≡ false
    some_kind true event is = refl
    some_kind false event is = rw is refl

    not_full : (event : Bool) (max events : ℕ) → events < max → (event && nat_le max events) ≡ false
    not_full event max events below = grind arith

pub happens_mean : (max k events : ℕ) (line : List ℕ) (event : Event) →
    (line_at max k events line ≡ Happens event)
    ↔ ((k ≤ most_lines) × (length line ≤ longest_line) × (events < max) × (event_in line ≡ Some event))
happens_mean max k events line event = (happens-shows max k events line event, happens-write max k events line event)
