-- Lemmas on what the lines of a capture mean.
use Rattle.std.proofs.Common.{◌≡◌, ◌≢◌, ℕ, ◌+◌, ◌^◌, ◌<◌, ◌≤◌, ◌==◌, Bool, true, false, if◌then◌else◌, List, [], ◌∷◌, ◌++◌, length, take, drop, get_or, Option, Some, None, is_some, Result, Ok, Err, refl, sym, ap, ◌∙◌, inl, inr, append_assoc, arith}
use Rattle.std.specs.Prelude.{◌↔◌, codes}
use Rattle.std.specs.Fmt.{decimal}
use Rattle.std.specs.List.{position_or_len, list_any}
use Rattle.std.specs.Option.{option_map}
use Rattle.std.specs.Result.{result_ok}
use Rattle.std.specs.Str.{all_ascii_digits}
use Rattle.std.proofs.lemmas.Bool.{cases_lt, eqb-true}
use Rattle.std.proofs.lemmas.List.{drop_all, drop_at, take_at, take_all, drop-drop}
use Rattle.std.proofs.lemmas.List.Sums.{split_at_first, passes_at_first}
use Rattle.hex.specs.Hex.{decode_of}
use Rattle.hex.specs.declared.error.FromHexError.{FromHexError}
use Rattle.hex.proofs.OnLiterals.{hex_on_literals}
use Rattle.vrx_core.specs.declared.event.Event.TheVariants.{Datagram, Tick, Pull}
use Rattle.vrx_capture.specs.Words.{after_prefix, until_space, after_space, number_in}
use Rattle.vrx_num.specs.OptionChain.{◌>>=◌}
use Rattle.vrx_capture.specs.Line.{latest_moment, begins, is_datagram, is_tick, is_pull, after_letter, moment_in, has_more, some_octets, octets_in, bytes_in, event_in}
use Rattle.vrx_capture.specs.IsLine.{IsDatagramLine}
use Rattle.vrx_capture.proofs.NumberLemmas.{number_mean, decimal_digits}

-- what a value after a step shows
pub bind_some : {A B : Type 0} (o : Option A) (f : A → Option B) (y : B) → (o >>= f) ≡ Some y →
    (x : A) × (o ≡ Some x) × (f x ≡ Some y)
bind_some None f y h = cc h
bind_some (Some x) f y h = (x, refl, h)

-- ---- words

-- digits hold no space
digits_plain : (ds : List ℕ) → all_ascii_digits ds ≡ true → list_any (λ o. o == 32) ds ≡ false
digits_plain [] digits = refl
digits_plain (d ∷ ds) digits =
    let more : list_any (λ o. o == 32) ds ≡ false = digits_plain ds (grind arith) in
    let no_space : (d == 32) ≡ false = grind arith in
    rw (no_space, more) refl

pub decimal_plain : (n : ℕ) → n < 2 ^ 64 → list_any (λ o. o == 32) (decimal n) ≡ false
decimal_plain n fits = digits_plain (decimal n) (decimal_digits n fits)

place-write : (w rest : List ℕ) → list_any (λ o. o == 32) w ≡ false →
    position_or_len (λ octet. octet == 32) (w ++ 32 ∷ rest) ≡ length w
place-write [] rest plain = refl
place-write (o ∷ w) rest plain =
    let more : position_or_len (λ octet. octet == 32) (w ++ 32 ∷ rest) ≡ length w =
    place-write w rest (grind arith) in
    let no_space : (o == 32) ≡ false = grind arith in
    rw (no_space, more) (omega arith)

-- what holds no space, with a space after it, is the word
pub until_space-write : (w rest : List ℕ) → list_any (λ o. o == 32) w ≡ false →
    (until_space (w ++ 32 ∷ rest) ≡ w) × (after_space (w ++ 32 ∷ rest) ≡ rest)
unfolding until_space after_space
until_space-write w rest plain =
    let place : position_or_len (λ octet. octet == 32) (w ++ 32 ∷ rest) ≡ length w = place-write w rest plain in (
      ap (λ (n : ℕ). take n (w ++ 32 ∷ rest)) place ∙ take_at w (32 ∷ rest) (length w) refl,
      ap (λ (n : ℕ). drop (n + 1) (w ++ 32 ∷ rest)) place ∙ sym (drop-drop 1 (length w) (w ++ 32 ∷ rest))
          ∙ ap (λ (octets : List ℕ). drop 1 octets) (drop_at w (32 ∷ rest) (length w) refl),
    )

-- if something stands after the first space, the text is the word, the space and this
pub until_space-read : (text : List ℕ) → after_space text ≢ [] → text ≡ until_space text ++ 32 ∷ after_space text
unfolding until_space after_space
until_space-read text some = elim (cases_lt (position_or_len (λ octet. octet == 32) text) (length text)) [
  | inl within ↦
      let space : get_or text (position_or_len (λ octet. octet == 32) text) 0 ≡ 32 =
      eqb-true _ 32 (passes_at_first (λ octet. octet == 32) text 0 within) in
      rw space at (split_at_first (λ octet. octet == 32) text 0 within)
  | inr beyond ↦ absurd (some (drop_all _ text (omega arith)))
]

place_all : (w : List ℕ) → list_any (λ o. o == 32) w ≡ false → position_or_len (λ octet. octet == 32) w ≡ length w
place_all [] plain = refl
place_all (o ∷ w) plain =
    let more : position_or_len (λ octet. octet == 32) w ≡ length w = place_all w (grind arith) in
    let no_space : (o == 32) ≡ false = grind arith in
    rw (no_space, more) (omega arith)

-- what holds no space is one word
pub until_space-whole : (w : List ℕ) → list_any (λ o. o == 32) w ≡ false → until_space w ≡ w
unfolding until_space
until_space-whole w plain = take_all _ w (omega (arith, place_all w plain))

-- ---- octets

decoded : (r : Result (List ℕ) FromHexError) (octets : List ℕ) → some_octets (result_ok r) ≡ Some octets →
    (r ≡ Ok octets) × (octets ≢ [])
decoded (Ok []) octets h = cc h
decoded (Ok (o ∷ os)) octets h = let same : o ∷ os ≡ octets =
    grind arith in (ap Ok same, rw (← same) (λ none. cc none))
decoded (Err e) octets h = cc h

pub octets_in-read : (digits octets : List ℕ) → octets_in digits ≡ Some octets →
    (decode_of digits ≡ Ok octets) × (octets ≢ [])
unfolding octets_in
octets_in-read digits octets h = decoded (decode_of digits) octets h

some_octets-some : (octets : List ℕ) → octets ≢ [] → some_octets (Some octets) ≡ Some octets
some_octets-some [] some = absurd (some refl)
some_octets-some (o ∷ os) some = refl

pub octets_in-write : (digits octets : List ℕ) → decode_of digits ≡ Ok octets → octets ≢ [] →
    octets_in digits ≡ Some octets
unfolding octets_in
octets_in-write digits octets hex some = rw hex (some_octets-some octets some)

-- nothing decodes to no octet
pub octets_in-some : (digits octets : List ℕ) → octets_in digits ≡ Some octets → digits ≢ []
unfolding octets_in hex_on_literals
octets_in-some [] octets h none = cc h
octets_in-some (digit ∷ digits) octets h none = cc none

-- ---- what an event line begins with

pub begins_two : (c : ℕ) (line : List ℕ) → begins (c ∷ 32 ∷ []) line ≡ true → line ≡ c ∷ 32 ∷ after_letter line
unfolding after_prefix
begins_two c [] h = cc h
begins_two c (o ∷ []) h = by (o == c) None refl h
  where
    by : (same : Bool) (rest : Option (List ℕ)) → rest ≡ None → is_some (if same then rest else None) ≡ true →
        o ∷ [] ≡ c ∷ 32 ∷ []
    by true rest e h = let no : false ≡ true = rw e at h in cc no
    by false rest e h = cc h
begins_two c (o ∷ s ∷ rest) h = by (o == c) (s == 32) refl refl h
  where
    by : (first second : Bool) → (o == c) ≡ first → (s == 32) ≡ second →
        is_some (if first then (if second then Some rest else None) else None) ≡ true → o ∷ s ∷ rest ≡ c ∷ 32 ∷ rest
    by true true e f h = rw (eqb-true o c e, eqb-true s 32 f) refl
    by true false e f h = cc h
    by false second e f h = cc h

-- ---- datagrams

-- the text of a datagram
datagram_text : (m : ℕ) (digits : List ℕ) →
    codes "d " ++ decimal m ++ codes " " ++ digits ≡ codes "d " ++ (decimal m ++ 32 ∷ digits)
datagram_text m digits =
    append_assoc (codes "d " ++ decimal m) (codes " ") digits ∙ append_assoc (codes "d ") (decimal m) (32 ∷ digits)

-- a datagram is reported by a line that begins so, with its octets
datagram_by : (n m : ℕ) (octets : List ℕ) (datagram more tick pull : Bool) (bytes : Option (List ℕ)) →
    (if datagram then option_map (λ told. Datagram n told) bytes else if more then None else if tick
    then Some (Tick n) else if pull then Some (Pull n) else None) ≡ Some (Datagram m octets) →
    (datagram ≡ true) × (n ≡ m) × (bytes ≡ Some octets)
datagram_by n m octets true more tick pull (Some told) h = (refl, cc h, cc h)
datagram_by n m octets true more tick pull None h = cc h
datagram_by n m octets false true tick pull bytes h = cc h
datagram_by n m octets false false true pull bytes h = cc h
datagram_by n m octets false false false true bytes h = cc h
datagram_by n m octets false false false false bytes h = cc h

datagram-read : (line : List ℕ) (m : ℕ) (octets : List ℕ) → event_in line ≡ Some (Datagram m octets) →
    IsDatagramLine line m octets
unfolding event_in
datagram-read line m octets h =
    let moment = bind_some (moment_in line) _ (Datagram m octets) h in
    let found = datagram_by moment.0 m octets (is_datagram line) (has_more line) (is_tick line) (is_pull line)
    (bytes_in line) moment.2 in
    let text : line ≡ codes "d " ++ after_letter line = begins_two 100 line found.0 in
    let number = (number_mean latest_moment moment.0 (until_space (after_letter line)) (omega arith)).0 moment.1 in
    let hex = octets_in-read (after_space (after_letter line)) octets found.2 in
    let some : after_space (after_letter line) ≢ [] =
    octets_in-some (after_space (after_letter line)) octets found.2 in
    let spelled : after_letter line ≡ decimal m ++ 32 ∷ after_space (after_letter line) =
    until_space-read (after_letter line) some
    ∙ ap (λ (w : List ℕ). w ++ 32 ∷ after_space (after_letter line)) (number.0 ∙ ap decimal found.1) in
    record {
      digits = after_space (after_letter line);
      spelled = text ∙ ap (λ (w : List ℕ). codes "d " ++ w) spelled
          ∙ sym (datagram_text m (after_space (after_letter line)));
      hex = hex.0;
      some = hex.1;
      moment = omega (arith, found.1, number.1);
    }

datagram-write : (line : List ℕ) (m : ℕ) (octets : List ℕ) → IsDatagramLine line m octets →
    event_in line ≡ Some (Datagram m octets)
unfolding event_in after_prefix
datagram-write line m octets is =
    let number : number_in latest_moment (decimal m) ≡ Some m =
    (number_mean latest_moment m (decimal m) (omega (arith, is.moment))).1 (refl, is.moment) in
    let parts = until_space-write (decimal m) is.digits (decimal_plain m (omega (arith, is.moment))) in
    rw (
      is.spelled ∙ datagram_text m is.digits,
      parts.0,
      number,
      parts.1,
      octets_in-write is.digits octets is.hex is.some,
    ) refl

pub datagram_mean : (line : List ℕ) (m : ℕ) (octets : List ℕ) →
    (event_in line ≡ Some (Datagram m octets)) ↔ IsDatagramLine line m octets
datagram_mean line m octets = (datagram-read line m octets, datagram-write line m octets)

-- ---- ticks and pulls

-- a line that reports only a moment
alone : (c m n : ℕ) (line : List ℕ) → begins (c ∷ 32 ∷ []) line ≡ true → has_more line ≡ false →
    moment_in line ≡ Some n → n ≡ m → (line ≡ c ∷ 32 ∷ decimal m) × (m ≤ latest_moment)
alone c m n line kind plain moment same =
    let number = (number_mean latest_moment n (until_space (after_letter line)) (omega arith)).0 moment in
    let text : after_letter line ≡ decimal m =
    sym (until_space-whole (after_letter line) plain) ∙ number.0 ∙ ap decimal same in
    (begins_two c line kind ∙ ap (λ (w : List ℕ). c ∷ 32 ∷ w) text, omega (arith, number.1, same))

tick_by : (n m : ℕ) (datagram more tick pull : Bool) (bytes : Option (List ℕ)) →
    (if datagram then option_map (λ told. Datagram n told) bytes else if more then None else if tick
    then Some (Tick n) else if pull then Some (Pull n) else None) ≡ Some (Tick m) →
    (more ≡ false) × (tick ≡ true) × (n ≡ m)
tick_by n m true more tick pull (Some told) h = cc h
tick_by n m true more tick pull None h = cc h
tick_by n m false true tick pull bytes h = cc h
tick_by n m false false true pull bytes h = (refl, refl, cc h)
tick_by n m false false false true bytes h = cc h
tick_by n m false false false false bytes h = cc h

tick-read : (line : List ℕ) (m : ℕ) → event_in line ≡ Some (Tick m) →
    (line ≡ codes "t " ++ decimal m) × (m ≤ latest_moment)
unfolding event_in
tick-read line m h =
    let moment = bind_some (moment_in line) _ (Tick m) h in
    let found = tick_by moment.0 m (is_datagram line) (has_more line) (is_tick line) (is_pull line)
    (bytes_in line) moment.2 in
    alone 116 m moment.0 line found.1 found.0 moment.1 found.2

pull_by : (n m : ℕ) (datagram more tick pull : Bool) (bytes : Option (List ℕ)) →
    (if datagram then option_map (λ told. Datagram n told) bytes else if more then None else if tick
    then Some (Tick n) else if pull then Some (Pull n) else None) ≡ Some (Pull m) →
    (more ≡ false) × (pull ≡ true) × (n ≡ m)
pull_by n m true more tick pull (Some told) h = cc h
pull_by n m true more tick pull None h = cc h
pull_by n m false true tick pull bytes h = cc h
pull_by n m false false true pull bytes h = cc h
pull_by n m false false false true bytes h = (refl, refl, cc h)
pull_by n m false false false false bytes h = cc h

pull-read : (line : List ℕ) (m : ℕ) → event_in line ≡ Some (Pull m) →
    (line ≡ codes "p " ++ decimal m) × (m ≤ latest_moment)
unfolding event_in
pull-read line m h =
    let moment = bind_some (moment_in line) _ (Pull m) h in
    let found = pull_by moment.0 m (is_datagram line) (has_more line) (is_tick line) (is_pull line)
    (bytes_in line) moment.2 in
    alone 112 m moment.0 line found.1 found.0 moment.1 found.2

-- what is written of a moment
written : (m : ℕ) → m ≤ latest_moment →
    (number_in latest_moment (until_space (decimal m)) ≡ Some m)
    × (list_any (λ octet. octet == 32) (decimal m) ≡ false)
written m bound =
    let plain : list_any (λ octet. octet == 32) (decimal m) ≡ false = decimal_plain m (omega arith) in
    let number : number_in latest_moment (decimal m) ≡ Some m =
    (number_mean latest_moment m (decimal m) (omega arith)).1 (refl, bound) in
    (rw (until_space-whole (decimal m) plain) number, plain)

tick-write : (line : List ℕ) (m : ℕ) → (line ≡ codes "t " ++ decimal m) × (m ≤ latest_moment) →
    event_in line ≡ Some (Tick m)
unfolding event_in after_prefix
tick-write line m is = let moment = written m is.1 in rw (is.0, moment.0, moment.1) refl

pull-write : (line : List ℕ) (m : ℕ) → (line ≡ codes "p " ++ decimal m) × (m ≤ latest_moment) →
    event_in line ≡ Some (Pull m)
unfolding event_in after_prefix
pull-write line m is = let moment = written m is.1 in rw (is.0, moment.0, moment.1) refl

pub tick_mean : (line : List ℕ) (m : ℕ) →
    (event_in line ≡ Some (Tick m)) ↔ ((line ≡ codes "t " ++ decimal m) × (m ≤ latest_moment))
tick_mean line m = (tick-read line m, tick-write line m)

pub pull_mean : (line : List ℕ) (m : ℕ) →
    (event_in line ≡ Some (Pull m)) ↔ ((line ≡ codes "p " ++ decimal m) × (m ≤ latest_moment))
pull_mean line m = (pull-read line m, pull-write line m)
