-- Lemmas on the lines of a text, by the place of its first line feed.
use Rattle.std.proofs.Common.{◌≡◌, ◌≢◌, ℕ, suc, ◌+◌, ◌<◌, ◌≤◌, Bool, true, false, not, ◌==◌, if◌then◌else◌, cond, eqb, eq-eqb, List, [], ◌∷◌, ◌++◌, length, take, get_or, refl, ap, ◌∙◌, inr, arith}
use Rattle.std.proofs.lemmas.Bool.{eqb-true}
use Rattle.std.proofs.Math.Seq.{take-append_seam}
use Rattle.std.proofs.lemmas.List.{take_more, take_all, length-append}
use Rattle.std.proofs.lemmas.List.Folds.{position_or_len_push}
use Rattle.std.proofs.lemmas.List.Sums.{passes_at_first}
use Rattle.vrx_capture.specs.Line.{feed_place, with_octet, lines_of}
use Rattle.vrx_capture.specs.Reader.{AreWhole}
use Rattle.vrx_capture.specs.Joins.{OneLine, LastLine}

-- the place of the first line feed, by what the first octet is
abbrev feed_behind : Bool → ℕ → ℕ
feed_behind is_feed place = cond (not is_feed) (1 + place) 0

take_next : (n o : ℕ) (os : List ℕ) → take (1 + n) (o ∷ os) ≡ o ∷ take n os
take_next n o os = let next : 1 + n ≡ suc n = omega arith in rw next refl

take_last : (n o : ℕ) (os : List ℕ) → take (n + 1) (o ∷ os) ≡ o ∷ take n os
take_last n o os = let next : n + 1 ≡ suc n = omega arith in rw next refl

-- ---- the first line

first_behind : (is_feed : Bool) (o : ℕ) (os : List ℕ) →
    (0 < length os → lines_of (take (feed_place os + 1) os) ≡ take (feed_place os) os ∷ []) →
    (if is_feed then [] ∷ lines_of (take (feed_behind is_feed (feed_place os)) os)
    else with_octet o (lines_of (take (feed_behind is_feed (feed_place os)) os))) ≡ take
    (feed_behind is_feed (feed_place os)) (o ∷ os) ∷ []
unfolding lines_of
first_behind true o os more = refl
first_behind false o [] more = refl
first_behind false o (p ∷ ps) more =
    let place : feed_place (p ∷ ps) + 1 ≡ 1 + feed_place (p ∷ ps) = omega arith in
    let line : lines_of (take (1 + feed_place (p ∷ ps)) (p ∷ ps)) ≡ take (feed_place (p ∷ ps)) (p ∷ ps) ∷ [] =
    rw place at (more (omega arith)) in
    rw (line, take_next (feed_place (p ∷ ps)) o (p ∷ ps)) refl

-- up to its first line feed a text is one line
pub first_line : (octets : List ℕ) → 0 < length octets →
    lines_of (take (feed_place octets + 1) octets) ≡ take (feed_place octets) octets ∷ []
unfolding lines_of
first_line [] some = absurd (omega arith)
first_line (o ∷ os) some = rw (take_last (feed_place (o ∷ os)) o os) (first_behind (o == 10) o os (first_line os))

-- a text with a line feed begins with whole lines
pub whole_line : (octets : List ℕ) → feed_place octets < length octets →
    AreWhole (take (feed_place octets + 1) octets)
whole_line octets within =
    let feed : get_or octets (feed_place octets) 0 ≡ 10 =
    eqb-true _ 10 (passes_at_first (λ octet. octet == 10) octets 0 within) in
    inr (
      take (feed_place octets) octets,
      take_more octets (feed_place octets) 0 within
          ∙ ap (λ (o : ℕ). take (feed_place octets) octets ++ o ∷ []) feed,
    )

some_length : (line : List ℕ) → line ≢ [] → 0 < length line
some_length [] some = absurd (some refl)
some_length (o ∷ os) some = omega arith

-- octets without a line feed at the end of a text
pub last_line : LastLine
last_line line no_feed some =
    let all : take (feed_place line + 1) line ≡ line = take_all (feed_place line + 1) line (omega (arith, no_feed)) in
    let same : take (feed_place line) line ≡ line = take_all (feed_place line) line (omega (arith, no_feed)) in
    rw (all, same) at (first_line line (some_length line some))

-- a line feed is the first after octets without one
feed_at_end : (line : List ℕ) → feed_place line ≡ length line → feed_place (line ++ 10 ∷ []) ≡ length line
feed_at_end line no_feed = position_or_len_push (λ octet. octet == 10) line 10
    ∙ ap (λ n. cond (eqb n (length line)) (length line + 0) n) no_feed
    ∙ ap (λ b. cond b (length line + 0) (length line)) (eq-eqb (length line) (length line) refl) ∙ omega arith

-- octets without a line feed, ended by one
pub one_line : OneLine
one_line line no_feed =
    let octets : List ℕ = line ++ 10 ∷ [] in
    let place : feed_place octets ≡ length line = feed_at_end line no_feed in
    let all : take (feed_place octets + 1) octets ≡ octets =
    take_all (feed_place octets + 1) octets (omega (arith, place, length-append line (10 ∷ []))) in
    let same : take (feed_place octets) octets ≡ line =
    ap (λ n. take n octets) place ∙ take-append_seam line (10 ∷ []) in
    rw (all, same) at (first_line octets (omega (arith, length-append line (10 ∷ []))))

-- ---- a first line that may go on

-- how long the first line is
abbrev pub first_length : List (List ℕ) → ℕ
first_length [] = 0
first_length (line ∷ lines) = length line

first_length-with_octet : (o : ℕ) (lines : List (List ℕ)) → first_length (with_octet o lines) ≡ 1 + first_length lines
first_length-with_octet o [] = refl
first_length-with_octet o (line ∷ lines) = omega arith

long_behind : (is_feed : Bool) (o : ℕ) (os : List ℕ) (lines : List (List ℕ)) → feed_place os ≤ first_length lines →
    feed_behind is_feed (feed_place os) ≤ first_length (if is_feed then [] ∷ lines else with_octet o lines)
long_behind true o os lines more = omega arith
long_behind false o os lines more = omega (arith, first_length-with_octet o lines)

-- the first line holds all that stands before the first line feed
pub feed_le_first : (kept rest : List ℕ) → feed_place kept ≤ first_length (lines_of (kept ++ rest))
unfolding lines_of
feed_le_first [] rest = omega arith
feed_le_first (o ∷ os) rest = long_behind (o == 10) o os (lines_of (os ++ rest)) (feed_le_first os rest)
