-- Texts that are put at their places.
use Rattle.std.proofs.Common.{◌≡◌, ◌≢◌, ◌∙◌, ℕ, zero, suc, ◌+◌, ◌<◌, ◌≤◌, ◌⊎◌, inl, inr, Bool, true, false, cond, List, [], ◌∷◌, ◌++◌, length, length-append, get_or, map, set, All, Some, refl, sym, ap, subst, ⊎_elim, arith}
use Rattle.std.specs.Prelude.{nat_lt, slice_get}
use Rattle.std.proofs.lemmas.Option.{slice_get_within}
use mathlib.Core.Logic.{dite}
use native.Mathlib.Decide.{ℕ_discrete}
use Rattle.vrx_lock.specs.Lists.{IsAmong, counted_from, merged, with_place}
use Rattle.vrx_live.specs.declared.pieces.Piece.{Piece}
use Rattle.vrx_live.specs.declared.printed.Text.{Text}
use Rattle.vrx_live.specs.inside.Placed.{placed, told}
use Rattle.vrx_live.proofs.WeaveLemmas.{Each}

abbrev pub places_of : List Piece → List ℕ
places_of pieces = map (λ (piece : Piece). piece.place) pieces

-- a piece has the text that stands at its place
abbrev pub IsRight : List (ℕ × List ℕ) → Piece → Type 0
IsRight texts piece = slice_get texts piece.place ≡ Some (piece.k, piece.text.items)

module _ {A : Type 0} where
  length-set : (xs : List A) (i : ℕ) (x : A) → length (set xs i x) ≡ length xs
  length-set [] i x = refl
  length-set (y ∷ xs) zero x = refl
  length-set (y ∷ xs) (suc i) x = ap suc (length-set xs i x)

  get-set : (xs : List A) (i : ℕ) (x : A) → i < length xs → slice_get (set xs i x) i ≡ Some x
  get-set [] i x lt = absurd (omega (arith, lt))
  get-set (y ∷ xs) zero x lt = refl
  get-set (y ∷ xs) (suc i) x lt = get-set xs i x (omega (arith, lt))

  get-other : (xs : List A) (i q : ℕ) (x : A) → q ≢ i → slice_get (set xs i x) q ≡ slice_get xs q
  get-other [] i q x ne = refl
  get-other (y ∷ xs) zero zero x ne = absurd (ne refl)
  get-other (y ∷ xs) zero (suc q) x ne = refl
  get-other (y ∷ xs) (suc i) zero x ne = refl
  get-other (y ∷ xs) (suc i) (suc q) x ne = get-other xs i q x (λ e. ne (ap suc e))

  -- lists with the same elements at all places
  pub same-elements : (xs ys : List A) → length xs ≡ length ys
      → ((q : ℕ) → q < length ys → slice_get xs q ≡ slice_get ys q) → xs ≡ ys
  same-elements [] [] e h = refl
  same-elements [] (y ∷ ys) e h = absurd (omega (arith, e))
  same-elements (x ∷ xs) [] e h = absurd (omega (arith, e))
  same-elements (x ∷ xs) (y ∷ ys) e h =
      let first : Some x ≡ Some y = h 0 (omega arith) in
      let same : x ≡ y = cc in
      ap (λ z. z ∷ xs) same
      ∙ ap (λ zs. y ∷ zs) (same-elements xs ys (omega (arith, e)) (λ q lt. h (suc q) (omega (arith, lt))))

pub placed-length : (pieces : List Piece) (texts : List (ℕ × List ℕ)) → length (placed pieces texts) ≡ length texts
placed-length [] texts = refl
placed-length (piece ∷ pieces) texts =
    length-set (placed pieces texts) piece.place (piece.k, piece.text.items) ∙ placed-length pieces texts

-- the last piece comes first
pub placed-last : (pieces : List Piece) (piece : Piece) (texts : List (ℕ × List ℕ))
    → placed (pieces ++ piece ∷ []) texts ≡ placed pieces (set texts piece.place (piece.k, piece.text.items))
placed-last [] piece texts = refl
placed-last (first ∷ pieces) piece texts =
    ap (λ ts. set ts first.place (first.k, first.text.items)) (placed-last pieces piece texts)

-- where a piece was put, or the text was right already, it is right
pub placed-right : (right : List (ℕ × List ℕ)) (pieces : List Piece) (texts : List (ℕ × List ℕ))
    → length texts ≡ length right → Each (IsRight right) pieces → (q : ℕ)
    → (slice_get texts q ≡ slice_get right q) ⊎ IsAmong q (places_of pieces)
    → slice_get (placed pieces texts) q ≡ slice_get right q
placed-right right [] texts e all q (inl is) = is
placed-right right [] texts e all q (inr h) = absurd h
placed-right right (piece ∷ pieces) texts e all q h =
    of (placed-right right pieces texts e all.1 q) (ℕ_discrete q piece.place) h
  where
    here : q ≡ piece.place
        → slice_get (set (placed pieces texts) piece.place (piece.k, piece.text.items)) q ≡ slice_get right q
    here same = ap (λ p. slice_get (set (placed pieces texts) piece.place (piece.k, piece.text.items)) p) same
        ∙ get-set (placed pieces texts) piece.place (piece.k, piece.text.items)
        (omega (
          arith,
          e,
          placed-length pieces texts,
          slice_get_within right piece.place (piece.k, piece.text.items) all.0,
        ))
        ∙ sym all.0 ∙ ap (λ p. slice_get right p) (sym same)

    of : ((slice_get texts q ≡ slice_get right q) ⊎ IsAmong q (places_of pieces)
        → slice_get (placed pieces texts) q ≡ slice_get right q) → Dec (q ≡ piece.place)
        → (slice_get texts q ≡ slice_get right q) ⊎ IsAmong q (places_of (piece ∷ pieces))
        → slice_get (set (placed pieces texts) piece.place (piece.k, piece.text.items)) q ≡ slice_get right q
    of rest (yes same) h' = here same
    of rest (no ne) (inl is) =
        get-other (placed pieces texts) piece.place q (piece.k, piece.text.items) ne ∙ rest (inl is)
    of rest (no ne) (inr (inl same)) = absurd (ne same)
    of rest (no ne) (inr (inr among)) =
        get-other (placed pieces texts) piece.place q (piece.k, piece.text.items) ne ∙ rest (inr among)

among-counted : (m n q : ℕ) → m ≤ q → q < m + n → IsAmong q (counted_from m n)
among-counted m zero q le lt = absurd (omega (arith, le, lt))
among-counted m (suc n) q le lt = dite (ℕ_discrete q m) (λ e. inl e)
    (λ ne. inr (among-counted (m + 1) n q (omega (arith, le, ne)) (omega (arith, lt))))

among-with : (q p : ℕ) (ps : List ℕ) → IsAmong q (with_place p ps) → (q ≡ p) ⊎ IsAmong q ps
among-with q p [] h = h
among-with q p (r ∷ ps) h = of (among-with q p ps) (nat_lt p r) h
  where
    of : (IsAmong q (with_place p ps) → (q ≡ p) ⊎ IsAmong q ps) → (c : Bool) → IsAmong q (cond c (p ∷ r ∷ ps) (r ∷ with_place p ps)) → (q ≡ p) ⊎ IsAmong q (r ∷ ps)
    of rest true h' = h'
    of rest false (inl e) = inr (inl e)
    of rest false (inr t) = ⊎_elim (λ e. inl e) (λ more. inr (inr more)) (rest t)

pub among-merged : (q : ℕ) (ps qs : List ℕ) → IsAmong q (merged ps qs) → IsAmong q ps ⊎ IsAmong q qs
among-merged q [] qs h = inr h
among-merged q (p ∷ ps) qs h = ⊎_elim (λ e. inl (inl e))
    (λ t. ⊎_elim (λ a. inl (inr a)) (λ b. inr b) (among-merged q ps qs t)) (among-with q p (merged ps qs) h)

-- three lists of right pieces, which have all places between them, give the right texts
pub all-placed : (right texts : List (ℕ × List ℕ)) (one two three : List Piece) → length texts ≡ length right
    → Each (IsRight right) one → Each (IsRight right) two → Each (IsRight right) three
    → merged (merged (places_of one) (places_of two)) (places_of three) ≡ counted_from 0 (length right)
    → placed three (placed two (placed one texts)) ≡ right
all-placed right texts one two three e r1 r2 r3 places =
    let first : List (ℕ × List ℕ) = placed one texts in
    let second : List (ℕ × List ℕ) = placed two first in
    let e1 : length first ≡ length right = placed-length one texts ∙ e in
    let e2 : length second ≡ length right = placed-length two first ∙ e1 in
    same-elements (placed three second) right (placed-length three second ∙ e2)
    (λ q lt. placed-right right three second e2 r3 q
    (⊎_elim
    (λ h. inl (⊎_elim
    (λ a. placed-right right two first e1 r2 q (inl (placed-right right one texts e r1 q (inr a))))
    (λ b. placed-right right two first e1 r2 q (inr b))
    (among-merged q (places_of one) (places_of two) h)))
    (λ c. inr c)
    (among-merged q (merged (places_of one) (places_of two)) (places_of three)
    (subst (λ ps. IsAmong q ps) (sym places) (among-counted 0 (length right) q (omega arith) (omega (arith, lt)))))))

-- right pieces have places below the number of texts
pub all-within : (right : List (ℕ × List ℕ)) (count : ℕ) (pieces : List Piece) → length right ≡ count
    → Each (IsRight right) pieces → All (λ piece. piece.place < count) pieces
all-within right count [] e all k d lt = absurd (omega (arith, lt))
all-within right count (piece ∷ pieces) e all zero d lt =
    omega (arith, e, slice_get_within right piece.place (piece.k, piece.text.items) all.0)
all-within right count (piece ∷ pieces) e all (suc k) d lt =
    all-within right count pieces e all.1 k d (omega (arith, lt))

-- ---- one step of putting texts

map-set : {A B : Type 0} (f : A → B) (xs : List A) (i : ℕ) (x : A) → map f (set xs i x) ≡ set (map f xs) i (f x)
map-set f [] i x = refl
map-set f (y ∷ xs) zero x = refl
map-set f (y ∷ xs) (suc i) x = ap (λ ys. f y ∷ ys) (map-set f xs i x)

pub placed-step : (before left : List Piece) (piece : Piece) (texts after : List Text) (text : Text)
    → before ≡ left ++ piece ∷ [] → after ≡ set texts piece.place text → told text ≡ (piece.k, piece.text.items)
    → placed left (map told after) ≡ placed before (map told texts)
placed-step before left piece texts after text e e' is =
    ap (λ ts. placed left (map told ts)) e'
    ∙ ap (placed left) (map-set told texts piece.place text ∙ ap (λ t. set (map told texts) piece.place t) is)
    ∙ sym (placed-last left piece (map told texts)) ∙ ap (λ ps. placed ps (map told texts)) (sym e)

get-front : {A : Type 0} (xs ys : List A) (k : ℕ) (d : A) → k < length xs → get_or (xs ++ ys) k d ≡ get_or xs k d
get-front [] ys k d lt = absurd (omega (arith, lt))
get-front (x ∷ xs) ys zero d lt = refl
get-front (x ∷ xs) ys (suc k) d lt = get-front xs ys k d (omega (arith, lt))

pub within-step : (before left : List Piece) (piece : Piece) (texts after : List Text) (text : Text)
    → before ≡ left ++ piece ∷ [] → after ≡ set texts piece.place text
    → All (λ piece. piece.place < length texts) before → All (λ piece. piece.place < length after) left
within-step before left piece texts after text e e' all k d lt =
    let here = all k d (omega (arith, lt, ap length e, length-append left (piece ∷ []))) in
    let same : get_or before k d ≡ get_or left k d = ap (λ ps. get_or ps k d) e ∙ get-front left (piece ∷ []) k d lt in
    omega (arith, here, ap (λ (p : Piece). p.place) same, ap length e', length-set texts piece.place text)

pub len-step : (texts after : List Text) (place : ℕ) (text : Text) → after ≡ set texts place text
    → length after ≡ length texts
len-step texts after place text e = ap length e ∙ length-set texts place text

pub length-map : {A B : Type 0} (f : A → B) (xs : List A) → length (map f xs) ≡ length xs
length-map f [] = refl
length-map f (x ∷ xs) = ap suc (length-map f xs)
