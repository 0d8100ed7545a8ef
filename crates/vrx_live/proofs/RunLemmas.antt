-- The three workers together: what the seat has seen, and the texts.
use Rattle.std.proofs.Common.{◌≡◌, ◌∙◌, ◌==◌, ℕ, zero, suc, ◌+◌, Bool, true, false, cond, List, [], ◌∷◌, length, map, take, zip, Some, refl, sym, ap, ap₂, subst, arith}
use Rattle.std.specs.Prelude.{nat_lt, slice_get}
use Rattle.std.specs.List.{AllZip}
use Rattle.std.proofs.lemmas.Option.{slice_get_within}
use Rattle.vrx_codec.specs.Meaning.{Meaning}
use Rattle.vrx_core.specs.declared.event.Event.{Event}
use Rattle.vrx_core.specs.declared.settings.Settings.{Settings}
use Rattle.vrx_core.specs.machine.Machine.{reply}
use Rattle.vrx_text.specs.Transcript.{text_of}
use Rattle.vrx_lock.specs.declared.entry.Entry.{Entry}
use Rattle.vrx_lock.specs.Journal.{history, history_from}
use Rattle.vrx_lock.specs.Lists.{RisesFrom, counted_from, merged, with_place}
use Rattle.vrx_live.specs.declared.lists.Lists.{Lists}
use Rattle.vrx_live.specs.declared.pieces.Piece.{Piece}
use Rattle.vrx_live.specs.Calls.{Call, Interleaves, calls_from, calls_of, entries_of}
use Rattle.vrx_live.specs.Texts.{texts_from}
use Rattle.vrx_live.specs.inside.Worker.{IsAt, IsPiece}
use Rattle.vrx_live.proofs.CallLemmas.{calls-length}
use Rattle.vrx_live.proofs.WeaveLemmas.{Each, each-unwoven, each-woven, each-zip, length-woven, spots, spots-woven, woven, zip-left, zip-right}
use Rattle.vrx_live.proofs.KeptLemmas.{filter-map, kept, kept-all, kept-first, kept-second}
use Rattle.vrx_live.proofs.FitLemmas.{fits, indexed}
use Rattle.vrx_live.proofs.PlacedLemmas.{IsRight, places_of}

rises-counted : (n k : ℕ) → RisesFrom n (counted_from n k)
rises-counted n zero = tt
rises-counted n (suc k) = (omega arith, rises-counted (n + 1) k)

pub length-counted : (n k : ℕ) → length (counted_from n k) ≡ k
length-counted n zero = refl
length-counted n (suc k) = ap suc (length-counted (n + 1) k)

length-with : (p : ℕ) (ps : List ℕ) → length (with_place p ps) ≡ suc (length ps)
length-with p [] = refl
length-with p (q ∷ ps) = of (length-with p ps) (nat_lt p q)
  where
    of : length (with_place p ps) ≡ suc (length ps) → (c : Bool)
        → length (cond c (p ∷ q ∷ ps) (q ∷ with_place p ps)) ≡ suc (suc (length ps))
    of rest true = refl
    of rest false = ap suc rest

pub length-merged : (ps qs : List ℕ) → length (merged ps qs) ≡ length ps + length qs
length-merged [] qs = omega arith
length-merged (p ∷ ps) qs = omega (arith, length-with p (merged ps qs), length-merged ps qs)

map-map : {A B C : Type 0} (f : B → C) (g : A → B) (xs : List A) → map f (map g xs) ≡ map (λ x. f (g x)) xs
map-map f g [] = refl
map-map f g (x ∷ xs) = ap (λ ys. f (g x) ∷ ys) (map-map f g xs)

length-map : {A B : Type 0} (f : A → B) (xs : List A) → length (map f xs) ≡ length xs
length-map f [] = refl
length-map f (x ∷ xs) = ap suc (length-map f xs)

-- whether calls of one actor are another's
each-actor : (actor other : ℕ) (c : Bool) → (actor == other) ≡ c → (turn : ℕ) (ps : List ℕ) (lines : List (ℕ × Event))
    → Each (λ (item : ℕ × Call). (item.1.1.actor == other) ≡ c) (zip ps (calls_from actor turn lines))
each-actor actor other c is turn [] lines = tt
each-actor actor other c is turn (p ∷ ps) [] = tt
each-actor actor other c is turn (p ∷ ps) (line ∷ lines) = (is, each-actor actor other c is (turn + 1) ps lines)

module _ (journal : List Entry) (lists : Lists) (ps1 ps2 ps3 : List ℕ)
    (at1 : AllZip (IsAt journal) ps1 (calls_from 1 1 lists.datagrams))
    (at2 : AllZip (IsAt journal) ps2 (calls_from 2 1 lists.ticks))
    (at3 : AllZip (IsAt journal) ps3 (calls_from 3 1 lists.pulls))
    (rises1 : RisesFrom 0 ps1) (rises2 : RisesFrom 0 (merged ps1 ps2))
    (all : merged (merged ps1 ps2) ps3 ≡ counted_from 0 (length journal)) where
  abbrev pub one : List (ℕ × Call)
  one = zip ps1 (calls_from 1 1 lists.datagrams)

  abbrev pub two : List (ℕ × Call)
  two = zip ps2 (calls_from 2 1 lists.ticks)

  abbrev pub three : List (ℕ × Call)
  three = zip ps3 (calls_from 3 1 lists.pulls)

  abbrev pub both : List (ℕ × Call)
  both = woven one two

  abbrev pub items : List (ℕ × Call)
  items = woven both three

  abbrev pub calls_in : List Call
  calls_in = map (λ (item : ℕ × Call). item.1) items

  spots-both : spots both ≡ merged ps1 ps2
  spots-both = spots-woven one two
      ∙ ap₂ merged (zip-left (IsAt journal) ps1 (calls_from 1 1 lists.datagrams) at1)
      (zip-left (IsAt journal) ps2 (calls_from 2 1 lists.ticks) at2)

  spots-items : spots items ≡ counted_from 0 (length journal)
  spots-items = spots-woven both three
      ∙ ap₂ merged spots-both (zip-left (IsAt journal) ps3 (calls_from 3 1 lists.pulls) at3) ∙ all

  each-at : Each (λ (item : ℕ × Call). slice_get journal item.0 ≡ Some item.1.1) items
  each-at = each-woven (λ (item : ℕ × Call). slice_get journal item.0 ≡ Some item.1.1) both three
      (each-woven (λ (item : ℕ × Call). slice_get journal item.0 ≡ Some item.1.1) one two
      (each-zip (IsAt journal) ps1 (calls_from 1 1 lists.datagrams) at1)
      (each-zip (IsAt journal) ps2 (calls_from 2 1 lists.ticks) at2))
      (each-zip (IsAt journal) ps3 (calls_from 3 1 lists.pulls) at3)

  pub seen-calls : journal ≡ entries_of calls_in
  seen-calls =
      fits (λ (call : Call). call.1) (λ p. slice_get journal p) 0 journal items spots-items
      (λ i. let same : 0 + i ≡ i = omega arith in ap (λ p. slice_get journal p) same) each-at
      ∙ sym (map-map (λ (call : Call). call.1) (λ (item : ℕ × Call). item.1) items)

  rises-both : RisesFrom 0 (spots both)
  rises-both = subst (RisesFrom 0) (sym spots-both) rises2

  rises-items : RisesFrom 0 (spots items)
  rises-items = subst (RisesFrom 0) (sym spots-items) (rises-counted 0 (length journal))

  rises-one : RisesFrom 0 (spots one)
  rises-one = subst (RisesFrom 0) (sym (zip-left (IsAt journal) ps1 (calls_from 1 1 lists.datagrams) at1)) rises1

  abbrev is-of : ℕ → Call → Bool
  is-of actor call = call.1.actor == actor

  of-actor : (actor : ℕ) → calls_of actor calls_in ≡ map (λ (item : ℕ × Call). item.1) (kept (is-of actor) items)
  of-actor actor = filter-map (is-of actor) (λ (item : ℕ × Call). item.1) items

  first-calls : calls_of 1 calls_in ≡ calls_from 1 1 lists.datagrams
  first-calls =
      of-actor 1
      ∙ ap (map (λ (item : ℕ × Call). item.1))
      (kept-first (is-of 1) 0 0 both three rises-both rises-items (each-actor 3 1 false refl 1 ps3 lists.pulls)
      ∙ kept-first (is-of 1) 0 0 one two rises-one rises-both (each-actor 2 1 false refl 1 ps2 lists.ticks)
      ∙ kept-all (is-of 1) one (each-actor 1 1 true refl 1 ps1 lists.datagrams))
      ∙ zip-right (IsAt journal) ps1 (calls_from 1 1 lists.datagrams) at1

  second-calls : calls_of 2 calls_in ≡ calls_from 2 1 lists.ticks
  second-calls =
      of-actor 2
      ∙ ap (map (λ (item : ℕ × Call). item.1))
      (kept-first (is-of 2) 0 0 both three rises-both rises-items (each-actor 3 2 false refl 1 ps3 lists.pulls)
      ∙ kept-second (is-of 2) one two (each-actor 1 2 false refl 1 ps1 lists.datagrams)
      ∙ kept-all (is-of 2) two (each-actor 2 2 true refl 1 ps2 lists.ticks))
      ∙ zip-right (IsAt journal) ps2 (calls_from 2 1 lists.ticks) at2

  third-calls : calls_of 3 calls_in ≡ calls_from 3 1 lists.pulls
  third-calls =
      of-actor 3
      ∙ ap (map (λ (item : ℕ × Call). item.1))
      (kept-second (is-of 3) both three
      (each-woven (λ (item : ℕ × Call). is-of 3 item.1 ≡ false) one two
      (each-actor 1 3 false refl 1 ps1 lists.datagrams) (each-actor 2 3 false refl 1 ps2 lists.ticks))
      ∙ kept-all (is-of 3) three (each-actor 3 3 true refl 1 ps3 lists.pulls))
      ∙ zip-right (IsAt journal) ps3 (calls_from 3 1 lists.pulls) at3

  length-item : (turn actor : ℕ) (ps : List ℕ) (lines : List (ℕ × Event))
      → AllZip (IsAt journal) ps (calls_from actor turn lines) → length (zip ps (calls_from actor turn lines)) ≡ length lines
  length-item turn actor ps lines at =
      sym (length-map (λ (item : ℕ × Call). item.1) (zip ps (calls_from actor turn lines)))
      ∙ ap length (zip-right (IsAt journal) ps (calls_from actor turn lines) at) ∙ calls-length actor turn lines

  pub interleaved : Interleaves lists calls_in
  interleaved = record {
    datagrams = first-calls;
    ticks = second-calls;
    pulls = third-calls;
    no_others = omega (
      arith,
      length-map (λ (item : ℕ × Call). item.1) items,
      length-woven both three,
      length-woven one two,
      length-item 1 1 ps1 lists.datagrams at1,
      length-item 1 2 ps2 lists.ticks at2,
      length-item 1 3 ps3 lists.pulls at3,
    );
  }

  -- each call of a worker stands at its place among all calls
  each-indexed : Each (λ (item : ℕ × Call). slice_get calls_in item.0 ≡ Some item.1) items
  each-indexed =
      indexed (λ p. slice_get calls_in p) 0 items
      (spots-items ∙ ap (counted_from 0)
      (ap length seen-calls ∙ length-map (λ (call : Call). call.1) calls_in
      ∙ length-map (λ (item : ℕ × Call). item.1) items))
      (λ i. let same : 0 + i ≡ i = omega arith in ap (λ p. slice_get calls_in p) same)

  each-both : Each (λ (item : ℕ × Call). slice_get calls_in item.0 ≡ Some item.1) both
  each-both = (each-unwoven (λ (item : ℕ × Call). slice_get calls_in item.0 ≡ Some item.1) both three each-indexed).0

  pub indexed-one : Each (λ (item : ℕ × Call). slice_get calls_in item.0 ≡ Some item.1) one
  indexed-one = (each-unwoven (λ (item : ℕ × Call). slice_get calls_in item.0 ≡ Some item.1) one two each-both).0

  pub indexed-two : Each (λ (item : ℕ × Call). slice_get calls_in item.0 ≡ Some item.1) two
  indexed-two = (each-unwoven (λ (item : ℕ × Call). slice_get calls_in item.0 ≡ Some item.1) one two each-both).1

  pub indexed-three : Each (λ (item : ℕ × Call). slice_get calls_in item.0 ≡ Some item.1) three
  indexed-three = (each-unwoven (λ (item : ℕ × Call). slice_get calls_in item.0 ≡ Some item.1) both three each-indexed).1

-- the text at a place
pub text-at : (settings : Settings) (codec : Meaning) (h : List Event) (calls : List Call) (p : ℕ) (call : Call)
    → slice_get calls p ≡ Some call
    → slice_get (texts_from settings codec h calls) p
    ≡ Some (call.0, text_of call.0 (reply settings codec (history_from h (take p (entries_of calls))) call.1.event))
text-at settings codec h [] p call e = absurd (omega (arith, slice_get_within [] p call e))
text-at settings codec h (c ∷ calls) zero call e =
    let same : c ≡ call = cc in
    ap (λ (x : Call). Some (x.0, text_of x.0 (reply settings codec h x.1.event))) same
text-at settings codec h (c ∷ calls) (suc p) call e = text-at settings codec (c.1.event ∷ h) calls p call e

pub length-texts : (settings : Settings) (codec : Meaning) (h : List Event) (calls : List Call)
    → length (texts_from settings codec h calls) ≡ length calls
length-texts settings codec h [] = refl
length-texts settings codec h (c ∷ calls) = ap suc (length-texts settings codec (c.1.event ∷ h) calls)

-- the pieces of a worker are right
pub pieces-right : (settings : Settings) (codec : Meaning) (journal : List Entry) (calls : List Call)
    → journal ≡ entries_of calls → (pieces : List Piece) (own : List Call)
    → AllZip (IsPiece settings codec journal) pieces own
    → Each (λ (item : ℕ × Call). slice_get calls item.0 ≡ Some item.1) (zip (places_of pieces) own)
    → Each (IsRight (texts_from settings codec [] calls)) pieces
pieces-right settings codec journal calls seen [] own are at = tt
pieces-right settings codec journal calls seen (piece ∷ pieces) [] are at = absurd are
pieces-right settings codec journal calls seen (piece ∷ pieces) (call ∷ own) are at = (
  text-at settings codec [] calls piece.place call at.0 ∙ ap Some (told piece call are.0),
  pieces-right settings codec journal calls seen pieces own are.1 at.1,
)
  where
    told : (piece : Piece) (call : Call) → IsPiece settings codec journal piece call
        → ◌≡◌ {A = ℕ × List ℕ}
        (call.0, text_of call.0 (reply settings codec (history (take piece.place (entries_of calls))) call.1.event))
        (piece.k, piece.text.items)
    told piece call is = λ t. (
      sym is.line t,
      (ap (λ js. text_of call.0 (reply settings codec (history (take piece.place js)) call.1.event)) (sym seen)
          ∙ sym is.text) t,
    )
