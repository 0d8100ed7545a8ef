-- The calls of a worker, one after the other.
use Rattle.std.proofs.Common.{◌≡◌, ◌∙◌, ℕ, ◌+◌, ◌<◌, List, [], ◌∷◌, ◌++◌, length, map, take, get_or, Some, Ok, Err, inl, inr, refl, sym, ap, subst, append_assoc, arith}
use Rattle.std.specs.Prelude.{slice_get}
use Rattle.std.specs.List.{AllZip}
use Rattle.std.proofs.lemmas.List.{append-nil, take_more}
use Rattle.vrx_codec.specs.Meaning.{Meaning}
use Rattle.vrx_core.specs.declared.event.Event.{Event}
use Rattle.vrx_core.specs.declared.settings.Settings.{Settings}
use Rattle.vrx_core.specs.machine.Machine.{reply}
use Rattle.vrx_text.specs.Transcript.{text_of}
use Rattle.vrx_lock.specs.declared.entry.Entry.{Entry}
use Rattle.vrx_lock.specs.declared.known.Known.{Known}
use Rattle.vrx_lock.specs.Journal.{entry, history}
use Rattle.vrx_lock.specs.Lists.{BeginsWith}
use Rattle.vrx_lock.specs.Seats.{IsSameSeat, next_entry}
use Rattle.vrx_live.specs.Calls.{Call, calls_from}
use Rattle.vrx_live.specs.declared.calls.Stop.{Stop}
use Rattle.vrx_live.specs.declared.calls.Stop.TheVariants as stops
use Rattle.vrx_live.specs.declared.pieces.Piece.{Piece}
use Rattle.vrx_live.specs.inside.Worker.{CallFailed, CallMade, Ended, IsAt, IsPiece, Kept, Moved, Ran}
use Rattle.vrx_live.proofs.ListLemmas.{get-begins, get-last, take-begins, zip-last, zip-length, zip-weaker}
use Rattle.vrx_live.proofs.CallLemmas.{calls-last, calls-length}

same-before : (a b c : Known) → IsSameSeat a b → IsSameSeat b c → IsSameSeat a c
same-before a b c ab bc = record {
  setup = bc.setup ∙ ab.setup;
  actor = bc.actor ∙ ab.actor;
  share = bc.share ∙ ab.share;
}

-- a list with one element more begins with what the list begins with
begins-next : {A : Type 0} (before seen : List A) (x : A) → BeginsWith before seen → BeginsWith (before ++ x ∷ []) seen
begins-next before seen x b = record {
  rest = b.rest ++ x ∷ [];
  is = ap (λ ys. ys ++ x ∷ []) b.is ∙ append_assoc seen b.rest (x ∷ []);
}

-- what was said of a journal is said of one that begins with it
pub at-begins : (later journal : List Entry) → BeginsWith later journal → (place : ℕ) (call : Call)
    → IsAt journal place call → IsAt later place call
at-begins later journal b place call at = get-begins later journal place call.1 b at

pub piece-begins : (settings : Settings) (codec : Meaning) (later journal : List Entry) → BeginsWith later journal
    → (piece : Piece) (call : Call) → IsPiece settings codec journal piece call → IsPiece settings codec later piece call
piece-begins settings codec later journal b piece call is = record {
  line = is.line;
  at = at-begins later journal b piece.place call is.at;
  text = is.text ∙ ap (λ js. text_of call.0 (reply settings codec (history js) call.1.event))
      (sym (take-begins later journal piece.place call.1 b is.at));
}

-- a seat that has made no calls
pub ran-none : (v : Known) → v.places ≡ [] → Ran v v []
ran-none v fresh = record {
  same = record { setup = refl; actor = refl; share = refl };
  calls = subst (λ ps. AllZip (IsAt v.seen) ps []) (sym fresh) tt;
}

-- as many calls as places
pub ran-length : (old new : Known) (lines : List (ℕ × Event)) → Ran old new lines → length new.places ≡ length lines
ran-length old new lines ran =
    zip-length (IsAt new.seen) new.places (calls_from old.actor 1 lines) ran.calls ∙ calls-length old.actor 1 lines

-- nothing was done, but more may be seen
pub ran-later : (old mid new : Known) (lines : List (ℕ × Event)) → Ran old mid lines → IsSameSeat mid new
    → new.places ≡ mid.places → BeginsWith new.seen mid.seen → Ran old new lines
ran-later old mid new lines ran same places b = record {
  same = same-before old mid new ran.same same;
  calls = subst (λ ps. AllZip (IsAt new.seen) ps (calls_from old.actor 1 lines)) (sym places)
      (zip-weaker (IsAt mid.seen) (IsAt new.seen) (at-begins new.seen mid.seen b) mid.places
      (calls_from old.actor 1 lines) ran.calls);
}

module _ (old mid new : Known) (lines : List (ℕ × Event)) (k : ℕ) (event : Event) (place : ℕ)
    (moved : Moved mid new event place) where
  seen-is : new.seen ≡ moved.before ++ next_entry mid event ∷ []
  seen-is = ap (λ (x : Known). x.seen) moved.known

  places-is : new.places ≡ mid.places ++ place ∷ []
  places-is = ap (λ (x : Known). x.places) moved.known

  moved-same : IsSameSeat mid new
  moved-same = record {
    setup = ap (λ (x : Known). x.setup) moved.known;
    actor = ap (λ (x : Known). x.actor) moved.known;
    share = ap (λ (x : Known). x.share) moved.known;
  }

  seen-begins : BeginsWith new.seen mid.seen
  seen-begins = subst (λ js. BeginsWith js mid.seen) (sym seen-is)
      (begins-next moved.before mid.seen (next_entry mid event) moved.begins)

  -- the entry of the call at the worker's count
  own-entry : Ran old mid lines → next_entry mid event ≡ entry old.actor (1 + length lines) event
  own-entry ran =
      let turn : length mid.places + 1 ≡ 1 + length lines = omega (arith, ran-length old mid lines ran) in
      ap (λ a. entry a (length mid.places + 1) event) ran.same.actor ∙ ap (λ t. entry old.actor t event) turn

  last-at : Ran old mid lines → IsAt new.seen place (k, entry old.actor (1 + length lines) event)
  last-at ran =
      ap (λ js. slice_get js place) seen-is
      ∙ ap (λ p. slice_get (moved.before ++ next_entry mid event ∷ []) p) (sym moved.place_is)
      ∙ get-last moved.before (next_entry mid event)
      ∙ ap Some (own-entry ran)

  pub ran-moved : Ran old mid lines → Ran old new (lines ++ (k, event) ∷ [])
  ran-moved ran = record {
    same = same-before old mid new ran.same moved-same;
    calls = subst (λ (x : List ℕ × List Call). AllZip (IsAt new.seen) x.0 x.1)
        (λ i. (sym places-is i, sym (calls-last old.actor 1 lines k event) i))
        (zip-last (IsAt new.seen) mid.places (calls_from old.actor 1 lines) place
        (k, entry old.actor (1 + length lines) event)
        (zip-weaker (IsAt mid.seen) (IsAt new.seen) (at-begins new.seen mid.seen seen-begins) mid.places
        (calls_from old.actor 1 lines) ran.calls)
        (last-at ran));
  }

map-last : {A B : Type 0} (f : A → B) (xs : List A) (x : A) → map f (xs ++ x ∷ []) ≡ map f xs ++ f x ∷ []
map-last f [] x = refl
map-last f (y ∷ xs) x = ap (λ ys. f y ∷ ys) (map-last f xs x)

-- no texts yet
pub kept-none : (codec : Meaning) (v : Known) → v.places ≡ [] → Kept codec v v [] []
kept-none codec v fresh = record { ran = ran-none v fresh; are = tt; places = sym fresh }

-- one text more
pub kept-made : (codec : Meaning) (old mid new : Known) (lines : List (ℕ × Event)) (pieces : List Piece) (k : ℕ)
    (event : Event) (piece : Piece) → Kept codec old mid lines pieces → piece.k ≡ k
    → CallMade codec mid new k event piece.place (Ok piece.text)
    → Kept codec old new (lines ++ (k, event) ∷ []) (pieces ++ piece ∷ [])
kept-made codec old mid new lines pieces k event piece kept line made =
    let settings : Settings = old.setup.settings in
    let call : Call = (k, entry old.actor (1 + length lines) event) in
    record {
      ran = ran-moved old mid new lines k event piece.place made.moved kept.ran;
      are = subst (λ cs. AllZip (IsPiece settings codec new.seen) (pieces ++ piece ∷ []) cs)
          (sym (calls-last old.actor 1 lines k event))
          (zip-last (IsPiece settings codec new.seen) pieces (calls_from old.actor 1 lines) piece call
          (zip-weaker (IsPiece settings codec mid.seen) (IsPiece settings codec new.seen)
          (piece-begins settings codec new.seen mid.seen
          (seen-begins old mid new lines k event piece.place made.moved)) pieces (calls_from old.actor 1 lines) kept.are)
          (record {
            line = line;
            at = last-at old mid new lines k event piece.place made.moved kept.ran;
            text = made.text_is ∙ ap (λ z. text_of k (reply z.settings codec (history (take piece.place new.seen)) event))
                kept.ran.same.setup;
          }));
      places = map-last (λ (p : Piece). p.place) pieces piece ∙ ap (λ ps. ps ++ piece.place ∷ []) kept.places
          ∙ sym (places-is old mid new lines k event piece.place made.moved);
    }

-- ---- the line at a place of a worker's list

module _ (codec : Meaning) (old mid new : Known) (lines : List (ℕ × Event)) (i : ℕ) (line : ℕ × Event)
    (low : i < length lines) (here : line ≡ get_or lines i line) where
  more : take (i + 1) lines ≡ take i lines ++ line ∷ []
  more = take_more lines i line low ∙ ap (λ x. take i lines ++ x ∷ []) (sym here)

  pub kept-next : (pieces after : List Piece) → Kept codec old mid (take i lines) pieces
      → (step : (piece : Piece) × (after ≡ pieces ++ piece ∷ []) × (piece.k ≡ line.0)
      × CallMade codec mid new line.0 line.1 piece.place (Ok piece.text))
      → Kept codec old new (take (i + 1) lines) after
  kept-next pieces after kept step =
      subst (λ (x : List (ℕ × Event) × List Piece). Kept codec old new x.0 x.1) (λ t. (sym more t, sym step.1 t))
      (kept-made codec old mid new (take i lines) pieces line.0 line.1 step.0 kept step.2 step.3)

  pub ended-failed : (pieces : List Piece) → Kept codec old mid (take i lines) pieces → (stop : Stop)
      → CallFailed mid new line.1 stop → Ended codec old new lines (Err stop)
  ended-failed pieces kept stops.NoMemory (inl waited) = record {
    count = i;
    few = omega (arith, low);
    ran = ran-later old mid new (take i lines) kept.ran (record {
      setup = ap (λ (x : Known). x.setup) waited.1;
      actor = ap (λ (x : Known). x.actor) waited.1;
      share = ap (λ (x : Known). x.share) waited.1;
    }) (ap (λ (x : Known). x.places) waited.1)
        (subst (λ js. BeginsWith js mid.seen) (sym (ap (λ (x : Known). x.seen) waited.1))
        (record { rest = []; is = sym (append-nil mid.seen) }));
    kept = tt;
    full = λ is. cc;
  }
  ended-failed pieces kept stops.Full (inl full) = record {
    count = i;
    few = omega (arith, low);
    ran = ran-later old mid new (take i lines) kept.ran (record {
      setup = ap (λ (x : Known). x.setup) full.3;
      actor = ap (λ (x : Known). x.actor) full.3;
      share = ap (λ (x : Known). x.share) full.3;
    }) (ap (λ (x : Known). x.places) full.3)
        (subst (λ js. BeginsWith js mid.seen) (sym (ap (λ (x : Known). x.seen) full.3)) full.4);
    kept = tt;
    full = λ is. (low, ap (λ (x : Known). length x.seen) full.3 ∙ full.5 ∙ ap (λ z. z.room) kept.ran.same.setup);
  }
  ended-failed pieces kept stop (inr moved) = record {
    count = i + 1;
    few = omega (arith, low);
    ran = subst (Ran old new) (sym more) (ran-moved old mid new (take i lines) line.0 line.1 moved.0 moved.2 kept.ran);
    kept = tt;
    full = λ is. let same = moved.1 in cc;
  }
