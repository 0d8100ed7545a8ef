-- What a worker's seat knows after a call, and at the worker's end.
use Rattle.std.specs.Prelude.{◌≡◌, ◌<◌, ◌≤◌, ◌⊎◌, ℕ, List, [], ◌∷◌, ◌++◌, length, map, slice_get, take, Some, Result, Err, IfOk, Vec}
use Rattle.std.specs.List.{AllZip}
use Rattle.std.specs.Global.{Global}
use Rattle.vrx_num.specs.declared.no_memory.NoMemory.{NoMemory}
use Rattle.vrx_codec.specs.Meaning.{Meaning}
use Rattle.vrx_core.specs.declared.event.Event.{Event}
use Rattle.vrx_core.specs.declared.settings.Settings.{Settings}
use Rattle.vrx_core.specs.machine.Machine.{reply}
use Rattle.vrx_text.specs.Transcript.{text_of}
use Rattle.vrx_lock.specs.declared.entry.Entry.{Entry}
use Rattle.vrx_lock.specs.declared.known.Known.{Known}
use Rattle.vrx_lock.specs.Journal.{history}
use Rattle.vrx_lock.specs.Lists.{BeginsWith}
use Rattle.vrx_lock.specs.Seats.{IsSameSeat, next_entry}
use Rattle.vrx_live.specs.Calls.{Call, calls_from}
use Rattle.vrx_live.specs.declared.calls.Stop.{Stop}
use Rattle.vrx_live.specs.declared.calls.Stop.TheVariants as stops
use Rattle.vrx_live.specs.declared.pieces.Piece.{Piece}

-- a call was done, maybe after some that found the turn taken
pub record Moved (old new : Known) (event : Event) (place : ℕ) : Type 0 where
  pub words : List ℕ
  pub before : List Entry
  pub known : new ≡ record old {
    seen = before ++ next_entry old event ∷ [];
    places = old.places ++ place ∷ [];
    words = words;
  }
  pub begins : BeginsWith before old.seen
  pub place_is : length before ≡ place

-- a text is that of the machine's reply to the event at a place of a journal
abbrev pub IsText : Settings → Meaning → List Entry → ℕ → ℕ → Event → List ℕ → Type 0
IsText settings codec journal place k event text =
    text ≡ text_of k (reply settings codec (history (take place journal)) event)

-- a call was done, and its text is right if there is one
pub record CallMade (codec : Meaning) (old new : Known) (k : ℕ) (event : Event) (place : ℕ)
    (text : Result (Vec ℕ Global) NoMemory) : Type 0 where
  pub moved : Moved old new event place
  pub text_is : IfOk text (λ octets. IsText old.setup.settings codec new.seen place k event octets.items)

-- the turn was taken some times, and nothing else happened
abbrev pub HasWaited : Known → Known → Type 0
HasWaited old new = (words : List ℕ) × (new ≡ record old { words = words })

-- no call was done: the turn was taken some times, or there was no memory, or the journal is full
abbrev pub CallStopped : Known → Known → Stop → Type 0
CallStopped old new stops.NoMemory = HasWaited old new
CallStopped old new stops.Full = (journal : List Entry) × (words : List ℕ) × (counts : List ℕ)
    × (new ≡ record old { seen = journal; words = words; counts = counts }) × BeginsWith journal old.seen
    × (length journal ≡ old.setup.room)

-- how a call failed: it wasn't done, or there was no memory for its text
abbrev pub CallFailed : Known → Known → Event → Stop → Type 0
CallFailed old new event stop =
    CallStopped old new stop ⊎ ((place : ℕ) × (stop ≡ stops.NoMemory) × Moved old new event place)

-- a call stands in a journal at a place
abbrev pub IsAt : List Entry → ℕ → Call → Type 0
IsAt journal place call = slice_get journal place ≡ Some call.1

-- a worker made the calls for these lines, with a seat that had made none
pub record Ran (old new : Known) (lines : List (ℕ × Event)) : Type 0 where
  pub same : IsSameSeat old new
  pub calls : AllZip (IsAt new.seen) new.places (calls_from old.actor 1 lines)

-- a piece has its call's place and line, and the text of the reply to it
pub record IsPiece (settings : Settings) (codec : Meaning) (journal : List Entry) (piece : Piece) (call : Call) : Type 0 where
  pub line : piece.k ≡ call.0
  pub at : IsAt journal piece.place call
  pub text : IsText settings codec journal piece.place call.0 call.1.event piece.text.items

-- the texts of all calls of a worker
pub record Kept (codec : Meaning) (old new : Known) (lines : List (ℕ × Event)) (pieces : List Piece) : Type 0 where
  pub ran : Ran old new lines
  pub are : AllZip (IsPiece old.setup.settings codec new.seen) pieces (calls_from old.actor 1 lines)
  pub places : map (λ piece. piece.place) pieces ≡ new.places

-- how a worker ends: it made the calls for its first lines. If it gives texts, these are all lines. If it met a full
-- journal, it has seen as many entries as there is room for, and not made all calls.
pub record Ended (codec : Meaning) (old new : Known) (lines : List (ℕ × Event)) (pieces : Result (Vec Piece Global) Stop) :
    Type 0 where
  pub count : ℕ
  pub few : count ≤ length lines
  pub ran : Ran old new (take count lines)
  pub kept : IfOk pieces (λ vec. (count ≡ length lines) × Kept codec old new lines vec.items)
  pub full : pieces ≡ Err stops.Full → (count < length lines) × (length new.seen ≡ old.setup.room)
