-- What a receiver and a seat are to contracts, and what each call leaves.
use Rattle.std.specs.Prelude.{◌≡◌, ◌≢◌, ◌+◌, ◌<◌, ◌≤◌, ◌⊎◌, ℕ, List, [], ◌∷◌, ◌++◌, length, if◌then◌else◌, nat_le}
use Rattle.atomic_table.specs.Seated.{TableId}
use Rattle.vrx_codec.specs.Meaning.{Meaning}
use Rattle.vrx_core.specs.declared.event.Event.{Event}
use Rattle.vrx_core.specs.machine.Machine.{Reply, reply}
use Rattle.vrx_lock.specs.declared.entry.Entry.{Entry}
use Rattle.vrx_lock.specs.declared.known.Setup.{Setup}
use Rattle.vrx_lock.specs.declared.known.Known.{Known}
use Rattle.vrx_lock.specs.declared.done.OfferFault.{OfferFault}
use Rattle.vrx_lock.specs.declared.done.OfferFault.TheVariants.{Busy, JournalFull, NoMemory}
use Rattle.vrx_lock.specs.declared.done.TickFault.{TickFault}
use Rattle.vrx_lock.specs.declared.done.TickFault.TheVariants as ticks
use Rattle.vrx_lock.specs.declared.limits.TheConstants.{MOST_ENTRIES}
use Rattle.vrx_lock.specs.Lists.{AllBelow, BeginsWith, IsAmong, RisesFrom, counted_from, merged}
use Rattle.vrx_lock.specs.Shares.{IsWhole, added, halved}
use Rattle.vrx_lock.specs.Journal.{IsLegal, entry, history}

-- a receiver: which table it shares, and what it was told when it was made
pub record ReceiverParts : Type 0 where
  pub table : TableId
  pub setup : Setup

-- a seat: of which table, and what it knows
pub record SeatParts : Type 0 where
  pub table : TableId
  pub known : Known

-- what the first seat knows
abbrev pub first_known : Setup → Known
first_known setup = record {
  setup = setup;
  actor = 0;
  seen = [];
  places = [];
  words = [];
  counts = [];
  share = record { parts = 1; depth = 0 };
}

-- what a seat knows whose share is halved
abbrev pub after_split : Known → Known
after_split known = record known { share = halved known.share }

-- what the seat knows that has the other half
abbrev pub newcomer : ℕ → Known → Known
newcomer actor known = record {
  setup = known.setup;
  actor = actor;
  seen = known.seen;
  places = [];
  words = [];
  counts = [];
  share = halved known.share;
}

-- the entry of a seat's next call
abbrev pub next_entry : Known → Event → Entry
next_entry known event = entry known.actor (length known.places + 1) event

-- what no offer and no look changes of a seat
pub record IsSameSeat (old new : Known) : Type 0 where
  pub setup : new.setup ≡ old.setup
  pub actor : new.actor ≡ old.actor
  pub share : new.share ≡ old.share

-- An offer was done: this event is the last entry of a journal that begins with what the seat had seen, and the answer
-- is the machine's to it after the events before. The seat has seen that journal, and its words grew by one 0.
pub record DoneAt (codec : Meaning) (old new : Known) (event : Event) (place : ℕ) (answer : Reply) : Type 0 where
  pub before : List Entry
  pub known : new ≡ record old {
    seen = before ++ next_entry old event ∷ [];
    places = old.places ++ place ∷ [];
    words = old.words ++ 0 ∷ [];
  }
  pub begins : BeginsWith before old.seen
  pub place_is : length before ≡ place
  pub room : place < old.setup.room
  pub legal : IsLegal new.seen
  pub answer_is : answer ≡ reply old.setup.settings codec (history before) event

-- An offer found the turn taken: it found `holder`, which isn't 0, and nothing else changed. The seat isn't whole.
pub record BusyAt (old new : Known) (holder : ℕ) : Type 0 where
  pub known : new ≡ record old { words = old.words ++ holder ∷ [] }
  pub taken : holder ≢ 0
  pub not_whole : IsWhole old.share → ⊥

-- An offer found the journal full: it took the turn, and the seat has seen all entries, which are as many as there is
-- room for.
pub record FullAt (old new : Known) : Type 0 where
  pub journal : List Entry
  pub known : new ≡ record old {
    seen = journal;
    words = old.words ++ 0 ∷ [];
    counts = old.counts ++ old.setup.room ∷ [];
  }
  pub begins : BeginsWith journal old.seen
  pub full : length journal ≡ old.setup.room

-- an offer was refused
abbrev pub RefusedAt : Known → Known → OfferFault → Type 0
RefusedAt old new (Busy holder) = BusyAt old new holder
RefusedAt old new JournalFull = FullAt old new
RefusedAt old new NoMemory = (new ≡ old) ⊎ (new ≡ record old { words = old.words ++ 0 ∷ [] })

-- a tick was refused
abbrev pub TickRefusedAt : Known → Known → TickFault → Type 0
TickRefusedAt old new (ticks.Busy holder) = BusyAt old new holder
TickRefusedAt old new ticks.JournalFull = FullAt old new

-- A look at the journal's length: the seat has then seen so many entries. A whole seat has all their places.
pub record Glanced (old : Known) (count : ℕ) (new : Known) : Type 0 where
  pub journal : List Entry
  pub known : new ≡ record old { seen = journal; counts = old.counts ++ count ∷ [] }
  pub begins : BeginsWith journal old.seen
  pub count_is : length journal ≡ count
  pub room : count ≤ old.setup.room
  pub whole : IsWhole old.share → old.places ≡ counted_from 0 count

-- the longer of two lists, and the shorter
abbrev pub longer : List Entry → List Entry → List Entry
longer a b = if nat_le (length b) (length a) then a else b

abbrev pub shorter : List Entry → List Entry → List Entry
shorter a b = if nat_le (length b) (length a) then b else a

-- Two seats became one: what one has seen begins with what the other has, and no place is in both. The seat has then
-- the longer list, the places of both, and one look more. If it is whole, its places are all of what it has seen.
pub record Joined (old other new : Known) : Type 0 where
  pub count : ℕ
  pub known : new ≡ record old {
    seen = longer old.seen other.seen;
    places = merged old.places other.places;
    words = old.words ++ other.words;
    counts = (old.counts ++ other.counts) ++ count ∷ [];
    share = added old.share other.share;
  }
  pub begins : BeginsWith (longer old.seen other.seen) (shorter old.seen other.seen)
  pub apart : (place : ℕ) → IsAmong place old.places → IsAmong place other.places → ⊥
  pub count_is : length new.seen ≤ count
  pub room : count ≤ old.setup.room
  pub whole : IsWhole new.share → new.places ≡ counted_from 0 (length new.seen)

-- what always holds of a seat: its places rise, and lie in what it has seen; it has a share, and its room is legal
pub record IsSeat (known : Known) : Type 0 where
  pub rises : RisesFrom 0 known.places
  pub mine : AllBelow (length known.seen) known.places
  pub share : 0 < known.share.parts
  pub few : length known.seen ≤ known.setup.room
  pub room : known.setup.room ≤ MOST_ENTRIES
