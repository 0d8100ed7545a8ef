-- What each step tells: of the seat before, the number found, and the seat after. A seat is its view and the slots that
-- are out with it.
use Rattle.std.specs.Prelude.{◌≡◌, ◌≢◌, ◌≤◌, ◌<◌, ◌+◌, ℕ, List, [], ◌∷◌, ◌++◌, length, Option, Some, None}
use Rattle.atomic_table.specs.Table.{Me}
use Rattle.atomic_table.specs.Seated.{TableId}
use Rattle.vrx_core.specs.declared.settings.Settings.{Settings}
use Rattle.vrx_core.specs.declared.event.Event.TheVariants.{Tick}
use Rattle.vrx_lock.specs.declared.entry.Entry.{Entry}
use Rattle.vrx_lock.specs.declared.known.Known.{Known}
use Rattle.vrx_lock.specs.declared.view.View.{View}
use Rattle.vrx_lock.specs.declared.view.Hand.{Hand}
use Rattle.vrx_lock.specs.declared.view.Hand.TheVariants.{Idle, Holding}
use Rattle.vrx_lock.specs.Lists.{BeginsWith, RisesFrom, counted_from, merged}
use Rattle.vrx_lock.specs.Shares.{IsWhole, added}
use Rattle.vrx_lock.specs.declared.limits.TheConstants.{MOST_ENTRIES}
use Rattle.vrx_lock.specs.Journal.{entry}
use Rattle.vrx_lock.specs.Seats.{IsSameSeat, IsSeat, after_split, longer, newcomer, shorter}
use Rattle.vrx_lock.specs.inside.Stored.{Stored, stored}

-- a seat of the table: its view, and the slots that are out with it
abbrev pub Place : Type 0
Place = Me (Option Stored) View

-- a claim of the turn: the word found is noted, and if it was 0, the seat holds the turn and the slot
pub record Claimed (m : Place) (found : ℕ) (n : Place) : Type 0 where
  pub hand : Hand
  pub view : n.0 ≡ record m.0 {
    known = record m.0.known { words = m.0.known.words ++ found ∷ [] };
    hand = hand;
  }
  pub whole : IsWhole m.0.known.share → found ≡ 0
  pub won : found ≡ 0 → (journal : List Entry) × (hand ≡ Holding journal)
      × (n.1 ≡ (0, Some (stored m.0.known.setup journal)) ∷ []) × BeginsWith journal m.0.known.seen
      × (length journal ≤ m.0.known.setup.room)
  pub lost : found ≢ 0 → (hand ≡ Idle) × (n.1 ≡ [])

-- one entry more, by the seat that holds the turn: the number found is its place
pub record Appended (e : Entry) (m : Place) (found : ℕ) (n : Place) : Type 0 where
  pub journal : List Entry
  pub held : m.0.hand ≡ Holding journal
  pub place : found ≡ length journal
  pub view : n.0 ≡ record m.0 {
    known = record m.0.known { seen = journal ++ e ∷ []; places = m.0.known.places ++ found ∷ [] };
    hand = Holding (journal ++ e ∷ []);
  }
  pub slots : n.1 ≡ m.1

-- the turn is given back, and the slot with it
pub record Released (m n : Place) : Type 0 where
  pub view : n.0 ≡ record m.0 { hand = Idle }
  pub slots : n.1 ≡ []

-- a look at the count: so many entries are seen then
pub record Looked (m : Place) (found : ℕ) (n : Place) : Type 0 where
  pub journal : List Entry
  pub view : n.0 ≡ record m.0 {
    known = record m.0.known { seen = journal; counts = m.0.known.counts ++ found ∷ [] };
  }
  pub slots : n.1 ≡ m.1
  pub begins : BeginsWith journal m.0.known.seen
  pub count : length journal ≡ found
  pub held : (j : List Entry) → m.0.hand ≡ Holding j → journal ≡ j
  pub room : found ≤ m.0.known.setup.room
  pub whole : IsWhole m.0.known.share → m.0.known.places ≡ counted_from 0 found

-- a look after a join: the list told and the list seen are one list, as far as both go
pub record Settled (m : Place) (found : ℕ) (n : Place) : Type 0 where
  pub view : n.0 ≡ record m.0 {
    known = record m.0.known { counts = m.0.known.counts ++ found ∷ [] };
    told = [];
  }
  pub slots : n.1 ≡ m.1
  pub begins : length m.0.told ≤ length m.0.known.seen → BeginsWith m.0.known.seen m.0.told
  pub rises : RisesFrom 0 m.0.known.places
  pub count : length m.0.known.seen ≤ found
  pub room : found ≤ m.0.known.setup.room
  pub whole : IsWhole m.0.known.share → m.0.known.places ≡ counted_from 0 (length m.0.known.seen)

-- a view cut in two
abbrev pub left_view : View → View
left_view v = record v { known = after_split v.known }

abbrev pub right_view : ℕ → View → View
right_view actor v = record { known = newcomer actor v.known; told = []; hand = Idle }

-- two views in one: the longer list is seen, and the shorter told until the next look
abbrev pub both_views : View → View → View
both_views v w = record {
  known = record v.known {
    seen = longer v.known.seen w.known.seen;
    places = merged v.known.places w.known.places;
    words = v.known.words ++ w.known.words;
    counts = v.known.counts ++ w.known.counts;
    share = added v.known.share w.known.share;
  };
  told = shorter v.known.seen w.known.seen;
  hand = Idle;
}

-- no settings
abbrev pub no_settings : Settings
no_settings = record { media_ssrc = 0; media_type = 0; red = None; rtx = None; from_ssrc = 0; interval = 0 }

-- a view that was joined to another
abbrev pub spent_view : View
spent_view = record {
  known = record {
    setup = record { settings = no_settings; room = 0 };
    actor = 0;
    seen = [];
    places = [];
    words = [];
    counts = [];
    share = record { parts = 0; depth = 0 };
  };
  told = [];
  hand = Idle;
}

-- a table of two words and one slot
abbrev pub IsTable : TableId → Type 0
IsTable table = (table.words ≡ 2) × (table.slots ≡ 1)

-- a seat without the turn
pub record IsIdle (m : Place) : Type 0 where
  pub hand : m.0.hand ≡ Idle
  pub slots : m.1 ≡ []
  pub share : 0 < m.0.known.share.parts

-- a seat with the turn, whose journal is this one, and what its slot has: an engine with a journal, or none
pub record IsHolding (journal : List Entry) (slot : Option Stored) (m : Place) : Type 0 where
  pub hand : m.0.hand ≡ Holding journal
  pub slots : m.1 ≡ (0, slot) ∷ []
  pub share : 0 < m.0.known.share.parts

-- An offer has the turn and the value: a journal that begins with what the seat had seen.
pub record Began (m : Place) (kept : Stored) (n : Place) : Type 0 where
  pub view : n.0 ≡ record m.0 {
    known = record m.0.known { words = m.0.known.words ++ 0 ∷ [] };
    hand = Holding kept.journal;
  }
  pub slots : n.1 ≡ (0, None) ∷ []
  pub setup : kept.setup ≡ m.0.known.setup
  pub begins : BeginsWith kept.journal m.0.known.seen

-- an offer found the turn taken
pub record Found (m : Place) (holder : ℕ) (n : Place) : Type 0 where
  pub view : n.0 ≡ record m.0 {
    known = record m.0.known { words = m.0.known.words ++ holder ∷ [] };
    hand = Idle;
  }
  pub slots : n.1 ≡ []
  pub taken : holder ≢ 0
  pub not_whole : IsWhole m.0.known.share → ⊥

-- the value in hand has one entry more than the journal that the view says
pub record IsNoted (m : Place) (kept : Stored) : Type 0 where
  pub before : List Entry
  pub last : Entry
  pub holding : IsHolding before None m
  pub journal : kept.journal ≡ before ++ last ∷ []
  pub setup : kept.setup ≡ m.0.known.setup
  pub room : length before < kept.setup.room
  pub few : kept.setup.room ≤ MOST_ENTRIES

-- an offer was noted, and gave the turn and the value back
pub record Finished (m : Place) (journal : List Entry) (place : ℕ) (n : Place) : Type 0 where
  pub view : n.0 ≡ record m.0 {
    known = record m.0.known { seen = journal; places = m.0.known.places ++ place ∷ [] };
    hand = Idle;
  }
  pub slots : n.1 ≡ []
  pub place_is : length journal ≡ place + 1

-- an offer looked at a full journal, and gave the turn and the value back
pub record Stopped (m : Place) (journal : List Entry) (n : Place) : Type 0 where
  pub view : n.0 ≡ record m.0 {
    known = record m.0.known { seen = journal; counts = m.0.known.counts ++ length journal ∷ [] };
    hand = Idle;
  }
  pub slots : n.1 ≡ []

-- the last entry of a journal
abbrev pub newest : List Entry → Entry
newest [] = entry 0 0 (Tick 0)
newest (first ∷ []) = first
newest (first ∷ second ∷ rest) = newest (second ∷ rest)

-- what the one view of a list knows
abbrev pub known_in : List View → Known
known_in [] = spent_view.known
known_in (v ∷ vs) = v.known

-- A seat in a caller's hands has one view, which neither holds the turn nor was told anything. It counts its calls.
pub record Seated (views : List View) (actor calls : ℕ) : Type 0 where
  pub view : View
  pub views_is : views ≡ view ∷ []
  pub hand : view.hand ≡ Idle
  pub told : view.told ≡ []
  pub known : IsSeat view.known
  pub actor_is : actor ≡ view.known.actor
  pub calls_is : calls ≡ length view.known.places

-- an offer leaves the seat without the turn, what it was told, its setup, its actor and its share
pub record Stays (m n : Place) : Type 0 where
  pub same : IsSameSeat m.0.known n.0.known
  pub hand : n.0.hand ≡ Idle
  pub told : n.0.told ≡ m.0.told
  pub slots : n.1 ≡ []

-- two seats became one, which then looked at the count
pub record Glued (v w : View) (n : Place) : Type 0 where
  pub count : ℕ
  pub settled : Settled (both_views v w, []) count n
