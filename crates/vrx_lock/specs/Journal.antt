-- Journals: the entries of a receiver in the order of their places, and the history that they come to.
use Rattle.std.specs.Prelude.{◌≡◌, ◌≤◌, ℕ, List, [], ◌∷◌, ◌++◌, Some, length, map, slice_get}
use Rattle.vrx_codec.specs.Meaning.{Meaning}
use Rattle.vrx_core.specs.declared.settings.Settings.{Settings}
use Rattle.vrx_core.specs.declared.event.Event.{Event}
use Rattle.vrx_core.specs.machine.Machine.{replies, reply}
use Rattle.vrx_lock.specs.declared.entry.Entry.{Entry}
use Rattle.vrx_lock.specs.declared.limits.TheConstants.{MOST_ENTRIES}

abbrev pub entry : ℕ → ℕ → Event → Entry
entry actor turn event = record { actor = actor; turn = turn; event = event }

-- the events of entries after a history, the newest first
abbrev pub history_from : List Event → List Entry → List Event
history_from h [] = h
history_from h (first ∷ rest) = history_from (first.event ∷ h) rest

-- the history of a journal
abbrev pub history : List Entry → List Event
history journal = history_from [] journal

-- a journal has at most 65,536 entries
abbrev pub IsLegal : List Entry → Type 0
IsLegal journal = length journal ≤ MOST_ENTRIES

-- the events of a journal, in order
abbrev pub events : List Entry → List Event
events journal = map (λ e. e.event) journal

-- The machine's replies to the events of a journal, in order, are at each place the reply to the event there, after the
-- events of the entries before.
abbrev pub RepliesHold : Type 0
RepliesHold = (settings : Settings) (codec : Meaning) (before : List Entry) (here : Entry) (after : List Entry)
    → slice_get (replies settings codec [] (events (before ++ here ∷ after))) (length before)
    ≡ Some (reply settings codec (history before) here.event)
