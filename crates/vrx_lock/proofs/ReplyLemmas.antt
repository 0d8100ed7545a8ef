-- The replies to the events of a journal.
use Rattle.std.proofs.Common.{◌≡◌, List, [], ◌∷◌, ◌++◌, Some, length, refl}
use Rattle.std.specs.Prelude.{slice_get}
use Rattle.vrx_codec.specs.Meaning.{Meaning}
use Rattle.vrx_core.specs.declared.settings.Settings.{Settings}
use Rattle.vrx_core.specs.declared.event.Event.{Event}
use Rattle.vrx_core.specs.machine.Machine.{replies, reply}
use Rattle.vrx_lock.specs.declared.entry.Entry.{Entry}
use Rattle.vrx_lock.specs.Journal.{events, history_from}

pub replies-at : (settings : Settings) (codec : Meaning) (h : List Event) (before : List Entry) (here : Entry)
    (after : List Entry) → slice_get (replies settings codec h (events (before ++ here ∷ after))) (length before)
    ≡ Some (reply settings codec (history_from h before) here.event)
unfolding replies
replies-at settings codec h [] here after = refl
replies-at settings codec h (first ∷ before) here after = replies-at settings codec (first.event ∷ h) before here after
