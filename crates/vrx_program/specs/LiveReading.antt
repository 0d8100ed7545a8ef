-- What live has read of a capture, and what it does with the lists.
use Rattle.std.specs.Prelude.{◌≡◌, ◌+◌, ℕ, Bool, true, false, List, [], ◌∷◌, length, Option, Some, None, Result, Ok, Err}
use Rattle.vrx_io.specs.Sink.{with_more, TakesShortPrefix}
use Rattle.vrx_io.specs.Faults.{Rose}
use Rattle.vrx_codec.specs.Meaning.{Meaning}
use Rattle.vrx_core.specs.declared.settings.NewFault.{NewFault}
use Rattle.vrx_core.specs.declared.settings.NewFault.TheVariants as faults
use Rattle.vrx_core.specs.declared.settings.Settings.{Settings}
use Rattle.vrx_core.specs.declared.event.Event.{Event}
use Rattle.vrx_lock.specs.declared.entry.Entry.{Entry}
use Rattle.vrx_lock.specs.declared.limits.TheConstants.{MOST_ENTRIES}
use Rattle.vrx_live.specs.declared.lists.Lists.{Lists}
use Rattle.vrx_capture.specs.Line.{lines_of}
use Rattle.vrx_capture.specs.Reading.{reading, sound}
use Rattle.vrx_capture.specs.Reader.{Reader}
use Rattle.vrx_capture.specs.declared.settings_line.CodecName.{CodecName}
use Rattle.vrx_text.specs.declared.transcript.ErrorReason.{ErrorReason}
use Rattle.vrx_text.specs.declared.transcript.ErrorReason.TheVariants as errors
use Rattle.vrx_program.specs.HasRead.{HasRead}
use Rattle.vrx_program.specs.Replay.{Call}
use Rattle.vrx_program.specs.Live.{Plays, dealt, live_call_of, refused_in}
use Rattle.vrx_program.specs.declared.live.told.Unread.{Unread}
use Rattle.vrx_program.specs.declared.live.told.Unread.TheVariants as unread
use Rattle.vrx_program.specs.declared.status.Status.{Status}
use Rattle.vrx_program.specs.declared.status.Status.TheVariants as statuses

-- how many lines three lists have
abbrev pub total_of : Lists → ℕ
total_of lists = length lists.datagrams + length lists.ticks + length lists.pulls

-- after the first line, a reader read the events of these lists
pub record IsDealing (start now : Option (List ℕ)) (first : List ℕ) (reader : Reader) (lists : Lists) : Type 0 where
  pub events : List (ℕ × Event)
  pub read : HasRead MOST_ENTRIES start first reader now events
  pub lists_are : lists ≡ dealt events

-- all of a capture with this first line was read, and no line is refused
abbrev pub IsDealt : Option (List ℕ) → Option (List ℕ) → List ℕ → Lists → Type 0
IsDealt start now first lists = (capture : List ℕ) → start ≡ Some capture
    → (others : List (List ℕ)) × (events : List (ℕ × Event)) × (lines_of capture ≡ first ∷ others)
    × (reading MOST_ENTRIES 2 0 others ≡ sound events) × (lists ≡ dealt events) × (now ≡ Some [])

-- why a capture with this first line wasn't read whole: another line is refused, or else nothing is said
abbrev pub IsStopped : Option (List ℕ) → List ℕ → Unread → Type 0
IsStopped start first (unread.Refused k (errors.Line reason)) = (capture : List ℕ) → start ≡ Some capture
    → (others : List (List ℕ)) × (events : List (ℕ × Event)) × (lines_of capture ≡ first ∷ others)
    × (reading MOST_ENTRIES 2 0 others ≡ record { events = events; bad = Some (k, reason) })
IsStopped start first (unread.Refused k errors.Settings) = ⊥
IsStopped start first unread.ReadFault = Unit {0}
IsStopped start first unread.NoMemory = Unit {0}

-- what becomes of the lists at the next event, or at the end
abbrev pub AfterEvent : Bool → Option (List ℕ) → Option (List ℕ) → List ℕ → Reader → Lists → Type 0
AfterEvent true start now first reader lists = IsDealing start now first reader lists
AfterEvent false start now first reader lists = IsDealt start now first lists

-- why a first line that says these settings, or none, isn't taken
abbrev pub IsHeadStopped : Result (CodecName × Settings) ErrorReason → Unread → Type 0
IsHeadStopped told (unread.Refused k reason) = (k ≡ 1) × (told ≡ Err reason)
IsHeadStopped told unread.ReadFault = ⊥
IsHeadStopped told unread.NoMemory = Unit {0}

-- settings with this fault are refused, unless memory ran out
abbrev pub IsRefusedSettings : NewFault → Unread → Type 0
IsRefusedSettings faults.NoMemory why = why ≡ unread.NoMemory
IsRefusedSettings fault why = why ≡ unread.Refused 1 errors.Settings

-- the call of a capture was read whole
pub record IsTold (capture : List ℕ) (codec : CodecName) (settings : Settings) (lists : Lists) (left : Option (List ℕ)) :
    Type 0 where
  pub call : Call
  pub told : live_call_of capture ≡ Ok call
  pub right : call.bad ≡ None
  pub codec_is : codec ≡ call.codec
  pub settings_are : settings ≡ call.settings
  pub lists_are : lists ≡ dealt call.events
  pub end : left ≡ Some []

-- why it wasn't
abbrev pub IsUnread : List ℕ → Unread → Type 0
IsUnread capture (unread.Refused k reason) = refused_in (live_call_of capture) ≡ Some (k, reason)
IsUnread capture unread.ReadFault = Unit {0}
IsUnread capture unread.NoMemory = Unit {0}

-- the count of failed reads then
abbrev pub IsUnreadCounted : Unread → ℕ → ℕ → Type 0
IsUnreadCounted unread.ReadFault before after = Rose before after
IsUnreadCounted (unread.Refused k reason) before after = after ≡ before
IsUnreadCounted unread.NoMemory before after = after ≡ before

-- how the lists of a call were played, and their texts written
abbrev pub IsPlayed : Settings → Meaning → Lists → Status → Option (List Entry) → Option (List ℕ) → Option (List ℕ) → Type 0
IsPlayed settings codec lists statuses.Done (Some journal) before after =
    (text : List ℕ) × Plays settings codec lists journal text × (after ≡ with_more before text)
IsPlayed settings codec lists statuses.WriteFault (Some journal) before after =
    (text : List ℕ) × Plays settings codec lists journal text × TakesShortPrefix before after text
IsPlayed settings codec lists statuses.NoMemory None before after = after ≡ before
IsPlayed settings codec lists _ _ before after = ⊥

-- how a text was written
abbrev pub IsPut : Status → List ℕ → Option (List ℕ) → Option (List ℕ) → Type 0
IsPut statuses.Done text before after = after ≡ with_more before text
IsPut statuses.WriteFault text before after = TakesShortPrefix before after text
IsPut _ text before after = ⊥
