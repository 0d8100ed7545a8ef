-- What live gives of a capture: the transcript of a journal that three actors make of its events.
use Rattle.std.specs.Prelude.{◌≡◌, ◌⊎◌, ℕ, Bool, true, false, List, [], ◌∷◌, ◌++◌, codes, filter, map, Option, Some, None, Result, Ok, Err}
use Rattle.vrx_io.specs.Sink.{with_more, TakesShortPrefix}
use Rattle.vrx_codec.specs.Meaning.{Meaning}
use Rattle.vrx_core.specs.declared.settings.Settings.{Settings}
use Rattle.vrx_core.specs.declared.event.Event.{Event}
use Rattle.vrx_core.specs.declared.event.Event.TheVariants.{Datagram, Tick, Pull}
use Rattle.vrx_core.specs.machine.Machine.{replies}
use Rattle.vrx_core.specs.honest.Sender.{Sender}
use Rattle.vrx_core.specs.honest.HonestSender.{HonestSender}
use Rattle.vrx_core.specs.honest.HonestNetwork.{Origin, HonestNetwork}
use Rattle.vrx_core.specs.honest.HonestCall.{HonestCall}
use Rattle.vrx_lock.specs.declared.entry.Entry.{Entry}
use Rattle.vrx_lock.specs.declared.limits.TheConstants.{MOST_ENTRIES}
use Rattle.vrx_lock.specs.Journal.{events}
use Rattle.vrx_live.specs.Calls as live
use Rattle.vrx_live.specs.declared.lists.Lists.{Lists}
use Rattle.vrx_capture.specs.Line.{lines_of}
use Rattle.vrx_capture.specs.Reading.{reading}
use Rattle.vrx_capture.specs.declared.settings_line.CodecName.{CodecName}
use Rattle.vrx_text.specs.Transcript.{error_line, transcript}
use Rattle.vrx_text.specs.declared.transcript.ErrorReason.{ErrorReason}
use Rattle.vrx_text.specs.declared.transcript.ErrorReason.TheVariants as errors
use Rattle.vrx_program.specs.Outcome.{status_of}
use Rattle.vrx_program.specs.Replay.{Call, call_with, meaning_of, settings_of}
use Rattle.vrx_program.specs.Ends.{TookPrefix}
use Rattle.vrx_program.specs.HonestLines.{lines_text}
use Rattle.vrx_program.specs.declared.status.Status.{Status}
use Rattle.vrx_program.specs.declared.status.Status.TheVariants as statuses

-- the words of a call of live
abbrev pub IsLive : List (List ℕ) → Type 0
IsLive words = words ≡ codes "live" ∷ []

-- ---- the call of a capture, which has so many events at most as a journal has entries

abbrev pub live_call_from : Result (CodecName × Settings) ErrorReason → List (List ℕ) → Result Call ErrorReason
live_call_from (Err reason) lines = Err reason
live_call_from (Ok told) lines = Ok (call_with told (reading MOST_ENTRIES 2 0 lines))

abbrev pub live_call_in : List (List ℕ) → Result Call ErrorReason
live_call_in [] = Err errors.Settings
live_call_in (line ∷ lines) = live_call_from (settings_of line) lines

abbrev pub live_call_of : List ℕ → Result Call ErrorReason
live_call_of capture = live_call_in (lines_of capture)

-- the line of a capture that is refused, if there is one, with the reason
abbrev pub refused_in : Result Call ErrorReason → Option (ℕ × ErrorReason)
refused_in (Err reason) = Some (1, reason)
refused_in (Ok call) = call.bad

-- ---- the three actors

abbrev pub is_datagram : Event → Bool
is_datagram (Datagram moment octets) = true
is_datagram (Tick moment) = false
is_datagram (Pull moment) = false

abbrev pub is_tick : Event → Bool
is_tick (Datagram moment octets) = false
is_tick (Tick moment) = true
is_tick (Pull moment) = false

abbrev pub is_pull : Event → Bool
is_pull (Datagram moment octets) = false
is_pull (Tick moment) = false
is_pull (Pull moment) = true

-- the lines of a call, dealt to the actors: the datagrams, the ticks and the pulls, each in order
abbrev pub dealt : List (ℕ × Event) → Lists
dealt lines = record {
  datagrams = filter (λ line. is_datagram line.1) lines;
  ticks = filter (λ line. is_tick line.1) lines;
  pulls = filter (λ line. is_pull line.1) lines;
}

-- lines, and then the one of this event
abbrev pub with_line : List (ℕ × Event) → ℕ → Event → List (ℕ × Event)
with_line lines k event = lines ++ (k, event) ∷ []

-- the lines of calls in one order: each event with the number of its line
abbrev pub lines_in : List live.Call → List (ℕ × Event)
lines_in calls = map (λ call. (call.0, call.1.event)) calls

-- A journal plays lists: it is an interleaving of them. And its text is the transcript of their lines in its order.
pub record Plays (settings : Settings) (codec : Meaning) (lists : Lists) (journal : List Entry) (text : List ℕ) :
    Type 0 where
  pub calls : List live.Call
  pub order : live.Interleaves lists calls
  pub journal_is : journal ≡ live.entries_of calls
  pub text_is : text ≡ transcript settings codec [] (lines_in calls)

-- a journal plays the call of a capture, none of whose lines is refused, with this text
pub record PlaysCapture (capture : List ℕ) (journal : List Entry) (text : List ℕ) : Type 0 where
  pub call : Call
  pub told : live_call_of capture ≡ Ok call
  pub right : call.bad ≡ None
  pub plays : Plays call.settings (meaning_of call.codec) (dealt call.events) journal text

-- a line of a capture is refused, and the error line is this text
pub record Refuses (capture : List ℕ) (text : List ℕ) : Type 0 where
  pub k : ℕ
  pub reason : ErrorReason
  pub refused : refused_in (live_call_of capture) ≡ Some (k, reason)
  pub text_is : text ≡ error_line k reason

-- how live over a capture ends: by its status and its journal, what the sink took before and after, and what the source
-- has left
abbrev pub LiveEnds : Status → Option (List Entry) → List ℕ → Option (List ℕ) → Option (List ℕ) → Option (List ℕ) → Type 0
-- no line is refused: the sink took exactly the text of the journal's order, and the source has nothing left
LiveEnds statuses.Done (Some journal) capture before after left =
    (text : List ℕ) × PlaysCapture capture journal text × (after ≡ with_more before text) × (left ≡ Some [])
LiveEnds statuses.Done None capture before after left = ⊥
-- a line is refused: the sink took the error line alone
LiveEnds statuses.BadCapture None capture before after left =
    (text : List ℕ) × Refuses capture text × (after ≡ with_more before text)
LiveEnds statuses.BadCapture (Some journal) capture before after left = ⊥
-- a read failed: nothing was written
LiveEnds statuses.ReadFault None capture before after left = after ≡ before
LiveEnds statuses.ReadFault (Some journal) capture before after left = ⊥
-- a write failed: the sink took a part of the journal's text, or of the error line, and not all of it
LiveEnds statuses.WriteFault (Some journal) capture before after left =
    (text : List ℕ) × PlaysCapture capture journal text × TakesShortPrefix before after text
LiveEnds statuses.WriteFault None capture before after left =
    (text : List ℕ) × Refuses capture text × TakesShortPrefix before after text
-- memory ran out: the sink took nothing, or a part of the error line
LiveEnds statuses.NoMemory None capture before after left =
    (after ≡ before) ⊎ ((text : List ℕ) × Refuses capture text × TookPrefix before after text)
LiveEnds statuses.NoMemory (Some journal) capture before after left = ⊥
LiveEnds statuses.BadUsage journal capture before after left = ⊥

-- how a run of live ends if no read and no write fails and there is memory
abbrev pub live_status : List ℕ → Status
live_status capture = status_of (refused_in (live_call_of capture))

-- ---- the honest call, in the journal's order

-- what the sink took is the lines of the machine's replies in the order of the journal, and these are an honest call; it
-- took all of them if the run was Done, else a part from the front
pub record HonestPlay (call : Call) (journal : List Entry) (sender : Sender) (origins : List Origin) (status : Status)
    (before after : Option (List ℕ)) : Type 0 where
  pub lines : List (ℕ × Event)
  pub are : map (λ line. line.1) lines ≡ events journal
  pub honest : HonestCall call.settings (meaning_of call.codec) sender (events journal) origins
      (replies call.settings (meaning_of call.codec) [] (events journal))
  pub took : TookPrefix before after (lines_text lines (replies call.settings (meaning_of call.codec) [] (events journal)))
  pub whole : status ≡ statuses.Done →
      after ≡ with_more before (lines_text lines (replies call.settings (meaning_of call.codec) [] (events journal)))

-- if an honest network took the datagrams from one honest sender in the order of the journal, it is an honest call
abbrev pub HonestLive : Status → Option (List Entry) → List ℕ → Option (List ℕ) → Option (List ℕ) → Type 0
HonestLive status told capture before after = (call : Call) (journal : List Entry) (sender : Sender) (origins : List Origin)
    → live_call_of capture ≡ Ok call → told ≡ Some journal → HonestSender call.settings (meaning_of call.codec) sender
    → HonestNetwork call.settings (meaning_of call.codec) sender [] [] (events journal) origins
    → HonestPlay call journal sender origins status before after
