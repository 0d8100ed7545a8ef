-- The machine: the reply to an event after a history, and what is left after it.
use Rattle.std.specs.Prelude.{ℕ, Bool, true, false, not, List, [], ◌∷◌, map, Option, Some, None, Result, Ok, Err}
use Rattle.std.specs.List.{list_any}
use Rattle.arrayvec.specs.ArrayVec.{ArrayVec}
use Rattle.vrx_rtcp.specs.Feedback.{nack_octets, pli_octets}
use Rattle.vrx_rtcp.specs.declared.feedback.Feedback.{Feedback}
use Rattle.vrx_codec.specs.Meaning.{Meaning}
use Rattle.vrx_window.specs.Content.{Content}
use Rattle.vrx_window.specs.Content as contents
use Rattle.vrx_window.specs.Window.{Contents, after_placing, with_number}
use Rattle.vrx_frames.specs.Run.{Run}
use Rattle.vrx_frames.specs.Front.{front_after}
use Rattle.vrx_repair.specs.Plan.{repairs_in}
use Rattle.vrx_repair.specs.Source.{Source, source_of}
use Rattle.vrx_repair.specs.Step.{with_repairs}
pub use Rattle.vrx_core.specs.machine.Snapshot.{Snapshot, opening, latest, times, last_pulled}
use Rattle.vrx_core.specs.machine.Snapshot.{moved}
use Rattle.vrx_core.specs.machine.GivenUp.{lost_by_packet}
use Rattle.vrx_core.specs.machine.Request.{repeated_requests, first_requests, lost_by_tick}
use Rattle.vrx_core.specs.machine.KeyRequest.{completes_key, is_answered, is_needed, with_key_request}
use Rattle.vrx_core.specs.machine.Verdict.{verdict}
use Rattle.vrx_core.specs.machine.Standing.{standing_of}
use Rattle.vrx_core.specs.machine.Deliverable.{answer}
use Rattle.vrx_core.specs.machine.Told.{told_with}
use Rattle.vrx_core.specs.declared.settings.Settings.{Settings}
use Rattle.vrx_core.specs.declared.event.Event.{Event}
use Rattle.vrx_core.specs.declared.event.Event.TheVariants.{Datagram, Tick, Pull}
use Rattle.vrx_core.specs.declared.original.NotTaken.{NotTaken}
use Rattle.vrx_core.specs.declared.original.NotTaken.TheVariants.{Control, Refused}
use Rattle.vrx_core.specs.declared.reply.What.{What}
use Rattle.vrx_core.specs.declared.reply.What.TheVariants.{Media, Fec, Empty, Rtcp, Dropped}
use Rattle.vrx_core.specs.declared.reply.Handled.{Handled}
use Rattle.vrx_core.specs.declared.reply.Frame.{Frame}
use Rattle.vrx_core.specs.declared.reply.Pulled.{Pulled}
use Rattle.vrx_core.specs.declared.reply.Pulled.TheVariants as pulls

-- the reply to an event
pub data Reply : Type 0 where
  ToDatagram : (handled : Handled) → Reply
  ToTick : (feedback : Feedback) → Reply
  ToPull : (pulled : Pulled) → Reply

-- a snapshot with the front after its event, and the runs that stand then
abbrev pub after_settling : Meaning → List Snapshot → Snapshot → Snapshot
after_settling codec past s =
    let last : Option ℕ = last_pulled s.pulled in
    let front : Option ℕ = front_after s.front last s.window.packets in
    record s {
      front = front;
      standing = standing_of codec s.told (s.window.packets ∷ times past) front last s.window.packets;
    }

-- the source whose packets are repaired (RFC 5109 9)
abbrev pub source_in : Settings → Meaning → Source
source_in settings codec = source_of codec settings.media_ssrc settings.media_type

-- a window with these repairs
abbrev pub with_repaired : List (ℕ × Content) → Contents Content → Contents Content
with_repaired rebuilt window = record window { packets = with_repairs rebuilt window.packets }

-- a packet was placed in this window, and these are its repairs: all of them are available, and the places that they
-- told are known
abbrev pub after_repairs : Meaning → ℕ × Content → Contents Content → List (ℕ × Content) → Snapshot → Snapshot
after_repairs codec packet placed rebuilt s = record s {
  window = with_repaired rebuilt placed;
  told = told_with codec (packet ∷ rebuilt) s.told;
  repaired = map (λ repair. repair.0) rebuilt;
}

-- A packet is placed, and its repairs are made: those of the window in which it is placed.
abbrev pub after_packet : Source → ℕ → Content → Snapshot → Snapshot
after_packet source n content s = let placed : Contents Content = after_placing n content s.window in
    after_repairs source.codec (n, content) placed (repairs_in source placed) s

-- What a datagram leaves. One that isn't taken moves the clock only. One that is taken is placed, and its repairs are
-- made; it gives up the numbers that leave the window, and asks for those that are missing now and weren't asked for;
-- and it asks for a keyframe if it gives up a number that isn't answered.
abbrev pub with_requests : List Snapshot → Snapshot → Snapshot
with_requests past s =
    let lost : List ℕ = lost_by_packet past s in
    with_key_request (list_any (λ n. not (is_answered s n)) lost) past
    (record s {
      lost = lost;
      asked = first_requests (s ∷ past);
      key_completed = completes_key (latest past).standing s.standing;
    })

abbrev pub after_datagram : Source → List Snapshot → ℕ → Result (ℕ × Content) NotTaken → Snapshot
after_datagram source past moment (Err left) = moved (latest past) moment
after_datagram source past moment (Ok (n, content)) =
    with_requests past (after_settling source.codec past (after_packet source n content (moved (latest past) moment)))

-- numbers put in their places among numbers that rise
abbrev pub with_numbers : List ℕ → List ℕ → List ℕ
with_numbers [] numbers = numbers
with_numbers (n ∷ ns) numbers = with_numbers ns (with_number n numbers)

-- What a tick leaves: it gives up what was asked for ten times, asks again for what is missing, and asks for a keyframe
-- if there is need of one.
abbrev pub after_tick : Settings → List Snapshot → ℕ → Snapshot
after_tick settings past moment =
    let s : Snapshot = moved (latest past) moment in
    let lost : List ℕ = lost_by_tick settings.interval s.now past in
    let after : Snapshot = record s {
      lost = lost;
      asked = repeated_requests settings.interval s.now past;
      window = record s.window { dead = with_numbers lost s.window.dead };
    } in
    with_key_request (is_needed (after ∷ past)) past after

-- what a pull leaves that gives this run, or none
abbrev pub after_pull : Meaning → List Snapshot → ℕ → Option Run → Snapshot
after_pull codec past moment None = moved (latest past) moment
after_pull codec past moment (Some run) = let s : Snapshot = moved (latest past) moment in
    after_settling codec past (record s { pulled = run ∷ s.pulled })

-- the run that a pull gives: the least that is deliverable
abbrev pub next_run : Snapshot → Option Run
next_run s = answer s.told s.pulled s.front s.standing

-- what an event leaves
abbrev pub next : Settings → Meaning → List Snapshot → Event → Snapshot
next settings codec past (Datagram moment octets) =
    after_datagram (source_in settings codec) past moment (verdict settings codec (latest past).window octets)
next settings codec past (Tick moment) = after_tick settings past moment
next settings codec past (Pull moment) = after_pull codec past moment (next_run (latest past))

-- the answer to a datagram that isn't taken
abbrev pub answer_of : NotTaken → What
answer_of Control = Rtcp
answer_of (Refused reason) = Dropped reason

-- the answer to one that is taken under this number
abbrev pub answer_taken : ℕ → Content → What
answer_taken n (contents.Media text) = Media n
answer_taken n (contents.Fec payload) = Fec n
answer_taken n contents.Empty = Empty n

-- the answer of a verdict
abbrev pub what_of : Result (ℕ × Content) NotTaken → What
what_of (Err left) = answer_of left
what_of (Ok (n, content)) = answer_taken n content

-- the NACK of these numbers, unless there is none (RFC 4585 6.2.1)
abbrev pub nack_for : Settings → List ℕ → Option (ArrayVec ℕ)
nack_for settings [] = None
nack_for settings (n ∷ ns) = Some (record { items = nack_octets settings.from_ssrc settings.media_ssrc (n ∷ ns) })

-- the PLI, if a keyframe is asked for (RFC 4585 6.3.1)
abbrev pub pli_for : Settings → Bool → Option (List ℕ)
pli_for settings false = None
pli_for settings true = Some (pli_octets settings.from_ssrc settings.media_ssrc)

-- the feedback of the event that left this: at most one NACK, of all numbers that it asks for, and then at most one PLI
abbrev pub feedback_of : Settings → Snapshot → Feedback
feedback_of settings s = record { nack = nack_for settings s.asked; pli = pli_for settings s.key_asked }

-- what became of a datagram, by the reply to it
abbrev pub what_in : Reply → Option What
what_in (ToDatagram handled) = Some handled.what
what_in (ToTick feedback) = None
what_in (ToPull pulled) = None

-- a run, as the decoder gets it
abbrev pub frame_of : Run → Frame
frame_of run = record { first = run.first; last = run.last; ts = run.ts; key = run.key; bytes = run.bytes }

-- what a pull answers
abbrev pub pulled_of : Option Run → Pulled
pulled_of None = pulls.NotReady
pulled_of (Some run) = pulls.Frame (frame_of run)

-- a condition of the frame, if a pull answers one
abbrev pub IfFrame : Pulled → (Frame → Type 0) → Type 0
IfFrame pulls.NotReady P = Unit {0}
IfFrame (pulls.Frame frame) P = P frame

-- the reply to an event that leads from the past to this snapshot
abbrev pub reply_between : Settings → Meaning → List Snapshot → Snapshot → Event → Reply
reply_between settings codec past s (Datagram moment octets) =
    ToDatagram (record {
      what = what_of (verdict settings codec (latest past).window octets);
      repaired = s.repaired;
      feedback = feedback_of settings s;
    })
reply_between settings codec past s (Tick moment) = ToTick (feedback_of settings s)
reply_between settings codec past s (Pull moment) = ToPull (pulled_of (next_run (latest past)))

-- one snapshot more
abbrev pub with_next : Settings → Meaning → List Snapshot → Event → List Snapshot
with_next settings codec past e = next settings codec past e ∷ past

-- what was left after each event of a history, the newest first
unfoldable pub snapshots : Settings → Meaning → List Event → List Snapshot
snapshots settings codec [] = opening ∷ []
snapshots settings codec (e ∷ h) = with_next settings codec (snapshots settings codec h) e

-- the machine's reply to an event after a history
unfoldable pub reply : Settings → Meaning → List Event → Event → Reply
reply settings codec h e = let past : List Snapshot =
    snapshots settings codec h in reply_between settings codec past (next settings codec past e) e

-- the replies to events that follow a history, in order
unfoldable pub replies : Settings → Meaning → List Event → List Event → List Reply
replies settings codec h [] = []
replies settings codec h (e ∷ es) = reply settings codec h e ∷ replies settings codec (e ∷ h) es
