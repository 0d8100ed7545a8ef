-- The engine's fields: the parts that they stand for, and what always holds of them.
use Rattle.std.specs.Prelude.{◌≡◌, ℕ, ◌+◌, ◌<◌, ◌≤◌, max, Bool, true, false, List, [], ◌∷◌, length, Contains, Option, Some, None, IfSome, MatchOption, Result, Ok, Err}
use Rattle.vrx_num.specs.declared.limits.TheConstants.{WINDOW, HALF_SPACE}
use Rattle.vrx_codec.specs.Meaning.{Meaning}
use Rattle.vrx_codec.specs.declared.run.Run.{Run as RunSummary}
use Rattle.vrx_refs.specs.Finder.{Finder}
use Rattle.vrx_refs.specs.Knows.{Knows}
use Rattle.vrx_refs.specs.References.{has_layer}
use Rattle.vrx_refs.specs.declared.sighting.Sighting.{Sighting}
use Rattle.vrx_buffer.specs.Frames.{next_of, with_run}
use Rattle.vrx_buffer.specs.Order.{greatest_of}
use Rattle.vrx_window.specs.Content.{Content, content_of, contents, contents_of}
use Rattle.vrx_window.specs.IsWindow.{IsWindow}
use Rattle.vrx_window.specs.Sound.{AreSound, IsSound as IsSoundHeld, place_at}
use Rattle.vrx_window.specs.Window.{Contents, is_available, would_of}
use Rattle.vrx_window.specs.declared.held.Held.{Held}
use Rattle.vrx_window.specs.declared.placing.Placing.TheVariants.{Fresh}
use Rattle.vrx_frames.specs.Completed.{AreStill, IsUpTo, Known, is_among, known_with}
use Rattle.vrx_frames.specs.IsRun.{IsRunBy}
use Rattle.vrx_frames.specs.Run.{Run, is_start, summary_of}
use Rattle.vrx_repair.specs.Plan.{IsPlan, numbers_of}
use Rattle.vrx_repair.specs.declared.repair.Repair.{Repair}
use Rattle.vrx_core.specs.machine.Machine.{frame_of, source_in, what_of}
use Rattle.vrx_core.specs.machine.Verdict.{verdict}
use Rattle.vrx_core.specs.inside.Places.{IsPlacedBeside}
use Rattle.vrx_core.specs.relation.StandsFor.{Assembly, Wanted}
use Rattle.vrx_core.specs.inside.Seen.{HasTypes}
use Rattle.vrx_core.specs.inside.Step.{IsKept, IsPulledAs, IsTakenAs, after_counting, packets_of}
use Rattle.vrx_core.specs.inside.Wants.{AreFresh, lost_from}
use Rattle.vrx_core.specs.declared.assembler.Arrival.{Arrival}
use Rattle.vrx_core.specs.declared.assembler.Outcome.{Outcome}
use Rattle.vrx_core.specs.declared.count.Count.{Count}
use Rattle.vrx_core.specs.declared.settings.Settings.{Settings}
use Rattle.vrx_core.specs.declared.original.NotTaken.{NotTaken}
use Rattle.vrx_core.specs.declared.reply.Frame.{Frame}

-- the parts that fields stand for
abbrev pub assembly_of : Settings → Count → Contents Held → Option ℕ → Known → Finder → List RunSummary →
    (last_pulled front : Option ℕ) → Assembly
assembly_of settings count window pictures known finder frames last_pulled front = record {
  settings = settings;
  events = count.events;
  clock = count.clock;
  window = window;
  pictures = pictures;
  known = known;
  finder = finder;
  frames = frames;
  last_pulled = last_pulled;
  front = front;
}

-- parts as they always are, over a window as it always is
pub record IsWhole (codec : Meaning) (parts : Assembly) : Type 0 where
  pub kept : IsKept codec parts
  pub window : IsWindow parts.window

-- the number after the last number pulled: 0 before the first frame
abbrev pub after_pulled : Option ℕ → ℕ
after_pulled None = 0
after_pulled (Some last) = last + 1

-- What always holds of the fields. The payload types have seven bits, and the extender has the window's newest number.
pub record AreFields (codec : Meaning) (extender : Option ℕ) (parts : Assembly) : Type 0 where
  pub types : HasTypes parts.settings
  pub whole : IsWhole codec parts
  pub newest : extender ≡ parts.window.newest

-- a number that the extender gives beside the newest number: it lies near to it, or in the first cycle after 65,536
abbrev pub IsNear : Option ℕ → ℕ → Type 0
IsNear newest n = MatchOption newest ((65536 ≤ n) × (n < 131072)) (λ m. (m < n + HALF_SPACE) × (n < m + HALF_SPACE))

-- a held packet may be taken under this number, beside the newest picture
pub record MayBeTaken (codec : Meaning) (window : Contents Held) (pictures : Option ℕ) (n : ℕ) (held : Held)
    : Type 0 where
  pub fresh : would_of window n ≡ Fresh
  pub near : IsNear window.newest n
  pub sound : IsSoundHeld codec held
  pub placed : IsPlacedBeside pictures held

-- the parts after one were counted, at this moment
pub record IsCounted (before after : Assembly) (moment : ℕ) : Type 0 where
  pub events : after.events ≡ before.events + 1
  pub clock : after.clock ≡ max before.clock moment

-- what the runs ask for before a number of a window is told: as `Runs::completed` says it
pub record CanComplete (codec : Meaning) (window : Contents Held) (front : Option ℕ) (known : Known) (n : ℕ)
    : Type 0 where
  pub sound : AreSound codec window.packets
  pub held : is_available n window.packets ≡ true
  pub fresh : is_available n known.arrivals ≡ false
  pub newest : IsUpTo known.newest window.newest
  pub passed : IsUpTo known.passed front
  pub same : AreStill codec window.newest (contents window.packets) known.arrivals

-- numbers of a window can be told one after the other
abbrev pub CanCompleteAll : Meaning → Contents Held → Option ℕ → List ℕ → Known → Type 0
CanCompleteAll codec window front [] known = Unit {0}
CanCompleteAll codec window front (n ∷ ns) known = CanComplete codec window front known n
    × CanCompleteAll codec window front ns (known_with codec window.newest n front (contents window.packets) known)

-- runs can be added one after the other: there is room for each, and its TID, if it has layers, is one of the four
abbrev pub CanAddAll : (answers runs : List RunSummary) → Type 0
CanAddAll [] runs = Unit {0}
CanAddAll (run ∷ more) runs =
    ((length runs < WINDOW) × (has_layer run.layers ≡ true)) × CanAddAll more (with_run run runs)

-- what a packet that is taken under n brings beside its answer: the newest number before, the greatest number that is
-- given up with it, the numbers repaired, and whether a keyframe completes
pub record IsArrival (before : Assembly) (n : ℕ) (made : List Repair) (key : Bool) (arrival : Arrival) : Type 0 where
  pub number_is : arrival.number ≡ n
  pub newest_is : arrival.newest ≡ before.window.newest
  pub lost_is : arrival.lost ≡ greatest_of (lost_from before.window before.front n)
  pub repaired_is : arrival.repaired ≡ numbers_of made
  pub key_is : arrival.key ≡ key

-- a datagram was taken: it is held under its number, and its repairs were made
pub record IsTakenWith (codec : Meaning) (before after : Assembly) (moment n : ℕ) (content : Content)
    (arrival : Arrival) : Type 0 where
  pub held : Held
  pub content_is : content_of held ≡ content
  pub may : MayBeTaken codec before.window before.pictures n held
  pub made : List Repair
  pub planned : IsPlan (source_in before.settings codec) n held before.window made
  pub taken : IsTakenAs codec before after n held made
  pub counts : IsCounted before after moment
  pub arrives : IsArrival before n made taken.key arrival

-- what comes of a verdict: a datagram that isn't taken counts only
abbrev pub ComesOf : Meaning → (before after : Assembly) → ℕ → Option Arrival → Result (ℕ × Content) NotTaken → Type 0
ComesOf codec before after moment arrival (Err left) = (arrival ≡ None) × (after ≡ after_counting before moment)
ComesOf codec before after moment arrival (Ok (n, content)) =
    (a : Arrival) × (arrival ≡ Some a) × IsTakenWith codec before after moment n content a

-- a datagram was handled, by its verdict
pub record IsHandled (codec : Meaning) (before after : Assembly) (moment : ℕ) (octets : List ℕ)
    (outcome : Outcome) : Type 0 where
  pub answer : outcome.what ≡ what_of (verdict before.settings codec (contents_of before.window) octets)
  pub comes : ComesOf codec before after moment outcome.arrival
      (verdict before.settings codec (contents_of before.window) octets)

-- a frame is the run that these parts tell of
abbrev pub IsFrameOf : Meaning → Assembly → RunSummary → Frame → Type 0
IsFrameOf codec parts told frame = (run : Run) →
    IsRunBy codec (place_at parts.window.packets) (is_start parts.front (is_among parts.known.began))
    (packets_of parts) run →
    summary_of run ≡ told → frame ≡ frame_of run

-- what comes of a pull, by the run that is next: without one it counts only; the run that is next is handed out
abbrev pub ComesOfPull : Meaning → (before after : Assembly) → ℕ → Option Frame → Option RunSummary → Type 0
ComesOfPull codec before after moment frame None = (frame ≡ None) × (after ≡ after_counting before moment)
ComesOfPull codec before after moment frame (Some told) = (f : Frame) × (frame ≡ Some f)
    × IsFrameOf codec before told f × IsPulledAs before after told × IsCounted before after moment

-- this run, or none, is next: one that stands, and the one that is next by all that the finder knows
pub record IsNext (parts : Assembly) (run : Option RunSummary) : Type 0 where
  pub stands : IfSome run (λ r. Contains parts.frames r)
  pub next : (told : List Sighting) (pulled : List RunSummary) → Knows parts.finder told pulled →
      run ≡ next_of told pulled parts.front parts.frames

-- a pull was answered by this frame, or by none
pub record IsHandedOut (codec : Meaning) (before after : Assembly) (moment : ℕ) (frame : Option Frame) : Type 0 where
  pub run : Option RunSummary
  pub is_next : IsNext before run
  pub comes : ComesOfPull codec before after moment frame run

-- what always holds of an engine: each missing number is below the newest one, and may be placed
pub record IsSound (codec : Meaning) (assembly : Assembly) (wanted : Wanted) : Type 0 where
  pub whole : IsWhole codec assembly
  pub fresh : AreFresh assembly.window wanted.asks
