-- One event over the engine's parts, and what always holds of them.
use Rattle.std.specs.Prelude.{◌≡◌, ℕ, ◌+◌, ◌-◌, ◌<◌, ◌≤◌, ◌*◌, Bool, true, max, List, [], ◌∷◌, map, Option, Some, None, IfSome, IsSomeAnd, is_some}
use Rattle.std.specs.List.{list_any}
use Rattle.vrx_num.specs.declared.limits.TheConstants.{WINDOW, HALF_SPACE, PICTURES, HALF_PICTURES, MOST_EVENTS}
use Rattle.vrx_codec.specs.Meaning.{Meaning}
use Rattle.vrx_codec.specs.declared.run.Run.{Run as RunSummary}
use Rattle.vrx_window.specs.Content.{contents, contents_of}
use Rattle.vrx_refs.specs.Knows.{Knows}
use Rattle.vrx_refs.specs.References.{was_carried}
use Rattle.vrx_refs.specs.declared.sighting.Sighting.{Sighting}
use Rattle.vrx_buffer.specs.Frames.{runs_from, with_run}
use Rattle.vrx_window.specs.Sound.{AreSound, place_at, place_of}
use Rattle.vrx_window.specs.Window.{Contents, at, is_inside, after_placing}
use Rattle.vrx_window.specs.declared.held.Held.{Held}
use Rattle.vrx_frames.specs.Run.{Packets, stands_after_end, summary_of}
use Rattle.vrx_frames.specs.Front.{front_after, is_no_media}
use Rattle.vrx_frames.specs.Completed.{Completes, IsUpTo, Known, is_among, known_with, standing_runs}
use Rattle.vrx_repair.specs.Commit.{pictures_after, window_after}
use Rattle.vrx_repair.specs.Plan.{IsPlan, IsRepaired, numbers_of, placed, repairs_in}
use Rattle.vrx_repair.specs.Source.{Source}
use Rattle.vrx_repair.specs.declared.repair.Repair.{Repair}
use Rattle.vrx_core.specs.inside.Places.{newest_with_place, with_sightings}
use Rattle.vrx_core.specs.relation.StandsFor.{Assembly, shapes_of}

-- the parts after one event more, at this moment
abbrev pub after_counting : Assembly → ℕ → Assembly
after_counting parts moment = record parts { events = parts.events + 1; clock = max parts.clock moment }

-- the packets of the parts, by their contents
abbrev pub packets_of : Assembly → Packets
packets_of parts = contents parts.window.packets

-- the runs, with these put in their places one after the other
abbrev pub with_runs : List RunSummary → List RunSummary → List RunSummary
with_runs [] runs = runs
with_runs (run ∷ more) runs = with_runs more (with_run run runs)

-- the lowest number of the window after the newest number
abbrev pub lowest_of : Option ℕ → ℕ
lowest_of None = 0
lowest_of (Some newest) = newest + 1 - WINDOW

-- what is known once numbers are told, one after the other
abbrev pub known_all : Meaning → (newest passed : Option ℕ) → Packets → List ℕ → Known → Known
known_all codec newest passed packets [] known = known
known_all codec newest passed packets (n ∷ ns) known =
    known_all codec newest passed packets ns (known_with codec newest n passed packets known)

-- the runs that stand in a window beyond the passed numbers, of what is known, as they are told
abbrev pub frames_in : Meaning → Contents Held → (passed : Option ℕ) → Known → List RunSummary
frames_in codec window passed known =
    map summary_of (standing_runs codec (place_at window.packets) passed known (contents window.packets))

-- the runs of a window that what is told completes, beyond the passed numbers; and whether one of them is a keyframe
pub record CompletesWith (codec : Meaning) (window : Contents Held) (passed : Option ℕ) (before after : Known)
    (key : Bool) : Type 0 where
  pub answers : List RunSummary
  pub completes : Completes
      (standing_runs codec (place_at window.packets) passed before (contents window.packets))
      (standing_runs codec (place_at window.packets) passed after (contents window.packets)) answers
  pub key_is : key ≡ list_any (λ run. run.key) answers

-- the newest picture once a packet was taken
abbrev pub pictures_with : Option ℕ → Held → Option ℕ
pictures_with newest held = newest_with_place newest (place_of (Some held))

-- A packet was taken under a number, and these repairs were made: they are placed and told, one after the other; the
-- runs that stand are those of what is known then, beyond the front before; and the front goes on.
pub record IsTakenAs (codec : Meaning) (before after : Assembly) (n : ℕ) (held : Held) (made : List Repair)
    : Type 0 where
  pub settings : after.settings ≡ before.settings
  pub window : after.window ≡ window_after made (pictures_with before.pictures held) (after_placing n held before.window)
  pub pictures : after.pictures ≡ pictures_after made (pictures_with before.pictures held)
  -- by contents: of a plan of some source, just its repairs were made, and no step is left
  pub repaired : (source : Source) → IsPlan source n held before.window made →
      IsRepaired source (repairs_in source (placed n held before.window)) (placed n held before.window)
      (contents_of after.window)
  pub known : after.known ≡ known_all codec after.window.newest before.front (packets_of after)
      (n ∷ numbers_of made) before.known
  -- the finder is told the places, too
  pub finder : (told : List Sighting) (pulled : List RunSummary) → Knows before.finder told pulled →
      Knows after.finder (with_sightings after.window.packets (n ∷ numbers_of made) told) pulled
  pub frames : after.frames ≡ frames_in codec after.window before.front after.known
  -- whether a keyframe completes
  pub key : Bool
  pub completes : CompletesWith codec after.window before.front before.known after.known key
  pub last_pulled : after.last_pulled ≡ before.last_pulled
  pub front : after.front ≡ front_after before.front before.last_pulled (packets_of after)

-- A run was handed out: it and the runs that begin before it are gone, and the front goes on.
pub record IsPulledAs (before after : Assembly) (run : RunSummary) : Type 0 where
  pub settings : after.settings ≡ before.settings
  pub window : after.window ≡ before.window
  pub pictures : after.pictures ≡ before.pictures
  pub known : after.known ≡ before.known
  pub finder : (told : List Sighting) (pulled : List RunSummary) → was_carried told run.layers ≡ true →
      Knows before.finder told pulled → Knows after.finder told (run ∷ pulled)
  pub frames : after.frames ≡ runs_from (run.first + 1) before.frames
  pub last_pulled : after.last_pulled ≡ Some run.last
  pub front : after.front ≡ front_after before.front (Some run.last) (packets_of before)

-- the front, beside the last number of the last frame pulled: there is one exactly if a frame was pulled, and it isn't
-- below that number, nor above the newest number; and each number of the window after the last number pulled, up to
-- the front, is available and no media
pub record IsFront (parts : Assembly) : Type 0 where
  pub both : is_some parts.front ≡ is_some parts.last_pulled
  pub ahead : IsUpTo parts.last_pulled parts.front
  pub within : IsUpTo parts.front parts.window.newest
  pub over : (n : ℕ) → IfSome parts.last_pulled (λ last. last < n) → IsSomeAnd parts.front (λ front. n ≤ front) →
      is_inside parts.window.newest n ≡ true
      → IsSomeAnd (at n (packets_of parts)) (λ content. is_no_media content ≡ true)

-- what always holds of the parts, whatever came
pub record IsKept (codec : Meaning) (parts : Assembly) : Type 0 where
  pub few : parts.events ≤ MOST_EVENTS
  pub reach : IfSome parts.window.newest (λ newest. (65536 ≤ newest) × (newest ≤ 131072 + HALF_SPACE * parts.events))
  pub sound : AreSound codec parts.window.packets
  -- the newest picture leaves room for those of the events to come
  pub room : IfSome parts.pictures (λ picture. picture ≤ PICTURES * 2 + HALF_PICTURES * (WINDOW + 1) * parts.events)
  -- all that is held is known, as of the newest number, and by a front that isn't beyond the present one
  pub arrivals : parts.known.arrivals ≡ shapes_of codec (packets_of parts)
  pub newest : parts.known.newest ≡ parts.window.newest
  pub passed : IsUpTo parts.known.passed parts.front
  pub front : IsFront parts
  -- and each number that stands right after the end of a frame is remembered
  pub behind : (n : ℕ) → stands_after_end n (packets_of parts) ≡ true → is_among parts.known.began n ≡ true
  -- the runs are those that stand by what is known
  pub frames : parts.frames ≡ frames_in codec parts.window parts.front parts.known
