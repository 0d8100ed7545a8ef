-- The engine as contracts see it, and the history that it stands for.
use Rattle.std.specs.Prelude.{◌≡◌, ℕ, Bool, true, if◌then◌else◌, List, [], ◌∷◌, map, length, Option, Some, None}
use Rattle.std.specs.List.{filter, list_any}
use Rattle.vrx_asks.specs.declared.ask.Ask.{Ask}
use Rattle.vrx_codec.specs.Meaning.{Meaning}
use Rattle.vrx_codec.specs.declared.run.Run.{Run as RunSummary}
use Rattle.vrx_refs.specs.Finder.{Finder}
use Rattle.vrx_refs.specs.Knows.{Knows}
use Rattle.vrx_window.specs.Content.{contents_of}
use Rattle.vrx_window.specs.Sound.{place_at}
use Rattle.vrx_window.specs.Window.{Contents, is_available}
use Rattle.vrx_window.specs.declared.held.Held.{Held}
use Rattle.vrx_frames.specs.Run.{Packets, Run, summary_of}
use Rattle.vrx_frames.specs.Shape.{shape_of}
use Rattle.vrx_frames.specs.Completed.{Known}
use Rattle.vrx_frames.specs.declared.shape.Shape.{Shape}
use Rattle.vrx_core.specs.machine.History.{now}
use Rattle.vrx_core.specs.machine.Told.{newest_picture, place_told, sightings}
use Rattle.vrx_core.specs.machine.Standing.{began_after_end}
use Rattle.vrx_core.specs.machine.GivenUp.{all_lost}
use Rattle.vrx_core.specs.machine.Request.{missing, requests}
use Rattle.vrx_core.specs.machine.KeyRequest.{open_request}
use Rattle.vrx_core.specs.machine.Machine.{Snapshot, latest, last_pulled, snapshots, times}
use Rattle.vrx_buffer.specs.Order.{greatest_of}
use Rattle.vrx_core.specs.declared.settings.Settings.{Settings}
use Rattle.vrx_core.specs.declared.event.Event.{Event}

-- What an engine assembles frames of. It keeps no history: of what was available before, only what is known of the
-- numbers in the window, the newest picture, and what the finder knows of pictures.
pub record Assembly : Type 0 where
  pub settings : Settings
  pub events : ℕ
  pub clock : ℕ
  pub window : Contents Held
  pub pictures : Option ℕ
  pub known : Known
  pub finder : Finder
  pub frames : List RunSummary
  pub last_pulled : Option ℕ
  pub front : Option ℕ

-- the numbers of entries, in their order
abbrev pub numbers_of : Packets → List ℕ
numbers_of packets = map (λ entry. entry.0) packets

-- the numbers of entries, each with the shape of its packet
abbrev pub shapes_of : Meaning → Packets → List (ℕ × Shape)
shapes_of codec packets = map (λ entry. (entry.0, shape_of codec entry.1)) packets

-- what is known of numbers is what the machine's past gives: all available numbers are known; and of them those that
-- ever stood right after the end of a frame
pub record KnowsPast (codec : Meaning) (known : Known) (past : List Snapshot) : Type 0 where
  pub arrivals : known.arrivals ≡ shapes_of codec (latest past).window.packets
  pub began : known.began ≡ filter (began_after_end (times past)) (numbers_of (latest past).window.packets)

-- the places kept are those told: the newest picture is the greatest told, and each available number has the place
-- that it told
pub record KnowsPlaces (parts : Assembly) (s : Snapshot) : Type 0 where
  pub newest : parts.pictures ≡ newest_picture s.told
  pub places : (n : ℕ) → is_available n s.window.packets ≡ true →
      place_at parts.window.packets n ≡ place_told s.told n

-- each part has the value that the machine gives it, of what was left after each event
pub record StandsIn (codec : Meaning) (parts : Assembly) (past : List Snapshot) : Type 0 where
  pub window : contents_of parts.window ≡ (latest past).window
  pub places : KnowsPlaces parts (latest past)
  pub known : KnowsPast codec parts.known past
  -- the finder knows the pictures that were told, and the frames that were pulled
  pub finder : Knows parts.finder (sightings (latest past).told) (map summary_of (latest past).pulled)
  pub frames : parts.frames ≡ map summary_of (latest past).standing
  pub last_pulled : parts.last_pulled ≡ last_pulled (latest past).pulled
  pub front : parts.front ≡ (latest past).front

-- the assembly is that of a history
pub record IsAssembled (codec : Meaning) (assembly : Assembly) (h : List Event) : Type 0 where
  pub events : assembly.events ≡ length h
  pub clock : assembly.clock ≡ now h
  pub stands : StandsIn codec assembly (snapshots assembly.settings codec h)

-- What an engine keeps of the requests: the missing numbers, each with how often it was asked for; the greatest number
-- given up; the first number of the last keyframe pulled; whether a keyframe ever completed; and the moment of the last
-- request for a keyframe after which none completed.
pub record Wanted : Type 0 where
  pub asks : List Ask
  pub lost : Option ℕ
  pub key_pulled : Option ℕ
  pub keyed : Bool
  pub key_asked : Option ℕ

-- how often a number was asked for, and when last: 0 before the first request
abbrev pub ask_of : List Snapshot → ℕ → Ask
ask_of past n = record { number = n; times = length (requests past n); last = last_of (requests past n) } where
  last_of : List ℕ → ℕ
  last_of [] = 0
  last_of (moment ∷ moments) = moment

-- the first number of the last keyframe among the runs pulled, which stand the newest first
abbrev pub last_key : List Run → Option ℕ
last_key [] = None
last_key (run ∷ runs) = if run.key then Some run.first else last_key runs

-- what is wanted is what the machine's past gives
pub record WantsIn (wanted : Wanted) (past : List Snapshot) : Type 0 where
  pub asks : wanted.asks ≡ map (ask_of past) (missing past)
  pub lost : wanted.lost ≡ greatest_of (all_lost past)
  pub key_pulled : wanted.key_pulled ≡ last_key (latest past).pulled
  pub keyed : wanted.keyed ≡ list_any (λ s. s.key_completed) past
  pub key_asked : wanted.key_asked ≡ open_request past

-- an engine: what it assembles, and what it wants
pub record EngineParts : Type 0 where
  pub settings : Settings
  pub events : ℕ
  pub clock : ℕ
  pub window : Contents Held
  pub pictures : Option ℕ
  pub known : Known
  pub finder : Finder
  pub frames : List RunSummary
  pub last_pulled : Option ℕ
  pub front : Option ℕ
  pub wanted : Wanted

-- what an engine assembles
abbrev pub assembly_in : EngineParts → Assembly
assembly_in parts = record {
  settings = parts.settings;
  events = parts.events;
  clock = parts.clock;
  window = parts.window;
  pictures = parts.pictures;
  known = parts.known;
  finder = parts.finder;
  frames = parts.frames;
  last_pulled = parts.last_pulled;
  front = parts.front;
}

-- an engine of an assembly and of what is wanted
abbrev pub parts_of : Assembly → Wanted → EngineParts
parts_of assembly wanted = record {
  settings = assembly.settings;
  events = assembly.events;
  clock = assembly.clock;
  window = assembly.window;
  pictures = assembly.pictures;
  known = assembly.known;
  finder = assembly.finder;
  frames = assembly.frames;
  last_pulled = assembly.last_pulled;
  front = assembly.front;
  wanted = wanted;
}

-- an engine stands for a history
pub record StandsFor (codec : Meaning) (parts : EngineParts) (h : List Event) : Type 0 where
  pub assembled : IsAssembled codec (assembly_in parts) h
  pub wants : WantsIn parts.wanted (snapshots parts.settings codec h)
