-- What is left after each event of a history.
use Rattle.std.specs.Prelude.{ℕ, Bool, false, max, List, [], ◌∷◌, map, Option, Some, None}
use Rattle.vrx_window.specs.Content.{Content}
use Rattle.vrx_window.specs.Window.{Contents, nothing}
use Rattle.vrx_frames.specs.Run.{Packets, Run}
use Rattle.vrx_core.specs.machine.Told.{Told}

-- What is left after an event: the clock; the window, with the greatest number taken, the first one, the available
-- packets and those of its numbers that were given up; the places that packets told; the frames pulled, as runs, the
-- newest first; the front of the passed numbers; and the runs that stand. And what the event did beside: the numbers
-- that it repaired, in the order in which it did; the numbers that it gave up, in their order; the numbers that it asked
-- for, in their order; whether a keyframe completed at it; and whether it asked for a keyframe.
pub record Snapshot : Type 0 where
  pub now : ℕ
  pub window : Contents Content
  pub told : Told
  pub pulled : List Run
  pub front : Option ℕ
  pub standing : List Run
  pub repaired : List ℕ
  pub lost : List ℕ
  pub asked : List ℕ
  pub key_completed : Bool
  pub key_asked : Bool

-- before the first event
abbrev pub opening : Snapshot
opening = record {
  now = 0;
  window = nothing;
  told = [];
  pulled = [];
  front = None;
  standing = [];
  repaired = [];
  lost = [];
  asked = [];
  key_completed = false;
  key_asked = false;
}

-- the present, of what was left after each event (the newest first, the opening last)
abbrev pub latest : List Snapshot → Snapshot
latest [] = opening
latest (s ∷ past) = s

-- the packets available at the end of each event
abbrev pub times : List Snapshot → List Packets
times past = map (λ s. s.window.packets) past

-- the last number of the last frame pulled
abbrev pub last_pulled : List Run → Option ℕ
last_pulled [] = None
last_pulled (run ∷ runs) = Some run.last

-- an event that only moves the clock
abbrev pub moved : Snapshot → ℕ → Snapshot
moved s moment = record s {
  now = max s.now moment;
  repaired = [];
  lost = [];
  asked = [];
  key_completed = false;
  key_asked = false;
}
