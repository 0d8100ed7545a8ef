-- The runs that stand: whole frames that came and were not handed out yet, in the order of their first numbers. A run
-- has the numbers of its packets, which are extended sequence numbers (RFC 3550 A.1).
use Rattle.std.specs.Prelude.{◌≡◌, ℕ, ◌≤◌, Bool, true, not, ◌==◌, nat_le, List, length, map, Option}
use Rattle.std.specs.List.{All, find, filter}
use Rattle.vrx_num.specs.declared.limits.TheConstants.{WINDOW}
use Rattle.vrx_codec.specs.declared.run.Run.{Run}
use Rattle.vrx_refs.specs.declared.sighting.Sighting.{Sighting}
use Rattle.vrx_refs.specs.References.{has_layer, judge}
pub use Rattle.vrx_refs.specs.References.{is_ready}
use Rattle.vrx_buffer.specs.Order.{put_by, rises_by}

-- the runs that don't begin at n
abbrev pub without : ℕ → List Run → List Run
without n runs = filter (λ run. not (run.first == n)) runs

-- the runs, with one put in its place by first number, in place of a run that begins at the same number
abbrev pub with_run : Run → List Run → List Run
with_run run runs = put_by (λ r. r.first) run (without run.first runs)

-- the runs that begin at n or beyond it
abbrev pub runs_from : ℕ → List Run → List Run
runs_from n runs = filter (λ run. nat_le n run.first) runs

-- after these sightings and pulls, with the numbers up to `passed` passed, a run is ready: it refers to nothing, or to
-- frames that are known and were all pulled
abbrev pub is_deliverable : List Sighting → List Run → Option ℕ → Run → Bool
is_deliverable told pulled passed run = is_ready (judge told pulled passed run)

-- the deliverable run with the least first number
abbrev pub next_of : List Sighting → List Run → Option ℕ → List Run → Option Run
next_of told pulled passed runs = find (is_deliverable told pulled passed) runs

-- the first numbers of the keyframes
abbrev pub key_numbers : List Run → List ℕ
key_numbers runs = map (λ run. run.first) (filter (λ run. run.key) runs)

-- What always holds: the runs rise by first number, so that no two begin at one number; there are 2,048 at most; and
-- the TID of each, if it has layers, is one of the four that there are.
pub record AreStanding (runs : List Run) : Type 0 where
  pub rise : rises_by (λ run. run.first) runs ≡ true
  pub few : length runs ≤ WINDOW
  pub layers : All (λ run. has_layer run.layers ≡ true) runs
