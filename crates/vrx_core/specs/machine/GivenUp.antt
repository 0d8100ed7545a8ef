-- The numbers that are given up: the receiver doesn't wait for their packets any more.
use Rattle.std.specs.Prelude.{ℕ, ◌+◌, ◌-◌, Bool, not, ◌&&◌, max, List, [], Option, Some}
use Rattle.std.specs.List.{filter, list_any, flat_map}
use Rattle.vrx_num.specs.declared.limits.TheConstants.{WINDOW}
use Rattle.vrx_frames.specs.Completed.{is_among}
use Rattle.vrx_frames.specs.Run.{is_passed, numbers_from}
use Rattle.vrx_core.specs.machine.Snapshot.{Snapshot, latest}

-- the numbers that were given up, by any event so far
abbrev pub all_lost : List Snapshot → List ℕ
all_lost past = flat_map (λ s. s.lost) past

-- a number was given up, by an event so far
abbrev pub is_lost : List Snapshot → ℕ → Bool
is_lost past n = list_any (λ s. is_among s.lost n) past

-- the numbers from one on, below another, in their order
abbrev pub numbers_below : (from below : ℕ) → List ℕ
numbers_below from below = numbers_from from (below - from)

-- the numbers from the first one taken on that are at most newest - 2,048, and weren't before
abbrev pub numbers_left : (first before after : Option ℕ) → List ℕ
numbers_left (Some first) (Some before) (Some after) =
    numbers_below (max first (before + 1 - WINDOW)) (after + 1 - WINDOW)
numbers_left _ _ _ = []

-- A datagram that is taken gives up the numbers that leave the window, from the first one taken on, unless they are
-- passed or were given up before.
abbrev pub lost_by_packet : List Snapshot → Snapshot → List ℕ
lost_by_packet past s = filter (λ n. not (is_passed s.front n) && not (is_lost past n))
    (numbers_left s.window.first (latest past).window.newest s.window.newest)
