-- The numbers that are missing, and which of them an event asks for (generic NACK, RFC 4585 6.2.1).
use Rattle.std.specs.Prelude.{ℕ, ◌+◌, ◌-◌, Bool, false, not, ◌&&◌, ◌==◌, nat_le, nat_lt, max, List, [], ◌∷◌, map, length, Option, Some}
use Rattle.std.specs.List.{filter}
use Rattle.vrx_num.specs.declared.limits.TheConstants.{MOST_REQUESTS, WINDOW}
use Rattle.vrx_window.specs.Window.{is_available}
use Rattle.vrx_frames.specs.Completed.{is_among}
use Rattle.vrx_frames.specs.Run.{is_passed}
use Rattle.vrx_core.specs.machine.GivenUp.{is_lost, numbers_below}
use Rattle.vrx_core.specs.machine.Snapshot.{Snapshot, latest}

-- the numbers of the window that lie between the first one taken and the newest, in their order
abbrev pub numbers_between : (first newest : Option ℕ) → List ℕ
numbers_between (Some first) (Some newest) = numbers_below (max (first + 1) (newest + 1 - WINDOW)) newest
numbers_between _ _ = []

-- of these the missing ones are not available, not passed and not given up
abbrev pub is_missing : List Snapshot → ℕ → Bool
is_missing past n =
    not (is_available n (latest past).window.packets) && not (is_passed (latest past).front n) && not (is_lost past n)

-- the missing numbers, in their order
abbrev pub missing : List Snapshot → List ℕ
missing past = filter (is_missing past) (numbers_between (latest past).window.first (latest past).window.newest)

-- the moments of the events that asked for a number, the newest first
abbrev pub requests : List Snapshot → ℕ → List ℕ
requests past n = map (λ s. s.now) (filter (λ s. is_among s.asked n) past)

-- the last of these moments, if there is one, is at least the interval old
abbrev pub is_old : (interval now : ℕ) → List ℕ → Bool
is_old interval now [] = false
is_old interval now (last ∷ earlier) = nat_le (last + interval) now

-- a datagram that is taken asks for each missing number that was never asked for
abbrev pub first_requests : List Snapshot → List ℕ
first_requests past = filter (λ n. length (requests past n) == 0) (missing past)

-- A tick asks again for each missing number that was asked for fewer than ten times, and whose last request is at
-- least the interval old.
abbrev pub repeated_requests : (interval now : ℕ) → List Snapshot → List ℕ
repeated_requests interval now past =
    filter (λ n. nat_lt (length (requests past n)) MOST_REQUESTS && is_old interval now (requests past n))
    (missing past)

-- It gives up each missing number that was asked for ten times, the last time at least the interval ago.
abbrev pub lost_by_tick : (interval now : ℕ) → List Snapshot → List ℕ
lost_by_tick interval now past =
    filter (λ n. (length (requests past n) == MOST_REQUESTS) && is_old interval now (requests past n)) (missing past)
