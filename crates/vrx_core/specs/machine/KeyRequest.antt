-- When a keyframe is asked for (PLI, RFC 4585 6.3.1).
use Rattle.std.specs.Prelude.{ℕ, Bool, not, ◌&&◌, ◌||◌, ◌==◌, nat_lt, if◌then◌else◌, List, [], ◌∷◌, Option, Some, None, is_some}
use Rattle.std.specs.List.{list_any}
use Rattle.vrx_asks.specs.KeyAsk.{is_outstanding}
use Rattle.vrx_frames.specs.Run.{Run}
use Rattle.vrx_core.specs.machine.GivenUp.{all_lost}
use Rattle.vrx_core.specs.machine.Snapshot.{Snapshot, latest}

-- one of these runs is a keyframe that begins beyond the number
abbrev pub has_key_beyond : List Run → ℕ → Bool
has_key_beyond runs n = list_any (λ run. run.key && nat_lt n run.first) runs

-- a number is answered if a keyframe that begins beyond it stands, or was pulled
abbrev pub is_answered : Snapshot → ℕ → Bool
is_answered s n = has_key_beyond s.standing n || has_key_beyond s.pulled n

-- a keyframe completes with an event if it stands after the event, and didn't before. At most one run begins at a
-- number.
abbrev pub completes_key : (before after : List Run) → Bool
completes_key before after =
    list_any (λ run. run.key && not (list_any (λ other. other.first == run.first) before)) after

-- the moment at which a keyframe was last asked for, if none completed after that
abbrev pub open_request : List Snapshot → Option ℕ
open_request [] = None
open_request (s ∷ past) = if s.key_asked then Some s.now else if s.key_completed then None else open_request past

-- the request that is open once an event is over, if it doesn't ask for a keyframe itself
abbrev pub still_open : Snapshot → List Snapshot → Option ℕ
still_open s past = if s.key_completed then None else open_request past

-- there is need of a keyframe if some number that was given up isn't answered, or if a packet was taken and no keyframe
-- ever completed
abbrev pub is_needed : List Snapshot → Bool
is_needed past = list_any (λ n. not (is_answered (latest past) n)) (all_lost past)
    || (is_some (latest past).window.newest && not (list_any (λ s. s.key_completed) past))

-- an event asks for a keyframe if it wants one, unless a request is outstanding
abbrev pub with_key_request : Bool → List Snapshot → Snapshot → Snapshot
with_key_request wants past s = record s { key_asked = wants && not (is_outstanding s.now (still_open s past)) }
