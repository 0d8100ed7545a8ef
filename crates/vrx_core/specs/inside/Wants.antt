-- What is wanted, event by event: one event over what an engine keeps of the requests.
use Rattle.std.specs.Prelude.{◌≡◌, ℕ, ◌+◌, ◌-◌, ◌<◌, ◌≤◌, Bool, true, false, not, ◌&&◌, ◌||◌, nat_lt, max, if◌then◌else◌, List, [], ◌∷◌, length, slice_get, slice_index, Option, Some, None, IsSomeAnd}
use Rattle.std.specs.List.{All, filter}
use Rattle.std.specs.List.Sorted.{IsStrictlyIncreasing}
use Rattle.std.specs.Option.{option_map_or}
use Rattle.vrx_rtcp.specs.declared.types.TheConstants.{NACK_SPAN}
use Rattle.vrx_num.specs.Extended.{greater}
use Rattle.vrx_num.specs.declared.limits.TheConstants.{WINDOW}
use Rattle.vrx_asks.specs.Asks.{asks_left, beyond, given_up_numbers, with_missing, without}
use Rattle.vrx_asks.specs.KeyAsk.{is_outstanding}
use Rattle.vrx_asks.specs.declared.ask.Ask.{Ask}
use Rattle.vrx_window.specs.Window.{Contents, after_giving_up, is_dead, is_inside, newest_with, would_of}
use Rattle.vrx_window.specs.declared.held.Held.{Held}
use Rattle.vrx_window.specs.declared.placing.Placing.TheVariants.{Fresh}
use Rattle.vrx_frames.specs.Completed.{is_among}
use Rattle.vrx_frames.specs.Run.{is_passed}
use Rattle.vrx_core.specs.machine.GivenUp.{numbers_below, numbers_left}
use Rattle.vrx_core.specs.relation.StandsFor.{Wanted}
use Rattle.vrx_core.specs.declared.assembler.Arrival.{Arrival}
use Rattle.vrx_core.specs.declared.reply.Frame.{Frame}

-- the numbers that are given up once n is placed
abbrev pub lost_from : Contents Held → Option ℕ → ℕ → List ℕ
lost_from window front n =
    filter (λ m. not (is_passed front m) && not (is_dead m window.dead))
    (numbers_left window.first window.newest (Some (newest_with window.newest n)))

-- these numbers can be given up, one after the other
abbrev pub CanGiveUpAll : List ℕ → Contents Held → Type 0
CanGiveUpAll [] window = Unit {0}
CanGiveUpAll (n ∷ ns) window =
    (is_inside window.newest n ≡ true) × (would_of window n ≡ Fresh) × CanGiveUpAll ns (after_giving_up n window)

-- the window after these numbers were given up, one after the other
abbrev pub given_up_all : List ℕ → Contents Held → Contents Held
given_up_all [] window = window
given_up_all (n ∷ ns) window = given_up_all ns (after_giving_up n window)

-- the greater of two numbers, if there are any
abbrev pub later_of : (one other : Option ℕ) → Option ℕ
later_of None other = other
later_of (Some n) other = greater other n

-- the asks beyond a number, if there is one
abbrev pub beyond_front : Option ℕ → List Ask → List Ask
beyond_front None asks = asks
beyond_front (Some front) asks = beyond front asks

-- these numbers are missing too, one after the other, and are asked for at this moment
abbrev pub with_all_missing : ℕ → List ℕ → List Ask → List Ask
with_all_missing now [] asks = asks
with_all_missing now (n ∷ ns) asks = with_all_missing now ns (with_missing n now asks)

-- where the numbers begin that are missing once the newest number has moved from one to another
abbrev pub gap_from : Option ℕ → ℕ → ℕ
gap_from None after = after
gap_from (Some before) after = max (before + 1) (after + 1 - WINDOW)

-- the numbers that are missing with a packet, as it moves the newest number
abbrev pub gap_of : Option ℕ → ℕ → List ℕ
gap_of newest n = numbers_below (gap_from newest (newest_with newest n)) (newest_with newest n)

-- the asks without those for these numbers, one after the other
abbrev pub without_all : List ℕ → List Ask → List Ask
without_all [] asks = asks
without_all (n ∷ ns) asks = without_all ns (without n asks)

-- the missing numbers, once a packet was taken and its repairs were made
abbrev pub asks_taken : (now : ℕ) → Arrival → Option ℕ → List Ask → List Ask
asks_taken now arrival front asks = without_all arrival.repaired
    (with_all_missing now (gap_of arrival.newest arrival.number)
    (beyond_front front (beyond (newest_with arrival.newest arrival.number - WINDOW) (without arrival.number asks))))

-- the numbers that it asks for: those that it makes missing, unless they were repaired
abbrev pub asks_for : Arrival → List ℕ
asks_for arrival = filter (λ n. not (is_among arrival.repaired n)) (gap_of arrival.newest arrival.number)

-- n isn't answered by keyframes that begin at these numbers, if there are any
abbrev pub is_open : (standing pulled : Option ℕ) → ℕ → Bool
is_open standing pulled n =
    not (option_map_or (λ key. nat_lt n key) standing false) && not (option_map_or (λ key. nat_lt n key) pulled false)

-- some number was given up that isn't answered, if this is the greatest one
abbrev pub is_lost_open : (standing pulled lost : Option ℕ) → Bool
is_lost_open standing pulled lost = option_map_or (is_open standing pulled) lost false

-- a keyframe is asked for, if one is wanted and no request is outstanding
abbrev pub asks_key : (now : ℕ) → Bool → Option ℕ → Bool
asks_key now wants last = wants && not (is_outstanding now last)

-- the last request after that
abbrev pub key_after : (now : ℕ) → Bool → Option ℕ → Option ℕ
key_after now wants last = if asks_key now wants last then Some now else last

-- the last request, unless a keyframe completed
abbrev pub open_after : Bool → Option ℕ → Option ℕ
open_after completed last = if completed then None else last

-- what is wanted once a packet was taken: the keyframe with the greatest first number that stands, if one does, is key
abbrev pub wanted_taken : (now : ℕ) → Arrival → (front key : Option ℕ) → Wanted → Wanted
wanted_taken now arrival front key wanted = record {
  asks = asks_taken now arrival front wanted.asks;
  lost = later_of arrival.lost wanted.lost;
  key_pulled = wanted.key_pulled;
  keyed = wanted.keyed || arrival.key;
  key_asked =
      key_after now (is_lost_open key wanted.key_pulled arrival.lost) (open_after arrival.key wanted.key_asked);
}

-- whether it asks for a keyframe
abbrev pub key_taken : (now : ℕ) → Arrival → (key : Option ℕ) → Wanted → Bool
key_taken now arrival key wanted =
    asks_key now (is_lost_open key wanted.key_pulled arrival.lost) (open_after arrival.key wanted.key_asked)

-- the last of numbers, if there is one
abbrev pub last_of : List ℕ → Option ℕ
last_of numbers = slice_get numbers (length numbers - 1)

-- the greatest number given up, after a tick
abbrev pub lost_ticked : (now interval : ℕ) → Wanted → Option ℕ
lost_ticked now interval wanted = later_of (last_of (given_up_numbers now interval wanted.asks)) wanted.lost

-- whether there is need of a keyframe after a tick
abbrev pub needs_key : (now interval : ℕ) → (started : Bool) → (key : Option ℕ) → Wanted → Bool
needs_key now interval started key wanted =
    is_lost_open key wanted.key_pulled (lost_ticked now interval wanted) || (started && not wanted.keyed)

-- what is wanted after a tick
abbrev pub wanted_ticked : (now interval : ℕ) → (started : Bool) → (key : Option ℕ) → Wanted → Wanted
wanted_ticked now interval started key wanted = record {
  asks = asks_left now interval wanted.asks;
  lost = lost_ticked now interval wanted;
  key_pulled = wanted.key_pulled;
  keyed = wanted.keyed;
  key_asked = key_after now (needs_key now interval started key wanted) wanted.key_asked;
}

-- what is wanted once a frame was pulled, with the front after it
abbrev pub wanted_pulled : (front : Option ℕ) → (key : Bool) → (first : ℕ) → Wanted → Wanted
wanted_pulled front key first wanted = record wanted {
  asks = beyond_front front wanted.asks;
  key_pulled = if key then Some first else wanted.key_pulled;
}

-- each missing number is below the newest, and may be placed
abbrev pub AreFresh : Contents Held → List Ask → Type 0
AreFresh window asks =
    All (λ ask. IsSomeAnd window.newest (λ newest. ask.number < newest) × (would_of window ask.number ≡ Fresh)) asks

-- the same, without what the window has
abbrev pub AreBelow : Option ℕ → List Ask → Type 0
AreBelow newest asks = All (λ ask. IsSomeAnd newest (λ m. ask.number < m)) asks

-- before the first event
abbrev pub nothing_wanted : Wanted
nothing_wanted = record { asks = []; lost = None; key_pulled = None; keyed = false; key_asked = None }

-- numbers rise, and the last is at most 2,046 above the first: a NACK has room for their items
pub record AreNear (numbers : List ℕ) : Type 0 where
  pub rise : IsStrictlyIncreasing numbers
  pub near : 1 ≤ length numbers → slice_index numbers (length numbers - 1) ≤ slice_index numbers 0 + NACK_SPAN

-- what is wanted once a datagram was handled: all stays as it was, if it isn't taken
abbrev pub wanted_with : (now : ℕ) → (front key : Option ℕ) → Option Arrival → Wanted → Wanted
wanted_with now front key None wanted = wanted
wanted_with now front key (Some arrival) wanted = wanted_taken now arrival front key wanted

-- the numbers that it asks for
abbrev pub asked_with : Option Arrival → List ℕ
asked_with None = []
asked_with (Some arrival) = asks_for arrival

-- the numbers that it repaired
abbrev pub repaired_with : Option Arrival → List ℕ
repaired_with None = []
repaired_with (Some arrival) = arrival.repaired

-- whether it asks for a keyframe
abbrev pub key_with : (now : ℕ) → (key : Option ℕ) → Option Arrival → Wanted → Bool
key_with now key None wanted = false
key_with now key (Some arrival) wanted = key_taken now arrival key wanted

-- what is wanted once a pull was answered by this frame, or by none
abbrev pub pulled_with : (front : Option ℕ) → Option Frame → Wanted → Wanted
pulled_with front None wanted = wanted
pulled_with front (Some frame) wanted = wanted_pulled front frame.key frame.first wanted
