-- The numbers that a receiver misses, in their order, each with how often it was asked for and when for the last time
-- (generic NACK, RFC 4585 6.2.1). Numbers are extended sequence numbers (RFC 3550 A.1), moments are in milliseconds.
use Rattle.std.specs.Prelude.{ℕ, ◌+◌, Bool, true, not, ◌&&◌, ◌==◌, nat_lt, nat_le, if◌then◌else◌, List, [], ◌∷◌, ◌++◌, map}
use Rattle.std.specs.List.{filter, list_all}
use Rattle.vrx_num.specs.declared.limits.TheConstants.{MOST_REQUESTS, WINDOW}
use Rattle.vrx_asks.specs.declared.ask.Ask.{Ask}

-- the missing numbers
abbrev pub numbers : List Ask → List ℕ
numbers asks = map (λ ask. ask.number) asks

-- each missing number is below n
abbrev pub are_below : ℕ → List Ask → Bool
are_below n asks = list_all (λ ask. nat_lt ask.number n) asks

-- the number after n has the first missing number, if there is one, in its window: n is at most 2,046 above the first
abbrev pub is_near : ℕ → List Ask → Bool
is_near n [] = true
is_near n (first ∷ asks) = nat_lt (n + 1) (first.number + WINDOW)

-- n is missing too, and was asked for once, just now
abbrev pub with_missing : ℕ → ℕ → List Ask → List Ask
with_missing n now asks = asks ++ (record { number = n; times = 1; last = now } ∷ [])

-- those whose number isn't n
abbrev pub without : ℕ → List Ask → List Ask
without n asks = filter (λ ask. not (ask.number == n)) asks

-- those whose number is above n
abbrev pub beyond : ℕ → List Ask → List Ask
beyond n asks = filter (λ ask. nat_lt n ask.number) asks

-- the last request is an interval ago, or longer
abbrev pub is_due : ℕ → ℕ → Ask → Bool
is_due now interval ask = nat_le (ask.last + interval) now

-- the number is asked for again
abbrev pub is_asked : ℕ → ℕ → Ask → Bool
is_asked now interval ask = is_due now interval ask && nat_lt ask.times MOST_REQUESTS

-- the number is given up: it was asked for as often as may be
abbrev pub is_given_up : ℕ → ℕ → Ask → Bool
is_given_up now interval ask = is_due now interval ask && not (nat_lt ask.times MOST_REQUESTS)

-- an ask after a tick: if its number is asked for again, once more and just now
abbrev pub ask_after : ℕ → ℕ → Ask → Ask
ask_after now interval ask =
    if is_asked now interval ask then record { number = ask.number; times = ask.times + 1; last = now } else ask

-- the numbers that are asked for again
abbrev pub asked_numbers : ℕ → ℕ → List Ask → List ℕ
asked_numbers now interval asks = numbers (filter (is_asked now interval) asks)

-- the numbers that are given up
abbrev pub given_up_numbers : ℕ → ℕ → List Ask → List ℕ
given_up_numbers now interval asks = numbers (filter (is_given_up now interval) asks)

-- what is missing after a tick: all but those given up
abbrev pub asks_left : ℕ → ℕ → List Ask → List Ask
asks_left now interval asks = map (ask_after now interval) (filter (λ ask. not (is_given_up now interval ask)) asks)
