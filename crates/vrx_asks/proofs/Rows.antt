-- Rows of the definitions, which compute. The interval is 100 milliseconds.
use Rattle.std.proofs.Common.{◌≡◌, ℕ, true, false, List, [], ◌∷◌, Some, None, refl}
use Rattle.vrx_asks.specs.declared.ask.Ask.{Ask}
use Rattle.vrx_asks.specs.Asks.{are_below, asked_numbers, asks_left, beyond, given_up_numbers, is_near, numbers, with_missing, without}
use Rattle.vrx_asks.specs.KeyAsk.{is_outstanding}

-- what is missing after some ticks
abbrev after : List ℕ → List Ask → List Ask
after [] asks = asks
after (now ∷ nows) asks = after nows (asks_left now 100 asks)

-- missed at 0, which is the first request
abbrev lost : List Ask
lost = with_missing 65538 0 []

lost-is : lost ≡ (record { number = 65538; times = 1; last = 0 } ∷ [])
lost-is = refl

-- asked for again after 100 milliseconds, and not before
too_soon : asked_numbers 99 100 lost ≡ []
too_soon = refl

second : asked_numbers 100 100 lost ≡ 65538 ∷ []
second = refl

-- the tick at 900 is the ninth, and its request the tenth
abbrev ticks : List ℕ
ticks = 100 ∷ 200 ∷ 300 ∷ 400 ∷ 500 ∷ 600 ∷ 700 ∷ 800 ∷ []

tenth : asked_numbers 900 100 (after ticks lost) ≡ 65538 ∷ []
tenth = refl

tenth-left : asks_left 900 100 (after ticks lost) ≡ (record { number = 65538; times = 10; last = 900 } ∷ [])
tenth-left = refl

-- the tick at 1,000 gives it up, and asks for nothing; at 999 nothing is due
abbrev asked_ten_times : List Ask
asked_ten_times = asks_left 900 100 (after ticks lost)

no_more : asked_numbers 1000 100 asked_ten_times ≡ []
no_more = refl

over : given_up_numbers 1000 100 asked_ten_times ≡ 65538 ∷ []
over = refl

over-left : asks_left 1000 100 asked_ten_times ≡ []
over-left = refl

not_over : given_up_numbers 999 100 asked_ten_times ≡ []
not_over = refl

-- a moment may be before the last request: asked for at 500, nothing is due at 100 and at 599, and at 600 it is
abbrev later : List Ask
later = with_missing 65538 500 []

before : asked_numbers 100 100 later ≡ []
before = refl

almost : asked_numbers 599 100 later ≡ []
almost = refl

due : asked_numbers 600 100 later ≡ 65538 ∷ []
due = refl

-- 10, 12 and 13 are missing
abbrev three : List Ask
three = with_missing 13 5 (with_missing 12 5 (with_missing 10 0 []))

one-arrives : numbers (without 12 three) ≡ 10 ∷ 13 ∷ []
one-arrives = refl

another-arrives : numbers (without 11 three) ≡ 10 ∷ 12 ∷ 13 ∷ []
another-arrives = refl

some-pass : numbers (beyond 12 three) ≡ 13 ∷ []
some-pass = refl

-- at 100 only 10 is due, which was noticed before the others
one-due : asked_numbers 100 100 three ≡ 10 ∷ []
one-due = refl

one-renewed : asks_left 100 100 three ≡ (
    record { number = 10; times = 2; last = 100 }
    ∷ record { number = 12; times = 1; last = 5 }
    ∷ record { number = 13; times = 1; last = 5 }
    ∷ []
    )
one-renewed = refl

-- a number is noticed above all others, and within 2,046 of the first
next-above : are_below 14 three ≡ true
next-above = refl

last-not-above : are_below 13 three ≡ false
last-not-above = refl

farthest : is_near 2056 three ≡ true
farthest = refl

too_far : is_near 2057 three ≡ false
too_far = refl

-- a keyframe was asked for at 1,000: no other request goes before 1,300, unless a keyframe completes
never_asked : is_outstanding 1000 None ≡ false
never_asked = refl

outstanding : is_outstanding 1200 (Some 1000) ≡ true
outstanding = refl

last_outstanding : is_outstanding 1299 (Some 1000) ≡ true
last_outstanding = refl

answered_or_lost : is_outstanding 1300 (Some 1000) ≡ false
answered_or_lost = refl
