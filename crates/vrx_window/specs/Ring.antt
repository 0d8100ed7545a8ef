-- How the slots of a ring stand for the numbers of a window. The slot of a number is the number modulo 2,048, and it
-- counts for the number only if it remembers that very number. No public clause cites this module.
use Rattle.std.specs.Prelude.{◌≡◌, ℕ, ◌+◌, ◌-◌, ◌%◌, ◌<◌, ◌==◌, if◌then◌else◌, List, [], length, slice_index_or, Option, Some, None}
use Rattle.std.specs.List.{filter_map, range_with_len}
use Rattle.std.specs.Option.{option_map}
use Rattle.vrx_num.specs.declared.limits.TheConstants.{WINDOW}
use Rattle.vrx_window.specs.declared.slot.Slot.{Slot}
use Rattle.vrx_window.specs.declared.slot.Slot.TheVariants.{Free, Taken}
use Rattle.vrx_window.specs.Numbered.{Numbered}

-- the numbers of the window, in their order: of those up to the newest the last 2,048
abbrev pub numbers : Option ℕ → List ℕ
numbers None = []
numbers (Some newest) = let lowest : ℕ = newest + 1 - WINDOW in range_with_len lowest (newest + 1 - lowest)

-- the number is greater than each that the window was moved to
abbrev pub IsBeyond : Option ℕ → ℕ → Type 0
IsBeyond None n = Unit {0}
IsBeyond (Some newest) n = newest < n

module _ {X : Type 0} where
  -- the slot of a number
  abbrev pub slot_of : List (Slot X) → ℕ → Slot X
  slot_of slots n = slice_index_or slots (n % WINDOW) Free

  -- what a slot has under a number
  abbrev pub value_of : ℕ → Slot X → Option X
  value_of n Free = None
  value_of n (Taken number value) = if n == number then Some value else None

  -- what the slots have under a number
  abbrev pub value_at : List (Slot X) → ℕ → Option X
  value_at slots n = value_of n (slot_of slots n)

  -- a number with what stands under it
  abbrev pub entry_at : List (Slot X) → ℕ → Option (ℕ × X)
  entry_at slots n = option_map (λ value. (n, value)) (value_at slots n)

  -- what the ring shows
  abbrev pub numbered_of : Option ℕ → List (Slot X) → Numbered X
  numbered_of newest slots = record { newest = newest; entries = filter_map (entry_at slots) (numbers newest) }

  -- a ring: it has 2,048 slots, and no slot speaks of a number beyond the newest
  pub record IsRing (newest : Option ℕ) (slots : List (Slot X)) : Type 0 where
    pub size : length slots ≡ WINDOW
    pub beyond : (n : ℕ) → IsBeyond newest n → value_at slots n ≡ None
