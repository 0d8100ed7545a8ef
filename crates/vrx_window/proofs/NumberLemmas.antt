-- The numbers of a window, and their slots.
use Rattle.std.proofs.Common.{◌≡◌, ◌≢◌, ℕ, zero, suc, ◌+◌, ◌-◌, ◌%◌, ◌<◌, true, false, ◌&&◌, refl, arith}
use Rattle.std.specs.Prelude.{nat_lt, nat_le, ◌==◌, Option, Some, None}
use Rattle.std.specs.List.{range_with_len, list_any}
use Rattle.std.proofs.lemmas.Grind.{common_steps}
use Rattle.vrx_num.specs.declared.limits.TheConstants.{WINDOW}
use Rattle.vrx_window.specs.Window.{in_window, is_inside, is_too_old, newest_with}
use Rattle.vrx_window.specs.Ring.{numbers, IsBeyond}

-- whether a number is one of those from a on
among_range : (q a n : ℕ) → list_any (λ k. q == k) (range_with_len a n) ≡ (nat_le a q && nat_lt q (a + n))
among_range q a zero = grind (arith, common_steps)
among_range q a (suc n) = grind (arith, common_steps, among_range q (a + 1) n)

-- the numbers of the window are those in it
pub among_numbers : (newest : Option ℕ) (q : ℕ) → list_any (λ k. q == k) (numbers newest) ≡ is_inside newest q
among_numbers None q = refl
among_numbers (Some newest) q = grind (
  arith,
  common_steps,
  among_range q (newest + 1 - WINDOW) (newest + 1 -
      (newest + 1 - WINDOW)),
)

-- two numbers of a window that share a slot are equal
pub same_slot : (newest n m : ℕ) → in_window newest n ≡ true → in_window newest m ≡ true → n % WINDOW ≡ m % WINDOW →
    n ≡ m
same_slot newest n m a b same = grind (arith, common_steps)

-- a number that isn't too old is in the window once it is placed
pub inside_with : (newest : Option ℕ) (n : ℕ) → is_too_old newest n ≡ false
    → in_window (newest_with newest n) n ≡ true
inside_with None n h = grind (arith, common_steps)
inside_with (Some newest) n h = grind (arith, common_steps)

-- a number that is neither too old nor in the window is beyond the newest
pub beyond_else : (newest : Option ℕ) (n : ℕ) → is_too_old newest n ≡ false → is_inside newest n ≡ false
    → IsBeyond newest n
beyond_else None n a b = tt
beyond_else (Some newest) n a b = grind (arith, common_steps)

-- what is too old isn't in the window
pub old_outside : (newest : Option ℕ) (n : ℕ) → is_too_old newest n ≡ true → is_inside newest n ≡ false
old_outside None n h = refl
old_outside (Some newest) n h = grind (arith, common_steps)

-- what is in a later window isn't too old for an earlier one
pub in_later : (newest : Option ℕ) (n q : ℕ) → in_window (newest_with newest n) q ≡ true → is_too_old newest q ≡ false
in_later None n q h = refl
in_later (Some newest) n q h = grind (arith, common_steps)

-- what is beyond a later newest number is beyond the earlier one, and isn't the number placed
pub beyond_later : (newest : Option ℕ) (n m : ℕ) → newest_with newest n < m → IsBeyond newest m × (m ≢ n)
beyond_later None n m h = (tt, λ same. absurd (omega arith))
beyond_later (Some newest) n m h = (omega arith, λ same. absurd (omega arith))
