-- What always holds of a window.
use Rattle.std.specs.Prelude.{◌≡◌, ℕ, ◌≤◌, List, length, true, Option, None}
use Rattle.std.specs.List.Sorted.{IsStrictlySortedBy}
use Rattle.std.specs.Ordering.{nat_cmp}
use Rattle.std.specs.FinMap.Entries.{is_sorted}
use Rattle.vrx_num.specs.declared.limits.TheConstants.{WINDOW}
use Rattle.vrx_window.specs.Window.{Contents, at, is_available, is_dead, is_inside}

-- The packets stand in the order of their numbers, and so do the numbers given up, none of them twice. All are in the
-- window, and no packet is held under a number that was given up. There are at most as many packets as the window has
-- numbers.
pub record IsWindow {X : Type 0} (window : Contents X) : Type 0 where
  pub packets_rise : is_sorted nat_cmp window.packets ≡ true
  pub dead_rise : IsStrictlySortedBy nat_cmp window.dead
  pub packets_inside : (n : ℕ) → is_available n window.packets ≡ true → is_inside window.newest n ≡ true
  pub dead_inside : (n : ℕ) → is_dead n window.dead ≡ true → is_inside window.newest n ≡ true
  pub apart : (n : ℕ) → is_dead n window.dead ≡ true → at n window.packets ≡ None
  pub few : length window.packets ≤ WINDOW

-- a map in the order of its numbers, all of them in the window
pub record IsWithin {X : Type 0} (newest : Option ℕ) (entries : List (ℕ × X)) : Type 0 where
  pub rise : is_sorted nat_cmp entries ≡ true
  pub inside : (n : ℕ) → is_available n entries ≡ true → is_inside newest n ≡ true
