use Rattle.std.proofs.Common.{◌≡◌, ℕ, ◌-◌, ◌<◌, ◌≤◌, false}
use Rattle.vrx_window.specs.Marks.{is_marked}
use Rattle.vrx_window.proofs.marks.next_marked.Given as goal

-- what was passed over isn't marked
abbrev pub invariant-loop-at : goal.invariant-loop-at
invariant-loop-at l =
    (l.n ≤ l.at) × (l.at ≤ l.end) × ((m : ℕ) → l.n ≤ m → m < l.at → is_marked l.marks m ≡ false)

abbrev pub decreases-loop-at : goal.decreases-loop-at
decreases-loop-at l = l.end - l.at
