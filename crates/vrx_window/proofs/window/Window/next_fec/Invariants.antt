use Rattle.std.proofs.Common.{◌≡◌, ℕ, ◌+◌, ◌-◌, ◌<◌, ◌≤◌, false}
use Rattle.vrx_window.specs.Content.{is_fec_held}
use Rattle.vrx_window.specs.Window.{at}
use Rattle.vrx_window.proofs.window.Window.next_fec.Given as goal

-- the numbers so far have no FEC packet
abbrev pub invariant-loop-n : goal.invariant-loop-n
invariant-loop-n l =
    (l.from ≤ l.n) × ((k : ℕ) → l.from ≤ k → k < l.n → is_fec_held (at k l.self.packets) ≡ false)

abbrev pub decreases-loop-n : goal.decreases-loop-n
decreases-loop-n l = l.newest + 1 - l.n
