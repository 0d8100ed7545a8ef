use Rattle.std.proofs.Common.{◌≡◌, ℕ, ◌-◌, ◌<◌, true}
use Rattle.vrx_window.specs.Window.{is_dead}
use Rattle.vrx_core.proofs.assembler.greatest_lost.Given as goal

-- each number looked at was given up
abbrev pub invariant-loop-back : goal.invariant-loop-back
invariant-loop-back l = (k : ℕ) → k < l.back → is_dead (l.high - 1 - k) l.window.dead ≡ true
