use Rattle.std.proofs.Common.{◌≡◌, ◌≤◌, length}
use Rattle.vrx_h264.specs.Aggregate.{units_of}
use Rattle.vrx_h264.proofs.aggregate.left.Given as goal

-- what is left after the units stays the same
abbrev pub invariant-loop-behind : goal.invariant-loop-behind
invariant-loop-behind l =
    record { same : (units_of l.rest).left ≡ (units_of l.octets).left; fits : length l.rest ≤ length l.octets }

abbrev pub decreases-loop-behind : goal.decreases-loop-behind
decreases-loop-behind l = length l.rest
