use Rattle.std.proofs.Common.{◌≡◌, length, map}
use Rattle.vrx_h264.specs.Aggregate.{units_of}
use Rattle.vrx_h264.specs.Payload.{Whole, hold_idr}
use Rattle.vrx_h264.proofs.aggregate.holds_idr.Given as goal

-- the units seen were none
abbrev pub invariant-loop-unit : goal.invariant-loop-unit
invariant-loop-unit l = hold_idr (map Whole (units_of l.rest).units) ≡ hold_idr (map Whole (units_of l.octets).units)

abbrev pub decreases-loop-unit : goal.decreases-loop-unit
decreases-loop-unit l = length l.rest
