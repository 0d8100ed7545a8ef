use Rattle.std.proofs.Common.{◌≡◌, ◌+◌, ◌*◌, ◌≤◌, length, map}
use Rattle.std.specs.List.{flat_map}
use Rattle.vrx_h264.specs.Aggregate.{units_of}
use Rattle.vrx_h264.specs.Payload.{Whole}
use Rattle.vrx_h264.specs.Joining.{piece_octets}
use Rattle.vrx_h264.proofs.joining.added_units.Given as goal

-- the total and what is to come are all
abbrev pub invariant-loop-unit : goal.invariant-loop-unit
invariant-loop-unit l = record {
  same : l.total + length (flat_map piece_octets (map Whole (units_of l.rest).units)) ≡ length
      (flat_map piece_octets (map Whole (units_of l.octets).units));
  few : l.total + 5 * length l.rest ≤ 5 * length l.octets;
}

abbrev pub decreases-loop-unit : goal.decreases-loop-unit
decreases-loop-unit l = length l.rest
