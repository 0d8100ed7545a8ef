use Rattle.std.proofs.Common.{◌≡◌, ◌+◌, ◌≤◌, ◌++◌, length, map}
use Rattle.std.specs.List.{flat_map}
use Rattle.std.specs.Prelude.{vec_len, vec_capacity}
use Rattle.vrx_h264.specs.Aggregate.{units_of}
use Rattle.vrx_h264.specs.Payload.{Whole}
use Rattle.vrx_h264.specs.Joining.{piece_octets}
use Rattle.vrx_h264.proofs.append.append_units.Given as goal

-- what was added and what is to come are all, and there is room for it
abbrev pub invariant-loop-unit : goal.invariant-loop-unit
invariant-loop-unit l = record {
  same : l.out.items ++ flat_map piece_octets (map Whole (units_of l.rest).units) ≡ l.fn.out.items
      ++ flat_map piece_octets (map Whole (units_of l.octets).units);
  room : vec_len l.out + length (flat_map piece_octets (map Whole (units_of l.rest).units)) ≤ vec_capacity l.out;
  capacity : vec_capacity l.fn.out ≤ vec_capacity l.out;
}

abbrev pub decreases-loop-unit : goal.decreases-loop-unit
decreases-loop-unit l = length l.rest
