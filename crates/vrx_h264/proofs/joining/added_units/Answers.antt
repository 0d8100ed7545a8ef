use Rattle.std.proofs.Common.{length, map, ap, arith, length-append}
use Rattle.std.specs.List.{flat_map}
use Rattle.vrx_h264.specs.Aggregate.{units_of}
use Rattle.vrx_h264.specs.Payload.{Whole}
use Rattle.vrx_h264.specs.AccessUnit.{after_code}
use Rattle.vrx_h264.specs.Joining.{piece_octets}
use Rattle.vrx_h264.proofs.UnitsLemmas.{added-some, added-none}
use Rattle.vrx_h264.proofs.joining.added_units.Goals as goal

pub loop-unit-preserved : goal.loop-unit-preserved
loop-unit-preserved c =
    let more =
    ap length (added-some c.loop-unit.rest.now c.in-Some.unit.now c.in-Some.behind.now c.in-Some.ensures.front) in
    let long = length-append (after_code c.in-Some.unit.now)
    (flat_map piece_octets (map Whole (units_of c.in-Some.behind.now).units)) in
    record {
      same = omega (arith, more, long, c.loop-unit.invariant.same);
      few = omega (arith, c.in-Some.ensures.shorter, c.loop-unit.invariant.few);
    }

pub returns : goal.returns
returns c =
    let none = ap length (added-none c.loop-unit.rest.now c.in_default.ensures.front) in
    omega (arith, none, c.loop-unit.invariant.same)
