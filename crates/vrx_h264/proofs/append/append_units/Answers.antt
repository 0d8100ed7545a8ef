use Rattle.std.proofs.Common.{List, ℕ, ◌++◌, length, map, sym, ap, ◌∙◌, arith, length-append, append_assoc}
use Rattle.std.specs.List.{flat_map}
use Rattle.std.proofs.lemmas.List.{append-nil}
use Rattle.vrx_h264.specs.Aggregate.{units_of}
use Rattle.vrx_h264.specs.Payload.{Whole}
use Rattle.vrx_h264.specs.AccessUnit.{after_code}
use Rattle.vrx_h264.specs.Joining.{piece_octets}
use Rattle.vrx_h264.proofs.UnitsLemmas.{added-some, added-none}
use Rattle.vrx_h264.proofs.append.append_units.Goals as goal

pub append_unit-requires : goal.append_unit-requires
append_unit-requires c =
    let more =
    ap length (added-some c.loop-unit.rest.now c.in-Some.unit.now c.in-Some.behind.now c.in-Some.ensures.front) in
    let long = length-append (after_code c.in-Some.unit.now)
    (flat_map piece_octets (map Whole (units_of c.in-Some.behind.now).units)) in
    omega (arith, more, long, c.loop-unit.invariant.room)

pub loop-unit-preserved : goal.loop-unit-preserved
loop-unit-preserved c =
    let is = added-some c.loop-unit.rest.now c.in-Some.unit.now c.in-Some.behind.now c.in-Some.ensures.front in
    let later = flat_map piece_octets (map Whole (units_of c.in-Some.behind.now).units) in
    let long = length-append (after_code c.in-Some.unit.now) later in
    let more = ap length is in
    record {
      same =
          ap (λ (x : List ℕ). x ++ later) c.append_unit.ensures.items
          ∙ append_assoc c.loop-unit.out.items (after_code c.in-Some.unit.now) later
          ∙ ap (λ (x : List ℕ). c.loop-unit.out.items ++ x) (sym is)
          ∙ c.loop-unit.invariant.same;
      room = omega (
        arith,
        more,
        long,
        c.loop-unit.invariant.room,
        c.append_unit.ensures.len,
        c.append_unit.ensures.capacity,
      );
      capacity = omega (arith, c.append_unit.ensures.capacity, c.loop-unit.invariant.capacity);
    }

pub returns-clause-items : goal.returns-clause-items
returns-clause-items c =
    sym (append-nil c.loop-unit.out.items)
    ∙ ap (λ (x : List ℕ). c.loop-unit.out.items ++ x)
    (sym (added-none c.loop-unit.rest.now c.in_default.ensures.front))
    ∙ c.loop-unit.invariant.same
