use Rattle.std.proofs.Common.{◌≡◌, ◌∙◌, ℕ, [], length, replicate, arith, ap}
use Rattle.vrx_fec.specs.Made.{total}
use Rattle.vrx_fec.proofs.MakerLemmas.{are-planned, made-blank, none-added, parity-made, planned-length, zeros-length}
use Rattle.vrx_fec.proofs.maker.FecMaker.start.Goals as goal

module _ (c : goal.In_ok-with_capacity) where
  zeros : c.in_ok-vec.field-0.items ≡ replicate c.total_of-total.result 0
  zeros = c.in_ok-vec.ensures.items_if_clones_equal (λ y h. h)

  all : c.total_of-total.result ≡ total c.spans_of_plan-spans.result.items
  all = c.total_of-total.ensures.total ∙ ap total c.as_slice.ensures.value

  size : length c.in_ok-vec.field-0.items ≡ total c.spans_of_plan-spans.result.items
  size = zeros-length c.spans_of_plan-spans.result.items c.in_ok-vec.field-0.items c.total_of-total.result zeros all

pub invariant_of-result : goal.invariant_of-result
invariant_of-result c = record {
  planned = are-planned c.args.long c.args.levels.now c.spans_of_plan-spans.result.items
      c.spans_of_plan-spans.ensures.spans c.requires.plan c.spans_of_plan-spans.ensures.sizes;
  base_fits = c.ranges.base.fits;
  first_field = omega arith;
  size = size c;
  empty = c.in_ok-with_capacity.ensures.items;
  room = omega (
    arith,
    all c,
    c.in_ok-with_capacity.ensures.capacity,
    planned-length c.args.levels.now c.spans_of_plan-spans.result.items c.spans_of_plan-spans.ensures.spans,
  );
}

pub returns-clause-starts : goal.returns-clause-starts
returns-clause-starts c =
    made-blank c.args.long c.args.base c.args.levels.now c.spans_of_plan-spans.result.items c.in_ok-vec.field-0.items
    c.total_of-total.result c.spans_of_plan-spans.ensures.spans (all c) (zeros c)

pub returns-clause-parity : goal.returns-clause-parity
returns-clause-parity c =
    let eight : ℕ = 8 in
    let none : ℕ = 0 in
    parity-made c.args.long c.args.base c.spans_of_plan-spans.result.items (replicate eight none)
    c.in_ok-vec.field-0.items (omega arith) (size c) []
    (none-added c.args.long c.spans_of_plan-spans.result.items c.in_ok-vec.field-0.items c.total_of-total.result
    (zeros c))
