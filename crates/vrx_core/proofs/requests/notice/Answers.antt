use Rattle.std.proofs.Common.{◌+◌, ◌-◌, ◌++◌, not, ◌∙◌, ap, arith}
use Rattle.std.specs.List.{filter}
use Rattle.vrx_asks.specs.Asks.{are_below, is_near}
use Rattle.vrx_frames.specs.Completed.{is_among}
use Rattle.vrx_core.specs.inside.Wants.{with_all_missing}
use Rattle.vrx_core.specs.machine.GivenUp.{numbers_below}
use Rattle.vrx_core.proofs.step.NoticeLemmas.{below-more, near-more, noticed-asks, noticed-unless}
use Rattle.vrx_core.proofs.requests.notice.Goals as goal

pub loop-n-preserved : goal.loop-n-preserved
loop-n-preserved c =
    let less = c.loop-n-test.true in
    record {
      asks = ap (λ asks. with_all_missing c.args.now (numbers_below (c.loop-n.n + 1) c.args.below) asks)
          c.noticed.ensures.noticed
          ∙ noticed-asks c.args.now c.loop-n.n c.args.below c.loop-n.asks less ∙ c.loop-n.invariant.asks;
      numbers = ap (λ ns. ns ++ filter (λ m. not (is_among c.args.repaired.now m))
          (numbers_below (c.loop-n.n + 1) c.args.below)) c.push_unless.ensures.items
          ∙ noticed-unless (λ m. not (is_among c.args.repaired.now m)) c.loop-n.n c.args.below c.loop-n.numbers.items
          less ∙ c.loop-n.invariant.numbers;
      above = ap (are_below (c.loop-n.n + 1)) c.noticed.ensures.noticed
          ∙ below-more c.loop-n.n c.args.now c.loop-n.asks c.loop-n.invariant.above;
      near = ap (is_near (c.args.below - 1)) c.noticed.ensures.noticed
          ∙ near-more c.loop-n.n c.args.now (c.args.below - 1) c.loop-n.asks
          (omega (arith, c.requires.few, c.loop-n.invariant.upto, less)) c.loop-n.invariant.near;
      upto = omega (arith, c.loop-n.invariant.upto);
      count = omega (arith, c.push_unless.ensures.len, c.loop-n.invariant.count);
    }
