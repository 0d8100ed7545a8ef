use Rattle.std.proofs.Common.{◌≤◌, ◌+◌, not, ◌==◌, length, subst, sym, arith}
use Rattle.vrx_buffer.specs.Frames.{without}
use Rattle.vrx_buffer.proofs.OrderLemmas.{fewer, length-put}
use Rattle.vrx_buffer.proofs.tests.put.Goals as goal

pub returns : goal.returns
returns c = record {
  few = subst (λ rs. length rs ≤ length c.args.frames.now + 1) (sym c.add.ensures.runs)
      (omega (
        arith,
        length-put (λ r. r.first) c.args.run (without c.args.run.first c.args.frames.now),
        fewer (λ run. not (run.first == c.args.run.first)) c.args.frames.now,
      ));
}
