use Rattle.std.proofs.Common.{◌∙◌, ◌+◌, ap, sym}
use Rattle.vrx_buffer.specs.Frames.{runs_from}
use Rattle.vrx_buffer.proofs.PlaceLemmas.{all-left, left-drop}
use Rattle.vrx_buffer.proofs.queue.Queue.drop_through.Goals as goal

pub loop-self-preserved : goal.loop-self-preserved
loop-self-preserved c = ap (runs_from (c.args.last + 1)) c.drop_first.ensures.left
    ∙ left-drop c.args.last c.loop-self.self c.drop_first.ensures.rise (sym c.loop-self-test.ensures.begins)
    ∙ c.loop-self.invariant

pub returns : goal.returns
returns c = record {
  left = sym (all-left c.args.last c.loop-self.self (sym c.loop-self-test.ensures.begins)) ∙ c.loop-self.invariant;
}
