use Rattle.std.proofs.Common.{◌∙◌}
use Rattle.vrx_live.proofs.WorkerLemmas.{ended-failed, kept-next}
use Rattle.vrx_live.proofs.worker.work.Goals as goal

pub returns-in-Err-clause-ended : goal.returns-in-Err-clause-ended
returns-in-Err-clause-ended g c =
    ended-failed g.C.Codec.meaning c.args.seat.known c.loop-i.seat.known c.step.new.seat.known c.args.lines.now
    c.loop-i.i c.index-lines-i.result c.loop-i-test.true c.index-lines-i.is c.loop-i.pieces.items
    c.loop-i.invariant.kept c.in-Err.stop c.in-Err.ensures.failed

pub loop-i-preserved : goal.loop-i-preserved
loop-i-preserved g c = record {
  table = c.step.ensures.table ∙ c.loop-i.invariant.table;
  kept = kept-next g.C.Codec.meaning c.args.seat.known c.loop-i.seat.known c.step.new.seat.known c.args.lines.now
      c.loop-i.i c.index-lines-i.result c.loop-i-test.true c.index-lines-i.is c.loop-i.pieces.items
      c.step.new.pieces.items c.loop-i.invariant.kept c.in-Ok.ensures.made;
}
