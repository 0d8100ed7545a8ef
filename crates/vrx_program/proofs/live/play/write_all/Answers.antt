use Rattle.std.proofs.Common.{◌∙◌}
use Rattle.vrx_program.proofs.LivePlayLemmas.{put-next, put-part}
use Rattle.vrx_program.proofs.live.play.write_all.Goals as goal

pub returns-in-Err-clause-put : goal.returns-in-Err-clause-put
returns-in-Err-clause-put g c = let at = c.text.ensures.text in
    put-part c.args.printed.now c.loop-place.place at.0 c.text.result.now at.1 (g.K.Sink.taken c.args.sink.now)
    (g.K.Sink.taken c.loop-place.sink) (g.K.Sink.taken c.put.new.sink) c.loop-place.invariant.wrote c.in-Err.ensures.err

pub loop-place-preserved : goal.loop-place-preserved
loop-place-preserved g c = let at = c.text.ensures.text in record {
  wrote = put-next c.args.printed.now c.loop-place.place at.0 c.text.result.now at.1 (g.K.Sink.taken c.args.sink.now)
      (g.K.Sink.taken c.loop-place.sink) (g.K.Sink.taken c.put.new.sink) c.loop-place.invariant.wrote c.in-Ok.ensures.ok;
  faults = c.in-Ok.ensures.uncounted ∙ c.loop-place.invariant.faults;
}
