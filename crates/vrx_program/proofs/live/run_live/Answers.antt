use Rattle.vrx_program.proofs.LiveEndLemmas.{over-honest}
use Rattle.vrx_program.proofs.live.run_live.Goals as goal

pub returns-clause-honest : goal.returns-clause-honest
returns-clause-honest g c words =
    over-honest c.honest_call.ensures.honest (g.S.Source.left c.args.source.now) c.drive_live.result.status
    c.drive_live.result.journal (g.K.Sink.taken c.args.sink.now) (g.K.Sink.taken c.drive_live.new.sink)
    (g.S.Source.left c.drive_live.new.source) c.drive_live.ensures.ends
