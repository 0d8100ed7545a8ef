use Rattle.vrx_program.proofs.RunsLemmas.{over-nothing}
use Rattle.vrx_program.proofs.driver.drive.Goals as goal

pub returns-in_default-clause-over : goal.returns-in_default-clause-over
returns-in_default-clause-over g c =
    over-nothing g.J.Job.outcome g.S.Source.is_read g.S.Source.left c.args.source.now (g.K.Sink.taken c.args.sink.now)
