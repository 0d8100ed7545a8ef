use Rattle.std.proofs.Common.{sym, subst}
use Rattle.std.proofs.lemmas.Result.{IfOk-weaker}
use Rattle.vrx_live.specs.Runs.{HaveRun}
use Rattle.vrx_live.proofs.workers.run_workers.Goals as goal

pub returns-clause-ok : goal.returns-clause-ok
returns-clause-ok g c = IfOk-weaker c.print.result _ _ (λ printed told.
    subst (HaveRun g.C.Codec.meaning c.args.lists c.gather-gathered.new.seat.known) (sym told.6)
    (c.gather-gathered.ensures.end.run told.0 told.1 told.2 told.3 told.4 told.5)) c.print.ensures
