use Rattle.std.proofs.Common.{◌∙◌, ap}
use Rattle.vrx_refs.specs.References.{is_ready}
use Rattle.vrx_refs.proofs.JudgeLemmas.{knows_judged}
use Rattle.vrx_refs.proofs.ReadyLemmas.{run_ready}
use Rattle.vrx_refs.proofs.finder.Finder.is_ready.Goals as goal

pub returns : goal.returns
returns c = record {
  ready = λ told pulled knows. c.is_run_ready.ensures.ready
      ∙ run_ready c.args.self.now c.args.passed c.args.run.now
      ∙ ap is_ready (knows_judged c.args.self.now told pulled knows c.args.run.now c.args.passed
      c.is_run_ready.ensures.index);
}
