use Rattle.std.proofs.Common.{◌∙◌}
use Rattle.vrx_refs.proofs.JudgeLemmas.{knows_judged}
use Rattle.vrx_refs.proofs.finder.Finder.judge.Goals as goal

pub returns : goal.returns
returns c = record {
  judged = λ told pulled knows. c.judge_run.ensures.judged
      ∙ knows_judged c.args.self.now told pulled knows c.args.run.now c.args.passed c.judge_run.ensures.index;
}
