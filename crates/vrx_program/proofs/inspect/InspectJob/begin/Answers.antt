use Rattle.std.proofs.Common.{sym, ◌∙◌}
use Rattle.vrx_program.proofs.InspectLemmas.{inspect-begins}
use Rattle.vrx_program.proofs.inspect.InspectJob.begin.Goals as goal

pub returns-in-Ok-true-clause-begins : goal.returns-in-Ok-true-clause-begins
returns-in-Ok-true-clause-begins c =
    inspect-begins c.args.line.now (sym c.in-Ok-true.ensures.right ∙ c.in-Ok-true.field-0-test)
