use Rattle.vrx_program.proofs.InspectLemmas.{inspect-heads}
use Rattle.vrx_program.proofs.inspect.InspectJob.refuses_heads.Goals as goal

pub returns : goal.returns
returns c = record { heads = inspect-heads }
