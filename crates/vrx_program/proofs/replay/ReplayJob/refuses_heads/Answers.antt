use Rattle.vrx_program.proofs.ReplayLemmas.{replay-heads}
use Rattle.vrx_program.proofs.replay.ReplayJob.refuses_heads.Goals as goal

pub returns : goal.returns
returns c = record { heads = replay-heads }
