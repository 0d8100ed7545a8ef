use Rattle.vrx_frames.proofs.RunLemmas.{runs-are}
use Rattle.vrx_frames.proofs.laws.runs_are.Goals as goal

pub returns : goal.returns
returns c = runs-are
