use Rattle.vrx_frames.proofs.ApartLemmas.{runs-apart}
use Rattle.vrx_frames.proofs.laws.runs_apart.Goals as goal

pub returns : goal.returns
returns c = runs-apart
