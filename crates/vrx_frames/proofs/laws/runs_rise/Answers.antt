use Rattle.vrx_frames.proofs.ApartLemmas.{runs-rise}
use Rattle.vrx_frames.proofs.laws.runs_rise.Goals as goal

pub returns : goal.returns
returns c = runs-rise
