use Rattle.vrx_window.proofs.MeansLemmas.{placed_means, after_giving_up_means}
use Rattle.vrx_window.proofs.laws.window_means.Goals as goal

pub returns-clause-placed : goal.returns-clause-placed
returns-clause-placed g c = placed_means

pub returns-clause-given_up : goal.returns-clause-given_up
returns-clause-given_up g c = after_giving_up_means
