use Rattle.vrx_window.proofs.FateLemmas.{few-within}
use Rattle.vrx_window.proofs.laws.contents_are_few.Goals as goal

pub returns : goal.returns
returns c = record { few = few-within }
