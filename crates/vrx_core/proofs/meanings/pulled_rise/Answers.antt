-- The law is the theorem.
use Rattle.vrx_core.proofs.machine.PulledLemmas.{pulled_rise}
use Rattle.vrx_core.proofs.meanings.pulled_rise.Goals as goal

pub returns : goal.returns
returns c = record { rise = pulled_rise c.runs_are.ensures }
