-- The law is the theorem.
use Rattle.vrx_core.proofs.machine.MachineLemmas.{clock-is}
use Rattle.vrx_core.proofs.meanings.clock_is.Goals as goal

pub returns : goal.returns
returns c = record { clock = clock-is }
