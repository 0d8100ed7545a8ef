-- The law is the theorem.
use Rattle.vrx_core.proofs.machine.AvailableLemmas.{available_are}
use Rattle.vrx_core.proofs.meanings.available_are.Goals as goal

pub returns : goal.returns
returns c = record { available = available_are }
