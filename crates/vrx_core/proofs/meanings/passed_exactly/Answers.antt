-- The law is the theorem.
use Rattle.vrx_core.proofs.machine.PassedLemmas.{passed_exactly}
use Rattle.vrx_core.proofs.meanings.passed_exactly.Goals as goal

pub returns : goal.returns
returns c = record { exactly = passed_exactly }
