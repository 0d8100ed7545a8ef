-- The law is the theorem.
use Rattle.vrx_core.proofs.machine.PassedLemmas.{passed_stays}
use Rattle.vrx_core.proofs.meanings.passed_stays.Goals as goal

pub returns : goal.returns
returns c = record { stays = passed_stays }
