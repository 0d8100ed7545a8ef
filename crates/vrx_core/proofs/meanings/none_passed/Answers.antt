-- The law is the theorem.
use Rattle.vrx_core.proofs.machine.PassedLemmas.{none_passed}
use Rattle.vrx_core.proofs.meanings.none_passed.Goals as goal

pub returns : goal.returns
returns c = record { none = none_passed }
