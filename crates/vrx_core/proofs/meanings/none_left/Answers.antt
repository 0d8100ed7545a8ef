-- The law is the theorem.
use Rattle.vrx_core.proofs.machine.ClosedLemmas.{none_left}
use Rattle.vrx_core.proofs.meanings.none_left.Goals as goal

pub returns : goal.returns
returns c = record { closed = none_left c.repairs_are.ensures.repairs }
