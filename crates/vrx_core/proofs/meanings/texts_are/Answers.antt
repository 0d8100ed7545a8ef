-- The law is the theorem.
use Rattle.vrx_core.proofs.machine.TextLemmas.{texts_are}
use Rattle.vrx_core.proofs.meanings.texts_are.Goals as goal

pub returns : goal.returns
returns c = record { texts = texts_are c.one_reading.ensures.read_packet }
