-- The law is the theorem.
use Rattle.vrx_program.proofs.EvidentLemmas.{vp8-begins}
use Rattle.vrx_program.proofs.laws.vp8_begins_evidently.Goals as goal

pub returns : goal.returns
returns c = record { begins = vp8-begins }
