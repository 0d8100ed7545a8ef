-- The law is the theorem.
use Rattle.vrx_core.proofs.keyframes.KeyLawLemmas.{losses-ask}
use Rattle.vrx_core.proofs.feedback_laws.losses_ask.Goals as goal

pub returns : goal.returns
returns c = record { ask = losses-ask }
