-- The law is the theorem.
use Rattle.vrx_core.proofs.asking.AskingLemmas.{asked-are-missing}
use Rattle.vrx_core.proofs.feedback_laws.asked_are_missing.Goals as goal

pub returns : goal.returns
returns c = record { missing = asked-are-missing }
