-- The law is the theorem.
use Rattle.vrx_core.proofs.asking.AskingLemmas.{few-requests}
use Rattle.vrx_core.proofs.feedback_laws.few_requests.Goals as goal

pub returns : goal.returns
returns c = record { few = few-requests }
