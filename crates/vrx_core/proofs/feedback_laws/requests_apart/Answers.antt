-- The law is the theorem.
use Rattle.vrx_core.proofs.asking.AskingLemmas.{requests-apart}
use Rattle.vrx_core.proofs.feedback_laws.requests_apart.Goals as goal

pub returns : goal.returns
returns c = record { apart = requests-apart }
