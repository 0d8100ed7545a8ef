-- The law is the theorem.
use Rattle.vrx_core.proofs.keyframes.KeyLawLemmas.{key-requests-apart}
use Rattle.vrx_core.proofs.feedback_laws.key_requests_apart.Goals as goal

pub returns : goal.returns
returns c = record { apart = key-requests-apart }
