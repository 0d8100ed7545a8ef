-- The law is the theorem.
use Rattle.vrx_core.proofs.asking.MissingLemmas.{missing-are}
use Rattle.vrx_core.proofs.feedback_laws.missing_are.Goals as goal

pub returns : goal.returns
returns c = record { missing = missing-are }
