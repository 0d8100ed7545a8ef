-- The law is the theorem.
use Rattle.vrx_core.proofs.asking.AskingLemmas.{lost-stays}
use Rattle.vrx_core.proofs.feedback_laws.lost_stays.Goals as goal

pub returns : goal.returns
returns c = record { stays = lost-stays }
