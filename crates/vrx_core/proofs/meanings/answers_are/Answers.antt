-- The law is the theorem.
use Rattle.vrx_core.proofs.machine.AnswerLemmas.{answers_are}
use Rattle.vrx_core.proofs.meanings.answers_are.Goals as goal

pub returns : goal.returns
returns c = record { answers = answers_are }
