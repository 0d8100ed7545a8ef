use Rattle.vrx_window.proofs.ContentLemmas.{contents-at, contents-after_placing, contents-would}
use Rattle.vrx_window.proofs.laws.contents_are.Goals as goal

pub returns-clause-placed : goal.returns-clause-placed
returns-clause-placed c = contents-after_placing

pub returns-clause-at : goal.returns-clause-at
returns-clause-at c = λ n window. contents-at n window.packets

pub returns-clause-would : goal.returns-clause-would
returns-clause-would c = contents-would
