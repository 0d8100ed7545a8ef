use Rattle.vrx_window.proofs.ContentLemmas.{sound-after_placing}
use Rattle.vrx_window.proofs.laws.sound_stays.Goals as goal

pub returns-clause-placed : goal.returns-clause-placed
returns-clause-placed c = sound-after_placing
