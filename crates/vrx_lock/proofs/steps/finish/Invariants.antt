use Rattle.vrx_lock.specs.inside.Steps.{newest}
use Rattle.vrx_lock.proofs.steps.finish.Given as goal

-- the entry that the append adds is the last one of the journal in hand
abbrev pub ghosts-append : goal.ghosts-append
ghosts-append g a = record { asked = newest a.kept.now.journal }
