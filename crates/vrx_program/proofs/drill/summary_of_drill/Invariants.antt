use Rattle.std.proofs.Common.{length}
use Rattle.vrx_sender.specs.Drill.{drill_events}
use Rattle.vrx_program.specs.Counting.{IsCounting}
use Rattle.vrx_program.proofs.drill.summary_of_drill.Given as goal

abbrev pub invariant-loop-engine : goal.invariant-loop-engine
invariant-loop-engine l = IsCounting l.engine l.summary l.drill (drill_events l.seed l.frames)

abbrev pub decreases-loop-engine : goal.decreases-loop-engine
decreases-loop-engine l = length l.drill
