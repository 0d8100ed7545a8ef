use Rattle.std.proofs.Common.{◌≡◌, ◌+◌, ◌++◌, length}
use Rattle.vrx_sender.specs.Drill.{drill_events, lines_from}
use Rattle.vrx_sender.proofs.capture.drill_capture.Given as goal

-- the lines up to here, and those of the events that are still to come, are all
abbrev pub invariant-loop-lines : goal.invariant-loop-lines
invariant-loop-lines l = record {
  whole : l.lines.items ++ lines_from l.k l.drill ≡ lines_from 2 (drill_events l.seed l.frames);
  bound : l.k + length l.drill ≡ 2 + length (drill_events l.seed l.frames);
}

abbrev pub decreases-loop-lines : goal.decreases-loop-lines
decreases-loop-lines l = length l.drill
