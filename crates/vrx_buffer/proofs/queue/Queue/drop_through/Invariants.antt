use Rattle.std.proofs.Common.{◌≡◌, ◌+◌, length}
use Rattle.vrx_buffer.specs.Frames.{runs_from}
use Rattle.vrx_buffer.proofs.queue.Queue.drop_through.Given as goal

-- what begins beyond the number stays
abbrev pub invariant-loop-self : goal.invariant-loop-self
invariant-loop-self l = runs_from (l.last + 1) l.self ≡ runs_from (l.last + 1) l.initial.self

abbrev pub decreases-loop-self : goal.decreases-loop-self
decreases-loop-self l = length l.self
