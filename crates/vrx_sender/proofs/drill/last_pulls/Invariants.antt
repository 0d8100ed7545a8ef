use Rattle.std.proofs.Common.{◌≡◌, ◌-◌, ◌≤◌, length, replicate}
use Rattle.vrx_core.specs.declared.event.Event.{Event}
use Rattle.vrx_sender.proofs.drill.last_pulls.Given as goal

abbrev pub invariant-loop-events : goal.invariant-loop-events
invariant-loop-events l = record {
  pulls : l.events.items ≡ replicate (length l.events.items) (Event.Pull l.now);
  few : length l.events.items ≤ 16;
}

abbrev pub decreases-loop-events : goal.decreases-loop-events
decreases-loop-events l = 16 - length l.events.items
