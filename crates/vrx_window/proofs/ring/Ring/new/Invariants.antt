use Rattle.std.proofs.Common.{◌≡◌, replicate}
use Rattle.vrx_window.specs.declared.slot.Slot.TheVariants.{Free}
use Rattle.vrx_window.proofs.ring.Ring.new.Given as goal

-- as many free slots as were counted
abbrev pub invariant-loop : goal.invariant-loop
invariant-loop g l = l.slots.items ≡ replicate l.counter Free
