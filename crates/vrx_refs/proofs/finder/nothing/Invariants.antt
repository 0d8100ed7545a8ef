use Rattle.std.proofs.Common.{◌≡◌, None, replicate}
use Rattle.vrx_refs.proofs.finder.nothing.Given as goal

-- as many slots as were counted
abbrev pub invariant-loop : goal.invariant-loop
invariant-loop g l = l.slots.items ≡ replicate l.counter None
