use Rattle.std.proofs.Common.{◌≡◌}
use Rattle.vrx_live.specs.inside.Worker.{HasWaited}
use Rattle.vrx_live.proofs.calls.offer_until.Given as goal

-- the turn was taken so far
abbrev pub invariant-loop : goal.invariant-loop
invariant-loop g l = (goal.iterator-loop g).can_next l.iterator' × (goal.iterator-loop g).is_finite l.iterator'
    × (l.seat.table ≡ l.fn.seat.table) × HasWaited l.fn.seat.known l.seat.known
