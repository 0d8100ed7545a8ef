use Rattle.std.proofs.Common.{◌≡◌}
use Rattle.vrx_lock.proofs.tests.offer_all.Given as goal

abbrev pub invariant-loop : goal.invariant-loop
invariant-loop l = (l.seat.table ≡ l.fn.seat.table) × (l.seat.known.share ≡ l.fn.seat.known.share)
