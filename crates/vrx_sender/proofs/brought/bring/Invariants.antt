use Rattle.std.proofs.Common.{◌≡◌, ◌+◌, ◌≤◌, ◌++◌, drop, length, zip}
use Rattle.vrx_sender.specs.Drill.{is_in_time, is_late, lost_of, numbered}
use Rattle.vrx_sender.specs.Made.{datagrams}
use Rattle.vrx_sender.proofs.brought.bring.Given as goal

-- what was brought, and what is left to bring, are all
abbrev pub invariant-loop-k : goal.invariant-loop-k
invariant-loop-k l = record {
  in_time : l.brought.in_time.items ++ datagrams is_in_time (zip (drop l.k l.fates) (drop l.k l.packets))
      ≡ datagrams is_in_time (zip l.fates l.packets);
  late : l.brought.late.items ++ datagrams is_late (zip (drop l.k l.fates) (drop l.k l.packets))
      ≡ datagrams is_late (zip l.fates l.packets);
  again : l.brought.again.items ++ numbered (l.number + length l.brought.again.items)
      (lost_of (zip (drop l.k l.fates) (drop l.k l.packets))) ≡ numbered l.number (lost_of (zip l.fates l.packets));
  few : length l.brought.again.items ≤ l.k;
}
