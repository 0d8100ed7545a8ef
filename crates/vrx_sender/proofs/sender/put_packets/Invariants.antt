use Rattle.std.proofs.Common.{◌≡◌, ◌+◌, ◌++◌, drop, length}
use Rattle.vrx_sender.specs.Made.{all_as_sent}
use Rattle.vrx_sender.specs.View.{view_packets}
use Rattle.vrx_sender.proofs.sender.put_packets.Given as goal

abbrev pub invariant-loop-k : goal.invariant-loop-k
invariant-loop-k l = record {
  whole : view_packets l.all.items ++ all_as_sent l.f l.k (drop l.k l.packets)
      ≡ view_packets l.initial.all.items ++ all_as_sent l.f 0 l.packets;
  count : length l.all.items ≡ length l.initial.all.items + l.k;
}
