use Rattle.std.proofs.Common.{◌≡◌, ◌-◌, ◌*◌, ◌≤◌, ◌++◌, length}
use Rattle.vrx_sender.specs.Draws.{draws, drawn_from}
use Rattle.vrx_sender.specs.Packets.{frames_from, packets_from}
use Rattle.vrx_sender.specs.View.{view_packets}
use Rattle.vrx_sender.proofs.sender.drill_sender.Given as goal

-- what was sent, and what is still to be sent, are all
abbrev pub invariant-loop-f : goal.invariant-loop-f
invariant-loop-f l = record {
  all_frames : l.sent_frames.items ++ frames_from l.f (drawn_from l.f (l.frames - l.f) l.draws)
      ≡ frames_from 0 (draws l.seed l.frames);
  all_packets : view_packets l.sent_packets.items
      ++ packets_from l.f (length l.sent_packets.items) (drawn_from l.f (l.frames - l.f) l.draws)
      ≡ packets_from 0 0 (draws l.seed l.frames);
  few : length l.sent_packets.items ≤ 13 * l.f;
}
