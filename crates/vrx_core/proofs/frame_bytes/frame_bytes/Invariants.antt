use Rattle.std.proofs.Common.{◌≡◌, ◌+◌, ◌-◌, ◌*◌, ◌≤◌}
use Rattle.std.specs.Prelude.{vec_capacity}
use Rattle.vrx_codec.specs.Joining.{beginning, join_from, with_octets}
use Rattle.vrx_window.specs.Content.{contents}
use Rattle.vrx_frames.specs.Parts.{parts_from}
use Rattle.vrx_core.proofs.frame_bytes.frame_bytes.Given as goal

-- the octets up to here, and after them those that the parts left join to, are what all join to
abbrev pub invariant-loop-k : goal.invariant-loop-k
invariant-loop-k g l = record {
  bytes : with_octets l.out.items
      (join_from g.C.Codec.joining
      (parts_from g.C.Codec.meaning (contents l.window.packets) (l.run.first + l.k) (l.count - l.k)) l.state)
      ≡ join_from g.C.Codec.joining
      (parts_from g.C.Codec.meaning (contents l.window.packets) l.run.first l.count) beginning;
  few : l.state.octets ≤ 46080 * l.k;
  room : l.run.octets ≤ vec_capacity l.out;
}
