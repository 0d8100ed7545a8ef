use Rattle.std.proofs.Common.{◌≡◌, ◌+◌, ◌-◌, ◌*◌, ◌≤◌}
use Rattle.vrx_codec.specs.Joining.{beginning, join_from}
use Rattle.vrx_window.specs.Content.{contents_of}
use Rattle.vrx_frames.specs.Parts.{parts_from}
use Rattle.vrx_frames.proofs.JoinLemmas.{sized}
use Rattle.vrx_frames.proofs.judge.octets_of.Given as goal

-- the octets up to here, and those that the parts left join to, are as many as all join to
abbrev pub invariant-loop-k : goal.invariant-loop-k
invariant-loop-k g l = record {
  sum : sized l.state.octets
      (join_from g.C.Codec.joining
      (parts_from g.C.Codec.meaning (contents_of l.window).packets (l.first + l.k) (l.count - l.k)) l.state)
      ≡ sized 0 (join_from g.C.Codec.joining
      (parts_from g.C.Codec.meaning (contents_of l.window).packets l.first l.count) beginning);
  few : l.state.octets ≤ 46080 * l.k;
}
