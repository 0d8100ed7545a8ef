use Rattle.std.proofs.Common.{◌≡◌, ◌+◌, ◌-◌}
use Rattle.vrx_window.specs.Content.{contents_of}
use Rattle.vrx_frames.specs.Judging.{says_key}
use Rattle.vrx_frames.specs.Parts.{parts_from}
use Rattle.vrx_frames.proofs.judge.says_key.Given as goal

-- whether some part says a keyframe is decided by the parts left
abbrev pub invariant-loop-k : goal.invariant-loop-k
invariant-loop-k g l =
    says_key (parts_from g.C.Codec.meaning (contents_of l.window).packets (l.first + l.k) (l.count - l.k)) ≡ says_key
    (parts_from g.C.Codec.meaning (contents_of l.window).packets l.first l.count)
