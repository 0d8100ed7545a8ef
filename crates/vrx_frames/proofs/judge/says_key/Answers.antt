use Rattle.std.proofs.Common.{◌≡◌, ◌+◌, ◌-◌, sym, ◌∙◌, ap, arith}
use Rattle.vrx_window.specs.Content.{contents_of}
use Rattle.vrx_frames.specs.Judging.{says_key}
use Rattle.vrx_frames.specs.Parts.{parts_from}
use Rattle.vrx_frames.proofs.JoinLemmas.{key-here, key-next}
use Rattle.vrx_frames.proofs.judge.says_key.Goals as goal

pub returns-then-key_at : goal.returns-then-key_at
returns-then-key_at g c =
    let packets = (contents_of c.args.window.now).packets in
    sym (key-here g.C.Codec.meaning packets (c.args.first + c.loop-k.k) (c.args.count - c.loop-k.k)
    (c.args.count - (c.loop-k.k + 1)) c.if-key_at.ensures.key (omega arith)) ∙ c.loop-k.invariant

pub loop-k-preserved : goal.loop-k-preserved
loop-k-preserved g c =
    let packets = (contents_of c.args.window.now).packets in
    let next : c.args.first + c.loop-k.k + 1 ≡ c.args.first + (c.loop-k.k + 1) = omega arith in
    ap (λ m. says_key (parts_from g.C.Codec.meaning packets m (c.args.count - (c.loop-k.k + 1)))) (sym next)
    ∙ sym (key-next g.C.Codec.meaning packets (c.args.first + c.loop-k.k) (c.args.count - c.loop-k.k)
    (c.args.count - (c.loop-k.k + 1)) c.if-key_at.ensures.key (omega arith)) ∙ c.loop-k.invariant
