-- The padding octets stand at the end.
use Rattle.std.proofs.Common.{ℕ, List, ◌++◌, ◌-◌, replicate, ap, ◌∙◌, arith}
use Rattle.vrx_rtp.proofs.PacketLemmas.{padding-pushed}
use Rattle.vrx_rtp.proofs.writing.push_padding.Goals as goal

pub returns : goal.returns
returns c =
    padding-pushed c.args.out.now.items c.extend_from_slice.new.self.items c.push.new.self.items c.args.padding
    (omega arith)
    (c.in_ok-extend_from_slice.ensures.items
    ∙ ap (λ (t : List ℕ). c.args.out.now.items ++ t)
    (c.filler.ensures ∙ ap (λ (n : ℕ). replicate (n - 1) 0) c.from.ensures))
    c.in_ok-push.ensures.items
