use Rattle.std.proofs.Common.{◌∙◌, ap}
use Rattle.std.specs.Prelude.{bit_xor}
use Rattle.vrx_window.specs.Marks.{is_set}
use Rattle.vrx_window.proofs.MarkLemmas.{flipped, one_bit, turned, unflipped}
use Rattle.vrx_window.proofs.marks.with_bit.Goals as goal

pub returns-else-word-bit-clause-here : goal.returns-else-word-bit-clause-here
returns-else-word-bit-clause-here c =
    ap (λ k. is_set (bit_xor c.args.word k) c.args.bit) (one_bit c.args.bit c.requires)
    ∙ flipped c.args.word c.args.bit ∙ turned (is_set c.args.word c.args.bit) c.args.set c.if-word-bit.false

pub returns-else-word-bit-clause-others : goal.returns-else-word-bit-clause-others
returns-else-word-bit-clause-others c i apart =
    ap (λ k. is_set (bit_xor c.args.word k) i) (one_bit c.args.bit c.requires) ∙ unflipped c.args.word c.args.bit i apart
