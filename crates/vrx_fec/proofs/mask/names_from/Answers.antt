use Rattle.std.proofs.Common.{◌+◌, ◌<◌, not, sym, ap, ◌∙◌, arith}
use Rattle.vrx_fec.specs.Mask.{is_named, width}
use Rattle.vrx_fec.proofs.MaskLemmas.{below-all, below-not}
use Rattle.vrx_fec.proofs.mask.names_from.Goals as goal

pub returns-then-is_named : goal.returns-then-is_named
returns-then-is_named c =
    let within : c.loop-offset.offset < 0 + width c.args.long = omega (arith, c.width-offset-end.ensures) in
    ap not (sym (below-not (is_named c.args.long c.args.mask) c.args.first (width c.args.long) 0 c.loop-offset.offset
    (omega arith) within (omega arith) (sym c.is_named.ensures ∙ c.if-is_named.true)))

pub returns : goal.returns
returns c = ap not (sym (below-all (is_named c.args.long c.args.mask) c.args.first (width c.args.long) 0
    (λ k above within. c.loop-offset.invariant k above (omega (arith, c.width-offset-end.ensures)))))
