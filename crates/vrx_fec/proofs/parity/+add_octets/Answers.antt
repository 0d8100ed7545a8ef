use Rattle.std.proofs.Common.{sym, ap, ◌∙◌, get_or, rules}
use Rattle.vrx_fec.specs.Mask.{is_named}
use Rattle.vrx_fec.proofs.SumLemmas.{add-cut, no_span}
use Rattle.vrx_fec.proofs.parity.+add_octets.Goals as goal

pub returns : goal.returns
returns n c k within =
    add-cut c.args.long c.args.offset c.args.spans.now c.args.body.now c.args.octets.now
    c.min-size.result c.split_at_mut-front.result.0.now c.split_at_mut-front.result.1.now c.from-2.result.now
    c.xor_if.new.target c.add_octets.new.body c.is_named.result (sym c.is_empty.ensures ∙ c.if-is_empty.false)
    c.min-size.ensures c.split_at_mut-front.ensures.front c.split_at_mut-front.ensures.back c.from-2.ensures.octets
    (c.is_named.ensures ∙ ap (is_named c.args.long (get_or c.args.spans.now 0 no_span).mask) c.from.ensures)
    (search rules) c.xor_if.ensures c.add_octets.ensures k within
