use Rattle.std.proofs.Common.{◌+◌, ◌%◌, ◌^◌, ◌∙◌, ap, drop, subst, sym}
use Rattle.vrx_fec.specs.Rebuilt.{IsOf}
use Rattle.vrx_fec.specs.View.{view}
use Rattle.vrx_fec.proofs.SumLemmas.{finished}
use Rattle.vrx_fec.proofs.register.Register.rebuild.Goals as goal

pub returns : goal.returns
returns c = record {
  rebuilds = λ texts is. finished (view c.args.fec.now) texts c.args.missing c.args.ssrc
      c.self.inside.fields (drop 12 c.self.inside.text.items) c.header_of-header.result c.with_header.result.items
      c.from-length.result ((c.args.fec.now.base + c.from.result) % 2 ^ 16) c.as_slice.result.now c.is_covered.result
      (subst (λ sums. IsOf sums (view c.args.fec.now) texts) (sym c.self.view_is) is)
      (c.from-length.ensures ∙ c.from_be_bytes.ensures) c.if-length-gt-MOST_REBUILT.false
      c.is_covered.ensures c.if-not-is_covered.false (c.as_slice.ensures.value ∙ c.spans_of-spans.ensures)
      (ap (λ n. (c.args.fec.now.base + n) % 2 ^ 16) c.from.ensures) c.header_of-header.ensures c.with_header.ensures;
}
