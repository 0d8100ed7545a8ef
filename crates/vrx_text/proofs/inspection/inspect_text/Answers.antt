use Rattle.std.proofs.Common.{refl, sym, ◌∙◌, rules}
use Rattle.std.proofs.lemmas.Result.{IfOk-weaker}
use Rattle.vrx_rtp.specs.Rtcp.{IsRtcp}
use Rattle.vrx_text.specs.Inspection.{inspection}
use Rattle.vrx_text.proofs.inspection.inspect_text.Goals as goal

pub returns-then-is_rtcp-clause-value : goal.returns-then-is_rtcp-clause-value
unfolding inspection
returns-then-is_rtcp-clause-value c =
    let rtcp : IsRtcp c.args.bytes.now = c.if-is_rtcp.ensures.exactly.0 (search rules) in
    IfOk-weaker c.inspect_rtcp.result _ _
    (λ text is. c.rtcp_computes.ensures c.args.k c.args.bytes.now text.items rtcp is
    ∙ rw (← c.if-is_rtcp.ensures.value) refl) c.inspect_rtcp.ensures

pub returns-then-is_rtcp-clause-only : goal.returns-then-is_rtcp-clause-only
returns-then-is_rtcp-clause-only c = λ line is.
    let rtcp : IsRtcp c.args.bytes.now = c.if-is_rtcp.ensures.exactly.0 (search rules) in
    IfOk-weaker c.inspect_rtcp.result _ _
    (λ text this. c.rtcp_computes.ensures c.args.k c.args.bytes.now text.items rtcp this
    ∙ sym (c.rtcp_computes.ensures c.args.k c.args.bytes.now line rtcp is)) c.inspect_rtcp.ensures
