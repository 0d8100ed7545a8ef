-- One packet more, the first fault, and the end.
use Rattle.std.proofs.Common.{refl, arith}
use Rattle.std.proofs.lemmas.Result.{IfOk-weaker}
use Rattle.vrx_rtcp.specs.View.{view}
use Rattle.vrx_text.proofs.InspectionLemmas.{told_further, told_whole, told_fault}
use Rattle.vrx_text.proofs.inspection.inspect_rtcp.Goals as goal

pub loop-at-preserved : goal.loop-at-preserved
loop-at-preserved c = record {
  told = told_further c.args.k c.args.bytes.now c.loop-at.text.items c.push_word.new.text.items c.loop-at.at
      c.in-Ok.packet.next (view c.in-Ok.packet.body) c.loop-at.invariant.told c.in-Ok.ensures.packet
      (omega (arith, c.in-Ok.ensures.header)) c.in-Ok.ensures.within c.in_ok-push_word-in-Ok.ensures;
  within = c.in-Ok.ensures.within;
}

pub returns-in-Err : goal.returns-in-Err
returns-in-Err c = IfOk-weaker c.bad_rtcp_line.result _ _
    (λ text e. told_fault c.args.k c.args.bytes.now c.loop-at.text.items text.items c.loop-at.at _ c.in-Err.fault
    c.loop-at.invariant.told c.loop-at-test.true c.requires refl c.in-Err.ensures.fault e) c.bad_rtcp_line.ensures

pub returns : goal.returns
returns c = told_whole c.args.k c.args.bytes.now c.loop-at.text.items c.push.new.self.items c.loop-at.at
    c.loop-at.invariant.told c.loop-at-test.false c.requires c.in_ok-push.ensures.items
