use Rattle.std.proofs.Common.{◌∙◌, ap, ◌∷◌, [], length, arith}
use Rattle.std.proofs.lemmas.List.{length_push, map-append}
use Rattle.vrx_sender.specs.View.{view_packet, view_packets}
use Rattle.vrx_sender.proofs.PacketLemmas.{sent-on}
use Rattle.vrx_sender.proofs.sender.put_packets.Goals as goal

pub loop-k-preserved : goal.loop-k-preserved
loop-k-preserved c = record {
  whole = sent-on c.args.f c.loop-k.k c.args.packets.now c.index-packets-k.result (view_packets c.loop-k.all.items) _ _ _
      c.loop-k-test.true c.index-packets-k.is c.in_ok-sent.ensures
      (ap view_packets c.in_ok-push.ensures.items ∙ map-append view_packet c.loop-k.all.items (c.in_ok-sent.field-0 ∷ []))
      c.loop-k.invariant.whole;
  count = ap length c.in_ok-push.ensures.items ∙ length_push c.loop-k.all.items _ ∙ omega (arith, c.loop-k.invariant.count);
}
