use Rattle.std.proofs.Common.{◌-◌, ◌+◌, ◌∙◌, ap, length, arith}
use Rattle.std.proofs.lemmas.List.{length_push}
use Rattle.vrx_sender.specs.Frames.{octet}
use Rattle.vrx_sender.proofs.NumbersLemmas.{mapped-on}
use Rattle.vrx_sender.proofs.frames.octets.Goals as goal

pub loop-j-preserved : goal.loop-j-preserved
loop-j-preserved c = record {
  whole = mapped-on (octet c.args.f) c.loop-j.octets.items _ _ c.loop-j.j (c.args.size - c.loop-j.j)
      (c.args.size - (c.loop-j.j + 1)) _ (omega (arith, c.loop-j-test.true)) c.octet.ensures
      c.in_ok-push.ensures.items c.loop-j.invariant.whole;
  so_many = ap length c.in_ok-push.ensures.items ∙ length_push c.loop-j.octets.items c.octet.result ∙ omega (arith, c.loop-j.invariant.so_many);
}
