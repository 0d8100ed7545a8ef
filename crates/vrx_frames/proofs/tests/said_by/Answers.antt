use Rattle.std.proofs.Common.{Option, IfSome, length, refl, sym, ◌∙◌, ap, subst, arith}
use Rattle.std.specs.Result.{result_ok}
use Rattle.std.proofs.lemmas.Bool.{eq-eqb, true≢false}
use Rattle.vrx_codec.specs.Joining.{FitsLayers}
use Rattle.vrx_codec.specs.View.{view as view_part}
use Rattle.vrx_codec.specs.declared.part.Layers.{Layers}
use Rattle.vrx_rtp.specs.View.{view}
use Rattle.vrx_frames.proofs.tests.said_by.Goals as goal

pub returns-in-None : goal.returns-in-None
returns-in-None g c = record {
  packet = view c.in-Ok.packet;
  part = view_part c.in-Ok-read_part.part;
  size = omega arith;
  reads = ap result_ok (sym c.in-Ok.ensures.reads);
  unpadded = omega arith;
  marker_is = refl;
  ts_is = refl;
  payload =
      λ e. true≢false (sym (eq-eqb (length c.in-Ok.packet.payload.now) 0 (ap length e)) ∙ sym c.if-is_empty.ensures);
  part_reads = sym c.in-Ok-read_part.ensures.reads;
  start_is = refl;
  key_is = refl;
  layers_are = c.in-None.is;
  layers_fit = subst (λ (o : Option Layers). IfSome o FitsLayers) (sym c.in-None.is) tt;
}
