use Rattle.std.proofs.Common.{◌≡◌, ap, ◌+◌, ◌∙◌, refl, length, arith, List, ℕ}
use Rattle.rand_pcg.specs.Lcg.{Lcg}
use Rattle.vrx_rtp.specs.Packet.{Packet}
use Rattle.vrx_sender.specs.declared.draws.Fate.{Fate}
use Rattle.vrx_sender.specs.declared.drill.Stage.{Stage}
use Rattle.vrx_sender.specs.Draws.{Drawn}
use Rattle.vrx_sender.specs.Drill.{is_in_time, is_late, lost_of, numbered}
use Rattle.vrx_sender.specs.Frames.{packet_count}
use Rattle.vrx_core.specs.honest.Sender.{SentFrame}
use Rattle.vrx_sender.specs.Made.{datagrams}
use Rattle.vrx_sender.specs.View.{view_drawn}
use Rattle.vrx_sender.proofs.BroughtLemmas.{length-numbered}
use Rattle.vrx_sender.proofs.DrillLemmas.{with-is}
use Rattle.vrx_sender.proofs.drill.send.Goals as goal

pub returns : goal.returns
returns c =
    let old : Stage = c.args.stage.now in
    let drawn = c.draw_frame-drawn.ensures.drawn in
    let its = with-is old.group old.packets old.draws c.draw_frame-drawn.new.draws (view_drawn c.draw_frame-drawn.result)
    c.as_slice-fates.result.now c.as_slice.result.now c.bytes.result.now drawn c.as_slice-fates.ensures.value
    (c.as_slice.ensures.value ∙ c.in_ok-packets.ensures.packets)
    (c.bytes.ensures ∙ ap (λ (s : SentFrame). s.bytes) c.in_ok-frame.ensures.frame) in
    let again = c.in_ok-brought.ensures.again ∙ ap (λ (ps : List (Fate × Packet)). numbered old.resent (lost_of ps)) its in
    let size : length c.bytes.result.now ≡ c.draw_frame-drawn.result.size =
    ap length c.bytes.ensures ∙ c.in_ok-frame.ensures.size in
    let held : c.len.result ≡ length c.in_ok-packets.packets.items = omega (arith, c.len.ensures, c.in_ok-packets.packets.ok) in
    let count : c.len.result ≡ packet_count c.draw_frame-drawn.result.size =
    held ∙ c.in_ok-packets.ensures.count ∙ ap packet_count size in
    let len : c.len-2.result ≡ length c.in_ok-brought.brought.again.items = omega (arith, c.len-2.ensures, c.in_ok-brought.brought.again.ok) in
    record {
      sent = record {
        in_time = c.in_ok-brought.ensures.in_time ∙ ap (datagrams is_in_time) its;
        late = c.in_ok-brought.ensures.late ∙ ap (datagrams is_late) its;
        again = again;
        packets = ap (λ (n : ℕ). old.packets + n) (count ∙ ap (λ (x : Drawn × Lcg). packet_count x.0.size) drawn);
        resent = ap (λ (n : ℕ). old.resent + n) (len ∙ ap length again ∙ length-numbered old.resent _);
        few = (
          omega (arith, count, c.draw_frame-drawn.ensures.size.1),
          omega (arith, len, c.in_ok-brought.ensures.few, ap length c.as_slice.ensures.value, c.in_ok-packets.ensures.count, size, c.draw_frame-drawn.ensures.size.1),
        );
        stage = ap (λ (x : Drawn × Lcg). record old { draws = x.1; packets = old.packets + c.len.result; resent = old.resent + c.len-2.result }) drawn;
      };
      ended = refl;
    }
