use Rattle.std.proofs.Common.{◌≡◌, ℕ, List, ◌+◌, ◌-◌, ◌∙◌, ap, length, arith}
use Rattle.vrx_core.specs.honest.Sender.{SentFrame}
use Rattle.vrx_sender.specs.Frames.{packet_count}
use Rattle.vrx_sender.specs.Packets.{packets}
use Rattle.vrx_sender.specs.View.{view_drawn, view_packets}
use Rattle.vrx_sender.proofs.SenderLemmas.{drawn-none, drawn-step, frames-on, packets-on, sender-is}
use Rattle.vrx_sender.proofs.sender.drill_sender.Goals as goal

pub loop-f-preserved : goal.loop-f-preserved
loop-f-preserved c =
    let step = drawn-step c.loop-f.f (c.args.frames - c.loop-f.f) (c.args.frames - (c.loop-f.f + 1)) c.loop-f.draws
    c.draw_frame-drawn.new.draws (view_drawn c.draw_frame-drawn.result) (omega (arith, c.loop-f-test.true))
    c.draw_frame-drawn.ensures.drawn in
    let bytes = c.bytes.ensures ∙ ap (λ (s : SentFrame). s.bytes) c.in_ok-frame.ensures.frame in
    let size : length c.bytes.result.now ≡ c.draw_frame-drawn.result.size =
    ap length c.bytes.ensures ∙ c.in_ok-frame.ensures.size in
    let first : c.len-first.result ≡ length c.loop-f.sent_packets.items =
    omega (arith, c.len-first.ensures, c.loop-f.sent_packets.ok) in
    let count : length c.put_packets.new.all.items
    ≡ length c.loop-f.sent_packets.items + packet_count c.draw_frame-drawn.result.size =
    c.in_ok-put_packets.ensures.count ∙ ap (λ (n : ℕ). length c.loop-f.sent_packets.items + n)
    (ap length c.as_slice.ensures.value ∙ c.in_ok-packets.ensures.count ∙ ap packet_count size) in
    record {
      all_frames = frames-on c.loop-f.sent_frames.items _ _ c.in_ok-frame.frame c.loop-f.f
          (view_drawn c.draw_frame-drawn.result) _ _ c.in_ok-push.ensures.items c.in_ok-frame.ensures.frame step
          c.loop-f.invariant.all_frames;
      all_packets = packets-on (view_packets c.loop-f.sent_packets.items) _ _ c.loop-f.f
          (length c.loop-f.sent_packets.items) _ (view_drawn c.draw_frame-drawn.result) _ _ c.as_slice.result.now
          c.in_ok-put_packets.ensures.packets (c.as_slice.ensures.value ∙ c.in_ok-packets.ensures.packets
          ∙ ap (λ (i : ℕ). packets c.loop-f.f i c.bytes.result.now) first
          ∙ ap (λ (b : List ℕ). packets c.loop-f.f (length c.loop-f.sent_packets.items) b) bytes) step count
          c.loop-f.invariant.all_packets;
      few = omega (arith, count, c.loop-f.invariant.few, c.draw_frame-drawn.ensures.size.1);
    }

pub returns : goal.returns
returns c =
    let none = drawn-none c.loop-f.f (c.args.frames - c.loop-f.f) c.loop-f.draws (omega (arith, c.loop-f-test.false)) in
    record {
      sender = sender-is c.loop-f.sent_frames.items (view_packets c.loop-f.sent_packets.items) c.loop-f.f _ _ _ none
          c.loop-f.invariant.all_frames c.loop-f.invariant.all_packets;
    }
