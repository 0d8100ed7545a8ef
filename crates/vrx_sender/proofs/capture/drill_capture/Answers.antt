use Rattle.std.proofs.Common.{◌≡◌, ◌∷◌, ap, length, arith}
use Rattle.vrx_sender.proofs.EventsLemmas.{lines-on}
use Rattle.vrx_sender.proofs.capture.drill_capture.Goals as goal

pub loop-lines-preserved : goal.loop-lines-preserved
loop-lines-preserved c =
    let step : c.loop-lines.drill ≡ c.in-Some.event ∷ c.next_event.new.self = rw c.in-Some.is at c.in_ok-event.ensures.event in
    record {
      whole = lines-on c.loop-lines.lines.items _ _ c.loop-lines.k c.in-Some.event c.loop-lines.drill
          c.next_event.new.self step c.in_ok-push.ensures.items c.loop-lines.invariant.whole;
      bound = omega (arith, ap length step, c.loop-lines.invariant.bound);
    }
