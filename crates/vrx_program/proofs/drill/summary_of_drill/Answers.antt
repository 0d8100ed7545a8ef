use Rattle.std.proofs.Common.{◌≡◌, ◌<◌, ◌∷◌, [], ap, length, arith}
use Rattle.vrx_sender.specs.Drill.{drill_events}
use Rattle.vrx_program.proofs.DrillLemmas.{counting-begins, counting-ends, counting-on}
use Rattle.vrx_program.proofs.drill.summary_of_drill.Goals as goal

pub loop-engine-init : goal.loop-engine-init
loop-engine-init c =
    counting-begins c.in_ok-engine.engine c.new-drill.result (drill_events c.args.seed c.args.frames)
    c.in_ok-engine.ensures.stands c.in_ok-engine.ensures.settings c.in_ok-engine.ensures.count c.new-drill.ensures.events

pub loop-engine-preserved : goal.loop-engine-preserved
loop-engine-preserved c =
    let step : c.loop-engine.drill ≡ c.in-Some.event ∷ c.next_event.new.self = rw c.in-Some.is at c.in_ok-event.ensures.event in
    counting-on c.loop-engine.engine _ c.loop-engine.summary _ c.in-Some.event c.loop-engine.drill c.next_event.new.self
    (drill_events c.args.seed c.args.frames) c.loop-engine.invariant step
    (c.in_ok-take_event.ensures.stands c.loop-engine.invariant.history c.loop-engine.invariant.stands)
    (c.in_ok-take_event.ensures.counts c.loop-engine.invariant.history c.loop-engine.invariant.stands)
    c.in_ok-take_event.ensures.settings c.in_ok-take_event.ensures.count c.in_ok-take_event.ensures.few

-- the same, where the event has octets that are dropped
pub loop-engine-preserved-in_ok-take_event : goal.loop-engine-preserved-in_ok-take_event
loop-engine-preserved-in_ok-take_event c =
    let step : c.loop-engine.drill ≡ c.in-Some.event ∷ c.next_event.new.self = rw c.in-Some.is at c.in_ok-event.ensures.event in
    counting-on c.loop-engine.engine _ c.loop-engine.summary _ c.in-Some.event c.loop-engine.drill c.next_event.new.self
    (drill_events c.args.seed c.args.frames) c.loop-engine.invariant step
    (c.in_ok-take_event.ensures.stands c.loop-engine.invariant.history c.loop-engine.invariant.stands)
    (c.in_ok-take_event.ensures.counts c.loop-engine.invariant.history c.loop-engine.invariant.stands)
    c.in_ok-take_event.ensures.settings c.in_ok-take_event.ensures.count c.in_ok-take_event.ensures.few

pub take_event-requires : goal.take_event-requires
take_event-requires c =
    let bound : length c.new-drill.result < 1048576 = c.new-drill.ensures.few in
    let all = ap length c.new-drill.ensures.events in
    let step : c.loop-engine.drill ≡ c.in-Some.event ∷ c.next_event.new.self = rw c.in-Some.is at c.in_ok-event.ensures.event in
    let room : c.loop-engine.engine.events < 1048576 =
    omega (arith, bound, all, ap length step, c.loop-engine.invariant.count) in
    record { room = room; few = c.loop-engine.invariant.few }

pub returns : goal.returns
returns c =
    let none : c.loop-engine.drill ≡ [] = rw c.in_default.is at c.in_ok-event.ensures.event in
    counting-ends c.loop-engine.engine c.loop-engine.summary c.loop-engine.drill _ c.loop-engine.invariant none
