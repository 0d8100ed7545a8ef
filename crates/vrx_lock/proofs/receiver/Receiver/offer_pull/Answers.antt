use Rattle.std.proofs.Common.{◌≡◌, ◌∙◌, [], ◌∷◌, ap, sym, arith}
use Rattle.vrx_core.specs.declared.event.Event.TheVariants.{Pull}
use Rattle.vrx_core.specs.machine.Machine.{ToPull}
use Rattle.vrx_lock.specs.inside.Steps.{Place}
use Rattle.vrx_lock.proofs.OfferLemmas.{few-calls, seated-done, seated-refused}
use Rattle.vrx_lock.proofs.receiver.Receiver.offer_pull.Goals as goal

pub overflow_add-seat-inside : goal.overflow_add-seat-inside
overflow_add-seat-inside g c =
    omega (arith, few-calls c.seat.inside.badge.views c.seat.inside.actor c.seat.inside.calls c.seat.invariant)

pub overflow_add-seat : goal.overflow_add-seat
overflow_add-seat g c =
    omega (arith, few-calls c.seat.inside.badge.views c.seat.inside.actor c.seat.inside.calls c.seat.invariant)

pub invariant_of-seat : goal.invariant_of-seat
invariant_of-seat g c =
    let m : Place = c.into_seat-place.result.me in
    let n : Place = c.pull-answer.new.place.me in
    let before : c.seat.inside.badge.views ≡ m.0 ∷ [] = ap (λ b. b.views) (sym c.replace.ensures.value) ∙ c.into_seat-place.ensures.2 in
    seated-done c.seat.inside.badge.views c.into_badge.result.views c.seat.inside.actor c.seat.inside.calls m n
    c.seat.invariant before c.into_badge.ensures.2 g.C.Codec.meaning (Pull c.args.moment) c.in-Ok.done.place (ToPull c.in-Ok.done.reply)
    c.in-Ok.ensures.stays c.in-Ok.ensures.ok

pub invariant_of-seat-in-Err : goal.invariant_of-seat-in-Err
invariant_of-seat-in-Err g c =
    let m : Place = c.into_seat-place.result.me in
    let n : Place = c.pull-answer.new.place.me in
    let before : c.seat.inside.badge.views ≡ m.0 ∷ [] = ap (λ b. b.views) (sym c.replace.ensures.value) ∙ c.into_seat-place.ensures.2 in
    seated-refused c.seat.inside.badge.views c.into_badge-in-Err.result.views c.seat.inside.actor c.seat.inside.calls m n
    c.seat.invariant before c.into_badge-in-Err.ensures.2 c.in-Err.fault c.in-Err.ensures.stays c.in-Err.ensures.err
