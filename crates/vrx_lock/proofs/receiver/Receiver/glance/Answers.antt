use Rattle.std.proofs.Common.{◌≡◌, ◌∙◌, [], ◌∷◌, ap, sym}
use Rattle.vrx_lock.specs.inside.Steps.{Place}
use Rattle.vrx_lock.proofs.OfferLemmas.{seated-looked}
use Rattle.vrx_lock.proofs.receiver.Receiver.glance.Goals as goal

pub invariant_of-seat : goal.invariant_of-seat
invariant_of-seat g c =
    let m : Place = c.into_seat-place.result.me in
    let n : Place = c.glance-count.new.place.me in
    let before : c.seat.inside.badge.views ≡ m.0 ∷ [] = ap (λ b. b.views) (sym c.replace.ensures.value) ∙ c.into_seat-place.ensures.2 in
    seated-looked c.seat.inside.badge.views c.into_badge.result.views c.seat.inside.actor c.seat.inside.calls m n
    c.seat.invariant before c.into_badge.ensures.2 c.glance-count.result c.glance-count.ensures.looked
