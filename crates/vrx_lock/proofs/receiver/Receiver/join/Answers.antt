use Rattle.std.proofs.Common.{◌≡◌, ◌∙◌, [], ◌∷◌, ap, sym, subst, arith}
use Rattle.vrx_lock.specs.declared.known.Known.{Known}
use Rattle.vrx_lock.specs.Seats.{Joined}
use Rattle.vrx_lock.specs.inside.Steps.{Place, known_in}
use Rattle.vrx_lock.proofs.JoinLemmas.{joined, seated-joined}
use Rattle.vrx_lock.proofs.OfferLemmas.{few-calls}
use Rattle.vrx_lock.proofs.receiver.Receiver.join.Goals as goal

pub overflow_add-seat : goal.overflow_add-seat
overflow_add-seat g c =
    omega (
      arith,
      few-calls c.seat.inside.badge.views c.seat.inside.actor c.seat.inside.calls c.seat.invariant,
      few-calls c.other.inside.badge.views c.other.inside.actor c.other.inside.calls c.other.invariant,
    )

pub invariant_of-seat : goal.invariant_of-seat
invariant_of-seat g c =
    let m : Place = c.into_seat-place.result.me in
    let o : Place = c.into_seat.result.me in
    let n : Place = c.glue.new.place.me in
    let before : c.seat.inside.badge.views ≡ m.0 ∷ [] = ap (λ b. b.views) (sym c.replace.ensures.value) ∙ c.into_seat-place.ensures.2 in
    seated-joined c.seat.inside.badge.views c.other.inside.badge.views c.into_badge.result.views c.seat.inside.actor
    c.seat.inside.calls c.other.inside.actor c.other.inside.calls m o n c.seat.invariant c.other.invariant before
    c.into_seat.ensures.2 c.into_badge.ensures.2 c.glue.ensures.glued

pub returns-clause-joined : goal.returns-clause-joined
returns-clause-joined g c =
    let m : Place = c.into_seat-place.result.me in
    let o : Place = c.into_seat.result.me in
    let n : Place = c.glue.new.place.me in
    let before : c.seat.inside.badge.views ≡ m.0 ∷ [] = ap (λ b. b.views) (sym c.replace.ensures.value) ∙ c.into_seat-place.ensures.2 in
    let mine : m.0.known ≡ c.args.seat.now.known =
    ap known_in (sym before) ∙ ap (λ s. s.known) c.seat.view_is in
    let theirs : o.0.known ≡ c.args.other.known =
    ap known_in (sym c.into_seat.ensures.2) ∙ ap (λ s. s.known) c.other.view_is in
    let after : n.0.known ≡ known_in c.into_badge.result.views = ap known_in (sym c.into_badge.ensures.2) in
    subst (λ (x : Known × Known × Known). Joined x.0 x.1 x.2) (λ k. (mine k, theirs k, after k)) (joined m.0 o.0 n c.glue.ensures.glued)
