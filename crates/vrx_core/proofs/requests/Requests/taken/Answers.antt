use Rattle.std.proofs.Common.{◌≡◌, ◌-◌, sym, ◌∙◌, ap, subst}
use Rattle.vrx_asks.specs.Asks.{are_below, beyond, is_near}
use Rattle.vrx_core.specs.relation.StandsFor.{Wanted}
use Rattle.vrx_core.specs.inside.Wants.{AreBelow, beyond_front}
use Rattle.vrx_core.proofs.step.GapLemmas.{left-below, left-near, left_after}
use Rattle.vrx_core.proofs.requests.Requests.taken.Goals as goal

-- the numbers left when the gap is noticed
left-is : (c : goal.After-notice-arg-2-1) →
    c.self-2.inside.asks ≡ left_after c.args.front c.saturating_sub.result c.args.arrival.now.number
    c.self.inside.asks
left-is c =
    ap (λ (w : Wanted). w.asks) (c.self-2.view_is ∙ c.pass.ensures.passed)
    ∙ ap (beyond_front c.args.front)
    (c.passed.ensures.passed ∙ ap (beyond c.saturating_sub.result) c.arrived.ensures.arrived)

pub notice-requires-clause-above : goal.notice-requires-clause-above
notice-requires-clause-above c =
    ap (are_below c.gap_from-from.result) (left-is c)
    ∙ ap (λ k. are_below k (left_after c.args.front c.saturating_sub.result c.args.arrival.now.number
    c.self.inside.asks)) c.gap_from-from.ensures
    ∙ left-below c.args.front c.args.arrival.now.newest c.saturating_sub.result c.args.arrival.now.number
    c.max-after.result c.self.inside.asks
    (subst (λ (w : Wanted). AreBelow c.args.arrival.now.newest w.asks) (sym c.self.view_is) c.requires.below)

pub notice-requires-clause-near : goal.notice-requires-clause-near
notice-requires-clause-near c =
    ap (is_near (c.max-after.result - 1)) (left-is c)
    ∙ left-near c.args.front c.saturating_sub.result c.args.arrival.now.number c.max-after.result c.self.inside.asks
    c.saturating_sub.ensures
