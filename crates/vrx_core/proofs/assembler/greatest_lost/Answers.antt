use Rattle.std.proofs.Common.{sym, ◌∙◌, arith}
use Rattle.vrx_core.proofs.step.LostLemmas.{lost-found, lost-nowhere}
use Rattle.vrx_core.proofs.assembler.greatest_lost.Goals as goal

pub returns-then-not-is_dead : goal.returns-then-not-is_dead
returns-then-not-is_dead c =
    lost-found c.args.window.now c.args.front c.args.n c.in-Some-Some.first c.in-Some-Some.newest c.max-low.result
    c.saturating_sub-high.result
    (sym c.first.ensures.first ∙ c.in-Some-Some.is-0) (sym c.newest.ensures.newest ∙ c.in-Some-Some.is-1)
    (grind (arith, c.max-low.ensures, c.max.ensures, c.saturating_sub.ensures, c.after.ensures))
    (grind (arith, c.saturating_sub-high.ensures, c.max-2.ensures)) (grind (arith, c.max-2.type_inv))
    c.loop-back.back (omega (arith, c.loop-back-test.true, c.saturating_sub-back-end.ensures)) c.loop-back.invariant
    (sym c.is_dead.ensures ∙ c.if-not-is_dead.true)

pub returns : goal.returns
returns c =
    lost-nowhere c.args.window.now c.args.front c.args.n c.in-Some-Some.first c.in-Some-Some.newest c.max-low.result
    c.saturating_sub-high.result
    (sym c.first.ensures.first ∙ c.in-Some-Some.is-0) (sym c.newest.ensures.newest ∙ c.in-Some-Some.is-1)
    (grind (arith, c.max-low.ensures, c.max.ensures, c.saturating_sub.ensures, c.after.ensures))
    (grind (arith, c.saturating_sub-high.ensures, c.max-2.ensures)) (grind (arith, c.max-2.type_inv))
    c.loop-back.back (omega (arith, c.loop-back-test.false, c.saturating_sub-back-end.ensures)) c.loop-back.invariant
