use Rattle.std.proofs.Common.{◌≡◌, inl, inr, true, false, sym, ◌∙◌, subst, arith}
use Rattle.std.specs.Prelude.{◌-◌, ◌+◌, not}
use Rattle.std.proofs.lemmas.Grind.{common_steps}
use Rattle.vrx_refs.specs.declared.limits.TheConstants.{REACH}
use Rattle.vrx_refs.proofs.ReadyLemmas.{WalksOn, ends, goes, lost, waits_here}
use Rattle.vrx_refs.proofs.finder.Finder.is_walk_pulled.Goals as goal
use Rattle.vrx_refs.proofs.finder.Finder.is_walk_pulled.Goals.{else-is_first-via-then-is_first+else-not-sight, else-is_first-via-else-is_first, then-met-eq0-via-then-met-eq0, then-met-eq0-via-else-met-eq0+then-sight}

pub returns-in_default : goal.returns-in_default
returns-in_default c = sym (lost c.args.self.now c.args.place (REACH - c.loop-step._step) c.loop-step.below c.loop-step.met
    c.loop-step.invariant (omega (arith, c.loop-step-test.true)) (omega (arith, c.if-below-eq0.false))
    (sym c.sight.ensures ∙ c.in_default.is))

pub returns-then-not-sight : goal.returns-then-not-sight
returns-then-not-sight c = sym (waits_here c.args.self.now c.args.place (REACH - c.loop-step._step) c.loop-step.below
    c.loop-step.met c.loop-step.invariant (omega (arith, c.loop-step-test.true)) (omega (arith, c.if-below-eq0.false))
    c.in-Some.sight (sym c.sight.ensures ∙ c.in-Some.is)
    (sym (c.is_first.ensures.first c.loop-step.invariant.list c.loop-step.invariant.is_met) ∙ c.if-is_first.true)
    (grind (arith, common_steps, c.if-not-sight.true)))

pub returns-then-met-eq0 : goal.returns-then-met-eq0
returns-then-met-eq0 c = sym (ends c.args.self.now c.args.place (REACH - c.loop-step._step) c.loop-step.below
    c.loop-step.met c.loop-step.invariant (omega (arith, c.loop-step-test.true)) (omega (arith, c.if-below-eq0.false))
    c.in-Some.sight (sym c.sight.ensures ∙ c.in-Some.is)
    (λ counts. let first : c.is_first.result ≡ true
    = c.is_first.ensures.first c.loop-step.invariant.list c.loop-step.invariant.is_met ∙ counts in
    elim c.else-is_first.branch [
      | else-is_first-via-then-is_first+else-not-sight w ↦ grind (arith, common_steps, w.if-not-sight.false)
      | else-is_first-via-else-is_first w ↦ grind (arith, common_steps, first, w.if-is_first.false)
    ])
    c.with-met.result (c.with-met.ensures c.loop-step.invariant.list (c.loop-step.below - 1) c.loop-step.invariant.is_met)
    (elim c.then-met-eq0.branch [
      | then-met-eq0-via-then-met-eq0 w ↦ inl w.if-met-eq0.true
      | then-met-eq0-via-else-met-eq0+then-sight w ↦ inr w.if-sight.true
    ]))

pub loop-step-preserved : goal.loop-step-preserved
loop-step-preserved c = subst (λ most. WalksOn c.args.self.now c.args.place most (c.loop-step.below - 1) c.with-met.result)
    (omega arith) (goes c.args.self.now c.args.place (REACH - c.loop-step._step) c.loop-step.below
    c.loop-step.met c.loop-step.invariant (omega (arith, c.loop-step-test.true)) (omega (arith, c.if-below-eq0.false))
    c.in-Some.sight (sym c.sight.ensures ∙ c.in-Some.is)
    (λ counts. let first : c.is_first.result ≡ true
    = c.is_first.ensures.first c.loop-step.invariant.list c.loop-step.invariant.is_met ∙ counts in
    elim c.else-is_first.branch [
      | else-is_first-via-then-is_first+else-not-sight w ↦ grind (arith, common_steps, w.if-not-sight.false)
      | else-is_first-via-else-is_first w ↦ grind (arith, common_steps, first, w.if-is_first.false)
    ])
    c.with-met.result (c.with-met.ensures c.loop-step.invariant.list (c.loop-step.below - 1) c.loop-step.invariant.is_met)
    c.if-met-eq0.false c.if-sight.false)
