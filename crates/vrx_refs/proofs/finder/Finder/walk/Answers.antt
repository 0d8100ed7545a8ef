use Rattle.std.proofs.Common.{◌∙◌, ◌-◌, sym, ap, arith}
use Rattle.vrx_refs.specs.declared.limits.TheConstants.{REACH}
use Rattle.vrx_refs.specs.declared.walk.Step.TheVariants.{Lost, Ended, On}
use Rattle.vrx_refs.specs.Kept.{is_key_at, tid_at}
use Rattle.vrx_refs.specs.References.{walk}
use Rattle.vrx_refs.proofs.JudgeLemmas.{walk_stepped}
use Rattle.vrx_refs.proofs.finder.Finder.walk.Goals as goal

pub returns-in-Lost : goal.returns-in-Lost
returns-in-Lost c = sym (walk_stepped c.args.self.now c.args.place.tid
    (REACH - c.loop.counter) c.loop.below c.loop.met.items
    (omega (arith, c.loop-test.true)) (omega (arith, c.if-below-eq0.false)) Lost c.step.new.met.items
    (sym c.in-Lost.is ∙ c.step.ensures.step) c.step.ensures.met)
    ∙ c.loop.invariant.goes_on

pub returns-in-Ended : goal.returns-in-Ended
returns-in-Ended c = sym (walk_stepped c.args.self.now c.args.place.tid
    (REACH - c.loop.counter) c.loop.below c.loop.met.items
    (omega (arith, c.loop-test.true)) (omega (arith, c.if-below-eq0.false)) Ended c.step.new.met.items
    (sym c.in-Ended.is ∙ c.step.ensures.step) c.step.ensures.met)
    ∙ c.loop.invariant.goes_on

pub loop-preserved : goal.loop-preserved
loop-preserved c = record {
  goes_on = ap (λ most. walk (tid_at c.args.self.now) (is_key_at c.args.self.now) c.args.place.tid most
      (c.loop.below - 1)
      c.step.new.met.items) (omega (arith, c.loop-test.true))
      ∙ sym (walk_stepped c.args.self.now c.args.place.tid (REACH - c.loop.counter) c.loop.below c.loop.met.items
      (omega (arith, c.loop-test.true)) (omega (arith, c.if-below-eq0.false)) On c.step.new.met.items
      (sym c.in-On.is ∙ c.step.ensures.step) c.step.ensures.met)
      ∙ c.loop.invariant.goes_on;
  few = c.step.ensures.few c.in-On.is;
}
