use Rattle.std.proofs.Common.{sym, ◌∙◌}
use Rattle.vrx_num.specs.declared.limits.TheConstants.{WINDOW}
use Rattle.vrx_window.specs.Content.{contents}
use Rattle.vrx_core.proofs.step.FrontLemmas.{reach_from-on, reach_from-end, reach_from-all}
use Rattle.vrx_core.proofs.front.reach_from.Goals as goal

pub returns-then-not-goes_on : goal.returns-then-not-goes_on
returns-then-not-goes_on c =
    reach_from-end WINDOW c.loop.counter c.args.from c.loop.n
    (contents c.args.window.now.packets) c.loop-test.true c.loop.invariant
    (sym c.goes_on.ensures.value ∙ c.if-not-goes_on.true)

pub loop-preserved : goal.loop-preserved
loop-preserved c = reach_from-on WINDOW c.loop.counter c.args.from c.loop.n
    (contents c.args.window.now.packets) c.loop-test.true c.loop.invariant
    (sym c.goes_on.ensures.value ∙ c.if-not-goes_on.false)

pub returns : goal.returns
returns c = reach_from-all WINDOW c.loop.counter c.args.from c.loop.n
    (contents c.args.window.now.packets) c.loop-test.false c.loop.invariant
