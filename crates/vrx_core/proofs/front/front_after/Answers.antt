use Rattle.std.proofs.Common.{ap, ◌∙◌}
use Rattle.vrx_num.specs.declared.limits.TheConstants.{WINDOW}
use Rattle.vrx_window.specs.Content.{contents}
use Rattle.vrx_frames.specs.Front.{reach_from as reached_of}
use Rattle.vrx_core.proofs.step.FrontLemmas.{front-first, front-on}
use Rattle.vrx_core.proofs.front.front_after.Goals as goal

pub returns-in-None-Some : goal.returns-in-None-Some
returns-in-None-Some c =
    front-first c.args.front c.args.last c.in-None-Some.last c.reach_from.result
    (contents c.args.window.now.packets) c.in-None-Some.is-0 c.in-None-Some.is-1 c.reach_from.ensures

pub returns-in-Some-Some : goal.returns-in-Some-Some
returns-in-Some-Some c =
    front-on c.args.front c.args.last c.in-Some-Some.front c.in-Some-Some.last c.reach_from-in-Some-Some.result
    (contents c.args.window.now.packets) c.in-Some-Some.is-0 c.in-Some-Some.is-1
    (c.reach_from-in-Some-Some.ensures
    ∙ ap (λ m. reached_of WINDOW m (contents c.args.window.now.packets)) c.max.ensures)
