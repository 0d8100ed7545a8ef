use Rattle.std.proofs.Common.{◌+◌, None, Some, sym, ap, ◌∙◌}
use Rattle.std.specs.Option.{option_copied}
use Rattle.vrx_core.proofs.step.FrontLemmas.{outside, outside-none, outside-some, seen}
use Rattle.vrx_core.proofs.front.goes_on.Goals as goal

pub returns-in-None-clause-value : goal.returns-in-None-clause-value
returns-in-None-clause-value c =
    sym (outside c.args.window.now (c.args.n + 1) c.newest.ensures.sound
    (outside-none c.args.window.now (c.args.n + 1) (sym c.newest.ensures.newest ∙ c.in-None.is))
    (c.contents_are.ensures.at (c.args.n + 1) c.args.window.now))

pub returns-then-n-newest-clause-value : goal.returns-then-n-newest-clause-value
returns-then-n-newest-clause-value c =
    sym (outside c.args.window.now (c.args.n + 1) c.newest.ensures.sound
    (outside-some c.args.window.now c.args.n c.in-Some.newest
    (sym c.newest.ensures.newest ∙ c.in-Some.is) c.if-n-newest.true)
    (c.contents_are.ensures.at (c.args.n + 1) c.args.window.now))

pub returns-in-Some-held-clause-value : goal.returns-in-Some-held-clause-value
returns-in-Some-held-clause-value c = c.is_no_media.ensures
    ∙ sym (seen (c.args.n + 1) c.args.window.now.packets (Some c.in-Some-held.held.now)
    (sym c.held.ensures.held ∙ ap option_copied c.in-Some-held.is)
    (c.contents_are.ensures.at (c.args.n + 1) c.args.window.now))

pub returns-in-None-held-clause-value : goal.returns-in-None-held-clause-value
returns-in-None-held-clause-value c =
    sym (seen (c.args.n + 1) c.args.window.now.packets None
    (sym c.held.ensures.held ∙ ap option_copied c.in-None-held.is)
    (c.contents_are.ensures.at (c.args.n + 1) c.args.window.now))
