use Rattle.std.proofs.Common.{not, sym, subst}
use Rattle.vrx_frames.specs.Completed.{is_among}
use Rattle.vrx_core.specs.inside.Wants.{AreNear, asked_with}
use Rattle.vrx_core.proofs.step.FreshLemmas.{near-gap}
use Rattle.vrx_core.proofs.engine.ask.Goals as goal

pub returns-in-Some-clause-near : goal.returns-in-Some-clause-near
returns-in-Some-clause-near g c = subst (λ o. AreNear (asked_with o)) (sym c.in-Some.is)
    (near-gap (λ n. not (is_among c.in-Some.arrival.repaired n)) c.in-Some.arrival.newest c.in-Some.arrival.number)
