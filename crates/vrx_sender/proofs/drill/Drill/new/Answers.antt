use Rattle.std.proofs.Common.{◌<◌, List, length, subst, sym}
use Rattle.vrx_core.specs.declared.event.Event.{Event}
use Rattle.vrx_sender.proofs.DrillLemmas.{new-is}
use Rattle.vrx_sender.proofs.EventsLemmas.{few-events}
use Rattle.vrx_sender.proofs.drill.Drill.new.Goals as goal

pub returns-clause-few : goal.returns-clause-few
returns-clause-few c =
    subst (λ (es : List Event). length es < 1048576)
    (sym (new-is c.new.result.items c.seed_from_u64.result _ _ _ c.args.seed c.args.frames c.new.ensures.items c.seed_from_u64.ensures
    c.new-2.ensures.items c.new-3.ensures.items c.new-4.ensures.items))
    (few-events c.args.seed c.args.frames c.requires.frames.1)
