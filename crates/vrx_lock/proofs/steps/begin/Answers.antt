use Rattle.std.proofs.Common.{◌∙◌, Some, arith}
use Rattle.vrx_lock.specs.inside.Stored.{stored}
use Rattle.vrx_lock.proofs.StepLemmas.{taken-slot}
use Rattle.vrx_lock.proofs.steps.begin.Goals as goal

pub exchange-requires : goal.exchange-requires
exchange-requires g c =
    let w = c.claim-found.ensures.claimed.won (omega (arith, c.if-found-ne0.false)) in (
      c.claim-found.ensures.table ∙ c.requires.table.0,
      (Some (stored c.args.place.now.me.0.known.setup w.0), taken-slot _ _ w.2),
    )
