use Rattle.std.proofs.Common.{◌∙◌, arith}
use Rattle.vrx_lock.proofs.StepLemmas.{claims}
use Rattle.vrx_lock.proofs.steps.claim.Goals as goal

-- src/steps.rt:20:5
pub compare_exchange-requires : goal.compare_exchange-requires
compare_exchange-requires g c = (
  c.requires.table.0,
  omega (arith, c.requires.table.1.0),
  claims c.args.desk.now.key c.args.desk.now.table_id.slots c.args.place.now.id c.args.place.now.me c.from.result
      c.requires.idle.0 (c.from.ensures ∙ c.requires.idle.1),
)
