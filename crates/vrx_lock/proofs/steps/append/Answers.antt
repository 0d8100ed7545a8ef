use Rattle.std.proofs.Common.{arith}
use Rattle.vrx_lock.proofs.StepLemmas.{appends}
use Rattle.vrx_lock.proofs.steps.append.Goals as goal

pub fetch_add-requires : goal.fetch_add-requires
fetch_add-requires g c = (
  c.requires.table.0,
  omega (arith, c.requires.table.1.0),
  appends c.args.desk.now.key c.args.desk.now.table_id.slots c.args.place.now.id c.args.place.now.me c.args.kept.now
      g.B.Asked.asked c.requires.noted c.requires.asked,
)
