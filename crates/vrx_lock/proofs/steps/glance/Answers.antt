use Rattle.std.proofs.Common.{arith}
use Rattle.vrx_lock.proofs.StepLemmas.{looks}
use Rattle.vrx_lock.proofs.steps.glance.Goals as goal

pub load-requires : goal.load-requires
load-requires g c = (
  c.requires.table.0,
  omega (arith, c.requires.table.1.0),
  looks c.args.desk.now.key c.args.desk.now.table_id.slots c.args.place.now.id c.args.place.now.me
      c.requires.idle.share,
)
