use Rattle.std.proofs.Common.{arith}
use Rattle.vrx_lock.proofs.SeatLemmas.{splits}
use Rattle.vrx_lock.proofs.steps.cut.Goals as goal

pub split_seat-requires : goal.split_seat-requires
split_seat-requires g c = (
  c.requires.table.0,
  omega (arith, c.requires.table.1.0),
  splits c.args.desk.now.key c.args.place.now.id c.args.place.now.me.0 g.B.Called.called c.requires.idle.hand,
)
