use Rattle.std.proofs.Common.{◌<◌, ◌∙◌, subst, sym, arith}
use Rattle.vrx_lock.specs.inside.Steps.{Place}
use Rattle.vrx_lock.proofs.SeatLemmas.{joins}
use Rattle.vrx_lock.proofs.ShareLemmas.{added-live}
use Rattle.vrx_lock.proofs.StepLemmas.{settles}
use Rattle.vrx_lock.proofs.steps.glue.Goals as goal

pub join_seat-requires : goal.join_seat-requires
join_seat-requires g c = (
  c.requires.table.0,
  c.requires.table.1,
  c.requires.idle.1.slots,
  omega (arith, c.requires.table.2.0),
  joins c.args.desk.now.key c.args.place.now.id c.args.place.now.me.0 c.args.other.id c.args.other.me.0
      c.requires.idle.0.hand c.requires.idle.1.hand c.requires.idle.0.share,
)

pub load-requires : goal.load-requires
load-requires g c = (
  c.join_seat.ensures.0 ∙ c.requires.table.0,
  omega (arith, c.requires.table.2.0),
  settles c.args.desk.now.key c.args.desk.now.table_id.slots c.join_seat.new.seat.id c.join_seat.new.seat.me
      (subst (λ (z : Place). 0 < z.0.known.share.parts) (sym c.join_seat.ensures.2)
      (added-live c.args.place.now.me.0.known.share c.args.other.me.0.known.share c.requires.idle.0.share)),
)
