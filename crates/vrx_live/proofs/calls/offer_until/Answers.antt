use Rattle.std.proofs.Common.{refl}
use Rattle.vrx_live.proofs.calls.offer_until.Goals as goal

pub loop-init : goal.loop-init
loop-init g c = (tt, tt, refl, (c.args.seat.now.known.words, refl))
