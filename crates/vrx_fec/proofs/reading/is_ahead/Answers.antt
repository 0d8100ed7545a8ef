use Rattle.std.proofs.Common.{arith}
use Rattle.vrx_fec.specs.View.{view}
use Rattle.vrx_fec.proofs.ReadingLemmas.{ahead-near}
use Rattle.vrx_fec.proofs.reading.is_ahead.Goals as goal

pub returns-else-from-ge-HALF_SPACE : goal.returns-else-from-ge-HALF_SPACE
returns-else-from-ge-HALF_SPACE c =
    ahead-near c.args.own (view c.args.fec.now) c.distance-distance.result c.first_mask.result c.names_from.result
    c.distance-distance.ensures (omega (arith, c.if-from-ge-HALF_SPACE.false, c.from.ensures)) c.first_mask.ensures
    c.names_from.ensures
