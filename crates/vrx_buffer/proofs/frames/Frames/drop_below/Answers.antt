use Rattle.std.proofs.Common.{arith}
use Rattle.vrx_buffer.proofs.PlaceLemmas.{from-zero}
use Rattle.vrx_buffer.proofs.frames.Frames.drop_below.Goals as goal

pub returns-in_default : goal.returns-in_default
returns-in_default c = record { runs = from-zero c.args.n c.args.self.now (omega (arith, c.in_default.ensures)) }
