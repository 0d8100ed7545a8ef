use Rattle.std.proofs.Common.{arith}
use Rattle.vrx_h264.specs.Laws.{few_added}
use Rattle.vrx_h264.proofs.h264.H264Codec.step.Goals as goal

pub overflow_cast-octets : goal.overflow_cast-octets
overflow_cast-octets c = omega (arith, c.added_len.ensures, few_added c.args.part.now.body.now, c.requires.body)

pub overflow_add-octets : goal.overflow_add-octets
overflow_add-octets c =
    omega (arith, c.added_len.ensures, few_added c.args.part.now.body.now, c.requires.body, c.requires.octets)
