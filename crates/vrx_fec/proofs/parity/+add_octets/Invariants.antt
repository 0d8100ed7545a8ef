use Rattle.std.proofs.Common.{length}
use Rattle.vrx_fec.proofs.parity.+add_octets.Given as goal

abbrev pub decreases-add_octets : goal.decreases-add_octets
decreases-add_octets l = length l.spans.now
