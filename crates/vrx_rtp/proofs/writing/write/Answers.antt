-- What was written is the packet.
use Rattle.vrx_rtp.specs.View.{view}
use Rattle.vrx_rtp.proofs.PacketLemmas.{written_is, written_again}
use Rattle.vrx_rtp.proofs.writing.write.Goals as goal

pub returns-clause-packet : goal.returns-clause-packet
returns-clause-packet c =
    written_is c.octets_of.result (view c.args.packet.now) c.octets_of.ensures.spelled c.octets_of.ensures.fits

pub returns-clause-again : goal.returns-clause-again
returns-clause-again c =
    written_again c.octets_of.result (view c.args.packet.now) c.octets_of.ensures.spelled c.octets_of.ensures.fits
