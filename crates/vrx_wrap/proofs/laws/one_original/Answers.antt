-- The laws of retransmissions.
use Rattle.vrx_wrap.specs.Rtx.{rtx_of}
use Rattle.vrx_wrap.proofs.FitLemmas.{fits-rtx, octets_of-read}
use Rattle.vrx_wrap.proofs.RtxLemmas.{original-of, of-original, no_apt-of, rtx_empty-of}
use Rattle.vrx_wrap.proofs.laws.one_original.Goals as goal

pub returns-clause-one : goal.returns-clause-one
returns-clause-one c apt rtx original are = (original-of apt rtx original are, of-original apt rtx original)

pub returns-clause-no_apt : goal.returns-clause-no_apt
returns-clause-no_apt c apt rtx = no_apt-of apt rtx

pub returns-clause-rtx_empty : goal.returns-clause-rtx_empty
returns-clause-rtx_empty c apt rtx = rtx_empty-of apt rtx

pub returns-clause-octets : goal.returns-clause-octets
returns-clause-octets c rtx_type rtx_ssrc rtx_seq p small source number fits are =
    octets_of-read c.one_reading.ensures.spelled_packet c.one_reading.ensures.read_packet
    (rtx_of rtx_type rtx_ssrc rtx_seq p) (fits-rtx rtx_type rtx_ssrc rtx_seq p small source number fits) are
