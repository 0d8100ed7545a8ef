-- The laws of RED.
use Rattle.vrx_wrap.specs.Red.{red_of}
use Rattle.vrx_wrap.proofs.FitLemmas.{fits-red, octets_of-read}
use Rattle.vrx_wrap.proofs.laws.one_block.Goals as goal

pub returns-clause-octets : goal.returns-clause-octets
returns-clause-octets c red_type p small fits are =
    octets_of-read c.one_reading.ensures.spelled_packet c.one_reading.ensures.read_packet
    (red_of red_type p) (fits-red red_type p small fits) are
