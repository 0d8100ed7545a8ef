use Rattle.vrx_fec.proofs.PayloadLemmas.{payload-reading, reading-payload}
use Rattle.vrx_fec.proofs.laws.one_payload.Goals as goal

pub returns : goal.returns
returns c = record {
  one = λ octets own p are. (payload-reading octets own p are, reading-payload octets own p);
}
