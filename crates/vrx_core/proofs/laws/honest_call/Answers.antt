-- The law is the theorem.
use Rattle.vrx_core.proofs.honest.HonestLemmas.{honest_call}
use Rattle.vrx_core.proofs.laws.honest_call.Goals as goal

pub returns : goal.returns
returns c = record {
  honest = honest_call c.extended_is_near.ensures.some c.picture_is_near.ensures.given
      (record {
        packets = c.one_reading.ensures.read_packet;
        again = c.one_original.ensures.again;
        payloads = c.one_payload.ensures.one;
      })
      c.true_repairs.ensures.right
      c.runs_are.ensures;
}
