-- The law is the theorem.
use Rattle.vrx_core.proofs.honest.HonestTakenLemmas.{honest_taken}
use Rattle.vrx_core.proofs.laws.honest_taken.Goals as goal

pub returns : goal.returns
returns c = record {
  taken = honest_taken c.extended_is_near.ensures.some c.picture_is_near.ensures.given
      (record {
        packets = c.one_reading.ensures.read_packet;
        again = c.one_original.ensures.again;
        payloads = c.one_payload.ensures.one;
      })
      c.true_repairs.ensures.right
      c.any_order.ensures.any
      c.repairs_are.ensures.repairs;
}
