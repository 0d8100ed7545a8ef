-- The law is the theorem.
use Rattle.vrx_core.proofs.honest.HonestRunsLemmas.{honest_runs}
use Rattle.vrx_core.proofs.laws.honest_runs.Goals as goal

pub returns : goal.returns
returns c = record {
  runs = honest_runs c.extended_is_near.ensures.some c.picture_is_near.ensures.given
      (record {
        packets = c.one_reading.ensures.read_packet;
        again = c.one_original.ensures.again;
        payloads = c.one_payload.ensures.one;
      })
      c.true_repairs.ensures.right
      c.runs_are.ensures;
}
