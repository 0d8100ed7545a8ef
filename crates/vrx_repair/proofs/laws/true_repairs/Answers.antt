use Rattle.vrx_repair.proofs.TruthLemmas.{true-repairs}
use Rattle.vrx_repair.proofs.laws.true_repairs.Goals as goal

pub returns : goal.returns
returns c = record {
  right = true-repairs (record {
    packets = c.one_reading.ensures.read_packet;
    payloads = c.one_payload.ensures.one;
    lengths = c.one_rebuilt.ensures.length;
    texts = c.one_rebuilt.ensures.text;
    orders = c.any_order.ensures.truth;
  });
}
