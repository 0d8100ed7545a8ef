use Rattle.vrx_sender.specs.Draws.{draws}
use Rattle.vrx_sender.proofs.EventsLemmas.{sized-draws}
use Rattle.vrx_sender.proofs.honest.SenderLemmas.{honest-sender}
use Rattle.vrx_sender.proofs.laws.honest_sender.Goals as goal

pub returns : goal.returns
returns c = record {
  honest = λ seed frames. honest-sender c.one_reading.ensures.spelled_packet c.one_reading.ensures.read_packet
      (draws seed frames) (sized-draws seed frames);
}
