use Rattle.std.proofs.Common.{◌≡◌, List, [], length, arith}
use Rattle.vrx_sender.specs.Draws.{Drawn, draws, generator}
use Rattle.vrx_sender.specs.Drill.{drill_events}
use Rattle.vrx_sender.proofs.EventsLemmas.{length-drawn, sized-draws}
use Rattle.vrx_sender.proofs.honest.ComesLemmas.{events-bring}
use Rattle.vrx_sender.proofs.honest.NetworkLemmas.{network}
use Rattle.vrx_sender.proofs.honest.NetworkSizes.{draws-sized}
use Rattle.vrx_sender.proofs.laws.honest_network.Goals as goal

pub returns : goal.returns
returns c = record {
  honest = λ seed frames few.
      let ds : List Drawn = draws seed frames in
      let size : length ds ≡ frames = length-drawn 0 frames (generator seed) in
      let its = network ds (omega (arith, few, size)) (draws-sized seed frames) [] [] (drill_events seed frames) tt
      (events-bring c.one_reading.ensures.spelled_packet c.one_reading.ensures.read_packet ds (sized-draws seed frames)) in
      record { origins = its.0; network = its.1 };
}
