use Rattle.vrx_capture.proofs.NumberLemmas.{number_mean}
use Rattle.vrx_capture.proofs.GrammarLemmas.{datagram_mean, tick_mean, pull_mean}
use Rattle.vrx_capture.proofs.laws.lines_mean.Goals as goal

pub returns : goal.returns
returns c = record { number = number_mean; datagram = datagram_mean; tick = tick_mean; pull = pull_mean }
