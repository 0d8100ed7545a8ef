use Rattle.vrx_capture.proofs.LinesLemmas.{one_line, last_line}
use Rattle.vrx_capture.proofs.laws.one_line.Goals as goal

pub returns : goal.returns
returns c = record { ended = one_line; last = last_line }
