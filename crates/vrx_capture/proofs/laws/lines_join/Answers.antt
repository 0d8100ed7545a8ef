use Rattle.vrx_capture.proofs.JoinLemmas.{lines_join, readings_join}
use Rattle.vrx_capture.proofs.laws.lines_join.Goals as goal

pub returns : goal.returns
returns c = record { lines = lines_join; readings = readings_join }
