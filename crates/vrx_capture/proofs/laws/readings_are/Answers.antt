use Rattle.vrx_capture.proofs.ReadingLemmas.{good_mean, bad_mean}
use Rattle.vrx_capture.proofs.laws.readings_are.Goals as goal

pub returns : goal.returns
returns c = record { good = good_mean; bad = bad_mean }
