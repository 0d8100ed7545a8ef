use Rattle.vrx_capture.proofs.ReasonLemmas.{wrong_mean, blank_mean, happens_mean}
use Rattle.vrx_capture.proofs.laws.reasons_mean.Goals as goal

pub returns : goal.returns
returns c = record { wrong = wrong_mean; blank = blank_mean; happens = happens_mean }
