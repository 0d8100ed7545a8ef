use Rattle.std.proofs.Common.{◌≡◌, ◌≤◌, drop}
use Rattle.vrx_capture.specs.Words.{number_from}
use Rattle.vrx_capture.proofs.words.number_in.Given as goal

-- the digits left make of the value what all of them make
abbrev pub invariant-loop-digit : goal.invariant-loop-digit
invariant-loop-digit l = record {
  value : number_from l.most l.value (drop l.digit-index l.digits) ≡ number_from l.most 0 l.digits;
  bound : l.value ≤ l.most;
}
