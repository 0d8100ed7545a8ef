use Rattle.std.proofs.Common.{◌≡◌, ℕ, ◌<◌, ◌≤◌, false}
use Rattle.vrx_fec.specs.Mask.{is_named}
use Rattle.vrx_fec.proofs.mask.names_from.Given as goal

-- none of those before is named
abbrev pub invariant-loop-offset : goal.invariant-loop-offset
invariant-loop-offset l = (k : ℕ) → l.first ≤ k → k < l.offset → is_named l.long l.mask k ≡ false
