use Rattle.std.proofs.Common.{◌≡◌, take}
use Rattle.vrx_repair.specs.Plan.{numbers_of}
use Rattle.vrx_repair.proofs.planning.numbers_of.Given as goal

-- the numbers of the repairs so far
abbrev pub invariant-loop-repair : goal.invariant-loop-repair
invariant-loop-repair l = l.numbers ≡ numbers_of (take l.repair-index l.repairs)
