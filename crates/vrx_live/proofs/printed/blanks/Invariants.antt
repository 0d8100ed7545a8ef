use Rattle.std.proofs.Common.{◌≡◌, map, replicate}
use Rattle.vrx_live.specs.inside.Placed.{blank, told}
use Rattle.vrx_live.proofs.printed.blanks.Given as goal

-- so many texts so far
abbrev pub invariant-loop : goal.invariant-loop
invariant-loop l = map told l.texts.items ≡ replicate l.counter blank
