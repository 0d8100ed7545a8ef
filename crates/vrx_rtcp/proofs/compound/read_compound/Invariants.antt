use Rattle.std.proofs.Common.{◌-◌, ◌≤◌, length}
use Rattle.vrx_rtcp.proofs.CompoundLemmas.{Begins}
use Rattle.vrx_rtcp.proofs.compound.read_compound.Given as goal

abbrev pub invariant-loop-at : goal.invariant-loop-at
invariant-loop-at l =
    record { begins : Begins l.bytes l.at l.packets; few : l.packets ≤ l.at; within : l.at ≤ length l.bytes }

abbrev pub decreases-loop-at : goal.decreases-loop-at
decreases-loop-at l = length l.bytes - l.at
