use Rattle.std.proofs.Common.{◌-◌, ◌≤◌, length}
use Rattle.vrx_text.proofs.InspectionLemmas.{Told}
use Rattle.vrx_text.proofs.inspection.inspect_rtcp.Given as goal

-- what was read so far are packets, and their words stand in the text
abbrev pub invariant-loop-at : goal.invariant-loop-at
invariant-loop-at l = record { told : Told l.k l.bytes l.text.items l.at; within : l.at ≤ length l.bytes }

abbrev pub decreases-loop-at : goal.decreases-loop-at
decreases-loop-at l = length l.bytes - l.at
