-- Counts of faults: a rise seen over a part of a run is one over the whole run.
use Rattle.std.proofs.Common.{ℕ, ◌≤◌, arith, inl, inr}
use Rattle.vrx_io.specs.Faults.{Rose}

-- a count that rose after a stretch in which it didn't fall has risen since the stretch began
pub rose_before : (start before after : ℕ) → start ≤ before → Rose before after → Rose start after
rose_before start before after not_fallen rose =
    elim rose [ inl higher ↦ inl (omega arith) | inr greatest ↦ inr greatest ]
