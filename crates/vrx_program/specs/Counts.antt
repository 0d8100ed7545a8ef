-- The counts of faults of a run.
use Rattle.std.specs.Prelude.{◌≡◌, ℕ}
use Rattle.vrx_io.specs.Faults.{Rose}
use Rattle.vrx_program.specs.declared.status.Status.{Status}
use Rattle.vrx_program.specs.declared.status.Status.TheVariants as statuses

-- how many reads failed before and after a run, and how many writes: both counts are as they were, but for the one that
-- the status names, which rose
abbrev pub IsCounted : Status → ℕ → ℕ → ℕ → ℕ → Type 0
IsCounted statuses.ReadFault reads reads_now writes writes_now = Rose reads reads_now × (writes_now ≡ writes)
IsCounted statuses.WriteFault reads reads_now writes writes_now = (reads_now ≡ reads) × Rose writes writes_now
IsCounted statuses.Done reads reads_now writes writes_now = (reads_now ≡ reads) × (writes_now ≡ writes)
IsCounted statuses.BadCapture reads reads_now writes writes_now = (reads_now ≡ reads) × (writes_now ≡ writes)
IsCounted statuses.NoMemory reads reads_now writes writes_now = (reads_now ≡ reads) × (writes_now ≡ writes)
IsCounted statuses.BadUsage reads reads_now writes writes_now = (reads_now ≡ reads) × (writes_now ≡ writes)
