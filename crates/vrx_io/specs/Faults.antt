-- Counts of faults: what a failed read or write does to one, and what a caller sees of it.
use Rattle.std.specs.Prelude.{ℕ, ◌+◌, ◌<◌, ◌≤◌, ◌⊎◌, min, is_ok, if◌then◌else◌}
use Rattle.std.specs.declared.result.Result.{Result}

-- the count after one more; it stops at the greatest number of 64 bits
abbrev pub next_count : ℕ → ℕ
next_count count = min (count + 1) 18446744073709551615

-- the count after a call with this result: one more if it failed
abbrev pub faults_after : {T E : Type 0} → ℕ → Result T E → ℕ
faults_after count result = if is_ok result then count else next_count count

-- a count rose in a call: it is greater afterwards than before, or stands at the greatest number of
-- 64 bits
abbrev pub Rose : ℕ → ℕ → Type 0
Rose before after = (before < after) ⊎ (18446744073709551615 ≤ after)
