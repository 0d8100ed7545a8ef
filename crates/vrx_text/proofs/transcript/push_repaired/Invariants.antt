use Rattle.std.proofs.Common.{◌≡◌, ◌++◌, drop}
use Rattle.vrx_text.specs.Keeps.{Keeps}
use Rattle.vrx_text.specs.Transcript.{repaired_text}
use Rattle.vrx_text.proofs.transcript.push_repaired.Given as goal

-- the text so far with the lines of the numbers left is the whole
abbrev pub invariant-loop-n : goal.invariant-loop-n
invariant-loop-n l = (l.text.items ++ repaired_text l.k (drop l.n-index l.numbers) ≡ l.fn.text.items
    ++ repaired_text l.k l.numbers) × Keeps l.fn.text.items l.text.items
