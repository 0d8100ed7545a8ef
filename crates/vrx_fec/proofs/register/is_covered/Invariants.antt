use Rattle.std.proofs.Common.{◌≡◌, ◌-◌, drop}
use Rattle.vrx_fec.specs.Rebuilt.{covered_by}
use Rattle.vrx_fec.proofs.register.is_covered.Given as goal

-- what is left is to be covered by the spans that follow
abbrev pub invariant-loop-span : goal.invariant-loop-span
invariant-loop-span l = l.left - covered_by l.long (drop l.span-index l.spans) l.offset
    ≡ l.length - covered_by l.long l.spans l.offset
