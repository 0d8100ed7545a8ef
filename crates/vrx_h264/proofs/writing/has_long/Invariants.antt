use Rattle.std.proofs.Common.{◌≡◌, ℕ, List, nat_lt, length, drop}
use Rattle.std.specs.List.{list_any}
use Rattle.vrx_h264.proofs.writing.has_long.Given as goal

-- the units seen were none
abbrev pub invariant-loop-unit : goal.invariant-loop-unit
invariant-loop-unit l =
    list_any (λ (unit : List ℕ). nat_lt 65535 (length unit)) (drop l.unit-index l.units) ≡ list_any
    (λ (unit : List ℕ). nat_lt 65535 (length unit)) l.units
