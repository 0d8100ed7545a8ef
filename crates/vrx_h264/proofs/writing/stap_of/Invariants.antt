use Rattle.std.proofs.Common.{◌≡◌, false, ℕ, List, nat_lt, length, ◌++◌, drop}
use Rattle.std.specs.List.{flat_map, list_any}
use Rattle.vrx_h264.specs.IsPayload.{with_size}
use Rattle.vrx_h264.specs.Writing.{written_units}
use Rattle.vrx_h264.proofs.writing.stap_of.Given as goal

-- what is written and what is to come are all, and the rest fits
abbrev pub invariant-loop-unit : goal.invariant-loop-unit
invariant-loop-unit l = record {
  all : l.payload.items ++ flat_map with_size (drop l.unit-index l.units) ≡ written_units l.units;
  fits : list_any (λ (unit : List ℕ). nat_lt 65535 (length unit)) (drop l.unit-index l.units) ≡ false;
}
