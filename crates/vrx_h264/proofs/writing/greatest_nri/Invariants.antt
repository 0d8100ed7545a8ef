use Rattle.std.proofs.Common.{◌≡◌, ◌<◌, drop, max}
use Rattle.vrx_h264.specs.Writing.{greatest_nri}
use Rattle.vrx_h264.proofs.writing.greatest_nri.Given as goal

-- the greater of the greatest and that of the rest
abbrev pub invariant-loop-unit : goal.invariant-loop-unit
invariant-loop-unit l = record {
  all : max l.greatest (greatest_nri (drop l.unit-index l.units)) ≡ greatest_nri l.units;
  two_bits : l.greatest
      < 4;
}
