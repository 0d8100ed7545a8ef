use Rattle.std.proofs.Common.{◌≡◌, None, map, ◌+◌, ◌-◌, ◌++◌, length}
use Rattle.vrx_fec.specs.declared.fec.TheConstants.{HEAD}
use Rattle.vrx_fec.specs.Reading.{levels_at}
use Rattle.vrx_fec.specs.View.{view_level, result_by}
use Rattle.vrx_fec.proofs.reading.levels_of.Given as goal

-- what is read from here on, after the levels that were read, is what is read from the front
abbrev pub invariant-loop-rest : goal.invariant-loop-rest
invariant-loop-rest l =
    record {
      same : result_by (λ levels. map view_level l.levels.items ++ levels)
          (levels_at (8 - length l.levels.items) l.long l.before l.at l.rest)
          ≡ levels_at 8 l.long None HEAD l.octets;
      place : l.at + length l.rest ≡ HEAD + length l.octets;
    }

abbrev pub decreases-loop-rest : goal.decreases-loop-rest
decreases-loop-rest l = length l.rest
