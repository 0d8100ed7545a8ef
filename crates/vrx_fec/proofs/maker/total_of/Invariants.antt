use Rattle.std.proofs.Common.{◌≡◌, ◌+◌, ◌*◌, ◌≤◌, drop}
use Rattle.vrx_fec.specs.Made.{total}
use Rattle.vrx_fec.proofs.maker.total_of.Given as goal

abbrev pub invariant-loop-span : goal.invariant-loop-span
invariant-loop-span l =
    record {
      rest : l.total + total (drop l.span-index l.spans) ≡ total l.spans;
      bound : l.total ≤ 65536 * l.span-index;
    }
