use Rattle.std.proofs.Common.{◌≡◌, ◌+◌, ◌-◌, ◌*◌, ◌≤◌, ◌++◌, drop, flat_map, length, vec_capacity}
use Rattle.vrx_fec.specs.Made.{levels_of, total}
use Rattle.vrx_fec.specs.Payload.{level_octets}
use Rattle.vrx_fec.proofs.maker.put_levels.Given as goal

-- what was put, and the levels that are left, are what is to be put
abbrev pub invariant-loop-span : goal.invariant-loop-span
invariant-loop-span l =
    record {
      whole : l.out.items ++ flat_map (level_octets l.long) (levels_of (drop l.span-index l.spans) l.rest)
          ≡ l.initial.out.items ++ flat_map (level_octets l.long) (levels_of l.spans l.body);
      size : length l.rest ≡ total (drop l.span-index l.spans);
      room : length l.out.items + 8 * (length l.spans - l.span-index) + total (drop l.span-index l.spans)
          ≤ vec_capacity l.out;
    }
