use Rattle.std.proofs.Common.{◌≡◌, ◌-◌, ◌++◌, length, map}
use Rattle.vrx_fec.specs.Mask.{numbers_from}
use Rattle.vrx_sender.specs.Frames.{octet, octets}
use Rattle.vrx_sender.proofs.frames.octets.Given as goal

-- the octets up to here, and after them those that are left, are all
abbrev pub invariant-loop-j : goal.invariant-loop-j
invariant-loop-j l = record {
  whole : l.octets.items ++ map (octet l.f) (numbers_from l.j (l.size - l.j)) ≡ octets l.f l.size;
  so_many : length l.octets.items ≡ l.j;
}
