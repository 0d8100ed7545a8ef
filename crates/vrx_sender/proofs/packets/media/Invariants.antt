use Rattle.std.proofs.Common.{◌≡◌, ◌+◌, ◌-◌, ◌*◌, ◌++◌, All, length}
use Rattle.vrx_sender.specs.Made.{IsShort}
use Rattle.vrx_sender.specs.Packets.{media, media_from, parts}
use Rattle.vrx_sender.proofs.packets.media.Given as goal

-- the packets up to here, and after them those of the parts left, are all
abbrev pub invariant-loop-k : goal.invariant-loop-k
invariant-loop-k l = record {
  whole : l.packets.items ++ media_from l.f l.count l.k (l.i + l.k) (parts (l.count - l.k) l.rest) ≡ media l.f l.i l.bytes;
  size : length l.rest ≡ length l.bytes - 1000 * l.k;
  so_many : length l.packets.items ≡ l.k;
  short : All IsShort l.packets.items;
}
