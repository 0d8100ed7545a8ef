-- A packet that fits its octets fits them wrapped, too.
use Rattle.std.proofs.Common.{◌≡◌, ℕ, ◌^◌, ◌<◌, Ok, arith}
use Rattle.vrx_rtp.specs.Packet.{Packet, Fits, octets_of}
use Rattle.vrx_num.specs.Octets.{AreOctets}
use Rattle.vrx_rtp.specs.Reading.{reading}
use Rattle.vrx_rtp.specs.Laws.{SpellsItself, ReadsPackets}
use Rattle.vrx_wrap.specs.Red.{red_of}
use Rattle.vrx_wrap.specs.Rtx.{rtx_of}

pub fits-red : (red_type : ℕ) (p : Packet) → red_type < 128 → Fits p → Fits (red_of red_type p)
fits-red red_type p small fits = record {
  pt = small;
  seq = fits.seq;
  ts = fits.ts;
  ssrc = fits.ssrc;
  csrc = fits.csrc;
  extension = fits.extension;
  padding = fits.padding;
}

pub fits-rtx : (rtx_type rtx_ssrc rtx_seq : ℕ) (p : Packet) → rtx_type < 128
    → rtx_ssrc < 2 ^ 32 → rtx_seq < 2 ^ 16 → Fits p → Fits (rtx_of rtx_type rtx_ssrc rtx_seq p)
fits-rtx rtx_type rtx_ssrc rtx_seq p small source number fits = record {
  pt = small;
  seq = number;
  ts = fits.ts;
  ssrc = source;
  csrc = fits.csrc;
  extension = fits.extension;
  padding = omega arith;
}

-- octets of a packet that fits are read as it, by the laws of packets
pub octets_of-read : SpellsItself → ReadsPackets → (p : Packet) → Fits p
    → AreOctets (octets_of p) → reading (octets_of p) ≡ Ok p
octets_of-read spells reads p fits are = (reads (octets_of p) p are).1 (spells p fits)
