-- Rows of the reading, which compute.
use Rattle.std.proofs.Common.{◌≡◌, ℕ, true, false, List, [], ◌∷◌, None, Some, Ok, refl, arith}
use Rattle.vrx_rtp.specs.declared.fault.RtpFaultKind.TheVariants.{Short, Version, CsrcPastEnd, ExtensionPastEnd, PaddingPastEnd}
use Rattle.vrx_rtp.specs.Packet.{Packet, IsPacket, octets_of}
use Rattle.vrx_rtp.specs.Faults.{fault, first_fault}
use Rattle.vrx_rtp.specs.Reading.{reading, read}

-- the datagram 80e00001000000000000000a1000aa, which is plain
marked_packet : read (0x80 ∷ 0xe0 ∷ 0x00 ∷ 0x01 ∷ 0x00 ∷ 0x00 ∷ 0x00 ∷ 0x00 ∷ 0x00 ∷ 0x00 ∷ 0x00 ∷ 0x0a ∷ 0x10 ∷ 0x00
    ∷ 0xaa ∷ []) ≡ Some (record {
      marker = true;
      pt = 96;
      seq = 1;
      ts = 0;
      ssrc = 10;
      csrc = [];
      extension = None;
      payload = 16 ∷ 0 ∷ 170 ∷ [];
      padding = 0;
    })
marked_packet = refl

-- one contributing source, an extension of one word, one octet of payload and three padding octets
abbrev whole : Packet
whole = record {
  marker = false;
  pt = 111;
  seq = 258;
  ts = 50595078;
  ssrc = 117967114;
  csrc = 11 ∷ 12 ∷ 13 ∷ 14 ∷ [];
  extension = Some (record { profile = 0xbede; words = 0x51 ∷ 0xaa ∷ 0 ∷ 0 ∷ [] });
  payload = 0xf0 ∷ [];
  padding = 3;
}

-- the octets b16f0102030405060708090a0b0c0d0ebede000151aa0000f0000003
abbrev whole_octets : List ℕ
whole_octets = 0xb1 ∷ 0x6f ∷ 1 ∷ 2 ∷ 3 ∷ 4 ∷ 5 ∷ 6 ∷ 7 ∷ 8 ∷ 9 ∷ 0x0a ∷ 0x0b ∷ 0x0c ∷ 0x0d ∷ 0x0e ∷ 0xbe ∷ 0xde ∷ 0
    ∷ 1 ∷ 0x51 ∷ 0xaa ∷ 0 ∷ 0 ∷ 0xf0 ∷ 0 ∷ 0 ∷ 3 ∷ []

whole_spelled : octets_of whole ≡ whole_octets
whole_spelled = refl

whole_read : reading whole_octets ≡ Ok whole
whole_read = refl

-- which is in the grammar
whole_is : IsPacket whole_octets whole
whole_is = record {
  filler = 0 ∷ 0 ∷ [];
  filled = refl;
  spelled = refl;
  fits = record {
    pt = omega arith;
    seq = omega arith;
    ts = omega arith;
    ssrc = omega arith;
    csrc = record { whole = refl; fit = omega arith };
    extension = record { profile = omega arith; words = record { whole = refl; fit = omega arith } };
    padding = omega arith;
  };
}

-- each fault: 80; 40600001000000000000000a; 8f600001000000000000000a; 90600001000000000000000abede0001; and
-- a0600001000000000000000a
too_short : first_fault (0x80 ∷ []) ≡ Some (fault Short 1)
too_short = refl

other_version : first_fault (0x40 ∷ 0x60 ∷ 0 ∷ 1 ∷ 0 ∷ 0 ∷ 0 ∷ 0 ∷ 0 ∷ 0 ∷ 0 ∷ 0x0a ∷ []) ≡ Some (fault Version 0)
other_version = refl

sources_past_end : first_fault (0x8f ∷ 0x60 ∷ 0 ∷ 1 ∷ 0 ∷ 0 ∷ 0 ∷ 0 ∷ 0 ∷ 0 ∷ 0 ∷ 0x0a ∷ []) ≡ Some
    (fault CsrcPastEnd 12)
sources_past_end = refl

extension_past_end : first_fault (0x90 ∷ 0x60 ∷ 0 ∷ 1 ∷ 0 ∷ 0 ∷ 0 ∷ 0 ∷ 0 ∷ 0 ∷ 0 ∷ 0x0a ∷ 0xbe ∷ 0xde ∷ 0 ∷ 1 ∷ [])
    ≡ Some (fault ExtensionPastEnd 12)
extension_past_end = refl

no_padding : first_fault (0xa0 ∷ 0x60 ∷ 0 ∷ 1 ∷ 0 ∷ 0 ∷ 0 ∷ 0 ∷ 0 ∷ 0 ∷ 0 ∷ 0x0a ∷ []) ≡ Some
    (fault PaddingPastEnd 11)
no_padding = refl

-- padding only: a0600001000000000000000a00000004
all_padding : first_fault (0xa0 ∷ 0x60 ∷ 0 ∷ 1 ∷ 0 ∷ 0 ∷ 0 ∷ 0 ∷ 0 ∷ 0 ∷ 0 ∷ 0x0a ∷ 0 ∷ 0 ∷ 0 ∷ 4 ∷ []) ≡ None
all_padding = refl
