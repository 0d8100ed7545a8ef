-- RED and retransmissions on rows worked by hand.
use Rattle.std.specs.Prelude.{◌≡◌, ℕ, true, List, [], ◌∷◌, refl, None, Ok, Err}
use Rattle.vrx_rtp.specs.Packet.{Packet, octets_of}
use Rattle.vrx_rtp.specs.Reading.{reading}
use Rattle.vrx_wrap.specs.declared.red.RedFault.TheVariants.{Empty, MoreBlocks}
use Rattle.vrx_wrap.specs.declared.rtx.RtxFault.TheVariants.{NoApt, RtxEmpty}
use Rattle.vrx_wrap.specs.Red.{block_of, red_of}
use Rattle.vrx_wrap.specs.Rtx.{Apt, original_of, rtx_of}

-- a packet without sources, extension and padding, with the marker and timestamp 0
abbrev plain : ℕ → ℕ → ℕ → List ℕ → Packet
plain pt seq ssrc payload = record {
  marker = true;
  pt = pt;
  seq = seq;
  ts = 0;
  ssrc = ssrc;
  csrc = [];
  extension = None;
  payload = payload;
  padding = 0;
}

-- the octets 80 and the marker's and type's, the number, timestamp 0, the source, and the payload
abbrev plain_octets : ℕ → ℕ → ℕ → List ℕ → List ℕ
plain_octets second seq ssrc payload = 0x80 ∷ second ∷ 0 ∷ seq ∷ 0 ∷ 0 ∷ 0 ∷ 0 ∷ 0 ∷ 0 ∷ 0 ∷ ssrc ∷ payload

-- the media packet 80e00001000000000000000a1000aa, of type 96
abbrev media : Packet
media = plain 96 1 10 (0x10 ∷ 0 ∷ 0xaa ∷ [])

-- ---- RED (RFC 2198 3)

-- 80e40001000000000000000a601000aa: RED of type 100 around it
abbrev red_datagram : List ℕ
red_datagram = plain_octets 0xe4 1 0x0a (0x60 ∷ 0x10 ∷ 0 ∷ 0xaa ∷ [])

red_spelled : octets_of (red_of 100 media) ≡ red_datagram
red_spelled = refl

red_read : reading red_datagram ≡ Ok (plain 100 1 10 (0x60 ∷ 0x10 ∷ 0 ∷ 0xaa ∷ []))
red_read = refl

red_block : block_of (0x60 ∷ 0x10 ∷ 0 ∷ 0xaa ∷ []) ≡ Ok (record { pt = 96; rest = 0x10 ∷ 0 ∷ 0xaa ∷ [] })
red_block = refl

-- e000: F = 1
red_more : block_of (0xe0 ∷ 0 ∷ []) ≡ Err MoreBlocks
red_more = refl

red_empty : block_of [] ≡ Err Empty
red_empty = refl

-- ---- retransmissions (RFC 4588 4, 8.6)

-- 97 stands for 96 and 99 for 98, of the source 10
abbrev apt : Apt
apt = record { pairs = (97, 96) ∷ (99, 98) ∷ []; media_ssrc = 10 }

-- 80e10007000000000000000c00011000aa: type 97, source 12 and number 7
abbrev rtx : Packet
rtx = plain 97 7 12 (0 ∷ 1 ∷ 0x10 ∷ 0 ∷ 0xaa ∷ [])

rtx_read : reading (plain_octets 0xe1 7 0x0c (0 ∷ 1 ∷ 0x10 ∷ 0 ∷ 0xaa ∷ [])) ≡ Ok rtx
rtx_read = refl

rtx_wrapped : rtx_of 97 12 7 media ≡ rtx
rtx_wrapped = refl

rtx_original : original_of apt rtx ≡ Ok media
rtx_original = refl

-- the second pair
rtx_second : original_of apt (plain 99 7 12 (1 ∷ 2 ∷ [])) ≡ Ok (plain 98 258 10 [])
rtx_second = refl

-- 80610008000000000000000c, and the same with 00: no octet of the original's number, and one
rtx_empty : original_of apt (plain 97 8 12 []) ≡ Err RtxEmpty
rtx_empty = refl

rtx_one : original_of apt (plain 97 9 12 (0 ∷ [])) ≡ Err RtxEmpty
rtx_one = refl

-- 80600009000000000000000c00011000aa: the media type on the source of retransmissions; an empty one has the same
-- fault
rtx_media : original_of apt (plain 96 9 12 (0 ∷ 1 ∷ 0x10 ∷ 0 ∷ 0xaa ∷ [])) ≡ Err NoApt
rtx_media = refl

rtx_media_empty : original_of apt (plain 96 9 12 []) ≡ Err NoApt
rtx_media_empty = refl
