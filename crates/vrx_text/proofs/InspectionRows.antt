-- Datagrams worked by hand: their lines, computed.
use Rattle.std.proofs.Common.{◌≡◌, [], ◌∷◌, ◌++◌, codes, refl}
use Rattle.std.specs.Fmt.{digits}
use Rattle.hex.specs.Hex.{encode_with}
use Rattle.vrx_rtcp.specs.Fault.{first_fault}
use Rattle.vrx_rtcp.specs.Field.{size, message_of}
use Rattle.vrx_text.specs.Transcript.{line_feed}
use Rattle.vrx_text.specs.Inspection.{words_from, inspection}

-- 80e00001000000000000000a1000aa
pub media_packet : inspection 2 (0x80 ∷ 0xe0 ∷ 0 ∷ 1 ∷ 0 ∷ 0 ∷ 0 ∷ 0 ∷ 0 ∷ 0 ∷ 0 ∷ 0x0a ∷ 0x10 ∷ 0 ∷ 0xaa ∷ [])
    ≡ codes "2 rtp pt=96 seq=1 ts=0 ssrc=0000000a m=1 csrc=0 ext=- pad=0 payload=3" ++ line_feed
unfolding inspection digits encode_with
media_packet = refl

-- 81ce00020000000b0000000a
pub loss_indication : inspection 3 (0x81 ∷ 0xce ∷ 0 ∷ 2 ∷ 0 ∷ 0 ∷ 0 ∷ 0x0b ∷ 0 ∷ 0 ∷ 0 ∷ 0x0a ∷ [])
    ≡ codes "3 rtcp pli" ++ line_feed
unfolding inspection words_from first_fault size message_of digits
loss_indication = refl

-- 8060000100000000000000
pub short_packet : inspection 4 (0x80 ∷ 0x60 ∷ 0 ∷ 1 ∷ 0 ∷ 0 ∷ 0 ∷ 0 ∷ 0 ∷ 0 ∷ 0 ∷ []) ≡ codes "4 bad rtp Short 11"
    ++ line_feed
unfolding inspection digits
short_packet = refl

-- no octet
pub nothing : inspection 5 [] ≡ codes "5 bad rtp Short 0" ++ line_feed
unfolding inspection digits
nothing = refl

-- an extension of no words, one octet of padding, and no payload: b07fffffffffffff800000001000000001
pub bare_extension : inspection 6
    (0xb0 ∷ 0x7f ∷ 0xff ∷ 0xff ∷ 0xff ∷ 0xff ∷ 0xff ∷ 0xff ∷ 0x80 ∷ 0 ∷ 0 ∷ 0 ∷ 0x10 ∷ 0 ∷ 0 ∷ 0 ∷ 1 ∷ [])
    ≡ codes "6 rtp pt=127 seq=65535 ts=4294967295 ssrc=80000000 m=0 csrc=0 ext=0 pad=1 payload=0" ++ line_feed
unfolding inspection digits encode_with
bare_extension = refl

-- a source description of only a header, and after it a goodbye of two sources with one: 80ca0000 82cb00010000000a
pub later_fault : inspection 7 (0x80 ∷ 0xca ∷ 0 ∷ 0 ∷ 0x82 ∷ 0xcb ∷ 0 ∷ 1 ∷ 0 ∷ 0 ∷ 0 ∷ 0x0a ∷ [])
    ≡ codes "7 bad rtcp Body 4" ++ line_feed
unfolding inspection words_from first_fault size message_of digits
later_fault = refl
