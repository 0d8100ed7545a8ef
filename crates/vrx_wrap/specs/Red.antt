-- RED with one block (RFC 2198 3): the payload of a packet, which is of another type by itself.
--
--  0 1 2 3 4 5 6 7
-- +-+-+-+-+-+-+-+-+
-- |F|  block PT   |  F = 0: this is the last block
-- +-+-+-+-+-+-+-+-+
-- :     block     :  to the end of the payload
-- +-+-+-+-+-+-+-+-+
use Rattle.std.specs.Prelude.{◌≡◌, ℕ, ◌<◌, ◌≤◌, nat_lt, if◌then◌else◌, List, [], ◌∷◌, slice_index, Result, Ok, Err}
use Rattle.vrx_rtp.specs.Packet.{Packet}
use Rattle.vrx_wrap.specs.declared.red.TheConstants.{BIT_F}
use Rattle.vrx_wrap.specs.declared.red.RedFault.{RedFault}
use Rattle.vrx_wrap.specs.declared.red.RedFault.TheVariants.{Empty, MoreBlocks}

-- a block: its payload type, and its octets to the end of the payload
pub record Block : Type 0 where
  pub pt : ℕ
  pub rest : List ℕ

-- the payload that carries a block of this type
abbrev pub red_payload : ℕ → List ℕ → List ℕ
red_payload pt rest = pt ∷ rest

-- THE FORM: the payload carries this block, and the type fits below F = 0
pub record IsRed (payload : List ℕ) (block : Block) : Type 0 where
  pub fits : block.pt < 128
  pub spelled : payload ≡ red_payload block.pt block.rest

-- F = 1 in the first octet: a further block follows
abbrev pub HasMore : List ℕ → Type 0
HasMore payload = BIT_F ≤ slice_index payload 0

-- the block of a payload, or why there isn't one block
abbrev pub block_of : List ℕ → Result Block RedFault
block_of [] = Err Empty
block_of (head ∷ rest) = if nat_lt head BIT_F then Ok (record { pt = head; rest = rest }) else Err MoreBlocks

-- the packet wrapped in RED, under this payload type: its payload is the block
abbrev pub red_of : ℕ → Packet → Packet
red_of red_type p = record {
  marker = p.marker;
  pt = red_type;
  seq = p.seq;
  ts = p.ts;
  ssrc = p.ssrc;
  csrc = p.csrc;
  extension = p.extension;
  payload = red_payload p.pt p.payload;
  padding = p.padding;
}
