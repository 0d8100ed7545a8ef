-- What holds of RED with one block (RFC 2198 3) and of retransmissions (RFC 4588 4), as statements.
use Rattle.std.specs.Prelude.{◌≡◌, ◌↔◌, ℕ, ◌^◌, ◌<◌, List, [], length, Ok, Err}
use Rattle.vrx_rtp.specs.Packet.{Packet, Fits, octets_of}
use Rattle.vrx_num.specs.Octets.{AreOctets}
use Rattle.vrx_rtp.specs.Reading.{reading}
use Rattle.vrx_wrap.specs.declared.red.RedFault.TheVariants.{Empty, MoreBlocks}
use Rattle.vrx_wrap.specs.declared.rtx.RtxFault.TheVariants.{NoApt, RtxEmpty}
use Rattle.vrx_wrap.specs.Red.{Block, IsRed, HasMore, block_of, red_of}
use Rattle.vrx_wrap.specs.Rtx.{Apt, IsOriginal, IsRtxType, StandsFor, original_of, rtx_of, unpadded_packet}

-- the block of a payload is the one that the payload has the form of
abbrev pub HasOneBlock : Type 0
HasOneBlock = (payload : List ℕ) (block : Block) → (block_of payload ≡ Ok block) ↔ IsRed payload block

-- a payload has no block exactly if it has no octet, and more than one exactly if F is 1 in its first octet
abbrev pub FailsEmpty : Type 0
FailsEmpty = (payload : List ℕ) → (block_of payload ≡ Err Empty) ↔ (payload ≡ [])

abbrev pub FailsMoreBlocks : Type 0
FailsMoreBlocks = (payload : List ℕ) → (block_of payload ≡ Err MoreBlocks) ↔ HasMore payload

-- a packet wrapped in RED has its own type and payload as its block
abbrev pub ReadsRedAgain : Type 0
ReadsRedAgain = (red_type : ℕ) (p : Packet) → p.pt < 128 →
    block_of (red_of red_type p).payload ≡ Ok (record { pt = p.pt; rest = p.payload })

-- a packet that fits its octets fits them wrapped, too, and octets of the packet wrapped are read as that
abbrev pub FitsRed : Type 0
FitsRed = (red_type : ℕ) (p : Packet) → red_type < 128 → Fits p → Fits (red_of red_type p)

abbrev pub ReadsRedOctets : Type 0
ReadsRedOctets = (red_type : ℕ) (p : Packet) → red_type < 128 → Fits p → AreOctets (octets_of (red_of red_type p)) →
    reading (octets_of (red_of red_type p)) ≡ Ok (red_of red_type p)

-- the original of a packet is the one that it has the form of, if its payload is octets
abbrev pub HasOneOriginal : Type 0
HasOneOriginal = (apt : Apt) (rtx original : Packet) → AreOctets rtx.payload →
    (original_of apt rtx ≡ Ok original) ↔ IsOriginal apt rtx original

-- a packet's type stands for no other exactly if no pair has it; and the packet is cut off exactly if one has, and
-- the payload has fewer than the two octets of the original's number
abbrev pub FailsNoApt : Type 0
FailsNoApt = (apt : Apt) (rtx : Packet) → (original_of apt rtx ≡ Err NoApt) ↔ (IsRtxType apt rtx.pt → ⊥)

abbrev pub FailsRtxEmpty : Type 0
FailsRtxEmpty = (apt : Apt) (rtx : Packet) →
    (original_of apt rtx ≡ Err RtxEmpty) ↔ (IsRtxType apt rtx.pt × (length rtx.payload < 2))

-- the original of a packet's retransmission is the packet without padding
abbrev pub ReadsRtxAgain : Type 0
ReadsRtxAgain = (apt : Apt) (rtx_type rtx_ssrc rtx_seq : ℕ) (p : Packet) → p.seq < 2 ^ 16 → StandsFor apt rtx_type p →
    original_of apt (rtx_of rtx_type rtx_ssrc rtx_seq p) ≡ Ok (unpadded_packet p)

-- the same of a retransmission: it fits its octets, and these are read as it
abbrev pub FitsRtx : Type 0
FitsRtx = (rtx_type rtx_ssrc rtx_seq : ℕ) (p : Packet) → rtx_type < 128 → rtx_ssrc < 2 ^ 32 → rtx_seq < 2 ^ 16 →
    Fits p → Fits (rtx_of rtx_type rtx_ssrc rtx_seq p)

abbrev pub ReadsRtxOctets : Type 0
ReadsRtxOctets = (rtx_type rtx_ssrc rtx_seq : ℕ) (p : Packet) → rtx_type < 128 → rtx_ssrc < 2 ^ 32 →
    rtx_seq < 2 ^ 16 → Fits p → AreOctets (octets_of (rtx_of rtx_type rtx_ssrc rtx_seq p)) →
    reading (octets_of (rtx_of rtx_type rtx_ssrc rtx_seq p)) ≡ Ok (rtx_of rtx_type rtx_ssrc rtx_seq p)
