-- Retransmissions (RFC 4588 4): packets of their own type, source and numbers, whose payload says which packet is
-- sent again.
--
--  0                   1
--  0 1 2 3 4 5 6 7 8 9 0 1 2 3 4 5
-- +-+-+-+-+-+-+-+-+-+-+-+-+-+-+-+-+
-- |  original's sequence number   |
-- +-+-+-+-+-+-+-+-+-+-+-+-+-+-+-+-+
-- :      original's payload       :
-- +-+-+-+-+-+-+-+-+-+-+-+-+-+-+-+-+
use Rattle.std.specs.Prelude.{◌≡◌, ℕ, ◌^◌, ◌<◌, ◌==◌, List, [], ◌∷◌, ◌++◌, Option, None, Some, Result, Ok, Err}
use Rattle.std.specs.Int.{w16, to_be_bytes, from_be_bytes}
use Rattle.std.specs.List.{find, Any}
use Rattle.std.specs.Option.{option_map}
use Rattle.vrx_rtp.specs.Packet.{Packet}
use Rattle.vrx_wrap.specs.declared.rtx.RtxFault.{RtxFault}
use Rattle.vrx_wrap.specs.declared.rtx.RtxFault.TheVariants.{NoApt, RtxEmpty}

-- what retransmissions are of: their payload types, each with the one that it stands for (RFC 4588 8.6), and the
-- media source
pub record Apt : Type 0 where
  pub pairs : List (ℕ × ℕ)
  pub media_ssrc : ℕ

-- some pair has this as the type of retransmissions
abbrev pub IsRtxType : Apt → ℕ → Type 0
IsRtxType apt pt = Any (λ pair. pair.0 ≡ pt) apt.pairs

-- the type that it stands for, by the first pair that has it
abbrev pub original_type : Apt → ℕ → Option ℕ
original_type apt pt = option_map (λ pair. pair.1) (find (λ pair. pair.0 == pt) apt.pairs)

-- the payload of a retransmission: the original's number, and its payload after it
abbrev pub rtx_payload : ℕ → List ℕ → List ℕ
rtx_payload seq payload = to_be_bytes w16 seq ++ payload

-- THE FORM: one packet is the retransmission of the other, which has no padding
pub record IsOriginal (apt : Apt) (rtx original : Packet) : Type 0 where
  pub type_of : original_type apt rtx.pt ≡ Some original.pt
  pub source : original.ssrc ≡ apt.media_ssrc
  pub number : original.seq < 2 ^ 16
  pub payload : rtx.payload ≡ rtx_payload original.seq original.payload
  pub marker : original.marker ≡ rtx.marker
  pub ts : original.ts ≡ rtx.ts
  pub csrc : original.csrc ≡ rtx.csrc
  pub extension : original.extension ≡ rtx.extension
  pub padding : original.padding ≡ 0

-- the packet under another type, number and source, with another payload, and without padding
abbrev pub packet_as : Packet → ℕ → ℕ → ℕ → List ℕ → Packet
packet_as p pt seq ssrc payload = record {
  marker = p.marker;
  pt = pt;
  seq = seq;
  ts = p.ts;
  ssrc = ssrc;
  csrc = p.csrc;
  extension = p.extension;
  payload = payload;
  padding = 0;
}

-- the packet without padding
abbrev pub unpadded_packet : Packet → Packet
unpadded_packet p = packet_as p p.pt p.seq p.ssrc p.payload

-- the retransmission of a packet, under this type, source and number
abbrev pub rtx_of : ℕ → ℕ → ℕ → Packet → Packet
rtx_of rtx_type rtx_ssrc rtx_seq p = packet_as p rtx_type rtx_seq rtx_ssrc (rtx_payload p.seq p.payload)

-- the original's number at the front of a payload, and what is after it
abbrev pub number_at : List ℕ → Option (ℕ × List ℕ)
number_at (high ∷ low ∷ rest) = Some (from_be_bytes w16 (high ∷ low ∷ []), rest)
number_at octets = None

-- the original of this type, by what the payload says: its number, and its payload
abbrev pub original_with : Apt → Packet → ℕ → Option (ℕ × List ℕ) → Result Packet RtxFault
original_with apt p pt None = Err RtxEmpty
original_with apt p pt (Some (seq, payload)) = Ok (packet_as p pt seq apt.media_ssrc payload)

-- the original, by the type that the retransmission's stands for
abbrev pub original_typed : Apt → Packet → Option ℕ → Result Packet RtxFault
original_typed apt p None = Err NoApt
original_typed apt p (Some pt) = original_with apt p pt (number_at p.payload)

-- the original of a retransmission, or why it has none
abbrev pub original_of : Apt → Packet → Result Packet RtxFault
original_of apt p = original_typed apt p (original_type apt p.pt)

-- the first pair for this type names the packet's, and the source is the packet's
pub record StandsFor (apt : Apt) (rtx_type : ℕ) (p : Packet) : Type 0 where
  pub type_of : original_type apt rtx_type ≡ Some p.pt
  pub source : apt.media_ssrc ≡ p.ssrc
