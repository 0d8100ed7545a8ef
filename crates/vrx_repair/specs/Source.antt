-- The source whose packets are rebuilt, and which rebuilt texts are its media.
use Rattle.std.specs.Prelude.{ℕ, Bool, ◌&&◌, ◌==◌, nat_lt, if◌then◌else◌, List, length, Option, Some, None}
use Rattle.std.specs.Result.{result_ok}
use Rattle.vrx_num.specs.OptionChain.{◌>>=◌}
use Rattle.vrx_rtp.specs.Packet.{Packet}
use Rattle.vrx_rtp.specs.Reading.{read}
use Rattle.vrx_codec.specs.Meaning.{Meaning}
use Rattle.vrx_codec.specs.Part.{Part}

-- a media source: its SSRC (RFC 3550 3), the payload type of its media, and how its payloads read
pub record Source : Type 0 where
  pub ssrc : ℕ
  pub media_type : ℕ
  pub codec : Meaning

-- the source of these
abbrev pub source_of : Meaning → ℕ → ℕ → Source
source_of codec ssrc media_type = record { ssrc = ssrc; media_type = media_type; codec = codec }

-- a packet without padding, of this payload type, and with a payload
abbrev pub is_bare : ℕ → Packet → Bool
is_bare media_type packet = packet.padding == 0 && packet.pt == media_type && nat_lt 0 (length packet.payload)

-- WHAT A TEXT SAYS, if it is media of the source: it reads as an RTP packet (RFC 3550 5.1) without padding and of the
-- media type, and its payload isn't empty and reads
abbrev pub media_in : Source → List ℕ → Option (Packet × Part)
media_in source text = do
  packet ← read text
  part ← result_ok (source.codec.read packet.payload)
  if is_bare source.media_type packet then Some (packet, part) else None
