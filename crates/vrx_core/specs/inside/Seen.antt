-- What the types that see a packet where it lies stand for.
use Rattle.std.specs.Prelude.{◌≡◌, ◌≢◌, ◌<◌, ◌≤◌, ℕ, true, IfSome, List, [], length, Result, Ok}
use Rattle.std.specs.Result.{result_map_both}
use Rattle.vrx_num.specs.declared.limits.TheConstants.{MOST_OCTETS}
use Rattle.vrx_num.specs.Octets.{AreOctets}
use Rattle.vrx_num.specs.ResultChain.{◌>>=◌}
use Rattle.vrx_rtp.specs.Packet.{Packet, Fits}
use Rattle.vrx_rtp.specs.View.{view}
use Rattle.vrx_codec.specs.View.{view as view_part}
use Rattle.vrx_codec.specs.Joining.{FitsLayers}
use Rattle.vrx_codec.specs.Meaning.{Meaning}
use Rattle.vrx_window.specs.Content.{Content, Media, Fec, Empty}
use Rattle.vrx_core.specs.machine.Text.{packet_text}
use Rattle.vrx_core.specs.machine.Original.{Original, Carried, Plain, Parity, media_packet, out_of_red}
use Rattle.vrx_core.specs.declared.original.Carried.{Carried as CarriedSeen}
use Rattle.vrx_core.specs.declared.original.Carried.TheVariants as carries
use Rattle.vrx_core.specs.declared.original.PacketSeen.{PacketSeen}
use Rattle.vrx_core.specs.declared.original.PayloadSeen.{PayloadSeen}
use Rattle.vrx_core.specs.declared.original.PayloadSeen.TheVariants as brings
use Rattle.vrx_core.specs.declared.reply.Reason.{Reason}
use Rattle.vrx_core.specs.declared.settings.Settings.{Settings}
use Rattle.vrx_core.specs.declared.verdict.TakenPacket.{TakenPacket}

-- what a packet with this text brings
abbrev pub view_brought : List ℕ → PayloadSeen → Content
view_brought text (brings.Media part) = Media text
view_brought text (brings.Fec payload) = Fec payload.now
view_brought text brings.Empty = Empty

-- what a packet carries, without where it lies in memory
abbrev pub view_carried : CarriedSeen → Carried
view_carried (carries.Plain packet) = Plain (view packet)
view_carried (carries.Parity packet) = Parity (view packet)

-- the packet of the stream, without where it lies in memory
abbrev pub view_original : PacketSeen → Original
view_original seen =
    record { wire = seen.packet.seq; content = view_brought (packet_text (view seen.packet)) seen.brought }

-- a payload says what was seen in it
abbrev pub Says : Meaning → List ℕ → PayloadSeen → Type 0
Says codec payload (brings.Media part) = (payload ≢ []) × (codec.read payload ≡ Ok (view_part part))
    × IfSome part.layers FitsLayers × (length part.body.now ≤ length payload)
Says codec payload (brings.Fec octets) = octets.now ≡ payload
Says codec payload brings.Empty = payload ≡ []

-- the packet of what is carried
abbrev pub packet_in : Carried → Packet
packet_in (Plain packet) = packet
packet_in (Parity packet) = packet

-- the packet that a packet brings, out of a retransmission and out of RED
abbrev pub packet_brought : Settings → Packet → Result Packet Reason
packet_brought settings packet = media_packet settings packet >>= λ sent.
    result_map_both packet_in (λ reason. reason) (out_of_red settings sent)

-- the payload types of media and RED have seven bits
pub record HasTypes (settings : Settings) : Type 0 where
  pub media : settings.media_type < 128
  pub red : IfSome settings.red (λ red. red.red_type < 128)

-- what octets were seen to bring: a packet whose text fits, isn't longer than they may be, and is the octets themselves
-- if the packet came bare; and its payload says what was seen in it
pub record IsSeen (codec : Meaning) (octets : List ℕ) (seen : PacketSeen) : Type 0 where
  pub fits : Fits (view seen.packet)
  pub below : AreOctets (packet_text (view seen.packet))
  pub size : length (packet_text (view seen.packet)) ≤ MOST_OCTETS
  pub bare : seen.bare ≡ true → packet_text (view seen.packet) ≡ octets
  pub says : Says codec seen.packet.payload.now seen.brought

-- what a datagram is taken as: its number, and what it brings
abbrev pub view_taken : TakenPacket → ℕ × Content
view_taken taken = (taken.number, (view_original taken.seen).content)
