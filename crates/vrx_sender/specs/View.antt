-- What the types of the code stand for.
use Rattle.std.specs.Prelude.{List, map}
use Rattle.vrx_core.specs.honest.Sender.{SentPacket as SentPacketOf, Media, Fec, Empty}
use Rattle.vrx_sender.specs.declared.draws.Drawn.{Drawn as DrawnSeen}
use Rattle.vrx_sender.specs.declared.sender.SentPacket.{SentPacket}
use Rattle.vrx_sender.specs.declared.sender.SentPacket.TheVariants as sent
use Rattle.vrx_sender.specs.Draws.{Drawn}

-- what was drawn
abbrev pub view_drawn : DrawnSeen → Drawn
view_drawn d = record { size = d.size; fates = d.fates.items }

-- the packet that was sent
abbrev pub view_packet : SentPacket → SentPacketOf
view_packet (sent.Media frame part text) = Media frame part text
view_packet (sent.Fec payload) = Fec payload
view_packet sent.Empty = Empty

abbrev pub view_packets : List SentPacket → List SentPacketOf
view_packets packets = map view_packet packets
