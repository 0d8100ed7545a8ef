-- What the types of the code stand for.
use Rattle.std.specs.Prelude.{ℕ, List}
use Rattle.vrx_rtcp.specs.declared.fault.RtcpFault.{RtcpFault}
use Rattle.vrx_rtcp.specs.declared.fault.RtcpFaultKind.{RtcpFaultKind}
use Rattle.vrx_rtcp.specs.declared.packet.Body.{Body}
use Rattle.vrx_rtcp.specs.declared.packet.Body.TheVariants as body
use Rattle.vrx_rtcp.specs.declared.packet.SenderReport.{SenderReport}
use Rattle.vrx_rtcp.specs.declared.writing.Item.{Item}
use Rattle.vrx_rtcp.specs.Feedback.{blp_of}
use Rattle.vrx_rtcp.specs.Packet.{SenderFields, Message, Sender, Report, Bye, Nack, Pli, Other}

-- what a sender report says, wherever its blocks lie in memory
abbrev pub sender_fields : SenderReport → SenderFields
sender_fields s = record {
  ssrc = s.ssrc;
  ntp = s.ntp;
  rtp_time = s.rtp_time;
  packets = s.packets;
  octets = s.octets;
  blocks = s.blocks.now;
}

-- what a body says, wherever its octets lie in memory
abbrev pub view : Body → Message
view (body.Sender s) = Sender (sender_fields s)
view (body.Report r) = Report r.ssrc r.blocks.now
view (body.Bye b) = Bye b.sources.now
view (body.Nack n) = Nack n.sender n.media n.items.now
view (body.Pli p) = Pli p.sender p.media
view (body.Other kind) = Other kind

-- a fault of the packet at an offset
abbrev pub fault_at : ℕ → RtcpFaultKind → RtcpFault
fault_at at kind = record { kind = kind; at = at }

-- the item of these numbers that begins with first
abbrev pub item_of : List ℕ → ℕ → Item
item_of numbers first = record { first = first; blp = blp_of numbers first }
