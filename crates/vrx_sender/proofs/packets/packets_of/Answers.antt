use Rattle.std.proofs.Common.{◌≡◌, length, arith}
use Rattle.vrx_sender.proofs.PacketLemmas.{packets-are}
use Rattle.vrx_sender.proofs.packets.packets_of.Goals as goal

pub returns-clause-packets : goal.returns-clause-packets
returns-clause-packets c =
    let len : c.len.result ≡ length c.in_ok-packets.packets.items = omega (arith, c.len.ensures, c.in_ok-packets.packets.ok) in
    packets-are c.args.f c.args.i c.wire.result c.len.result c.args.bytes.now c.in_ok-parity.parity.items
    c.in_ok-packets.packets.items c.as_slice.result.now _ c.packet.result c.in_ok-packets.ensures.media
    c.in_ok-push.ensures.items c.packet.ensures
    len c.in_ok-parity.ensures c.wire.ensures c.as_slice.ensures.value
