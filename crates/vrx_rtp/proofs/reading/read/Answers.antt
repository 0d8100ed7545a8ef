-- What was read is in the grammar, and the fault is the first that applies.
use Rattle.std.proofs.Common.{arith}
use Rattle.std.proofs.lemmas.List.{get_or_default}
use Rattle.vrx_rtp.proofs.ReadLemmas.{is_packet, is_read, is_ok, is_fault}
use Rattle.vrx_rtp.proofs.reading.read.Goals as goal

pub returns-clause-packet : goal.returns-clause-packet
returns-clause-packet c =
    is_packet c.args.datagram.now c.packet_of.result
    (λ k d within. omega (arith, get_or_default c.args.datagram.now k d 0 within, c.type_inv.datagram k))
    c.packet_of.ensures

pub returns-clause-only : goal.returns-clause-only
returns-clause-only c p = is_read c.args.datagram.now c.packet_of.result p c.packet_of.ensures

pub returns-clause-ok : goal.returns-clause-ok
returns-clause-ok c = is_ok c.args.datagram.now c.packet_of.result c.packet_of.ensures

pub returns-clause-fault : goal.returns-clause-fault
returns-clause-fault c f = is_fault c.args.datagram.now c.packet_of.result f c.packet_of.ensures
