use Rattle.vrx_rtcp.proofs.NumberLemmas.{all_octets}
use Rattle.vrx_rtcp.proofs.PacketLemmas.{begins_with_packet, packet-no_fault}
use Rattle.vrx_rtcp.proofs.CompoundLemmas.{same_packet}
use Rattle.vrx_rtcp.proofs.laws.one_packet.Goals as goal

pub returns-clause-same_packet : goal.returns-clause-same_packet
returns-clause-same_packet c = same_packet

pub returns-clause-packet_reads : goal.returns-clause-packet_reads
returns-clause-packet_reads c = packet-no_fault

pub returns-clause-packet_or_fault : goal.returns-clause-packet_or_fault
returns-clause-packet_or_fault c = λ octets fit. begins_with_packet octets (all_octets octets fit)
