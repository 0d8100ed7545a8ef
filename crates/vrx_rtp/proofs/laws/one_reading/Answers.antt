-- The laws of the grammar.
use Rattle.vrx_rtp.proofs.PacketLemmas.{same_packet, packet-reading, reading-packet, packet-octets_of, octets_of-packet}
use Rattle.vrx_rtp.proofs.ReadLemmas.{packet_or_fault}
use Rattle.vrx_rtp.proofs.laws.one_reading.Goals as goal

pub returns-clause-same_packet : goal.returns-clause-same_packet
returns-clause-same_packet c = same_packet

pub returns-clause-packet_or_fault : goal.returns-clause-packet_or_fault
returns-clause-packet_or_fault c octets are = packet_or_fault octets are

pub returns-clause-spelled_packet : goal.returns-clause-spelled_packet
returns-clause-spelled_packet c = octets_of-packet

pub returns-clause-packet_spelled : goal.returns-clause-packet_spelled
returns-clause-packet_spelled c = packet-octets_of

pub returns-clause-read_packet : goal.returns-clause-read_packet
returns-clause-read_packet c octets p are = (packet-reading octets p are, reading-packet octets p)
