use Rattle.vrx_text.proofs.InspectionLemmas.{rtcp_only}
use Rattle.vrx_text.proofs.inspection.rtcp_computes.Goals as goal

pub returns : goal.returns
returns c = λ k octets line is means. rtcp_only c.one_packet.ensures.packet_reads k octets line is means
