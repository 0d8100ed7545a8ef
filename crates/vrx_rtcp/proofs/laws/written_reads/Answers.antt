use Rattle.vrx_rtcp.proofs.NamedLemmas.{named, nack_reads, pli_reads}
use Rattle.vrx_rtcp.proofs.laws.written_reads.Goals as goal

pub returns-clause-nack : goal.returns-clause-nack
returns-clause-nack c = λ from media numbers from_fits media_fits rising near. (
  nack_reads from media numbers from_fits media_fits (record { rising = rising; near = near }),
  named numbers (record { rising = rising; near = near }),
)

pub returns-clause-pli : goal.returns-clause-pli
returns-clause-pli c = pli_reads
