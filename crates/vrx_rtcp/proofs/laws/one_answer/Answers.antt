use Rattle.vrx_rtcp.proofs.CompoundLemmas.{one_compound, one_fault, not_both, some_answer}
use Rattle.vrx_rtcp.proofs.NumberLemmas.{all_octets}
use Rattle.vrx_rtcp.proofs.TestLemmas.{compound-passes, fault-fails, passes-compound, fails-fault}
use Rattle.vrx_rtcp.proofs.laws.one_answer.Goals as goal

pub returns-clause-one_compound : goal.returns-clause-one_compound
returns-clause-one_compound c = one_compound

pub returns-clause-some_answer : goal.returns-clause-some_answer
returns-clause-some_answer c = λ datagram fit. some_answer datagram (all_octets datagram fit)

pub returns-clause-one_fault : goal.returns-clause-one_fault
returns-clause-one_fault c = one_fault

pub returns-clause-not_both : goal.returns-clause-not_both
returns-clause-not_both c = not_both

pub returns-clause-passes : goal.returns-clause-passes
returns-clause-passes c = λ datagram fit. (passes-compound datagram fit, λ is. compound-passes datagram is.0 is.1)

pub returns-clause-fails : goal.returns-clause-fails
returns-clause-fails c = λ datagram fit. (fails-fault datagram fit, λ has. fault-fails datagram has.0 has.1)
