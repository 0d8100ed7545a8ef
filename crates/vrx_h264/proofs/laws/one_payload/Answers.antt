-- The laws of payloads, from the lemmas on them.
use Rattle.std.proofs.Common.{ap}
use Rattle.vrx_h264.specs.Aggregate.{Units}
use Rattle.vrx_h264.proofs.PayloadLemmas.{carried_spelled, payload-reads, part-reads, payload-refused, units-divide, divided, fault-divided}
use Rattle.vrx_h264.proofs.laws.one_payload.Goals as goal

pub returns-clause-carried : goal.returns-clause-carried
returns-clause-carried c payload carried are = (
  λ h. carried_spelled payload carried are h.0 h.1,
  λ is. let reads = payload-reads payload carried is in
      (reads.right, reads.carries),
)

pub returns-clause-part : goal.returns-clause-part
returns-clause-part c payload carried is = part-reads payload carried (payload-reads payload carried is)

pub returns-clause-refused : goal.returns-clause-refused
returns-clause-refused c payload are none = payload-refused payload are none

pub returns-clause-divides : goal.returns-clause-divides
returns-clause-divides c octets are = units-divide octets are

pub returns-clause-one_division : goal.returns-clause-one_division
returns-clause-one_division c octets left units d =
    let same = divided octets left units d in
    (ap (λ (x : Units). x.units) same, ap (λ (x : Units). x.left) same)

pub returns-clause-wrong_unit : goal.returns-clause-wrong_unit
returns-clause-wrong_unit c octets left units d some = fault-divided octets left units d some
