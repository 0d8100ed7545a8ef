use Rattle.vrx_h264.proofs.WrittenLemmas.{aggregate_joined}
use Rattle.vrx_h264.proofs.laws.aggregate_joins.Goals as goal

pub returns : goal.returns
returns c = record { joins = λ units some each. aggregate_joined units some each }
