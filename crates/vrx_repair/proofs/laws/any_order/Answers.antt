use Rattle.vrx_repair.proofs.OrderLemmas.{any-order}
use Rattle.vrx_repair.proofs.laws.any_order.Goals as goal

pub returns : goal.returns
returns c = record { any = any-order }
