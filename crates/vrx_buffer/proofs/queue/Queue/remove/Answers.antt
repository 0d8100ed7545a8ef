use Rattle.std.proofs.Common.{◌≡◌, ◌<◌, ◌∙◌, ap, arith, length, rules, subst}
use Rattle.std.specs.List.{remove}
use Rattle.std.specs.Prelude.{◌==◌, not, OnSome}
use Rattle.std.specs.VecDeque.{deque_len}
use Rattle.vrx_buffer.specs.Order.{rises_by}
use Rattle.vrx_buffer.proofs.OrderLemmas.{rises-filter}
use Rattle.vrx_buffer.proofs.PlaceLemmas.{some}
use Rattle.vrx_buffer.proofs.queue.Queue.remove.Goals as goal

pub invariant_of-self : goal.invariant_of-self
invariant_of-self c =
    let runs = c.self.inside.runs.items in
    let len : deque_len c.self.inside.runs ≡ length runs = search rules in
    let within : c.in-Ok.at < deque_len c.self.inside.runs = omega (arith, len, c.in-Ok.ensures.inside) in
    let left : c.remove-run.new.self.items ≡ remove runs c.in-Ok.at =
    subst (λ o. OnSome o (c.remove-run.new.self.items ≡ remove runs c.in-Ok.at))
    (c.remove-run.ensures.succeeds some within) c.remove-run.ensures.items in
    record {
      rise = ap (rises_by (λ run. run.first)) (left ∙ c.in-Ok.ensures.left)
          ∙ rises-filter (λ run. run.first) (λ run. not (run.first == c.args.n)) runs c.self.invariant.rise;
      room = omega (arith, c.self.invariant.room, c.remove-run.ensures.capacity);
    }
