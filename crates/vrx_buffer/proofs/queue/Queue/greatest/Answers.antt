use Rattle.std.proofs.Common.{◌∙◌, ap, map, rules}
use Rattle.std.specs.VecDeque.{deque_len}
use Rattle.vrx_buffer.specs.Order.{greatest_of}
use Rattle.vrx_buffer.proofs.OrderLemmas.{greatest-last}
use Rattle.vrx_buffer.proofs.queue.Queue.greatest.Goals as goal

pub returns-in-Some : goal.returns-in-Some
returns-in-Some c =
    greatest-last (λ run. run.first) c.self.inside.runs.items c.in-Some.run'.now (deque_len c.self.inside.runs)
    c.self.invariant.rise (search rules) (search rules) c.in-Some.ensures.lookup
    ∙ ap (λ runs. greatest_of (map (λ run. run.first) runs)) c.self.view_is
