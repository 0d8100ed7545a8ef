use Rattle.std.proofs.Common.{◌∙◌, ap, arith, refl}
use Rattle.vrx_buffer.specs.Order.{rises_by}
use Rattle.vrx_buffer.proofs.PartLemmas.{rises-with}
use Rattle.vrx_buffer.proofs.queue.Queue.put.Goals as goal

pub invariant_of-self : goal.invariant_of-self
invariant_of-self c = record {
  rise = ap (rises_by (λ run. run.first)) (c.in-Ok.ensures.replaced c.args.run.now refl)
      ∙ rises-with c.args.run.now c.self.inside.runs.items c.self.invariant.rise;
  room = c.self.invariant.room;
}

pub invariant_of-self-in-Ok-insert : goal.invariant_of-self-in-Ok-insert
invariant_of-self-in-Ok-insert c = record {
  rise = ap (rises_by (λ run. run.first)) (c.in-Ok-insert.ensures.items ∙ c.in-Err.ensures.inserted c.args.run.now refl)
      ∙ rises-with c.args.run.now c.self.inside.runs.items c.self.invariant.rise;
  room = omega (arith, c.self.invariant.room, c.in-Ok-insert.ensures.capacity);
}
