use Rattle.vrx_buffer.proofs.PlaceLemmas.{empty-through, first-through}
use Rattle.vrx_buffer.proofs.queue.Queue.begins_through.Goals as goal

pub returns-in-Some : goal.returns-in-Some
returns-in-Some c = record {
  begins = first-through c.args.last c.in-Some.run' c.args.self.now c.in-Some.ensures.rise c.in-Some.ensures.first;
}

pub returns-in-None : goal.returns-in-None
returns-in-None c = record { begins = empty-through c.args.last c.args.self.now c.in-None.ensures.first }
