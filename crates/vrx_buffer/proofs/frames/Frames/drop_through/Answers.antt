use Rattle.std.proofs.Common.{◌+◌, ◌∙◌, ap}
use Rattle.vrx_buffer.specs.Frames.{runs_from}
use Rattle.vrx_buffer.specs.Kept.{AreKept, runs_of}
use Rattle.vrx_buffer.proofs.PartLemmas.{kept-dropped, kept-itself, kept-joined}
use Rattle.vrx_buffer.proofs.frames.Frames.drop_through.Goals as goal

-- the queues hold the runs that are left
left : (c : goal.After-drop_through-3)
    → AreKept (runs_from (c.args.last + 1) (runs_of c.self.inside.keys c.self.inside.plain c.self.inside.layered))
    c.drop_through.new.self c.drop_through-2.new.self c.drop_through-3.new.self
left c = kept-dropped (runs_of c.self.inside.keys c.self.inside.plain c.self.inside.layered)
    c.self.inside.keys c.self.inside.plain c.self.inside.layered c.self.invariant (c.args.last + 1)
    c.drop_through.new.self c.drop_through-2.new.self c.drop_through-3.new.self
    c.drop_through.ensures.left c.drop_through-2.ensures.left c.drop_through-3.ensures.left

pub invariant_of-self : goal.invariant_of-self
invariant_of-self c =
    kept-itself _ c.drop_through.new.self c.drop_through-2.new.self c.drop_through-3.new.self (left c)

pub returns : goal.returns
returns c = record {
  runs = kept-joined _ c.drop_through.new.self c.drop_through-2.new.self c.drop_through-3.new.self (left c)
      ∙ ap (runs_from (c.args.last + 1)) c.self.view_is;
}
