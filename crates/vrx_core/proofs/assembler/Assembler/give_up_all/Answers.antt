use Rattle.vrx_core.proofs.step.FieldLemmas.{fields-given-up}
use Rattle.vrx_core.proofs.assembler.Assembler.give_up_all.Goals as goal

pub invariant_of-self : goal.invariant_of-self
invariant_of-self g c =
    let i = c.self.inside in
    fields-given-up g.C.Codec.meaning i.settings i.count i.window c.give_up_all.new.window i.pictures i.runs i.finder i.frames
    i.last_pulled i.front i.extender c.args.numbers.now c.self.invariant c.give_up_all.ensures c.newest.ensures.sound

pub returns-clause-after : goal.returns-clause-after
returns-clause-after g c = (invariant_of-self g c).whole
