use Rattle.vrx_core.proofs.machine.SettingsLemmas.{types-good}
use Rattle.vrx_core.proofs.step.FieldLemmas.{fields-new, stands-new}
use Rattle.vrx_core.proofs.assembler.Assembler.new.Goals as goal

pub invariant_of-result : goal.invariant_of-result
invariant_of-result g c =
    fields-new g.C.Codec.meaning c.args.settings c.in-Ok.window c.new-6.result c.in-Ok-new.runs c.in-Ok-new-2.finder c.in-Ok-new-3.frames c.new-5.result
    (types-good c.args.settings c.requires.good) c.in-Ok.ensures.nothing c.new-6.ensures c.in-Ok-new.ensures.nothing c.in-Ok-new-3.ensures.nothing c.new-5.ensures

pub returns-clause-stands : goal.returns-clause-stands
returns-clause-stands g c =
    stands-new g.C.Codec.meaning c.args.settings c.in-Ok.window c.new-6.result c.in-Ok-new.runs c.in-Ok-new-2.finder c.in-Ok-new-3.frames
    c.in-Ok.ensures.nothing c.new-6.ensures c.in-Ok-new.ensures.nothing c.in-Ok-new-2.ensures.knows c.in-Ok-new-3.ensures.nothing

pub returns-clause-whole : goal.returns-clause-whole
returns-clause-whole g c = (invariant_of-result g c).whole
