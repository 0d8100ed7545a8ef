use Rattle.std.proofs.Common.{◌<◌, Contains, sym, subst}
use Rattle.vrx_num.specs.declared.limits.TheConstants.{MOST_EVENTS}
use Rattle.vrx_core.specs.relation.StandsFor.{Assembly}
use Rattle.vrx_core.proofs.step.FieldLemmas.{fields-pulled}
use Rattle.vrx_core.proofs.assembler.Assembler.pass.Goals as goal

pub invariant_of-self : goal.invariant_of-self
invariant_of-self g c =
    let i = c.self.inside in
    fields-pulled c.runs_are.ensures c.runs_rise.ensures c.runs_apart.ensures g.C.Codec.meaning i.settings i.count
    c.count.new.self i.window i.pictures i.runs i.finder c.pulled.new.self i.frames c.take.new.self i.last_pulled i.front
    c.front_after-self-inside.result i.extender c.args.run
    c.self.invariant (subst (λ (p : Assembly). Contains p.frames c.args.run) (sym c.self.view_is) c.requires.stands)
    (subst (λ (p : Assembly). p.events < MOST_EVENTS) (sym c.self.view_is) c.requires.room)
    c.count.ensures.events (λ told pulled carried knows. c.pulled.ensures.knows told pulled carried knows) c.take.ensures.runs c.front_after-self-inside.ensures

pub returns-clause-after : goal.returns-clause-after
returns-clause-after g c = (invariant_of-self g c).whole
