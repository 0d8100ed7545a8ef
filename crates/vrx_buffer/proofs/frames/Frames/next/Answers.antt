use Rattle.std.proofs.Common.{◌∙◌, ap, subst, sym}
use Rattle.std.specs.List.{Contains}
use Rattle.std.specs.Prelude.{IfSome}
use Rattle.vrx_codec.specs.declared.run.Run.{Run}
use Rattle.vrx_buffer.specs.Frames.{AreStanding, next_of}
use Rattle.vrx_buffer.specs.Kept.{is_key, is_layered, is_plain, lesser, runs_of}
use Rattle.vrx_buffer.proofs.NextLemmas.{among-first, among-lesser, among-part, among-queue, kept-next}
use Rattle.vrx_buffer.proofs.PartLemmas.{all-layers, all-plain, kept-standing}
use Rattle.vrx_buffer.proofs.frames.Frames.next.Goals as goal

pub first_if_ready-plain-requires : goal.first_if_ready-plain-requires
first_if_ready-plain-requires c = record {
  plain = all-plain _ c.self.inside.keys c.self.inside.plain c.self.inside.layered c.self.invariant;
}

pub first_ready-layered-requires : goal.first_ready-layered-requires
first_ready-layered-requires c = record {
  layers = all-layers _ c.self.inside.keys c.self.inside.plain c.self.inside.layered c.self.invariant;
}

pub returns-clause-next : goal.returns-clause-next
returns-clause-next c = λ told pulled knows.
    kept-next told pulled c.args.passed (runs_of c.self.inside.keys c.self.inside.plain c.self.inside.layered)
    c.self.inside.keys c.self.inside.plain c.self.inside.layered c.self.invariant
    c.first-key.result c.first_if_ready-plain.result c.lesser-2.result
    c.first-key.ensures.first (c.first_if_ready-plain.ensures.ready told pulled knows)
    (c.lesser-2.ensures ∙ (λ i. lesser (c.lesser.ensures i) (c.first_ready-layered.ensures.ready told pulled knows i)))
    ∙ ap (next_of told pulled c.args.passed) c.self.view_is

pub returns-clause-stands : goal.returns-clause-stands
returns-clause-stands c =
    let runs = runs_of c.self.inside.keys c.self.inside.plain c.self.inside.layered in
    let P : Run → Type 0 = λ run. Contains runs run in
    let key : IfSome c.first-key.result P = subst (λ o. IfSome o P) (sym c.first-key.ensures.first)
    (among-first P c.self.inside.keys (among-part is_key runs c.self.inside.keys c.self.invariant.keys_are)) in
    let bare : IfSome c.first_if_ready-plain.result P = c.first_if_ready-plain.ensures.stands runs
    (among-part is_plain runs c.self.inside.plain c.self.invariant.plain_are) in
    let best : IfSome c.lesser.result P = subst (λ o. IfSome o P) (sym c.lesser.ensures)
    (among-lesser P c.first-key.result c.first_if_ready-plain.result key bare) in
    let layered : IfSome c.first_ready-layered.result P = among-queue is_layered runs c.self.inside.layered
    c.self.invariant.layered_are c.first_ready-layered.result c.first_ready-layered.ensures.among in
    let next : IfSome c.lesser-2.result P = subst (λ o. IfSome o P) (sym c.lesser-2.ensures)
    (among-lesser P c.lesser.result c.first_ready-layered.result best layered) in
    subst (λ rs. IfSome c.lesser-2.result (λ run. Contains rs run)) c.self.view_is next

pub returns-clause-sound : goal.returns-clause-sound
returns-clause-sound c = subst AreStanding c.self.view_is
    (kept-standing (runs_of c.self.inside.keys c.self.inside.plain c.self.inside.layered)
    c.self.inside.keys c.self.inside.plain c.self.inside.layered c.self.invariant)
