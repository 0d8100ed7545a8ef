use Rattle.std.proofs.Common.{◌≡◌, ◌<◌, ◌||◌, sym, subst, ap, ◌∙◌}
use Rattle.vrx_num.specs.declared.limits.TheConstants.{MOST_EVENTS}
use Rattle.vrx_window.specs.Content.{contents}
use Rattle.vrx_frames.specs.Completed.{Known}
use Rattle.vrx_repair.specs.Plan.{IsPlan}
use Rattle.vrx_core.specs.machine.Machine.{source_in}
use Rattle.vrx_buffer.specs.Frames.{runs_from}
use Rattle.vrx_repair.specs.Commit.{pictures_after, window_after}
use Rattle.vrx_refs.specs.Knows.{Knows}
use Rattle.vrx_window.specs.Sound.{place_at}
use Rattle.vrx_window.specs.Window.{after_placing}
use Rattle.vrx_core.specs.inside.Places.{with_sighting, with_sightings}
use Rattle.vrx_core.specs.relation.StandsFor.{Assembly}
use Rattle.vrx_core.specs.inside.Fields.{MayBeTaken, assembly_of}
use Rattle.vrx_core.specs.inside.Step.{IsTakenAs, known_all, lowest_of}
use Rattle.vrx_core.proofs.relation.CallLemmas.{completes-with}
use Rattle.vrx_core.proofs.step.TakeLemmas.{can-first, can-rest, fields-taken, stood-first, taken-with}
use Rattle.vrx_core.proofs.assembler.Assembler.take.Goals as goal

pub complete-key-requires-clause-can : goal.complete-key-requires-clause-can
complete-key-requires-clause-can g c = let i = c.self.inside in
    can-first c.runs_are.ensures c.runs_rise.ensures g.C.Codec.meaning i.settings i.count i.window c.commit-repaired.new.window i.pictures
    c.commit-repaired.new.pictures i.runs i.finder i.frames i.last_pulled i.front i.extender c.args.n c.args.held c.args.plan
    c.self.invariant
    (subst (λ (p : Assembly). MayBeTaken g.C.Codec.meaning p.window p.pictures c.args.n c.args.held)
    (sym c.self.view_is) c.requires.may)
    (subst (λ (p : Assembly). IsPlan (source_in p.settings g.C.Codec.meaning) c.args.n c.args.held p.window c.args.plan)
    (sym c.self.view_is) c.requires.planned)
    (c.commit-repaired.ensures.window
    ∙ ap (λ p. window_after c.args.plan p (after_placing c.args.n c.args.held i.window)) c.accept_picture.ensures)
    (c.commit-repaired.ensures.pictures ∙ ap (pictures_after c.args.plan) c.accept_picture.ensures)
    (c.commit-repaired.ensures.sound (source_in i.settings g.C.Codec.meaning)
    (subst (λ (p : Assembly). IsPlan (source_in p.settings g.C.Codec.meaning) c.args.n c.args.held p.window c.args.plan)
    (sym c.self.view_is) c.requires.planned) c.self.invariant.whole.kept.sound c.requires.may.sound)
    c.newest.ensures.sound

pub complete-key-requires-clause-stood : goal.complete-key-requires-clause-stood
complete-key-requires-clause-stood g c = let i = c.self.inside in
    stood-first c.runs_are.ensures c.runs_rise.ensures g.C.Codec.meaning i.settings i.count i.window c.commit-repaired.new.window i.pictures
    c.commit-repaired.new.pictures i.runs i.finder i.frames i.last_pulled i.front i.extender c.args.n c.args.held c.args.plan
    c.self.invariant
    (subst (λ (p : Assembly). MayBeTaken g.C.Codec.meaning p.window p.pictures c.args.n c.args.held)
    (sym c.self.view_is) c.requires.may)
    (subst (λ (p : Assembly). IsPlan (source_in p.settings g.C.Codec.meaning) c.args.n c.args.held p.window c.args.plan)
    (sym c.self.view_is) c.requires.planned)
    (c.commit-repaired.ensures.window
    ∙ ap (λ p. window_after c.args.plan p (after_placing c.args.n c.args.held i.window)) c.accept_picture.ensures)
    (c.commit-repaired.ensures.pictures ∙ ap (pictures_after c.args.plan) c.accept_picture.ensures)
    (c.commit-repaired.ensures.sound (source_in i.settings g.C.Codec.meaning)
    (subst (λ (p : Assembly). IsPlan (source_in p.settings g.C.Codec.meaning) c.args.n c.args.held p.window c.args.plan)
    (sym c.self.view_is) c.requires.planned) c.self.invariant.whole.kept.sound c.requires.may.sound)
    c.newest.ensures.sound
    c.drop_below.new.self
    (c.drop_below.ensures.runs
    ∙ ap (λ n. runs_from n i.frames) (c.lowest_of.ensures ∙ ap lowest_of c.newest.ensures.newest))

pub complete_all-more-requires-clause-can : goal.complete_all-more-requires-clause-can
complete_all-more-requires-clause-can g c = let i = c.self.inside in
    can-rest c.runs_are.ensures c.runs_rise.ensures g.C.Codec.meaning i.settings i.count i.window c.commit-repaired.new.window i.pictures
    c.commit-repaired.new.pictures i.runs i.finder i.frames i.last_pulled i.front i.extender c.args.n c.args.held c.args.plan
    c.self.invariant
    (subst (λ (p : Assembly). MayBeTaken g.C.Codec.meaning p.window p.pictures c.args.n c.args.held)
    (sym c.self.view_is) c.requires.may)
    (subst (λ (p : Assembly). IsPlan (source_in p.settings g.C.Codec.meaning) c.args.n c.args.held p.window c.args.plan)
    (sym c.self.view_is) c.requires.planned)
    (c.commit-repaired.ensures.window
    ∙ ap (λ p. window_after c.args.plan p (after_placing c.args.n c.args.held i.window)) c.accept_picture.ensures)
    (c.commit-repaired.ensures.pictures ∙ ap (pictures_after c.args.plan) c.accept_picture.ensures)
    (c.commit-repaired.ensures.sound (source_in i.settings g.C.Codec.meaning)
    (subst (λ (p : Assembly). IsPlan (source_in p.settings g.C.Codec.meaning) c.args.n c.args.held p.window c.args.plan)
    (sym c.self.view_is) c.requires.planned) c.self.invariant.whole.kept.sound c.requires.may.sound)
    c.newest.ensures.sound
    c.as_slice-2.result.now c.complete-key.new.runs (c.as_slice-2.ensures ∙ c.commit-repaired.ensures.numbers)
    c.complete-key.ensures.known

pub invariant_of-self : goal.invariant_of-self
invariant_of-self g c = let i = c.self.inside in
    fields-taken c.runs_are.ensures c.runs_rise.ensures g.C.Codec.meaning i.settings i.count i.window c.commit-repaired.new.window i.pictures
    c.commit-repaired.new.pictures i.runs i.finder i.frames i.last_pulled i.front i.extender c.args.n c.args.held c.args.plan
    c.self.invariant
    (subst (λ (p : Assembly). MayBeTaken g.C.Codec.meaning p.window p.pictures c.args.n c.args.held)
    (sym c.self.view_is) c.requires.may)
    (subst (λ (p : Assembly). IsPlan (source_in p.settings g.C.Codec.meaning) c.args.n c.args.held p.window c.args.plan)
    (sym c.self.view_is) c.requires.planned)
    (c.commit-repaired.ensures.window
    ∙ ap (λ p. window_after c.args.plan p (after_placing c.args.n c.args.held i.window)) c.accept_picture.ensures)
    (c.commit-repaired.ensures.pictures ∙ ap (pictures_after c.args.plan) c.accept_picture.ensures)
    (c.commit-repaired.ensures.sound (source_in i.settings g.C.Codec.meaning)
    (subst (λ (p : Assembly). IsPlan (source_in p.settings g.C.Codec.meaning) c.args.n c.args.held p.window c.args.plan)
    (sym c.self.view_is) c.requires.planned) c.self.invariant.whole.kept.sound c.requires.may.sound)
    c.newest.ensures.sound
    c.drop_below.new.self
    (c.drop_below.ensures.runs
    ∙ ap (λ n. runs_from n i.frames) (c.lowest_of.ensures ∙ ap lowest_of c.newest.ensures.newest))
    c.count.new.self c.complete_all-more.new.runs c.see_all.new.finder c.complete_all-more.new.frames
    c.front_after-self-inside.result c.as_slice-2.result.now (c.complete-key.result || c.complete_all-more.result)
    (c.as_slice-2.ensures ∙ c.commit-repaired.ensures.numbers) c.commit-repaired.ensures.repaired
    (c.complete_all-more.ensures.known
    ∙ ap (λ (k : Known). known_all g.C.Codec.meaning c.commit-repaired.new.window.newest i.front
    (contents c.commit-repaired.new.window.packets) c.as_slice-2.result.now k) c.complete-key.ensures.known)
    (λ told pulled knows. subst (λ ns. Knows c.see_all.new.finder
    (with_sightings c.commit-repaired.new.window.packets ns
    (with_sighting (place_at c.commit-repaired.new.window.packets c.args.n) told)) pulled)
    (c.as_slice.ensures ∙ sym c.as_slice-2.ensures)
    (c.see_all.ensures (with_sighting (place_at c.commit-repaired.new.window.packets c.args.n) told) pulled
    (c.see.ensures told pulled knows)))
    c.complete_all-more.ensures.stand
    (completes-with g.C.Codec.meaning c.commit-repaired.new.window i.front i.runs c.complete-key.new.runs
    c.complete_all-more.new.runs c.complete-key.result c.complete_all-more.result c.complete-key.ensures.key
    c.complete_all-more.ensures.key) c.front_after-self-inside.ensures
    c.accept.new.self (subst (λ (p : Assembly). p.events < MOST_EVENTS) (sym c.self.view_is) c.requires.room)
    c.count.ensures.events c.accept.ensures

pub returns-clause-after : goal.returns-clause-after
returns-clause-after g c = (invariant_of-self g c).whole

pub returns-clause-taken : goal.returns-clause-taken
returns-clause-taken g c =
    let i = c.self.inside in
    subst (λ (p : Assembly).
    (taken : IsTakenAs g.C.Codec.meaning p
    (assembly_of i.settings c.count.new.self c.commit-repaired.new.window c.commit-repaired.new.pictures
    c.complete_all-more.new.runs c.see_all.new.finder c.complete_all-more.new.frames i.last_pulled c.front_after-self-inside.result)
    c.args.n c.args.held c.args.plan)
    × ((c.complete-key.result || c.complete_all-more.result) ≡ taken.key)) c.self.view_is
    (taken-with c.runs_are.ensures c.runs_rise.ensures g.C.Codec.meaning i.settings i.count i.window c.commit-repaired.new.window i.pictures
    c.commit-repaired.new.pictures i.runs i.finder i.frames i.last_pulled i.front i.extender c.args.n c.args.held c.args.plan
    c.self.invariant
    (subst (λ (p : Assembly). MayBeTaken g.C.Codec.meaning p.window p.pictures c.args.n c.args.held)
    (sym c.self.view_is) c.requires.may)
    (subst (λ (p : Assembly). IsPlan (source_in p.settings g.C.Codec.meaning) c.args.n c.args.held p.window c.args.plan)
    (sym c.self.view_is) c.requires.planned)
    (c.commit-repaired.ensures.window
    ∙ ap (λ p. window_after c.args.plan p (after_placing c.args.n c.args.held i.window)) c.accept_picture.ensures)
    (c.commit-repaired.ensures.pictures ∙ ap (pictures_after c.args.plan) c.accept_picture.ensures)
    (c.commit-repaired.ensures.sound (source_in i.settings g.C.Codec.meaning)
    (subst (λ (p : Assembly). IsPlan (source_in p.settings g.C.Codec.meaning) c.args.n c.args.held p.window c.args.plan)
    (sym c.self.view_is) c.requires.planned) c.self.invariant.whole.kept.sound c.requires.may.sound)
    c.newest.ensures.sound
    c.drop_below.new.self
    (c.drop_below.ensures.runs
    ∙ ap (λ n. runs_from n i.frames) (c.lowest_of.ensures ∙ ap lowest_of c.newest.ensures.newest))
    c.count.new.self c.complete_all-more.new.runs c.see_all.new.finder c.complete_all-more.new.frames
    c.front_after-self-inside.result c.as_slice-2.result.now (c.complete-key.result || c.complete_all-more.result)
    (c.as_slice-2.ensures ∙ c.commit-repaired.ensures.numbers) c.commit-repaired.ensures.repaired
    (c.complete_all-more.ensures.known
    ∙ ap (λ (k : Known). known_all g.C.Codec.meaning c.commit-repaired.new.window.newest i.front
    (contents c.commit-repaired.new.window.packets) c.as_slice-2.result.now k) c.complete-key.ensures.known)
    (λ told pulled knows. subst (λ ns. Knows c.see_all.new.finder
    (with_sightings c.commit-repaired.new.window.packets ns
    (with_sighting (place_at c.commit-repaired.new.window.packets c.args.n) told)) pulled)
    (c.as_slice.ensures ∙ sym c.as_slice-2.ensures)
    (c.see_all.ensures (with_sighting (place_at c.commit-repaired.new.window.packets c.args.n) told) pulled
    (c.see.ensures told pulled knows)))
    c.complete_all-more.ensures.stand
    (completes-with g.C.Codec.meaning c.commit-repaired.new.window i.front i.runs c.complete-key.new.runs
    c.complete_all-more.new.runs c.complete-key.result c.complete_all-more.result c.complete-key.ensures.key
    c.complete_all-more.ensures.key) c.front_after-self-inside.ensures)
