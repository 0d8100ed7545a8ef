use Rattle.std.proofs.Common.{sym, subst, ap, ◌∙◌}
use Rattle.std.specs.List.Sorted.{IsStrictlySortedBy}
use Rattle.std.specs.Ordering.{nat_cmp}
use Rattle.vrx_codec.specs.declared.run.Run.{Run as RunSummary}
use Rattle.vrx_window.specs.Content.{contents}
use Rattle.vrx_window.specs.Sound.{place_at}
use Rattle.vrx_frames.specs.Completed.{Completes, standing_runs}
use Rattle.vrx_core.specs.inside.Step.{with_runs}
use Rattle.vrx_core.proofs.relation.CallLemmas.{answers-can, answers-stand}
use Rattle.vrx_core.proofs.assembler.complete.Goals as goal

pub add_all-requires : goal.add_all-requires
add_all-requires g c =
    answers-can c.runs_are.ensures c.runs_rise.ensures g.C.Codec.meaning c.args.window.now c.args.front c.args.runs.now
    c.completed-completed.new.self c.args.frames.now c.as_slice.result.now c.requires.can.sound
    c.newest.ensures.sound.packets_rise c.newest.ensures.sound.packets_inside c.requires.stood
    (subst (λ runs. Completes
    (standing_runs g.C.Codec.meaning (place_at c.args.window.now.packets) c.args.front c.args.runs.now
    (contents c.args.window.now.packets))
    (standing_runs g.C.Codec.meaning (place_at c.args.window.now.packets) c.args.front c.completed-completed.new.self
    (contents c.args.window.now.packets)) runs) (sym c.as_slice.ensures.value)
    c.completed-completed.ensures.completes)
    (subst (λ runs. IsStrictlySortedBy (λ (a b : RunSummary). nat_cmp a.first b.first) runs)
    (sym c.as_slice.ensures.value) c.completed-completed.ensures.rise)

pub returns-clause-stand : goal.returns-clause-stand
returns-clause-stand g c =
    c.add_all.ensures.runs ∙ ap (λ runs. with_runs runs c.args.frames.now) c.as_slice.ensures.value
    ∙ answers-stand c.runs_are.ensures c.runs_rise.ensures g.C.Codec.meaning c.args.window.now c.args.front
    c.args.runs.now c.completed-completed.new.self c.args.frames.now c.completed-completed.result.items
    c.newest.ensures.sound.packets_rise c.requires.stood c.completed-completed.ensures.completes
    c.completed-completed.ensures.rise
