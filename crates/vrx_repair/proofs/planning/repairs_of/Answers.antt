use Rattle.std.proofs.Common.{◌≡◌, ◌+◌, ◌-◌, ℕ, List, Option, Some, None, IfSome, refl, sym, ◌∙◌, ap, subst, arith}
use Rattle.std.specs.Option.{option_map}
use Rattle.vrx_num.specs.declared.limits.TheConstants.{WINDOW}
use Rattle.vrx_window.specs.Content.{Content}
use Rattle.vrx_repair.specs.Plan.{SaysItsText, entry_of, packets_seen, placed}
use Rattle.vrx_repair.specs.Source.{Source, source_of}
use Rattle.vrx_repair.specs.Step.{first_step}
use Rattle.vrx_repair.specs.declared.repair.Repair.{Repair}
use Rattle.vrx_repair.proofs.PlanLemmas.{IsPlanning, planning-begins, planning-ends, planning-full, planning-goes-on}
use Rattle.vrx_repair.proofs.planning.repairs_of.Goals as goal

pub loop-init : goal.loop-init
loop-init g c =
    let source : Source = source_of g.C.Codec.meaning c.args.reading.now.media_ssrc c.args.reading.now.media_type in
    subst (λ (m : List Repair). IsPlanning source c.args.n c.args.held.now c.args.window.now m 2048)
    (sym c.new-made.ensures.items)
    (planning-begins source c.args.n c.args.held.now c.args.window.now 2048 refl c.requires.fresh c.requires.sound
    c.requires.says c.newest-newest.ensures.sound)

pub returns-in-None-clause-entries : goal.returns-in-None-clause-entries
returns-in-None-clause-entries g c =
    let source : Source = source_of g.C.Codec.meaning c.args.reading.now.media_ssrc c.args.reading.now.media_type in
    let planned = placed c.args.n c.args.held.now c.args.window.now in
    let first : List Repair → Option (ℕ × Content) =
    λ (m : List Repair). first_step source planned.newest planned.dead (packets_seen c.args.n c.args.held.now c.args.window.now m) in
    let none : first c.loop.made.items ≡ None =
    ap first (sym c.as_slice.ensures.value) ∙ sym c.in_ok-first_step.ensures.entry ∙ ap (option_map entry_of) c.in-None.is in
    planning-ends source c.args.n c.args.held.now c.args.window.now c.loop.made.items (WINDOW - c.loop.counter) none
    c.loop.invariant

pub loop-preserved : goal.loop-preserved
loop-preserved g c =
    let source : Source = source_of g.C.Codec.meaning c.args.reading.now.media_ssrc c.args.reading.now.media_type in
    let planned = placed c.args.n c.args.held.now c.args.window.now in
    let first : List Repair → Option (ℕ × Content) =
    λ (m : List Repair). first_step source planned.newest planned.dead (packets_seen c.args.n c.args.held.now c.args.window.now m) in
    let some : first c.loop.made.items ≡ Some (entry_of c.in-Some.repair) =
    ap first (sym c.as_slice.ensures.value) ∙ sym c.in_ok-first_step.ensures.entry ∙ ap (option_map entry_of) c.in-Some.is in
    let says : SaysItsText source.codec c.in-Some.repair =
    subst (λ (o : Option Repair). IfSome o (SaysItsText source.codec)) c.in-Some.is c.in_ok-first_step.ensures.sound in
    let fewer : WINDOW - c.loop.counter ≡ WINDOW - (c.loop.counter + 1) + 1 = omega arith in
    subst (λ (m : List Repair). IsPlanning source c.args.n c.args.held.now c.args.window.now m (WINDOW - (c.loop.counter + 1)))
    (sym c.in_ok-push-in-Some.ensures.items)
    (planning-goes-on source c.args.n c.args.held.now c.args.window.now c.loop.made.items (WINDOW - c.loop.counter)
    (WINDOW - (c.loop.counter + 1)) c.in-Some.repair fewer some says c.loop.invariant)

pub returns-clause-entries : goal.returns-clause-entries
returns-clause-entries g c =
    let source : Source = source_of g.C.Codec.meaning c.args.reading.now.media_ssrc c.args.reading.now.media_type in
    let none : WINDOW - c.loop.counter ≡ 0 = omega arith in
    planning-full source c.args.n c.args.held.now c.args.window.now c.loop.made.items (WINDOW - c.loop.counter) none
    c.loop.invariant
