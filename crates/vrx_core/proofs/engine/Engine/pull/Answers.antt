use Rattle.std.proofs.Common.{◌≡◌, ◌+◌, max, Some, None, sym, subst, ap, ◌∙◌}
use Rattle.std.specs.Prelude.{◌↔◌, List, ◌∷◌, map, IsOk}
use Rattle.std.proofs.lemmas.Bool.{false≢true}
use Rattle.vrx_frames.specs.Run.{Run as RunOf, summary_of}
use Rattle.vrx_core.specs.machine.Told.{sightings}
use Rattle.vrx_core.specs.machine.Answers.{IsLeastDeliverable, NoneDeliverable}
use Rattle.vrx_core.specs.machine.Machine.{IfFrame, ToPull, frame_of as frame_of_run, latest, reply, snapshots}
use Rattle.vrx_core.specs.relation.StandsFor.{EngineParts, StandsFor, Wanted, parts_of}
use Rattle.vrx_core.specs.inside.Fields.{IsHandedOut}
use Rattle.vrx_core.specs.inside.Wants.{AreFresh, beyond_front, pulled_with, wanted_pulled}
use Rattle.vrx_window.specs.Window.{Contents}
use Rattle.vrx_window.specs.declared.held.Held.{Held}
use Rattle.vrx_core.specs.declared.event.Event.{Event}
use Rattle.vrx_core.specs.declared.event.Event.TheVariants.{Pull}
use Rattle.vrx_core.specs.declared.reply.Pulled.TheVariants as pulls
use Rattle.vrx_core.proofs.step.EventLemmas.{pull-reply, pull-none, pull-counts, pull-settings, pull-exactly, pull-frame, pull-window}
use Rattle.vrx_core.proofs.step.FreshLemmas.{fresh-pulled}
use Rattle.vrx_core.proofs.step.WantedLemmas.{pull-stands-for}
use Rattle.vrx_core.proofs.engine.Engine.pull.Goals as goal

pub returns-in_err-frame-clause-not_ready : goal.returns-in_err-frame-clause-not_ready
returns-in_err-frame-clause-not_ready g c =
    let i = c.self.inside in
    subst (λ (p : EngineParts). (h : List Event) → StandsFor g.C.Codec.meaning p h →
    reply p.settings g.C.Codec.meaning h (Pull c.args.moment) ≡ ToPull pulls.NotReady →
    IsOk c.from_residual.result) c.self.view_is
    (λ h stands answered. absurd
    (false≢true (c.in_err-frame.ensures.none (sightings (latest (snapshots i.assembler.settings g.C.Codec.meaning h)).told)
    (map summary_of (latest (snapshots i.assembler.settings g.C.Codec.meaning h)).pulled) stands.assembled.stands.finder
    (pull-none c.runs_are.ensures c.runs_rise.ensures c.runs_apart.ensures g.C.Codec.meaning i.assembler c.args.moment
    h c.hand_out.ensures.before stands.assembled answered))))

pub invariant_of-self-in-Some : goal.invariant_of-self-in-Some
invariant_of-self-in-Some g c = record {
  whole = c.in_ok-frame.ensures.after;
  fresh = subst (λ (w : Wanted). AreFresh c.hand_out.new.self.window w.asks)
      (sym (c.pulled.ensures.wanted))
      (subst (λ (w : Contents Held). AreFresh w (beyond_front c.front-front.result c.self.inside.requests.asks))
      (sym (pull-window g.C.Codec.meaning c.self.inside.assembler c.hand_out.new.self c.args.moment
      c.in_ok-frame.field-0 c.in_ok-frame.ensures.handed))
      (fresh-pulled c.self.inside.assembler.window c.front-front.result c.self.inside.requests.asks
      c.self.invariant.fresh));
}

pub returns-in-Some-clause-stands : goal.returns-in-Some-clause-stands
returns-in-Some-clause-stands g c =
    let i = c.self.inside in
    let handed = c.in_ok-frame.ensures.handed in
    subst (λ (p : EngineParts). (h : List Event) → StandsFor g.C.Codec.meaning p h →
    StandsFor g.C.Codec.meaning (parts_of c.hand_out.new.self c.pulled.new.self) (Pull c.args.moment ∷ h))
    c.self.view_is
    (λ h stands. subst (λ (w : Wanted).
    StandsFor g.C.Codec.meaning (parts_of c.hand_out.new.self w) (Pull c.args.moment ∷ h))
    (ap (λ f. pulled_with c.hand_out.new.self.front f i.requests) c.in-Some.is
    ∙ sym (c.pulled.ensures.wanted
    ∙ ap (λ f. wanted_pulled f c.in-Some.frame.key c.in-Some.frame.first i.requests) c.front-front.ensures.value))
    (pull-stands-for c.runs_are.ensures c.runs_rise.ensures c.runs_apart.ensures g.C.Codec.meaning i.assembler
    c.hand_out.new.self i.requests c.args.moment c.in_ok-frame.field-0 h handed c.in_ok-frame.ensures.before
    c.in_ok-frame.ensures.after stands))

pub returns-in-None-clause-stands : goal.returns-in-None-clause-stands
returns-in-None-clause-stands g c =
    let i = c.self.inside in
    subst (λ (p : EngineParts). (h : List Event) → StandsFor g.C.Codec.meaning p h →
    StandsFor g.C.Codec.meaning (parts_of c.hand_out.new.self i.requests) (Pull c.args.moment ∷ h)) c.self.view_is
    (λ h stands. subst (λ (w : Wanted).
    StandsFor g.C.Codec.meaning (parts_of c.hand_out.new.self w) (Pull c.args.moment ∷ h))
    (ap (λ f. pulled_with c.hand_out.new.self.front f i.requests) c.in-None.is)
    (pull-stands-for c.runs_are.ensures c.runs_rise.ensures c.runs_apart.ensures g.C.Codec.meaning i.assembler
    c.hand_out.new.self i.requests c.args.moment c.in_ok-frame.field-0 h c.in_ok-frame.ensures.handed
    c.in_ok-frame.ensures.before c.in_ok-frame.ensures.after stands))

pub returns-in-Some-clause-reply : goal.returns-in-Some-clause-reply
returns-in-Some-clause-reply g c =
    let i = c.self.inside in
    subst (λ (p : EngineParts). (h : List Event) → StandsFor g.C.Codec.meaning p h →
    ToPull (pulls.Frame c.in-Some.frame) ≡ reply p.settings g.C.Codec.meaning h (Pull c.args.moment)) c.self.view_is
    (λ h stands. pull-reply c.runs_are.ensures c.runs_rise.ensures c.runs_apart.ensures g.C.Codec.meaning i.assembler
    c.hand_out.new.self c.args.moment (Some c.in-Some.frame) h
    (subst (λ frame. IsHandedOut g.C.Codec.meaning i.assembler c.hand_out.new.self c.args.moment frame) c.in-Some.is
    c.in_ok-frame.ensures.handed) c.in_ok-frame.ensures.before c.in_ok-frame.ensures.after stands.assembled)

pub returns-in-None-clause-reply : goal.returns-in-None-clause-reply
returns-in-None-clause-reply g c =
    let i = c.self.inside in
    subst (λ (p : EngineParts). (h : List Event) → StandsFor g.C.Codec.meaning p h →
    ToPull pulls.NotReady ≡ reply p.settings g.C.Codec.meaning h (Pull c.args.moment)) c.self.view_is
    (λ h stands. pull-reply c.runs_are.ensures c.runs_rise.ensures c.runs_apart.ensures g.C.Codec.meaning i.assembler
    c.hand_out.new.self c.args.moment None h
    (subst (λ frame. IsHandedOut g.C.Codec.meaning i.assembler c.hand_out.new.self c.args.moment frame) c.in-None.is
    c.in_ok-frame.ensures.handed) c.in_ok-frame.ensures.before c.in_ok-frame.ensures.after stands.assembled)

pub returns-in-Some-clause-not_ready_exactly : goal.returns-in-Some-clause-not_ready_exactly
returns-in-Some-clause-not_ready_exactly g c =
    let i = c.self.inside in
    subst (λ (p : EngineParts). (h : List Event) → StandsFor g.C.Codec.meaning p h →
    let s = latest (snapshots p.settings g.C.Codec.meaning h) in
    (pulls.Frame c.in-Some.frame ≡ pulls.NotReady) ↔ NoneDeliverable s.told s.pulled s.front s.standing)
    c.self.view_is
    (λ h stands. pull-exactly c.runs_are.ensures c.runs_rise.ensures c.runs_apart.ensures
    c.answers_are.ensures.answers g.C.Codec.meaning i.assembler c.hand_out.new.self c.args.moment
    (Some c.in-Some.frame) h
    (subst (λ frame. IsHandedOut g.C.Codec.meaning i.assembler c.hand_out.new.self c.args.moment frame) c.in-Some.is
    c.in_ok-frame.ensures.handed) c.in_ok-frame.ensures.before c.in_ok-frame.ensures.after stands.assembled)

pub returns-in-None-clause-not_ready_exactly : goal.returns-in-None-clause-not_ready_exactly
returns-in-None-clause-not_ready_exactly g c =
    let i = c.self.inside in
    subst (λ (p : EngineParts). (h : List Event) → StandsFor g.C.Codec.meaning p h →
    let s = latest (snapshots p.settings g.C.Codec.meaning h) in
    (pulls.NotReady ≡ pulls.NotReady) ↔ NoneDeliverable s.told s.pulled s.front s.standing) c.self.view_is
    (λ h stands. pull-exactly c.runs_are.ensures c.runs_rise.ensures c.runs_apart.ensures
    c.answers_are.ensures.answers g.C.Codec.meaning i.assembler c.hand_out.new.self c.args.moment None h
    (subst (λ frame. IsHandedOut g.C.Codec.meaning i.assembler c.hand_out.new.self c.args.moment frame) c.in-None.is
    c.in_ok-frame.ensures.handed) c.in_ok-frame.ensures.before c.in_ok-frame.ensures.after stands.assembled)

pub returns-in-Some-clause-frame : goal.returns-in-Some-clause-frame
returns-in-Some-clause-frame g c =
    let i = c.self.inside in
    subst (λ (p : EngineParts). (h : List Event) → StandsFor g.C.Codec.meaning p h →
    let s = latest (snapshots p.settings g.C.Codec.meaning h) in
    IfFrame (pulls.Frame c.in-Some.frame)
    (λ frame. (run : RunOf) × IsLeastDeliverable s.told s.pulled s.front s.standing run
    × (frame ≡ frame_of_run run))) c.self.view_is
    (λ h stands. pull-frame c.runs_are.ensures c.runs_rise.ensures c.runs_apart.ensures c.answers_are.ensures.answers
    g.C.Codec.meaning i.assembler c.hand_out.new.self c.args.moment (Some c.in-Some.frame) h
    (subst (λ frame. IsHandedOut g.C.Codec.meaning i.assembler c.hand_out.new.self c.args.moment frame) c.in-Some.is
    c.in_ok-frame.ensures.handed) c.in_ok-frame.ensures.before c.in_ok-frame.ensures.after stands.assembled)

pub returns-in-Some-clause-counts : goal.returns-in-Some-clause-counts
returns-in-Some-clause-counts g c =
    subst (λ (p : EngineParts). (c.hand_out.new.self.events ≡ p.events + 1)
    × (c.hand_out.new.self.clock ≡ max p.clock c.args.moment)) c.self.view_is
    (pull-counts g.C.Codec.meaning c.self.inside.assembler c.hand_out.new.self c.args.moment c.in_ok-frame.field-0
    c.in_ok-frame.ensures.handed)

pub returns-in-Some-clause-settings : goal.returns-in-Some-clause-settings
returns-in-Some-clause-settings g c =
    subst (λ (p : EngineParts). c.hand_out.new.self.settings ≡ p.settings) c.self.view_is
    (pull-settings g.C.Codec.meaning c.self.inside.assembler c.hand_out.new.self c.args.moment c.in_ok-frame.field-0
    c.in_ok-frame.ensures.handed)
