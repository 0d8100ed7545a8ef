use Rattle.std.proofs.Common.{◌≡◌, ◌↔◌, ◌+◌, ◌<◌, max, true, List, ◌∷◌, refl, sym, subst, ap, ◌∙◌}
use Rattle.std.specs.Prelude.{IsErr}
use Rattle.std.proofs.Math.Facts.{Fits-lt-pow}
use Rattle.std.proofs.lemmas.List.Elements.{All-from_get_or}
use Rattle.vrx_window.specs.Content.{contents_of}
use Rattle.vrx_core.specs.machine.Machine.{ToDatagram, nack_for, pli_for, reply}
use Rattle.vrx_core.specs.machine.Reasons.{MeansAnswer}
use Rattle.vrx_core.specs.machine.Verdict.{verdict}
use Rattle.vrx_asks.specs.declared.due.Due.{Due}
use Rattle.vrx_buffer.specs.Order.{greatest_of}
use Rattle.vrx_core.specs.relation.StandsFor.{Assembly, EngineParts, StandsFor, Wanted, parts_of}
use Rattle.vrx_buffer.specs.Frames.{key_numbers}
use Rattle.vrx_core.specs.inside.Wants.{AreFresh, AreNear, asked_with, key_with, wanted_with}
use Rattle.vrx_core.specs.declared.event.Event.{Event}
use Rattle.vrx_core.specs.declared.event.Event.TheVariants.{Datagram}
use Rattle.vrx_core.specs.declared.reply.What.{What}
use Rattle.vrx_core.proofs.machine.ReasonLemmas.{answers_mean}
use Rattle.vrx_core.proofs.step.ArrivalLemmas.{arrival-below, arrival-fresh, arrival-short}
use Rattle.vrx_core.proofs.step.EventLemmas.{datagram-refused, datagram-settings, datagram-counts, newest-beyond}
use Rattle.vrx_core.proofs.step.WantedLemmas.{datagram-reply, datagram-stands-for}
use Rattle.vrx_core.proofs.engine.Engine.datagram_into.Given as given
use Rattle.vrx_core.proofs.engine.Engine.datagram_into.Goals as goal

pub ask-key-requires-clause-below : goal.ask-key-requires-clause-below
ask-key-requires-clause-below g c = let i = c.self.inside in
    arrival-below g.C.Codec.meaning i.assembler c.handle.new.self i.requests c.args.moment c.args.bytes.now
    c.in_ok-outcome.outcome c.in_ok-outcome.ensures.handled c.in_ok-outcome.ensures.before c.self.invariant.fresh

pub ask-key-requires-clause-short : goal.ask-key-requires-clause-short
ask-key-requires-clause-short g c = let i = c.self.inside in
    arrival-short g.C.Codec.meaning i.assembler c.handle.new.self i.requests c.args.moment c.args.bytes.now
    c.in_ok-outcome.outcome c.in_ok-outcome.ensures.handled c.in_ok-outcome.ensures.before c.self.invariant.fresh

pub ask_for-requires : goal.ask_for-requires
ask_for-requires g c = record {
  near = subst AreNear (sym (c.as_slice-numbers.ensures.value ∙ ap (λ (due : Due). due.ask.items) c.deref.ensures
      ∙ c.ask-key.ensures.numbers)) c.ask-key.ensures.near;
}

pub invariant_of-self-2 : goal.invariant_of-self-2
invariant_of-self-2 g c =
    let i = c.self.inside in
    record {
      whole = c.in_ok-outcome.ensures.after;
      fresh = subst (λ (w : Wanted). AreFresh c.handle.new.self.window w.asks) (sym c.ask-key.ensures.wanted)
          (arrival-fresh g.C.Codec.meaning i.assembler c.handle.new.self i.requests c.args.moment c.args.bytes.now
          c.in_ok-outcome.outcome c.in_ok-outcome.ensures.handled c.in_ok-outcome.ensures.before
          c.self.invariant.fresh
          c.handle.new.self.clock c.handle.new.self.front (greatest_of (key_numbers c.handle.new.self.frames)));
    }

pub returns-clause-stands : goal.returns-clause-stands
returns-clause-stands g c =
    let i = c.self.inside in
    subst (λ (p : EngineParts). (h : List Event) → StandsFor g.C.Codec.meaning p h →
    StandsFor g.C.Codec.meaning (parts_of c.handle.new.self c.ask-key.new.requests)
    (Datagram c.args.moment c.args.bytes.now ∷ h)) c.self.view_is
    (λ h stands. subst (λ (w : Wanted).
    StandsFor g.C.Codec.meaning (parts_of c.handle.new.self w) (Datagram c.args.moment c.args.bytes.now ∷ h))
    (sym c.ask-key.ensures.wanted)
    (datagram-stands-for c.runs_are.ensures c.runs_rise.ensures g.C.Codec.meaning i.assembler c.handle.new.self
    i.requests c.args.moment c.args.bytes.now c.in_ok-outcome.outcome h c.in_ok-outcome.ensures.handled
    c.in_ok-outcome.ensures.before c.in_ok-outcome.ensures.after c.ask-key.ensures.sound stands))

-- the feedback asks for what the numbers and the key say
numbers-are : (g : given.Over) (c : goal.After-ask_for g) →
    c.as_slice-numbers.result.now ≡ asked_with c.in_ok-outcome.outcome.arrival
numbers-are g c = c.as_slice-numbers.ensures.value ∙ ap (λ (due : Due). due.ask.items) c.deref.ensures
    ∙ c.ask-key.ensures.numbers

nack-is : (g : given.Over) (c : goal.After-ask_for g) →
    c.ask_for.new.feedback.nack ≡ nack_for c.handle.new.self.settings (asked_with c.in_ok-outcome.outcome.arrival)
nack-is g c = c.ask_for.ensures.nack
    ∙ (λ j. nack_for (c.settings-settings.ensures.value j) (numbers-are g c j))

pli-is : (g : given.Over) (c : goal.After-ask_for g) →
    c.ask_for.new.feedback.pli ≡ pli_for c.handle.new.self.settings
    (key_with c.handle.new.self.clock (greatest_of (key_numbers c.handle.new.self.frames))
    c.in_ok-outcome.outcome.arrival c.self.inside.requests)
pli-is g c = c.ask_for.ensures.pli
    ∙ (λ j. pli_for (c.settings-settings.ensures.value j) (c.ask-key.ensures.key j))

pub returns-clause-reply : goal.returns-clause-reply
returns-clause-reply g c =
    let i = c.self.inside in
    let a = c.handle.new.self in
    subst (λ (p : EngineParts). (h : List Event) → StandsFor g.C.Codec.meaning p h →
    ToDatagram (record {
      what = c.in_ok-outcome.outcome.what;
      repaired = c.repaired_by.result;
      feedback = c.ask_for.new.feedback;
    })
    ≡ reply p.settings g.C.Codec.meaning h (Datagram c.args.moment c.args.bytes.now)) c.self.view_is
    (λ h stands.
    (λ j. ToDatagram (record {
      what = c.in_ok-outcome.outcome.what;
      repaired = c.repaired_by.result;
      feedback = record { nack = (nack-is g c) j; pli = (pli-is g c) j };
    }))
    ∙ datagram-reply c.runs_are.ensures c.runs_rise.ensures g.C.Codec.meaning i.assembler a i.requests c.args.moment
    c.args.bytes.now c.in_ok-outcome.outcome h c.in_ok-outcome.ensures.handled c.in_ok-outcome.ensures.before
    c.in_ok-outcome.ensures.after c.ask-key.ensures.sound stands
    c.repaired_by.result c.repaired_by.ensures)

pub returns-clause-settings : goal.returns-clause-settings
returns-clause-settings g c =
    subst (λ (p : EngineParts). c.handle.new.self.settings ≡ p.settings) c.self.view_is
    (datagram-settings g.C.Codec.meaning c.self.inside.assembler c.handle.new.self c.args.moment c.args.bytes.now
    c.in_ok-outcome.outcome c.in_ok-outcome.ensures.handled)

pub returns-clause-refused : goal.returns-clause-refused
returns-clause-refused g c =
    let i = c.self.inside in
    subst (λ (p : EngineParts). IsErr (verdict p.settings g.C.Codec.meaning (contents_of p.window) c.args.bytes.now) →
    (true ≡ true) × (parts_of c.handle.new.self c.ask-key.new.requests
    ≡ record p { events = p.events + 1; clock = max p.clock c.args.moment })) c.self.view_is
    (λ refused.
    let r = datagram-refused g.C.Codec.meaning i.assembler c.handle.new.self c.args.moment c.args.bytes.now
    c.in_ok-outcome.outcome c.in_ok-outcome.ensures.handled refused in (
      refl,
      ap (λ (w : Wanted). parts_of c.handle.new.self w)
          (c.ask-key.ensures.wanted
          ∙ ap (λ o. wanted_with c.handle.new.self.clock c.handle.new.self.front
          (greatest_of (key_numbers c.handle.new.self.frames)) o i.requests) r.0)
          ∙ ap (λ (a : Assembly). parts_of a i.requests) r.1,
    ))

pub returns-clause-counts : goal.returns-clause-counts
returns-clause-counts g c =
    subst (λ (p : EngineParts). (c.handle.new.self.events ≡ p.events + 1)
    × (c.handle.new.self.clock ≡ max p.clock c.args.moment)) c.self.view_is
    (datagram-counts g.C.Codec.meaning c.self.inside.assembler c.handle.new.self c.args.moment c.args.bytes.now
    c.in_ok-outcome.outcome c.in_ok-outcome.ensures.handled)

pub returns-clause-exactly : goal.returns-clause-exactly
returns-clause-exactly g c =
    let i = c.self.inside in
    subst (λ (p : EngineParts). (what : What) →
    (c.in_ok-outcome.outcome.what ≡ what)
    ↔ MeansAnswer p.settings g.C.Codec.meaning (contents_of p.window) c.args.bytes.now what) c.self.view_is
    (λ what. answers_mean c.reasons_mean.ensures.reasons i.assembler.settings g.C.Codec.meaning
    (contents_of i.assembler.window) c.args.bytes.now
    (All-from_get_or (λ octet. octet < 256) c.args.bytes.now 0 (λ k within. Fits-lt-pow (c.type_inv.bytes k)))
    (newest-beyond g.C.Codec.meaning i.assembler c.in_ok-outcome.ensures.before) c.in_ok-outcome.outcome.what
    c.in_ok-outcome.ensures.handled.answer what)
