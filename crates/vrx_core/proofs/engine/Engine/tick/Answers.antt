use Rattle.std.proofs.Common.{◌≡◌, ℕ, max, List, ◌∷◌, Option, sym, subst, ap, ◌∙◌}
use Rattle.std.specs.Prelude.{is_some}
use Rattle.vrx_asks.specs.declared.due.Due.{Due}
use Rattle.vrx_asks.specs.Asks.{asked_numbers, given_up_numbers}
use Rattle.vrx_window.specs.Window.{Contents}
use Rattle.vrx_window.specs.declared.held.Held.{Held}
use Rattle.vrx_core.specs.machine.Machine.{ToTick, nack_for, pli_for, reply}
use Rattle.vrx_buffer.specs.Order.{greatest_of}
use Rattle.vrx_core.specs.relation.StandsFor.{Assembly, EngineParts, StandsFor, Wanted, parts_of}
use Rattle.vrx_buffer.specs.Frames.{key_numbers}
use Rattle.vrx_core.specs.inside.Step.{after_counting}
use Rattle.vrx_core.specs.inside.Wants.{AreFresh, AreNear, CanGiveUpAll, asks_key, given_up_all, needs_key, wanted_ticked}
use Rattle.vrx_core.specs.declared.event.Event.{Event}
use Rattle.vrx_core.specs.declared.event.Event.TheVariants.{Tick}
use Rattle.vrx_core.proofs.step.FreshLemmas.{can-give-up, fresh-ticked, near-asked}
use Rattle.vrx_core.proofs.step.WantedLemmas.{tick-reply, tick-stands-for}
use Rattle.vrx_core.proofs.engine.Engine.tick.Given as given
use Rattle.vrx_core.proofs.engine.Engine.tick.Goals as goal

-- the assembly that was counted has the window, the settings and the frames that were there
lost-is : (g : given.Over) (c : goal.After-as_slice g) →
    c.as_slice.result.now ≡ given_up_numbers c.now-now.result c.settings.result.now.interval
    c.self.inside.requests.asks
lost-is g c = c.as_slice.ensures.value ∙ ap (λ (due : Due). due.give_up.items) c.deref.ensures
    ∙ c.ticked-asks_key.ensures.lost

pub give_up_all-requires : goal.give_up_all-requires
give_up_all-requires g c = record {
  fresh = subst (λ ns. CanGiveUpAll ns c.count.new.self.window) (sym (lost-is g c))
      (subst (λ (a : Assembly).
      CanGiveUpAll (given_up_numbers c.now-now.result c.settings.result.now.interval c.self.inside.requests.asks)
      a.window) (sym c.count.ensures.counted)
      (can-give-up c.self.inside.assembler.window c.now-now.result c.settings.result.now.interval
      c.self.inside.requests.asks c.ticked-asks_key.ensures.sound c.self.invariant.fresh));
}

pub feedback_of-requires : goal.feedback_of-requires
feedback_of-requires g c = record {
  near = subst AreNear (sym (c.as_slice-2.ensures.value ∙ ap (λ (due : Due). due.ask.items) c.deref-2.ensures
      ∙ c.ticked-asks_key.ensures.numbers))
      (near-asked c.now-now.result c.settings.result.now.interval c.self.inside.requests.asks
      c.ticked-asks_key.ensures.sound);
}

-- the clock and the settings at the tick
now-is : (g : given.Over) (c : goal.After-feedback_of g) →
    c.now-now.result ≡ max c.self.inside.assembler.clock c.args.moment
now-is g c = c.now-now.ensures.value ∙ ap (λ (a : Assembly). a.clock) c.count.ensures.counted

settings-are : (g : given.Over) (c : goal.After-feedback_of g) → c.settings.result.now ≡ c.self.inside.assembler.settings
settings-are g c = c.settings.ensures.value ∙ ap (λ (a : Assembly). a.settings) c.count.ensures.counted

-- the assembly after it
numbers-are : (g : given.Over) (c : goal.After-feedback_of g) →
    c.as_slice.result.now ≡ given_up_numbers
    (max c.self.inside.assembler.clock c.args.moment) c.self.inside.assembler.settings.interval
    c.self.inside.requests.asks
numbers-are g c = c.as_slice.ensures.value ∙ ap (λ (due : Due). due.give_up.items) c.deref.ensures
    ∙ c.ticked-asks_key.ensures.lost
    ∙ (λ i. given_up_numbers (now-is g c i) (settings-are g c i).interval c.self.inside.requests.asks)

after-is : (g : given.Over) (c : goal.After-feedback_of g) →
    c.give_up_all.new.self ≡ record (after_counting c.self.inside.assembler c.args.moment) {
      window =
          given_up_all (given_up_numbers
          (max c.self.inside.assembler.clock c.args.moment) c.self.inside.assembler.settings.interval
          c.self.inside.requests.asks) c.self.inside.assembler.window;
    }
after-is g c =
    c.give_up_all.ensures.given_up
    ∙ ap (λ (a : Assembly). record a { window = given_up_all c.as_slice.result.now a.window }) c.count.ensures.counted
    ∙ ap (λ ns. record (after_counting c.self.inside.assembler c.args.moment) {
      window = given_up_all ns c.self.inside.assembler.window;
    }) (numbers-are g c)

-- what is wanted after it
started-is : (g : given.Over) (c : goal.After-feedback_of g) →
    c.is_some-started.result ≡ is_some c.self.inside.assembler.window.newest
started-is g c = c.is_some-started.ensures ∙ ap (λ (o : Option ℕ). is_some o) c.newest.ensures.value
    ∙ ap (λ (a : Assembly). is_some a.window.newest) c.count.ensures.counted

key-is : (g : given.Over) (c : goal.After-feedback_of g) →
    c.greatest_key-key.result ≡ greatest_of (key_numbers c.self.inside.assembler.frames)
key-is g c = c.greatest_key-key.ensures.value
    ∙ ap (λ (a : Assembly). greatest_of (key_numbers a.frames)) c.count.ensures.counted

wanted-is : (g : given.Over) (c : goal.After-feedback_of g) →
    c.ticked-asks_key.new.self ≡ wanted_ticked
    (max c.self.inside.assembler.clock c.args.moment) c.self.inside.assembler.settings.interval
    (is_some c.self.inside.assembler.window.newest)
    (greatest_of (key_numbers c.self.inside.assembler.frames)) c.self.inside.requests
wanted-is g c = c.ticked-asks_key.ensures.wanted
    ∙ (λ i. wanted_ticked (now-is g c i) (settings-are g c i).interval (started-is g c i)
    (key-is g c i) c.self.inside.requests)

pub invariant_of-self : goal.invariant_of-self
invariant_of-self g c =
    let a = c.self.inside.assembler in
    record {
      whole = c.give_up_all.ensures.after;
      fresh = subst (λ (w : Contents Held). AreFresh w c.ticked-asks_key.new.self.asks)
          (sym (ap (λ (b : Assembly). b.window) (after-is g c)))
          (subst (λ (w : Wanted). AreFresh
          (given_up_all (given_up_numbers (max a.clock c.args.moment) a.settings.interval c.self.inside.requests.asks)
          a.window) w.asks) (sym (wanted-is g c))
          (fresh-ticked a.window (max a.clock c.args.moment) a.settings.interval c.self.inside.requests.asks
          c.ticked-asks_key.ensures.sound c.self.invariant.fresh));
    }

pub returns-clause-stands : goal.returns-clause-stands
returns-clause-stands g c =
    let i = c.self.inside in
    subst (λ (p : EngineParts). (h : List Event) → StandsFor g.C.Codec.meaning p h →
    StandsFor g.C.Codec.meaning (parts_of c.give_up_all.new.self c.ticked-asks_key.new.self) (Tick c.args.moment ∷ h))
    c.self.view_is
    (λ h stands. subst (λ (w : Wanted).
    StandsFor g.C.Codec.meaning (parts_of c.give_up_all.new.self w) (Tick c.args.moment ∷ h)) (sym (wanted-is g c))
    (tick-stands-for c.runs_are.ensures g.C.Codec.meaning i.assembler c.give_up_all.new.self i.requests c.args.moment
    h stands c.ticked-asks_key.ensures.sound (after-is g c)))

asked-are : (g : given.Over) (c : goal.After-feedback_of g) →
    c.as_slice-2.result.now ≡ asked_numbers
    (max c.self.inside.assembler.clock c.args.moment) c.self.inside.assembler.settings.interval
    c.self.inside.requests.asks
asked-are g c = c.as_slice-2.ensures.value ∙ ap (λ (due : Due). due.ask.items) c.deref-2.ensures
    ∙ c.ticked-asks_key.ensures.numbers
    ∙ (λ i. asked_numbers (now-is g c i) (settings-are g c i).interval c.self.inside.requests.asks)

asks-is : (g : given.Over) (c : goal.After-feedback_of g) →
    c.ticked-asks_key.result ≡ asks_key (max c.self.inside.assembler.clock c.args.moment)
    (needs_key (max c.self.inside.assembler.clock c.args.moment) c.self.inside.assembler.settings.interval
    (is_some c.self.inside.assembler.window.newest)
    (greatest_of (key_numbers c.self.inside.assembler.frames)) c.self.inside.requests)
    c.self.inside.requests.key_asked
asks-is g c = c.ticked-asks_key.ensures.key
    ∙ (λ i. asks_key (now-is g c i)
    (needs_key (now-is g c i) (settings-are g c i).interval (started-is g c i) (key-is g c i) c.self.inside.requests)
    c.self.inside.requests.key_asked)

pub returns-clause-reply : goal.returns-clause-reply
returns-clause-reply g c =
    let i = c.self.inside in
    subst (λ (p : EngineParts). (h : List Event) → StandsFor g.C.Codec.meaning p h →
    ToTick c.feedback_of.result ≡ reply p.settings g.C.Codec.meaning h
    (Tick c.args.moment)) c.self.view_is
    (λ h stands.
    (λ j. ToTick (record {
      nack = (c.feedback_of.ensures.nack ∙ (λ k. nack_for (c.settings-settings.ensures.value k) (asked-are g c k))) j;
      pli = (c.feedback_of.ensures.pli ∙ (λ k. pli_for (c.settings-settings.ensures.value k) (asks-is g c k))) j;
    }))
    ∙ tick-reply c.runs_are.ensures g.C.Codec.meaning i.assembler c.give_up_all.new.self i.requests c.args.moment h
    stands c.ticked-asks_key.ensures.sound (after-is g c))
