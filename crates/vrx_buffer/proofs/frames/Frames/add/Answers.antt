use Rattle.std.proofs.Common.{◌<◌, ◌∙◌, ap, arith, cond, length, subst, sym}
use Rattle.vrx_num.specs.declared.limits.TheConstants.{WINDOW}
use Rattle.vrx_buffer.specs.Frames.{with_run, without}
use Rattle.vrx_buffer.specs.Kept.{AreKept, runs_of}
use Rattle.vrx_buffer.proofs.PartLemmas.{kept-added, kept-itself, kept-joined, keys-few, layered-few, plain-few}
use Rattle.vrx_buffer.proofs.frames.Frames.add.Goals as goal

pub set-requires : goal.set-requires
set-requires c =
    let runs = runs_of c.self.inside.keys c.self.inside.plain c.self.inside.layered in
    let room : length runs < WINDOW = subst (λ rs. length rs < WINDOW) (sym c.self.view_is) c.requires.room in
    record {
      room = omega (
        arith,
        room,
        keys-few runs c.self.inside.keys c.self.inside.plain c.self.inside.layered c.self.invariant,
      );
    }

pub set-requires-2 : goal.set-requires-2
set-requires-2 c =
    let runs = runs_of c.self.inside.keys c.self.inside.plain c.self.inside.layered in
    let room : length runs < WINDOW = subst (λ rs. length rs < WINDOW) (sym c.self.view_is) c.requires.room in
    record {
      room = omega (
        arith,
        room,
        plain-few runs c.self.inside.keys c.self.inside.plain c.self.inside.layered c.self.invariant,
      );
    }

pub set-requires-3 : goal.set-requires-3
set-requires-3 c =
    let runs = runs_of c.self.inside.keys c.self.inside.plain c.self.inside.layered in
    let room : length runs < WINDOW = subst (λ rs. length rs < WINDOW) (sym c.self.view_is) c.requires.room in
    record {
      room = omega (
        arith,
        room,
        layered-few runs c.self.inside.keys c.self.inside.plain c.self.inside.layered c.self.invariant,
      );
    }

-- the queues hold the runs with the one that is added
added : (c : goal.After-set-3)
    → AreKept (with_run c.args.run (runs_of c.self.inside.keys c.self.inside.plain c.self.inside.layered))
    c.set.new.self c.set-2.new.self c.set-3.new.self
added c =
    let run = c.args.run in
    let runs = runs_of c.self.inside.keys c.self.inside.plain c.self.inside.layered in
    kept-added runs c.self.inside.keys c.self.inside.plain c.self.inside.layered c.self.invariant run
    (subst (λ rs. length rs < WINDOW) (sym c.self.view_is) c.requires.room) c.requires.layer
    c.set.new.self c.set-2.new.self c.set-3.new.self c.set.ensures.set
    (c.set-2.ensures.set ∙ ap (λ b. cond b (with_run run c.self.inside.plain)
    (without run.first c.self.inside.plain)) c.is_plain.ensures)
    (c.set-3.ensures.set ∙ ap (λ b. cond b (with_run run c.self.inside.layered)
    (without run.first c.self.inside.layered)) c.is_layered.ensures)

pub invariant_of-self : goal.invariant_of-self
invariant_of-self c = kept-itself _ c.set.new.self c.set-2.new.self c.set-3.new.self (added c)

pub returns : goal.returns
returns c = record {
  runs = kept-joined _ c.set.new.self c.set-2.new.self c.set-3.new.self (added c)
      ∙ ap (with_run c.args.run) c.self.view_is;
}
