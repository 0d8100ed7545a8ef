use Rattle.std.proofs.Common.{Ok, Err, refl, ◌∙◌, rules}
use Rattle.vrx_capture.specs.Reader.{SayNothing}
use Rattle.vrx_capture.proofs.ReadsLemmas.{reads_nothing}
use Rattle.vrx_capture.proofs.ReaderLemmas.{goes_none, goes_after, next_after, idle_source}
use Rattle.vrx_capture.proofs.lines.Lines.next_on.Goals as goal

pub lines-init : goal.lines-init
lines-init g c = record {
  goes = (
    goes_none c.args.self.now (g.S.Source.left c.args.source.now) c.requires,
    reads_nothing g.S.Source.is_read (SayNothing c.args.self.now) c.args.self.now.kept c.args.source.now,
  );
  idle = λ ended. refl;
  counted = refl;
}

pub lines-preserved : goal.lines-preserved
lines-preserved g c =
    let goes = c.lines.invariant.goes in
    let step = rw c.in-Ok-None.field-0-is at c.in-Ok-None.ensures.step in
    record {
      goes = goes_after c.args.self.now c.lines.self (g.S.Source.left c.args.source.now)
          (g.S.Source.left c.lines.source) goes.0 c.requires g.S.Source.is_read c.args.source.now c.lines.source
          c.take_next.new.source goes.1 c.take_next.ensures.idle c.take_next.new.self
          (g.S.Source.left c.take_next.new.source) step;
      idle = idle_source c.args.self.now c.lines.self (g.S.Source.left c.args.source.now)
          (g.S.Source.left c.lines.source) goes.0 c.requires c.args.source.now c.lines.source c.take_next.new.source
          c.lines.invariant.idle c.take_next.ensures.idle;
      counted = c.take_next.ensures.uncounted (search rules) ∙ c.lines.invariant.counted;
    }

pub returns-in-Ok-Some-clause-next : goal.returns-in-Ok-Some-clause-next
returns-in-Ok-Some-clause-next g c =
    let goes = c.lines.invariant.goes in
    let step = rw c.in-Ok-Some.field-0-is at c.in-Ok-Some.ensures.step in
    next_after c.args.self.now c.lines.self (g.S.Source.left c.args.source.now)
    (g.S.Source.left c.lines.source) goes.0 c.requires g.S.Source.is_read c.args.source.now c.lines.source
    c.take_next.new.source goes.1 c.take_next.ensures.idle c.take_next.new.self
    (g.S.Source.left c.take_next.new.source) (Ok c.in-Ok-Some.line) step

pub returns-in-Err-clause-next : goal.returns-in-Err-clause-next
returns-in-Err-clause-next g c =
    let goes = c.lines.invariant.goes in
    next_after c.args.self.now c.lines.self (g.S.Source.left c.args.source.now)
    (g.S.Source.left c.lines.source) goes.0 c.requires g.S.Source.is_read c.args.source.now c.lines.source
    c.take_next.new.source goes.1 c.take_next.ensures.idle c.take_next.new.self
    (g.S.Source.left c.take_next.new.source) (Err c.in-Err.fault) c.in-Err.ensures.step

pub returns-in-Ok-Some-clause-idle : goal.returns-in-Ok-Some-clause-idle
returns-in-Ok-Some-clause-idle g c =
    idle_source c.args.self.now c.lines.self (g.S.Source.left c.args.source.now)
    (g.S.Source.left c.lines.source) c.lines.invariant.goes.0 c.requires c.args.source.now c.lines.source
    c.take_next.new.source c.lines.invariant.idle c.take_next.ensures.idle

pub returns-in-Err-clause-idle : goal.returns-in-Err-clause-idle
returns-in-Err-clause-idle g c =
    idle_source c.args.self.now c.lines.self (g.S.Source.left c.args.source.now)
    (g.S.Source.left c.lines.source) c.lines.invariant.goes.0 c.requires c.args.source.now c.lines.source
    c.take_next.new.source c.lines.invariant.idle c.take_next.ensures.idle
