use Rattle.std.proofs.Common.{◌∙◌, refl}
use Rattle.vrx_capture.specs.Holding.{ReadsOn}
use Rattle.vrx_capture.specs.Line.{IsOpenLine}
use Rattle.vrx_capture.proofs.HeldLemmas.{reads_none, reads_more, never_both}
use Rattle.vrx_capture.proofs.ReadsLemmas.{reads_nothing}
use Rattle.vrx_capture.proofs.buffer.Buffer.find.Goals as goal

pub reads-init : goal.reads-init
reads-init g c = record {
  reads = (
    reads_none c.args.self.now c.args.self.now (g.S.Source.left c.args.source.now)
        (g.S.Source.left c.args.source.now) refl refl,
    reads_nothing g.S.Source.is_read IsOpenLine c.args.self.now.kept c.args.source.now,
  );
  idle = λ ended. (refl, refl);
  counted = refl;
}

pub reads-preserved : goal.reads-preserved
reads-preserved g c =
    let reads : ReadsOn c.reads.self c.more.new.self (g.S.Source.left c.reads.source)
    (g.S.Source.left c.more.new.source) = rw c.found_here.ensures.same at c.in_ok-more-in-None.ensures.reads in
    let one = rw c.found_here.ensures.same at c.more.ensures.one in
    record {
      reads = reads_more g.S.Source.is_read g.S.Source.left c.args.self.now c.reads.self c.more.new.self
          c.args.source.now c.reads.source c.more.new.source c.reads.invariant.reads reads one.0 one.1 one.2
          (c.in-None.ensures.no_feed refl, c.in-None.ensures.short refl);
      idle = λ ended. never_both c.args.self.now c.reads.self ended (c.reads.invariant.idle ended).1
          (c.in-None.ensures.going refl);
      counted = c.in_ok-more-in-None.ensures.uncounted ∙ c.reads.invariant.counted;
    }

pub returns-in_err-more-in-None-clause-reads : goal.returns-in_err-more-in-None-clause-reads
returns-in_err-more-in-None-clause-reads g c =
    let same = c.in_err-more-in-None.ensures.failed in
    let reads : ReadsOn c.reads.self c.more.new.self (g.S.Source.left c.reads.source)
    (g.S.Source.left c.more.new.source) =
    reads_none c.reads.self c.more.new.self (g.S.Source.left c.reads.source) (g.S.Source.left c.more.new.source)
    (same.0 ∙ c.found_here.ensures.same) same.1 in
    let one = rw c.found_here.ensures.same at c.more.ensures.one in
    reads_more g.S.Source.is_read g.S.Source.left c.args.self.now c.reads.self c.more.new.self c.args.source.now
    c.reads.source c.more.new.source c.reads.invariant.reads reads one.0 one.1 one.2
    (c.in-None.ensures.no_feed refl, c.in-None.ensures.short refl)

pub returns-in_err-more-in-None-clause-idle : goal.returns-in_err-more-in-None-clause-idle
returns-in_err-more-in-None-clause-idle g c ended =
    never_both c.args.self.now c.reads.self ended (c.reads.invariant.idle ended).1 (c.in-None.ensures.going refl)

pub returns-in-Some-clause-reads : goal.returns-in-Some-clause-reads
returns-in-Some-clause-reads g c = rw c.found_here.ensures.same c.reads.invariant.reads
