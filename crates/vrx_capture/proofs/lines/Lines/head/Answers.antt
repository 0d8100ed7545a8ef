use Rattle.std.proofs.Common.{rules}
use Rattle.vrx_io.specs.Reads.{ReadsSo}
use Rattle.vrx_capture.specs.Line.{IsOpenLine}
use Rattle.vrx_capture.proofs.ReadsLemmas.{reads_nothing}
use Rattle.vrx_capture.proofs.ReaderLemmas.{len_within, head_full, head_failed, head_no_memory, head_end, head_too_long, head_given}
use Rattle.vrx_capture.proofs.lines.Lines.head.Goals as goal

pub returns-then-self-ge-MOST_LINES-clause-passes : goal.returns-then-self-ge-MOST_LINES-clause-passes
returns-then-self-ge-MOST_LINES-clause-passes g c =
    head_full c.args.self.now (g.S.Source.left c.args.source.now) (search rules)
    (ReadsSo g.S.Source.is_read IsOpenLine c.args.self.now.kept c.args.source.now c.args.source.now)
    (reads_nothing g.S.Source.is_read IsOpenLine c.args.self.now.kept c.args.source.now)

pub take_head-requires-clause-within : goal.take_head-requires-clause-within
take_head-requires-clause-within g c =
    len_within c.find.new.self.kept c.find.new.self.ended c.in-Ok-Line.len
    (rw c.in-Ok-Line.field-0-is at c.in-Ok-Line.ensures.found)

pub returns-in-Err-clause-passes : goal.returns-in-Err-clause-passes
returns-in-Err-clause-passes g c =
    let failed = c.in-Err.ensures.failed in
    head_failed c.args.self.now c.find.new.self (g.S.Source.left c.args.source.now)
    (g.S.Source.left c.find.new.source) c.find.ensures.reads.0 c.find.ensures.counts
    (ReadsSo g.S.Source.is_read IsOpenLine c.args.self.now.kept c.args.source.now c.find.new.source)
    c.find.ensures.reads.1 failed.0 failed.1 failed.2

pub returns-in-Ok-End-clause-passes : goal.returns-in-Ok-End-clause-passes
returns-in-Ok-End-clause-passes g c =
    let found = rw c.in-Ok-End.field-0-is at c.in-Ok-End.ensures.found in
    head_end c.args.self.now c.find.new.self (g.S.Source.left c.args.source.now)
    (g.S.Source.left c.find.new.source) c.find.ensures.reads.0 c.find.ensures.counts
    (ReadsSo g.S.Source.is_read IsOpenLine c.args.self.now.kept c.args.source.now c.find.new.source)
    c.find.ensures.reads.1 found.0 found.1

pub returns-in-Ok-TooLong-clause-passes : goal.returns-in-Ok-TooLong-clause-passes
returns-in-Ok-TooLong-clause-passes g c =
    let found = rw c.in-Ok-TooLong.field-0-is at c.in-Ok-TooLong.ensures.found in
    head_too_long c.args.self.now c.find.new.self (g.S.Source.left c.args.source.now)
    (g.S.Source.left c.find.new.source) c.find.ensures.reads.0 c.find.ensures.counts
    (ReadsSo g.S.Source.is_read IsOpenLine c.args.self.now.kept c.args.source.now c.find.new.source)
    c.find.ensures.reads.1 found

pub returns-in-Ok-clause-passes : goal.returns-in-Ok-clause-passes
returns-in-Ok-clause-passes g c =
    let found = rw c.in-Ok-Line.field-0-is at c.in-Ok-Line.ensures.found in
    head_given c.args.self.now c.find.new.self (g.S.Source.left c.args.source.now)
    (g.S.Source.left c.find.new.source) c.find.ensures.reads.0 c.find.ensures.counts
    (ReadsSo g.S.Source.is_read IsOpenLine c.args.self.now.kept c.args.source.now c.find.new.source)
    c.find.ensures.reads.1 c.take_head.new.self c.in-Ok-Line.len c.in-Ok.line.items found c.in-Ok.ensures.passed
    c.in-Ok.ensures.line

pub returns-in-Err-take_head-clause-passes : goal.returns-in-Err-take_head-clause-passes
returns-in-Err-take_head-clause-passes g c =
    head_no_memory c.args.self.now c.find.new.self (g.S.Source.left c.args.source.now)
    (g.S.Source.left c.find.new.source) c.find.ensures.reads.0 c.find.ensures.counts
    (ReadsSo g.S.Source.is_read IsOpenLine c.args.self.now.kept c.args.source.now c.find.new.source)
    c.find.ensures.reads.1 c.take_head.new.self c.in-Err-take_head.ensures.err
