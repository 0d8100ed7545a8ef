use Rattle.vrx_io.specs.Reads.{ReadsSo}
use Rattle.vrx_capture.specs.Line.{IsOpenLine}
use Rattle.vrx_capture.proofs.ReaderLemmas.{len_within, found_failed, found_end, found_too_long, found_taken}
use Rattle.vrx_capture.proofs.lines.Lines.take_next.Goals as goal

pub take-requires : goal.take-requires
take-requires g c = len_within c.find.new.self.kept c.find.new.self.ended c.in-Ok-Line.len
    (rw c.in-Ok-Line.field-0-is at c.in-Ok-Line.ensures.found)

pub returns-in-Err-clause-step : goal.returns-in-Err-clause-step
returns-in-Err-clause-step g c =
    let failed = c.in-Err.ensures.failed in
    found_failed c.args.self.now c.find.new.self (g.S.Source.left c.args.source.now)
    (g.S.Source.left c.find.new.source) c.find.ensures.reads.0 c.find.ensures.counts
    (ReadsSo g.S.Source.is_read IsOpenLine c.args.self.now.kept c.args.source.now c.find.new.source)
    c.find.ensures.reads.1 c.requires failed.0 failed.1 failed.2

pub returns-in-Ok-End-clause-step : goal.returns-in-Ok-End-clause-step
returns-in-Ok-End-clause-step g c =
    let found = rw c.in-Ok-End.field-0-is at c.in-Ok-End.ensures.found in
    found_end c.args.self.now c.find.new.self (g.S.Source.left c.args.source.now)
    (g.S.Source.left c.find.new.source) c.find.ensures.reads.0 c.find.ensures.counts
    (ReadsSo g.S.Source.is_read IsOpenLine c.args.self.now.kept c.args.source.now c.find.new.source)
    c.find.ensures.reads.1 c.requires found.0 found.1

pub returns-in-Ok-TooLong-clause-step : goal.returns-in-Ok-TooLong-clause-step
returns-in-Ok-TooLong-clause-step g c =
    let found = rw c.in-Ok-TooLong.field-0-is at c.in-Ok-TooLong.ensures.found in
    found_too_long c.args.self.now c.find.new.self (g.S.Source.left c.args.source.now)
    (g.S.Source.left c.find.new.source) c.find.ensures.reads.0 c.find.ensures.counts
    (ReadsSo g.S.Source.is_read IsOpenLine c.args.self.now.kept c.args.source.now c.find.new.source)
    c.find.ensures.reads.1 c.requires c.refuse_long.new.self c.refuse_long.result c.refuse_long.ensures.bad
    c.refuse_long.ensures.fault found

pub returns-in-Ok-Line-clause-step : goal.returns-in-Ok-Line-clause-step
returns-in-Ok-Line-clause-step g c =
    let found = rw c.in-Ok-Line.field-0-is at c.in-Ok-Line.ensures.found in
    found_taken c.args.self.now c.find.new.self (g.S.Source.left c.args.source.now)
    (g.S.Source.left c.find.new.source) c.find.ensures.reads.0 c.find.ensures.counts
    (ReadsSo g.S.Source.is_read IsOpenLine c.args.self.now.kept c.args.source.now c.find.new.source)
    c.find.ensures.reads.1 c.requires c.take.new.self c.in-Ok-Line.len c.take.result found c.take.ensures.taken
