use Rattle.std.proofs.Common.{rules}
use Rattle.vrx_capture.proofs.AheadLemmas.{tells_still}
use Rattle.vrx_io.specs.Reads.{ReadsSo}
use Rattle.vrx_capture.specs.Reader.{SayNothing}
use Rattle.vrx_capture.proofs.ReadsLemmas.{reads_nothing}
use Rattle.vrx_capture.proofs.ReaderLemmas.{next_bad}
use Rattle.vrx_capture.proofs.lines.Lines.next.Goals as goal

pub returns-in-Some-clause-next : goal.returns-in-Some-clause-next
returns-in-Some-clause-next g c =
    next_bad c.args.self.now (g.S.Source.left c.args.source.now) c.in-Some.k c.in-Some.reason (search rules)
    (ReadsSo g.S.Source.is_read (SayNothing c.args.self.now) c.args.self.now.kept c.args.source.now c.args.source.now)
    (reads_nothing g.S.Source.is_read (SayNothing c.args.self.now) c.args.self.now.kept c.args.source.now)

pub returns-in-None-clause-tells : goal.returns-in-None-clause-tells
returns-in-None-clause-tells g c = let passes = c.next_on.ensures.next.0 in
    tells_still passes.read (g.S.Source.left c.args.source.now) (g.S.Source.left c.next_on.new.source) passes.source
