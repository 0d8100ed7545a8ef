use Rattle.std.proofs.Common.{sym}
use Rattle.vrx_capture.proofs.AheadLemmas.{tells_still}
use Rattle.vrx_capture.proofs.lines.Lines.find.Goals as goal

pub returns-clause-tells : goal.returns-clause-tells
returns-clause-tells g c = let reads = c.find.ensures.reads.0 in
    tells_still reads.read (g.S.Source.left c.args.source.now) (g.S.Source.left c.find.new.source) reads.source

pub returns-clause-reads : goal.returns-clause-reads
returns-clause-reads g c = rw (sym c.self.view_is) c.find.ensures.reads
