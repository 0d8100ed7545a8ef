use Rattle.std.proofs.Common.{◌≡◌, ◌-◌, cond, true, length}
use Rattle.vrx_io.specs.Reads.{ReadsSo}
use Rattle.vrx_capture.specs.Line.{IsOpenLine}
use Rattle.vrx_capture.specs.Holding.{ReadsOn}
use Rattle.vrx_capture.proofs.buffer.Buffer.find.Given as goal

-- what was read stands after what was held, and each read was made when a part of a line was held
abbrev pub invariant-reads : goal.invariant-reads
invariant-reads g l = record {
  reads : (reads : ReadsOn l.initial.self l.self (g.S.Source.left l.initial.source) (g.S.Source.left l.source))
      × ReadsSo g.S.Source.is_read IsOpenLine l.initial.self.kept l.initial.source l.source reads.read;
  idle : l.initial.self.ended ≡ true → (l.source ≡ l.initial.source) × (l.self ≡ l.initial.self);
  counted : g.S.Source.faults l.source ≡ g.S.Source.faults l.initial.source;
}

-- the octets held grow, and are no more than a line may have, up to the end of the source
abbrev pub decreases-reads : goal.decreases-reads
decreases-reads g l = cond l.self.ended 0 (20002 - length l.self.kept)
