use Rattle.std.proofs.Common.{◌≡◌, ◌-◌, true}
use Rattle.vrx_io.specs.Reads.{ReadsSo}
use Rattle.vrx_capture.specs.Reader.{SayNothing}
use Rattle.vrx_capture.specs.Step.{GoesOn}
use Rattle.vrx_capture.proofs.lines.Lines.next_on.Given as goal

-- the lines passed over say nothing, and before each read all that was kept and read said nothing
abbrev pub invariant-lines : goal.invariant-lines
invariant-lines g l = record {
  goes : (goes : GoesOn l.initial.self l.self (g.S.Source.left l.initial.source) (g.S.Source.left l.source))
      × ReadsSo g.S.Source.is_read
      (SayNothing l.initial.self) l.initial.self.kept l.initial.source l.source goes.passes.read;
  idle : l.initial.self.ended ≡ true → l.source ≡ l.initial.source;
  counted : g.S.Source.faults l.source ≡ g.S.Source.faults l.initial.source;
}

-- a capture has so many lines at most
abbrev pub decreases-lines : goal.decreases-lines
decreases-lines g l = 2097153 - l.self.given
