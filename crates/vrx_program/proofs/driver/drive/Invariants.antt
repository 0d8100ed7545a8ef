use Rattle.std.proofs.Common.{◌≡◌, ◌-◌}
use Rattle.vrx_program.specs.Runs.{IsRunning}
use Rattle.vrx_program.proofs.driver.drive.Given as goal

-- the run goes on, and no read or write failed
abbrev pub invariant-events : goal.invariant-events
invariant-events g l = record {
  runs : IsRunning g.J.Job.outcome (g.J.Job.answering l.job)
      (g.J.Job.answered l.job) g.S.Source.is_read g.S.Source.left l.fn.source l.source (g.K.Sink.taken l.fn.sink)
      (g.K.Sink.taken l.sink) l.lines;
  count : g.J.Job.count l.job ≡ l.lines.events;
  room : l.lines.max ≡ 1048576;
  reads : g.S.Source.faults l.source ≡ g.S.Source.faults l.fn.source;
  writes : g.K.Sink.faults l.sink ≡ g.K.Sink.faults l.fn.sink;
}

-- a capture has so many events at most
abbrev pub decreases-events : goal.decreases-events
decreases-events g l = 1048576 - l.lines.events
