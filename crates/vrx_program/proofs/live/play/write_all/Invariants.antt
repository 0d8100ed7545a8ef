use Rattle.std.proofs.Common.{◌≡◌, take}
use Rattle.vrx_io.specs.Sink.{with_more}
use Rattle.vrx_program.proofs.LivePlayLemmas.{flat}
use Rattle.vrx_program.proofs.live.play.write_all.Given as goal

-- the first texts are written, and no write failed
abbrev pub invariant-loop-place : goal.invariant-loop-place
invariant-loop-place g l = record {
  wrote : g.K.Sink.taken l.sink ≡ with_more (g.K.Sink.taken l.fn.sink) (flat (take l.place l.printed));
  faults : g.K.Sink.faults l.sink ≡ g.K.Sink.faults l.fn.sink;
}
