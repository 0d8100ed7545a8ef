use Rattle.std.proofs.Common.{◌≡◌, ◌-◌, ◌≤◌, ℕ, List, []}
use Rattle.std.specs.Prelude.{Option}
use Rattle.vrx_program.specs.Live.{dealt}
use Rattle.vrx_program.specs.LiveReading.{IsDealing, total_of}
use Rattle.vrx_program.proofs.live.told.read_rest.Given as goal

-- the lines so far are dealt, and no read failed
abbrev pub invariant-events : goal.invariant-events
invariant-events g l = record {
  dealing : (start : Option (List ℕ)) (first : List ℕ)
      → IsDealing start (g.S.Source.left l.fn.source) first l.fn.lines (dealt [])
      → IsDealing start (g.S.Source.left l.source) first l.lines l.lists;
  room : l.lines.max ≡ 65536;
  count : total_of l.lists ≡ l.lines.events;
  few : l.lines.events ≤ 65536;
  faults : g.S.Source.faults l.source ≡ g.S.Source.faults l.fn.source;
}

-- a capture has so many events at most
abbrev pub decreases-events : goal.decreases-events
decreases-events g l = 65536 - l.lines.events
