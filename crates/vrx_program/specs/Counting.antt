-- A drill in the middle: what was counted of its events. No public clause cites this module.
use Rattle.std.specs.Prelude.{◌≡◌, ◌+◌, ◌*◌, ◌^◌, ◌≤◌, ℕ, List, [], length}
use Rattle.vrx_vp8.specs.Descriptor.{vp8}
use Rattle.vrx_core.specs.machine.Machine.{replies}
use Rattle.vrx_core.specs.relation.StandsFor.{EngineParts, StandsFor}
use Rattle.vrx_core.specs.declared.event.Event.{Event}
use Rattle.vrx_sender.specs.Packets.{settings}
use Rattle.vrx_program.specs.DrillText.{plus, summary_of}
use Rattle.vrx_program.specs.declared.summary.Summary.{Summary}

-- the counts of so many replies are no greater than these
pub record IsFew (n : ℕ) (s : Summary) : Type 0 where
  pub datagrams : s.datagrams ≤ n * 2 ^ 64
  pub taken : s.taken ≤ n * 2 ^ 64
  pub repaired : s.repaired ≤ n * 2 ^ 64
  pub nacks : s.nacks ≤ n * 2 ^ 64
  pub plis : s.plis ≤ n * 2 ^ 64
  pub frames : s.frames ≤ n * 2 ^ 64
  pub octets : s.octets ≤ n * 2 ^ 64

-- the engine stands for some of the events, and their counts and those of the replies to the events left are those of
-- all
pub record IsCounting (engine : EngineParts) (summary : Summary) (left all : List Event) : Type 0 where
  pub history : List Event
  pub stands : StandsFor vp8 engine history
  pub settings_are : engine.settings ≡ settings
  pub total : plus summary (summary_of (replies settings vp8 history left)) ≡ summary_of (replies settings vp8 [] all)
  pub count : engine.events + length left ≡ length all
  pub few : IsFew engine.events summary
