-- A drill is an honest call.
use Rattle.std.specs.Prelude.{ℕ, List, []}
use Rattle.vrx_vp8.specs.Descriptor.{vp8}
use Rattle.vrx_core.specs.machine.Machine.{replies}
use Rattle.vrx_core.specs.honest.HonestSender.{HonestSender}
use Rattle.vrx_core.specs.honest.HonestNetwork.{Origin, HonestNetwork}
use Rattle.vrx_core.specs.honest.HonestCall.{HonestCall}
use Rattle.vrx_sender.specs.Drill.{drill_events, drill_sender}
use Rattle.vrx_sender.specs.Packets.{settings}

-- An honest network brings what the drill's honest sender sent, and the machine's replies to it, whose counts the
-- summary has, are an honest call.
pub record HonestDrill (seed frames : ℕ) : Type 0 where
  pub origins : List Origin
  pub sender : HonestSender settings vp8 (drill_sender seed frames)
  pub network : HonestNetwork settings vp8 (drill_sender seed frames) [] [] (drill_events seed frames) origins
  pub honest : HonestCall settings vp8 (drill_sender seed frames) (drill_events seed frames) origins
      (replies settings vp8 [] (drill_events seed frames))
