-- What holds of every drill, as statements.
use Rattle.std.specs.Prelude.{ℕ, ◌≤◌, List, []}
use Rattle.vrx_vp8.specs.Descriptor.{vp8}
use Rattle.vrx_core.specs.honest.HonestSender.{HonestSender}
use Rattle.vrx_core.specs.honest.HonestNetwork.{HonestNetwork, Origin}
use Rattle.vrx_sender.specs.declared.laws.TheConstants.{MOST_HONEST_FRAMES}
use Rattle.vrx_sender.specs.Drill.{drill_events, drill_sender}
use Rattle.vrx_sender.specs.Packets.{settings}

-- the sender is honest, whatever the seed
abbrev pub SenderIsHonest : Type 0
SenderIsHonest = (seed frames : ℕ) → HonestSender settings vp8 (drill_sender seed frames)

-- an honest network brings the events of a drill, and these are their origins
pub record IsHonestlyBrought (seed frames : ℕ) : Type 0 where
  pub origins : List Origin
  pub network : HonestNetwork settings vp8 (drill_sender seed frames) [] [] (drill_events seed frames) origins

-- the network of a drill of at most so many frames is honest, whatever the seed
abbrev pub NetworkIsHonest : Type 0
NetworkIsHonest = (seed frames : ℕ) → frames ≤ MOST_HONEST_FRAMES → IsHonestlyBrought seed frames
