-- That the premises of the honest call can be met.
use Rattle.std.specs.Prelude.{◌≡◌, ◌≢◌, List, [], None}
use Rattle.vrx_codec.specs.Meaning.{Meaning}
use Rattle.vrx_core.specs.machine.SettingsFault.{fault_of}
use Rattle.vrx_core.specs.machine.Machine.{replies}
use Rattle.vrx_core.specs.honest.Sender.{Sender}
use Rattle.vrx_core.specs.honest.HonestSender.{HonestSender}
use Rattle.vrx_core.specs.honest.HonestNetwork.{Origin, HonestNetwork}
use Rattle.vrx_core.specs.honest.HonestCall.{frames_of}
use Rattle.vrx_core.specs.declared.settings.Settings.{Settings}
use Rattle.vrx_core.specs.declared.event.Event.{Event}

-- there are settings without a fault, an honest sender, and events that an honest network took from it; and some frame
-- is pulled in this call
pub record CanBeMet (codec : Meaning) : Type 0 where
  pub settings : Settings
  pub sender : Sender
  pub events : List Event
  pub origins : List Origin
  pub no_fault : fault_of settings ≡ None
  pub sender_honest : HonestSender settings codec sender
  pub network_honest : HonestNetwork settings codec sender [] [] events origins
  pub pulled : frames_of (replies settings codec [] events) ≢ []
