-- Where the frames of VP8 begin.
use Rattle.std.specs.Prelude.{ℕ, List}
use Rattle.vrx_vp8.specs.Descriptor.{vp8}
use Rattle.vrx_core.specs.honest.Sender.{Sender, Spans}
use Rattle.vrx_core.specs.honest.HonestSender.{HonestSender}
use Rattle.vrx_core.specs.honest.Ready.{BeginsEvidently}
use Rattle.vrx_core.specs.declared.settings.Settings.{Settings}
use Rattle.vrx_core.specs.declared.event.Event.{Event}

-- after every history it is evident that a frame of an honest sender of VP8 begins with its first packet, under
-- whatever number
abbrev pub Vp8BeginsHolds : Type 0
Vp8BeginsHolds = (settings : Settings) (sender : Sender) → HonestSender settings vp8 sender →
    (h : List Event) (f from to n : ℕ) → Spans sender f from to → BeginsEvidently settings vp8 sender h from n
