-- The runs of an honest call are the sender's frames.
use Rattle.std.specs.Prelude.{◌≡◌, ℕ, List, [], ◌∷◌, slice_get, Contains, Option, Some, None}
use Rattle.vrx_codec.specs.Meaning.{Meaning}
use Rattle.vrx_codec.specs.declared.run.Place.{Place}
use Rattle.vrx_window.specs.Sound.{on_wire}
use Rattle.vrx_frames.specs.Run.{Run}
use Rattle.vrx_core.specs.machine.SettingsFault.{fault_of}
use Rattle.vrx_core.specs.machine.Machine.{latest, snapshots}
use Rattle.vrx_core.specs.honest.Sender.{SentFrame, Sender}
use Rattle.vrx_core.specs.honest.HonestSender.{HonestSender}
use Rattle.vrx_core.specs.honest.HonestNetwork.{Origin, HonestNetwork, packets_taken}
use Rattle.vrx_core.specs.honest.Ready.{HasNumbers, StandsComplete}
use Rattle.vrx_core.specs.declared.settings.Settings.{Settings}
use Rattle.vrx_core.specs.declared.event.Event.{Event}

-- a run stands after a history
abbrev pub Stands : Settings → Meaning → List Event → Run → Type 0
Stands settings codec h run = Contains (latest (snapshots settings codec h)).standing run

-- the receiver's place of a frame is the sender's, but for its picture, whose count begins elsewhere: both are equal in
-- 15 bits (RFC 7741 4.2)
abbrev pub IsSamePlace : Option Place → Option Place → Type 0
IsSamePlace None None = Unit {0}
IsSamePlace (Some known) (Some sent) = on_wire known ≡ on_wire sent
IsSamePlace _ _ = ⊥

-- a run is frame f of the sender: it has the numbers of its packets, its timestamp, its kind, its bytes and its layers
pub record IsFrameRun (sender : Sender) (js : List ℕ) (f : ℕ) (run : Run) : Type 0 where
  pub frame : SentFrame
  pub sent : slice_get sender.frames f ≡ Some frame
  pub numbered : HasNumbers sender js f run.first run.last
  pub ts : run.ts ≡ frame.ts
  pub key : run.key ≡ frame.key
  pub bytes : run.bytes ≡ frame.bytes
  pub layers : IsSamePlace run.layers frame.layers

-- after a history, each run that stands is a frame of the sender, and each frame that stands complete is such a run
pub record RunsRightly (settings : Settings) (codec : Meaning) (sender : Sender) (h : List Event)
    (origins : List Origin) : Type 0 where
  pub frames : (run : Run) → Stands settings codec h run →
      (f : ℕ) × IsFrameRun sender (packets_taken settings codec h origins) f run
  pub runs : (f : ℕ) → StandsComplete settings codec sender h origins f →
      (run : Run) × Stands settings codec h run × IsFrameRun sender (packets_taken settings codec h origins) f run

-- after a history, and after each of the events that follow it
abbrev pub RunsRightlyFrom : Settings → Meaning → Sender → List Event → List Origin → List Event → List Origin →
    Type 0
RunsRightlyFrom settings codec sender h origins [] [] = RunsRightly settings codec sender h origins
RunsRightlyFrom settings codec sender h origins (e ∷ es) (o ∷ os) =
    RunsRightly settings codec sender h origins × RunsRightlyFrom settings codec sender (e ∷ h) (o ∷ origins) es os
RunsRightlyFrom settings codec sender h origins [] (o ∷ os) = ⊥
RunsRightlyFrom settings codec sender h origins (e ∷ es) [] = ⊥

-- in every honest call the runs are so, whatever settings without a fault and whatever the codec's meaning
abbrev pub HonestRunsHolds : Type 0
HonestRunsHolds = (settings : Settings) (codec : Meaning) (sender : Sender) (events : List Event)
    (origins : List Origin) → fault_of settings ≡ None → HonestSender settings codec sender →
    HonestNetwork settings codec sender [] [] events origins →
    RunsRightlyFrom settings codec sender [] [] events origins
