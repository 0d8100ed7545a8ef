-- The runs of an honest call are the sender's frames.
use Rattle.std.proofs.Common.{◌≡◌, ℕ, None, List, [], ◌∷◌}
use Rattle.vrx_codec.specs.Meaning.{Meaning}
use Rattle.vrx_num.specs.Extended.{GivesMeant}
use Rattle.vrx_num.specs.Pictures.{GivesPicture}
use Rattle.vrx_frames.specs.IsRun.{RunsAre}
use Rattle.vrx_repair.specs.Truth.{TrueRepairs}
use Rattle.vrx_core.specs.machine.SettingsFault.{fault_of}
use Rattle.vrx_core.specs.machine.Machine.{snapshots}
use Rattle.vrx_core.specs.honest.Sender.{Sender}
use Rattle.vrx_core.specs.honest.HonestSender.{HonestSender}
use Rattle.vrx_core.specs.honest.HonestNetwork.{Origin, HonestNetwork, packets_taken}
use Rattle.vrx_core.specs.honest.HonestRuns.{RunsRightly, RunsRightlyFrom, HonestRunsHolds}
use Rattle.vrx_core.specs.declared.settings.Settings.{Settings}
use Rattle.vrx_core.specs.declared.event.Event.{Event}
use Rattle.vrx_core.proofs.honest.WireLemmas.{FormLaws}
use Rattle.vrx_core.proofs.honest.HoldsLemmas.{Holds}
use Rattle.vrx_core.proofs.honest.HonestLemmas.{Step, step, first_holds}
use Rattle.vrx_core.proofs.honest.ReadyLemmas.{IsRunOf, frame_is, complete_run}

module _ (meant : GivesMeant) (picture : GivesPicture) (laws : FormLaws) (truth : TrueRepairs) (are : RunsAre)
    (settings : Settings) (codec : Meaning) (sender : Sender) (good : fault_of settings ≡ None)
    (honest : HonestSender settings codec sender) where
  -- the runs after a history
  runs_rightly : (h : List Event) (origins : List Origin) (fs : List ℕ) →
      Holds settings codec sender honest (snapshots settings codec h) (packets_taken settings codec h origins) fs →
      RunsRightly settings codec sender h origins
  runs_rightly h origins fs holds = record {
    frames = λ run stands. frame_is are settings codec sender honest h origins fs holds run stands;
    runs = λ f complete.
        let r : IsRunOf are settings codec sender honest h origins fs holds f complete.first =
        complete_run are settings codec sender honest h origins fs holds f complete in
        (r.run, r.there, r.is_frame);
  }

  -- and after each event of the rest of an honest call
  runs_from : (events : List Event) (h : List Event) (origins later : List Origin) (fs : List ℕ) →
      Holds settings codec sender honest (snapshots settings codec h) (packets_taken settings codec h origins) fs →
      HonestNetwork settings codec sender h origins events later →
      RunsRightlyFrom settings codec sender h origins events later
  runs_from [] h origins [] fs holds network = runs_rightly h origins fs holds
  runs_from [] h origins (o ∷ os) fs holds network = absurd network
  runs_from (e ∷ es) h origins [] fs holds network = absurd network
  runs_from (e ∷ es) h origins (o ∷ os) fs holds network =
      let s : Step meant picture laws truth are settings codec sender good honest h origins fs e o =
      step meant picture laws truth are settings codec sender good honest h origins fs holds e o network.0 network.1 in
      (runs_rightly h origins fs holds, runs_from es (e ∷ h) (o ∷ origins) os s.after s.holds network.2)

-- in every honest call the runs are the sender's frames
pub honest_runs : GivesMeant → GivesPicture → FormLaws → TrueRepairs → RunsAre → HonestRunsHolds
honest_runs meant picture laws truth are settings codec sender events origins good honest network =
    runs_from meant picture laws truth are settings codec sender good honest events [] [] origins []
    (first_holds meant picture laws truth are settings codec sender good honest) network
