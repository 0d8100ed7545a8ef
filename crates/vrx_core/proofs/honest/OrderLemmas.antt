-- In an honest call the order of the repairs makes no difference.
use Rattle.std.proofs.Common.{◌≡◌, ℕ, zero, suc, ◌≤◌, true, List, [], ◌∷◌, map, Option, Some, None, Result, refl, sym, subst}
use Rattle.std.specs.Option.{option_map_or}
use Rattle.vrx_num.specs.Extended.{GivesMeant}
use Rattle.vrx_num.specs.Pictures.{GivesPicture}
use Rattle.vrx_num.specs.declared.limits.TheConstants.{HALF_SPACE, WINDOW}
use Rattle.vrx_codec.specs.Meaning.{Meaning}
use Rattle.vrx_window.specs.Content.{Content}
use Rattle.vrx_window.specs.Window.{Contents, after_placing, is_available}
use Rattle.vrx_frames.specs.Run.{Packets}
use Rattle.vrx_repair.specs.Laws.{RepairsAre}
use Rattle.vrx_repair.specs.Order.{AnyOrder, AreAlike, AreSteps}
use Rattle.vrx_repair.specs.Plan.{repairs_in}
use Rattle.vrx_repair.specs.Source.{Source}
use Rattle.vrx_repair.specs.Step.{IsClosed, first_step, repairs, step, with_repair, with_repairs}
use Rattle.vrx_repair.specs.Truth.{TrueRepairs}
use Rattle.vrx_core.specs.machine.Machine.{Snapshot, after_datagram, latest, snapshots, source_in, with_repaired}
use Rattle.vrx_core.specs.honest.Sender.{Sender}
use Rattle.vrx_core.specs.honest.HonestSender.{HonestSender}
use Rattle.vrx_core.specs.honest.HonestNetwork.{Origin, IsNear, packets_taken}
use Rattle.vrx_core.specs.honest.HonestTaken.{IsRepaired, RepairsInAnyOrder}
use Rattle.vrx_core.specs.declared.settings.Settings.{Settings}
use Rattle.vrx_core.specs.declared.event.Event.{Event}
use Rattle.vrx_core.specs.declared.original.NotTaken.{NotTaken}
use Rattle.vrx_core.proofs.machine.ClosedLemmas.{IsDone, done-made, packets-rise, within-placed}
use Rattle.vrx_core.proofs.machine.VerdictLemmas.{fresh-is, verdict-taken}
use Rattle.vrx_core.proofs.honest.KeptLemmas.{AreKept}
use Rattle.vrx_core.proofs.honest.RightLemmas.{are-right, first-some, right-media, right-parity, right_of}
use Rattle.vrx_core.proofs.honest.TookLemmas.{Took, TookNow, far-from, placed-now}
use Rattle.vrx_core.proofs.honest.WireLemmas.{Brings}

-- repairs are steps
repairs-steps : (source : Source) (newest : Option ℕ) (dead : List ℕ) (more : ℕ) (packets : Packets) →
    AreSteps source newest dead packets (repairs source newest dead more packets)
repairs-steps source newest dead zero packets = tt
repairs-steps source newest dead (suc more) packets =
    by_value (first_step source newest dead packets) refl (repairs-steps source newest dead more) where
      by_value : (o : Option (ℕ × Content)) → first_step source newest dead packets ≡ o →
          ((others : Packets) → AreSteps source newest dead others (repairs source newest dead more others)) →
          AreSteps source newest dead packets
          (option_map_or (λ repair. repair ∷ repairs source newest dead more (with_repair repair packets)) o [])
      by_value None is later = tt
      by_value (Some repair) is later = (
        first-some (step source newest dead packets) (map (λ entry. entry.0) packets) repair is,
        later (with_repair repair packets),
      )

module _ (truth : TrueRepairs) (any : AnyOrder) (are : RepairsAre) (settings : Settings) (codec : Meaning)
    (sender : Sender) (honest : HonestSender settings codec sender) where
  -- whatever steps are made in a window of the sender's packets until none is left, the packets in the end are those of
  -- the repairs
  made-alike : (js : List ℕ) (placed : Contents Content) →
      ((n : ℕ) → is_available n placed.packets ≡ true → HALF_SPACE ≤ n) → AreKept sender js placed.packets →
      IsDone (source_in settings codec) (with_repaired (repairs_in (source_in settings codec) placed) placed) →
      (made : List (ℕ × Content)) →
      AreSteps (source_in settings codec) placed.newest placed.dead placed.packets made →
      IsClosed (source_in settings codec) placed.newest placed.dead (with_repairs made placed.packets) →
      AreAlike (with_repairs made placed.packets)
      (with_repaired (repairs_in (source_in settings codec) placed) placed).packets
  unfolding repairs_in
  made-alike js placed far kept closed made steps done =
      any (right_of sender js) (source_in settings codec) placed.newest placed.dead
      (truth (right_of sender js) (source_in settings codec) (right-media settings codec sender honest js)
      (right-parity settings codec sender honest js) placed.newest placed.dead)
      placed.packets made (repairs (source_in settings codec) placed.newest placed.dead WINDOW placed.packets)
      (are-right sender js placed.packets far kept) steps done
      (repairs-steps (source_in settings codec) placed.newest placed.dead WINDOW placed.packets) closed

  -- the repairs of a sender's datagram that is taken don't depend on their order
  pub any-order : GivesMeant → GivesPicture → (h : List Event) (origins : List Origin) →
      Took sender (snapshots settings codec h) (packets_taken settings codec h origins) →
      (moment : ℕ) (octets : List ℕ) (i : ℕ) → Brings settings codec sender i octets →
      IsNear i (packets_taken settings codec h origins) → RepairsInAnyOrder settings codec h moment octets
  unfolding snapshots
  any-order meant picture h origins t moment octets i b near n content is made steps done =
      let past : List Snapshot = snapshots settings codec h in
      let js : List ℕ = packets_taken settings codec h origins in
      let window : Contents Content = (latest past).window in
      let placed : Contents Content = after_placing n content window in
      let now : TookNow sender placed (i ∷ js) (IsRepaired past) =
      placed-now sender meant picture truth settings codec honest past js t moment i octets b near n content is in
      let closed : IsDone (source_in settings codec)
      (with_repaired (repairs_in (source_in settings codec) placed) placed) =
      done-made are settings codec placed (within-placed window n content
      (fresh-is window n (verdict-taken settings codec window octets n content is).fresh)
      (packets-rise settings codec h)) in
      subst (λ (r : Result (ℕ × Content) NotTaken). AreAlike (with_repairs made placed.packets)
      (after_datagram (source_in settings codec) past moment r).window.packets) (sym is)
      (made-alike (i ∷ js) placed
      (far-from sender i js (IsRepaired past) placed.newest placed.packets now.newest now.keeps) now.kept closed made
      steps done)
