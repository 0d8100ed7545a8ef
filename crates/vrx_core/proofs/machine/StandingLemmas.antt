-- The runs that stand after a history are the whole frames among the packets available then, by all that was
-- available at the end of each event.
use Rattle.std.proofs.Common.{◌<◌, ◌≤◌, IfSome, ◌≡◌, ℕ, Bool, true, false, ◌||◌, List, [], ◌∷◌, Contains, Option, Some, None, Result, Ok, Err, refl, sym, ◌∙◌, ap, subst}
use Rattle.std.specs.Prelude.{filter, not}
use Rattle.std.proofs.lemmas.Bool.{lt-leb}
use Rattle.vrx_codec.specs.Meaning.{Meaning}
use Rattle.vrx_window.specs.Content.{Content}
use Rattle.vrx_frames.specs.Run.{Packets, Run, is_start, runs_by, stands, stands_after_end}
use Rattle.vrx_frames.specs.IsRun.{IsRunBy, RunsAre}
use Rattle.vrx_core.specs.machine.Verdict.{verdict}
use Rattle.vrx_core.specs.machine.Deliverable.{is_deliverable}
use Rattle.vrx_core.specs.machine.Standing.{began_after_end, standing_of}
use Rattle.vrx_core.specs.machine.Told.{place_told}
use Rattle.vrx_core.specs.machine.Snapshot.{moved}
use Rattle.vrx_core.specs.machine.Machine.{Snapshot, latest, times, last_pulled, after_datagram, after_pull, next_run, snapshots, source_in}
use Rattle.vrx_core.specs.declared.settings.Settings.{Settings}
use Rattle.vrx_core.specs.declared.event.Event.{Event}
use Rattle.vrx_core.specs.declared.event.Event.TheVariants.{Datagram, Tick, Pull}
use Rattle.vrx_core.specs.declared.original.NotTaken.{NotTaken}
use Rattle.vrx_core.proofs.machine.AnswerLemmas.{answer-given}
use Rattle.vrx_core.proofs.machine.MemberLemmas.{filter-from, filter-to}
use Rattle.vrx_core.proofs.machine.PulledLemmas.{stands-beyond}
use Rattle.vrx_core.proofs.machine.TestLemmas.{same_tests}

-- what was available twice tells no more than once
once : (a b : Bool) → (a || (a || b)) ≡ (a || b)
once true b = refl
once false b = refl

began-again : (packets : Packets) (earlier : List Packets) →
    began_after_end (packets ∷ packets ∷ earlier) ≡ began_after_end (packets ∷ earlier)
began-again packets earlier =
    same_tests (began_after_end (packets ∷ packets ∷ earlier)) (began_after_end (packets ∷ earlier))
    (λ n. once (stands_after_end n packets) (began_after_end earlier n))

-- the runs that stand are the whole frames
abbrev pub IsSettled : Meaning → List Snapshot → Type 0
IsSettled codec past = (latest past).standing ≡ standing_of codec (latest past).told (times past) (latest past).front
    (last_pulled (latest past).pulled) (latest past).window.packets

-- an event that moves only the clock leaves them
pub tick_settled : (codec : Meaning) (past : List Snapshot) (moment : ℕ) → IsSettled codec past →
    IsSettled codec (moved (latest past) moment ∷ past)
tick_settled codec [] moment is = refl
tick_settled codec (s ∷ past) moment is = is
    ∙ ap (λ began. filter (stands (last_pulled s.pulled))
    (runs_by codec (place_told s.told) (is_start s.front began) s.window.packets))
    (sym (began-again s.window.packets (times past)))

-- a datagram
datagram_settled : (settings : Settings) (codec : Meaning) (past : List Snapshot) (moment : ℕ)
    (v : Result (ℕ × Content) NotTaken) → IsSettled codec past →
    IsSettled codec (after_datagram (source_in settings codec) past moment v ∷ past)
datagram_settled settings codec past moment (Err left) is = tick_settled codec past moment is
datagram_settled settings codec past moment (Ok (n, content)) is = refl

-- a pull
pull_settled : (codec : Meaning) (past : List Snapshot) (moment : ℕ) (o : Option Run) → IsSettled codec past →
    IsSettled codec (after_pull codec past moment o ∷ past)
pull_settled codec past moment None is = tick_settled codec past moment is
pull_settled codec past moment (Some run) is = refl

-- so it is after every history
pub standing_is : (settings : Settings) (codec : Meaning) (h : List Event) →
    IsSettled codec (snapshots settings codec h)
unfolding snapshots
standing_is settings codec [] = refl
standing_is settings codec (Datagram moment octets ∷ h) =
    let past : List Snapshot = snapshots settings codec h in
    datagram_settled settings codec past moment (verdict settings codec (latest past).window octets)
    (standing_is settings codec h)
standing_is settings codec (Tick moment ∷ h) =
    tick_settled codec (snapshots settings codec h) moment (standing_is settings codec h)
standing_is settings codec (Pull moment ∷ h) =
    let past : List Snapshot = snapshots settings codec h in
    pull_settled codec past moment (next_run (latest past)) (standing_is settings codec h)

-- what a run is that may stand
abbrev pub IsRunNow : Meaning → List Snapshot → Run → Type 0
IsRunNow codec past run =
    IsRunBy codec (place_told (latest past).told) (is_start (latest past).front (began_after_end (times past)))
    (latest past).window.packets run

module _ (are : RunsAre) (codec : Meaning) (past : List Snapshot) (settled : IsSettled codec past) (run : Run) where
  -- a run that stands is a whole frame, beyond the last frame pulled
  pub standing-from : Contains (latest past).standing run →
      IsRunNow codec past run × (stands (last_pulled (latest past).pulled) run ≡ true)
  standing-from there =
      let s : Snapshot = latest past in
      let starts = is_start s.front (began_after_end (times past)) in
      let both : Contains (runs_by codec (place_told s.told) starts s.window.packets) run
      × (stands (last_pulled s.pulled) run ≡ true) =
      filter-from (stands (last_pulled s.pulled)) (runs_by codec (place_told s.told) starts s.window.packets) run
      (subst (λ rs. Contains rs run) settled there) in
      ((are codec (place_told s.told) starts s.window.packets run).0 both.0, both.1)

  -- and back
  pub standing-to : IsRunNow codec past run → stands (last_pulled (latest past).pulled) run ≡ true →
      Contains (latest past).standing run
  standing-to is beyond =
      let s : Snapshot = latest past in
      let starts = is_start s.front (began_after_end (times past)) in
      subst (λ rs. Contains rs run) (sym settled)
      (filter-to (stands (last_pulled s.pulled)) (runs_by codec (place_told s.told) starts s.window.packets) run
      ((are codec (place_told s.told) starts s.window.packets run).1 is) beyond)

-- a number beyond the last one pulled, as the test says it
pub stands_from : (o : Option ℕ) (run : Run) → IfSome o (λ last. last < run.first) → stands o run ≡ true
stands_from None run h = refl
stands_from (Some last) run h = ap not (lt-leb run.first last h)

-- the run that a pull gives doesn't end before it begins, and begins beyond the last one pulled
pub given-rises : RunsAre → (codec : Meaning) (past : List Snapshot) (run : Run) → IsSettled codec past →
    next_run (latest past) ≡ Some run →
    (run.first ≤ run.last) × IfSome (last_pulled (latest past).pulled) (λ last. last < run.first)
given-rises are codec past run settled is =
    let s : Snapshot = latest past in
    let given : Contains s.standing run × (is_deliverable s.told s.pulled s.front run ≡ true) =
    answer-given s.told s.pulled s.front s.standing run is in
    let stood : IsRunNow codec past run × (stands (last_pulled s.pulled) run ≡ true) =
    standing-from are codec past settled run given.0 in
    (stood.0.not_empty, stands-beyond (last_pulled s.pulled) run stood.1)
