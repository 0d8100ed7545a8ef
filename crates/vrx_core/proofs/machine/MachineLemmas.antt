-- The machine, one event at a time.
use Rattle.std.proofs.Common.{◌≡◌, ℕ, max, List, [], ◌∷◌, Option, Some, None, Result, Ok, Err, refl, ◌∙◌, ap}
use Rattle.vrx_codec.specs.Meaning.{Meaning}
use Rattle.vrx_window.specs.Content.{Content}
use Rattle.vrx_frames.specs.Run.{Run}
use Rattle.vrx_repair.specs.Source.{Source}
use Rattle.vrx_core.specs.machine.Clock.{ClockHolds}
use Rattle.vrx_core.specs.machine.Verdict.{verdict}
use Rattle.vrx_core.specs.machine.Machine.{Snapshot, latest, after_datagram, after_pull, next, next_run, reply_between, with_next, snapshots, source_in, reply}
use Rattle.vrx_core.specs.declared.settings.Settings.{Settings}
use Rattle.vrx_core.specs.declared.original.NotTaken.{NotTaken}
use Rattle.vrx_core.specs.declared.event.Event.{Event}
use Rattle.vrx_core.specs.declared.event.Event.TheVariants.{Datagram, Tick, Pull}

-- what stands after one event more
pub snapshots-cons : (settings : Settings) (codec : Meaning) (e : Event) (h : List Event) →
    snapshots settings codec (e ∷ h) ≡ with_next settings codec (snapshots settings codec h) e
unfolding snapshots
snapshots-cons settings codec e h = refl

pub reply-is : (settings : Settings) (codec : Meaning) (h : List Event) (e : Event)
    → reply settings codec h e ≡ reply_between settings codec (snapshots settings codec h)
    (next settings codec (snapshots settings codec h) e) e
unfolding reply
reply-is settings codec h e = refl

-- a datagram moves the clock
datagram_now : (source : Source) (past : List Snapshot) (moment : ℕ) (v : Result (ℕ × Content) NotTaken) →
    (after_datagram source past moment v).now ≡ max (latest past).now moment
datagram_now source past moment (Ok (n, content)) = refl
datagram_now source past moment (Err left) = refl

-- and so does a pull
pull_now : (codec : Meaning) (past : List Snapshot) (moment : ℕ) (o : Option Run) →
    (after_pull codec past moment o).now ≡ max (latest past).now moment
pull_now codec past moment None = refl
pull_now codec past moment (Some run) = refl

-- the machine's clock is the greatest moment of the history
pub clock-is : ClockHolds
unfolding snapshots
clock-is settings codec [] = refl
clock-is settings codec (Datagram moment octets ∷ h) =
    let past : List Snapshot = snapshots settings codec h in
    datagram_now (source_in settings codec) past moment (verdict settings codec (latest past).window octets)
    ∙ ap (λ c. max c moment) (clock-is settings codec h)
clock-is settings codec (Tick moment ∷ h) = ap (λ c. max c moment) (clock-is settings codec h)
clock-is settings codec (Pull moment ∷ h) =
    let past : List Snapshot = snapshots settings codec h in
    pull_now codec past moment (next_run (latest past)) ∙ ap (λ c. max c moment) (clock-is settings codec h)
