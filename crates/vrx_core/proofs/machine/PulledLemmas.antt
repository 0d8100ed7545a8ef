-- The frames pulled lie one after the other.
use Rattle.std.proofs.Common.{◌≡◌, ℕ, ◌<◌, ◌≤◌, max, true, List, [], ◌∷◌, Contains, All, Option, Some, None, IfSome, Result, Ok, Err, refl, sym, subst, arith}
use Rattle.std.specs.List.{AllByRecursion}
use Rattle.std.proofs.lemmas.Bool.{leb-false, not-true}
use Rattle.std.proofs.lemmas.List.Elements.{All-from_recursion, All-head}
use Rattle.vrx_codec.specs.Meaning.{Meaning}
use Rattle.vrx_window.specs.Content.{Content}
use Rattle.vrx_frames.specs.Front.{front_after}
use Rattle.vrx_frames.specs.Run.{Packets, Run, is_start, stands}
use Rattle.vrx_frames.specs.IsRun.{RunsAre}
use Rattle.vrx_repair.specs.Source.{Source}
use Rattle.vrx_core.specs.machine.Verdict.{verdict}
use Rattle.vrx_core.specs.machine.Standing.{began_after_end, runs, standing_of}
use Rattle.vrx_core.specs.machine.Told.{Told, place_told}
use Rattle.vrx_core.specs.machine.Snapshot.{moved}
use Rattle.vrx_core.specs.machine.Machine.{Snapshot, latest, last_pulled, times, next_run, after_settling, after_packet, after_datagram, after_pull, snapshots, source_in}
use Rattle.vrx_core.specs.machine.PulledRise.{Rise, PulledRiseHolds}
use Rattle.vrx_core.specs.declared.settings.Settings.{Settings}
use Rattle.vrx_core.specs.declared.event.Event.{Event}
use Rattle.vrx_core.specs.declared.event.Event.TheVariants.{Datagram, Tick, Pull}
use Rattle.vrx_core.specs.declared.original.NotTaken.{NotTaken}
use Rattle.vrx_core.proofs.machine.AnswerLemmas.{answer-from}
use Rattle.vrx_core.proofs.machine.MemberLemmas.{Contains-empty, filter-from}

-- a run that stands lies beyond the last number of the last frame pulled
pub stands-beyond : (pulled : Option ℕ) (run : Run) → stands pulled run ≡ true →
    IfSome pulled (λ last. last < run.first)
stands-beyond None run h = tt
stands-beyond (Some last) run h = leb-false run.first last (not-true _ h)

-- no run ends before it begins
abbrev NoneEndsBefore : List Run → Type 0
NoneEndsBefore rs = (run : Run) → Contains rs run → run.first ≤ run.last

module _ (law : RunsAre) (codec : Meaning) where
  -- the runs that stand don't
  standing-ends : (told : Told) (times : List Packets) (front last : Option ℕ) (packets : Packets) →
      NoneEndsBefore (standing_of codec told times front last packets)
  standing-ends told times front last packets run there =
      ((law codec (place_told told) (is_start front (began_after_end times)) packets run).0
      (filter-from (stands last) (runs codec told times front packets) run there).0).not_empty

  -- so it is once a snapshot is settled
  after_settling-ends : (past : List Snapshot) (s : Snapshot) → NoneEndsBefore (after_settling codec past s).standing
  after_settling-ends past s =
      let front : Option ℕ = front_after s.front (last_pulled s.pulled) s.window.packets in
      standing-ends s.told (s.window.packets ∷ times past) front (last_pulled s.pulled) s.window.packets

  -- and after a datagram
  datagram_ends : (settings : Settings) (past : List Snapshot) (moment : ℕ) (v : Result (ℕ × Content) NotTaken) →
      NoneEndsBefore (latest past).standing →
      NoneEndsBefore (after_datagram (source_in settings codec) past moment v).standing
  datagram_ends settings past moment (Err left) ends = ends
  datagram_ends settings past moment (Ok (n, content)) ends =
      after_settling-ends past (after_packet (source_in settings codec) n content (moved (latest past) moment))

  -- and after a pull
  pull_ends : (past : List Snapshot) (moment : ℕ) (o : Option Run) → NoneEndsBefore (latest past).standing →
      NoneEndsBefore (after_pull codec past moment o).standing
  pull_ends past moment None ends = ends
  pull_ends past moment (Some run) ends =
      let s : Snapshot = latest past in
      after_settling-ends past (record s { now = max s.now moment; pulled = run ∷ s.pulled })

  -- of the runs that stand, after each history, none ends before it begins
  pub standing_ends : (settings : Settings) (h : List Event) →
      NoneEndsBefore (latest (snapshots settings codec h)).standing
  unfolding snapshots
  standing_ends settings [] = λ run there. absurd (Contains-empty run there)
  standing_ends settings (Datagram moment octets ∷ h) =
      let past : List Snapshot = snapshots settings codec h in
      datagram_ends settings past moment (verdict settings codec (latest past).window octets) (standing_ends settings h)
  standing_ends settings (Tick moment ∷ h) = standing_ends settings h
  standing_ends settings (Pull moment ∷ h) =
      let past : List Snapshot = snapshots settings codec h in
      pull_ends past moment (next_run (latest past)) (standing_ends settings h)

  -- the run that a pull gives doesn't end before it begins, and begins beyond the last one pulled
  given-rises : (s : Snapshot) → NoneEndsBefore s.standing → (run : Run) → next_run s ≡ Some run →
      (run.first ≤ run.last) × IfSome (last_pulled s.pulled) (λ last. last < run.first)
  given-rises s ends run is =
      let there : Contains s.standing run × (stands (last_pulled s.pulled) run ≡ true) =
      answer-from s.told s.pulled s.front s.standing run is in
      (ends run there.0, stands-beyond (last_pulled s.pulled) run there.1)

-- a datagram leaves the frames pulled
datagram_pulled : (source : Source) (past : List Snapshot) (moment : ℕ) (v : Result (ℕ × Content) NotTaken) →
    (after_datagram source past moment v).pulled ≡ (latest past).pulled
datagram_pulled source past moment (Ok (n, content)) = refl
datagram_pulled source past moment (Err left) = refl

-- a pull puts the run that it gives first
pull_rises : (codec : Meaning) (past : List Snapshot) (moment : ℕ) (o : Option Run) →
    ((run : Run) → o ≡ Some run →
    (run.first ≤ run.last) × IfSome (last_pulled (latest past).pulled) (λ last. last < run.first))
    → Rise (latest past).pulled → Rise (after_pull codec past moment o).pulled
pull_rises codec past moment None given rise = rise
pull_rises codec past moment (Some run) given rise = ((given run refl).0, (given run refl).1, rise)

-- the frames pulled rise
pub pulled_rise : RunsAre → PulledRiseHolds
unfolding snapshots
pulled_rise law settings codec [] = tt
pulled_rise law settings codec (Datagram moment octets ∷ h) =
    let past : List Snapshot = snapshots settings codec h in
    subst Rise (sym (datagram_pulled (source_in settings codec) past moment (verdict settings codec (latest past).window octets)))
    (pulled_rise law settings codec h)
pulled_rise law settings codec (Tick moment ∷ h) = pulled_rise law settings codec h
pulled_rise law settings codec (Pull moment ∷ h) =
    let past : List Snapshot = snapshots settings codec h in
    pull_rises codec past moment (next_run (latest past))
    (λ run is. given-rises law codec (latest past) (standing_ends law codec settings h) run is)
    (pulled_rise law settings codec h)

-- what lies beyond the last of frames that rise lies beyond each of them
rise-beyond : (frames : List Run) (n : ℕ) → Rise frames → IfSome (last_pulled frames) (λ last. last < n) →
    AllByRecursion (λ frame. frame.last < n) frames
rise-beyond [] n rise beyond = tt
rise-beyond (frame ∷ before) n rise beyond =
    (beyond, rise-beyond before n rise.2 (further (last_pulled before) rise.1)) where
      upto : frame.first < n
      upto = let within : frame.first ≤ frame.last = rise.0 in omega arith

      further : (o : Option ℕ) → IfSome o (λ last. last < frame.first) → IfSome o (λ last. last < n)
      further None less = tt
      further (Some last) less = omega (arith, less, upto)

-- what lies beyond the last frame pulled lies beyond every frame pulled
pub beyond-every : RunsAre → (settings : Settings) (codec : Meaning) (h : List Event) (n : ℕ) →
    IfSome (last_pulled (latest (snapshots settings codec h)).pulled) (λ last. last < n) →
    All (λ frame. frame.last < n) (latest (snapshots settings codec h)).pulled
beyond-every law settings codec h n beyond =
    let frames : List Run = (latest (snapshots settings codec h)).pulled in
    All-from_recursion (λ frame. frame.last < n) frames
    (rise-beyond frames n (pulled_rise law settings codec h) beyond)

-- what lies beyond every frame lies beyond the last one
pub beyond-last : (frames : List Run) (n : ℕ) → All (λ frame. frame.last < n) frames →
    IfSome (last_pulled frames) (λ last. last < n)
beyond-last [] n all = tt
beyond-last (frame ∷ before) n all = All-head (λ f. f.last < n) frame before all
