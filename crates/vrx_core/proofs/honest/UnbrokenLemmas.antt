-- No number that is available was given up, and no number of a frame that was pulled. So no packet of a frame was given
-- up, if its numbers are all available or if it was pulled.
use Rattle.std.proofs.Common.{◌≡◌, ℕ, ◌+◌, ◌<◌, ◌≤◌, true, false, not, ◌&&◌, List, [], ◌∷◌, length, Contains, Option, Some, None, IfSome, Result, Ok, Err, refl, sym, ◌∙◌, ap, subst, arith, inl, inr}
use Rattle.std.proofs.lemmas.Bool.{and_parts, false_from_ne_true, not-true, or_cases, or_from, true≢false}
use Rattle.vrx_codec.specs.Meaning.{Meaning}
use Rattle.vrx_window.specs.Content.{Content}
use Rattle.vrx_window.specs.Window.{Contents, after_placing, is_available, newest_with}
use Rattle.vrx_frames.specs.Completed.{is_among}
use Rattle.vrx_frames.specs.Run.{Run, is_passed}
use Rattle.vrx_frames.specs.IsRun.{RunsAre}
use Rattle.vrx_repair.specs.Source.{Source}
use Rattle.vrx_core.specs.machine.Available.{IsInWindow}
use Rattle.vrx_core.specs.machine.GivenUp.{is_lost, numbers_left}
use Rattle.vrx_core.specs.machine.Machine.{Snapshot, after_datagram, after_pull, after_tick, last_pulled, latest, next_run, snapshots, source_in}
use Rattle.vrx_core.specs.machine.PulledRise.{Rise}
use Rattle.vrx_core.specs.machine.Verdict.{verdict}
use Rattle.vrx_core.specs.honest.Sender.{Sender}
use Rattle.vrx_core.specs.honest.HonestNetwork.{Origin, packets_taken}
use Rattle.vrx_core.specs.honest.Ready.{HasNumbers, IsNumber, WasPulled}
use Rattle.vrx_core.specs.honest.HonestCall.{NoneGivenUp}
use Rattle.vrx_core.specs.declared.settings.Settings.{Settings}
use Rattle.vrx_core.specs.declared.event.Event.{Event}
use Rattle.vrx_core.specs.declared.event.Event.TheVariants.{Datagram, Tick, Pull}
use Rattle.vrx_core.specs.declared.original.NotTaken.{NotTaken}
use Rattle.vrx_core.proofs.machine.AnswerLemmas.{answer-given}
use Rattle.vrx_core.proofs.machine.MemberLemmas.{Contains-either, Contains-empty, filter-from}
use Rattle.vrx_core.proofs.machine.PacketLemmas.{placed_cases}
use Rattle.vrx_core.proofs.machine.PulledLemmas.{pulled_rise}
use Rattle.vrx_core.proofs.machine.StandingLemmas.{IsRunNow, standing_is, standing-from}
use Rattle.vrx_core.proofs.asking.AskingLemmas.{lost-stays}
use Rattle.vrx_core.proofs.asking.FrontLemmas.{available-within, last-passed, passed-upto}
use Rattle.vrx_core.proofs.asking.MadeLemmas.{made_numbers, made-available}
use Rattle.vrx_core.proofs.asking.RangeLemmas.{among-from}
use Rattle.vrx_core.proofs.asking.SaneLemmas.{taken-not-lost, tick-lost-missing}
use Rattle.vrx_core.proofs.honest.FrameLemmas.{pieces-present}
use Rattle.vrx_core.proofs.honest.KeepsLemmas.{near-number}

module _ (settings : Settings) (codec : Meaning) (h : List Event) (moment : ℕ) (octets : List ℕ) where
  -- what was left before a datagram, and the source whose packets are repaired
  abbrev before_it : List Snapshot
  before_it = snapshots settings codec h

  abbrev repaired_by : Source
  repaired_by = source_in settings codec

  -- and what is left after it, by its verdict
  abbrev after_it : Result (ℕ × Content) NotTaken → Snapshot
  after_it v = after_datagram repaired_by before_it moment v

  -- what is available wasn't given up: so it stays with a datagram, whatever the verdict
  datagram-available : (v : Result (ℕ × Content) NotTaken) (m : ℕ) →
      verdict settings codec (latest before_it).window octets ≡ v →
      (is_available m (latest before_it).window.packets ≡ true → is_lost before_it m ≡ false) →
      (is_lost before_it m ≡ true → ¬ Contains (after_it v).repaired m) →
      (is_available m (after_it v).window.packets ≡ true → IsInWindow (after_it v).window.newest m) →
      is_available m (after_it v).window.packets ≡ true → is_lost (after_it v ∷ before_it) m ≡ false
  datagram-available (Err left) m is before leaves inside there = before there
  datagram-available (Ok (n, content)) m is before leaves inside there =
      or_from (is_among (after_it (Ok (n, content))).lost m) (is_lost before_it m)
      (taken-not-lost repaired_by before_it moment n content m (inside there).0) was where
        placed : Contents Content
        placed = after_placing n content (latest before_it).window

        was : is_lost before_it m ≡ false
        was = elim (or_cases (is_available m placed.packets) (is_among (made_numbers repaired_by placed) m)
            (sym (made-available repaired_by placed m) ∙ there)) [
              | inl placed_there ↦ elim (placed_cases (newest_with (latest before_it).window.newest n) n m content
                  (latest before_it).window.packets placed_there) [
                    | inl same ↦ false_from_ne_true (is_lost before_it m)
                        (λ lost. (lost-stays settings codec h m lost).1 octets content
                        (is ∙ ap (λ (k : ℕ). Ok (k, content)) (sym same)))
                    | inr old ↦ before old.1
                  ]
              | inr made ↦ false_from_ne_true (is_lost before_it m)
                  (λ lost. leaves lost (among-from (made_numbers repaired_by placed) m made))
            ]

module _ (settings : Settings) (codec : Meaning) where
  -- so it is after each history
  available-kept : (h : List Event) (m : ℕ) →
      is_available m (latest (snapshots settings codec h)).window.packets ≡ true →
      is_lost (snapshots settings codec h) m ≡ false
  unfolding snapshots
  available-kept [] m there = refl
  available-kept (Datagram moment octets ∷ h) m there =
      datagram-available settings codec h moment octets
      (verdict settings codec (latest (snapshots settings codec h)).window octets) m
      refl (available-kept h m)
      (λ lost. (lost-stays settings codec h m lost).2 (Datagram moment octets))
      (available-within settings codec (Datagram moment octets ∷ h) m) there
  available-kept (Tick moment ∷ h) m there =
      let past : List Snapshot = snapshots settings codec h in
      or_from (is_among (after_tick settings past moment).lost m) (is_lost past m)
      (false_from_ne_true (is_among (after_tick settings past moment).lost m)
      (λ new. true≢false (sym there ∙ (tick-lost-missing settings past moment m new).absent)))
      (available-kept h m there)
  available-kept (Pull moment ∷ h) m there =
      pull-available (snapshots settings codec h) moment (next_run (latest (snapshots settings codec h))) m
      (available-kept h m) there where
        pull-available : (past : List Snapshot) (moment : ℕ) (o : Option Run) (m : ℕ) →
            (is_available m (latest past).window.packets ≡ true → is_lost past m ≡ false) →
            is_available m (after_pull codec past moment o).window.packets ≡ true →
            is_lost (after_pull codec past moment o ∷ past) m ≡ false
        pull-available past moment None m before there = before there
        pull-available past moment (Some run) m before there = before there

-- a number up to the last one of some of the frames pulled is passed, if they rise and the last number of all is
passed-each : (front : Option ℕ) (runs : List Run) (run : Run) (n : ℕ) → Rise runs →
    IfSome (last_pulled runs) (λ l. is_passed front l ≡ true) → Contains runs run → n ≤ run.last →
    is_passed front n ≡ true
passed-each front [] run n rise passed there upto = absurd (Contains-empty run there)
passed-each front (r ∷ rs) run n rise passed there upto = elim (Contains-either r rs run there) [
  | inl same ↦ passed-upto front r.last n passed (subst (λ (x : Run). n ≤ x.last) (sym same) upto)
  | inr later ↦ passed-each front rs run n rise.2 (further (last_pulled rs) rise.1) later upto
] where
  further : (o : Option ℕ) → IfSome o (λ l. l < r.first) → IfSome o (λ l. is_passed front l ≡ true)
  further None less = tt
  further (Some l) less =
      let within : r.first ≤ r.last = rise.0 in passed-upto front r.last l passed (omega (arith, less, within))

module _ (are : RunsAre) (settings : Settings) (codec : Meaning) where
  -- a number up to the last of a frame that was pulled is passed
  pub pulled-passed : (h : List Event) (run : Run) (n : ℕ) →
      Contains (latest (snapshots settings codec h)).pulled run → n ≤ run.last →
      is_passed (latest (snapshots settings codec h)).front n ≡ true
  pulled-passed h run n there upto =
      let s : Snapshot = latest (snapshots settings codec h) in
      passed-each s.front s.pulled run n (pulled_rise are settings codec h) (last-passed settings codec h) there upto

  -- no number of a frame that was pulled was given up
  abbrev KeepsPulled : Snapshot → List Snapshot → Type 0
  KeepsPulled s past = (run : Run) (n : ℕ) → Contains s.pulled run → run.first ≤ n → n ≤ run.last →
      is_lost past n ≡ false

  -- so it stays with a datagram
  datagram-keeps : (source : Source) (past : List Snapshot) (moment : ℕ) (v : Result (ℕ × Content) NotTaken)
      → ((run : Run) (n : ℕ) → Contains (after_datagram source past moment v).pulled run → n ≤ run.last →
      is_passed (after_datagram source past moment v).front n ≡ true)
      → KeepsPulled (latest past) past →
      KeepsPulled (after_datagram source past moment v) (after_datagram source past moment v ∷ past)
  datagram-keeps source past moment (Err left) passed before run m there from upto = before run m there from upto
  datagram-keeps source past moment (Ok (n, content)) passed before run m there from upto =
      let s : Snapshot = after_datagram source past moment (Ok (n, content)) in
      or_from (is_among s.lost m) (is_lost past m) (false_from_ne_true (is_among s.lost m) (λ new.
      let tests : (not (is_passed s.front m) && not (is_lost past m)) ≡ true =
      (filter-from (λ k. not (is_passed s.front k) && not (is_lost past k))
      (numbers_left s.window.first (latest past).window.newest s.window.newest) m (among-from s.lost m new)).1 in
      true≢false (sym (passed run m there upto)
      ∙ not-true (is_passed s.front m) (and_parts (not (is_passed s.front m)) (not (is_lost past m)) tests).0)))
      (before run m there from upto)

  -- and with a pull, if the numbers of the run that it gives weren't given up
  pull-keeps : (past : List Snapshot) (moment : ℕ) (o : Option Run)
      → ((run : Run) (n : ℕ) → o ≡ Some run → run.first ≤ n → n ≤ run.last → is_lost past n ≡ false)
      → KeepsPulled (latest past) past →
      KeepsPulled (after_pull codec past moment o) (after_pull codec past moment o ∷ past)
  pull-keeps past moment None given before run n there from upto = before run n there from upto
  pull-keeps past moment (Some new) given before run n there from upto =
      elim (Contains-either new (latest past).pulled run there) [
        | inl same ↦ given run n (ap (λ (x : Run). Some x) same) from upto
        | inr old ↦ before run n old from upto
      ]

  -- the run that a pull gives has only available numbers
  given-kept : (h : List Event) (run : Run) (n : ℕ) → next_run (latest (snapshots settings codec h)) ≡ Some run →
      run.first ≤ n → n ≤ run.last → is_lost (snapshots settings codec h) n ≡ false
  given-kept h run n is from upto =
      let past : List Snapshot = snapshots settings codec h in
      let s : Snapshot = latest past in
      let r : IsRunNow codec past run =
      (standing-from are codec past (standing_is settings codec h) run
      (answer-given s.told s.pulled s.front s.standing run is).0).0 in
      let to : run.first + length r.pieces ≡ run.last + 1 = r.to_last in
      available-kept settings codec h n
      (pieces-present codec s.window.packets run.first n r.pieces r.from_first from (omega (arith, to, upto)))

  -- so it is after each history
  pulled-kept : (h : List Event) → KeepsPulled (latest (snapshots settings codec h)) (snapshots settings codec h)
  unfolding snapshots
  pulled-kept [] run n there from upto = absurd (Contains-empty run there)
  pulled-kept (Datagram moment octets ∷ h) run n there from upto =
      let past : List Snapshot = snapshots settings codec h in
      datagram-keeps (source_in settings codec) past moment (verdict settings codec (latest past).window octets)
      (pulled-passed (Datagram moment octets ∷ h)) (pulled-kept h) run n there from upto
  pulled-kept (Tick moment ∷ h) run n there from upto =
      let past : List Snapshot = snapshots settings codec h in
      let lost : List ℕ = (after_tick settings past moment).lost in
      or_from (is_among lost n) (is_lost past n) (false_from_ne_true (is_among lost n) (λ new.
      true≢false (sym (pulled-passed h run n there upto) ∙ (tick-lost-missing settings past moment n new).not_passed)))
      (pulled-kept h run n there from upto)
  pulled-kept (Pull moment ∷ h) run n there from upto =
      let past : List Snapshot = snapshots settings codec h in
      pull-keeps past moment (next_run (latest past)) (given-kept h) (pulled-kept h) run n there from upto

  module _ (sender : Sender) (h : List Event) (origins : List Origin) where
    -- no packet of a frame was given up, if no number of the frame was
    numbers-kept : (f first last : ℕ) → HasNumbers sender (packets_taken settings codec h origins) f first last
        → ((n : ℕ) → first ≤ n → n ≤ last → is_lost (snapshots settings codec h) n ≡ false) →
        NoneGivenUp settings codec sender h origins f
    numbers-kept f first last numbered kept i of given =
        let js : List ℕ = packets_taken settings codec h origins in
        let n : ℕ = given.0 in
        let is : IsNumber sender js i n = given.1 in
        let within : (numbered.from ≤ i) × (i ≤ numbered.to) = (numbered.spans.exactly i).0 of in
        let from : first < n + 1 =
        near-number sender js i numbered.from n first 1 is numbered.first_is (omega (arith, within.0)) in
        let upto : n < last + 1 =
        near-number sender js numbered.to i last n 1 numbered.last_is is (omega (arith, within.1)) in
        true≢false (sym given.2 ∙ kept n (omega (arith, from)) (omega (arith, upto)))

    -- if its numbers are available
    pub available-unbroken : (f first last : ℕ) → HasNumbers sender (packets_taken settings codec h origins) f first last
        → ((n : ℕ) → first ≤ n → n ≤ last →
        is_available n (latest (snapshots settings codec h)).window.packets ≡ true) →
        NoneGivenUp settings codec sender h origins f
    available-unbroken f first last numbered available =
        numbers-kept f first last numbered
        (λ n from upto. available-kept settings codec h n (available n from upto))

    -- and if it was pulled
    pub pulled-unbroken : (f : ℕ) → WasPulled settings codec sender h origins f →
        NoneGivenUp settings codec sender h origins f
    pulled-unbroken f was =
        numbers-kept f was.run.first was.run.last was.numbered (λ n from upto. pulled-kept h was.run n was.pulled from upto)
