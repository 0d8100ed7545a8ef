-- What holds of requests: how many there are of a number, how far apart they lie, and that what is asked for is
-- missing; and that what was given up stays so.
use Rattle.std.proofs.Common.{◌≡◌, ◌≢◌, ℕ, suc, ◌+◌, ◌<◌, ◌≤◌, ◌⊎◌, max, Bool, true, false, ◌&&◌, ◌==◌, List, [], ◌∷◌, length, Contains, Option, Some, None, Result, Ok, Err, refl, sym, ◌∙◌, ap, subst, arith, inl, inr, nat_lt}
use Rattle.std.proofs.lemmas.Bool.{and_from, and_parts, or_from, or_right, eqb-true, false_from_ne_true, leb-true, leb-false, ltb-true, true≢false}
use Rattle.vrx_num.specs.declared.limits.TheConstants.{MOST_REQUESTS, WINDOW}
use Rattle.vrx_codec.specs.Meaning.{Meaning}
use Rattle.vrx_window.specs.Content.{Content}
use Rattle.vrx_window.specs.Window.{Contents, after_placing, in_window, is_dead, is_inside, is_too_old, newest_with}
use Rattle.vrx_frames.specs.Completed.{is_among}
use Rattle.vrx_frames.specs.Run.{Run}
use Rattle.vrx_repair.specs.Source.{Source}
use Rattle.vrx_core.specs.machine.Asking.{AreApart, AskedAreMissingHolds, FewRequestsHold, IsMissing, LostStaysHolds, RequestsApartHold}
use Rattle.vrx_core.specs.machine.GivenUp.{is_lost}
use Rattle.vrx_core.specs.machine.Machine.{Snapshot, latest, next, next_run, after_datagram, after_pull, after_tick, after_settling, after_packet, snapshots, source_in}
use Rattle.vrx_core.specs.machine.Snapshot.{moved}
use Rattle.vrx_core.specs.machine.Request.{is_old, missing, requests}
use Rattle.vrx_core.specs.machine.Verdict.{verdict}
use Rattle.vrx_core.specs.declared.settings.Settings.{Settings}
use Rattle.vrx_core.specs.declared.event.Event.{Event}
use Rattle.vrx_core.specs.declared.event.Event.TheVariants.{Datagram, Tick, Pull}
use Rattle.vrx_core.specs.declared.original.NotTaken.{NotTaken}
use Rattle.vrx_core.proofs.machine.AvailableLemmas.{order-window}
use Rattle.vrx_core.proofs.machine.VerdictLemmas.{IsFresh, verdict-taken, fresh-is}
use Rattle.vrx_core.proofs.relation.ListLemmas.{Contains-empty, filter-from}
use Rattle.vrx_core.proofs.relation.WindowLemmas.{among-filter}
use Rattle.vrx_core.proofs.asking.AskLemmas.{requests-more, requests-none}
use Rattle.vrx_core.proofs.asking.MadeLemmas.{made-alive, made-inside, made_numbers}
use Rattle.vrx_core.proofs.asking.RangeLemmas.{among-from, among-to}
use Rattle.vrx_core.proofs.asking.SaneLemmas.{inside-before, sane, some-value, taken-asked-missing, tick-asked-missing}
use Rattle.vrx_core.proofs.asking.TakenLemmas.{missing-asked}

-- a datagram that asks for a number asks for the first time
taken-first : (source : Source) (past : List Snapshot) (moment n : ℕ) (content : Content) (m : ℕ) →
    is_among (after_datagram source past moment (Ok (n, content))).asked m ≡ true → length (requests past m) ≡ 0
taken-first source past moment n content m is =
    let s : Snapshot = after_settling source.codec past (after_packet source n content (moved (latest past) moment)) in
    eqb-true (length (requests past m)) 0
    (filter-from (λ k. length (requests (s ∷ past) k) == 0) (missing (s ∷ past)) m
    (among-from (after_datagram source past moment (Ok (n, content))).asked m is)).1

-- a tick that asks for a number asks again
tick-again : (settings : Settings) (past : List Snapshot) (moment m : ℕ) →
    is_among (after_tick settings past moment).asked m ≡ true
    → (length (requests past m) < MOST_REQUESTS)
    × (is_old settings.interval (max (latest past).now moment) (requests past m) ≡ true)
tick-again settings past moment m is =
    let now : ℕ = max (latest past).now moment in
    let passes : (nat_lt (length (requests past m)) MOST_REQUESTS && is_old settings.interval now (requests past m))
    ≡ true = (filter-from (λ k.
    nat_lt (length (requests past k)) MOST_REQUESTS && is_old settings.interval now (requests past k))
    (missing past) m (among-from (after_tick settings past moment).asked m is)).1 in
    let p : (nat_lt (length (requests past m)) MOST_REQUESTS ≡ true)
    × (is_old settings.interval now (requests past m) ≡ true) =
    and_parts (nat_lt (length (requests past m)) MOST_REQUESTS)
    (is_old settings.interval now (requests past m)) passes in
    (ltb-true (length (requests past m)) MOST_REQUESTS p.0, p.1)

-- a pull asks for nothing
pull-asks : (codec : Meaning) (past : List Snapshot) (moment : ℕ) (o : Option Run) (m : ℕ) →
    is_among (after_pull codec past moment o).asked m ≡ false
pull-asks codec past moment None m = refl
pull-asks codec past moment (Some run) m = refl

-- one request more is not too many
few-more : (s : Snapshot) (past : List Snapshot) (n : ℕ) →
    (is_among s.asked n ≡ true → length (requests past n) < MOST_REQUESTS) →
    length (requests past n) ≤ MOST_REQUESTS → length (requests (s ∷ past) n) ≤ MOST_REQUESTS
few-more s past n fewer few = by (is_among s.asked n) refl where
  by : (b : Bool) → is_among s.asked n ≡ b → length (requests (s ∷ past) n) ≤ MOST_REQUESTS
  by true is = let less : length (requests past n) < MOST_REQUESTS = fewer is in
      let e : length (requests (s ∷ past) n) ≡ suc (length (requests past n)) =
      ap (λ (ms : List ℕ). length ms) (requests-more s past n is) in omega (arith, less, e)
  by false is = let e : length (requests (s ∷ past) n) ≡ length (requests past n) =
      ap (λ (ms : List ℕ). length ms) (requests-none s past n is) in omega (arith, few, e)

few-datagram : (source : Source) (past : List Snapshot) (moment : ℕ) (v : Result (ℕ × Content) NotTaken) (m : ℕ) →
    length (requests past m) ≤ MOST_REQUESTS →
    length (requests (after_datagram source past moment v ∷ past) m) ≤ MOST_REQUESTS
few-datagram source past moment (Err left) m few = few
few-datagram source past moment (Ok (n, content)) m few =
    few-more (after_datagram source past moment (Ok (n, content))) past m
    (λ is. let e : length (requests past m) ≡ 0 = taken-first source past moment n content m is in
    omega (arith, e)) few

-- no number is asked for more than ten times
pub few-requests : FewRequestsHold
unfolding snapshots
few-requests settings codec [] n = omega arith
few-requests settings codec (Datagram moment octets ∷ h) n =
    let past : List Snapshot = snapshots settings codec h in
    few-datagram (source_in settings codec) past moment (verdict settings codec (latest past).window octets) n
    (few-requests settings codec h n)
few-requests settings codec (Tick moment ∷ h) n =
    let past : List Snapshot = snapshots settings codec h in
    few-more (after_tick settings past moment) past n (λ is. (tick-again settings past moment n is).0)
    (few-requests settings codec h n)
few-requests settings codec (Pull moment ∷ h) n =
    let past : List Snapshot = snapshots settings codec h in
    let s : Snapshot = after_pull codec past moment (next_run (latest past)) in
    few-more s past n (λ is. absurd (true≢false (sym is ∙ pull-asks codec past moment (next_run (latest past)) n)))
    (few-requests settings codec h n)

-- a moment more, of moments that lie apart
apart-more : (interval now : ℕ) (moments : List ℕ) → (length moments ≡ 0) ⊎ (is_old interval now moments ≡ true) →
    AreApart interval moments → AreApart interval (now ∷ moments)
apart-more interval now [] either apart = tt
apart-more interval now (last ∷ earlier) (inl none) apart = absurd (omega (arith, none))
apart-more interval now (last ∷ earlier) (inr old) apart = (leb-true (last + interval) now old, apart)

apart-step : (interval : ℕ) (s : Snapshot) (past : List Snapshot) (n : ℕ) →
    (is_among s.asked n ≡ true → (length (requests past n) ≡ 0) ⊎ (is_old interval s.now (requests past n) ≡ true)) →
    AreApart interval (requests past n) → AreApart interval (requests (s ∷ past) n)
apart-step interval s past n old apart = by (is_among s.asked n) refl where
  by : (b : Bool) → is_among s.asked n ≡ b → AreApart interval (requests (s ∷ past) n)
  by true is = subst (AreApart interval) (sym (requests-more s past n is))
      (apart-more interval s.now (requests past n) (old is) apart)
  by false is = subst (AreApart interval) (sym (requests-none s past n is)) apart

apart-datagram : (interval : ℕ) (source : Source) (past : List Snapshot) (moment : ℕ)
    (v : Result (ℕ × Content) NotTaken) (m : ℕ) → AreApart interval (requests past m) →
    AreApart interval (requests (after_datagram source past moment v ∷ past) m)
apart-datagram interval source past moment (Err left) m apart = apart
apart-datagram interval source past moment (Ok (n, content)) m apart =
    apart-step interval (after_datagram source past moment (Ok (n, content))) past m
    (λ is. inl (taken-first source past moment n content m is)) apart

-- two requests of a number lie at least the interval apart
pub requests-apart : RequestsApartHold
unfolding snapshots
requests-apart settings codec [] n = tt
requests-apart settings codec (Datagram moment octets ∷ h) n =
    let past : List Snapshot = snapshots settings codec h in
    apart-datagram settings.interval (source_in settings codec) past moment (verdict settings codec (latest past).window octets) n
    (requests-apart settings codec h n)
requests-apart settings codec (Tick moment ∷ h) n =
    let past : List Snapshot = snapshots settings codec h in
    apart-step settings.interval (after_tick settings past moment) past n
    (λ is. inr (tick-again settings past moment n is).1) (requests-apart settings codec h n)
requests-apart settings codec (Pull moment ∷ h) n =
    let past : List Snapshot = snapshots settings codec h in
    let s : Snapshot = after_pull codec past moment (next_run (latest past)) in
    apart-step settings.interval s past n
    (λ is. absurd (true≢false (sym is ∙ pull-asks codec past moment (next_run (latest past)) n)))
    (requests-apart settings codec h n)

-- what a tick asks for is missing after it
asked-ticked : (settings : Settings) (past : List Snapshot) (moment n : ℕ) →
    is_among (after_tick settings past moment).asked n ≡ true → IsMissing (after_tick settings past moment ∷ past) n
asked-ticked settings past moment n is =
    let was : IsMissing past n = tick-asked-missing settings past moment n is in
    let now : ℕ = max (latest past).now moment in
    let lost : List ℕ = (after_tick settings past moment).lost in
    let fewer : length (requests past n) < MOST_REQUESTS = (tick-again settings past moment n is).0 in
    record {
      after_first = was.after_first;
      before_newest = was.before_newest;
      inside = was.inside;
      absent = was.absent;
      not_passed = was.not_passed;
      not_lost = or_from (is_among lost n) (is_lost past n) (false_from_ne_true (is_among lost n) (λ d.
          let passes : ((length (requests past n) == MOST_REQUESTS) && is_old settings.interval now (requests past n))
          ≡ true = (filter-from (λ k.
          (length (requests past k) == MOST_REQUESTS) && is_old settings.interval now (requests past k))
          (missing past) n (among-from lost n d)).1 in
          let ten : length (requests past n) ≡ MOST_REQUESTS =
          eqb-true (length (requests past n)) MOST_REQUESTS
          (and_parts (length (requests past n) == MOST_REQUESTS)
          (is_old settings.interval now (requests past n)) passes).0 in
          absurd (omega (arith, ten, fewer)))) was.not_lost;
    }

asked-datagram : (source : Source) (past : List Snapshot) (moment : ℕ) (v : Result (ℕ × Content) NotTaken) (m : ℕ) →
    is_among (after_datagram source past moment v).asked m ≡ true →
    IsMissing (after_datagram source past moment v ∷ past) m
asked-datagram source past moment (Err left) m is = absurd (true≢false (sym is))
asked-datagram source past moment (Ok (n, content)) m is =
    missing-asked source past moment n content m (taken-asked-missing source past moment n content m is)

-- what an event asks for is missing after it
pub asked-are-missing : AskedAreMissingHolds
unfolding snapshots
asked-are-missing settings codec [] n c = absurd (true≢false (sym (among-to [] n c)))
asked-are-missing settings codec (Datagram moment octets ∷ h) n c =
    let past : List Snapshot = snapshots settings codec h in
    let v : Result (ℕ × Content) NotTaken = verdict settings codec (latest past).window octets in
    asked-datagram (source_in settings codec) past moment v n (among-to (after_datagram (source_in settings codec) past moment v).asked n c)
asked-are-missing settings codec (Tick moment ∷ h) n c =
    let past : List Snapshot = snapshots settings codec h in
    asked-ticked settings past moment n (among-to (after_tick settings past moment).asked n c)
asked-are-missing settings codec (Pull moment ∷ h) n c =
    let past : List Snapshot = snapshots settings codec h in
    let s : Snapshot = after_pull codec past moment (next_run (latest past)) in
    absurd (true≢false (sym (among-to s.asked n c) ∙ pull-asks codec past moment (next_run (latest past)) n))

module _ (settings : Settings) (codec : Meaning) (h : List Event) (n : ℕ)
    (lost : is_lost (snapshots settings codec h) n ≡ true) where
  stays-lost : (e : Event) → is_lost (snapshots settings codec (e ∷ h)) n ≡ true
  unfolding snapshots
  stays-lost e = or_right (is_among (next settings codec (snapshots settings codec h) e).lost n)
      (is_lost (snapshots settings codec h) n) lost

  never-taken : (octets : List ℕ) (content : Content) →
      verdict settings codec (latest (snapshots settings codec h)).window octets ≢ Ok (n, content)
  never-taken octets content is =
      let window : Contents Content = (latest (snapshots settings codec h)).window in
      let fresh : IsFresh window n =
      fresh-is window n (verdict-taken settings codec window octets n content is).fresh in
      let k : (k : ℕ) × (window.newest ≡ Some k) × (n < k) =
      some-value (λ j. n < j) window.newest ((sane settings codec h).lost n lost) in
      let within : k.0 < n + WINDOW = leb-false (n + WINDOW) k.0 (ap (λ o. is_too_old o n) (sym k.1) ∙ fresh.young) in
      let below : n < k.0 = k.2 in
      let inside : is_inside window.newest n ≡ true =
      ap (λ o. is_inside o n) k.1 ∙ order-window k.0 n within (omega (arith, below)) in
      true≢false (sym lost ∙ sym ((sane settings codec h).dead n inside) ∙ fresh.alive)

  -- a datagram that is taken doesn't repair it
  taken-leaves : (moment k : ℕ) (content : Content) → ¬ Contains (after_datagram (source_in settings codec)
      (snapshots settings codec h) moment (Ok (k, content))).repaired n
  taken-leaves moment k content there =
      let source : Source = source_in settings codec in
      let window : Contents Content = (latest (snapshots settings codec h)).window in
      let placed : Contents Content = after_placing k content window in
      let among : is_among (made_numbers source placed) n ≡ true = among-to (made_numbers source placed) n there in
      let inside : in_window (newest_with window.newest k) n ≡ true = made-inside source placed n among in
      let was : is_inside window.newest n ≡ true = not-false (is_inside window.newest n)
      (λ out. inside-before window.newest k n inside out ((sane settings codec h).lost n lost)) in
      let dead : is_dead n window.dead ≡ true = (sane settings codec h).dead n was ∙ lost in
      true≢false (sym (among-filter (in_window (newest_with window.newest k)) window.dead n
      ∙ and_from (in_window (newest_with window.newest k) n) (is_dead n window.dead) inside dead)
      ∙ made-alive source placed n among) where
        not-false : (b : Bool) → (b ≡ false → ⊥) → b ≡ true
        not-false true h = refl
        not-false false h = absurd (h refl)

  datagram-leaves : (moment : ℕ) (v : Result (ℕ × Content) NotTaken) → ¬ Contains (after_datagram
      (source_in settings codec) (snapshots settings codec h) moment v).repaired n
  datagram-leaves moment (Err left) there = Contains-empty n there
  datagram-leaves moment (Ok (k, content)) there = taken-leaves moment k content there

  pull-leaves : (moment : ℕ) (o : Option Run) →
      ¬ Contains (after_pull codec (snapshots settings codec h) moment o).repaired n
  pull-leaves moment None there = Contains-empty n there
  pull-leaves moment (Some run) there = Contains-empty n there

  -- nor does any event
  never-repaired : (e : Event) → ¬ Contains (latest (snapshots settings codec (e ∷ h))).repaired n
  unfolding snapshots
  never-repaired (Datagram moment octets) there =
      datagram-leaves moment (verdict settings codec (latest (snapshots settings codec h)).window octets) there
  never-repaired (Tick moment) there = Contains-empty n there
  never-repaired (Pull moment) there =
      pull-leaves moment (next_run (latest (snapshots settings codec h))) there

-- what was given up stays so, no datagram is taken under it, and no event repairs it
pub lost-stays : LostStaysHolds
lost-stays settings codec h n lost = (
  stays-lost settings codec h n lost,
  never-taken settings codec h n lost,
  never-repaired settings codec h n lost,
)
