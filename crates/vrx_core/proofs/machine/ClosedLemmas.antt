-- After each event no step is left: a datagram's repairs are made to their end, and a tick only takes steps away.
use Rattle.std.proofs.Common.{◌≡◌, ℕ, ◌+◌, Bool, true, false, cond, not, List, [], ◌∷◌, Option, Some, None, Result, Ok, Err, refl, sym, ◌∙◌, ap, subst, inl, inr, Less, Equal, Greater, nat_cmp}
use Rattle.std.specs.Prelude.{◌==◌}
use Rattle.std.specs.FinMap.Entries.{by_order, is_sorted}
use Rattle.std.specs.Result.{result_ok}
use Rattle.std.proofs.lemmas.Bool.{and_from, and_parts, or_cases, or_left, or_right, true≢false}
use Rattle.std.proofs.lemmas.Option.{none-some}
use Rattle.vrx_num.specs.OptionChain.{◌>>=◌}
use Rattle.vrx_codec.specs.Meaning.{Meaning}
use Rattle.vrx_fec.specs.Payload.{Payload, protected}
use Rattle.vrx_fec.specs.Rebuilt.{rebuilt}
use Rattle.vrx_window.specs.Content.{Content}
use Rattle.vrx_window.specs.IsWindow.{IsWithin}
use Rattle.vrx_window.specs.Window.{Contents, after_placing, at, in_window, is_available, is_dead, is_inside, newest_with, with_number}
use Rattle.vrx_repair.specs.Laws.{RepairsAre}
use Rattle.vrx_repair.specs.Plan.{repairs_in}
use Rattle.vrx_repair.specs.Source.{Source}
use Rattle.vrx_repair.specs.Step.{Packets, IsClosed, base_of, fec_at, is_wanted, media_under, missing_of, only_one, others_of, rebuilt_under, step, step_of, texts_at}
use Rattle.vrx_core.specs.machine.Available.{ClosedHolds}
use Rattle.vrx_core.specs.machine.Machine.{Snapshot, after_datagram, latest, next_run, snapshots, source_in, with_numbers, with_repaired}
use Rattle.vrx_core.specs.machine.Request.{lost_by_tick}
use Rattle.vrx_core.specs.machine.Snapshot.{moved}
use Rattle.vrx_core.specs.machine.Verdict.{verdict}
use Rattle.vrx_core.specs.declared.settings.Settings.{Settings}
use Rattle.vrx_core.specs.declared.event.Event.{Event}
use Rattle.vrx_core.specs.declared.event.Event.TheVariants.{Datagram, Tick, Pull}
use Rattle.vrx_core.specs.declared.original.NotTaken.{NotTaken}
use Rattle.vrx_core.proofs.relation.MapLemmas.{some-of, sorted_put, sorted_where}
use Rattle.vrx_core.proofs.machine.AvailableLemmas.{newest-from, newest-upto, order-window, placed_at, pull_window}
use Rattle.vrx_core.proofs.machine.RepairLemmas.{chained, guard}
use Rattle.vrx_core.proofs.machine.RepairedLemmas.{made-rise}
use Rattle.vrx_core.proofs.machine.VerdictLemmas.{IsFresh, fresh-is, verdict-taken}

-- what was given up is so once another number is
dead-more : (n q : ℕ) (ks : List ℕ) → is_dead q ks ≡ true → is_dead q (with_number n ks) ≡ true
dead-more n q [] dead = absurd (true≢false (sym dead))
dead-more n q (k ∷ ks) dead = by_place (nat_cmp n k) (dead-more n q ks) where
  by_place : (o : _) → (is_dead q ks ≡ true → is_dead q (with_number n ks) ≡ true) →
      is_dead q (by_order o (n ∷ k ∷ ks) (k ∷ ks) (k ∷ with_number n ks)) ≡ true
  by_place Less rest = or_right (q == n) (is_dead q (k ∷ ks)) dead
  by_place Equal rest = dead
  by_place Greater rest = elim (or_cases (q == k) (is_dead q ks) dead) [
    | inl here ↦ or_left (q == k) (is_dead q (with_number n ks)) here
    | inr later ↦ or_right (q == k) (is_dead q (with_number n ks)) (rest later)
  ]

-- and once others are
dead-all : (ns : List ℕ) (q : ℕ) (ks : List ℕ) → is_dead q ks ≡ true → is_dead q (with_numbers ns ks) ≡ true
dead-all [] q ks dead = dead
dead-all (n ∷ ns) q ks dead = dead-all ns q (with_number n ks) (dead-more n q ks dead)

-- where more numbers were given up there is no step that there wasn't
module _ (source : Source) (newest : Option ℕ) (dead more : List ℕ)
    (kept : (q : ℕ) → is_dead q dead ≡ true → is_dead q more ≡ true) (packets : Packets) where
  wanted-still : (n : ℕ) → is_wanted newest more n ≡ true → is_wanted newest dead n ≡ true
  wanted-still n wanted =
      let both = and_parts (is_inside newest n) (not (is_dead n more)) wanted in
      and_from (is_inside newest n) (not (is_dead n dead)) both.0 (by_test (is_dead n dead) refl both.1) where
        by_test : (b : Bool) → is_dead n dead ≡ b → not (is_dead n more) ≡ true → not b ≡ true
        by_test true dies alive = absurd (true≢false (sym alive ∙ ap not (kept n dies)))
        by_test false lives alive = refl

  rebuilt-still : (base : ℕ) (p : Payload) (i : ℕ) (repair : ℕ × Content) →
      rebuilt_under source newest more packets base p i ≡ Some repair →
      rebuilt_under source newest dead packets base p i ≡ Some repair
  rebuilt-still base p i repair is =
      let both = guard (is_wanted newest more (base + i)) rebuild repair is in
      ap (λ b. cond b rebuild None) (wanted-still (base + i) both.0) ∙ both.1 where
        rebuild : Option (ℕ × Content)
        rebuild = texts_at packets base (others_of i (protected p)) >>= λ others.
            result_ok (rebuilt p others i source.ssrc) >>= media_under source (base + i)

  step-still : (m : ℕ) (repair : ℕ × Content) → step source newest more packets m ≡ Some repair →
      step source newest dead packets m ≡ Some repair
  step-still m repair is =
      let fec = chained (fec_at packets m) (λ p. step_of source newest more packets (base_of m p) p) repair is in
      let p : Payload = fec.0 in
      let base : ℕ = base_of m p in
      let one = chained (only_one (missing_of packets base (protected p)))
      (rebuilt_under source newest more packets base p) repair fec.2 in
      ap (λ o. o >>= λ q. step_of source newest dead packets (base_of m q) q) fec.1
      ∙ ap (λ o. o >>= rebuilt_under source newest dead packets base p) one.1
      ∙ rebuilt-still base p one.0 repair one.2

  closed-still : IsClosed source newest dead packets → IsClosed source newest more packets
  closed-still closed m = by_value (step source newest more packets m) refl where
    by_value : (o : Option (ℕ × Content)) → step source newest more packets m ≡ o → o ≡ None
    by_value None is = refl
    by_value (Some repair) is = absurd (none-some repair (sym (closed m) ∙ step-still m repair is))

-- packets within a window are so once a packet is placed
pub within-placed : (window : Contents Content) (n : ℕ) (content : Content) → IsFresh window n →
    is_sorted nat_cmp window.packets ≡ true →
    IsWithin (Some (newest_with window.newest n)) (after_placing n content window).packets
within-placed window n content fresh rises = record { rise = rise; inside = inside } where
  newest : ℕ
  newest = newest_with window.newest n

  rise : is_sorted nat_cmp (after_placing n content window).packets ≡ true
  rise = sorted_put n content _ (sorted_where (in_window newest) window.packets rises)

  inside : (q : ℕ) → is_available q (after_placing n content window).packets ≡ true → in_window newest q ≡ true
  inside q there =
      let some = some-of (at q (after_placing n content window).packets) there in
      elim (placed_at newest n q content some.0 window.packets some.1) [
        | inl new ↦ ap (in_window newest) new.0
            ∙ order-window newest n (newest-upto window.newest n fresh.young) (newest-from window.newest n)
        | inr old ↦ old.0
      ]

-- the packets stand in the order of their numbers, after each history
pub packets-rise : (settings : Settings) (codec : Meaning) (h : List Event) →
    is_sorted nat_cmp (latest (snapshots settings codec h)).window.packets ≡ true
unfolding snapshots
packets-rise settings codec [] = refl
packets-rise settings codec (Datagram moment octets ∷ h) =
    by_verdict (verdict settings codec window octets) (packets-rise settings codec h) where
      past : List Snapshot
      past = snapshots settings codec h

      window : Contents Content
      window = (latest past).window

      by_verdict : (v : Result (ℕ × Content) NotTaken) → is_sorted nat_cmp window.packets ≡ true →
          is_sorted nat_cmp (after_datagram (source_in settings codec) past moment v).window.packets ≡ true
      by_verdict (Err left) rises = rises
      by_verdict (Ok (n, content)) rises =
          made-rise (source_in settings codec) (after_placing n content window)
          (sorted_put n content _ (sorted_where (in_window (newest_with window.newest n)) window.packets rises))
packets-rise settings codec (Tick moment ∷ h) = packets-rise settings codec h
packets-rise settings codec (Pull moment ∷ h) =
    let past : List Snapshot = snapshots settings codec h in
    subst (λ (w : Contents Content). is_sorted nat_cmp w.packets ≡ true)
    (sym (pull_window codec past moment (next_run (latest past)))) (packets-rise settings codec h)

-- no step is left in a window
abbrev pub IsDone : Source → Contents Content → Type 0
IsDone source window = IsClosed source window.newest window.dead window.packets

module _ (are : RepairsAre) (settings : Settings) (codec : Meaning) where
  -- so it is once repairs were made
  pub done-made : (window : Contents Content) → IsWithin window.newest window.packets →
      IsDone (source_in settings codec) (with_repaired (repairs_in (source_in settings codec) window) window)
  unfolding repairs_in
  done-made window within =
      (are (source_in settings codec) window.newest window.dead window.packets within).closed

  -- and after a datagram
  done-datagram : (past : List Snapshot) (moment : ℕ) (octets : List ℕ) (v : Result (ℕ × Content) NotTaken) →
      verdict settings codec (latest past).window octets ≡ v →
      is_sorted nat_cmp (latest past).window.packets ≡ true → IsDone (source_in settings codec) (latest past).window →
      IsDone (source_in settings codec) (after_datagram (source_in settings codec) past moment v).window
  done-datagram past moment octets (Err left) is rises done = done
  done-datagram past moment octets (Ok (n, content)) is rises done =
      let window : Contents Content = (latest past).window in
      done-made (after_placing n content window)
      (within-placed window n content
      (fresh-is window n (verdict-taken settings codec window octets n content is).fresh) rises)

  -- and after each event
  all-done : (h : List Event) → IsDone (source_in settings codec) (latest (snapshots settings codec h)).window
  unfolding snapshots
  all-done [] = λ m. refl
  all-done (Datagram moment octets ∷ h) =
      done-datagram (snapshots settings codec h) moment octets
      (verdict settings codec (latest (snapshots settings codec h)).window octets) refl
      (packets-rise settings codec h) (all-done h)
  all-done (Tick moment ∷ h) =
      let past : List Snapshot = snapshots settings codec h in
      let window : Contents Content = (latest past).window in
      let lost : List ℕ = lost_by_tick settings.interval (moved (latest past) moment).now past in
      closed-still (source_in settings codec) window.newest window.dead (with_numbers lost window.dead)
      (λ q dead. dead-all lost q window.dead dead) window.packets (all-done h)
  all-done (Pull moment ∷ h) =
      let past : List Snapshot = snapshots settings codec h in
      subst (IsDone (source_in settings codec)) (sym (pull_window codec past moment (next_run (latest past))))
      (all-done h)

-- no step is left after any event
pub none_left : RepairsAre → ClosedHolds
none_left are settings codec h = all-done are settings codec h
