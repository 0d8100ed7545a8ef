-- Whether a keyframe completes with a packet, by the runs that are told: if one of the answers is a keyframe.
use Rattle.std.proofs.Common.{◌≡◌, ◌≢◌, ℕ, ◌+◌, ◌<◌, ◌≤◌, Bool, true, false, not, ◌&&◌, ◌||◌, List, [], ◌∷◌, map, Contains, Option, Some, None, is_some, IsSomeAnd, refl, sym, ◌∙◌, ap, subst, arith, inl, inr}
use Rattle.std.specs.Prelude.{◌==◌, nat_le}
use Rattle.std.specs.List.{list_any}
use Rattle.std.proofs.lemmas.Bool.{and_from, and_parts, eq-eqb, eqb-true, le-leb, not-true, not_from_false, false_from_ne_true, true≢false}
use Rattle.vrx_num.specs.declared.limits.TheConstants.{WINDOW}
use Rattle.vrx_codec.specs.Meaning.{Meaning}
use Rattle.vrx_codec.specs.declared.run.Run.{Run as RunSummary}
use Rattle.vrx_window.specs.IsWindow.{IsWindow}
use Rattle.vrx_window.specs.Sound.{place_at}
use Rattle.vrx_window.specs.Window.{at, is_available, is_inside}
use Rattle.vrx_window.specs.declared.held.Held.{Held}
use Rattle.vrx_frames.specs.Completed.{Completes, is_among, known_packets, standing_runs}
use Rattle.vrx_frames.specs.IsRun.{IsRunBy, RunsAre, RunsRise}
use Rattle.vrx_frames.specs.Run.{Run, is_start, summary_of}
use Rattle.vrx_repair.specs.declared.repair.Repair.{Repair}
use Rattle.vrx_core.specs.machine.KeyRequest.{completes_key}
use Rattle.vrx_buffer.specs.Frames.{runs_from}
use Rattle.vrx_core.specs.relation.StandsFor.{Assembly}
use Rattle.vrx_core.specs.inside.Step.{IsTakenAs, frames_in, lowest_of, packets_of}
use Rattle.vrx_core.proofs.machine.TestLemmas.{list_any-from, list_any-to, same_test, same_tests}
use Rattle.vrx_core.proofs.relation.ListLemmas.{Rises, filter-from, filter-to, map-from, map-to, one-with}
use Rattle.vrx_core.proofs.relation.MapLemmas.{at_where-from, some-of, sorted_where}
use Rattle.vrx_core.proofs.relation.RunMoveLemmas.{run-available, standing-from, standing-rises}
use Rattle.vrx_core.proofs.relation.WindowLemmas.{available-contents, inside-order, sorted-contents}

-- a test of images
any-map : {X Y : Type 0} (f : X → Y) (test : Y → Bool) (xs : List X) →
    list_any test (map f xs) ≡ list_any (λ x. test (f x)) xs
any-map f test [] = refl
any-map f test (x ∷ xs) = ap (λ b. test (f x) || b) (any-map f test xs)

-- a run with this first number stands
abbrev stands : ℕ → List RunSummary → Bool
stands n runs = list_any (λ run. run.first == n) runs

-- a keyframe completes, by what is told of the runs
abbrev pub completes_told : (before after : List RunSummary) → Bool
completes_told before after = list_any (λ (run : RunSummary). run.key && not (stands run.first before)) after

-- it is the same by the runs
pub completes-told : (before after : List Run) →
    completes_key before after ≡ completes_told (map summary_of before) (map summary_of after)
completes-told before after =
    ap (λ (test : Run → Bool). list_any test after)
    (same_tests (λ (run : Run). run.key && not (list_any (λ (other : Run). other.first == run.first) before))
    (λ (run : Run). run.key && not (stands run.first (map summary_of before)))
    (λ run. ap (λ b. run.key && not b)
    (sym (any-map summary_of (λ (other : RunSummary). other.first == run.first) before))))
    ∙ sym (any-map summary_of (λ (run : RunSummary). run.key && not (stands run.first (map summary_of before))) after)

-- no run stands at a number at which none begins
none-begins : (n : ℕ) (frames : List RunSummary) → ((f : RunSummary) → Contains frames f → f.first ≢ n) →
    stands n frames ≡ false
none-begins n frames none = false_from_ne_true (stands n frames) (λ h.
    let f : (run : RunSummary) × Contains frames run × ((run.first == n) ≡ true) =
    list_any-from (λ (run : RunSummary). run.first == n) frames h in none f.0 f.1 (eqb-true f.0.first n f.2))

-- and a run stands at its first number
begins-there : (frames : List RunSummary) (f : RunSummary) → Contains frames f → stands f.first frames ≡ true
begins-there frames f there =
    list_any-to (λ (run : RunSummary). run.first == f.first) frames f there (eq-eqb f.first f.first refl)

-- a keyframe that begins where none of these runs does
abbrev is_new : List RunSummary → RunSummary → Bool
is_new frames run = run.key && not (stands run.first frames)

-- the lowest number of a window is at most each number in it
lowest-upto : (newest : Option ℕ) (n : ℕ) → is_inside newest n ≡ true → lowest_of newest ≤ n
lowest-upto newest n inside = by newest (inside-order newest n inside) where
  by : (o : Option ℕ) → IsSomeAnd o (λ m. (m < n + WINDOW) × (n ≤ m)) → lowest_of o ≤ n
  by None h = absurd h
  by (Some m) h = let less : m < n + WINDOW = h.0 in omega arith

-- Runs that stood before an event, and those that stand after it, of what is known then: the frames told before it are
-- those that stood, and such as have left the window.
module _ (low : ℕ) (frames answers : List RunSummary) (before after : List Run)
    (completes : Completes before after answers) (left : runs_from low frames ≡ map summary_of before)
    (rises : Rises (λ (run : Run). run.first) after)
    (inside : (run : Run) → Contains after run → low ≤ run.first) where
  -- a run that completes begins where none stood
  answered-new : (run : Run) → Contains after run → Contains answers (summary_of run) → (f : RunSummary) →
      Contains frames f → f.first ≢ run.first
  answered-new run there answered f c same =
      let upto : low ≤ run.first = inside run there in
      let among : Contains (map summary_of before) f =
      subst (λ fs. Contains fs f) left
      (filter-to (λ (r : RunSummary). nat_le low r.first) frames f c (le-leb low f.first (omega (arith, upto, same)))) in
      let b : (b : Run) × Contains before b × (summary_of b ≡ f) = map-from summary_of before f among in
      let begins : b.0.first ≡ run.first = ap (λ (t : RunSummary). t.first) b.2 ∙ same in
      let one : b.0 ≡ run =
      one-with (λ (r : Run). r.first) after b.0 run rises (completes.stay b.0 b.1) there begins in
      completes.not_both run there (subst (λ r. Contains before r) one b.1) answered

  -- a run that stood began among the frames
  stood-there : (run : Run) → Contains before run → stands run.first frames ≡ true
  stood-there run there =
      begins-there frames (summary_of run) (filter-from (λ (r : RunSummary). nat_le low r.first) frames
      (summary_of run) (subst (λ fs. Contains fs (summary_of run)) (sym left) (map-to summary_of before run there))).0

  -- so a keyframe completes if one of the answers is a keyframe
  completes-by : completes_told frames (map summary_of after) ≡ list_any (λ (run : RunSummary). run.key) answers
  completes-by =
      same_test (completes_told frames (map summary_of after)) (list_any (λ (run : RunSummary). run.key) answers)
      to back where
        to : completes_told frames (map summary_of after) ≡ true → list_any (λ (run : RunSummary). run.key) answers
            ≡ true
        to h =
            let r : (run : RunSummary) × Contains (map summary_of after) run × (is_new frames run ≡ true) =
            list_any-from (is_new frames) (map summary_of after) h in
            let a : (a : Run) × Contains after a × (summary_of a ≡ r.0) = map-from summary_of after r.0 r.1 in
            let new : is_new frames (summary_of a.0) ≡ true = ap (is_new frames) a.2 ∙ r.2 in
            let p : (a.0.key ≡ true) × (not (stands a.0.first frames) ≡ true) =
            and_parts a.0.key (not (stands a.0.first frames)) new in
            elim (completes.either a.0 a.1) [
              | inl old ↦
                  let not_there : stands a.0.first frames ≡ false = not-true (stands a.0.first frames) p.1 in
                  absurd (true≢false (sym (stood-there a.0 old) ∙ not_there))
              | inr answered ↦ list_any-to (λ (run : RunSummary). run.key) answers (summary_of a.0) answered p.0
            ]

        back : list_any (λ (run : RunSummary). run.key) answers ≡ true → completes_told frames (map summary_of after)
            ≡ true
        back h =
            let t : (run : RunSummary) × Contains answers run × (run.key ≡ true) =
            list_any-from (λ (run : RunSummary). run.key) answers h in
            let a : (a : Run) × Contains after a × (summary_of a ≡ t.0) = completes.only t.0 t.1 in
            let answered : Contains answers (summary_of a.0) = subst (λ r. Contains answers r) (sym a.2) t.1 in
            list_any-to (is_new frames) (map summary_of after) (summary_of a.0) (map-to summary_of after a.0 a.1)
            (and_from a.0.key (not (stands a.0.first frames)) (ap (λ (r : RunSummary). r.key) a.2 ∙ t.2)
            (not_from_false (stands a.0.first frames)
            (none-begins a.0.first frames (λ f d. answered-new a.0 a.1 answered f d))))

-- A packet was taken, and its repairs were made.
module _ (are : RunsAre) (rise : RunsRise) (codec : Meaning) (before after : Assembly) (n : ℕ) (held : Held)
    (made : List Repair) where
  -- a run that stands begins in the window
  stands-inside : IsWindow after.window → (run : Run) →
      Contains (standing_runs codec (place_at after.window.packets) before.front after.known (packets_of after)) run →
      lowest_of after.window.newest ≤ run.first
  stands-inside window run there =
      let is : IsRunBy codec (place_at after.window.packets) (is_start before.front (is_among after.known.began))
      (known_packets after.known (packets_of after)) run =
      (standing-from are codec (place_at after.window.packets) before.front
      (is_start before.front (is_among after.known.began)) (known_packets after.known (packets_of after)) run
      there).0 in
      let known : is_available run.first (known_packets after.known (packets_of after)) ≡ true =
      run-available codec (place_at after.window.packets) (is_start before.front (is_among after.known.began))
      (known_packets after.known (packets_of after)) run run.first is (omega arith) is.not_empty in
      let some = some-of (at run.first (known_packets after.known (packets_of after))) known in
      let held = (at_where-from (λ m. is_available m after.known.arrivals) run.first (packets_of after) some.0
      some.1).1 in
      lowest-upto after.window.newest run.first
      (window.packets_inside run.first (sym (available-contents run.first after.window.packets) ∙ ap is_some held))

  -- Whether a keyframe completes with it, if what is left in the window of the frames before it is what stands there of
  -- what was known before it.
  pub taken-completes : IsWindow after.window
      → runs_from (lowest_of after.window.newest) before.frames ≡ frames_in codec after.window before.front before.known
      → (t : IsTakenAs codec before after n held made) (stood standing : List Run) →
      before.frames ≡ map summary_of stood → after.frames ≡ map summary_of standing →
      completes_key stood standing ≡ t.key
  taken-completes window left t stood standing are_before are_after =
      let place = place_at after.window.packets in
      completes-told stood standing
      ∙ ap (λ fs. completes_told fs (map summary_of standing)) (sym are_before)
      ∙ ap (λ fs. completes_told before.frames fs) (sym are_after ∙ t.frames)
      ∙ completes-by (lowest_of after.window.newest) before.frames t.completes.answers
      (standing_runs codec place before.front before.known (packets_of after))
      (standing_runs codec place before.front after.known (packets_of after)) t.completes.completes left
      (standing-rises rise codec place before.front (is_start before.front (is_among after.known.began))
      (known_packets after.known (packets_of after))
      (sorted_where (λ m. is_available m after.known.arrivals) (packets_of after)
      (sorted-contents after.window.packets window.packets_rise)))
      (stands-inside window)
      ∙ sym t.completes.key_is
