-- The least of the runs that stand which is deliverable, and the first in their order.
use Rattle.std.proofs.Common.{◌≡◌, ℕ, ◌<◌, Bool, true, false, cond, ◌&&◌, List, [], ◌∷◌, map, Option, Some, None, refl, sym, ◌∙◌, ap, subst, arith}
use Rattle.std.specs.List.{AllByRecursion, filter, find}
use Rattle.std.specs.Option.{option_map}
use Rattle.std.proofs.lemmas.Bool.{le-ltb}
use Rattle.vrx_buffer.specs.Frames.{is_deliverable, next_of}
use Rattle.vrx_frames.specs.Completed.{IsUpTo}
use Rattle.vrx_frames.specs.Run.{Run, stands, summary_of}
use Rattle.vrx_core.specs.machine.Deliverable.{answer, is_deliverable as is_deliverable_run, least, lesser}
use Rattle.vrx_core.specs.machine.Snapshot.{last_pulled}
use Rattle.vrx_core.specs.machine.Told.{Told, sightings}
use Rattle.vrx_core.proofs.relation.ListLemmas.{Rises, all-in, all-of, find-map, find-same, rises-filter}
use Rattle.vrx_core.proofs.relation.RunMoveLemmas.{beyond-stands, stands-beyond}
use Rattle.vrx_core.proofs.relation.AddLemmas.{first_of}

-- the least of runs that rise is the first
least-first : (run : Run) (runs : List Run) → Rises first_of (run ∷ runs) → least (run ∷ runs) ≡ Some run
least-first run [] rises = refl
least-first run (next ∷ runs) rises =
    let above : run.first < next.first = rises.0.0 in
    ap (λ o. Some (lesser run o)) (least-first next runs rises.1)
    ∙ ap (λ b. Some (cond b next run)) (le-ltb next.first run.first (omega arith))

-- the least of those that pass a test is the first that does
pub least-find : (test : Run → Bool) (runs : List Run) → Rises first_of runs →
    least (filter test runs) ≡ find test runs
least-find test [] rises = refl
least-find test (run ∷ runs) rises = either (test run) refl (least-find test runs rises.1) where
  either : (b : Bool) → test run ≡ b → least (filter test runs) ≡ find test runs →
      least (cond b (run ∷ filter test runs) (filter test runs)) ≡ cond b (Some run) (find test runs)
  either true pass rest = least-first run (filter test runs)
      (subst (λ c. Rises first_of (cond c (run ∷ filter test runs) (filter test runs))) pass
      (rises-filter first_of test (run ∷ runs) rises))
  either false fail rest = rest

-- a run beyond the front is beyond the last number pulled
pub stands-last : (last front : Option ℕ) (run : Run) → IsUpTo last front → stands front run ≡ true →
    stands last run ≡ true
stands-last None front run up s = refl
stands-last (Some l) None run up s = absurd up
stands-last (Some l) (Some f) run up s = let less : f < run.first =
    stands-beyond f run s in beyond-stands l run (omega (arith, up))

-- of runs that stand, the machine's answer is the first in their order that is deliverable by what is told of it
pub answer-find : (told : Told) (pulled : List Run) (front : Option ℕ) (runs : List Run) → Rises first_of runs →
    AllByRecursion (λ run. stands (last_pulled pulled) run ≡ true) runs
    → answer told pulled front runs
    ≡ find (λ run. is_deliverable (sightings told) (map summary_of pulled) front (summary_of run)) runs
answer-find told pulled front runs rises all = least-find (is_deliverable_run told pulled front) runs rises
    ∙ find-same (is_deliverable_run told pulled front)
    (λ run. is_deliverable (sightings told) (map summary_of pulled) front (summary_of run)) runs
    (all-of (λ run. is_deliverable_run told pulled front run
    ≡ is_deliverable (sightings told) (map summary_of pulled) front (summary_of run)) runs
    (λ run there. ap (λ b. b && is_deliverable (sightings told) (map summary_of pulled) front (summary_of run))
    (all-in (λ r. stands (last_pulled pulled) r ≡ true) runs run all there)))

-- and it is told as the next of those told
pub answer-told : (told : Told) (pulled : List Run) (front : Option ℕ) (runs : List Run) → Rises first_of runs →
    AllByRecursion (λ run. stands (last_pulled pulled) run ≡ true) runs
    → next_of (sightings told) (map summary_of pulled) front (map summary_of runs)
    ≡ option_map summary_of (answer told pulled front runs)
answer-told told pulled front runs rises all =
    find-map summary_of (is_deliverable (sightings told) (map summary_of pulled) front) runs
    ∙ sym (ap (option_map summary_of) (answer-find told pulled front runs rises all))
