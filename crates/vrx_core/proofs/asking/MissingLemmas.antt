-- Which numbers are missing.
use Rattle.std.proofs.Common.{◌≡◌, ℕ, true, not, ◌&&◌, List, Contains}
use Rattle.std.proofs.lemmas.Bool.{and_parts, and_from, not-true, not_from_false}
use Rattle.vrx_window.specs.Window.{is_available}
use Rattle.vrx_frames.specs.Run.{is_passed}
use Rattle.vrx_core.specs.machine.Asking.{IsMissing, MissingHolds}
use Rattle.vrx_core.specs.machine.GivenUp.{is_lost}
use Rattle.vrx_core.specs.machine.Machine.{Snapshot, latest, snapshots}
use Rattle.vrx_core.specs.machine.Request.{is_missing, missing, numbers_between}
use Rattle.vrx_core.proofs.relation.ListLemmas.{Rises, filter-from, filter-to, rises-filter}
use Rattle.vrx_core.proofs.asking.RangeLemmas.{LiesBetween, between-from, between-to, between-rises}

module _ (past : List Snapshot) (n : ℕ) where
  -- a missing number lies between the first one and the newest, and is not available, not passed and not given up
  pub missing-from : Contains (missing past) n → IsMissing past n
  missing-from c =
      let s : Snapshot = latest past in
      let p : Contains (numbers_between s.window.first s.window.newest) n × (is_missing past n ≡ true) =
      filter-from (is_missing past) (numbers_between s.window.first s.window.newest) n c in
      let lies : LiesBetween s.window.first s.window.newest n = between-from s.window.first s.window.newest n p.0 in
      let two : ((not (is_available n s.window.packets) && not (is_passed s.front n)) ≡ true)
      × (not (is_lost past n) ≡ true) =
      and_parts (not (is_available n s.window.packets) && not (is_passed s.front n)) (not (is_lost past n)) p.1 in
      let one : (not (is_available n s.window.packets) ≡ true) × (not (is_passed s.front n) ≡ true) =
      and_parts (not (is_available n s.window.packets)) (not (is_passed s.front n)) two.0 in
      record {
        after_first = lies.after_first;
        before_newest = lies.before_newest;
        inside = lies.inside;
        absent = not-true (is_available n s.window.packets) one.0;
        not_passed = not-true (is_passed s.front n) one.1;
        not_lost = not-true (is_lost past n) two.1;
      }

  -- and back
  pub missing-to : IsMissing past n → Contains (missing past) n
  missing-to m =
      let s : Snapshot = latest past in
      filter-to (is_missing past) (numbers_between s.window.first s.window.newest) n
      (between-to s.window.first s.window.newest n
      (record { after_first = m.after_first; before_newest = m.before_newest; inside = m.inside }))
      (and_from (not (is_available n s.window.packets) && not (is_passed s.front n)) (not (is_lost past n))
      (and_from (not (is_available n s.window.packets)) (not (is_passed s.front n))
      (not_from_false (is_available n s.window.packets) m.absent) (not_from_false (is_passed s.front n) m.not_passed))
      (not_from_false (is_lost past n) m.not_lost))

-- they rise
pub missing-rises : (past : List Snapshot) → Rises (λ n. n) (missing past)
missing-rises past = let s : Snapshot = latest past in
    rises-filter (λ n. n) (is_missing past) (numbers_between s.window.first s.window.newest)
    (between-rises s.window.first s.window.newest)

-- the missing numbers are these
pub missing-are : MissingHolds
missing-are settings codec h n =
    (missing-from (snapshots settings codec h) n, missing-to (snapshots settings codec h) n)
