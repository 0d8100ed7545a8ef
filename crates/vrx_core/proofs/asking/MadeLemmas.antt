-- Which numbers are available once the repairs of a window were made: those that were, and those repaired.
use Rattle.std.proofs.Common.{◌≡◌, ℕ, true, false, ◌||◌, List, map, Contains, is_some, ap, subst, inl, inr}
use Rattle.std.proofs.lemmas.Bool.{or_cases, or_left, or_right}
use Rattle.vrx_window.specs.Content.{Content}
use Rattle.vrx_window.specs.Window.{Contents, at, is_available, is_dead, is_inside}
use Rattle.vrx_frames.specs.Completed.{is_among}
use Rattle.vrx_repair.specs.Plan.{repairs_in}
use Rattle.vrx_repair.specs.Source.{Source}
use Rattle.vrx_core.specs.machine.Machine.{with_repaired}
use Rattle.vrx_core.proofs.machine.RepairedLemmas.{made-each, made-from, made-here, made-stays}
use Rattle.vrx_core.proofs.machine.TestLemmas.{same_test}
use Rattle.vrx_core.proofs.relation.ListLemmas.{map-from, map-to}
use Rattle.vrx_core.proofs.relation.MapLemmas.{some-of}
use Rattle.vrx_core.proofs.asking.RangeLemmas.{among-from, among-to}

module _ (source : Source) (window : Contents Content) where
  abbrev pub made_numbers : List ℕ
  made_numbers = map (λ repair. repair.0) (repairs_in source window)

  -- a number repaired is a repair's
  made-entry : (m : ℕ) → is_among made_numbers m ≡ true →
      (content : Content) × Contains (repairs_in source window) (m, content)
  made-entry m among =
      let p : (repair : ℕ × Content) × Contains (repairs_in source window) repair × (repair.0 ≡ m) =
      map-from (λ repair. repair.0) (repairs_in source window) m (among-from made_numbers m among) in
      (p.0.1, subst (λ k. Contains (repairs_in source window) (k, p.0.1)) p.2 p.1)

  -- what was available is so still
  pub made-available-stays : (m : ℕ) → is_available m window.packets ≡ true →
      is_available m (with_repaired (repairs_in source window) window).packets ≡ true
  made-available-stays m there =
      let some = some-of (at m window.packets) there in ap is_some (made-stays source window m some.0 some.1)

  -- a number repaired is available
  made-among-there : (m : ℕ) → is_among made_numbers m ≡ true →
      is_available m (with_repaired (repairs_in source window) window).packets ≡ true
  made-among-there m among =
      let entry = made-entry m among in ap is_some (made-here source window m entry.0 entry.1)

  -- what is available was so, or was repaired
  made-available-from : (m : ℕ) → is_available m (with_repaired (repairs_in source window) window).packets ≡ true →
      (is_available m window.packets || is_among made_numbers m) ≡ true
  made-available-from m there =
      let some = some-of (at m (with_repaired (repairs_in source window) window).packets) there in
      elim (made-from source window m some.0 some.1) [
        | inl was ↦ or_left (is_available m window.packets) (is_among made_numbers m) (ap is_some was)
        | inr among ↦ or_right (is_available m window.packets) (is_among made_numbers m)
            (among-to made_numbers m (map-to (λ repair. repair.0) (repairs_in source window) (m, some.0) among))
      ]

  pub made-available : (m : ℕ) → is_available m (with_repaired (repairs_in source window) window).packets
      ≡ (is_available m window.packets || is_among made_numbers m)
  made-available m =
      same_test (is_available m (with_repaired (repairs_in source window) window).packets)
      (is_available m window.packets || is_among made_numbers m) (made-available-from m)
      (λ either. elim (or_cases (is_available m window.packets) (is_among made_numbers m) either) [
        | inl was ↦ made-available-stays m was
        | inr among ↦ made-among-there m among
      ])

  -- a number repaired is in the window
  pub made-inside : (m : ℕ) → is_among made_numbers m ≡ true → is_inside window.newest m ≡ true
  made-inside m among = let entry = made-entry m among in (made-each source window (m, entry.0) entry.1).inside

  -- and wasn't available
  pub made-absent : (m : ℕ) → is_among made_numbers m ≡ true → is_available m window.packets ≡ false
  made-absent m among =
      let entry = made-entry m among in ap is_some (made-each source window (m, entry.0) entry.1).missing

  -- and wasn't given up
  pub made-alive : (m : ℕ) → is_among made_numbers m ≡ true → is_dead m window.dead ≡ false
  made-alive m among = let entry = made-entry m among in (made-each source window (m, entry.0) entry.1).alive
