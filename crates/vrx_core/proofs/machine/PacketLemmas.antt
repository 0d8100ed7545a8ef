-- Which packets are available once one was placed.
use Rattle.std.proofs.Common.{◌≡◌, ℕ, ◌+◌, ◌<◌, ◌⊎◌, Bool, true, false, cond, Option, Some, None, is_some, refl, sym, ◌∙◌, ap, arith, inl, inr, nat_cmp}
use Rattle.std.specs.Ordering.{eq_by_cmp}
use Rattle.std.specs.FinMap.Entries.{find}
use Rattle.std.proofs.lemmas.Bool.{leb-false}
use Rattle.vrx_num.specs.declared.limits.TheConstants.{WINDOW}
use Rattle.vrx_window.specs.Content.{Content}
use Rattle.vrx_window.specs.Window.{in_window, is_available, is_too_old, newest_with, entries_with}
use Rattle.vrx_frames.specs.Run.{Packets}
use Rattle.vrx_core.proofs.machine.AvailableLemmas.{find-after_placing}
use Rattle.vrx_core.proofs.machine.KeyLemmas.{key_same, same_key}

-- a value after two tests
behind : (a b : Bool) (content : Content) (o : Option Content) →
    is_some (cond a (Some content) (cond b o None)) ≡ true → (a ≡ true) ⊎ ((b ≡ true) × (is_some o ≡ true))
behind true b content o h = inl refl
behind false true content o h = inr (refl, h)
behind false false content o h = absurd (cc)

-- what is available once a number was taken: it, or what was available and lies in the window
pub placed_cases : (m n q : ℕ) (content : Content) (packets : Packets) →
    is_available q (entries_with m n content packets) ≡ true →
    (q ≡ n) ⊎ ((in_window m q ≡ true) × (is_available q packets ≡ true))
placed_cases m n q content packets h =
    elim (behind (eq_by_cmp nat_cmp q n) (in_window m q) content (find nat_cmp q packets)
    (ap is_some (sym (find-after_placing m n q content packets)) ∙ h)) [
      | inl same ↦ inl (same_key q n same)
      | inr old ↦ inr old
    ]

-- the number taken is available
pub placed_new : (m n : ℕ) (content : Content) (packets : Packets) →
    is_available n (entries_with m n content packets) ≡ true
placed_new m n content packets = ap is_some (find-after_placing m n n content packets)
    ∙ ap (λ b. is_some (cond b (Some content) (cond (in_window m n) (find nat_cmp n packets) None))) (key_same n)

-- a value before another
before : (a b : Bool) (content : Content) (o : Option Content) → b ≡ true → is_some o ≡ true →
    is_some (cond a (Some content) (cond b o None)) ≡ true
before true b content o t h = refl
before false true content o t h = h
before false false content o t h = absurd (cc)

-- what was available and lies in the window stays available
pub placed_old : (m n q : ℕ) (content : Content) (packets : Packets) → in_window m q ≡ true →
    is_available q packets ≡ true → is_available q (entries_with m n content packets) ≡ true
placed_old m n q content packets w h = ap is_some (find-after_placing m n q content packets)
    ∙ before (eq_by_cmp nat_cmp q n) (in_window m q) content (find nat_cmp q packets) w h

-- a number that isn't too old lies in the window after it
pub open-newest : (newest : Option ℕ) (n : ℕ) → is_too_old newest n ≡ false → newest_with newest n < n + WINDOW
open-newest None n h = omega arith
open-newest (Some m) n h = let less : m < n + WINDOW = leb-false (n + WINDOW) m h in omega arith
