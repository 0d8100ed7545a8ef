-- What the window has as given up is what was given up, of all numbers that aren't too old.
use Rattle.std.proofs.Common.{◌≡◌, ℕ, ◌+◌, ◌<◌, Bool, true, false, List, Option, Some, None, refl, sym, ◌∙◌, arith}
use Rattle.std.proofs.lemmas.Bool.{false_from_ne_true, true≢false, leb-false}
use Rattle.vrx_num.specs.declared.limits.TheConstants.{WINDOW}
use Rattle.vrx_codec.specs.Meaning.{Meaning}
use Rattle.vrx_window.specs.Content.{Content}
use Rattle.vrx_window.specs.Window.{Contents, is_dead, is_inside, is_too_old}
use Rattle.vrx_core.specs.machine.GivenUp.{is_lost}
use Rattle.vrx_core.specs.machine.Machine.{Snapshot, latest, snapshots}
use Rattle.vrx_core.specs.declared.settings.Settings.{Settings}
use Rattle.vrx_core.specs.declared.event.Event.{Event}
use Rattle.vrx_core.proofs.relation.WindowLemmas.{order-window}
use Rattle.vrx_core.proofs.asking.SaneLemmas.{IsBelow, dead-inside, dead-lost, lost-below}

-- a window has the numbers given up that aren't too old, and no number was given up before the first packet
pub record Matches (window : Contents Content) (lost : ℕ → Bool) : Type 0 where
  pub none : window.newest ≡ None → (n : ℕ) → lost n ≡ false
  pub dead : (n : ℕ) → is_too_old window.newest n ≡ false → is_dead n window.dead ≡ lost n

-- no number is below a newest one that isn't there
none-below : (newest : Option ℕ) (n : ℕ) → newest ≡ None → IsBelow newest n → ⊥
none-below None n is below = below
none-below (Some m) n is below = absurd (cc)

-- a number below the newest one lies in the window if it isn't too old
below-inside : (newest : Option ℕ) (n : ℕ) → IsBelow newest n → is_too_old newest n ≡ false →
    is_inside newest n ≡ true
below-inside None n below young = absurd below
below-inside (Some m) n below young = let less : n < m =
    below in order-window m n (leb-false (n + WINDOW) m young) (omega (arith, less))

-- two answers that follow from each other are the same
same-answer : (a b : Bool) → (a ≡ true → b ≡ true) → (b ≡ true → a ≡ true) → a ≡ b
same-answer true b to back = sym (to refl)
same-answer false b to back = sym (false_from_ne_true b (λ h. true≢false (sym (back h))))

module _ (settings : Settings) (codec : Meaning) (h : List Event) where
  -- what was left after the events
  abbrev past : List Snapshot
  past = snapshots settings codec h

  abbrev window : Contents Content
  window = (latest past).window

  -- so it is after each history
  pub matches : Matches window (is_lost past)
  matches = record {
    none = λ is n. false_from_ne_true (is_lost past n)
        (λ l. none-below window.newest n is (lost-below settings codec h n l));
    dead = λ n young. same-answer (is_dead n window.dead) (is_lost past n)
        (λ d. sym (dead-lost settings codec h n (dead-inside settings codec h n d)) ∙ d)
        (λ l. dead-lost settings codec h n (below-inside window.newest n (lost-below settings codec h n l) young)
        ∙ l);
  }
