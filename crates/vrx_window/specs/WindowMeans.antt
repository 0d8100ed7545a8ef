-- What the definitions of the window come to, number by number.
use Rattle.std.specs.Prelude.{◌≡◌, ◌≢◌, ℕ, ◌+◌, ◌≤◌, ◌↔◌, Bool, true, false, Some, None, IsSomeAnd}
use Rattle.vrx_num.specs.declared.limits.TheConstants.{WINDOW}
use Rattle.vrx_window.specs.declared.placing.Placing.TheVariants.{TooOld, Dead, Repeat, Fresh}
use Rattle.vrx_window.specs.Window.{Contents, at, is_available, is_dead, is_inside, would_of}

module _ {X : Type 0} where
  -- a number stands after as it did before: the same packet is held under it, if any, and it is given up or isn't as
  -- before
  pub record StandsAlike (before after : Contents X) (n : ℕ) : Type 0 where
    pub packet : at n after.packets ≡ at n before.packets
    pub dead : is_dead n after.dead ≡ is_dead n before.dead

  -- nothing is known of a number
  pub record IsGone (window : Contents X) (n : ℕ) : Type 0 where
    pub packet : at n window.packets ≡ None
    pub dead : is_dead n window.dead ≡ false

  -- A packet placed under n is held under n. Each other number that is in the new window stands as it did, and each
  -- that isn't is gone.
  pub record PlacedMeans (n : ℕ) (held : X) (before after : Contents X) : Type 0 where
    pub here : at n after.packets ≡ Some held
    pub stays : (m : ℕ) → m ≢ n → is_inside after.newest m ≡ true → StandsAlike before after m
    pub left : (m : ℕ) → m ≢ n → is_inside after.newest m ≡ false → IsGone after m

  -- A number given up is given up, and each other number stands as it did. No packet changes.
  pub record GivenUpMeans (n : ℕ) (before after : Contents X) : Type 0 where
    pub here : is_dead n after.dead ≡ true
    pub packets : after.packets ≡ before.packets
    pub stays : (m : ℕ) → m ≢ n → StandsAlike before after m

  -- the number is at most newest - 2,048
  abbrev pub IsTooOld : Contents X → ℕ → Type 0
  IsTooOld window n = IsSomeAnd window.newest (λ newest. n + WINDOW ≤ newest)

  -- a number that isn't too old and is dead, or isn't
  pub record IsDeadOrNot (window : Contents X) (n : ℕ) (dead : Bool) : Type 0 where
    pub young : ¬ (IsTooOld window n)
    pub dead_is : is_dead n window.dead ≡ dead

  -- Each answer exactly if it applies: too old at most newest - 2,048; else dead if the number was given up; else a
  -- repeat if a packet is held under it; else fresh.
  pub record WouldMeans (window : Contents X) (n : ℕ) : Type 0 where
    pub too_old : (would_of window n ≡ TooOld) ↔ IsTooOld window n
    pub dead : (would_of window n ≡ Dead) ↔ IsDeadOrNot window n true
    pub repeat : (would_of window n ≡ Repeat) ↔ (IsDeadOrNot window n false × (is_available n window.packets ≡ true))
    pub fresh : (would_of window n ≡ Fresh) ↔ (IsDeadOrNot window n false × (is_available n window.packets ≡ false))
