-- Rows of the definitions, which compute.
use Rattle.std.proofs.Common.{◌≡◌, ℕ, true, false, List, [], ◌∷◌, Some, None, refl}
use Rattle.vrx_window.specs.declared.held.Held.{Held}
use Rattle.vrx_window.specs.declared.held.Held.TheVariants.{Empty, Fec}
use Rattle.vrx_window.specs.declared.placing.Placing.TheVariants.{TooOld, Dead, Repeat, Fresh}
use Rattle.vrx_window.specs.Content.{next_fec}
use Rattle.vrx_window.specs.Window.{Contents, nothing, would_of, after_placing, after_giving_up}

-- two packets are held, and one number was given up
abbrev window : Contents Held
window = record {
  newest = Some 70000;
  first = Some 69000;
  packets = (67953, Empty false) ∷ (70000, Empty false) ∷ [];
  dead = 67954 ∷ [];
}

-- 2,047 below the newest number a packet is held; 2,048 below a number is too old
lowest : would_of window 67953 ≡ Repeat
lowest = refl

below : would_of window 67952 ≡ TooOld
below = refl

after_giving_up_once : would_of window 67954 ≡ Dead
after_giving_up_once = refl

-- above the newest number, and before the first
above : would_of window 70001 ≡ Fresh
above = refl

before : would_of window 68999 ≡ Fresh
before = refl

-- one number further, the lowest packet is gone, and the number given up is now the lowest
one_further : after_placing 70001 (Empty true) window ≡ record {
  newest = Some 70001;
  first = Some 69000;
  packets = (70000, Empty false) ∷ (70001, Empty true) ∷ [];
  dead = 67954 ∷ [];
}
one_further = refl

-- below the first number, nothing moves
between : after_placing 68999 (Empty true) window ≡ record {
  newest = Some 70000;
  first = Some 69000;
  packets = (67953, Empty false) ∷ (68999, Empty true) ∷ (70000, Empty false) ∷ [];
  dead = 67954 ∷ [];
}
between = refl

-- beyond all that the window had
jump : after_placing 72049 (Empty true) window ≡ record {
  newest = Some 72049;
  first = Some 69000;
  packets = (72049, Empty true) ∷ [];
  dead = [];
}
jump = refl

-- the first number
begin : after_placing 65537 (Empty true) nothing ≡ record {
  newest = Some 65537;
  first = Some 65537;
  packets = (65537, Empty true) ∷ [];
  dead = [];
}
begin = refl

-- numbers given up stand in their order
in_order : after_giving_up 69000 (after_giving_up 69999 window) ≡ record {
  newest = Some 70000;
  first = Some 69000;
  packets = (67953, Empty false) ∷ (70000, Empty false) ∷ [];
  dead = 67954 ∷ 69000 ∷ 69999 ∷ [];
}
in_order = refl

-- the next FEC packet from a number on: that number's own, or a later one
abbrev with_fec : List (ℕ × Held)
with_fec = (67953, Fec (1 ∷ [])) ∷ (69000, Empty false) ∷ (70000, Fec (2 ∷ [])) ∷ []

its_own : next_fec 67953 with_fec ≡ Some 67953
its_own = refl

a_later : next_fec 67954 with_fec ≡ Some 70000
a_later = refl

no_more : next_fec 70001 with_fec ≡ None
no_more = refl
