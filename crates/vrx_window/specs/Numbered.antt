-- What a ring of numbers shows.
use Rattle.std.specs.Prelude.{◌≡◌, ℕ, ◌≤◌, true, List, [], length, Option, None, refl}
use Rattle.std.specs.Coded.{Coded, code_by, coded×, coded_ℕ, coded_list, coded_option}
use Rattle.std.specs.Ordering.{nat_cmp}
use Rattle.std.specs.FinMap.Entries.{is_sorted}
use Rattle.vrx_num.specs.declared.limits.TheConstants.{WINDOW}
use Rattle.vrx_window.specs.Window.{is_available, is_inside}

-- the greatest number that the window was moved to, if any, and what stands under the numbers of the window, as a map
-- from numbers in their order
pub record Numbered (X : Type 0) : Type 0 where
  pub newest : Option ℕ
  pub entries : List (ℕ × X)

-- the window has no place yet, and nothing stands in it
abbrev pub empty : {X : Type 0} → Numbered X
empty = record { newest = None; entries = [] }

-- how it is stored, by which a proof tells its values apart
abbrev pub numbered_code : {X : Type 0} → Coded X → Coded (Numbered X)
numbered_code {X} code =
    code_by
    (Option ℕ × List (ℕ × X))
    (coded× (coded_option coded_ℕ) (coded_list (coded× coded_ℕ code)))
    (λ ring. (ring.newest, ring.entries))
    (λ parts. record { newest = parts.0; entries = parts.1 })
    (λ _. refl)

-- What always holds: the entries stand in the order of their numbers, none of them twice; all are in the window; and
-- there are at most as many as the window has numbers.
pub record IsNumbered {X : Type 0} (ring : Numbered X) : Type 0 where
  pub rise : is_sorted nat_cmp ring.entries ≡ true
  pub inside : (n : ℕ) → is_available n ring.entries ≡ true → is_inside ring.newest n ≡ true
  pub few : length ring.entries ≤ WINDOW
