-- The window of sequence numbers: what stands under the numbers in it, and the numbers given up. Numbers are extended
-- sequence numbers (RFC 3550 A.1). What stands under a number is of any type.
use Rattle.std.specs.Prelude.{ℕ, ◌+◌, Bool, false, ◌&&◌, ◌==◌, nat_lt, nat_le, max, if◌then◌else◌, List, [], ◌∷◌, Option, Some, None, is_some}
use Rattle.std.specs.List.{filter, list_any}
use Rattle.std.specs.Option.{unwrap_or}
use Rattle.std.specs.Ordering.{nat_cmp}
use Rattle.std.specs.FinMap.Entries.{by_order, find, put, where_key}
use Rattle.vrx_num.specs.declared.limits.TheConstants.{WINDOW}
use Rattle.vrx_window.specs.declared.placing.Placing.{Placing}
use Rattle.vrx_window.specs.declared.placing.Placing.TheVariants.{TooOld, Dead, Repeat, Fresh}

-- what a window has: the greatest number placed and the first one placed, if there are any; the packets held, as a
-- map from numbers in their order; and the numbers given up, in their order
pub record Contents (X : Type 0) : Type 0 where
  pub newest : Option ℕ
  pub first : Option ℕ
  pub packets : List (ℕ × X)
  pub dead : List ℕ

-- nothing was placed yet
abbrev pub nothing : {X : Type 0} → Contents X
nothing = record { newest = None; first = None; packets = []; dead = [] }

-- the window after the newest number: newest - 2,048 < n ≤ newest
abbrev pub in_window : ℕ → ℕ → Bool
in_window newest n = nat_lt newest (n + WINDOW) && nat_le n newest

-- the same, if there is a newest number
abbrev pub is_inside : Option ℕ → ℕ → Bool
is_inside None n = false
is_inside (Some newest) n = in_window newest n

-- the number is at most newest - 2,048
abbrev pub is_too_old : Option ℕ → ℕ → Bool
is_too_old None n = false
is_too_old (Some newest) n = nat_le (n + WINDOW) newest

-- what stands under a number, of a map from numbers in their order
abbrev pub at : {X : Type 0} → ℕ → List (ℕ × X) → Option X
at n entries = find nat_cmp n entries

-- whether something stands under a number
abbrev pub is_available : {X : Type 0} → ℕ → List (ℕ × X) → Bool
is_available n entries = is_some (at n entries)

-- the number is among those given up
abbrev pub is_dead : ℕ → List ℕ → Bool
is_dead n dead = list_any (λ k. n == k) dead

-- what becomes of a number: the first that applies
abbrev pub would_of : {X : Type 0} → Contents X → ℕ → Placing
would_of window n =
    if is_too_old window.newest n then TooOld
    else if is_dead n window.dead then Dead
    else if is_available n window.packets then Repeat
    else Fresh

-- the newest number once n is placed: the greater of both
abbrev pub newest_with : Option ℕ → ℕ → ℕ
newest_with None n = n
newest_with (Some newest) n = max newest n

-- a number put in its place among numbers that rise
abbrev pub with_number : ℕ → List ℕ → List ℕ
with_number n [] = n ∷ []
with_number n (k ∷ ks) = by_order (nat_cmp n k) (n ∷ k ∷ ks) (k ∷ ks) (k ∷ with_number n ks)

-- the entries that are in the window after the newest number
abbrev pub entries_in : {X : Type 0} → ℕ → List (ℕ × X) → List (ℕ × X)
entries_in newest entries = where_key nat_cmp (in_window newest) entries

-- the entries after x was put under n: those that are in the window after the newest number, and x
abbrev pub entries_with : {X : Type 0} → ℕ → ℕ → X → List (ℕ × X) → List (ℕ × X)
entries_with newest n x entries = put nat_cmp n x (where_key nat_cmp (in_window newest) entries)

-- The window after a packet was placed under n. Its newest number is the greater of both, and n is its first number
-- only if there was none. Of the packets held and of the numbers given up those stay that are in the new window, and
-- the packet is held under n.
abbrev pub after_placing : {X : Type 0} → ℕ → X → Contents X → Contents X
after_placing n packet window =
    let newest : ℕ = newest_with window.newest n in
    record {
      newest = Some newest;
      first = Some (unwrap_or window.first n);
      packets = entries_with newest n packet window.packets;
      dead = filter (in_window newest) window.dead;
    }

-- the window after n was given up: n is among the numbers given up, and all else stays
abbrev pub after_giving_up : {X : Type 0} → ℕ → Contents X → Contents X
after_giving_up n window = record {
  newest = window.newest;
  first = window.first;
  packets = window.packets;
  dead = with_number n window.dead;
}
