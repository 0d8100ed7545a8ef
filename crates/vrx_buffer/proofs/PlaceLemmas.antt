-- The place of a run among runs that rise, and the runs up to a number.
use Rattle.std.proofs.Common.{◌≡◌, ℕ, zero, suc, ◌+◌, ◌-◌, ◌<◌, ◌≤◌, true, false, cond, List, [], ◌∷◌, ◌++◌, length, take, drop, get_or, refl, sym, ◌∙◌, ap, subst, arith}
use Rattle.std.specs.Prelude.{◌==◌, ◌&&◌, not, nat_lt, nat_le, slice_get, Some, None, Result, Ok, Err}
use Rattle.std.specs.List.{list_any}
use Rattle.std.specs.List.Sorted.{IsBinarySearchResult, IsNonDecreasingBy, IsSearchInRange}
use Rattle.std.specs.Ordering.{nat_cmp, ordering_index}
use Rattle.std.proofs.lemmas.Bool.{lt-ltb}
use Rattle.std.proofs.lemmas.Bool.Decides.{nat_tests}
use Rattle.std.proofs.lemmas.Cmp.{ranked}
use Rattle.std.proofs.lemmas.Grind.{common_steps}
use Rattle.std.proofs.lemmas.List.{drop_all, drop_more, get_or_default, get_or-drop, get_or-take, length-drop, length-take, set_split, take-append-drop, take_all}
use Rattle.std.proofs.lemmas.List.Sorted.{IsNonDecreasingBy-from_default}
use Rattle.std.proofs.lemmas.List.Sums.{list_all-from_AllPass}
use Rattle.std.proofs.lemmas.Option.{none-some}
use Rattle.vrx_codec.specs.declared.run.Run.{Run}
use Rattle.vrx_buffer.specs.Frames.{runs_from, with_run, without}
use Rattle.vrx_buffer.specs.Kept.{IsPlace}
use Rattle.vrx_buffer.specs.Order.{put_by, rises_by}
use Rattle.vrx_buffer.proofs.OrderLemmas.{beyond, beyond-each, beyond-less, below, put-first}

abbrev first : Run → ℕ
first run = run.first

-- some run, which is never looked at
pub some : Run
some = record { first = 0; last = 0; ts = 0; key = false; layers = None; octets = 0 }

-- a run begins below those at later places
rises-each : (runs : List Run) (i j : ℕ) → rises_by first runs ≡ true → i < j → j < length runs
    → (get_or runs i some).first < (get_or runs j some).first
rises-each [] i j rise less lt = absurd (omega (arith, lt))
rises-each (x ∷ xs) i zero rise less lt = absurd (omega (arith, less))
rises-each (x ∷ xs) zero (suc j) rise less lt =
    beyond-each first x.first xs j some (grind (arith, common_steps)) (omega (arith, lt))
rises-each (x ∷ xs) (suc i) (suc j) rise less lt =
    rises-each xs i j (grind (arith, common_steps)) (omega (arith, less)) (omega (arith, lt))

module _ (n : ℕ) where
  without-beyond : (zs : List Run) → beyond first n zs ≡ true → without n zs ≡ zs
  without-beyond [] h = refl
  without-beyond (z ∷ zs) h = grind (arith, common_steps, without-beyond zs)

  -- no run begins at the number: some begin below it, and then some beyond it
  without-beside : (ys zs : List Run) → below first n ys ≡ true → beyond first n zs ≡ true
      → without n (ys ++ zs) ≡ ys ++ zs
  without-beside [] zs low high = without-beyond zs high
  without-beside (y ∷ ys) zs low high = grind (arith, common_steps, without-beside ys zs)

  -- one run between them does
  without-here : (ys : List Run) (y : Run) (zs : List Run) → y.first ≡ n → below first n ys ≡ true
      → beyond first n zs ≡ true → without n (ys ++ y ∷ zs) ≡ ys ++ zs
  without-here [] y zs is low high =
      let here : not (y.first == n) ≡ false = grind (arith, nat_tests, is) in
      ap (λ b. cond b (y ∷ without n zs) (without n zs)) here ∙ without-beyond zs high
  without-here (x ∷ ys) y zs is low high = grind (arith, common_steps, without-here ys y zs is)

  put-beside : (run : Run) (ys zs : List Run) → run.first ≡ n → below first n ys ≡ true → beyond first n zs ≡ true
      → put_by first run (ys ++ zs) ≡ ys ++ run ∷ zs
  put-beside run [] zs is low high =
      put-first first run zs (subst (λ m. beyond first m zs ≡ true) (sym is) high)
  put-beside run (y ∷ ys) zs is low high = grind (arith, common_steps, put-beside run ys zs is)

  with-beside : (run : Run) (ys zs : List Run) → run.first ≡ n → below first n ys ≡ true → beyond first n zs ≡ true
      → with_run run (ys ++ zs) ≡ ys ++ run ∷ zs
  with-beside run ys zs is low high =
      ap (λ m. put_by first run (without m (ys ++ zs))) is
      ∙ ap (put_by first run) (without-beside ys zs low high) ∙ put-beside run ys zs is low high

  with-here : (run : Run) (ys : List Run) (y : Run) (zs : List Run) → run.first ≡ n → y.first ≡ n
      → below first n ys ≡ true → beyond first n zs ≡ true → with_run run (ys ++ y ∷ zs) ≡ ys ++ run ∷ zs
  with-here run ys y zs is same low high =
      ap (λ m. put_by first run (without m (ys ++ y ∷ zs))) is
      ∙ ap (put_by first run) (without-here ys y zs same low high) ∙ put-beside run ys zs is low high

  -- what lies before a run that begins at the number, and after it
  below-at : (runs : List Run) (at : ℕ) → rises_by first runs ≡ true → at < length runs
      → (get_or runs at some).first ≡ n → below first n (take at runs) ≡ true
  below-at [] at rise lt is = absurd (omega (arith, lt))
  below-at (x ∷ xs) zero rise lt is = refl
  below-at (x ∷ xs) (suc at) rise lt is =
      let after : beyond first x.first xs ≡ true = grind (arith, common_steps) in
      let rest : rises_by first xs ≡ true = grind (arith, common_steps) in
      let less : x.first < (get_or xs at some).first =
      beyond-each first x.first xs at some after (omega (arith, lt)) in
      grind (arith, common_steps, less, is, below-at xs at rest (omega (arith, lt)) is)

  beyond-at : (runs : List Run) (at : ℕ) → rises_by first runs ≡ true → at < length runs
      → (get_or runs at some).first ≡ n → beyond first n (drop (suc at) runs) ≡ true
  beyond-at [] at rise lt is = absurd (omega (arith, lt))
  beyond-at (x ∷ xs) zero rise lt is =
      subst (λ m. beyond first m xs ≡ true) is (grind (arith, common_steps))
  beyond-at (x ∷ xs) (suc at) rise lt is =
      beyond-at xs at (grind (arith, common_steps)) (omega (arith, lt)) is

  -- a run that begins at the number stands at a place
  place-found : (runs : List Run) (at : ℕ) → rises_by first runs ≡ true → at < length runs
      → (get_or runs at some).first ≡ n → IsPlace n runs (Ok at)
  place-found runs at rise lt is = record {
    inside = lt;
    left = sym (without-here (take at runs) (get_or runs at some) (drop (suc at) runs) is low high)
        ∙ ap (without n) (sym parts);
    replaced = λ run same. set_split runs at run lt
        ∙ sym (with-here run (take at runs) (get_or runs at some) (drop (suc at) runs) same is low high)
        ∙ ap (with_run run) (sym parts);
    upto = tt;
    missing = tt;
    inserted = tt;
  } where
    low : below first n (take at runs) ≡ true
    low = below-at runs at rise lt is

    high : beyond first n (drop (suc at) runs) ≡ true
    high = beyond-at runs at rise lt is

    next : at + 1 ≡ suc at
    next = omega arith

    parts : runs ≡ take at runs ++ get_or runs at some ∷ drop (suc at) runs
    parts = sym (take-append-drop at runs) ∙ ap (λ zs. take at runs ++ zs)
        (drop_more runs at some lt ∙ ap (λ k. get_or runs at some ∷ drop k runs) next)

  -- none does, and one would stand at a place
  place-missing : (runs : List Run) (at : ℕ) → at ≤ length runs → below first n (take at runs) ≡ true
      → beyond first n (drop at runs) ≡ true → IsPlace n runs (Err at)
  place-missing runs at le low high = record {
    inside = tt;
    left = tt;
    replaced = tt;
    upto = le;
    missing = sym (take-append-drop at runs) ∙ sym (without-beside (take at runs) (drop at runs) low high)
        ∙ ap (without n) (take-append-drop at runs);
    inserted = λ run same. sym (with-beside run (take at runs) (drop at runs) same low high)
        ∙ ap (with_run run) (take-append-drop at runs);
  }

  -- if the last run begins below the number, all do
  below-last : (runs : List Run) (k : ℕ) → rises_by first runs ≡ true → length runs ≡ k + 1
      → (get_or runs k some).first < n → below first n runs ≡ true
  below-last [] k rise is last = refl
  below-last (x ∷ []) zero rise is last = grind (arith, common_steps, last)
  below-last (x ∷ []) (suc k) rise is last = absurd (omega (arith, is))
  below-last (x ∷ y ∷ ys) zero rise is last = absurd (omega (arith, is))
  below-last (x ∷ y ∷ ys) (suc k) rise is last =
      let rest : rises_by first (y ∷ ys) ≡ true = grind (arith, common_steps) in
      let after : beyond first x.first (y ∷ ys) ≡ true = grind (arith, common_steps) in
      let more : x.first < (get_or (y ∷ ys) k some).first =
      beyond-each first x.first (y ∷ ys) k some after (omega (arith, is)) in
      let one : nat_lt x.first n ≡ true = lt-ltb x.first n (omega (arith, more, last)) in
      ap (λ b. b && below first n (y ∷ ys)) one ∙ below-last (y ∷ ys) k rest (omega (arith, is)) last

  -- then it would stand at the end
  place-end : (runs : List Run) → below first n runs ≡ true → IsPlace n runs (Err (length runs))
  place-end runs low = place-missing runs (length runs) (omega arith)
      (ap (below first n) (take_all (length runs) runs (omega arith)) ∙ low)
      (ap (beyond first n) (drop_all (length runs) runs (omega arith)))

  pub place-last : (runs : List Run) (last : Run) (len : ℕ) → rises_by first runs ≡ true → len ≡ length runs → 0 < len
      → last ≡ get_or runs (len - 1) last → last.first < n → IsPlace n runs (Err len)
  place-last runs last len rise is_len some_run is less = subst (λ k. IsPlace n runs (Err k)) (sym is_len)
      (place-end runs (below-last runs (len - 1) rise (omega (arith, is_len, some_run))
      (subst (λ run. run.first < n) (is ∙ get_or_default runs (len - 1) last some (omega (arith, is_len, some_run)))
      less)))

  pub place-none : (runs : List Run) → length runs ≡ 0 → IsPlace n runs (Err 0)
  place-none [] is = place-end [] refl
  place-none (x ∷ xs) is = absurd (omega (arith, is))

  module _ (runs : List Run) (rise : rises_by first runs ≡ true) where
    -- the comparisons with a number rise, as a binary search asks
    comparisons_rise : IsNonDecreasingBy (λ run. ordering_index (nat_cmp run.first n)) runs
    comparisons_rise =
        IsNonDecreasingBy-from_default (λ run. ordering_index (nat_cmp run.first n)) runs some (λ i j le lt.
        let number : ℕ → ℕ = λ k. (get_or runs k some).first in
        let before : i < j → number i < number j = λ below. rises-each runs i j rise below lt in
        grind (arith, nat_tests, before, λ (same : i ≡ j). ap number same))

    -- a binary search finds the place
    pub searched : (r : Result ℕ ℕ) → IsSearchInRange r (length runs)
        → IsBinarySearchResult (λ run. nat_cmp run.first n) runs r → IsPlace n runs r
    searched (Ok at) inside equal =
        place-found runs at rise inside (ranked _ n _ (sym (equal some)))
    searched (Err at) inside parted = place-missing runs at inside
        (list_all-from_AllPass (λ run. nat_lt run.first n) (take at runs) (λ k d lt.
        let within : k < at = omega (arith, lt, length-take at runs) in
        lt-ltb _ n (subst (λ run. run.first < n) (sym (get_or-take at runs k d within))
        (ranked _ n _ (sym ((parted comparisons_rise).0 k d (omega arith) within))))))
        (list_all-from_AllPass (λ run. nat_lt n run.first) (drop at runs) (λ k d lt.
        lt-ltb n _ (subst (λ run. n < run.first) (sym (get_or-drop at runs k d))
        (ranked _ n _ (sym ((parted comparisons_rise).1 (at + k) d (omega arith)
        (omega (arith, lt, length-drop at runs))))))))

-- of runs that rise some begin at a number or below it if the first does
none-through : (last : ℕ) (xs : List Run) → beyond first last xs ≡ true
    → list_any (λ run. nat_le run.first last) xs ≡ false
none-through last [] h = refl
none-through last (x ∷ xs) h = grind (arith, common_steps, none-through last xs)

after-first : (last : ℕ) (x : Run) (xs : List Run) → rises_by first (x ∷ xs) ≡ true → last ≤ x.first
    → beyond first last xs ≡ true
after-first last x xs rise le = beyond-less first last x.first xs le (grind (arith, common_steps))

pub first-through : (last : ℕ) (run : Run) (xs : List Run) → rises_by first xs ≡ true → Some run ≡ slice_get xs 0
    → nat_le run.first last ≡ list_any (λ run. nat_le run.first last) xs
first-through last run [] rise h = absurd (none-some run (sym h))
first-through last run (x ∷ xs) rise h = grind (
  arith,
  common_steps,
  none-through last xs,
  after-first last x xs,
)

pub empty-through : (last : ℕ) (xs : List Run) → None ≡ slice_get xs 0
    → false ≡ list_any (λ run. nat_le run.first last) xs
empty-through last [] h = refl
empty-through last (x ∷ xs) h = absurd (none-some x h)

-- what is left beyond a number: all, if none begins up to it; and else as much as without the first
pub all-left : (last : ℕ) (xs : List Run) → list_any (λ run. nat_le run.first last) xs ≡ false
    → runs_from (last + 1) xs ≡ xs
all-left last [] h = refl
all-left last (x ∷ xs) h = grind (arith, common_steps, all-left last xs)

pub left-drop : (last : ℕ) (xs : List Run) → rises_by first xs ≡ true
    → list_any (λ run. nat_le run.first last) xs ≡ true
    → runs_from (last + 1) (drop 1 xs) ≡ runs_from (last + 1) xs
left-drop last [] rise h = refl
left-drop last (x ∷ xs) rise h = grind (
  arith,
  common_steps,
  none-through last xs,
  after-first last x xs,
)

-- all runs begin at 0 or beyond it
pub from-zero : (n : ℕ) (runs : List Run) → n < 1 → runs ≡ runs_from n runs
from-zero n [] h = refl
from-zero n (r ∷ rs) h = grind (arith, common_steps, from-zero n rs)
