-- What is picked of a ring's entries, before and after one is put in.
use Rattle.std.proofs.Common.{◌≡◌, ℕ, ◌≤◌, Bool, true, false, cond, List, [], ◌∷◌, length, refl, sym, ◌∙◌, ap, subst, arith}
use Rattle.std.specs.Prelude.{◌==◌, T, Option, Some, None, is_some}
use Rattle.std.specs.List.{AllByRecursion, filter, filter_map, cons_option}
use Rattle.std.specs.List.Sorted.{IsStrictlySortedBy}
use Rattle.std.specs.Option.{option_and_then, option_map}
use Rattle.std.specs.Ordering.{nat_cmp}
use Rattle.std.specs.Cmp.{nat_cmp_total}
use Rattle.std.specs.declared.cmp.Ordering.TheVariants.{Less, Equal, Greater}
use Rattle.std.specs.FinMap.Entries.{below_all, by_order, is_sorted, is_sorted-put, is_sorted-where_key, put, where_key}
use Rattle.std.proofs.lemmas.Bool.{true≢false}
use Rattle.std.proofs.lemmas.Grind.{common_steps}
use Rattle.vrx_num.specs.declared.limits.TheConstants.{WINDOW}
use Rattle.vrx_window.specs.Fates.{numbers_of, entries_by}
use Rattle.vrx_window.specs.IsWindow.{IsWithin}
use Rattle.vrx_window.specs.Numbered.{Numbered, IsNumbered}
use Rattle.vrx_window.specs.Ring.{numbers}
use Rattle.vrx_window.specs.Window.{at, in_window, is_dead, is_inside, entries_in, entries_with, with_number}
use Rattle.vrx_window.proofs.EntryLemmas.{of_true, entries, entry, equal, few-entries, find-entries, find_put, find_where, sorted-entries}

none_of : {X : Type 0} (o : Option X) → (is_some o ≡ true → true ≡ false) → o ≡ None
none_of None h = refl
none_of (Some x) h = absurd (true≢false (h refl))

-- a test of what is picked
then_some : {X Y : Type 0} (f : X → Option Y) (o : Option X) → is_some (option_and_then f o) ≡ true → is_some o ≡ true
then_some f None h = h
then_some f (Some x) h = refl

module _ {X : Type 0} where
  -- the numbers of entries that rise do
  below-numbers : (x : ℕ) (es : List (ℕ × X)) → T (below_all nat_cmp x es)
      → AllByRecursion (λ y. nat_cmp x y ≡ Less) (numbers_of es)
  below-numbers x [] h = tt
  below-numbers x (e ∷ es) h = (grind (arith, common_steps), below-numbers x es (grind (arith, common_steps)))

  pub rising-numbers : (es : List (ℕ × X)) → T (is_sorted nat_cmp es) → IsStrictlySortedBy nat_cmp (numbers_of es)
  unfolding IsStrictlySortedBy
  rising-numbers [] h = tt
  rising-numbers (e ∷ es) h =
      (below-numbers e.0 es (grind (arith, common_steps)), rising-numbers es (grind (arith, common_steps)))

  -- a number is among those of some entries if something is found there
  pub dead-numbers : (q : ℕ) (es : List (ℕ × X)) → is_dead q (numbers_of es) ≡ is_some (at q es)
  dead-numbers q [] = refl
  dead-numbers q (e ∷ es) = grind (arith, common_steps, dead-numbers q es)

  pub numbers-where : (p : ℕ → Bool) (es : List (ℕ × X)) →
      numbers_of (where_key nat_cmp p es) ≡ filter p (numbers_of es)
  numbers-where p [] = refl
  numbers-where p (e ∷ es) =
      let rest = numbers-where p es in
      elim (p e.0) as (λ b. numbers_of (cond b (e ∷ where_key nat_cmp p es) (where_key nat_cmp p es))
      ≡ cond b (e.0 ∷ filter p (numbers_of es)) (filter p (numbers_of es))) [
        | true ↦ ap (λ ks. e.0 ∷ ks) rest
        | false ↦ rest
      ]

  pub numbers-put : (n : ℕ) (x : X) (es : List (ℕ × X)) →
      numbers_of (put nat_cmp n x es) ≡ with_number n (numbers_of es)
  numbers-put n x [] = refl
  numbers-put n x (e ∷ es) =
      let rest = numbers-put n x es in
      elim (nat_cmp n e.0) as (λ o. numbers_of (by_order o ((n, x) ∷ e ∷ es) ((e.0, x) ∷ es) (e ∷ put nat_cmp n x es))
      ≡ by_order o (n ∷ e.0 ∷ numbers_of es) (e.0 ∷ numbers_of es) (e.0 ∷ with_number n (numbers_of es))) [
        | Less ↦ refl
        | Equal ↦ refl
        | Greater ↦ ap (λ ks. e.0 ∷ ks) rest
      ]

  -- the entries of a map within the window are those of its numbers, if what is found stands under each
  module _ (newest : Option ℕ) (es : List (ℕ × X)) (is : IsWithin newest es) where
    abbrev found_at : ℕ → Option X
    found_at q = at q es

    outside : (q : ℕ) (b : Bool) → is_inside newest q ≡ b → at q es ≡ cond b (at q es) None
    outside q true h = refl
    outside q false h = none_of (at q es) (λ has. sym (is.inside q has) ∙ h)

    as_entries : es ≡ entries found_at newest
    as_entries = equal _ _ (of_true _ is.rise) (sorted-entries found_at newest)
        (λ q. outside q (is_inside newest q) refl ∙ sym (find-entries found_at newest q))

    pub few-within : length es ≤ WINDOW
    few-within = subst (λ xs. length xs ≤ WINDOW) (sym as_entries) (few-entries found_at newest)

  within : (ring : Numbered X) → IsNumbered ring → IsWithin ring.newest ring.entries
  within ring is = record { rise = is.rise; inside = is.inside }

module _ {X Y : Type 0} (f : X → Option Y) where
  abbrev with_picked : ℕ → Option Y → List (ℕ × Y) → List (ℕ × Y)
  with_picked k o others = cons_option (option_map (λ y. (k, y)) o) others

  abbrev with_found : ℕ → Option X → List (ℕ × X) → List (ℕ × X)
  with_found k o others = cons_option (option_map (λ x. (k, x)) o) others

  -- what is picked of the entries of some numbers
  entries_by-entries : (g : ℕ → Option X) (ks : List ℕ)
      → entries_by f (filter_map (entry g) ks) ≡ filter_map (entry (λ q. option_and_then f (g q))) ks
  entries_by-entries g [] = refl
  entries_by-entries g (k ∷ ks) =
      let rest = entries_by-entries g ks in
      let others = filter_map (entry g) ks in
      let after = filter_map (entry (λ q. option_and_then f (g q))) ks in
      elim (g k) as (λ o. entries_by f (with_found k o others) ≡ with_picked k (option_and_then f o) after) [
        | None ↦ rest
        | Some x ↦ elim (f x) as (λ p. with_picked k p (entries_by f others) ≡ with_picked k p after) [
          | None ↦ rest
          | Some y ↦ ap (λ es. (k, y) ∷ es) rest
        ]
      ]

  module _ (ring : Numbered X) (is : IsNumbered ring) where
    abbrev left_at : ℕ → Option Y
    left_at q = option_and_then f (at q ring.entries)

    picked_is : entries_by f ring.entries ≡ entries left_at ring.newest
    picked_is = ap (entries_by f) (as_entries ring.newest ring.entries (within ring is))
        ∙ entries_by-entries (λ q. at q ring.entries) (numbers ring.newest)

    pub sorted-entries_by : T (is_sorted nat_cmp (entries_by f ring.entries))
    sorted-entries_by = subst (λ es. T (is_sorted nat_cmp es)) (sym picked_is) (sorted-entries left_at ring.newest)

    pub few-entries_by : length (entries_by f ring.entries) ≤ WINDOW
    few-entries_by = subst (λ es. length es ≤ WINDOW) (sym picked_is) (few-entries left_at ring.newest)

    pub at-entries_by : (q : ℕ) → at q (entries_by f ring.entries) ≡ option_and_then f (at q ring.entries)
    at-entries_by q = ap (at q) picked_is ∙ find-entries left_at ring.newest q
        ∙ sym (ap (option_and_then f)
        (outside ring.newest ring.entries (within ring is) q (is_inside ring.newest q) refl)
        ∙ pushed (is_inside ring.newest q) (at q ring.entries)) where
          pushed : (b : Bool) (o : Option X) → option_and_then f (cond b o None) ≡ cond b (option_and_then f o) None
          pushed true o = refl
          pushed false o = refl

    -- what is picked is inside
    pub picked_inside : (q : ℕ) → is_some (at q (entries_by f ring.entries)) ≡ true → is_inside ring.newest q ≡ true
    picked_inside q has = is.inside q (then_some f (at q ring.entries) (ap is_some (sym (at-entries_by q)) ∙ has))

    -- in the window itself all stays
    pub all_left : (m : ℕ) → ring.newest ≡ Some m →
        entries_in m (entries_by f ring.entries) ≡ entries_by f ring.entries
    all_left m newest = equal _ _ (is_sorted-where_key nat_cmp (in_window m) _ sorted-entries_by) sorted-entries_by
        (λ q. find_where (in_window m) q (entries_by f ring.entries) ∙ sym (stays q (in_window m q) refl)) where
          stays : (q : ℕ) (b : Bool) → in_window m q ≡ b
              → at q (entries_by f ring.entries) ≡ cond b (at q (entries_by f ring.entries)) None
          stays q true h = refl
          stays q false h = none_of (at q (entries_by f ring.entries))
              (λ has. sym (picked_inside q has) ∙ ap (λ o. is_inside o q) newest ∙ h)

  -- x was put under n in the ring
  module _ (old new : Numbered X) (was : IsNumbered old) (is : IsNumbered new) (next n : ℕ) (x : X)
      (put_in : new.entries ≡ entries_with next n x old.entries) where
    abbrev before : List (ℕ × Y)
    before = entries_by f old.entries

    at_new : (q : ℕ) → at q (entries_by f new.entries)
        ≡ option_and_then f (cond (q == n) (Some x) (cond (in_window next q) (at q old.entries) None))
    at_new q = at-entries_by new is q ∙ ap (option_and_then f) (ap (at q) put_in
        ∙ find_put q n x (entries_in next old.entries)
        ∙ ap (cond (q == n) (Some x)) (find_where (in_window next) q old.entries))

    pushed : (a b : Bool) (p : Option Y) (o : Option X) → f x ≡ p
        → option_and_then f (cond a (Some x) (cond b o None)) ≡ cond a p (cond b (option_and_then f o) None)
    pushed true b p o h = h
    pushed false true p o h = refl
    pushed false false p o h = refl

    -- what is found then
    at_left : (q : ℕ) (p : Option Y) → f x ≡ p → at q (entries_by f new.entries)
        ≡ cond (q == n) p (cond (in_window next q) (at q before) None)
    at_left q p h = at_new q ∙ pushed (q == n) (in_window next q) p (at q old.entries) h
        ∙ ap (λ o. cond (q == n) p (cond (in_window next q) o None)) (sym (at-entries_by old was q))

    -- if f picks it, it was put there too
    pub picked_here : (y : Y) → f x ≡ Some y → entries_by f new.entries ≡ entries_with next n y before
    picked_here y h = equal _ _ (sorted-entries_by new is)
        (is_sorted-put nat_cmp nat_cmp_total n y _
        (is_sorted-where_key nat_cmp (in_window next) _ (sorted-entries_by old was)))
        (λ q. at_left q (Some y) h ∙ sym (find_put q n y (entries_in next before)
        ∙ ap (cond (q == n) (Some y)) (find_where (in_window next) q before)))

    -- if f doesn't pick it, and had picked nothing there, the rest is left
    pub picked_away : f x ≡ None → at n before ≡ None → entries_by f new.entries ≡ entries_in next before
    picked_away h none = equal _ _ (sorted-entries_by new is)
        (is_sorted-where_key nat_cmp (in_window next) _ (sorted-entries_by old was))
        (λ q. at_left q None h ∙ same q ∙ sym (find_where (in_window next) q before)) where
          same : (q : ℕ) → cond (q == n) None (cond (in_window next q) (at q before) None)
              ≡ cond (in_window next q) (at q before) None
          same q = grind (arith, common_steps)
