-- Lists of entries made from the numbers of a window, where a function says what stands under each.
use Rattle.std.proofs.Common.{◌≡◌, ◌≢◌, ℕ, zero, suc, ◌+◌, ◌-◌, ◌<◌, ◌≤◌, Bool, true, false, cond, ◌&&◌, List, length, [], ◌∷◌, refl, sym, ◌∙◌, ap, subst, arith, inl, inr}
use Rattle.std.specs.Prelude.{◌==◌, T, Option, Some, None}
use Rattle.std.specs.List.{filter_map, range_with_len, list_any, cons_option}
use Rattle.std.specs.Option.{option_map}
use Rattle.std.specs.Ordering.{nat_cmp, is_lt, eq_by_cmp}
use Rattle.std.specs.Cmp.{nat_cmp_total}
use Rattle.std.specs.FinMap.{nat_cmp-IsAntisymmetric}
use Rattle.std.specs.FinMap.Entries.{find, put, where_key, below_all, is_sorted, is_sorted-put, is_sorted-where_key, find-put, find-where_key, same_entries}
use Rattle.std.proofs.lemmas.Bool.{true≢false, cases_eq, eq-eqb, ne_eqb}
use Rattle.std.proofs.lemmas.Grind.{common_steps}
use Rattle.vrx_num.specs.declared.limits.TheConstants.{WINDOW}
use Rattle.vrx_window.specs.Window.{in_window, is_inside}
use Rattle.vrx_window.specs.Ring.{numbers}
use Rattle.vrx_window.proofs.NumberLemmas.{among_numbers}

pub true_of : (b : Bool) → T b → b ≡ true
true_of true h = refl
true_of false h = absurd h

pub of_true : (b : Bool) → b ≡ true → T b
of_true true h = tt
of_true false h = absurd (true≢false (sym h))

both : (a b : Bool) → T a → T b → T (a && b)
both true b p q = q
both false b p q = absurd p

less : (x a : ℕ) → x < a → T (is_lt (nat_cmp x a))
less x a h = let e : is_lt (nat_cmp x a) ≡ true = grind (arith, common_steps) in subst T (sym e) tt

module _ {X : Type 0} where
  -- a number with what stands under it
  abbrev pub entry : (ℕ → Option X) → ℕ → Option (ℕ × X)
  entry f n = option_map (λ x. (n, x)) (f n)

  -- what stands under a number, if anything, and the entries after it
  abbrev with_entry : ℕ → Option X → List (ℕ × X) → List (ℕ × X)
  with_entry n o es = cons_option (option_map (λ x. (n, x)) o) es

  -- what is found among the entries of some numbers
  found : (f : ℕ → Option X) (q : ℕ) (ks : List ℕ)
      → find nat_cmp q (filter_map (entry f) ks) ≡ cond (list_any (λ k. q == k) ks) (f q) None
  found f q [] = refl
  found f q (k ∷ ks) = grind (arith, common_steps, found f q ks)

  -- the entries of numbers that rise do
  below : (f : ℕ → Option X) (x a n : ℕ) → x < a → T (below_all nat_cmp x (filter_map (entry f) (range_with_len a n)))
  below f x a zero h = tt
  below f x a (suc n) h =
      let rest = below f x (a + 1) n (omega arith) in
      let others = filter_map (entry f) (range_with_len (a + 1) n) in
      elim (f a) as (λ o. T (below_all nat_cmp x (with_entry a o others))) [
        | None ↦ rest
        | Some v ↦ both _ _ (less x a h) rest
      ]

  rising : (f : ℕ → Option X) (a n : ℕ) → T (is_sorted nat_cmp (filter_map (entry f) (range_with_len a n)))
  rising f a zero = tt
  rising f a (suc n) =
      let rest = rising f (a + 1) n in
      let others = filter_map (entry f) (range_with_len (a + 1) n) in
      elim (f a) as (λ o. T (is_sorted nat_cmp (with_entry a o others))) [
        | None ↦ rest
        | Some v ↦ both _ _ (below f a (a + 1) n (omega arith)) rest
      ]

  -- the entries of the window's numbers
  abbrev pub entries : (ℕ → Option X) → Option ℕ → List (ℕ × X)
  entries f newest = filter_map (entry f) (numbers newest)

  pub sorted-entries : (f : ℕ → Option X) (newest : Option ℕ) → T (is_sorted nat_cmp (entries f newest))
  sorted-entries f None = tt
  sorted-entries f (Some newest) = rising f (newest + 1 - WINDOW) (newest + 1 - (newest + 1 - WINDOW))

  -- there are at most as many entries as numbers
  few : (f : ℕ → Option X) (a n : ℕ) → length (filter_map (entry f) (range_with_len a n)) ≤ n
  few f a zero = omega arith
  few f a (suc n) =
      let rest = few f (a + 1) n in
      let others = filter_map (entry f) (range_with_len (a + 1) n) in
      elim (f a) as (λ o. length (with_entry a o others) ≤ suc n) [
        | None ↦ omega (arith, rest)
        | Some v ↦ omega (arith, rest)
      ]

  pub few-entries : (f : ℕ → Option X) (newest : Option ℕ) → length (entries f newest) ≤ WINDOW
  few-entries f None = omega arith
  few-entries f (Some newest) = omega (arith, few f (newest + 1 - WINDOW) (newest + 1 - (newest + 1 - WINDOW)))

  -- what is found under a number: what stands under it, in the window
  pub find-entries : (f : ℕ → Option X) (newest : Option ℕ) (q : ℕ)
      → find nat_cmp q (entries f newest) ≡ cond (is_inside newest q) (f q) None
  find-entries f newest q = found f q (numbers newest) ∙ ap (λ b. cond b (f q) None) (among_numbers newest q)

  -- what is found once an entry was put in, and where some are left out
  pub find_put : (q n : ℕ) (x : X) (es : List (ℕ × X))
      → find nat_cmp q (put nat_cmp n x es) ≡ cond (q == n) (Some x) (find nat_cmp q es)
  find_put q n x es = let e : eq_by_cmp nat_cmp q n ≡ (q == n) = grind (arith, common_steps) in
      find-put nat_cmp nat_cmp_total q n x es ∙ ap (λ b. cond b (Some x) (find nat_cmp q es)) e

  pub find_where : (p : ℕ → Bool) (q : ℕ) (es : List (ℕ × X))
      → find nat_cmp q (where_key nat_cmp p es) ≡ cond (p q) (find nat_cmp q es) None
  find_where p q es = find-where_key nat_cmp p q (λ x e. ap p (sym (nat_cmp-IsAntisymmetric q x e))) es

  -- two maps in the order of their numbers in which the same is found are the same
  pub equal : (es fs : List (ℕ × X)) → T (is_sorted nat_cmp es) → T (is_sorted nat_cmp fs)
      → ((q : ℕ) → find nat_cmp q es ≡ find nat_cmp q fs) → es ≡ fs
  equal es fs a b same = same_entries nat_cmp nat_cmp_total nat_cmp-IsAntisymmetric es fs a b same

  -- two values that are the same where a test holds
  same_under : (b : Bool) (o p : Option X) → (b ≡ true → o ≡ p) → cond b o None ≡ cond b p None
  same_under true o p same = same refl
  same_under false o p same = refl

  -- a value that is x at the number n, and p elsewhere
  chosen : (q n : ℕ) (x : X) (o p : Option X) → (q ≡ n → o ≡ Some x) → (q ≢ n → o ≡ p)
      → o ≡ cond (q == n) (Some x) p
  chosen q n x o p here there = elim (cases_eq q n) [
    | inl same ↦ here same ∙ sym (ap (λ b. cond b (Some x) p) (eq-eqb q n same))
    | inr apart ↦ there apart ∙ sym (ap (λ b. cond b (Some x) p) (ne_eqb q n apart))
  ]

  -- f says what stands under the numbers before, g what stands there afterwards
  module _ (f g : ℕ → Option X) (newest : Option ℕ) where
    -- what the window had under a number
    abbrev pub was : ℕ → Option X
    was q = cond (is_inside newest q) (f q) None

    -- the entries that are left in a new window
    abbrev pub kept : ℕ → List (ℕ × X)
    kept next = where_key nat_cmp (in_window next) (entries f newest)

    find-kept : (next q : ℕ) → find nat_cmp q (kept next) ≡ cond (in_window next q) (was q) None
    find-kept next q = find_where (in_window next) q (entries f newest)
        ∙ ap (λ o. cond (in_window next q) o None) (find-entries f newest q)

    sorted-kept : (next : ℕ) → T (is_sorted nat_cmp (kept next))
    sorted-kept next = is_sorted-where_key nat_cmp (in_window next) (entries f newest) (sorted-entries f newest)

    -- the window moved
    pub entries-moved : (next : ℕ) → ((q : ℕ) → in_window next q ≡ true → g q ≡ was q)
        → entries g (Some next) ≡ kept next
    entries-moved next there = equal _ _ (sorted-entries g (Some next)) (sorted-kept next) (λ q.
        find-entries g (Some next) q ∙ same_under (in_window next q) (g q) (was q) (there q) ∙ sym (find-kept next q))

    -- the window moved, and x was put under n
    pub entries-placed : (next n : ℕ) (x : X) → in_window next n ≡ true → g n ≡ Some x
        → ((q : ℕ) → q ≢ n → in_window next q ≡ true → g q ≡ was q)
        → entries g (Some next) ≡ put nat_cmp n x (kept next)
    entries-placed next n x inside here there =
        let rises = is_sorted-put nat_cmp nat_cmp_total n x (kept next) (sorted-kept next) in
        equal _ _ (sorted-entries g (Some next)) rises found_there where
          there_or : (q : ℕ) → cond (in_window next q) (g q) None
              ≡ cond (q == n) (Some x) (cond (in_window next q) (was q) None)
          there_or q = chosen q n x _ _
              (λ same. ap (λ b. cond b (g q) None) (ap (in_window next) same ∙ inside) ∙ ap g same ∙ here)
              (λ apart. same_under (in_window next q) (g q) (was q) (there q apart))

          found_there : (q : ℕ)
              → find nat_cmp q (entries g (Some next)) ≡ find nat_cmp q (put nat_cmp n x (kept next))
          found_there q = find-entries g (Some next) q ∙ there_or q
              ∙ sym (find_put q n x (kept next) ∙ ap (cond (q == n) (Some x)) (find-kept next q))
