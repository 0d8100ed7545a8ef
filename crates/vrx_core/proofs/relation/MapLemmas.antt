-- Maps from numbers in their order: what stands under a number, and which numbers there are.
use Rattle.std.proofs.Common.{◌≡◌, ◌≢◌, ℕ, Bool, true, false, cond, ◌&&◌, List, [], ◌∷◌, map, Contains, refl, sym, ◌∙◌, ap, subst, arith, inl, inr, Less, Equal, Greater, nat_cmp, is_lt, T}
use Rattle.std.specs.Prelude.{◌==◌, ◌||◌, Option, Some, None, is_some}
use Rattle.std.specs.List.{list_any}
use Rattle.std.specs.Option.{option_map}
use Rattle.std.specs.Ordering.{eq_by_cmp}
use Rattle.std.specs.Cmp.{nat_cmp_total}
use Rattle.std.specs.FinMap.{nat_cmp-IsAntisymmetric}
use Rattle.std.specs.FinMap.Entries.{below_all, by_order, find, is_sorted, is_sorted-put, is_sorted-where_key, put, where_key, find-put, find-where_key, same_entries}
use Rattle.std.proofs.lemmas.Bool.{eq-eqb, ne_eqb, true≢false}
use Rattle.std.proofs.lemmas.Grind.{common_steps}
use Rattle.vrx_window.specs.Window.{at, is_available}
use Rattle.vrx_core.proofs.relation.ListLemmas.{Contains-either, Contains-empty}

-- keys that tie are equal
pub same_key : (n k : ℕ) → eq_by_cmp nat_cmp n k ≡ true → n ≡ k
same_key n k h = grind (arith, common_steps)

-- a key ties with itself
key_same : (n : ℕ) → eq_by_cmp nat_cmp n n ≡ true
key_same n = grind (arith, common_steps)

-- a test that holds, in both forms
true-T : (b : Bool) → b ≡ true → T b
true-T b h = subst T (sym h) tt

-- and back
T-true : (b : Bool) → T b → b ≡ true
T-true true h = refl
T-true false h = absurd h

-- a test that is true is some value's
pub some-of : {X : Type 0} (o : Option X) → is_some o ≡ true → (x : X) × (o ≡ Some x)
some-of None h = absurd (true≢false (sym h))
some-of (Some x) h = (x, refl)

-- and one that is false is no value
pub none-of : {X : Type 0} (o : Option X) → is_some o ≡ false → o ≡ None
none-of None h = refl
none-of (Some x) h = absurd (true≢false h)

module _ {X : Type 0} where
  -- what stands under a number once something was put under another
  pub at_put : (q n : ℕ) (x : X) (es : List (ℕ × X)) → at q (put nat_cmp n x es) ≡ cond (q == n) (Some x) (at q es)
  at_put q n x es = let e : eq_by_cmp nat_cmp q n ≡ (q == n) = grind (arith, common_steps) in
      find-put nat_cmp nat_cmp_total q n x es ∙ ap (λ b. cond b (Some x) (at q es)) e

  -- what stands under that number
  pub at_put-here : (n : ℕ) (x : X) (es : List (ℕ × X)) → at n (put nat_cmp n x es) ≡ Some x
  at_put-here n x es = at_put n n x es ∙ ap (λ b. cond b (Some x) (at n es)) (eq-eqb n n refl)

  -- and under each other
  pub at_put-other : (q n : ℕ) (x : X) (es : List (ℕ × X)) → q ≢ n → at q (put nat_cmp n x es) ≡ at q es
  at_put-other q n x es other = at_put q n x es ∙ ap (λ b. cond b (Some x) (at q es)) (ne_eqb q n other)

  -- what stands under a number if only some numbers are left
  pub at_where : (p : ℕ → Bool) (q : ℕ) (es : List (ℕ × X)) →
      at q (where_key nat_cmp p es) ≡ cond (p q) (at q es) None
  at_where p q es = find-where_key nat_cmp p q (λ x e. ap p (sym (nat_cmp-IsAntisymmetric q x e))) es

  -- under a number that is left
  pub at_where-yes : (p : ℕ → Bool) (q : ℕ) (es : List (ℕ × X)) → p q ≡ true → at q (where_key nat_cmp p es) ≡ at q es
  at_where-yes p q es holds = at_where p q es ∙ ap (λ b. cond b (at q es) None) holds

  -- and under one that isn't
  pub at_where-no : (p : ℕ → Bool) (q : ℕ) (es : List (ℕ × X)) → p q ≡ false → at q (where_key nat_cmp p es) ≡ None
  at_where-no p q es fails = at_where p q es ∙ ap (λ b. cond b (at q es) None) fails

  -- what is found if only some numbers are left
  pub at_where-from : (p : ℕ → Bool) (q : ℕ) (es : List (ℕ × X)) (x : X) → at q (where_key nat_cmp p es) ≡ Some x →
      (p q ≡ true) × (at q es ≡ Some x)
  at_where-from p q es x is = either (p q) (at q es) (sym (at_where p q es) ∙ is) where
    either : (b : Bool) (o : Option X) → cond b o None ≡ Some x → (b ≡ true) × (o ≡ Some x)
    either true o h = (refl, h)
    either false o h = absurd (true≢false (sym (ap is_some h)))

  -- two maps in order that have the same under each number are one
  pub same-map : (es fs : List (ℕ × X)) → is_sorted nat_cmp es ≡ true → is_sorted nat_cmp fs ≡ true →
      ((n : ℕ) → at n es ≡ at n fs) → es ≡ fs
  same-map es fs a b same =
      same_entries nat_cmp nat_cmp_total nat_cmp-IsAntisymmetric es fs (true-T (is_sorted nat_cmp es) a)
      (true-T (is_sorted nat_cmp fs) b) same

  -- maps stay in order
  pub sorted_put : (n : ℕ) (x : X) (es : List (ℕ × X)) → is_sorted nat_cmp es ≡ true →
      is_sorted nat_cmp (put nat_cmp n x es) ≡ true
  sorted_put n x es h = T-true _ (is_sorted-put nat_cmp nat_cmp_total n x es (true-T _ h))

  -- also if some numbers are left out
  pub sorted_where : (p : ℕ → Bool) (es : List (ℕ × X)) → is_sorted nat_cmp es ≡ true →
      is_sorted nat_cmp (where_key nat_cmp p es) ≡ true
  sorted_where p es h = T-true _ (is_sorted-where_key nat_cmp p es (true-T _ h))

  -- a number of an entry is available
  pub entry-available : (es : List (ℕ × X)) (e : ℕ × X) → Contains es e → is_available e.0 es ≡ true
  entry-available [] e c = absurd (Contains-empty e c)
  entry-available (d ∷ es) e c = elim (Contains-either d es e c) [
    | inl same ↦ subst (λ (f : ℕ × X). is_available f.0 (d ∷ es) ≡ true) same
        (ap (λ b. is_some (cond b (Some d.1) (find nat_cmp d.0 es))) (key_same d.0))
    | inr later ↦ either (eq_by_cmp nat_cmp e.0 d.0) (entry-available es e later)
  ] where
    either : (b : Bool) → is_available e.0 es ≡ true → is_some (cond b (Some d.1) (find nat_cmp e.0 es)) ≡ true
    either true h = refl
    either false h = h

  -- a number that is available is among the numbers
  pub among-numbers : (es : List (ℕ × X)) (n : ℕ) → is_available n es ≡ list_any (λ k. n == k) (map (λ e. e.0) es)
  among-numbers [] n = refl
  among-numbers (e ∷ es) n =
      let same : eq_by_cmp nat_cmp n e.0 ≡ (n == e.0) = grind (arith, common_steps) in
      ap (λ b. is_some (cond b (Some e.1) (find nat_cmp n es))) same
      ∙ elim (n == e.0) as (λ b.
      is_some (cond b (Some e.1) (find nat_cmp n es))
      ≡ (b || list_any (λ k. n == k) (map (λ e. e.0) es))) [ true ↦ refl | false ↦ among-numbers es n ]

module _ {X Y : Type 0} (f : X → Y) where
  -- the map with each value changed
  abbrev pub values : List (ℕ × X) → List (ℕ × Y)
  values es = map (λ e. (e.0, f e.1)) es

  -- what stands under a number of a map whose values change by a function
  pub at_map : (q : ℕ) (es : List (ℕ × X)) → at q (values es) ≡ option_map f (at q es)
  at_map q [] = refl
  at_map q (e ∷ es) = elim (eq_by_cmp nat_cmp q e.0) as (λ b.
      cond b (Some (f e.1)) (at q (values es)) ≡ option_map f
      (cond b (Some e.1) (at q es))) [ true ↦ refl | false ↦ at_map q es ]

  -- the same numbers are available
  pub available_map : (q : ℕ) (es : List (ℕ × X)) → is_available q (values es) ≡ is_available q es
  available_map q es = ap is_some (at_map q es) ∙ either (at q es) where
    either : (o : Option X) → is_some (option_map f o) ≡ is_some o
    either None = refl
    either (Some x) = refl

  -- and of one in which something was put, or some numbers are left
  pub map_put : (n : ℕ) (x : X) (es : List (ℕ × X)) → values (put nat_cmp n x es) ≡ put nat_cmp n (f x) (values es)
  map_put n x [] = refl
  map_put n x (e ∷ es) = elim (nat_cmp n e.0) as (λ o.
      values (by_order o ((n, x) ∷ e ∷ es) ((e.0, x) ∷ es) (e ∷ put nat_cmp n x es)) ≡ by_order o
      ((n, f x) ∷ (e.0, f e.1) ∷ values es) ((e.0, f x) ∷ values es)
      ((e.0, f e.1) ∷ put nat_cmp n (f x) (values es))) [
        | Less ↦ refl
        | Equal ↦ refl
        | Greater ↦ ap (λ (ds : List (ℕ × Y)). (e.0, f e.1) ∷ ds) (map_put n x es)
      ]

  -- and of one from which some numbers are left out
  pub map_where : (p : ℕ → Bool) (es : List (ℕ × X)) →
      values (where_key nat_cmp p es) ≡ where_key nat_cmp p (values es)
  map_where p [] = refl
  map_where p (e ∷ es) = elim (p e.0) as (λ b.
      values (cond b (e ∷ where_key nat_cmp p es) (where_key nat_cmp p es)) ≡ cond b
      ((e.0, f e.1) ∷ where_key nat_cmp p (values es)) (where_key nat_cmp p (values es))) [
        | true ↦ ap (λ (ds : List (ℕ × Y)). (e.0, f e.1) ∷ ds) (map_where p es)
        | false ↦ map_where p es
      ]

  -- the keys are the same, so the order is
  below_map : (k : ℕ) (es : List (ℕ × X)) → below_all nat_cmp k (values es) ≡ below_all nat_cmp k es
  below_map k [] = refl
  below_map k (e ∷ es) = ap (λ b. is_lt (nat_cmp k e.0) && b) (below_map k es)

  -- a map stays in order
  pub sorted_map : (es : List (ℕ × X)) → is_sorted nat_cmp (values es) ≡ is_sorted nat_cmp es
  sorted_map [] = refl
  sorted_map (e ∷ es) = ap (λ b. b && is_sorted nat_cmp (values es)) (below_map e.0 es)
      ∙ ap (λ b. below_all nat_cmp e.0 es && b) (sorted_map es)

  -- the numbers are the same
  pub numbers_map : (es : List (ℕ × X)) → map (λ (e : ℕ × Y). e.0) (values es) ≡ map (λ (e : ℕ × X). e.0) es
  numbers_map [] = refl
  numbers_map (e ∷ es) = ap (λ (ns : List ℕ). e.0 ∷ ns) (numbers_map es)
