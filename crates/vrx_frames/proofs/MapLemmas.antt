-- Maps from numbers in their order: what stands under a number, and which numbers there are.
use Rattle.std.proofs.Common.{◌≡◌, ◌≢◌, ℕ, ◌<◌, ◌⊎◌, Bool, true, false, cond, ◌&&◌, ◌||◌, List, [], ◌∷◌, map, refl, sym, ◌∙◌, ap, subst, arith, inl, inr, nat_cmp, is_lt}
use Rattle.std.specs.Prelude.{◌==◌, T, Some, None, is_some}
use Rattle.std.specs.List.{filter, list_any}
use Rattle.std.specs.Option.{option_map, option_map_or}
use Rattle.std.specs.Ordering.{eq_by_cmp}
use Rattle.std.specs.Cmp.{nat_cmp_total}
use Rattle.std.specs.FinMap.{nat_cmp-IsAntisymmetric}
use Rattle.std.specs.FinMap.Entries.{find, put, where_key, below_all, is_sorted, is_sorted-put, is_sorted-where_key, find-put, find-where_key, same_entries}
use Rattle.std.proofs.lemmas.Bool.{and_parts, cases_eq, eq-eqb, false_from_ne_true, ne_eqb, true≢false}
use Rattle.std.proofs.lemmas.Option.{none-some}
use Rattle.std.proofs.lemmas.Grind.{common_steps}
use Rattle.vrx_window.specs.Window.{at, is_available}

-- keys that tie are equal
pub same_key : (n k : ℕ) → eq_by_cmp nat_cmp n k ≡ true → n ≡ k
same_key n k h = grind (arith, common_steps)

-- keys whose comparison is less
pub less_key : (n k : ℕ) → is_lt (nat_cmp n k) ≡ true → n < k
less_key n k h = grind (arith, common_steps)

from-T : (b : Bool) → T b → b ≡ true
from-T true t = refl
from-T false t = absurd t

module _ {X : Type 0} where
  -- what is found at a key is the first entry's, or among the others
  found_cases : (n : ℕ) (e : ℕ × X) (es : List (ℕ × X)) (b : Bool) → eq_by_cmp nat_cmp n e.0 ≡ b →
      is_some (cond b (Some e.1) (find nat_cmp n es)) ≡ true → (n ≡ e.0) ⊎ (is_available n es ≡ true)
  found_cases n e es true same h = inl (same_key n e.0 same)
  found_cases n e es false same h = inr h

  -- an available number is the first entry's, or among the others
  pub available_cases : (n : ℕ) (e : ℕ × X) (es : List (ℕ × X)) → is_available n (e ∷ es) ≡ true →
      (n ≡ e.0) ⊎ (is_available n es ≡ true)
  available_cases n e es h = found_cases n e es (eq_by_cmp nat_cmp n e.0) refl h

  -- what stands under a number of a map whose values change by a function
  pub at_map : {Y : Type 0} (f : X → Y) (q : ℕ) (es : List (ℕ × X)) →
      at q (map (λ e. (e.0, f e.1)) es) ≡ option_map f (at q es)
  at_map f q [] = refl
  at_map f q (e ∷ es) = elim (eq_by_cmp nat_cmp q e.0) as (λ b.
      cond b (Some (f e.1)) (at q (map (λ d. (d.0, f d.1)) es)) ≡ option_map f
      (cond b (Some e.1) (at q es))) [ true ↦ refl | false ↦ at_map f q es ]

  -- what stands under a number once something was put under another
  pub at_put : (q n : ℕ) (x : X) (es : List (ℕ × X)) → at q (put nat_cmp n x es) ≡ cond (q == n) (Some x) (at q es)
  at_put q n x es = let e : eq_by_cmp nat_cmp q n ≡ (q == n) = grind (arith, common_steps) in
      find-put nat_cmp nat_cmp_total q n x es ∙ ap (λ b. cond b (Some x) (at q es)) e

  -- what stands under that number
  pub at_put-here : (n : ℕ) (x : X) (es : List (ℕ × X)) → at n (put nat_cmp n x es) ≡ Some x
  at_put-here n x es = at_put n n x es ∙ ap (λ b. cond b (Some x) (at n es)) (eq-eqb n n refl)

  -- and under each other
  pub at_put-other : (q n : ℕ) (x : X) (es : List (ℕ × X)) → q ≢ n → at q (put nat_cmp n x es) ≡ at q es
  at_put-other q n x es other = at_put q n x es ∙ ap (λ b. cond b (Some x) (at q es)) (ne_eqb q n other)

  -- what stands under a number where some numbers are left
  pub at_where : (p : ℕ → Bool) (q : ℕ) (es : List (ℕ × X)) →
      at q (where_key nat_cmp p es) ≡ cond (p q) (at q es) None
  at_where p q es = find-where_key nat_cmp p q (λ x e. ap p (sym (nat_cmp-IsAntisymmetric q x e))) es

  pub at_where-yes : (p : ℕ → Bool) (q : ℕ) (es : List (ℕ × X)) → p q ≡ true → at q (where_key nat_cmp p es) ≡ at q es
  at_where-yes p q es holds = at_where p q es ∙ ap (λ b. cond b (at q es) None) holds

  pub at_where-no : (p : ℕ → Bool) (q : ℕ) (es : List (ℕ × X)) → p q ≡ false → at q (where_key nat_cmp p es) ≡ None
  at_where-no p q es fails = at_where p q es ∙ ap (λ b. cond b (at q es) None) fails

  -- the first entry's number has it
  pub at_first : (e : ℕ × X) (es : List (ℕ × X)) → at e.0 (e ∷ es) ≡ Some e.1
  at_first e es = let same : eq_by_cmp nat_cmp e.0 e.0 ≡ true =
      grind (arith, common_steps) in ap (λ b. cond b (Some e.1) (at e.0 es)) same

  -- and another number has what the other entries have
  pub at_later : (n : ℕ) (e : ℕ × X) (es : List (ℕ × X)) → n ≢ e.0 → at n (e ∷ es) ≡ at n es
  at_later n e es other = ap (λ b. cond b (Some e.1) (at n es))
      (false_from_ne_true (eq_by_cmp nat_cmp n e.0) (λ h. other (same_key n e.0 h)))

  -- what is below all isn't there
  pub below-none : (x : ℕ) (es : List (ℕ × X)) → below_all nat_cmp x es ≡ true → at x es ≡ None
  below-none x [] h = refl
  below-none x (e ∷ es) h =
      let p : (is_lt (nat_cmp x e.0) ≡ true) × (below_all nat_cmp x es ≡ true) =
      and_parts (is_lt (nat_cmp x e.0)) (below_all nat_cmp x es) h in
      let less : x < e.0 = less_key x e.0 p.0 in
      at_later x e es (λ same. omega arith) ∙ below-none x es p.1

  -- the numbers of a sorted map rise, whatever stands under them
  pub below-map : {Y : Type 0} (f : X → Y) (x : ℕ) (es : List (ℕ × X)) →
      below_all nat_cmp x (map (λ e. (e.0, f e.1)) es) ≡ below_all nat_cmp x es
  below-map f x [] = refl
  below-map f x (e ∷ es) = ap (λ b. is_lt (nat_cmp x e.0) && b) (below-map f x es)

  pub sorted-map : {Y : Type 0} (f : X → Y) (es : List (ℕ × X)) →
      is_sorted nat_cmp (map (λ e. (e.0, f e.1)) es) ≡ is_sorted nat_cmp es
  sorted-map f [] = refl
  sorted-map f (e ∷ es) = ap (λ b. b && is_sorted nat_cmp (map (λ d. (d.0, f d.1)) es)) (below-map f e.0 es)
      ∙ ap (λ b. below_all nat_cmp e.0 es && b) (sorted-map f es)

  -- the numbers of entries that pass a test, if another test says so of their numbers
  pub filter-keys : (test : X → Bool) (p : ℕ → Bool) (es : List (ℕ × X)) → is_sorted nat_cmp es ≡ true →
      ((n : ℕ) (x : X) → at n es ≡ Some x → test x ≡ p n) →
      map (λ e. e.0) (filter (λ e. test e.1) es) ≡ filter p (map (λ e. e.0) es)
  filter-keys test p [] sorted so = refl
  filter-keys test p (e ∷ es) sorted so =
      let s : (below_all nat_cmp e.0 es ≡ true) × (is_sorted nat_cmp es ≡ true) =
      and_parts (below_all nat_cmp e.0 es) (is_sorted nat_cmp es) sorted in
      let rest : map (λ d. d.0) (filter (λ d. test d.1) es) ≡ filter p (map (λ d. d.0) es) =
      filter-keys test p es s.1
      (λ n x is. so n x (at_later n e es
      (λ same. none-some x (sym (below-none e.0 es s.0) ∙ ap (λ k. at k es) (sym same) ∙ is)) ∙ is)) in
      picked (test e.1) (p e.0) (so e.0 e.1 (at_first e es)) rest where
        picked : (a b : Bool) → a ≡ b → map (λ d. d.0) (filter (λ d. test d.1) es) ≡ filter p (map (λ d. d.0) es) →
            map (λ d. d.0) (cond a (e ∷ filter (λ d. test d.1) es) (filter (λ d. test d.1) es)) ≡ cond b
            (e.0 ∷ filter p (map (λ d. d.0) es)) (filter p (map (λ d. d.0) es))
        picked true true same r = ap (λ ns. e.0 ∷ ns) r
        picked false false same r = r
        picked true false same r = absurd (true≢false same)
        picked false true same r = absurd (true≢false (sym same))

  -- a number is among those of the entries that pass a test exactly if what stands under it does
  pub among-keys : (test : X → Bool) (n : ℕ) (es : List (ℕ × X)) → is_sorted nat_cmp es ≡ true →
      list_any (λ k. n == k) (map (λ e. e.0) (filter (λ e. test e.1) es)) ≡ option_map_or test (at n es) false
  among-keys test n [] sorted = refl
  among-keys test n (e ∷ es) sorted =
      let s : (below_all nat_cmp e.0 es ≡ true) × (is_sorted nat_cmp es ≡ true) =
      and_parts (below_all nat_cmp e.0 es) (is_sorted nat_cmp es) sorted in
      either (cases_eq n e.0) (among-keys test n es s.1) s.0 where
        others : List ℕ
        others = map (λ d. d.0) (filter (λ d. test d.1) es)

        picked : (a : Bool) → list_any (λ k. n == k)
            (map (λ d. d.0) (cond a (e ∷ filter (λ d. test d.1) es) (filter (λ d. test d.1) es)))
            ≡ ((a && (n == e.0)) || list_any (λ k. n == k) (map (λ d. d.0) (filter (λ d. test d.1) es)))
        picked true = refl
        picked false = refl

        alone : (a : Bool) → ((a && true) || false) ≡ a
        alone true = refl
        alone false = refl

        nothing : (a b : Bool) → ((a && false) || b) ≡ b
        nothing true b = refl
        nothing false b = refl

        either : (n ≡ e.0) ⊎ (n ≡ e.0 → ⊥) →
            list_any (λ k. n == k) (map (λ d. d.0) (filter (λ d. test d.1) es)) ≡ option_map_or test (at n es) false →
            below_all nat_cmp e.0 es ≡ true
            → list_any (λ k. n == k) (map (λ d. d.0) (filter (λ d. test d.1) (e ∷ es))) ≡ option_map_or test
            (at n (e ∷ es)) false
        either (inl same) rest below = picked (test e.1)
            ∙ ap (λ b. (test e.1 && b) || list_any (λ k. n == k) (map (λ d. d.0) (filter (λ d. test d.1) es)))
            (eq-eqb n e.0 same)
            ∙ ap (λ b. (test e.1 && true) || b)
            (rest ∙ ap (λ o. option_map_or test o false) (ap (λ k. at k es) same ∙ below-none e.0 es below))
            ∙ alone (test e.1)
            ∙ sym (ap (λ o. option_map_or test o false) (ap (λ k. at k (e ∷ es)) same ∙ at_first e es))
        either (inr other) rest below = picked (test e.1)
            ∙ ap (λ b. (test e.1 && b) || list_any (λ k. n == k) (map (λ d. d.0) (filter (λ d. test d.1) es)))
            (ne_eqb n e.0 other)
            ∙ nothing (test e.1) _
            ∙ rest
            ∙ sym (ap (λ o. option_map_or test o false) (at_later n e es other))

  -- two maps in order that have the same under each number are one
  pub same-map : (es fs : List (ℕ × X)) → is_sorted nat_cmp es ≡ true → is_sorted nat_cmp fs ≡ true →
      ((n : ℕ) → at n es ≡ at n fs) → es ≡ fs
  same-map es fs a b same =
      same_entries nat_cmp nat_cmp_total nat_cmp-IsAntisymmetric es fs (subst T (sym a) tt) (subst T (sym b) tt) same

  -- the order stays where entries are left out and one is put in
  pub sorted-where : (p : ℕ → Bool) (es : List (ℕ × X)) → is_sorted nat_cmp es ≡ true →
      is_sorted nat_cmp (where_key nat_cmp p es) ≡ true
  sorted-where p es sorted =
      from-T (is_sorted nat_cmp (where_key nat_cmp p es)) (is_sorted-where_key nat_cmp p es (subst T (sym sorted) tt))

  pub sorted-put : (n : ℕ) (x : X) (es : List (ℕ × X)) → is_sorted nat_cmp es ≡ true →
      is_sorted nat_cmp (put nat_cmp n x es) ≡ true
  sorted-put n x es sorted =
      from-T (is_sorted nat_cmp (put nat_cmp n x es))
      (is_sorted-put nat_cmp nat_cmp_total n x es (subst T (sym sorted) tt))
