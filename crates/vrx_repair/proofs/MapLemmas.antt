-- Maps from numbers in their order: what stands under a number, and which numbers there are.
use Rattle.std.proofs.Common.{◌≡◌, ◌≢◌, ℕ, suc, ◌<◌, ◌⊎◌, Bool, true, false, cond, ◌&&◌, List, [], ◌∷◌, length, map, refl, sym, ◌∙◌, ap, subst, arith, inl, inr, Ordering, Less, Equal, Greater, nat_cmp, is_lt}
use Rattle.std.specs.Prelude.{◌==◌, T, Option, Some, None, is_some}
use Rattle.std.specs.Option.{option_map}
use Rattle.std.specs.Ordering.{eq_by_cmp, is_eq}
use Rattle.std.specs.Cmp.{nat_cmp_total}
use Rattle.std.specs.FinMap.{nat_cmp-IsAntisymmetric}
use Rattle.std.specs.FinMap.Entries.{by_order, find, put, where_key, below_all, is_sorted, is_sorted-put, is_sorted-where_key, find-put, find-where_key, same_entries}
use Rattle.std.proofs.lemmas.Bool.{and_parts, eq-eqb, false_from_ne_true, ne_eqb, true≢false}
use Rattle.std.proofs.lemmas.Option.{none-some}
use Rattle.std.proofs.lemmas.Grind.{common_steps}
use Rattle.vrx_window.specs.Window.{at, is_available}

-- keys that tie are equal
same_key : (n k : ℕ) → eq_by_cmp nat_cmp n k ≡ true → n ≡ k
same_key n k h = grind (arith, common_steps)

-- keys whose comparison is less
less_key : (n k : ℕ) → is_lt (nat_cmp n k) ≡ true → n < k
less_key n k h = grind (arith, common_steps)

from-T : (b : Bool) → T b → b ≡ true
from-T true t = refl
from-T false t = absurd t

module _ {X : Type 0} where
  -- what isn't available isn't there
  pub gone : (o : Option X) → is_some o ≡ false → o ≡ None
  gone None h = refl
  gone (Some x) h = absurd (true≢false h)

  -- what is found at a key is the first entry's, or among the others
  found_cases : (n : ℕ) (e : ℕ × X) (es : List (ℕ × X)) (b : Bool) → eq_by_cmp nat_cmp n e.0 ≡ b →
      is_some (cond b (Some e.1) (find nat_cmp n es)) ≡ true → (n ≡ e.0) ⊎ (is_available n es ≡ true)
  found_cases n e es true same h = inl (same_key n e.0 same)
  found_cases n e es false same h = inr h

  -- an available number is the first entry's, or among the others
  pub available_cases : (n : ℕ) (e : ℕ × X) (es : List (ℕ × X)) → is_available n (e ∷ es) ≡ true →
      (n ≡ e.0) ⊎ (is_available n es ≡ true)
  available_cases n e es h = found_cases n e es (eq_by_cmp nat_cmp n e.0) refl h

  -- what stands under a number of a map whose values change by a function
  pub at_map : {Y : Type 0} (f : X → Y) (q : ℕ) (es : List (ℕ × X)) →
      at q (map (λ e. (e.0, f e.1)) es) ≡ option_map f (at q es)
  at_map f q [] = refl
  at_map f q (e ∷ es) = elim (eq_by_cmp nat_cmp q e.0) as (λ b.
      cond b (Some (f e.1)) (at q (map (λ d. (d.0, f d.1)) es)) ≡ option_map f
      (cond b (Some e.1) (at q es))) [ true ↦ refl | false ↦ at_map f q es ]

  -- what stands under a number once something was put under another
  pub at_put : (q n : ℕ) (x : X) (es : List (ℕ × X)) → at q (put nat_cmp n x es) ≡ cond (q == n) (Some x) (at q es)
  at_put q n x es = let e : eq_by_cmp nat_cmp q n ≡ (q == n) = grind (arith, common_steps) in
      find-put nat_cmp nat_cmp_total q n x es ∙ ap (λ b. cond b (Some x) (at q es)) e

  -- what stands under that number
  pub at_put-here : (n : ℕ) (x : X) (es : List (ℕ × X)) → at n (put nat_cmp n x es) ≡ Some x
  at_put-here n x es = at_put n n x es ∙ ap (λ b. cond b (Some x) (at n es)) (eq-eqb n n refl)

  -- and under each other
  pub at_put-other : (q n : ℕ) (x : X) (es : List (ℕ × X)) → q ≢ n → at q (put nat_cmp n x es) ≡ at q es
  at_put-other q n x es other = at_put q n x es ∙ ap (λ b. cond b (Some x) (at q es)) (ne_eqb q n other)

  -- what stands under a number where some numbers are left
  pub at_where : (p : ℕ → Bool) (q : ℕ) (es : List (ℕ × X)) →
      at q (where_key nat_cmp p es) ≡ cond (p q) (at q es) None
  at_where p q es = find-where_key nat_cmp p q (λ x e. ap p (sym (nat_cmp-IsAntisymmetric q x e))) es

  -- the first entry's number has it
  pub at_first : (e : ℕ × X) (es : List (ℕ × X)) → at e.0 (e ∷ es) ≡ Some e.1
  at_first e es = let same : eq_by_cmp nat_cmp e.0 e.0 ≡ true =
      grind (arith, common_steps) in ap (λ b. cond b (Some e.1) (at e.0 es)) same

  -- and another number has what the other entries have
  pub at_later : (n : ℕ) (e : ℕ × X) (es : List (ℕ × X)) → n ≢ e.0 → at n (e ∷ es) ≡ at n es
  at_later n e es other = ap (λ b. cond b (Some e.1) (at n es))
      (false_from_ne_true (eq_by_cmp nat_cmp n e.0) (λ h. other (same_key n e.0 h)))

  -- what is among entries that are all above a number is above it
  pub below-available : (x k : ℕ) (es : List (ℕ × X)) → below_all nat_cmp x es ≡ true → is_available k es ≡ true → x < k
  below-available x k [] h is = absurd (true≢false (sym is))
  below-available x k (e ∷ es) h is =
      let p : (is_lt (nat_cmp x e.0) ≡ true) × (below_all nat_cmp x es ≡ true) =
      and_parts (is_lt (nat_cmp x e.0)) (below_all nat_cmp x es) h in
      let less : x < e.0 = less_key x e.0 p.0 in
      elim (available_cases k e es is) [
        | inl same ↦ omega arith
        | inr later ↦ below-available x k es p.1 later
      ]

  -- the numbers of a sorted map rise, whatever stands under them
  below-map : {Y : Type 0} (f : X → Y) (x : ℕ) (es : List (ℕ × X)) →
      below_all nat_cmp x (map (λ e. (e.0, f e.1)) es) ≡ below_all nat_cmp x es
  below-map f x [] = refl
  below-map f x (e ∷ es) = ap (λ b. is_lt (nat_cmp x e.0) && b) (below-map f x es)

  pub sorted-map : {Y : Type 0} (f : X → Y) (es : List (ℕ × X)) →
      is_sorted nat_cmp (map (λ e. (e.0, f e.1)) es) ≡ is_sorted nat_cmp es
  sorted-map f [] = refl
  sorted-map f (e ∷ es) = ap (λ b. b && is_sorted nat_cmp (map (λ d. (d.0, f d.1)) es)) (below-map f e.0 es)
      ∙ ap (λ b. below_all nat_cmp e.0 es && b) (sorted-map f es)

  -- two maps in order that have the same under each number are one
  pub same-map : (es fs : List (ℕ × X)) → is_sorted nat_cmp es ≡ true → is_sorted nat_cmp fs ≡ true →
      ((n : ℕ) → at n es ≡ at n fs) → es ≡ fs
  same-map es fs a b same =
      same_entries nat_cmp nat_cmp_total nat_cmp-IsAntisymmetric es fs (subst T (sym a) tt) (subst T (sym b) tt) same

  -- the order stays where entries are left out and one is put in
  pub sorted-where : (p : ℕ → Bool) (es : List (ℕ × X)) → is_sorted nat_cmp es ≡ true →
      is_sorted nat_cmp (where_key nat_cmp p es) ≡ true
  sorted-where p es sorted =
      from-T (is_sorted nat_cmp (where_key nat_cmp p es)) (is_sorted-where_key nat_cmp p es (subst T (sym sorted) tt))

  pub sorted-put : (n : ℕ) (x : X) (es : List (ℕ × X)) → is_sorted nat_cmp es ≡ true →
      is_sorted nat_cmp (put nat_cmp n x es) ≡ true
  sorted-put n x es sorted =
      from-T (is_sorted nat_cmp (put nat_cmp n x es))
      (is_sorted-put nat_cmp nat_cmp_total n x es (subst T (sym sorted) tt))

  -- a number that isn't there makes a map one longer
  pub length-put : (n : ℕ) (x : X) (es : List (ℕ × X)) → at n es ≡ None →
      length (put nat_cmp n x es) ≡ suc (length es)
  length-put n x [] none = refl
  length-put n x (e ∷ es) none = by_cases (nat_cmp n e.0) refl (length-put n x es) where
    by_cases : (o : Ordering) → nat_cmp n e.0 ≡ o
        → (at n es ≡ None → length (put nat_cmp n x es) ≡ suc (length es))
        → length (by_order o ((n, x) ∷ e ∷ es) ((e.0, x) ∷ es) (e ∷ put nat_cmp n x es)) ≡ suc (suc (length es))
    by_cases Less is rest = refl
    by_cases Equal is rest =
        absurd (none-some e.1 (sym none ∙ ap (λ o. cond (is_eq o) (Some e.1) (at n es)) is))
    by_cases Greater is rest =
        ap suc (rest (sym (ap (λ o. cond (is_eq o) (Some e.1) (at n es)) is) ∙ none))
