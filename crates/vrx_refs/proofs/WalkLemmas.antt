-- Walks back over pictures.
use Rattle.std.proofs.Common.{◌≡◌, ℕ, zero, suc, ◌-◌, ◌<◌, Bool, true, false, cond, List, [], ◌∷◌, refl, sym, ◌∙◌, ap, subst, arith}
use Rattle.std.specs.Prelude.{◌&&◌, ◌||◌, not, nat_le, ◌++◌, Option, Some, None}
use Rattle.std.specs.List.{list_all}
use Rattle.std.proofs.lemmas.Bool.{and_from, and_parts}
use Rattle.std.proofs.lemmas.Option.{same_Some}
use Rattle.vrx_refs.specs.declared.sighting.Sighting.{Sighting}
use Rattle.vrx_refs.specs.References.{are_met, met_with, pictures, walk, walked, was_met}

module _ (tids : ℕ → Option ℕ) (stop : ℕ → Bool) (tid : ℕ) where
  -- a walk that has no picture left below it comes to no end, nor one that may go no further
  pub walk_lowest : (most : ℕ) (met : List Sighting) → walk tids stop tid most 0 met ≡ None
  walk_lowest zero met = refl
  walk_lowest (suc most) met = refl

  -- one picture further
  pub walk_further : (most p : ℕ) (met : List Sighting) → 0 < most → 0 < p → walk tids stop tid most p met
      ≡ walked stop tid (p - 1) (walk tids stop tid (most - 1) (p - 1)) met (tids (p - 1))
  walk_further zero p met some below = grind (arith, some)
  walk_further (suc most) zero met some below = grind (arith, below)
  walk_further (suc most) (suc q) met some below =
      let most_is : suc most - 1 ≡ most = omega arith in
      let q_is : suc q - 1 ≡ q = omega arith in
      λ i. walked stop tid (sym q_is i) (walk tids stop tid (sym most_is i) (sym q_is i)) met (tids (sym q_is i))

walked_same : (stop stop' : ℕ → Bool) (tid q : ℕ) (on on' : List Sighting
    → Option (List ℕ)) (met : List Sighting) (o : Option ℕ)
    → ((t : ℕ) → o ≡ Some t → stop q ≡ stop' q) → ((met : List Sighting) → on met ≡ on' met)
    → walked stop tid q on met o ≡ walked stop' tid q on' met o
walked_same stop stop' tid q on on' met None stops same = refl
walked_same stop stop' tid q on on' met (Some t) stops same =
    (λ i. cond (are_met tid (met_with tid q t met) || stops t refl i) (Some (pictures (met_with tid q t met)))
    (same (met_with tid q t met) i))

-- a walk is the same over the same TIDs, and if it may stop at the same pictures of those that have one
pub walk_same : (tids tids' : ℕ → Option ℕ) (stop stop' : ℕ → Bool) (tid : ℕ) → ((q : ℕ) → tids q ≡ tids' q)
    → ((q t : ℕ) → tids' q ≡ Some t → stop q ≡ stop' q) → (most p : ℕ) (met : List Sighting)
    → walk tids stop tid most p met ≡ walk tids' stop' tid most p met
walk_same tids tids' stop stop' tid same stops zero p met = refl
walk_same tids tids' stop stop' tid same stops (suc most) zero met = refl
walk_same tids tids' stop stop' tid same stops (suc most) (suc q) met =
    ap (walked stop tid q (walk tids stop tid most q) met) (same q)
    ∙ walked_same stop stop' tid q (walk tids stop tid most q) (walk tids' stop' tid most q) met (tids' q)
    (stops q) (walk_same tids tids' stop stop' tid same stops most q)

-- what holds of each picture that has a TID holds of each picture that a walk gives
module _ (tids : ℕ → Option ℕ) (stop : ℕ → Bool) (tid : ℕ) (ok : ℕ → Bool)
    (holds : (q t : ℕ) → tids q ≡ Some t → ok q ≡ true) where
  all_met : (q t : ℕ) (met : List Sighting) → tids q ≡ Some t → list_all ok (pictures met) ≡ true
      → list_all ok (pictures (met_with tid q t met)) ≡ true
  all_met q t met is all = by (nat_le t tid && not (was_met t met)) where
    more : (met : List Sighting) → list_all ok (pictures met) ≡ true
        → list_all ok (pictures (met ++ (record { picture = q; tid = t } ∷ []))) ≡ true
    more [] all = and_from (ok q) true (holds q t is) refl
    more (s ∷ met) all = let parts = and_parts (ok s.picture) (list_all ok (pictures met)) all in
        and_from (ok s.picture) _ parts.0 (more met parts.1)

    by : (b : Bool) → list_all ok (pictures (cond b (met ++ (record { picture = q; tid = t } ∷ [])) met)) ≡ true
    by true = more met all
    by false = all

  pub walk_all : (most p : ℕ) (met : List Sighting) → list_all ok (pictures met) ≡ true → (found : List ℕ)
      → walk tids stop tid most p met ≡ Some found → list_all ok found ≡ true
  walk_all zero p met all found is = grind (arith, is)
  walk_all (suc most) zero met all found is = grind (arith, is)
  walk_all (suc most) (suc q) met all found is = all_walked q met all found (walk tids stop tid most q)
      (λ next more. walk_all most q next more found) (tids q) refl is where
        all_walked : (q : ℕ) (met : List Sighting) → list_all ok (pictures met) ≡ true → (found : List ℕ)
            → (on : List Sighting → Option (List ℕ))
            → ((next : List Sighting) → list_all ok (pictures next) ≡ true → on next ≡ Some found → list_all ok found
            ≡ true)
            → (o : Option ℕ) → tids q ≡ o → walked stop tid q on met o ≡ Some found → list_all ok found ≡ true
        all_walked q met all found on more None has is = grind (arith, is)
        all_walked q met all found on more (Some t) has is =
            by (are_met tid (met_with tid q t met) || stop q) is where
              by : (b : Bool) → cond b (Some (pictures (met_with tid q t met))) (on (met_with tid q t met))
                  ≡ Some found
                  → list_all ok found ≡ true
              by true is = subst (λ xs. list_all ok xs ≡ true) (same_Some _ _ is) (all_met q t met has all)
              by false is = more (met_with tid q t met) (all_met q t met has all) is
