-- A walk over pictures that are all a constant higher is the walk, a constant higher.
use Rattle.std.proofs.Common.{◌≡◌, ℕ, zero, suc, ◌+◌, ◌<◌, Bool, true, false, cond, List, [], ◌∷◌, map, length, Option, Some, None, refl, sym, ◌∙◌, ap, arith, inl, inr}
use Rattle.std.specs.Prelude.{◌&&◌, ◌||◌, ◌==◌, ◌++◌, not, nat_le}
use Rattle.std.specs.Option.{option_map}
use Rattle.std.proofs.lemmas.Bool.{eq-eqb, eqb-true, or_cases, or_left, or_right, true≢false}
use Rattle.vrx_refs.specs.declared.sighting.Sighting.{Sighting}
use Rattle.vrx_refs.specs.Laws.{is_among}
use Rattle.vrx_refs.specs.References.{are_met, met_with, pictures, walk, walked, was_met}

-- sightings whose pictures are higher
abbrev pub lifted : ℕ → List Sighting → List Sighting
lifted d met = map (λ s. record { picture = s.picture + d; tid = s.tid }) met

-- pictures that are higher
abbrev pub raised : ℕ → List ℕ → List ℕ
raised d found = map (λ q. q + d) found

lifted_met : (d t : ℕ) (met : List Sighting) → was_met t (lifted d met) ≡ was_met t met
lifted_met d t [] = refl
lifted_met d t (s ∷ met) = ap (λ b. (s.tid == t) || b) (lifted_met d t met)

lifted_length : (d : ℕ) (met : List Sighting) → length (lifted d met) ≡ length met
lifted_length d [] = refl
lifted_length d (s ∷ met) = let rest : length (lifted d met) ≡ length met = lifted_length d met in omega (arith, rest)

lifted_pictures : (d : ℕ) (met : List Sighting) → pictures (lifted d met) ≡ raised d (pictures met)
lifted_pictures d [] = refl
lifted_pictures d (s ∷ met) = ap (λ xs. (s.picture + d) ∷ xs) (lifted_pictures d met)

lifted_more : (d q t : ℕ) (met : List Sighting) →
    lifted d met ++ (record { picture = q + d; tid = t } ∷ []) ≡ lifted d (met ++ (record { picture = q; tid = t } ∷ []))
lifted_more d q t [] = refl
lifted_more d q t (s ∷ met) = ap (λ xs. record { picture = s.picture + d; tid = s.tid } ∷ xs) (lifted_more d q t met)

lifted_with : (d tid q t : ℕ) (met : List Sighting) →
    met_with tid (q + d) t (lifted d met) ≡ lifted d (met_with tid q t met)
lifted_with d tid q t met = ap (λ b. cond (nat_le t tid && not b) more (lifted d met)) (lifted_met d t met)
    ∙ by (nat_le t tid && not (was_met t met)) where
      more : List Sighting
      more = lifted d met ++ (record { picture = q + d; tid = t } ∷ [])

      by : (b : Bool) → cond b more (lifted d met)
          ≡ lifted d (cond b (met ++ (record { picture = q; tid = t } ∷ [])) met)
      by true = lifted_more d q t met
      by false = refl

-- The pictures are d higher.
module _ (d : ℕ) (tids tids' : ℕ → Option ℕ) (stop stop' : ℕ → Bool) (same : (q : ℕ) → tids' (q + d) ≡ tids q)
    (low : (q : ℕ) → q < d → tids' q ≡ None) (stops : (q : ℕ) → stop' (q + d) ≡ stop q) (tid : ℕ) where
  -- a walk from picture p + d gives what one from picture p gives
  pub lifted_walk : (most p p' : ℕ) (met : List Sighting) → p' ≡ p + d →
      walk tids' stop' tid most p' (lifted d met) ≡ option_map (raised d) (walk tids stop tid most p met)
  lifted_walk zero p p' met at = refl
  lifted_walk (suc most) zero zero met at = refl
  lifted_walk (suc most) zero (suc q') met at =
      ap (walked stop' tid q' (walk tids' stop' tid most q') (lifted d met)) (low q' (omega (arith, at)))
  lifted_walk (suc most) (suc q) zero met at = absurd (omega (arith, at))
  lifted_walk (suc most) (suc q) (suc q') met at =
      let here : q' ≡ q + d = omega (arith, at) in
      ap (walked stop' tid q' (walk tids' stop' tid most q') (lifted d met)) (ap tids' here ∙ same q)
      ∙ by (tids q) (λ next. lifted_walk most q q' next here) (ap stop' here ∙ stops q) here where
        by : (o : Option ℕ) →
            ((next : List Sighting) → walk tids' stop' tid most q' (lifted d next)
            ≡ option_map (raised d) (walk tids stop tid most q next)) → stop' q' ≡ stop q → q' ≡ q + d →
            walked stop' tid q' (walk tids' stop' tid most q') (lifted d met) o
            ≡ option_map (raised d) (walked stop tid q (walk tids stop tid most q) met o)
        by None more ends here = refl
        by (Some t) more ends here =
            ap (λ (x : ℕ). ended (met_with tid x t (lifted d met))) here
            ∙ ap ended (lifted_with d tid q t met)
            ∙ ap (λ (n : ℕ). cond ((n == tid + 1) || stop' q') (Some (pictures (lifted d next)))
            (walk tids' stop' tid most q' (lifted d next))) (lifted_length d next)
            ∙ ap (λ b. cond (are_met tid next || b) (Some (pictures (lifted d next)))
            (walk tids' stop' tid most q' (lifted d next))) ends
            ∙ case (are_met tid next || stop q) where
              next : List Sighting
              next = met_with tid q t met

              ended : List Sighting → Option (List ℕ)
              ended xs = cond (are_met tid xs || stop' q') (Some (pictures xs)) (walk tids' stop' tid most q' xs)

              case : (b : Bool) → cond b (Some (pictures (lifted d next))) (walk tids' stop' tid most q' (lifted d next))
                  ≡ option_map (raised d) (cond b (Some (pictures next)) (walk tids stop tid most q next))
              case true = ap Some (lifted_pictures d next)
              case false = more next

-- what is among pictures that are higher is higher than what is among them
pub among_raised : (d q' : ℕ) (found : List ℕ) → is_among q' (raised d found) ≡ true →
    (q : ℕ) × (q' ≡ q + d) × (is_among q found ≡ true)
among_raised d q' [] h = absurd (true≢false (sym h))
among_raised d q' (x ∷ found) h = elim (or_cases (x + d == q') (is_among q' (raised d found)) h) [
  | inl here ↦ (x, sym (eqb-true (x + d) q' here), or_left (x == x) (is_among x found) (eq-eqb x x refl))
  | inr there ↦ let rest : (q : ℕ) × (q' ≡ q + d) × (is_among q found ≡ true) = among_raised d q' found there in
      (rest.0, rest.1, or_right (x == rest.0) (is_among rest.0 found) rest.2)
]

-- and back
pub raised_among : (d q : ℕ) (found : List ℕ) → is_among q found ≡ true → is_among (q + d) (raised d found) ≡ true
raised_among d q [] h = absurd (true≢false (sym h))
raised_among d q (x ∷ found) h = elim (or_cases (x == q) (is_among q found) h) [
  | inl here ↦ or_left (x + d == q + d) (is_among (q + d) (raised d found))
      (eq-eqb (x + d) (q + d) (ap (λ (y : ℕ). y + d) (eqb-true x q here)))
  | inr there ↦ or_right (x + d == q + d) (is_among (q + d) (raised d found)) (raised_among d q found there)
]
