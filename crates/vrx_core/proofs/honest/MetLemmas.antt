-- What a walk back over pictures meets, picture by picture.
use Rattle.std.proofs.Common.{◌≡◌, ℕ, zero, suc, ◌+◌, ◌<◌, ◌≤◌, ◌⊎◌, Bool, true, false, cond, List, [], ◌∷◌, length, Option, Some, None, is_some, refl, sym, ◌∙◌, ap, subst, arith, inl, inr}
use Rattle.std.specs.Prelude.{◌&&◌, ◌||◌, ◌==◌, ◌++◌, not, nat_le}
use Rattle.std.proofs.lemmas.Bool.{cases_lt, cases_order, cond-false, cond-true, eq-eqb, eqb-true, ne_eqb, leb-true, le-leb, or_cases, or_left, or_right, or_parts, true≢false}
use Rattle.std.proofs.lemmas.Option.{none-some, same_Some}
use Rattle.vrx_refs.specs.declared.sighting.Sighting.{Sighting}
use Rattle.vrx_refs.specs.Laws.{is_among}
use Rattle.vrx_refs.specs.References.{are_met, met_with, pictures, walk, walked, was_met}
use Rattle.vrx_core.proofs.relation.MapLemmas.{some-of}

-- one more that is met, behind the others
module _ (s : Sighting) where
  among-more : (x : ℕ) (met : List Sighting) → is_among x (pictures (met ++ (s ∷ []))) ≡ true →
      (is_among x (pictures met) ≡ true) ⊎ (s.picture ≡ x)
  among-more x [] h = elim (or_cases (s.picture == x) false h) [
    | inl here ↦ inr (eqb-true s.picture x here)
    | inr there ↦ absurd (true≢false (sym there))
  ]
  among-more x (m ∷ met) h = elim (or_cases (m.picture == x) (is_among x (pictures (met ++ (s ∷ [])))) h) [
    | inl here ↦ inl (or_left (m.picture == x) (is_among x (pictures met)) here)
    | inr there ↦ elim (among-more x met there) [
      | inl old ↦ inl (or_right (m.picture == x) (is_among x (pictures met)) old)
      | inr new ↦ inr new
    ]
  ]

  among-old : (x : ℕ) (met : List Sighting) → is_among x (pictures met) ≡ true →
      is_among x (pictures (met ++ (s ∷ []))) ≡ true
  among-old x [] h = absurd (true≢false (sym h))
  among-old x (m ∷ met) h = elim (or_cases (m.picture == x) (is_among x (pictures met)) h) [
    | inl here ↦ or_left (m.picture == x) (is_among x (pictures (met ++ (s ∷ [])))) here
    | inr there ↦ or_right (m.picture == x) (is_among x (pictures (met ++ (s ∷ [])))) (among-old x met there)
  ]

  among-new : (met : List Sighting) → is_among s.picture (pictures (met ++ (s ∷ []))) ≡ true
  among-new [] = or_left (s.picture == s.picture) false (eq-eqb s.picture s.picture refl)
  among-new (m ∷ met) = or_right (m.picture == s.picture) (is_among s.picture (pictures (met ++ (s ∷ []))))
      (among-new met)

  met-other : (t : ℕ) (met : List Sighting) → (s.tid ≡ t → ⊥) → was_met t (met ++ (s ∷ [])) ≡ was_met t met
  met-other t [] other = ap (λ b. b || false) (ne_eqb s.tid t other)
  met-other t (m ∷ met) other = ap (λ b. (m.tid == t) || b) (met-other t met other)

  met-new : (met : List Sighting) → was_met s.tid (met ++ (s ∷ [])) ≡ true
  met-new [] = or_left (s.tid == s.tid) false (eq-eqb s.tid s.tid refl)
  met-new (m ∷ met) = or_right (m.tid == s.tid) (was_met s.tid (met ++ (s ∷ []))) (met-new met)

  length-new : (met : List Sighting) → length (met ++ (s ∷ [])) ≡ length met + 1
  length-new [] = refl
  length-new (m ∷ met) = let more : length (met ++ (s ∷ [])) ≡ length met + 1 = length-new met in omega (arith, more)

-- how many TIDs below n were met
abbrev one_if : Bool → ℕ
one_if true = 1
one_if false = 0

abbrev count : ℕ → List Sighting → ℕ
count zero met = 0
count (suc n) met = count n met + one_if (was_met n met)

count-most : (n : ℕ) (met : List Sighting) → count n met ≤ n
count-most zero met = omega arith
count-most (suc n) met = by (was_met n met) (count-most n met) where
  by : (b : Bool) → count n met ≤ n → count n met + one_if b ≤ suc n
  by true upto = omega (arith, upto)
  by false upto = omega (arith, upto)

-- if there are n, each was met, and back
count-each : (n : ℕ) (met : List Sighting) → count n met ≡ n → (t : ℕ) → t < n → was_met t met ≡ true
count-each zero met all t low = absurd (omega (arith, low))
count-each (suc n) met all t low =
    by (was_met n met) refl all (count-most n met) (λ there. count-each n met there) where
      by : (b : Bool) → was_met n met ≡ b → count n met + one_if b ≡ suc n → count n met ≤ n →
          (count n met ≡ n → (t : ℕ) → t < n → was_met t met ≡ true) → was_met t met ≡ true
      by true is all upto lower = elim (cases_lt t n) [
        | inl less ↦ lower (omega (arith, all)) t less
        | inr more ↦ let same : t ≡ n = omega (arith, low, more) in ap (λ x. was_met x met) same ∙ is
      ]
      by false is all upto lower = absurd (omega (arith, all, upto))

each-count : (n : ℕ) (met : List Sighting) → ((t : ℕ) → t < n → was_met t met ≡ true) → count n met ≡ n
each-count zero met all = refl
each-count (suc n) met all =
    let lower : count n met ≡ n = each-count n met (λ t low. all t (omega (arith, low))) in
    let one : one_if (was_met n met) ≡ 1 = ap one_if (all n (omega arith)) in
    omega (arith, lower, one)

-- one more that wasn't met before
count-same : (s : Sighting) (n : ℕ) (met : List Sighting) → n ≤ s.tid → count n (met ++ (s ∷ [])) ≡ count n met
count-same s zero met high = refl
count-same s (suc n) met high =
    let lower : count n (met ++ (s ∷ [])) ≡ count n met = count-same s n met (omega (arith, high)) in
    let other : one_if (was_met n (met ++ (s ∷ []))) ≡ one_if (was_met n met) =
    ap one_if (met-other s n met (λ same. omega (arith, same, high))) in
    omega (arith, lower, other)

count-new : (s : Sighting) (n : ℕ) (met : List Sighting) → s.tid < n → was_met s.tid met ≡ false →
    count n (met ++ (s ∷ [])) ≡ count n met + 1
count-new s zero met low new = absurd (omega (arith, low))
count-new s (suc n) met low new = elim (cases_lt s.tid n) [
  | inl less ↦
      let lower : count n (met ++ (s ∷ [])) ≡ count n met + 1 = count-new s n met less new in
      let other : one_if (was_met n (met ++ (s ∷ []))) ≡ one_if (was_met n met) =
      ap one_if (met-other s n met (λ same. omega (arith, same, less))) in
      omega (arith, lower, other)
  | inr more ↦
      let same : s.tid ≡ n = omega (arith, low, more) in
      let lower : count n (met ++ (s ∷ [])) ≡ count n met = count-same s n met more in
      let now : one_if (was_met n (met ++ (s ∷ []))) ≡ 1 =
      ap (λ x. one_if (was_met x (met ++ (s ∷ [])))) (sym same) ∙ ap one_if (met-new s met) in
      let before : one_if (was_met n met) ≡ 0 = ap (λ x. one_if (was_met x met)) (sym same) ∙ ap one_if new in
      omega (arith, lower, now, before)
]

module _ (tids : ℕ → Option ℕ) (tid top : ℕ) where
  -- picture q, on the way from the top down to p, is the first of its TID, t
  pub record IsFirstOf (p q t : ℕ) : Type 0 where
    pub above : p ≤ q
    pub under : q < top
    pub has : tids q ≡ Some t
    pub low : t ≤ tid
    pub first : (r : ℕ) → q < r → r < top → tids r ≡ Some t → ⊥

  -- what was met on the way down to p: the first of each TID, once each
  pub record HasMet (p : ℕ) (met : List Sighting) : Type 0 where
    pub sound : (q : ℕ) → is_among q (pictures met) ≡ true → (t : ℕ) × IsFirstOf p q t
    pub back : (t : ℕ) → was_met t met ≡ true → (q : ℕ) × (is_among q (pictures met) ≡ true) × IsFirstOf p q t
    pub whole : (q t : ℕ) → p ≤ q → q < top → tids q ≡ Some t → t ≤ tid → was_met t met ≡ true
    pub seen : (q : ℕ) → p ≤ q → q < top → is_some (tids q) ≡ true
    pub many : length met ≡ count (tid + 1) met

  -- nothing was met on no way
  pub has_none : HasMet top []
  has_none = record {
    sound = λ q h. absurd (true≢false (sym h));
    back = λ t h. absurd (true≢false (sym h));
    whole = λ q t above under _ _. absurd (omega (arith, above, under));
    seen = λ q above under. absurd (omega (arith, above, under));
    many = none (tid + 1);
  } where
    none : (n : ℕ) → 0 ≡ count n []
    none zero = refl
    none (suc n) = let lower : 0 ≡ count n [] = none n in omega (arith, lower)

  -- all TIDs are met if there are as many, and only then
  pub met-each : (p : ℕ) (met : List Sighting) → HasMet p met → are_met tid met ≡ true → (t : ℕ) → t ≤ tid →
      (q : ℕ) × (is_among q (pictures met) ≡ true) × IsFirstOf p q t
  met-each p met has all t low =
      let many : length met ≡ tid + 1 = eqb-true (length met) (tid + 1) all in
      has.back t (count-each (tid + 1) met (sym has.many ∙ many) t (omega (arith, low)))

  pub each-met : (p : ℕ) (met : List Sighting) → HasMet p met →
      ((t : ℕ) → t ≤ tid → (q : ℕ) × (p ≤ q) × (q < top) × (tids q ≡ Some t)) → are_met tid met ≡ true
  each-met p met has each = eq-eqb (length met) (tid + 1) (has.many ∙ each-count (tid + 1) met (λ t less.
      let low : t ≤ tid = omega (arith, less) in
      let one : (q : ℕ) × (p ≤ q) × (q < top) × (tids q ≡ Some t) = each t low in
      has.whole one.0 t one.1 one.2 one.3 low))

  -- a picture that is the first of its TID is among those met
  pub first-among : (p q t : ℕ) (met : List Sighting) → HasMet p met → IsFirstOf p q t →
      is_among q (pictures met) ≡ true
  first-among p q t met has is =
      let other : (r : ℕ) × (is_among r (pictures met) ≡ true) × IsFirstOf p r t =
      has.back t (has.whole q t is.above is.under is.has is.low) in
      elim (cases_order other.0 q) [
        | inl same ↦ subst (λ (x : ℕ). is_among x (pictures met) ≡ true) same other.1
        | inr (inl less) ↦ absurd (other.2.first q less is.under is.has)
        | inr (inr more) ↦ absurd (is.first other.0 more other.2.under other.2.has)
      ]

  lower : (p q t : ℕ) → IsFirstOf (suc p) q t → IsFirstOf p q t
  lower p q t is = record {
    above = omega (arith, is.above);
    under = is.under;
    has = is.has;
    low = is.low;
    first = is.first;
  }

  -- one picture further
  module _ (p t : ℕ) (met : List Sighting) (under : p < top) (is : tids p ≡ Some t) (has : HasMet (suc p) met) where
    seen_next : (q : ℕ) → p ≤ q → q < top → is_some (tids q) ≡ true
    seen_next q above below = elim (cases_lt p q) [
      | inl more ↦ has.seen q more below
      | inr less ↦ let same : q ≡ p = omega (arith, above, less) in ap (λ x. is_some (tids x)) same ∙ ap is_some is
    ]

    whole_next : (next : List Sighting) → ((u : ℕ) → was_met u met ≡ true → was_met u next ≡ true) →
        (t ≤ tid → was_met t next ≡ true) → (q u : ℕ) → p ≤ q → q < top → tids q ≡ Some u → u ≤ tid →
        was_met u next ≡ true
    whole_next next stays now q u above below has_u low = elim (cases_lt p q) [
      | inl more ↦ stays u (has.whole q u more below has_u low)
      | inr less ↦
          let place : p ≡ q = omega (arith, above, less) in
          let same : t ≡ u = same_Some t u (sym is ∙ ap tids place ∙ has_u) in
          subst (λ (x : ℕ). was_met x next ≡ true) same (now (omega (arith, same, low)))
    ]

    has_old : (t ≤ tid → was_met t met ≡ true) → HasMet p met
    has_old now = record {
      sound = λ q among. let one : (u : ℕ) × IsFirstOf (suc p) q u = has.sound q among in
          (one.0, lower p q one.0 one.1);
      back = λ u was. let one : (q : ℕ) × (is_among q (pictures met) ≡ true) × IsFirstOf (suc p) q u = has.back u was in
          (one.0, one.1, lower p one.0 u one.2);
      whole = whole_next met (λ u was. was) now;
      seen = seen_next;
      many = has.many;
    }

    has_new : t ≤ tid → was_met t met ≡ false → HasMet p (met ++ (record { picture = p; tid = t } ∷ []))
    has_new low new = record {
      sound = λ q among. elim (among-more s q met among) [
        | inl old ↦ let one : (u : ℕ) × IsFirstOf (suc p) q u = has.sound q old in (one.0, lower p q one.0 one.1)
        | inr here ↦ (t, subst (λ (x : ℕ). IsFirstOf p x t) here first)
      ];
      back = λ u was. elim (cases_order t u) [
        | inl same ↦ (p, among-new s met, subst (λ (x : ℕ). IsFirstOf p p x) same first)
        | inr other ↦
            let one : (q : ℕ) × (is_among q (pictures met) ≡ true) × IsFirstOf (suc p) q u =
            has.back u (sym (met-other s u met (λ same. differs u other same)) ∙ was) in
            (one.0, among-old s one.0 met one.1, lower p one.0 u one.2)
      ];
      whole = whole_next (met ++ (s ∷ [])) stays (λ _. met-new s met);
      seen = seen_next;
      many = let more : length met ≡ count (tid + 1) met = has.many in
          let long : length (met ++ (s ∷ [])) ≡ length met + 1 = length-new s met in
          let counted : count (tid + 1) (met ++ (s ∷ [])) ≡ count (tid + 1) met + 1 =
          count-new s (tid + 1) met (omega (arith, low)) new in omega (arith, more, long, counted);
    } where
      s : Sighting
      s = record { picture = p; tid = t }

      first : IsFirstOf p p t
      first = record {
        above = omega arith;
        under = under;
        has = is;
        low = low;
        first = λ r more below has_t. true≢false (sym (has.whole r t more below has_t low) ∙ new);
      }

      differs : (u : ℕ) → (t < u) ⊎ (u < t) → t ≡ u → ⊥
      differs u (inl less) same = omega (arith, less, same)
      differs u (inr more) same = omega (arith, more, same)

      stays : (u : ℕ) → was_met u met ≡ true → was_met u (met ++ (s ∷ [])) ≡ true
      stays u was = elim (cases_order t u) [
        | inl same ↦ subst (λ (x : ℕ). was_met x (met ++ (s ∷ [])) ≡ true) same (met-new s met)
        | inr other ↦ met-other s u met (λ same. differs u other same) ∙ was
      ]

    pub has_next : HasMet p (met_with tid p t met)
    has_next = by (nat_le t tid) (was_met t met) refl refl where
      by : (low old : Bool) → nat_le t tid ≡ low → was_met t met ≡ old →
          HasMet p (cond (low && not old) (met ++ (record { picture = p; tid = t } ∷ [])) met)
      by true false low new = has_new (leb-true t tid low) new
      by true true low old = has_old (λ _. old)
      by false old high _ = has_old (λ low. absurd (true≢false (sym (le-leb t tid low) ∙ high)))

  module _ (stop : ℕ → Bool) where
    -- a walk that came to picture `last`, and gives what it met
    pub record HasCome (found : List ℕ) (last : ℕ) : Type 0 where
      pub below : last < top
      pub met : List Sighting
      pub has : HasMet last met
      pub gives : pictures met ≡ found
      pub goes_on : (r : ℕ) → last < r → r < top → stop r ≡ false
      pub ends : (are_met tid met || stop last) ≡ true

    walk-come : (most p : ℕ) (met : List Sighting) (found : List ℕ) → p ≤ top → HasMet p met →
        ((r : ℕ) → p ≤ r → r < top → stop r ≡ false) → walk tids stop tid most p met ≡ Some found →
        (last : ℕ) × (p ≤ last + most) × HasCome found last
    walk-come zero p met found low has on is = absurd (none-some found is)
    walk-come (suc most) zero met found low has on is = absurd (none-some found is)
    walk-come (suc most) (suc q) met found low has on is =
        by q most met found low has on (λ next has_next on_next is. walk-come most q next found
        (omega (arith, low)) has_next on_next is)
        (tids q) refl is where
          by : (q most : ℕ) (met : List Sighting) (found : List ℕ) → suc q ≤ top → HasMet (suc q) met →
              ((r : ℕ) → suc q ≤ r → r < top → stop r ≡ false) →
              ((next : List Sighting) → HasMet q next → ((r : ℕ) → q ≤ r → r < top → stop r ≡ false) →
              walk tids stop tid most q next ≡ Some found →
              (last : ℕ) × (q ≤ last + most) × HasCome found last) →
              (o : Option ℕ) → tids q ≡ o → walked stop tid q (walk tids stop tid most q) met o ≡ Some found →
              (last : ℕ) × (suc q ≤ last + suc most) × HasCome found last
          by q most met found low has on more None is ends = absurd (none-some found ends)
          by q most met found low has on more (Some t) is ends = case (are_met tid next || stop q) refl ends where
            next : List Sighting
            next = met_with tid q t met

            has_it : HasMet q next
            has_it = has_next q t met (omega (arith, low)) is has

            on_it : stop q ≡ false → (r : ℕ) → q ≤ r → r < top → stop r ≡ false
            on_it here r above under = elim (cases_lt q r) [
              | inl above ↦ on r above under
              | inr less ↦ let same : r ≡ q = omega (arith, above, less) in ap stop same ∙ here
            ]

            case : (b : Bool) → (are_met tid next || stop q) ≡ b →
                cond b (Some (pictures next)) (walk tids stop tid most q next) ≡ Some found →
                (last : ℕ) × (suc q ≤ last + suc most) × HasCome found last
            case true stops given = (
              q,
              omega arith,
              record {
                below = omega (arith, low);
                met = next;
                has = has_it;
                gives = same_Some _ _ given;
                goes_on = on;
                ends = stops;
              },
            )
            case false goes given =
                let after : (last : ℕ) × (q ≤ last + most) × HasCome found last =
                more next has_it (on_it (or_parts (are_met tid next) (stop q) goes).1) given in
                (after.0, omega (arith, after.1), after.2)

    -- what a walk gives comes so
    pub has_come : (most : ℕ) (found : List ℕ) → walk tids stop tid most top [] ≡ Some found →
        (last : ℕ) × (top ≤ last + most) × HasCome found last
    has_come most found is = walk-come most top [] found (omega arith) has_none
        (λ r above under. absurd (omega (arith, above, under))) is

    -- A walk comes to picture `last` if all pictures on the way are seen, and it ends there, and nowhere before.
    module _ (last : ℕ) (seen : (q : ℕ) → last ≤ q → q < top → is_some (tids q) ≡ true)
        (goes : (q : ℕ) (met : List Sighting) → last < q → q < top → HasMet q met →
        (are_met tid met || stop q) ≡ false)
        (ends : (met : List Sighting) → HasMet last met → (are_met tid met || stop last) ≡ true) where
      walk-on : (most p : ℕ) (met : List Sighting) → last < p → p ≤ top → p ≤ last + most → HasMet p met →
          (next : List Sighting) × HasMet last next × (walk tids stop tid most p met ≡ Some (pictures next))
      walk-on zero p met above upto near has = absurd (omega (arith, above, near))
      walk-on (suc most) zero met above upto near has = absurd (omega (arith, above))
      walk-on (suc most) (suc q) met above upto near has =
          by (some-of (tids q) (seen q (omega (arith, above)) (omega (arith, upto))))
          (λ next more has. walk-on most q next more (omega (arith, upto)) (omega (arith, near)) has) where
            by : (t : ℕ) × (tids q ≡ Some t) →
                ((met : List Sighting) → last < q → HasMet q met →
                (next : List Sighting) × HasMet last next × (walk tids stop tid most q met ≡ Some (pictures next))) →
                (next : List Sighting) × HasMet last next
                × (walked stop tid q (walk tids stop tid most q) met (tids q) ≡ Some (pictures next))
            by one on = elim (cases_lt last q) [
              | inl more ↦
                  let after : (next : List Sighting) × HasMet last next
                  × (walk tids stop tid most q (met_with tid q one.0 met) ≡ Some (pictures next)) =
                  on (met_with tid q one.0 met) more next in (
                    after.0,
                    after.1,
                    ap (walked stop tid q (walk tids stop tid most q) met) one.1
                        ∙ cond-false (are_met tid (met_with tid q one.0 met) || stop q)
                        (Some (pictures (met_with tid q one.0 met)))
                        (walk tids stop tid most q (met_with tid q one.0 met))
                        (goes q (met_with tid q one.0 met) more (omega (arith, upto)) next)
                        ∙ after.2,
                  )
              | inr less ↦
                  let same : q ≡ last = omega (arith, above, less) in
                  let here : HasMet last (met_with tid q one.0 met) =
                  subst (λ (x : ℕ). HasMet x (met_with tid q one.0 met)) same next in (
                    met_with tid q one.0 met,
                    here,
                    ap (walked stop tid q (walk tids stop tid most q) met) one.1
                        ∙ cond-true (are_met tid (met_with tid q one.0 met) || stop q)
                        (Some (pictures (met_with tid q one.0 met)))
                        (walk tids stop tid most q (met_with tid q one.0 met))
                        (ap (λ (x : ℕ). are_met tid (met_with tid q one.0 met) || stop x) same
                        ∙ ends (met_with tid q one.0 met) here),
                  )
            ] where
              next : HasMet q (met_with tid q one.0 met)
              next = has_next q one.0 met (omega (arith, upto)) one.1 has

      -- so it comes there
      pub comes : (most : ℕ) → last < top → top ≤ last + most →
          (met : List Sighting) × HasMet last met × (walk tids stop tid most top [] ≡ Some (pictures met))
      comes most below near = walk-on most top [] below (omega arith) near has_none
