-- What a walk gives, and what a judgement says of references.
use Rattle.std.proofs.Common.{◌≡◌, ◌≢◌, ℕ, zero, suc, ◌+◌, ◌-◌, ◌%◌, ◌<◌, ◌≤◌, Bool, true, false, cond, List, [], ◌∷◌, length, refl, sym, ◌∙◌, ap, subst, arith, inl, inr}
use Rattle.std.specs.Prelude.{◌&&◌, ◌||◌, ◌==◌, ◌++◌, not, nat_le, nat_lt, Option, Some, None, is_some, IsSomeAnd}
use Rattle.std.specs.List.{filter}
use Rattle.std.proofs.lemmas.Bool.{and_parts, cases_lt, cond-false, ltb-true, ne_eqb, cases_order, eqb-true, eq-eqb, leb-true, le-leb, or_cases, or_left, or_parts, or_right}
use Rattle.std.proofs.lemmas.List.{length-map}
use Rattle.std.proofs.lemmas.Option.{same_Some}
use Rattle.vrx_num.specs.Index.{index_before}
use Rattle.vrx_codec.specs.declared.run.Place.{Place}
use Rattle.vrx_codec.specs.declared.run.Run.{Run}
use Rattle.vrx_refs.specs.declared.limits.TheConstants.{REACH}
use Rattle.vrx_refs.specs.declared.sighting.Sighting.{Sighting}
use Rattle.vrx_refs.specs.Laws.{AreNear, AreSeenBetween, AreWalked, FollowsReferences, HasWalked, IsFirst, WalksBack, is_among}
use Rattle.vrx_refs.specs.References.{are_met, base, base_reference, counts, judge_delta, Judgement, Key, met_with, Needs, pictures, references, seen, Unknown, waits_for, walk, walked, was_met, was_pulled, was_pulled_key}

module _ (tids : ℕ → Option ℕ) (stop : ℕ → Bool) (tid top : ℕ) where
  -- a picture on the way from the top down to p, the first of its TID
  record IsMetFrom (p : ℕ) (s : Sighting) : Type 0 where
    above : p ≤ s.picture
    under : s.picture < top
    has : tids s.picture ≡ Some s.tid
    low : s.tid ≤ tid
    first : (r : ℕ) → s.picture < r → r < top → tids r ≢ Some s.tid

  abbrev AreMetFrom : ℕ → List Sighting → Type 0
  AreMetFrom p [] = Unit {0}
  AreMetFrom p (s ∷ met) = IsMetFrom p s × AreMetFrom p met

  -- what was met down to p
  record HasMet (p : ℕ) (met : List Sighting) : Type 0 where
    sound : AreMetFrom p met
    whole : (r t : ℕ) → p ≤ r → r < top → tids r ≡ Some t → t ≤ tid → was_met t met ≡ true
    seen : (r : ℕ) → p ≤ r → r < top → is_some (tids r) ≡ true

  lower : (q : ℕ) (met : List Sighting) → AreMetFrom (suc q) met → AreMetFrom q met
  lower q [] are = tt
  lower q (s ∷ met) are = (
    record {
      above = omega (arith, are.0.above);
      under = are.0.under;
      has = are.0.has;
      low = are.0.low;
      first = are.0.first;
    },
    lower q met are.1,
  )

  appended : (q : ℕ) (met : List Sighting) (s : Sighting) → AreMetFrom q met → IsMetFrom q s
      → AreMetFrom q (met ++ (s ∷ []))
  appended q [] s are is = (is, tt)
  appended q (m ∷ met) s are is = (are.0, appended q met s are.1 is)

  met_more : (t : ℕ) (met : List Sighting) (s : Sighting) → was_met t met ≡ true → was_met t (met ++ (s ∷ [])) ≡ true
  met_more t [] s is = grind (arith, is)
  met_more t (m ∷ met) s is = elim (or_cases (m.tid == t) (was_met t met) is) [
    | inl here ↦ or_left (m.tid == t) (was_met t (met ++ (s ∷ []))) here
    | inr there ↦ or_right (m.tid == t) (was_met t (met ++ (s ∷ []))) (met_more t met s there)
  ]

  met_last : (t q : ℕ) (met : List Sighting) → was_met t (met ++ (record { picture = q; tid = t } ∷ [])) ≡ true
  met_last t q [] = or_left (t == t) false (eq-eqb t t refl)
  met_last t q (m ∷ met) = or_right (m.tid == t) _ (met_last t q met)

  module _ (q t : ℕ) (met : List Sighting) (under : q < top) (is : tids q ≡ Some t) (has : HasMet (suc q) met) where
    seen_next : (r : ℕ) → q ≤ r → r < top → is_some (tids r) ≡ true
    seen_next r above below = elim (cases_lt q r) [
      | inl more ↦ has.seen r more below
      | inr less ↦ ap (λ x. is_some (tids x)) (omega (arith, above, less)) ∙ ap is_some is
    ]

    -- a TID that counts is met, whether now or before
    met_now : (next : List Sighting) → ((u : ℕ) → was_met u met ≡ true → was_met u next ≡ true)
        → (t ≤ tid → was_met t next ≡ true) → (r u : ℕ) → q ≤ r → r < top → tids r ≡ Some u → u ≤ tid → was_met u next
        ≡ true
    met_now next keeps now r u above below has_u low = elim (cases_lt q r) [
      | inl more ↦ keeps u (has.whole r u more below has_u low)
      | inr less ↦
          let same : t ≡ u = same_Some t u (sym is ∙ ap tids (omega (arith, above, less)) ∙ has_u) in
          subst (λ x. was_met x next ≡ true) same (now (subst (λ x. x ≤ tid) (sym same) low))
    ]

    new_first : t ≤ tid → was_met t met ≡ false → IsMetFrom q (record { picture = q; tid = t })
    new_first low new = record {
      above = omega arith;
      under = under;
      has = is;
      low = low;
      first = λ r more below has_t. grind (arith, sym new ∙ has.whole r t more below has_t low);
    }

    has_next : HasMet q (met_with tid q t met)
    has_next = by (nat_le t tid) (was_met t met) refl refl where
      by : (low old : Bool) → nat_le t tid ≡ low → was_met t met ≡ old
          → HasMet q (cond (low && not old) (met ++ (record { picture = q; tid = t } ∷ [])) met)
      by true false low new = record {
        sound = appended q met _ (lower q met has.sound) (new_first (leb-true t tid low) new);
        whole = met_now _ (λ u old. met_more u met _ old) (λ _. met_last t q met);
        seen = seen_next;
      }
      by true true low old = record {
        sound = lower q met has.sound;
        whole = met_now met (λ u was. was) (λ _. old);
        seen = seen_next;
      }
      by false old high _ = record {
        sound = lower q met has.sound;
        whole = met_now met (λ u was. was) (λ low. grind (arith, sym high ∙ le-leb t tid low));
        seen = seen_next;
      }

  -- the pictures met are those that are the first of their TIDs
  first_of_met : (p : ℕ) (s : Sighting) (x : ℕ) → IsMetFrom p s → s.picture ≡ x → (p ≤ x) × (x < top)
      × IsFirst tids tid top x
  first_of_met p s x is same = (
    omega (arith, is.above, same),
    omega (arith, is.under, same),
    subst (λ y. IsFirst tids tid top y) same
        (subst (λ o. IsSomeAnd o (λ t. (t ≤ tid) × ((r : ℕ) → s.picture < r → r < top
        → tids r ≢ Some t))) (sym is.has)
        (is.low, is.first)),
  )

  among_first : (p : ℕ) (met : List Sighting) (x : ℕ) → AreMetFrom p met → is_among x (pictures met) ≡ true
      → (p ≤ x) × (x < top) × IsFirst tids tid top x
  among_first p [] x are among = grind (arith, among)
  among_first p (s ∷ met) x are among = elim (or_cases (s.picture == x) (is_among x (pictures met)) among) [
    | inl here ↦ first_of_met p s x are.0 (eqb-true s.picture x here)
    | inr there ↦ among_first p met x are.1 there
  ]

  first_among : (p : ℕ) (met : List Sighting) (x t : ℕ) → AreMetFrom p met → was_met t met ≡ true → p ≤ x → x < top
      → tids x ≡ Some t → ((r : ℕ) → x < r → r < top → tids r ≢ Some t) → is_among x (pictures met) ≡ true
  first_among p [] x t are was above under has first = grind (arith, was)
  first_among p (s ∷ met) x t are was above under has first = elim (or_cases (s.tid == t) (was_met t met) was) [
    | inl here ↦ let same : s.tid ≡ t = eqb-true s.tid t here in
        elim (cases_order s.picture x) [
          | inl is ↦ or_left (s.picture == x) (is_among x (pictures met)) (eq-eqb s.picture x is)
          | inr (inl below) ↦ elim (are.0.first x below under (has ∙ ap Some (sym same))) [ ]
          | inr (inr above) ↦ elim (first s.picture above are.0.under (are.0.has ∙ ap Some same)) [ ]
        ]
    | inr there ↦ or_right (s.picture == x) (is_among x (pictures met))
        (first_among p met x t are.1 there above under has first)
  ]

  -- a walk that ends here
  walk_ended : (q : ℕ) (met : List Sighting) → q < top → HasMet q met → ((r : ℕ) → q < r → r < top → stop r ≡ false)
      → (are_met tid met || stop q) ≡ true
      → HasWalked tids stop tid top q (pictures met)
  walk_ended q met under has on ends = record {
    below = under;
    seen = has.seen;
    firsts = λ x. (among_first q met x has.sound, there x);
    goes_on = on;
    ends = elim (or_cases (are_met tid met) (stop q) ends) [
      | inl all ↦ inl (length-map met (λ s. s.picture) ∙ eqb-true (length met) (tid + 1) all)
      | inr stops ↦ inr stops
    ];
  } where
    there : (x : ℕ) → (q ≤ x) × (x < top) × IsFirst tids tid top x → is_among x (pictures met) ≡ true
    there x (above, below, is) = by (tids x) refl is where
      by : (o : Option ℕ) → tids x ≡ o → IsSomeAnd o (λ t. (t ≤ tid) × ((r : ℕ) → x < r → r < top → tids r ≢ Some t))
          → is_among x (pictures met) ≡ true
      by None has_no is = elim is [ ]
      by (Some t) has_t is = first_among q met x t has.sound
          (has.whole x t above below has_t is.0) above below has_t is.1

  -- a walk that goes on
  walk_from : (most p : ℕ) (met : List Sighting) (found : List ℕ) → p ≤ top → HasMet p met
      → ((r : ℕ) → p ≤ r → r < top → stop r ≡ false)
      → walk tids stop tid most p met ≡ Some found → (last : ℕ) × (p ≤ last + most)
      × HasWalked tids stop tid top last found
  walk_from zero p met found low has on is = grind (arith, is)
  walk_from (suc most) zero met found low has on is = grind (arith, is)
  walk_from (suc most) (suc q) met found low has on is =
      by q most met found low has on (λ next has_next on_next is. walk_from most q next found
      (omega (arith, low)) has_next on_next is)
      (tids q) refl is where
        by : (q most : ℕ) (met : List Sighting) (found : List ℕ) → suc q ≤ top → HasMet (suc q) met
            → ((r : ℕ) → suc q ≤ r → r < top → stop r ≡ false)
            → ((next : List Sighting) → HasMet q next → ((r : ℕ) → q ≤ r → r < top → stop r ≡ false)
            → walk tids stop tid most q next ≡ Some found
            → (last : ℕ) × (q ≤ last + most) × HasWalked tids stop tid top last found)
            → (o : Option ℕ) → tids q ≡ o → walked stop tid q (walk tids stop tid most q) met o ≡ Some found
            → (last : ℕ) × (suc q ≤ last + suc most) × HasWalked tids stop tid top last found
        by q most met found low has on more None is ends = grind (arith, ends)
        by q most met found low has on more (Some t) is ends = case (are_met tid next || stop q) refl ends where
          next : List Sighting
          next = met_with tid q t met

          has_it : HasMet q next
          has_it = has_next q t met (omega (arith, low)) is has

          on_it : stop q ≡ false → (r : ℕ) → q ≤ r → r < top → stop r ≡ false
          on_it here r above under = elim (cases_lt q r) [
            | inl above ↦ on r above under
            | inr same ↦ ap stop (omega (arith, above, same)) ∙ here
          ]

          case : (b : Bool) → (are_met tid next || stop q) ≡ b
              → cond b (Some (pictures next)) (walk tids stop tid most q next) ≡ Some found
              → (last : ℕ) × (suc q ≤ last + suc most) × HasWalked tids stop tid top last found
          case true stops given = (
            q,
            omega arith,
            subst (λ xs. HasWalked tids stop tid top q xs) (same_Some _ _ given)
                (walk_ended q next (omega (arith, low)) has_it on stops),
          )
          case false goes given = let (last, near, walked) = more next has_it
              (on_it (or_parts (are_met tid next) (stop q) goes).1) given in (last, omega (arith, near), walked)

-- what a walk gives
pub walks_back : WalksBack
walks_back tids stop tid most p found is = walk_from tids stop tid p most p [] found (omega arith) (record {
  sound = tt;
  whole = λ r t above under _ _. grind (arith, above, under);
  seen = λ r above under. grind (arith, above, under);
}) (λ r above under. grind (arith, above, under)) is

-- what a frame with neither TID 0 nor Y refers to is what a walk gives
references-walked : (told : List Sighting) (pulled : List Run) (place : Place) → place.tid ≢ 0 → place.sync ≡ false
    → references told pulled place ≡ walk (seen told) (was_pulled_key pulled) place.tid REACH place.picture []
references-walked told pulled place high plain =
    cond-false (place.tid == 0) _ _ (ne_eqb place.tid 0 high) ∙ cond-false place.sync _ _ plain

pub are_walked : AreWalked
are_walked told pulled place found high plain is =
    let (last, near, walked) = walks_back (seen told) (was_pulled_key pulled) place.tid REACH place.picture found
    (sym (references-walked told pulled place high plain) ∙ is) in
    (last, walked)

-- nothing on that way is unseen
pub are_seen_between : AreSeenBetween
are_seen_between told pulled place found high plain is q r among above below =
    let (last, walked) = are_walked told pulled place found high plain is in
    walked.seen r (omega (arith, above, ((walked.firsts q).0 among).0)) below

-- a base that counts is near, and so is what a walk gives
base_near : (p : ℕ) (o : Option ℕ) (found : List ℕ) → base_reference p o ≡ Some found → (q : ℕ)
    → is_among q found ≡ true → (q < p) × (p ≤ q + REACH)
base_near p None found is q among = grind (arith, is)
base_near p (Some b) found is q among = by (counts p b) refl is where
  near : counts p b ≡ true → q ≡ b → (q < p) × (p ≤ q + REACH)
  near is same = let parts = and_parts (nat_lt b p) (nat_le p (b + REACH)) is in
      (omega (arith, same, ltb-true b p parts.0), omega (arith, same, leb-true p (b + REACH) parts.1))

  by : (c : Bool) → counts p b ≡ c → cond c (Some (b ∷ [])) None ≡ Some found → (q < p) × (p ≤ q + REACH)
  by false _ is = grind (arith, is)
  by true near_is is = near near_is (one (subst (λ xs. is_among q xs ≡ true) (sym (same_Some _ _ is)) among)) where
    one : is_among q (b ∷ []) ≡ true → q ≡ b
    one here = elim (or_cases (b == q) false here) [
      | inl same ↦ sym (eqb-true b q same)
      | inr never ↦ grind (arith, never)
    ]

pub are_near : AreNear
are_near told pulled place found is q among = by (place.tid == 0) place.sync is where
  by : (low sync : Bool)
      → cond low (base_reference place.picture (base pulled (index_before place.tl0)))
      (cond sync (base_reference place.picture (base pulled place.tl0))
      (walk (seen told) (was_pulled_key pulled) place.tid REACH place.picture [])) ≡ Some found
      → (q < place.picture) × (place.picture ≤ q + REACH)
  by true sync is = base_near place.picture _ found is q among
  by false true is = base_near place.picture _ found is q among
  by false false is =
      let (last, near, walked) = walks_back (seen told)
      (was_pulled_key pulled) place.tid REACH place.picture found is in
      let place_of = (walked.firsts q).0 among in
      (place_of.1, omega (arith, near, place_of.0))

-- if nothing is left of those that weren't pulled, all were pulled
all_pulled : (ok : ℕ → Bool) (ns : List ℕ) → filter (λ n. not (ok n)) ns ≡ [] → (q : ℕ) → is_among q ns ≡ true → ok q
    ≡ true
all_pulled ok [] none q among = grind (arith, among)
all_pulled ok (n ∷ ns) none q among = by (ok n) refl none (λ rest there. all_pulled ok ns rest q there) where
  by : (b : Bool) → ok n ≡ b → cond (not b) (n ∷ filter (λ n. not (ok n)) ns) (filter (λ n. not (ok n)) ns) ≡ []
      → (filter (λ n. not (ok n)) ns ≡ [] → is_among q ns ≡ true → ok q ≡ true) → ok q ≡ true
  by false _ some _ = grind (arith, some)
  by true is rest more = elim (or_cases (n == q) (is_among q ns) among) [
    | inl here ↦ ap ok (sym (eqb-true n q here)) ∙ is
    | inr there ↦ more rest there
  ]

abbrev waiting : Judgement → List ℕ
waiting Key = 0 ∷ []
waiting (Needs pictures) = pictures
waiting Unknown = 0 ∷ []

pub follows_references : FollowsReferences
follows_references told pulled passed run place layers is =
    by run.key (references told pulled place)
    (ap (λ o. cond run.key Key (judge_delta told pulled passed run.first o)) (sym layers) ∙ is) where
      by : (key : Bool) (o : Option (List ℕ)) → cond key Key (waits_for pulled o) ≡ Needs []
          → IsSomeAnd o (λ found. (q : ℕ) → is_among q found ≡ true → was_pulled pulled q ≡ true)
      by true o is = grind (arith, ap waiting is)
      by false None is = grind (arith, ap waiting is)
      by false (Some found) is = all_pulled (was_pulled pulled) found (ap waiting is)
