-- A run is ready if what it is judged to need is known and was pulled; and a walk that meets a frame that wasn't pulled
-- may end there.
use Rattle.std.proofs.Common.{◌≡◌, ◌≢◌, ◌⊎◌, inl, inr, ℕ, zero, suc, ◌+◌, ◌-◌, ◌<◌, ◌≤◌, Bool, true, false, cond, List, [], ◌∷◌, ◌++◌, length, drop, slice_index_or, refl, sym, ◌∙◌, ap, subst, arith}
use Rattle.std.specs.Prelude.{◌&&◌, ◌||◌, ◌==◌, not, nat_le, Option, Some, None}
use Rattle.std.specs.List.{filter, find, list_all}
use Rattle.std.specs.Option.{option_map_or}
use Rattle.std.proofs.lemmas.Bool.{eq-eqb, or_left, or_right}
use Rattle.std.proofs.lemmas.Grind.{common_steps}
use Rattle.std.proofs.lemmas.List.{drop_all, drop_more}
use Rattle.vrx_codec.specs.declared.run.Place.{Place}
use Rattle.vrx_codec.specs.declared.run.Run.{Run}
use Rattle.vrx_refs.specs.declared.sight.Sight.{Sight}
use Rattle.vrx_refs.specs.declared.sighting.Sighting.{Sighting}
use Rattle.vrx_refs.specs.declared.limits.TheConstants.{REACH}
use Rattle.vrx_refs.specs.declared.walk.Met.{Met}
use Rattle.vrx_refs.specs.declared.walk.Step.{Step}
use Rattle.vrx_refs.specs.declared.walk.Step.TheVariants.{Lost, Ended, On}
use Rattle.vrx_refs.specs.Finder.{Finder, base_at, sight_at}
use Rattle.vrx_refs.specs.Kept.{are_pulled_at, base_index, is_base_ready, is_key_at, is_layers_ready, is_place_ready, is_pulled_at, is_ready_at, is_run_ready, judge_at, judge_base, judge_by, judge_layers, judge_next, judge_place, judge_walk, met_at, step_at, step_by, tid_at, walk_at}
use Rattle.vrx_refs.specs.Met.{IsMet}
use Rattle.vrx_refs.specs.References.{Judgement, Key, Needs, Unknown, are_met, counts, is_passed_before, is_ready, met_with, pictures, walk, walked, was_met}
use Rattle.vrx_refs.proofs.JudgeLemmas.{walk_by, walk_stepped}

-- nothing is left of a list without those of a kind, if all are of that kind
none_left : (p : ℕ → Bool) (ns : List ℕ) → is_ready (Needs (filter (λ n. not (p n)) ns)) ≡ list_all p ns
none_left p [] = refl
none_left p (n ∷ ns) = by (none_left p ns) (p n) where
  by : is_ready (Needs (filter (λ m. not (p m)) ns)) ≡ list_all p ns → (b : Bool)
      → is_ready (Needs (cond (not b) (n ∷ filter (λ m. not (p m)) ns) (filter (λ m. not (p m)) ns)))
      ≡ (b && list_all p ns)
  by rest true = rest
  by rest false = refl

module _ (finder : Finder) where
  walk_ready : (o : Option (List ℕ)) → is_ready (judge_walk finder o) ≡ are_pulled_at finder o
  walk_ready None = refl
  walk_ready (Some found) = none_left (is_pulled_at finder) found

  base_ready : (p : ℕ) (o : Option ℕ) → is_ready (judge_base p o) ≡ is_base_ready p o
  base_ready p None = refl
  base_ready p (Some b) = by (counts p b) where
    by : (c : Bool) → is_ready (cond c (Needs []) Unknown) ≡ c
    by true = refl
    by false = refl

  place_ready : (place : Place) → is_ready (judge_place finder place) ≡ is_place_ready finder place
  place_ready place = by (base_index place) where
    by : (o : Option ℕ) → is_ready (judge_at finder place o) ≡ is_ready_at finder place o
    by (Some index) = base_ready place.picture (base_at finder index)
    by None = walk_ready (walk_at finder place)

  layers_ready : (passed : Option ℕ) (first : ℕ) (o : Option Place)
      → is_ready (judge_layers finder passed first o) ≡ is_layers_ready finder passed first o
  layers_ready passed first (Some place) = place_ready place
  layers_ready passed first None = by (finder.has_pulled && is_passed_before passed first) where
    by : (c : Bool) → is_ready (cond c (Needs []) Unknown) ≡ c
    by true = refl
    by false = refl

  -- a run is ready by what is remembered if it is judged so
  pub run_ready : (passed : Option ℕ) (run : Run)
      → is_run_ready finder passed run ≡ is_ready (judge_by finder passed run)
  run_ready passed run = by run.key where
    by : (key : Bool) → (key || is_layers_ready finder passed run.first run.layers)
        ≡ is_ready (cond key Key (judge_layers finder passed run.first run.layers))
    by true = refl
    by false = sym (layers_ready passed run.first run.layers)

-- pictures of which some lack a property, and one more
module _ (ok : ℕ → Bool) where
  still_not : (s : Sighting) (met : List Sighting) → list_all ok (pictures met) ≡ false
      → list_all ok (pictures (met ++ (s ∷ []))) ≡ false
  still_not s [] lacks = grind (arith, lacks)
  still_not s (m ∷ met) lacks = grind (arith, common_steps, lacks, still_not s met)

  not_with : (s : Sighting) (met : List Sighting) → ok s.picture ≡ false
      → list_all ok (pictures (met ++ (s ∷ []))) ≡ false
  not_with s [] lacks = grind (arith, common_steps, lacks)
  not_with s (m ∷ met) lacks = grind (arith, common_steps, lacks, not_with s met)

  all_with : (s : Sighting) (met : List Sighting) → list_all ok (pictures met) ≡ true → ok s.picture ≡ true
      → list_all ok (pictures (met ++ (s ∷ []))) ≡ true
  all_with s [] all one = grind (arith, common_steps, one)
  all_with s (m ∷ met) all one = grind (arith, common_steps, all, one, all_with s met)

module _ (finder : Finder) (tid : ℕ) where
  abbrev walk_on : (most p : ℕ) → List Sighting → Option (List ℕ)
  walk_on most p met = walk (tid_at finder) (is_key_at finder) tid most p met

  -- a walk that met a picture that wasn't pulled comes to none that were all pulled
  waits : (most p : ℕ) (met : List Sighting) → list_all (is_pulled_at finder) (pictures met) ≡ false
      → are_pulled_at finder (walk_on most p met) ≡ false
  waits zero p met lacks = refl
  waits (suc most) zero met lacks = refl
  waits (suc most) (suc q) met lacks = by (waits most q) (tid_at finder q) where
    by : ((next : List Sighting) → list_all (is_pulled_at finder) (pictures next) ≡ false
        → are_pulled_at finder (walk_on most q next) ≡ false) → (o : Option ℕ)
        → are_pulled_at finder (walked (is_key_at finder) tid q (walk_on most q) met o) ≡ false
    by on None = refl
    by on (Some t) = case (on next still) (are_met tid next || is_key_at finder q) where
      next : List Sighting
      next = met_with tid q t met

      still : list_all (is_pulled_at finder) (pictures next) ≡ false
      still = either (nat_le t tid && not (was_met t met)) where
        either : (b : Bool) → list_all (is_pulled_at finder)
            (pictures (cond b (met ++ (record { picture = q; tid = t } ∷ [])) met)) ≡ false
        either true = still_not (is_pulled_at finder) (record { picture = q; tid = t }) met lacks
        either false = lacks

      case : are_pulled_at finder (walk_on most q next) ≡ false → (b : Bool)
          → are_pulled_at finder (cond b (Some (pictures next)) (walk_on most q next)) ≡ false
      case further true = still
      case further false = further

-- The walk back from a frame goes on from a picture, after it met these TIDs: each picture met was pulled, and some
-- TID is left.
pub record WalksOn (finder : Finder) (place : Place) (most p : ℕ) (met : Met) : Type 0 where
  pub list : List Sighting
  pub is_met : IsMet place.tid met list
  pub goes_on : walk_on finder place.tid most p list ≡ walk_at finder place
  pub pulled : list_all (is_pulled_at finder) (pictures list) ≡ true
  pub some : 0 < met.left

module _ (finder : Finder) (place : Place) (most p : ℕ) (met : Met) (on : WalksOn finder place most p met)
    (further : 0 < most) (below : 0 < p) where
  stepped : (step : Step) (next : List Sighting) → step ≡ step_at finder place.tid (p - 1) on.list
      → next ≡ met_at finder place.tid (p - 1) on.list
      → walk_at finder place ≡ walk_by finder place.tid most p on.list further below step next
  stepped step next step_is next_is =
      sym on.goes_on ∙ walk_stepped finder place.tid most p on.list further below step next step_is next_is

  -- it comes to no end at a picture that isn't seen
  pub lost : sight_at finder (p - 1) ≡ None → are_pulled_at finder (walk_at finder place) ≡ false
  lost is = ap (are_pulled_at finder) (stepped Lost on.list (ap (step_by place.tid (p - 1) on.list) (sym is))
      (ap (λ o. option_map_or (λ s. met_with place.tid (p - 1) s.tid on.list) o on.list) (sym is)))

  -- what a picture that is seen makes of it
  module _ (s : Sight) (is : sight_at finder (p - 1) ≡ Some s) where
    abbrev counts_here : Bool
    counts_here = nat_le s.tid place.tid && not (was_met s.tid on.list)

    abbrev one : Sighting
    one = record { picture = p - 1; tid = s.tid }

    abbrev next : List Sighting
    next = met_with place.tid (p - 1) s.tid on.list

    abbrev comes_to : Bool → Option (List ℕ)
    comes_to b = walk_by finder place.tid most p on.list further below (cond b Ended On) next

    walk_is : walk_at finder place ≡ comes_to (are_met place.tid next || s.key)
    walk_is = stepped (step_by place.tid (p - 1) on.list (Some s)) next
        (ap (step_by place.tid (p - 1) on.list) (sym is))
        (ap (λ o. option_map_or (λ s. met_with place.tid (p - 1) s.tid on.list) o on.list) (sym is))

    pulled_is : is_pulled_at finder (p - 1) ≡ s.pulled
    pulled_is = ap (λ o. option_map_or (λ s. s.pulled) o false) is

    -- it waits for the picture, if this counts and wasn't pulled
    pub waits_here : counts_here ≡ true → s.pulled ≡ false → are_pulled_at finder (walk_at finder place) ≡ false
    waits_here first not_pulled = ap (are_pulled_at finder) walk_is ∙ by (are_met place.tid next || s.key) where
      without : list_all (is_pulled_at finder) (pictures next) ≡ false
      without = subst (λ b. list_all (is_pulled_at finder) (pictures (cond b (on.list ++ (one ∷ [])) on.list)) ≡ false)
          (sym first) (not_with (is_pulled_at finder) one on.list (pulled_is ∙ not_pulled))

      by : (b : Bool) → are_pulled_at finder (comes_to b) ≡ false
      by true = without
      by false = waits finder place.tid (most - 1) (p - 1) next without

    -- else what was met until now was pulled
    module _ (rest : counts_here ≡ true → s.pulled ≡ true) (after : Met) (met_after : IsMet place.tid after next) where
      all : list_all (is_pulled_at finder) (pictures next) ≡ true
      all = by counts_here refl where
        by : (b : Bool) → counts_here ≡ b
            → list_all (is_pulled_at finder) (pictures (cond b (on.list ++ (one ∷ [])) on.list)) ≡ true
        by true first = all_with (is_pulled_at finder) one on.list on.pulled (pulled_is ∙ rest first)
        by false first = on.pulled

      -- it ends at the picture, if no TID is left or the picture was pulled as a keyframe
      pub ends : (after.left ≡ 0) ⊎ (s.key ≡ true) → are_pulled_at finder (walk_at finder place) ≡ true
      ends why = ap (are_pulled_at finder) (walk_is ∙ ap comes_to (stops why)) ∙ all where
        stops : (after.left ≡ 0) ⊎ (s.key ≡ true) → (are_met place.tid next || s.key) ≡ true
        stops (inl none) = or_left (are_met place.tid next) s.key
            (eq-eqb (length next) (place.tid + 1) (omega (arith, none, met_after.left)))
        stops (inr key) = or_right (are_met place.tid next) s.key key

      -- and else it goes on
      pub goes : after.left ≢ 0 → s.key ≡ false → WalksOn finder place (most - 1) (p - 1) after
      goes some delta = record {
        list = next;
        is_met = met_after;
        goes_on = sym (walk_is ∙ ap comes_to on_it);
        pulled = all;
        some = omega (arith, some);
      } where
        on_it : (are_met place.tid next || s.key) ≡ false
        on_it = grind (arith, common_steps, delta, some, met_after.left)

-- a walk may wait at its first step already
module _ (finder : Finder) (place : Place) where
  abbrev nothing_met : Met
  nothing_met = record { was = []; left = place.tid + 1 }

  abbrev begins : WalksOn finder place REACH place.picture nothing_met
  begins = record {
    list = [];
    is_met = record { flags = λ tid below. refl; left = omega arith };
    goes_on = refl;
    pulled = refl;
    some = omega arith;
  }

  pub waits_at_none : place.picture ≡ 0 → are_pulled_at finder (walk_at finder place) ≡ false
  waits_at_none none = ap (λ p. are_pulled_at finder
      (walk (tid_at finder) (is_key_at finder) place.tid REACH p [])) none

  pub waits_at_unseen : 0 < place.picture → sight_at finder (place.picture - 1) ≡ None
      → are_pulled_at finder (walk_at finder place) ≡ false
  waits_at_unseen below is = lost finder place REACH place.picture nothing_met begins (omega arith) below is

  pub waits_at_seen : 0 < place.picture → (s : Sight) → sight_at finder (place.picture - 1) ≡ Some s
      → nat_le s.tid place.tid ≡ true → s.pulled ≡ false → are_pulled_at finder (walk_at finder place) ≡ false
  waits_at_seen below s is upto = waits_here finder place REACH place.picture nothing_met begins (omega arith) below s is
      (by (nat_le s.tid place.tid) upto) where
        by : (b : Bool) → b ≡ true → (b && true) ≡ true
        by true is = refl
        by false is = is

-- the search for a run among runs, from a place on
module _ (p : Run → Bool) (xs : List Run) (at : ℕ) where
  module _ (other : Run) (lt : at < length xs) where
    abbrev run : Run
    run = slice_index_or xs at other

    here : find p (drop at xs) ≡ cond (p run) (Some run) (find p (drop (at + 1) xs))
    here = ap (find p) (drop_more xs at other lt)

    pub search_found : p run ≡ true → find p (drop at xs) ≡ find p xs → Some run ≡ find p xs
    search_found ready same = sym (ap (λ b. cond b (Some run) (find p (drop (at + 1) xs))) ready) ∙ sym here ∙ same

    pub search_on : p run ≡ false → find p (drop at xs) ≡ find p xs → find p (drop (at + 1) xs) ≡ find p xs
    search_on waits same = sym (ap (λ b. cond b (Some run) (find p (drop (at + 1) xs))) waits) ∙ sym here ∙ same

  pub search_over : length xs ≤ at → find p (drop at xs) ≡ find p xs → None ≡ find p xs
  search_over le same = ap (find p) (sym (drop_all at xs le)) ∙ same
