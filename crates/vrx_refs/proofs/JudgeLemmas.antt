-- What a finder judges is what the definition judges.
use Rattle.std.proofs.Common.{◌≡◌, ℕ, ◌+◌, ◌-◌, ◌%◌, ◌<◌, Bool, true, false, cond, List, [], ◌∷◌, refl, sym, ◌∙◌, ap, arith}
use Rattle.std.specs.Prelude.{◌&&◌, ◌||◌, ◌==◌, not, Option, Some, None, is_some}
use Rattle.std.specs.Bool.{OnFalse}
use Rattle.std.specs.List.{filter, list_all}
use Rattle.std.specs.Option.{option_map, option_map_or}
use Rattle.std.proofs.lemmas.Bool.{and_parts, eq-eqb, ltb-true, or_left, or_right}
use Rattle.std.proofs.lemmas.Option.{same_Some}
use Rattle.vrx_num.specs.Index.{index_before}
use Rattle.vrx_codec.specs.declared.run.Place.{Place}
use Rattle.vrx_codec.specs.declared.run.Run.{Run}
use Rattle.vrx_refs.specs.declared.sight.Sight.{Sight}
use Rattle.vrx_refs.specs.declared.sighting.Sighting.{Sighting}
use Rattle.vrx_refs.specs.declared.walk.Step.{Step}
use Rattle.vrx_refs.specs.declared.walk.Step.TheVariants.{Lost, Ended, On}
use Rattle.vrx_refs.specs.declared.limits.TheConstants.{INDEXES, REACH}
use Rattle.vrx_refs.specs.Finder.{Finder, base_at, sight_at}
use Rattle.vrx_refs.specs.Kept.{has_index, is_key_at, is_pulled_at, judge_at, judge_base, judge_by, judge_layers, judge_next, judge_place, judge_walk, met_at, step_at, step_by, tid_at, walk_at}
use Rattle.vrx_refs.specs.Knows.{Knows, sight_of}
use Rattle.vrx_refs.specs.References.{are_met, base, base_by, base_reference, counts, is_placed_at, judge, judge_delta, Key, met_with, Needs, pictures, references, seen, Unknown, waits_for, walk, walked, was_pulled, was_pulled_key}
use Rattle.vrx_refs.proofs.WalkLemmas.{walk_all, walk_further, walk_same}

-- one picture of a walk, by what is remembered of it
module _ (finder : Finder) (tid most p : ℕ) (met : List Sighting) (some : 0 < most) (below : 0 < p) where
  abbrev walk_on : (most p : ℕ) → List Sighting → Option (List ℕ)
  walk_on most p met = walk (tid_at finder) (is_key_at finder) tid most p met

  further : walk_on most p met
      ≡ walked (is_key_at finder) tid (p - 1) (walk_on (most - 1) (p - 1)) met (tid_at finder (p - 1))
  further = walk_further (tid_at finder) (is_key_at finder) tid most p met some below

  -- where it comes to, by what the picture makes of it
  abbrev pub walk_by : Step → List Sighting → Option (List ℕ)
  walk_by Lost next = None
  walk_by Ended next = Some (pictures next)
  walk_by On next = walk_on (most - 1) (p - 1) next

  walk_steps : walk_on most p met ≡ walk_by (step_at finder tid (p - 1) met) (met_at finder tid (p - 1) met)
  walk_steps = further ∙ by (sight_at finder (p - 1)) refl where
    by : (o : Option Sight) → sight_at finder (p - 1) ≡ o
        → walked (is_key_at finder) tid (p - 1) (walk_on (most - 1) (p - 1)) met (option_map (λ s. s.tid) o)
        ≡ walk_by (step_by tid (p - 1) met o) (option_map_or (λ s. met_with tid (p - 1) s.tid met) o met)
    by None is = refl
    by (Some s) is = ap (λ o. cond (are_met tid next || option_map_or (λ s. s.key) o false) (Some (pictures next))
        (walk_on (most - 1) (p - 1) next)) is ∙ case (are_met tid next || s.key) where
          next : List Sighting
          next = met_with tid (p - 1) s.tid met

          case : (b : Bool) → cond b (Some (pictures next)) (walk_on (most - 1) (p - 1) next)
              ≡ walk_by (cond b Ended On) next
          case true = refl
          case false = refl

  -- the same, by what a call says of it
  pub walk_stepped : (step : Step) (next : List Sighting) → step ≡ step_at finder tid (p - 1) met
      → next ≡ met_at finder tid (p - 1) met → walk_on most p met ≡ walk_by step next
  walk_stepped step next step_is next_is = walk_steps ∙ (λ i. walk_by (sym step_is i) (sym next_is i))

-- a base was pulled
base_pulled : (pulled : List Run) (index b : ℕ) → base pulled index ≡ Some b → was_pulled pulled b ≡ true
base_pulled [] index b is = grind (arith, is)
base_pulled (run ∷ pulled) index b is = by run.layers (base pulled index) (was_pulled pulled b) is
    (base_pulled pulled index b) where
      by : (o : Option Place) (before : Option ℕ) (rest : Bool) → base_by index o before ≡ Some b
          → (before ≡ Some b → rest ≡ true) → (is_placed_at b o || rest) ≡ true
      by None before rest is more = more is
      by (Some place) before rest is more = case ((place.tid == 0) && (place.tl0 == index)) is where
        case : (c : Bool) → cond c (Some place.picture) before ≡ Some b → ((place.picture == b) || rest) ≡ true
        case true is = or_left (place.picture == b) rest (eq-eqb place.picture b (same_Some _ _ is))
        case false is = or_right (place.picture == b) rest (more is)

-- so nothing is waited for, if the base counts
base_judged : (pulled : List Run) (p : ℕ) (o : Option ℕ) → ((b : ℕ) → o ≡ Some b → was_pulled pulled b ≡ true)
    → judge_base p o ≡ waits_for pulled (base_reference p o)
base_judged pulled p None known = refl
base_judged pulled p (Some b) known = by (counts p b) where
  by : (c : Bool) → cond c (Needs []) Unknown ≡ waits_for pulled (cond c (Some (b ∷ [])) None)
  by true = ap (λ pulled. Needs (cond (not pulled) (b ∷ []) [])) (sym (known b refl))
  by false = refl

-- the pictures that a walk gives are seen, and of these a finder remembers whether they were pulled
same_filter : (p q ok : ℕ → Bool) → ((n : ℕ) → ok n ≡ true → p n ≡ q n) → (ns : List ℕ) → list_all ok ns ≡ true
    → filter p ns ≡ filter q ns
same_filter p q ok same [] all = refl
same_filter p q ok same (n ∷ ns) all = let parts = and_parts (ok n) (list_all ok ns) all in
    (λ i. cond (same n parts.0 i) (n ∷ same_filter p q ok same ns parts.1 i) (same_filter p q ok same ns parts.1 i))

module _ (finder : Finder) (told : List Sighting) (pulled : List Run) (knows : Knows finder told pulled) where
  tid_known : (q : ℕ) → tid_at finder q ≡ seen told q
  tid_known q = ap (option_map (λ s. s.tid)) (knows.sights q) ∙ by (seen told q) where
    by : (o : Option ℕ) → option_map (λ s. s.tid) (option_map (sight_of pulled q) o) ≡ o
    by None = refl
    by (Some t) = refl

  key_known : (q t : ℕ) → seen told q ≡ Some t → is_key_at finder q ≡ was_pulled_key pulled q
  key_known q t is = ap (λ o. option_map_or (λ s. s.key) o false) (knows.sights q
      ∙ ap (option_map (sight_of pulled q)) is)

  pulled_known : (q : ℕ) → is_some (seen told q) ≡ true → is_pulled_at finder q ≡ was_pulled pulled q
  pulled_known q there = ap (λ o. option_map_or (λ s. s.pulled) o false) (knows.sights q)
      ∙ by (seen told q) there where
        by : (o : Option ℕ) → is_some o ≡ true → option_map_or (λ s. s.pulled) (option_map (sight_of pulled q) o) false
            ≡ was_pulled pulled q
        by None there = grind (arith, there)
        by (Some t) there = refl

  walk_known : (place : Place) → walk_at finder place
      ≡ walk (seen told) (was_pulled_key pulled) place.tid REACH place.picture []
  walk_known place = walk_same (tid_at finder) (seen told) (is_key_at finder) (was_pulled_key pulled) place.tid
      tid_known key_known REACH place.picture []

  walk_judged : (place : Place) (o : Option (List ℕ))
      → walk (seen told) (was_pulled_key pulled) place.tid REACH place.picture [] ≡ o
      → judge_walk finder o ≡ waits_for pulled o
  walk_judged place None is = refl
  walk_judged place (Some found) is = ap Needs (same_filter (λ q. not (is_pulled_at finder q))
      (λ q. not (was_pulled pulled q))
      (λ q. is_some (seen told q)) (λ q there. ap not (pulled_known q there)) found
      (walk_all (seen told) (was_pulled_key pulled) place.tid (λ q. is_some (seen told q)) (λ q t is. ap is_some is)
      REACH place.picture [] refl found is))

  place_judged : (place : Place) → place.tl0 < INDEXES → judge_place finder place
      ≡ waits_for pulled (references told pulled place)
  place_judged place small = by (place.tid == 0) place.sync where
    by_base : (index : ℕ) → index < INDEXES
        → judge_base place.picture (base_at finder index)
        ≡ waits_for pulled (base_reference place.picture (base pulled index))
    by_base index small = ap (judge_base place.picture) (knows.bases index small)
        ∙ base_judged pulled place.picture (base pulled index) (base_pulled pulled index)

    by_walk : judge_walk finder (walk_at finder place)
        ≡ waits_for pulled (walk (seen told) (was_pulled_key pulled) place.tid REACH place.picture [])
    by_walk = ap (judge_walk finder) (walk_known place) ∙ walk_judged place _ refl

    by : (low sync : Bool)
        → judge_at finder place (cond low (Some (index_before place.tl0)) (cond sync (Some place.tl0) None))
        ≡ waits_for pulled (cond low (base_reference place.picture
        (base pulled (index_before place.tl0)))
        (cond sync (base_reference place.picture (base pulled place.tl0))
        (walk (seen told) (was_pulled_key pulled) place.tid REACH place.picture [])))
    by true sync = by_base (index_before place.tl0) (omega arith)
    by false true = by_base place.tl0 small
    by false false = by_walk

  -- a run of which the finder knows enough is judged as the definition says
  pub knows_judged : (run : Run) (passed : Option ℕ) → OnFalse run.key (has_index run.layers ≡ true)
      → judge_by finder passed run ≡ judge told pulled passed run
  knows_judged run passed small = by run.key run.layers small where
    by : (key : Bool) (layers : Option Place) → OnFalse key (has_index layers ≡ true)
        → cond key Key (judge_layers finder passed run.first layers)
        ≡ cond key Key (judge_delta told pulled passed run.first layers)
    by true layers small = refl
    by false None small = ap (λ b. judge_next b passed run.first) knows.pulls
    by false (Some place) small = place_judged place (ltb-true place.tl0 INDEXES small)
