-- What a finder knows once a run was pulled.
use Rattle.std.proofs.Common.{◌≡◌, ◌≢◌, ℕ, ◌<◌, Bool, true, false, cond, List, ◌∷◌, length, refl, sym, ◌∙◌, ap, subst, arith, inl, inr}
use Rattle.std.specs.Prelude.{◌⊎◌, ◌&&◌, ◌||◌, ◌==◌, Option, Some, None, is_some, slice_index_or, slice_set}
use Rattle.std.specs.Option.{option_map}
use Rattle.std.proofs.lemmas.Bool.{eq-eqb, ne_eqb, cases_eq}
use Rattle.std.proofs.lemmas.List.{get_or-set_same, get_or-set_other}
use Rattle.vrx_codec.specs.declared.run.Place.{Place}
use Rattle.vrx_codec.specs.declared.run.Run.{Run}
use Rattle.vrx_refs.specs.declared.limits.TheConstants.{INDEXES}
use Rattle.vrx_refs.specs.declared.sight.Sight.{Sight}
use Rattle.vrx_refs.specs.declared.sighting.Sighting.{Sighting}
use Rattle.vrx_refs.specs.Finder.{Finder, IsWhole, sight_at, slot_at}
use Rattle.vrx_refs.specs.Kept.{marked, with_base, with_mark, with_place, with_pulled}
use Rattle.vrx_refs.specs.Knows.{Knows, sight_of}
use Rattle.vrx_refs.specs.References.{base, base_by, first_tid, is_of_picture, is_placed_at, is_recent, newest_of, seen, was_carried, was_pulled, was_pulled_key}
use Rattle.vrx_refs.proofs.SlotLemmas.{mark_here, mark_other}
use Rattle.vrx_refs.proofs.SeenLemmas.{first_tid_beyond, recent_sight}

-- the base of each index, once a frame became one
base_next : (bases : List (Option ℕ)) (place : Place) (index : ℕ) (before : Option ℕ) → length bases ≡ INDEXES
    → index < INDEXES → slice_index_or bases index None ≡ before
    → slice_index_or (with_base place bases) index None ≡ base_by index (Some place) before
base_next bases place index before size small is = by (place.tid == 0) (cases_eq index place.tl0) where
  by : (b : Bool) → ((index ≡ place.tl0) ⊎ (index ≢ place.tl0))
      → slice_index_or (cond b (slice_set bases place.tl0 (Some place.picture)) bases) index None
      ≡ cond (b && (place.tl0 == index)) (Some place.picture) before
  by false _ = is
  by true (inl same) = ap (λ i. slice_index_or (slice_set bases place.tl0 (Some place.picture)) i None) same
      ∙ get_or-set_same bases place.tl0 (Some place.picture) None (omega (arith, same, small, size))
      ∙ ap (λ b. cond b (Some place.picture) before) (sym (eq-eqb place.tl0 index (sym same)))
  by true (inr other) = get_or-set_other bases place.tl0 index (Some place.picture) None other ∙ is
      ∙ ap (λ b. cond b (Some place.picture) before) (sym (ne_eqb place.tl0 index (λ same. other (sym same))))

-- a run was pulled
module _ (finder : Finder) (told : List Sighting) (pulled : List Run) (run : Run)
    (whole : IsWhole finder.sights finder.bases) (knows : Knows finder told pulled) where
  -- without layers
  module _ (none : run.layers ≡ None) where
    not_of : (q : ℕ) → is_of_picture q run ≡ false
    not_of q = ap (is_placed_at q) none

    sight_same : (q t : ℕ) → sight_of (run ∷ pulled) q t ≡ sight_of pulled q t
    sight_same q t = by (is_of_picture q run) (was_pulled pulled q) (was_pulled_key pulled q) run.key (not_of q) where
      by : (is a b key : Bool) → is ≡ false
          → ◌≡◌ {A = Sight} (record { picture = q; tid = t; pulled = is || a; key = (key && is) || b })
          (record { picture = q; tid = t; pulled = a; key = b })
      by true a b key e = grind (arith, e)
      by false a b true e = refl
      by false a b false e = refl

    knows_bare : Knows
        (record { newest = finder.newest; sights = finder.sights; bases = finder.bases; has_pulled = true })
        told (run ∷ pulled)
    knows_bare = record {
      newest = knows.newest;
      sights = λ q. knows.sights q ∙ ap (λ f. option_map f (seen told q)) (λ i t. sym (sight_same q t) i);
      beyond = knows.beyond;
      bases = λ index small. knows.bases index small ∙ ap (λ o. base_by index o (base pulled index)) (sym none);
      pulls = refl;
      carried = λ q there. knows.carried q (ap (λ b. b || was_pulled pulled q) (sym (not_of q)) ∙ there);
    }

  -- at a place
  module _ (place : Place) (layers : run.layers ≡ Some place) (carried : is_some (first_tid place.picture told)
      ≡ true) where
    abbrev p : ℕ
    p = place.picture

    of_here : is_of_picture p run ≡ true
    of_here = ap (is_placed_at p) layers ∙ eq-eqb p p refl

    of_other : (q : ℕ) → q ≢ p → is_of_picture q run ≡ false
    of_other q apart = ap (is_placed_at q) layers ∙ ne_eqb p q (λ is. apart (sym is))

    abbrev then : List (Option Sight)
    then = with_mark p run.key finder.sights

    mark_of : (t : ℕ) → marked run.key (sight_of pulled p t) ≡ sight_of (run ∷ pulled) p t
    mark_of t = by (is_of_picture p run) (was_pulled pulled p) (was_pulled_key pulled p) run.key of_here where
      by : (is a b key : Bool) → is ≡ true
          → ◌≡◌ {A = Sight} (record { picture = p; tid = t; pulled = true; key = b || key })
          (record { picture = p; tid = t; pulled = is || a; key = (key && is) || b })
      by false a b key e = grind (arith, e)
      by true a true true e = refl
      by true a true false e = refl
      by true a false true e = refl
      by true a false false e = refl

    other_of : (q t : ℕ) → q ≢ p → sight_of pulled q t ≡ sight_of (run ∷ pulled) q t
    other_of q t apart = by (is_of_picture q run) (was_pulled pulled q) (was_pulled_key pulled q) run.key
        (of_other q apart) where
          by : (is a b key : Bool) → is ≡ false
              → ◌≡◌ {A = Sight} (record { picture = q; tid = t; pulled = a; key = b })
              (record { picture = q; tid = t; pulled = is || a; key = (key && is) || b })
          by true a b key e = grind (arith, e)
          by false a b true e = refl
          by false a b false e = refl

    sight_marked : (q : ℕ) (o : Option ℕ) → slot_at finder.sights q ≡ option_map (sight_of pulled q) o
        → slot_at then q ≡ option_map (sight_of (run ∷ pulled) q) o
    sight_marked q o is = elim (cases_eq q p) [
      | inl same ↦ subst (λ x. slot_at then x ≡ option_map (sight_of (run ∷ pulled) x) o) (sym same)
          (mark_here finder.sights whole.slots p run.key (slot_at finder.sights p) refl
          ∙ ap (option_map (marked run.key)) (ap (slot_at finder.sights) (sym same) ∙ is
          ∙ ap (λ x. option_map (sight_of pulled x) o) same)
          ∙ twice o)
      | inr apart ↦ mark_other finder.sights whole.slots p run.key q (slot_at finder.sights p) refl apart ∙ is
          ∙ others o apart
    ] where
      twice : (o : Option ℕ) → option_map (marked run.key) (option_map (sight_of pulled p) o)
          ≡ option_map (sight_of (run ∷ pulled) p) o
      twice None = refl
      twice (Some t) = ap Some (mark_of t)

      others : (o : Option ℕ) → q ≢ p → option_map (sight_of pulled q) o ≡ option_map (sight_of (run ∷ pulled) q) o
      others None apart = refl
      others (Some t) apart = ap Some (other_of q t apart)

    abbrev after : Finder
    after = record { newest = finder.newest; sights = then; bases = with_base place finder.bases; has_pulled = true }

    sight_after : (q : ℕ) (b : Bool) → is_recent finder.newest q ≡ b
        → sight_at after q ≡ option_map (sight_of (run ∷ pulled) q) (seen told q)
    sight_after q true young = ap (λ b. cond b (slot_at then q) None) young
        ∙ sight_marked q (first_tid q told) (recent_sight finder told pulled p p whole.slots knows q young)
        ∙ ap (λ b. option_map (sight_of (run ∷ pulled) q) (cond b (first_tid q told) None))
        (sym (ap (λ n. is_recent n q) (sym knows.newest) ∙ young))
    sight_after q false old = ap (λ b. cond b (slot_at then q) None) old
        ∙ ap (λ b. option_map (sight_of (run ∷ pulled) q) (cond b (first_tid q told) None))
        (sym (ap (λ n. is_recent n q) (sym knows.newest) ∙ old))

    beyond_after : (q : ℕ) → newest_of told < q → slot_at then q ≡ None
    beyond_after q more = mark_other finder.sights whole.slots p run.key q (slot_at finder.sights p) refl apart
        ∙ knows.beyond q more where
          apart : q ≢ p
          apart is = grind (
            arith,
            sym (ap is_some (first_tid_beyond told p
                (subst (λ x. newest_of told < x) is more))) ∙ carried,
          )

    carried_after : (q : ℕ) → was_pulled (run ∷ pulled) q ≡ true → is_some (first_tid q told) ≡ true
    carried_after q there = elim (cases_eq q p) [
      | inl same ↦ ap (λ x. is_some (first_tid x told)) same ∙ carried
      | inr apart ↦ knows.carried q (ap (λ b. b || was_pulled pulled q) (sym (of_other q apart)) ∙ there)
    ]

    knows_placed : Knows after told (run ∷ pulled)
    knows_placed = record {
      newest = knows.newest;
      sights = λ q. sight_after q (is_recent finder.newest q) refl;
      beyond = beyond_after;
      bases = λ index small. base_next finder.bases place index (base pulled index) whole.indexes small
          (knows.bases index small) ∙ ap (λ o. base_by index o (base pulled index)) (sym layers);
      pulls = refl;
      carried = carried_after;
    }

  -- with layers or without
  abbrev pulled_by : Option Place → Finder
  pulled_by o = record {
    newest = finder.newest;
    sights = (with_place run.key o finder).sights;
    bases = (with_place run.key o finder).bases;
    has_pulled = true;
  }

  pub knows_pulled : was_carried told run.layers ≡ true → Knows (with_pulled run finder) told (run ∷ pulled)
  knows_pulled carried = by run.layers refl carried where
    by : (o : Option Place) → run.layers ≡ o → was_carried told o ≡ true → Knows (pulled_by o) told (run ∷ pulled)
    by None is carried = knows_bare is
    by (Some place) is carried = knows_placed place is carried
