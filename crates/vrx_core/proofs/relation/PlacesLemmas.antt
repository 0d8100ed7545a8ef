-- Repairs are placed one after the other: what the window has then, and the places that are told.
use Rattle.std.proofs.Common.{◌≡◌, ◌≢◌, ℕ, ◌-◌, ◌≤◌, true, false, cond, List, [], ◌∷◌, length, take, drop, slice_index_or, Option, Some, None, is_some, refl, sym, ◌∙◌, ap, subst, arith, inl, inr, nat_cmp}
use Rattle.std.specs.Prelude.{◌==◌}
use Rattle.std.specs.List.{AllByRecursion}
use Rattle.std.specs.Option.{option_and_then, option_map}
use Rattle.std.specs.Result.{result_ok}
use Rattle.std.specs.FinMap.Entries.{where_key}
use Rattle.std.proofs.lemmas.List.{take_all}
use Rattle.std.proofs.lemmas.Bool.{cases_eq, eq-eqb, ne_eqb, true≢false}
use Rattle.vrx_num.specs.OptionChain.{◌>>=◌}
use Rattle.vrx_codec.specs.Meaning.{Meaning}
use Rattle.vrx_codec.specs.declared.part.Layers.{Layers}
use Rattle.vrx_codec.specs.declared.run.Place.{Place}
use Rattle.vrx_window.specs.Content.{Media, contents}
use Rattle.vrx_window.specs.Sound.{place_at, place_of}
use Rattle.vrx_window.specs.Window.{Contents, at, in_window, is_available, newest_with, after_placing, entries_with}
use Rattle.vrx_window.specs.declared.held.Held.{Held}
use Rattle.vrx_frames.specs.Run.{Piece}
use Rattle.vrx_repair.specs.Commit.{held_beside, newest_with_layers, pictures_after, place_beside, window_after}
use Rattle.vrx_refs.specs.References.{first_of, first_tid, was_carried}
use Rattle.vrx_refs.specs.declared.sighting.Sighting.{Sighting}
use Rattle.vrx_repair.specs.Plan.{SaysItsText, entries_of, entry_of, numbers_of}
use Rattle.vrx_repair.specs.Step.{with_repair, with_repairs}
use Rattle.vrx_repair.specs.declared.repair.Repair.{Repair}
use Rattle.vrx_core.specs.machine.Told.{Told, layers_of, newest_picture, place_told, sightings, told_by, told_with}
use Rattle.vrx_core.specs.inside.Places.{with_sighting, with_sightings}
use Rattle.vrx_core.proofs.relation.MapLemmas.{at_put-here, at_put-other, at_where-yes}
use Rattle.vrx_core.proofs.relation.WindowLemmas.{available-contents, contents-after_placing, window-order}
use Rattle.vrx_core.proofs.relation.GrowLemmas.{AreGaps, AreWithin, entries-whole, within-more}

module _ (top : ℕ) where
  -- one repair is placed in a window
  module _ (window : Contents Held) (picture : Option ℕ) (repair : Repair) (newest_is : window.newest ≡ Some top)
      (within : AreWithin top (contents window.packets)) (inside : in_window top repair.number ≡ true) where
    abbrev pub after : Contents Held
    after = after_placing repair.number (held_beside picture repair) window

    number_is : newest_with window.newest repair.number ≡ top
    number_is = ap (λ o. newest_with o repair.number) newest_is ∙ (let order = window-order top repair.number inside in
        let low : repair.number ≤ top = order.1 in omega arith)

    pub one-newest : after.newest ≡ Some top
    one-newest = ap Some number_is

    pub one-contents : contents after.packets ≡ with_repair (entry_of repair) (contents window.packets)
    one-contents = contents-after_placing window repair.number (held_beside picture repair)
        ∙ ap (λ k. entries_with k repair.number (Media repair.text) (contents window.packets)) number_is
        ∙ entries-whole top repair.number (Media repair.text) (contents window.packets) within

    pub one-here : at repair.number after.packets ≡ Some (held_beside picture repair)
    one-here = at_put-here repair.number (held_beside picture repair)
        (where_key nat_cmp (in_window (newest_with window.newest repair.number)) window.packets)

    pub one-other : (m : ℕ) → m ≢ repair.number → in_window top m ≡ true → at m after.packets ≡ at m window.packets
    one-other m apart in_top = at_put-other m repair.number (held_beside picture repair)
        (where_key nat_cmp (in_window (newest_with window.newest repair.number)) window.packets) apart
        ∙ at_where-yes (in_window (newest_with window.newest repair.number)) m window.packets
        (ap (λ k. in_window k m) number_is ∙ in_top)

  -- a number at which nothing stands is another than one at which something does
  apart-from : (packets : List (ℕ × Held)) (n m : ℕ) → is_available n (contents packets) ≡ false →
      is_available m packets ≡ true → m ≢ n
  apart-from packets n m missing there same =
      absurd (cc (sym there ∙ ap (λ k. is_available k packets) same ∙ sym (available-contents n packets) ∙ missing))

  -- what the window is once all were
  pub record AllPlaced (made : List Repair) (window after : Contents Held) : Type 0 where
    pub newest : after.newest ≡ Some top
    pub contents_are : contents after.packets ≡ with_repairs (entries_of made) (contents window.packets)
    pub stays : (m : ℕ) → is_available m window.packets ≡ true → at m after.packets ≡ at m window.packets

  pub all-placed : (made : List Repair) (picture : Option ℕ) (window : Contents Held) → window.newest ≡ Some top →
      AreWithin top (contents window.packets) → AreGaps top (contents window.packets) (entries_of made)
      → AllPlaced made window (window_after made picture window)
  all-placed [] picture window newest_is within gaps =
      record { newest = newest_is; contents_are = refl; stays = λ m there. refl }
  all-placed (repair ∷ more) picture window newest_is within gaps =
      let next : Contents Held = after_placing repair.number (held_beside picture repair) window in
      let same : contents next.packets ≡ with_repair (entry_of repair) (contents window.packets) =
      one-contents window picture repair newest_is within gaps.1 in
      let rest : AllPlaced more next (window_after more (newest_with_layers picture repair.layers) next) =
      all-placed more (newest_with_layers picture repair.layers) next
      (one-newest window picture repair newest_is within gaps.1)
      (subst (AreWithin top) (sym same) (within-more top (contents window.packets) (entry_of repair) within gaps.1))
      (subst (λ ps. AreGaps top ps (entries_of more)) (sym same) gaps.2) in
      record {
        newest = rest.newest;
        contents_are = rest.contents_are ∙ ap (with_repairs (entries_of more)) same;
        stays = λ m there.
            let there' : is_available m (contents window.packets) ≡ true = available-contents m window.packets ∙ there in
            let is : at m next.packets ≡ at m window.packets =
            one-other window picture repair newest_is within gaps.1 m
            (apart-from window.packets repair.number m gaps.0 there) (within m there') in
            rest.stays m (ap is_some is ∙ there) ∙ is;
      }

-- what a place tells the finder
abbrev pub sighting_of : Place → Sighting
sighting_of place = record { picture = place.picture; tid = place.tid }

-- the layers that a repair's text says are those beside it
pub layers-say : (codec : Meaning) (repair : Repair) → SaysItsText codec repair →
    layers_of codec (Media repair.text) ≡ repair.layers
layers-say codec repair says =
    ap (λ o. option_and_then (λ (piece : Piece). piece.part.layers)
    (o >>= λ packet. result_ok (codec.read packet.payload) >>= λ part.
    Some (record { number = 0; packet = packet; part = part }))) says.reads
    ∙ ap (λ r. option_and_then (λ (piece : Piece). piece.part.layers)
    (result_ok r >>= λ part. Some (record { number = 0; packet = says.packet; part = part }))) says.part_reads
    ∙ says.layers_are

-- the picture of a place that was told was carried
carried-more : (ss : List Sighting) (s : Sighting) (o : Option Place) → was_carried ss o ≡ true →
    was_carried (s ∷ ss) o ≡ true
carried-more ss s None h = refl
carried-more ss s (Some place) h = by (first_tid place.picture ss) h where
  by : (o : Option ℕ) → is_some o ≡ true → is_some (first_of place.picture s o) ≡ true
  by None h = absurd (true≢false (sym h))
  by (Some tid) h = refl

carried-here : (ss : List Sighting) (place : Place) → was_carried (sighting_of place ∷ ss) (Some place) ≡ true
carried-here ss place = by (first_tid place.picture ss) where
  by : (o : Option ℕ) → is_some (first_of place.picture (sighting_of place) o) ≡ true
  by None = ap (λ b. is_some (cond b (Some place.tid) None)) (eq-eqb place.picture place.picture refl)
  by (Some tid) = refl

pub place-carried : (told : Told) (n : ℕ) → was_carried (sightings told) (place_told told n) ≡ true
place-carried [] n = refl
place-carried ((m, place) ∷ told) n =
    elim (m == n) as (λ b. was_carried (sighting_of place ∷ sightings told) (cond b (Some place) (place_told told n))
    ≡ true) [
      | true ↦ carried-here (sightings told) place
      | false ↦ carried-more (sightings told) (sighting_of place) (place_told told n) (place-carried told n)
    ]

-- the first number's place is told before those of the rest
pub seen-first : (packets : List (ℕ × Held)) (numbers : List ℕ) (told : List Sighting) → 1 ≤ length numbers →
    with_sightings packets numbers told
    ≡ with_sightings packets (take (length numbers - 1) (drop 1 numbers))
    (with_sighting (place_at packets (slice_index_or numbers 0 0)) told)
seen-first packets [] told some = absurd (omega arith)
seen-first packets (n ∷ ns) told some =
    ap (λ (ms : List ℕ). with_sightings packets ms (with_sighting (place_at packets n) told))
    (sym (take_all (length (n ∷ ns) - 1) ns (omega arith)))

-- the places kept of a window, up to the newest number, are those told; and none is told of a number at which nothing
-- stands
pub record AreTold (top : ℕ) (window : Contents Held) (picture : Option ℕ) (told : Told) : Type 0 where
  pub newest : picture ≡ newest_picture told
  pub places : (m : ℕ) → is_available m window.packets ≡ true → place_at window.packets m ≡ place_told told m
  pub untold : (m : ℕ) → is_available m window.packets ≡ false → in_window top m ≡ true → place_told told m ≡ None

module _ (codec : Meaning) (top : ℕ) where
  -- one repair more tells its place
  module _ (window : Contents Held) (picture : Option ℕ) (repair : Repair) (told : Told)
      (newest_is : window.newest ≡ Some top) (within : AreWithin top (contents window.packets))
      (missing : is_available repair.number (contents window.packets) ≡ false)
      (inside : in_window top repair.number ≡ true) (are : AreTold top window picture told) where
    abbrev next : Contents Held
    next = after_placing repair.number (held_beside picture repair) window

    missing' : is_available repair.number window.packets ≡ false
    missing' = sym (available-contents repair.number window.packets) ∙ missing

    here : place_at next.packets repair.number ≡ option_map (place_beside picture) repair.layers
    here = ap place_of (one-here top window picture repair newest_is within inside)

    there-still : (m : ℕ) → m ≢ repair.number → is_available m next.packets ≡ true → in_window top m ≡ true →
        is_available m window.packets ≡ true
    there-still m apart there in_top =
        sym (ap is_some (one-other top window picture repair newest_is within inside m apart in_top)) ∙ there

    in-top : (m : ℕ) → is_available m next.packets ≡ true → in_window top m ≡ true
    in-top m there = within-more top (contents window.packets) (entry_of repair) within inside m
        (ap (is_available m) (sym (one-contents top window picture repair newest_is within inside))
        ∙ available-contents m next.packets ∙ there)

    gone-still : (m : ℕ) → is_available m next.packets ≡ false → in_window top m ≡ true →
        (m ≢ repair.number) × (is_available m window.packets ≡ false)
    gone-still m away in_top =
        let apart : m ≢ repair.number = λ same. absurd (cc (sym away ∙ ap (λ k. is_available k next.packets) same
        ∙ ap is_some (one-here top window picture repair newest_is within inside))) in
        (apart, sym (ap is_some (one-other top window picture repair newest_is within inside m apart in_top)) ∙ away)

    told-one : (layers : Option Layers) → repair.layers ≡ layers →
        AreTold top next (newest_with_layers picture layers) (told_by repair.number layers told)
    told-one None none = record {
      newest = are.newest;
      places = λ m there. elim (cases_eq m repair.number) [
        | inl same ↦ ap (place_at next.packets) same ∙ here ∙ ap (option_map (place_beside picture)) none
            ∙ sym (ap (place_told told) same ∙ are.untold repair.number missing' inside)
        | inr apart ↦ ap place_of
            (one-other top window picture repair newest_is within inside m apart (in-top m there))
            ∙ are.places m (there-still m apart there (in-top m there))
      ];
      untold = λ m away in_top. are.untold m (gone-still m away in_top).1 in_top;
    }
    told-one (Some layers) some = record {
      newest = ap (λ o. newest_with_layers o (Some layers)) are.newest;
      places = λ m there. elim (cases_eq m repair.number) [
        | inl same ↦ ap (place_at next.packets) same ∙ here ∙ ap (option_map (place_beside picture)) some
            ∙ ap (λ o. Some (place_beside o layers)) are.newest
            ∙ sym (ap (λ b. cond b (Some place) (place_told told m)) (eq-eqb repair.number m (sym same)))
        | inr apart ↦ ap place_of
            (one-other top window picture repair newest_is within inside m apart (in-top m there))
            ∙ are.places m (there-still m apart there (in-top m there))
            ∙ sym (ap (λ b. cond b (Some place) (place_told told m)) (ne_eqb repair.number m (λ same. apart (sym same))))
      ];
      untold = λ m away in_top. let gone = gone-still m away in_top in
          ap (λ b. cond b (Some place) (place_told told m)) (ne_eqb repair.number m (λ same. gone.0 (sym same)))
          ∙ are.untold m gone.1 in_top;
    } where
      place : Place
      place = place_beside (newest_picture told) layers

    -- and tells it the finder, too
    seen-one : (layers : Option Layers) → repair.layers ≡ layers →
        with_sighting (option_map (place_beside picture) layers) (sightings told)
        ≡ sightings (told_by repair.number layers told)
    seen-one None none = refl
    seen-one (Some layers) some =
        ap (λ o. sighting_of (place_beside o layers) ∷ sightings told) are.newest

  -- all repairs tell theirs
  pub all-told : (made : List Repair) (window : Contents Held) (picture : Option ℕ) (told : Told) →
      window.newest ≡ Some top → AreWithin top (contents window.packets) →
      AreGaps top (contents window.packets) (entries_of made) → AllByRecursion (SaysItsText codec) made →
      AreTold top window picture told
      → AreTold top (window_after made picture window) (pictures_after made picture)
      (told_with codec (entries_of made) told)
  all-told [] window picture told newest_is within gaps says are = are
  all-told (repair ∷ more) window picture told newest_is within gaps says are =
      let next : Contents Held = after_placing repair.number (held_beside picture repair) window in
      let same : contents next.packets ≡ with_repair (entry_of repair) (contents window.packets) =
      one-contents top window picture repair newest_is within gaps.1 in
      all-told more next (newest_with_layers picture repair.layers)
      (told_by repair.number (layers_of codec (Media repair.text)) told)
      (one-newest top window picture repair newest_is within gaps.1)
      (subst (AreWithin top) (sym same) (within-more top (contents window.packets) (entry_of repair) within gaps.1))
      (subst (λ ps. AreGaps top ps (entries_of more)) (sym same) gaps.2) says.1
      (subst (λ layers. AreTold top next (newest_with_layers picture repair.layers) (told_by repair.number layers told))
      (sym (layers-say codec repair says.0))
      (told-one window picture repair told newest_is within gaps.0 gaps.1 are repair.layers refl))

  -- and the finder, by the window that is left
  pub all-seen : (made : List Repair) (window : Contents Held) (picture : Option ℕ) (told : Told) →
      window.newest ≡ Some top → AreWithin top (contents window.packets) →
      AreGaps top (contents window.packets) (entries_of made) → AllByRecursion (SaysItsText codec) made →
      AreTold top window picture told
      → with_sightings (window_after made picture window).packets (numbers_of made) (sightings told)
      ≡ sightings (told_with codec (entries_of made) told)
  all-seen [] window picture told newest_is within gaps says are = refl
  all-seen (repair ∷ more) window picture told newest_is within gaps says are =
      ap (λ p. with_sightings final (numbers_of more) (with_sighting p (sightings told))) place_is
      ∙ ap (with_sightings final (numbers_of more))
      (seen-one window picture repair told newest_is within gaps.0 gaps.1 are repair.layers refl
      ∙ ap (λ layers. sightings (told_by repair.number layers told)) (sym (layers-say codec repair says.0)))
      ∙ all-seen more next (newest_with_layers picture repair.layers)
      (told_by repair.number (layers_of codec (Media repair.text)) told) next_newest next_within next_gaps says.1
      (subst (λ layers. AreTold top next (newest_with_layers picture repair.layers) (told_by repair.number layers told))
      (sym (layers-say codec repair says.0))
      (told-one window picture repair told newest_is within gaps.0 gaps.1 are repair.layers refl)) where
        next : Contents Held
        next = after_placing repair.number (held_beside picture repair) window

        final : List (ℕ × Held)
        final = (window_after more (newest_with_layers picture repair.layers) next).packets

        same : contents next.packets ≡ with_repair (entry_of repair) (contents window.packets)
        same = one-contents top window picture repair newest_is within gaps.1

        next_newest : next.newest ≡ Some top
        next_newest = one-newest top window picture repair newest_is within gaps.1

        next_within : AreWithin top (contents next.packets)
        next_within = subst (AreWithin top) (sym same)
            (within-more top (contents window.packets) (entry_of repair) within gaps.1)

        next_gaps : AreGaps top (contents next.packets) (entries_of more)
        next_gaps = subst (λ ps. AreGaps top ps (entries_of more)) (sym same) gaps.2

        placed : at repair.number next.packets ≡ Some (held_beside picture repair)
        placed = one-here top window picture repair newest_is within gaps.1

        place_is : place_at final repair.number ≡ option_map (place_beside picture) repair.layers
        place_is = ap place_of ((all-placed top more (newest_with_layers picture repair.layers) next next_newest
            next_within next_gaps).stays repair.number (ap is_some placed) ∙ placed)
