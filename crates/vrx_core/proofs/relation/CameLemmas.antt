-- A packet came into a window, and its repairs were made: what the window has then.
use Rattle.std.proofs.Common.{◌≡◌, ◌≢◌, ℕ, ◌+◌, ◌<◌, ◌≤◌, ◌⊎◌, Bool, true, false, cond, List, [], ◌∷◌, Option, Some, None, is_some, IfSome, refl, sym, ◌∙◌, ap, subst, arith, inl, inr, nat_cmp}
use Rattle.std.specs.Prelude.{◌==◌, ◌||◌}
use Rattle.std.specs.Option.{option_and_then, option_map}
use Rattle.std.specs.Result.{result_ok}
use Rattle.std.specs.FinMap.Entries.{is_sorted, where_key}
use Rattle.std.proofs.lemmas.Bool.{cases_Bool, cases_eq, eq-eqb, false_from_ne_true, leb-true, ne_eqb, true≢false}
use Rattle.std.proofs.lemmas.List.Elements.{recursion_from_All}
use Rattle.vrx_num.specs.Extended.{greater}
use Rattle.vrx_num.specs.OptionChain.{◌>>=◌}
use Rattle.vrx_num.specs.declared.limits.TheConstants.{WINDOW}
use Rattle.vrx_codec.specs.Meaning.{Meaning}
use Rattle.vrx_codec.specs.declared.run.Place.{Place}
use Rattle.vrx_window.specs.Content.{Content, content_of, contents}
use Rattle.vrx_window.specs.Sound.{IsSound, on_wire, place_at, place_of}
use Rattle.vrx_window.specs.Window.{Contents, at, in_window, is_available, is_inside, is_too_old, newest_with, after_placing, entries_with, would_of}
use Rattle.vrx_window.specs.declared.held.Held.{Held}
use Rattle.vrx_window.specs.declared.held.Held.TheVariants as helds
use Rattle.vrx_window.specs.declared.placing.Placing.TheVariants.{Fresh}
use Rattle.vrx_frames.specs.Completed.{IsUpTo, Known, is_among, packets_under}
use Rattle.vrx_frames.specs.IsRun.{RunsAre, RunsRise}
use Rattle.vrx_frames.specs.Run.{Packets, Piece}
use Rattle.vrx_repair.specs.Commit.{pictures_after, place_beside, window_after}
use Rattle.vrx_repair.specs.Plan.{IsPlan, SaysItsText, entries_of, numbers_of as repair_numbers, placed, repairs_in}
use Rattle.vrx_repair.specs.Source.{Source}
use Rattle.vrx_repair.specs.Step.{with_repair, with_repairs}
use Rattle.vrx_repair.specs.declared.repair.Repair.{Repair}
use Rattle.vrx_core.specs.machine.Told.{Told, layers_of, newest_picture, place_told, sightings, told_by, told_with}
use Rattle.vrx_buffer.specs.Frames.{runs_from}
use Rattle.vrx_core.specs.relation.StandsFor.{shapes_of}
use Rattle.vrx_core.specs.inside.Places.{IsPlacedBeside, newest_with_place, with_sighting, with_sightings}
use Rattle.vrx_core.specs.inside.Step.{frames_in, lowest_of}
use Rattle.vrx_core.proofs.machine.RepairLemmas.{FillAll}
use Rattle.vrx_core.proofs.relation.MapLemmas.{at_put-here, at_put-other, at_where-from, at_where-yes, none-of, some-of, sorted_put, sorted_where}
use Rattle.vrx_core.proofs.relation.WindowLemmas.{after_placing-from, after_placing-stays, available-contents, contents-after_placing, fresh-inside, fresh-parts, sorted-after_placing, sorted-contents, told-available, window-order}
use Rattle.vrx_core.proofs.relation.GrowLemmas.{AreGaps, AreWithin, Grows, numbers_made, rises-all, stays-all, under-same, within-all}
use Rattle.vrx_core.proofs.relation.TakenLemmas.{frames-left}
use Rattle.vrx_core.proofs.relation.PlacesLemmas.{AllPlaced, AreTold, all-placed, all-seen, all-told, sighting_of}
use Rattle.vrx_core.proofs.relation.GoneLemmas.{repairs-filled}

-- a sound packet says the layers of its place
pub layers-here : (codec : Meaning) (held : Held) → IsSound codec held →
    layers_of codec (content_of held) ≡ option_map on_wire (place_of (Some held))
layers-here codec (helds.Media text marker ts start key layers) says =
    ap (λ o. option_and_then (λ (piece : Piece). piece.part.layers)
    (o >>= λ packet. result_ok (codec.read packet.payload) >>= λ part.
    Some (record { number = 0; packet = packet; part = part }))) says.reads
    ∙ ap (λ r. option_and_then (λ (piece : Piece). piece.part.layers)
    (result_ok r >>= λ part. Some (record { number = 0; packet = says.packet; part = part }))) says.part_reads
    ∙ says.layers_are
layers-here codec (helds.Empty marker) says = refl
layers-here codec (helds.Fec payload) says = refl

-- what fills gaps is put into gaps
pub gaps-of : (source : Source) (top : ℕ) (dead : List ℕ) (packets : Packets) (made : List (ℕ × Content)) →
    FillAll source (Some top) dead packets made → AreGaps top packets made
gaps-of source top dead packets [] fill = tt
gaps-of source top dead packets (repair ∷ more) fill =
    (ap is_some (fill.0).missing, (fill.0).inside, gaps-of source top dead (with_repair repair packets) more fill.1)

-- a packet came under a number, and these repairs
pub record Came (window after : Contents Held) (n : ℕ) (held : Held) (made : List Repair) (top : ℕ) : Type 0 where
  pub newest : after.newest ≡ Some top
  pub missing : is_available n window.packets ≡ false
  pub within : AreWithin top (entries_with top n (content_of held) (contents window.packets))
  pub gaps : AreGaps top (entries_with top n (content_of held) (contents window.packets)) (entries_of made)
  pub final : contents after.packets
      ≡ with_repairs (entries_of made) (entries_with top n (content_of held) (contents window.packets))
  pub grows : Grows (contents window.packets) (contents after.packets) window.newest top
  -- what was held and is left in the window is held still
  pub stays : (m : ℕ) → is_available m window.packets ≡ true → in_window top m ≡ true →
      at m after.packets ≡ at m window.packets

module _ (source : Source) (window : Contents Held) (n : ℕ) (held : Held) (made : List Repair) (picture : Option ℕ)
    (sorted : is_sorted nat_cmp window.packets ≡ true)
    (inside : (m : ℕ) → is_available m window.packets ≡ true → is_inside window.newest m ≡ true)
    (fresh : would_of window n ≡ Fresh) (plan : IsPlan source n held window made) where
  abbrev top : ℕ
  top = newest_with window.newest n

  abbrev first : Contents Held
  first = after_placing n held window

  abbrev entries : Packets
  entries = entries_with top n (content_of held) (contents window.packets)

  missing : is_available n window.packets ≡ false
  missing = (fresh-parts window n fresh).1

  young : in_window top n ≡ true
  young = fresh-inside window.newest n (fresh-parts window n fresh).0

  first_is : contents first.packets ≡ entries
  first_is = contents-after_placing window n held

  within-top : AreWithin top entries
  within-top m there = elim (cases_eq m n) [
    | inl same ↦ ap (in_window top) same ∙ young
    | inr apart ↦
        let x = some-of (at m entries) there in
        (at_where-from (in_window top) m (contents window.packets) x.0
        (sym (at_put-other m n (content_of held) (where_key nat_cmp (in_window top) (contents window.packets)) apart)
        ∙ x.1)).0
  ]

  gaps-top : AreGaps top entries (entries_of made)
  gaps-top = subst (λ rs. AreGaps top entries rs) (sym plan.repairs)
      (subst (λ ps. AreGaps top ps (repairs_in source (placed n held window))) first_is
      (gaps-of source top (placed n held window).dead (placed n held window).packets
      (repairs_in source (placed n held window)) (repairs-filled source (placed n held window))))

  all : AllPlaced top made first (window_after made picture first)
  all = all-placed top made picture first refl (subst (AreWithin top) (sym first_is) within-top)
      (subst (λ ps. AreGaps top ps (entries_of made)) (sym first_is) gaps-top)

  other : (m : ℕ) → is_available m window.packets ≡ true → m ≢ n
  other m there same = true≢false (sym there ∙ ap (λ k. is_available k window.packets) same ∙ missing)

  first-stays : (m : ℕ) → is_available m window.packets ≡ true → in_window top m ≡ true →
      at m first.packets ≡ at m window.packets
  first-stays m there in_top =
      at_put-other m n held (where_key nat_cmp (in_window top) window.packets) (other m there)
      ∙ at_where-yes (in_window top) m window.packets in_top

  final-is : contents (window_after made picture first).packets ≡ with_repairs (entries_of made) entries
  final-is = all.contents_are ∙ ap (with_repairs (entries_of made)) first_is

  upto-top : (o : Option ℕ) → IsUpTo o (Some (newest_with o n))
  upto-top None = tt
  upto-top (Some m) = omega arith

  pub came : Came window (window_after made picture first) n held made top
  came = record {
    newest = all.newest;
    missing = missing;
    within = within-top;
    gaps = gaps-top;
    final = final-is;
    grows = record {
      upto = upto-top window.newest;
      inside = λ m there. within-all top entries (entries_of made) within-top gaps-top m
          (ap (is_available m) (sym final-is) ∙ there);
      rises = ap (is_sorted nat_cmp) final-is
          ∙ rises-all entries (entries_of made)
          (sorted_put n (content_of held) (where_key nat_cmp (in_window top) (contents window.packets))
          (sorted_where (in_window top) (contents window.packets) (sorted-contents window.packets sorted)));
      stays = λ m there in_top.
          let there' : at m entries ≡ at m (contents window.packets) =
          at_put-other m n (content_of held) (where_key nat_cmp (in_window top) (contents window.packets))
          (other m (sym (available-contents m window.packets) ∙ there))
          ∙ at_where-yes (in_window top) m (contents window.packets) in_top in
          ap (at m) final-is ∙ stays-all top entries (entries_of made) gaps-top m (ap is_some there' ∙ there) ∙ there';
    };
    stays = λ m there in_top. let same = first-stays m there in_top in
        all.stays m (ap is_some same ∙ there) ∙ same;
  }

  -- the places told: that of the packet that came, if it has one, and those of the repairs
  module _ (told : Told) (placed : IsPlacedBeside picture held) (says : IsSound source.codec held)
      (newest_is : picture ≡ newest_picture told)
      (places : (m : ℕ) → is_available m window.packets ≡ true → place_at window.packets m ≡ place_told told m)
      (known : (m : ℕ) → is_some (place_told told m) ≡ true →
      (is_available m window.packets ≡ true) ⊎ (is_too_old window.newest m ≡ true)) where
    none-told : (m : ℕ) → is_available m window.packets ≡ false → in_window top m ≡ true → place_told told m ≡ None
    none-told m away in_top = by (place_told told m) refl where
      old : (o : Option ℕ) → is_too_old o m ≡ true → in_window (newest_with o n) m ≡ true → ⊥
      old None h w = true≢false (sym h)
      old (Some k) h w =
          let low : m + WINDOW ≤ k = leb-true (m + WINDOW) k h in
          let order = window-order (newest_with (Some k) n) m w in
          let less : newest_with (Some k) n < m + WINDOW = order.0 in absurd (omega arith)

      by : (o : Option Place) → place_told told m ≡ o → o ≡ None
      by None is = refl
      by (Some place) is = elim (known m (ap is_some is)) [
        | inl there ↦ absurd (true≢false (sym there ∙ away))
        | inr too_old ↦ absurd (old window.newest too_old in_top)
      ]

    -- the place of the packet that came
    here : place_at first.packets n ≡ place_of (Some held)
    here = ap place_of (at_put-here n held (where_key nat_cmp (in_window top) window.packets))

    -- what else is there then was there before
    other-there : (m : ℕ) → m ≢ n → is_available m first.packets ≡ true →
        place_at first.packets m ≡ place_told told m
    other-there m apart there =
        let x = some-of (at m first.packets) there in
        let y = at_where-from (in_window top) m window.packets x.0
        (sym (at_put-other m n held (where_key nat_cmp (in_window top) window.packets) apart) ∙ x.1) in
        ap place_of (first-stays m (ap is_some y.1) y.0) ∙ places m (ap is_some y.1)

    -- and what isn't wasn't
    other-away : (m : ℕ) → is_available m first.packets ≡ false → in_window top m ≡ true →
        (m ≢ n) × (place_told told m ≡ None)
    other-away m away in_top = (
      λ same. true≢false (sym (ap is_some (at_put-here n held (where_key nat_cmp (in_window top) window.packets)))
          ∙ sym (ap (λ k. is_available k first.packets) same) ∙ away),
      elim (cases_Bool (is_available m window.packets)) [
        | inl there ↦ absurd (true≢false (sym there ∙ sym (ap is_some (first-stays m there in_top)) ∙ away))
        | inr isn't ↦ none-told m isn't in_top
      ],
    )

    first-told : (o : Option Place) → place_of (Some held) ≡ o →
        AreTold top first (newest_with_place picture o) (told_by n (option_map on_wire o) told)
    first-told None none = record {
      newest = newest_is;
      places = λ m there. elim (cases_eq m n) [
        | inl same ↦ ap (place_at first.packets) same ∙ here ∙ none
            ∙ sym (ap (place_told told) same ∙ none-told n missing young)
        | inr apart ↦ other-there m apart there
      ];
      untold = λ m away in_top. (other-away m away in_top).1;
    }
    first-told (Some place) some = record {
      newest = ap (λ (p : Place). greater picture p.picture) said
          ∙ ap (λ o. greater o (place_beside o (on_wire place)).picture) newest_is;
      places = λ m there. elim (cases_eq m n) [
        | inl same ↦ ap (place_at first.packets) same ∙ here ∙ some ∙ ap Some said
            ∙ ap (λ o. Some (place_beside o (on_wire place))) newest_is
            ∙ sym (ap (λ b. cond b (Some beside) (place_told told m)) (eq-eqb n m (sym same)))
        | inr apart ↦ other-there m apart there
            ∙ sym (ap (λ b. cond b (Some beside) (place_told told m)) (ne_eqb n m (λ same. apart (sym same))))
      ];
      untold = λ m away in_top. let gone = other-away m away in_top in
          ap (λ b. cond b (Some beside) (place_told told m)) (ne_eqb n m (λ same. gone.0 (sym same))) ∙ gone.1;
    } where
      beside : Place
      beside = place_beside (newest_picture told) (on_wire place)

      said : place ≡ place_beside picture (on_wire place)
      said = subst (λ (o : Option Place). IfSome o (λ p. p ≡ place_beside picture (on_wire p))) some placed

    -- what is told once the packet came
    abbrev told_first : Told
    told_first = told_by n (layers_of source.codec (content_of held)) told

    told-here : AreTold top first (newest_with_place picture (place_of (Some held))) told_first
    told-here = subst (λ l. AreTold top first (newest_with_place picture (place_of (Some held))) (told_by n l told))
        (sym (layers-here source.codec held says)) (first-told (place_of (Some held)) refl)

    module _ (picture' : Option ℕ) (picture_is : picture' ≡ newest_with_place picture (place_of (Some held))) where
      pub all-are-told : AreTold top (window_after made picture' first) (pictures_after made picture')
          (told_with source.codec ((n, content_of held) ∷ entries_of made) told)
      all-are-told = all-told source.codec top made first picture' told_first refl
          (subst (AreWithin top) (sym first_is) within-top)
          (subst (λ ps. AreGaps top ps (entries_of made)) (sym first_is) gaps-top)
          (recursion_from_All (SaysItsText source.codec) made plan.sound)
          (subst (λ o. AreTold top first o told_first) (sym picture_is) told-here)

      -- and the finder is told the same
      pub all-are-seen : with_sightings (window_after made picture' first).packets (n ∷ repair_numbers made)
          (sightings told) ≡ sightings (told_with source.codec ((n, content_of held) ∷ entries_of made) told)
      all-are-seen =
          ap (λ p. with_sightings (window_after made picture' first).packets (repair_numbers made)
          (with_sighting p (sightings told))) (ap place_of (stays-here picture') ∙ here)
          ∙ ap (λ ss. with_sightings (window_after made picture' first).packets (repair_numbers made) ss)
          (seen-first (place_of (Some held)) refl
          ∙ ap (λ l. sightings (told_by n l told)) (sym (layers-here source.codec held says)))
          ∙ all-seen source.codec top made first picture' told_first refl
          (subst (AreWithin top) (sym first_is) within-top)
          (subst (λ ps. AreGaps top ps (entries_of made)) (sym first_is) gaps-top)
          (recursion_from_All (SaysItsText source.codec) made plan.sound)
          (subst (λ o. AreTold top first o told_first) (sym picture_is) told-here) where
            stays-here : (p : Option ℕ) → at n (window_after made p first).packets ≡ at n first.packets
            stays-here p = (all-placed top made p first refl (subst (AreWithin top) (sym first_is) within-top)
                (subst (λ ps. AreGaps top ps (entries_of made)) (sym first_is) gaps-top)).stays n
                (ap is_some (at_put-here n held (where_key nat_cmp (in_window top) window.packets)))

            seen-first : (o : Option Place) → place_of (Some held) ≡ o →
                with_sighting o (sightings told) ≡ sightings (told_by n (option_map on_wire o) told)
            seen-first None none = refl
            seen-first (Some place) some = ap (λ (p : Place). sighting_of p ∷ sightings told)
                (subst (λ (o : Option Place). IfSome o (λ p. p ≡ place_beside picture (on_wire p))) some placed
                ∙ ap (λ o. place_beside o (on_wire place)) newest_is)

-- the numbers of repairs, as they are made and as entries
pub numbers-made : (made : List Repair) → repair_numbers made ≡ numbers_made (entries_of made)
numbers-made [] = refl
numbers-made (repair ∷ more) = ap (λ ns. repair.number ∷ ns) (numbers-made more)

-- what is there once repairs were made was there before, or was repaired
pub from-all : (packets : Packets) (made : List (ℕ × Content)) (m : ℕ) →
    is_available m (with_repairs made packets) ≡ true → is_among (numbers_made made) m ≡ false →
    is_available m packets ≡ true
from-all packets [] m there none = there
from-all packets (repair ∷ more) m there none =
    let parts = or_parts (m == repair.0) (is_among (numbers_made more) m) none in
    sym (ap is_some (at_put-other m repair.0 repair.1 packets (λ same. true≢false (sym (eq-eqb m repair.0 same) ∙ parts.0))))
    ∙ from-all (with_repair repair packets) more m there parts.1 where
      or_parts : (a b : Bool) → (a || b) ≡ false → (a ≡ false) × (b ≡ false)
      or_parts true b h = absurd (true≢false h)
      or_parts false b h = (refl, h)

-- of the frames that stood those are left that begin in the window, and they are those of what was known
pub left-of : RunsAre → RunsRise → (codec : Meaning) (window after : Contents Held) (n : ℕ) (held : Held)
    (made : List Repair) (passed : Option ℕ) (k : Known) → k.arrivals ≡ shapes_of codec (contents window.packets)
    → is_sorted nat_cmp window.packets ≡ true →
    ((m : ℕ) → is_available m window.packets ≡ true → is_inside window.newest m ≡ true)
    → Came window after n held made (newest_with window.newest n) → is_sorted nat_cmp after.packets ≡ true
    → runs_from (lowest_of after.newest) (frames_in codec window passed k) ≡ frames_in codec after passed k
left-of are rise codec window after n held made passed k told sorted inside c sorted' =
    frames-left are rise codec window n held passed k after told sorted inside c.missing sorted' c.newest
    (under-same k.arrivals (contents first.packets) (contents after.packets)
    (sorted-after_placing window n held sorted) (sorted-contents after.packets sorted') same)
    (λ m there. sym (ap place_of (c.stays m (was m there) (c.grows.inside m (is m there))))) where
      first : Contents Held
      first = after_placing n held window

      top : ℕ
      top = newest_with window.newest n

      there-before : (m : ℕ) → is_available m k.arrivals ≡ true → is_available m window.packets ≡ true
      there-before m h = sym (available-contents m window.packets)
          ∙ sym (told-available codec k.arrivals (contents window.packets) m told) ∙ h

      same : (m : ℕ) → is_available m k.arrivals ≡ true → at m (contents first.packets) ≡ at m (contents after.packets)
      same m h =
          let was_there : is_available m (contents window.packets) ≡ true =
          available-contents m window.packets ∙ there-before m h in
          elim (cases_Bool (in_window top m)) [
            | inl in_top ↦ after_placing-stays window n held m c.missing was_there in_top
                ∙ sym (c.grows.stays m was_there in_top)
            | inr out ↦
                none-of (at m (contents first.packets)) (false_from_ne_true (is_available m (contents first.packets))
                (λ t. true≢false (sym (now-top m was_there t) ∙ out)))
                ∙ sym (none-of (at m (contents after.packets))
                (false_from_ne_true (is_available m (contents after.packets))
                (λ t. true≢false (sym (c.grows.inside m t) ∙ out))))
          ] where
            now-top : (m : ℕ) → is_available m (contents window.packets) ≡ true →
                is_available m (contents first.packets) ≡ true → in_window top m ≡ true
            now-top m was_there t =
                let x = some-of (at m (contents first.packets)) t in
                (after_placing-from window n held m x.0 (λ e. true≢false (sym was_there
                ∙ ap (λ q. is_available q (contents window.packets)) e ∙ available-contents n window.packets
                ∙ c.missing)) x.1).0

      under : (m : ℕ) → is_available m (packets_under k.arrivals (contents after.packets)) ≡ true →
          (is_available m k.arrivals ≡ true) × (is_available m (contents after.packets) ≡ true)
      under m there =
          let x = some-of (at m (packets_under k.arrivals (contents after.packets))) there in
          let y = at_where-from (λ q. is_available q k.arrivals) m (contents after.packets) x.0 x.1 in
          (y.0, ap is_some y.1)

      was : (m : ℕ) → is_available m (packets_under k.arrivals (contents after.packets)) ≡ true →
          is_available m window.packets ≡ true
      was m there = there-before m (under m there).0

      is : (m : ℕ) → is_available m (packets_under k.arrivals (contents after.packets)) ≡ true →
          is_available m (contents after.packets) ≡ true
      is m there = (under m there).1
