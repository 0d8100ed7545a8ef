-- What the calls of the parts ask for, in an engine whose parts are as they always are.
use Rattle.std.proofs.Common.{◌≡◌, ℕ, ◌+◌, ◌<◌, ◌≤◌, ◌||◌, ◌++◌, Bool, true, false, List, [], ◌∷◌, map, Contains, Option, Some, None, is_some, IfSome, refl, sym, ◌∙◌, ap, subst, arith, inl, inr}
use Rattle.std.specs.List.{list_any}
use Rattle.std.specs.List.Sorted.{IsStrictlySortedBy}
use Rattle.std.specs.Option.{option_map}
use Rattle.std.specs.Ordering.{nat_cmp}
use Rattle.std.specs.FinMap.Entries.{is_sorted}
use Rattle.std.proofs.lemmas.Bool.{false≢true, lt-ltb}
use Rattle.std.proofs.lemmas.List.Elements.{Contains-append_cases, Contains-append_left, Contains-append_right}
use Rattle.vrx_num.specs.declared.limits.TheConstants.{WINDOW}
use Rattle.vrx_codec.specs.Joining.{FitsLayers}
use Rattle.vrx_codec.specs.Meaning.{Meaning}
use Rattle.vrx_codec.specs.declared.part.Layers.{Layers}
use Rattle.vrx_codec.specs.declared.run.Place.{Place}
use Rattle.vrx_codec.specs.declared.run.Run.{Run as RunSummary}
use Rattle.vrx_window.specs.Content.{Content, contents}
use Rattle.vrx_window.specs.Sound.{AreSound, on_wire, place_at, place_of}
use Rattle.vrx_window.specs.Window.{Contents, at, is_available, is_inside}
use Rattle.vrx_window.specs.declared.held.Held.{Held}
use Rattle.vrx_window.specs.declared.held.Held.TheVariants as helds
use Rattle.vrx_frames.specs.Completed.{Completes, IsUpTo, Known, is_among, known_with, packets_under, standing_runs}
use Rattle.vrx_frames.specs.IsRun.{IsRunBy, RunsAre, RunsRise}
use Rattle.vrx_frames.specs.Run.{Packets, Run, is_start, stands as stands_run, summary_of}
use Rattle.vrx_frames.specs.Shape.{shape_of}
use Rattle.vrx_repair.specs.Step.{with_repair, with_repairs}
use Rattle.vrx_refs.specs.References.{has_layer}
use Rattle.vrx_refs.specs.declared.limits.TheConstants.{LAYERS}
use Rattle.vrx_core.specs.relation.StandsFor.{Assembly, shapes_of}
use Rattle.vrx_core.specs.inside.Fields.{CanAddAll, CanComplete, CanCompleteAll}
use Rattle.vrx_core.specs.inside.Step.{CompletesWith, IsKept, frames_in, lowest_of, packets_of, with_runs}
use Rattle.vrx_core.proofs.relation.ListLemmas.{Contains-empty, all-of, map-from, rises-from, rises-map}
use Rattle.vrx_core.proofs.relation.MapLemmas.{at_map, at_put-here, at_where-from, some-of, sorted_put}
use Rattle.vrx_core.proofs.relation.RunMoveLemmas.{run-available, standing-by, standing-from}
use Rattle.vrx_core.proofs.relation.WindowLemmas.{available-contents, sorted-contents, told-available, window-order}
use Rattle.vrx_core.proofs.relation.AddLemmas.{MayStand, answers-apart, can-add, completed-list, first_of, first_told}
use Rattle.vrx_core.proofs.relation.TakenLemmas.{known-rises, standing_runs-whole}
use Rattle.vrx_core.proofs.relation.GrowLemmas.{AreGaps, AreWithin, KnowsAll, known-among, next-knows, numbers_made, rises-all, stays-all, within-more}

-- a number of a window can be told, if all that was told is as it was and it wasn't told
pub can-one : (codec : Meaning) (window : Contents Held) (passed : Option ℕ) (packets : Packets) (known : Known) (n : ℕ)
    → known.arrivals ≡ shapes_of codec packets → IsUpTo known.newest window.newest → IsUpTo known.passed passed
    → AreSound codec window.packets → is_available n window.packets ≡ true → is_available n packets ≡ false
    → ((m : ℕ) → is_available m packets ≡ true → is_inside window.newest m ≡ true →
    at m (contents window.packets) ≡ at m packets)
    → CanComplete codec window passed known n
can-one codec window passed packets known n told newest upto sound here missing same = record {
  sound = sound;
  held = here;
  fresh = told-available codec known.arrivals packets n told ∙ missing;
  newest = newest;
  passed = upto;
  same = λ m shape is inside.
      ap (option_map (shape_of codec)) (same m (sym (told-available codec known.arrivals packets m told)
      ∙ ap is_some is) inside)
      ∙ sym (ap (at m) told ∙ at_map (shape_of codec) m packets) ∙ is;
}

-- all repairs can be told, one after the other
pub can-repairs : (codec : Meaning) (top : ℕ) (passed : Option ℕ) (window : Contents Held) → window.newest ≡ Some top →
    AreSound codec window.packets → (packets : Packets) (made : List (ℕ × Content)) (known : Known)
    → contents window.packets ≡ with_repairs made packets → is_sorted nat_cmp packets ≡ true
    → AreWithin top packets → AreGaps top packets made → KnowsAll codec (Some top) passed packets [] known
    → CanCompleteAll codec window passed (numbers_made made) known
can-repairs codec top passed window newest_is sound packets [] known final_is sorted within gaps knows = tt
can-repairs codec top passed window newest_is sound packets (repair ∷ more) known final_is sorted within gaps knows = (
  can-one codec window passed packets known repair.0 knows.arrivals
      (subst (λ (o : Option ℕ). IsUpTo known.newest o) (sym newest_is)
      (subst (λ (o : Option ℕ). IsUpTo o (Some top)) (sym knows.newest_is) (omega arith)))
      (subst (λ (o : Option ℕ). IsUpTo o passed) (sym knows.passed_is) (itself passed)) sound here gaps.0
      (λ m there inside. ap (at m) final_is ∙ stays-all top packets (repair ∷ more) gaps m there),
  subst (λ (x : Known). CanCompleteAll codec window passed (numbers_made more) x) (sym next_is)
      (can-repairs codec top passed window newest_is sound packets' more next final_is
      (sorted_put repair.0 repair.1 packets sorted) (within-more top packets repair within gaps.1) gaps.2 knows'),
)
  where
    packets' : Packets
    packets' = with_repair repair packets

    next : Known
    next = known_with codec (Some top) repair.0 passed packets' known

    knows' : KnowsAll codec (Some top) passed packets' [] next
    knows' = next-knows codec top passed [] packets repair within gaps.0 known knows.arrivals

    here' : is_available repair.0 packets' ≡ true
    here' = ap is_some (at_put-here repair.0 repair.1 packets)

    here : is_available repair.0 window.packets ≡ true
    here = sym (available-contents repair.0 window.packets) ∙ ap (is_available repair.0) final_is
        ∙ ap is_some (stays-all top packets' more gaps.2 repair.0 here') ∙ here'

    next_is : known_with codec window.newest repair.0 passed (contents window.packets) known ≡ next
    next_is = ap (λ o. known_with codec o repair.0 passed (contents window.packets) known) newest_is
        ∙ ap (λ ps. known_with codec (Some top) repair.0 passed ps known) final_is
        ∙ known-among codec top passed [] (Some top) repair.0 packets' (with_repairs more packets') known
        (sorted_put repair.0 repair.1 packets sorted)
        (rises-all packets' more (sorted_put repair.0 repair.1 packets sorted)) here' knows'.arrivals
        (stays-all top packets' more gaps.2)

    itself : (o : Option ℕ) → IsUpTo o o
    itself None = tt
    itself (Some m) = omega arith

-- what a run that stands tells of: a stretch of the window's packets, all media, that joins to so many octets
pub record IsTold (codec : Meaning) (parts : Assembly) (told : RunSummary) : Type 0 where
  pub run : Run
  pub told_is : summary_of run ≡ told
  pub is_run : IsRunBy codec (place_at parts.window.packets) (is_start parts.front (is_among parts.known.began)) (packets_of parts) run

-- a run inside the window begins at its lowest number or beyond it
inside-low : (newest : Option ℕ) (n : ℕ) → is_inside newest n ≡ true →
    (lowest_of newest ≤ n) × (n < lowest_of newest + WINDOW)
inside-low None n within = absurd (false≢true within)
inside-low (Some newest) n within =
    let order = window-order newest n within in
    let low : newest < n + WINDOW = order.0 in
    let high : n ≤ newest = order.1 in (omega arith, omega arith)

-- the place of a sound packet has a TID of two bits
place-fits : (codec : Meaning) (packets : List (ℕ × Held)) → AreSound codec packets → (n : ℕ) →
    has_layer (place_at packets n) ≡ true
place-fits codec packets sound n = by (at n packets) refl where
  fits : (layers : Option Place) (said : Option Layers) → said ≡ option_map on_wire layers → IfSome said FitsLayers →
      has_layer layers ≡ true
  fits None said is fit = refl
  fits (Some place) said is fit =
      let low : place.tid < 4 = (subst (λ (o : Option Layers). IfSome o FitsLayers) is fit).1 in
      lt-ltb place.tid LAYERS low

  by : (o : Option Held) → at n packets ≡ o → has_layer (place_of o) ≡ true
  by None is = refl
  by (Some (helds.Media text marker ts start key layers)) is =
      let says = sound n (helds.Media text marker ts start key layers) is in
      fits layers says.part.layers says.layers_are says.layers_fit
  by (Some (helds.Empty marker)) is = refl
  by (Some (helds.Fec payload)) is = refl

module _ (are : RunsAre) where
  -- each run that stands is told of such a stretch
  pub frame-is : (codec : Meaning) (parts : Assembly) (told : RunSummary) → IsKept codec parts →
      Contains parts.frames told → IsTold codec parts told
  frame-is codec parts told kept there =
      let r : (run : Run) × Contains
      (standing-by codec (place_at parts.window.packets) parts.front (is_start parts.front (is_among parts.known.began))
      (packets_of parts)) run × (summary_of run ≡ told) =
      map-from summary_of (standing-by codec (place_at parts.window.packets) parts.front (is_start parts.front (is_among parts.known.began))
      (packets_of parts)) told
      (subst (λ frames. Contains frames told)
      (kept.frames ∙ ap (map summary_of)
      (standing_runs-whole codec (place_at parts.window.packets) parts.front parts.known (packets_of parts) kept.arrivals)) there) in
      record {
        run = r.0;
        told_is = r.2;
        is_run =
            (standing-from are codec (place_at parts.window.packets) parts.front (is_start parts.front (is_among parts.known.began))
            (packets_of parts) r.0 r.1).0;
      }

  -- a run that stands begins in the window, and its TID is one of the four
  may-stand : (codec : Meaning) (window : Contents Held) (front : Option ℕ) (k : Known) →
      AreSound codec window.packets
      → ((m : ℕ) → is_available m window.packets ≡ true → is_inside window.newest m ≡ true)
      → (run : Run) → Contains (standing_runs codec (place_at window.packets) front k (contents window.packets)) run
      → MayStand (lowest_of window.newest) (summary_of run)
  may-stand codec window front k sound inside run there = record {
    from = (inside-low window.newest run.first within).0;
    below = (inside-low window.newest run.first within).1;
    layer = ap has_layer (s.0).layers ∙ place-fits codec window.packets sound run.first;
  } where
    s : IsRunBy codec (place_at window.packets) (is_start front (is_among k.began))
        (packets_under k.arrivals (contents window.packets)) run × (stands_run front run ≡ true)
    s = standing-from are codec (place_at window.packets) front (is_start front (is_among k.began))
        (packets_under k.arrivals (contents window.packets)) run there

    first_there : is_available run.first (packets_under k.arrivals (contents window.packets)) ≡ true
    first_there = run-available codec (place_at window.packets) (is_start front (is_among k.began))
        (packets_under k.arrivals (contents window.packets)) run run.first s.0 (omega arith) (s.0).not_empty

    within : is_inside window.newest run.first ≡ true
    within =
        let x = some-of (at run.first (packets_under k.arrivals (contents window.packets))) first_there in
        inside run.first (sym (available-contents run.first window.packets)
        ∙ ap is_some (at_where-from (λ m. is_available m k.arrivals) run.first (contents window.packets) x.0 x.1).1)

  -- what one number more completes can be added to the runs that stand, one after the other
  pub answers-can : RunsRise → (codec : Meaning) (window : Contents Held) (front : Option ℕ) (before after : Known)
      (frames answers : List RunSummary) → AreSound codec window.packets → is_sorted nat_cmp window.packets ≡ true →
      ((m : ℕ) → is_available m window.packets ≡ true → is_inside window.newest m ≡ true)
      → frames ≡ frames_in codec window front before
      → Completes
      (standing_runs codec (place_at window.packets) front before (contents window.packets))
      (standing_runs codec (place_at window.packets) front after (contents window.packets)) answers
      → IsStrictlySortedBy (λ (a b : RunSummary). nat_cmp a.first b.first) answers
      → CanAddAll answers frames
  answers-can rise codec window front before after frames answers sound sorted inside stood completes rises =
      subst (λ fs. CanAddAll answers fs) (sym stood)
      (can-add (lowest_of window.newest) answers
      (map summary_of (standing_runs codec (place_at window.packets) front before (contents window.packets)))
      (rises-map first_of first_told summary_of (λ r. refl)
      (standing_runs codec (place_at window.packets) front before (contents window.packets))
      (known-rises rise codec (place_at window.packets) front before (contents window.packets)
      (sorted-contents window.packets sorted)))
      (rises-from first_told answers rises)
      (answers-apart (standing_runs codec (place_at window.packets) front before (contents window.packets))
      (standing_runs codec (place_at window.packets) front after (contents window.packets)) answers
      (known-rises rise codec (place_at window.packets) front after (contents window.packets)
      (sorted-contents window.packets sorted)) completes)
      (all-of (λ r. (lowest_of window.newest ≤ r.first) × (r.first < lowest_of window.newest + WINDOW))
      (map summary_of (standing_runs codec (place_at window.packets) front before (contents window.packets)))
      (λ t there.
      let r = map-from summary_of
      (standing_runs codec (place_at window.packets) front before (contents window.packets)) t there in
      let m : MayStand (lowest_of window.newest) (summary_of r.0) =
      may-stand codec window front before sound inside r.0 r.1 in
      subst (λ (x : RunSummary). (lowest_of window.newest ≤ x.first) × (x.first < lowest_of window.newest + WINDOW))
      r.2 (m.from, m.below)))
      (λ a there. let r = completes.only a there in
      subst (λ (x : RunSummary). MayStand (lowest_of window.newest) x) r.2
      (may-stand codec window front after sound inside r.0 r.1)))

  -- and then those stand that are known
  pub answers-stand : RunsRise → (codec : Meaning) (window : Contents Held) (front : Option ℕ) (before after : Known)
      (frames answers : List RunSummary) → is_sorted nat_cmp window.packets ≡ true
      → frames ≡ frames_in codec window front before
      → Completes
      (standing_runs codec (place_at window.packets) front before (contents window.packets))
      (standing_runs codec (place_at window.packets) front after (contents window.packets)) answers
      → IsStrictlySortedBy (λ (a b : RunSummary). nat_cmp a.first b.first) answers
      → with_runs answers frames ≡ frames_in codec window front after
  answers-stand rise codec window front before after frames answers sorted stood completes rises =
      ap (with_runs answers) stood
      ∙ completed-list (standing_runs codec (place_at window.packets) front before (contents window.packets))
      (standing_runs codec (place_at window.packets) front after (contents window.packets)) answers
      (known-rises rise codec (place_at window.packets) front before (contents window.packets)
      (sorted-contents window.packets sorted))
      (known-rises rise codec (place_at window.packets) front after (contents window.packets)
      (sorted-contents window.packets sorted)) completes (rises-from first_told answers rises)

-- what two steps complete, one after the other
pub completes-both : (before middle after : List Run) (answers more : List RunSummary) →
    Completes before middle answers → Completes middle after more → Completes before after (answers ++ more)
completes-both before middle after answers more one two = record {
  either = λ run c. elim (two.either run c) [
    | inl was ↦ elim (one.either run was) [
      | inl first ↦ inl first
      | inr new ↦ inr (Contains-append_left answers more (summary_of run) new)
    ]
    | inr new ↦ inr (Contains-append_right answers more (summary_of run) new)
  ];
  not_both = λ run c was new. elim (Contains-append_cases answers more (summary_of run) new) [
    | inl first ↦ one.not_both run (one.stay run was) was first
    | inr later ↦ two.not_both run c (one.stay run was) later
  ];
  only = λ told c. elim (Contains-append_cases answers more told c) [
    | inl first ↦ let r : (run : Run) × Contains middle run × (summary_of run ≡ told) = one.only told first in
        (r.0, two.stay r.0 r.1, r.2)
    | inr later ↦ two.only told later
  ];
  stay = λ run c. two.stay run (one.stay run c);
}

-- and whether a keyframe does
pub completes-with : (codec : Meaning) (window : Contents Held) (front : Option ℕ) (before middle after : Known)
    (key more : Bool) → CompletesWith codec window front before middle key →
    CompletesWith codec window front middle after more → CompletesWith codec window front before after (key || more)
completes-with codec window front before middle after key more one two = record {
  answers = one.answers ++ two.answers;
  completes = completes-both
      (standing_runs codec (place_at window.packets) front before (contents window.packets))
      (standing_runs codec (place_at window.packets) front middle (contents window.packets))
      (standing_runs codec (place_at window.packets) front after (contents window.packets))
      one.answers two.answers one.completes two.completes;
  key_is = ap (λ b. b || more) one.key_is ∙ ap (λ b. list_any (λ (run : RunSummary). run.key) one.answers || b) two.key_is
      ∙ sym (any-append one.answers two.answers);
} where
  any-append : (xs ys : List RunSummary) → list_any (λ (run : RunSummary). run.key) (xs ++ ys)
      ≡ (list_any (λ (run : RunSummary). run.key) xs || list_any (λ (run : RunSummary). run.key) ys)
  any-append [] ys = refl
  any-append (x ∷ xs) ys = ap (λ b. x.key || b) (any-append xs ys)
      ∙ assoc x.key (list_any (λ (run : RunSummary). run.key) xs) (list_any (λ (run : RunSummary). run.key) ys) where
        assoc : (a b c : Bool) → (a || (b || c)) ≡ ((a || b) || c)
        assoc true b c = refl
        assoc false b c = refl

-- before anything is told nothing completes
pub completes-none : (codec : Meaning) (window : Contents Held) (front : Option ℕ) (known : Known) →
    CompletesWith codec window front known known false
completes-none codec window front known = record {
  answers = [];
  completes = record {
    either = λ run c. inl c;
    not_both = λ run c was new. Contains-empty (summary_of run) new;
    only = λ told c. absurd (Contains-empty told c);
    stay = λ run c. c;
  };
  key_is = refl;
}
