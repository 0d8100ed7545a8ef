-- Placing repairs one after the other.
use Rattle.std.proofs.Common.{◌≡◌, ℕ, zero, suc, ◌+◌, ◌%◌, ◌^◌, ◌<◌, ◌≤◌, Bool, true, false, cond, ◌||◌, max, List, [], ◌∷◌, length, Option, Some, None, IfSome, All, refl, sym, ◌∙◌, ap, subst, arith, inl, inr, nat_cmp}
use Rattle.std.specs.Prelude.{◌==◌, is_some, nat_le, nat_lt}
use Rattle.std.specs.List.{filter}
use Rattle.std.specs.Option.{option_map, option_map_or, unwrap_or}
use Rattle.std.specs.FinMap.Entries.{below_all, is_sorted, put, where_key}
use Rattle.std.proofs.lemmas.Bool.{and_parts, cases_Bool, cases_eq, eq-eqb, eqb-true, leb-true, lt-leb, ltb-true, or_cases, true≢false}
use Rattle.std.proofs.lemmas.List.{length-map}
use Rattle.vrx_num.specs.Pictures.{GivesPicture, IsNewestPicture, IsPictureNear, extended_picture}
use Rattle.vrx_num.specs.declared.limits.TheConstants.{HALF_PICTURES, WINDOW}
use Rattle.vrx_codec.specs.Joining.{FitsLayers}
use Rattle.vrx_codec.specs.Meaning.{Meaning}
use Rattle.vrx_codec.specs.declared.part.Layers.{Layers}
use Rattle.vrx_window.specs.Content.{Content, Media, content_of, contents_of}
use Rattle.vrx_window.specs.IsWindow.{IsWindow, IsWithin}
use Rattle.vrx_window.specs.Sound.{AreSound, IsSound, on_wire}
use Rattle.vrx_window.specs.Window.{Contents, after_placing, entries_with, in_window, is_available, is_dead, newest_with, would_of}
use Rattle.vrx_window.specs.declared.held.Held.{Held}
use Rattle.vrx_window.specs.declared.placing.Placing.TheVariants.{Dead, Fresh, Repeat, TooOld}
use Rattle.vrx_repair.specs.Commit.{ArePlaceable, HasRoom, held_beside, newest_with_layers, pictures_after, place_beside, window_after}
use Rattle.vrx_repair.specs.Laws.{RepairsAre}
use Rattle.vrx_repair.specs.Plan.{IsPlan, IsRepaired, SaysItsText, entries_of, entry_of, placed, repairs_in}
use Rattle.vrx_repair.specs.Source.{Source}
use Rattle.vrx_repair.specs.Step.{AreRepairs, IsClosed, Packets, first_step, repairs, with_repair, with_repairs}
use Rattle.vrx_repair.specs.declared.repair.Repair.{Repair}
use Rattle.vrx_repair.proofs.ClosureLemmas.{repairs-closed, step-within}
use Rattle.vrx_repair.proofs.MapLemmas.{at_first, at_later, below-available, sorted-map, sorted-put, sorted-where}
use Rattle.vrx_repair.proofs.PlanLemmas.{fresh-young, inside-placed, repairs-in}
use Rattle.vrx_repair.proofs.SeenLemmas.{placed-outside}
use Rattle.vrx_repair.proofs.StepLemmas.{StepSays, first-says}

-- a window of these
abbrev pub whole : ℕ → ℕ → Packets → List ℕ → Contents Content
whole newest first packets dead =
    record { newest = Some newest; first = Some first; packets = packets; dead = dead }

-- all numbers given up are in the window
abbrev AreInside : ℕ → List ℕ → Type 0
AreInside newest dead = (d : ℕ) → is_dead d dead ≡ true → in_window newest d ≡ true

-- a map whose numbers all pass a test
keeps-packets : (p : ℕ → Bool) (ps : Packets) → is_sorted nat_cmp ps ≡ true →
    ((k : ℕ) → is_available k ps ≡ true → p k ≡ true) → where_key nat_cmp p ps ≡ ps
keeps-packets p [] sorted all = refl
keeps-packets p (e ∷ es) sorted all =
    ap (λ b. cond b (e ∷ where_key nat_cmp p es) (where_key nat_cmp p es)) (all e.0 (ap is_some (at_first e es)))
    ∙ ap (λ qs. e ∷ qs) (keeps-packets p es parts.1 (λ k there. all k (among k there))) where
      parts : (below_all nat_cmp e.0 es ≡ true) × (is_sorted nat_cmp es ≡ true)
      parts = and_parts (below_all nat_cmp e.0 es) (is_sorted nat_cmp es) sorted

      among : (k : ℕ) → is_available k es ≡ true → is_available k (e ∷ es) ≡ true
      among k there = let less : e.0 < k = below-available e.0 k es parts.0 there in
          ap is_some (at_later k e es (λ same. omega arith)) ∙ there

-- numbers that all pass a test
keeps-dead : (p : ℕ → Bool) (ds : List ℕ) → ((d : ℕ) → is_dead d ds ≡ true → p d ≡ true) → filter p ds ≡ ds
keeps-dead p [] all = refl
keeps-dead p (d ∷ ds) all =
    ap (λ b. cond b (d ∷ filter p ds) (filter p ds)) (all d (ap (λ b. b || is_dead d ds) (eq-eqb d d refl)))
    ∙ ap (λ ks. d ∷ ks) (keeps-dead p ds (λ k there. all k (later k there))) where
      or_true : (a : Bool) → (a || true) ≡ true
      or_true true = refl
      or_true false = refl

      later : (k : ℕ) → is_dead k ds ≡ true → is_dead k (d ∷ ds) ≡ true
      later k there = ap (λ b. (k == d) || b) there ∙ or_true (k == d)

-- a number of the window is placed as a repair is
placing-inside : (newest first : ℕ) (ps : Packets) (dead : List ℕ) (r : ℕ × Content) → IsWithin (Some newest) ps →
    AreInside newest dead → in_window newest r.0 ≡ true →
    after_placing r.0 r.1 (whole newest first ps dead) ≡ whole newest first (with_repair r ps) dead
placing-inside newest first ps dead r within inside here =
    let upto : r.0 ≤ newest = leb-true r.0 newest (and_parts (nat_lt newest (r.0 + WINDOW)) (nat_le r.0 newest) here).1 in
    let same : max newest r.0 ≡ newest = omega arith in
    ap by_newest same
    ∙ ap (λ (qs : Packets). whole newest first (put nat_cmp r.0 r.1 qs) (filter (in_window newest) dead))
    (keeps-packets (in_window newest) ps within.rise within.inside)
    ∙ ap (λ ds. whole newest first (with_repair r ps) ds) (keeps-dead (in_window newest) dead inside) where
      by_newest : ℕ → Contents Content
      by_newest k = whole k first (put nat_cmp r.0 r.1 (where_key nat_cmp (in_window k) ps)) (filter (in_window k) dead)

module _ (source : Source) (newest first : ℕ) (dead : List ℕ) (inside : AreInside newest dead) where
  -- a number that has a step is fresh
  fresh : (ps : Packets) (r : ℕ × Content) → StepSays source (Some newest) dead ps r →
      would_of (whole newest first ps dead) r.0 ≡ Fresh
  fresh ps r s =
      let low : newest < r.0 + WINDOW = ltb-true newest (r.0 + WINDOW) (and_parts _ _ s.inside).0 in
      ap (λ b. cond b TooOld (cond (is_dead r.0 dead) Dead (cond (is_available r.0 ps) Repeat Fresh)))
      (lt-leb (r.0 + WINDOW) newest low)
      ∙ ap (λ b. cond b Dead (cond (is_available r.0 ps) Repeat Fresh)) s.alive
      ∙ ap (λ (o : Option Content). cond (is_some o) Repeat Fresh) s.fresh

  -- repairs can be placed one after the other
  pub placeable : (ps : Packets) (rs : List (ℕ × Content)) → IsWithin (Some newest) ps →
      AreRepairs source (Some newest) dead ps rs → ArePlaceable (whole newest first ps dead) rs
  placeable ps [] within are = tt
  placeable ps (r ∷ rs) within are =
      let s : StepSays source (Some newest) dead ps r = first-says source (Some newest) dead ps r are.0 in (
        fresh ps r s,
        subst (λ w. ArePlaceable w rs) (sym (placing-inside newest first ps dead r within inside s.inside))
            (placeable (with_repair r ps) rs (step-within source (Some newest) dead ps r within are.0).0 are.1),
      )

  -- what the window's contents are after them
  module _ (law : (n : ℕ) (held : Held) (window : Contents Held) →
      contents_of (after_placing n held window) ≡ after_placing n (content_of held) (contents_of window)) where
    pub contents-after : (rs : List Repair) (picture : Option ℕ) (window : Contents Held) (ps : Packets) →
        contents_of window ≡ whole newest first ps dead → IsWithin (Some newest) ps →
        AreRepairs source (Some newest) dead ps (entries_of rs) →
        contents_of (window_after rs picture window) ≡ whole newest first (with_repairs (entries_of rs) ps) dead
    contents-after [] picture window ps is within are = is
    contents-after (r ∷ rs) picture window ps is within are =
        let s : StepSays source (Some newest) dead ps (entry_of r) =
        first-says source (Some newest) dead ps (entry_of r) are.0 in
        contents-after rs (newest_with_layers picture r.layers)
        (after_placing r.number (held_beside picture r) window) (with_repair (entry_of r) ps)
        (law r.number (held_beside picture r) window
        ∙ ap (after_placing r.number (Media r.text)) is
        ∙ placing-inside newest first ps dead (entry_of r) within inside s.inside)
        (step-within source (Some newest) dead ps (entry_of r) within are.0).0 are.1

-- layers with another picture
abbrev with_picture : Layers → ℕ → Layers
with_picture layers picture =
    record { picture = picture; tl0 = layers.tl0; tid = layers.tid; sync = layers.sync }

-- the picture that layers mean: it ends in their bits, and is less than half of the space above the newest
record MeansPicture (newest : Option ℕ) (wire picture : ℕ) : Type 0 where
  same : picture % 32768 ≡ wire
  ahead : IfSome newest (λ k. picture < k + HALF_PICTURES)

-- the newest picture is at least half of the space, if there is one
abbrev pub IsGreat : Option ℕ → Type 0
IsGreat newest = IfSome newest (λ k. HALF_PICTURES ≤ k)

-- what can be the newest picture is
pub great-of : (newest : Option ℕ) → IfSome newest IsNewestPicture → IsGreat newest
great-of None range = tt
great-of (Some k) range = let least : 32768 ≤ k = range.at_least in omega arith

module _ (law : GivesPicture) where
  means : (newest : Option ℕ) (wire : ℕ) → IsGreat newest → wire < 32768 →
      MeansPicture newest wire (extended_picture newest wire)
  means None wire great fits = record { same = omega arith; ahead = tt }
  means (Some newest) wire great fits =
      let near : IsPictureNear newest wire (extended_picture (Some newest) wire) =
      (law newest wire (extended_picture (Some newest) wire) great fits).0 refl in
      record { same = near.same; ahead = near.not_far_ahead }

  -- the newest picture stays great
  pub stays-great : (newest : Option ℕ) (layers : Option Layers) → IsGreat newest →
      IsGreat (newest_with_layers newest layers)
  stays-great newest None great = great
  stays-great None (Some layers) great = omega arith
  stays-great (Some k) (Some layers) great = omega arith

  -- and leaves room for one less
  pub leaves-room : (newest : Option ℕ) (layers : Option Layers) (more : ℕ) → more < WINDOW → IsGreat newest →
      IfSome layers FitsLayers → HasRoom newest (suc more) → HasRoom (newest_with_layers newest layers) more
  leaves-room None None more few great fits room = tt
  leaves-room (Some k) None more few great fits room = omega arith
  leaves-room None (Some layers) more few great fits room =
      let wire : layers.picture < 32768 = fits.0 in omega arith
  leaves-room (Some k) (Some layers) more few great fits room =
      let m : MeansPicture (Some k) layers.picture (extended_picture (Some k) layers.picture) =
      means (Some k) layers.picture great fits.0 in
      let ahead : extended_picture (Some k) layers.picture < k + 16384 = m.ahead in
      omega arith

  -- a repair is sound once its place is extended
  layers-on-wire : (newest : Option ℕ) (layers : Option Layers) → IsGreat newest → IfSome layers FitsLayers →
      layers ≡ option_map on_wire (option_map (place_beside newest) layers)
  layers-on-wire newest None great fits = refl
  layers-on-wire newest (Some layers) great fits =
      let m : MeansPicture newest layers.picture (extended_picture newest layers.picture) =
      means newest layers.picture great fits.0 in
      ap (λ p. Some (with_picture layers p)) (sym m.same)

  held-sound : (codec : Meaning) (newest : Option ℕ) (r : Repair) → IsGreat newest → SaysItsText codec r →
      IsSound codec (held_beside newest r)
  held-sound codec newest r great says = record {
    packet = says.packet;
    part = says.part;
    size = says.size;
    reads = says.reads;
    unpadded = says.unpadded;
    marker_is = says.marker_is;
    ts_is = says.ts_is;
    payload = says.payload;
    part_reads = says.part_reads;
    start_is = says.start_is;
    key_is = says.key_is;
    layers_are = says.layers_are
        ∙ layers-on-wire newest r.layers great (subst (λ l. IfSome l FitsLayers) says.layers_are says.layers_fit);
    layers_fit = says.layers_fit;
  }

  -- all that is held is sound after repairs that are
  pub sound-after : (codec : Meaning)
      → ((n : ℕ) (held : Held) (window : Contents Held) → AreSound codec window.packets → IsSound codec held →
      AreSound codec (after_placing n held window).packets)
      → (rs : List Repair) (newest : Option ℕ) (window : Contents Held) → IsGreat newest → All (SaysItsText codec) rs →
      AreSound codec window.packets → AreSound codec (window_after rs newest window).packets
  sound-after codec stays [] newest window great says sound = sound
  sound-after codec stays (r ∷ rs) newest window great says sound =
      sound-after codec stays rs (newest_with_layers newest r.layers)
      (after_placing r.number (held_beside newest r) window)
      (stays-great newest r.layers great) (λ i d less. says (suc i) d (omega arith))
      (stays r.number (held_beside newest r) window sound (held-sound codec newest r great (says 0 r (omega arith))))

-- there are at most so many repairs
few-repairs : (source : Source) (newest : Option ℕ) (dead : List ℕ) (more : ℕ) (ps : Packets) →
    length (repairs source newest dead more ps) ≤ more
few-repairs source newest dead zero ps = omega arith
few-repairs source newest dead (suc more) ps =
    by_step (first_step source newest dead ps) (λ r. few-repairs source newest dead more (with_repair r ps)) where
      by_step : (o : Option (ℕ × Content))
          → ((r : ℕ × Content) → length (repairs source newest dead more (with_repair r ps)) ≤ more)
          → length (option_map_or (λ r. r ∷ repairs source newest dead more (with_repair r ps)) o []) ≤ suc more
      by_step None rest = omega arith
      by_step (Some r) rest = let few = rest r in omega arith

pub few-planned : (source : Source) (n : ℕ) (held : Held) (window : Contents Held) (plan : List Repair) →
    IsPlan source n held window plan → length plan ≤ WINDOW
few-planned source n held window plan is =
    let w : Contents Content = placed n held window in
    let same : length (entries_of plan) ≡ length (repairs source w.newest w.dead WINDOW w.packets) =
    ap length (is.repairs ∙ sym (repairs-in source w)) in
    let long : length (entries_of plan) ≡ length plan = length-map plan entry_of in
    let few : length (repairs source w.newest w.dead WINDOW w.packets) ≤ WINDOW = few-repairs source w.newest w.dead WINDOW w.packets in
    omega arith

-- layers of a plan fit their bits
pub fit-planned : (codec : Meaning) (plan : List Repair) → All (SaysItsText codec) plan →
    All (λ r. IfSome r.layers FitsLayers) plan
fit-planned codec plan says i d less =
    subst (λ l. IfSome l FitsLayers) (says i d less).layers_are (says i d less).layers_fit

-- what is held in the loop that places repairs: those left can be placed, lead to the window and the newest picture in
-- the end, and leave the newest picture room
pub record IsCommitting (plan : List Repair) (first_picture : Option ℕ) (first_window : Contents Held)
    (left : List Repair) (newest : Option ℕ) (window : Contents Held) : Type 0 where
  pub placeable : ArePlaceable (contents_of window) (entries_of left)
  pub window_is : window_after left newest window ≡ window_after plan first_picture first_window
  pub pictures_are : pictures_after left newest ≡ pictures_after plan first_picture
  pub fits : All (λ r. IfSome r.layers FitsLayers) left
  pub room : HasRoom newest (length left)
  pub great : IsGreat newest
  pub few : length left ≤ WINDOW

-- the loop begins with the whole plan
pub committing-begins : (plan : List Repair) (newest : Option ℕ) (window : Contents Held) →
    ArePlaceable (contents_of window) (entries_of plan) → All (λ r. IfSome r.layers FitsLayers) plan →
    IsGreat newest → IfSome newest (λ k. k ≤ 2 ^ 61) → length plan ≤ WINDOW →
    IsCommitting plan newest window plan newest window
committing-begins plan newest window placeable fits great low few = record {
  placeable = placeable;
  window_is = refl;
  pictures_are = refl;
  fits = fits;
  room = room newest low;
  great = great;
  few = few;
} where
  room : (o : Option ℕ) → IfSome o (λ k. k ≤ 2 ^ 61) → HasRoom o (length plan)
  room None h = tt
  room (Some k) h = omega arith

-- and goes on with one repair less
pub committing-goes-on : GivesPicture →
    ((n : ℕ) (held : Held) (window : Contents Held) →
    contents_of (after_placing n held window) ≡ after_placing n (content_of held) (contents_of window)) →
    (plan : List Repair) (first_picture : Option ℕ) (first_window : Contents Held) (r : Repair) (left : List Repair)
    (newest : Option ℕ) (window : Contents Held) → IsCommitting plan first_picture first_window (r ∷ left) newest window →
    IsCommitting plan first_picture first_window left (newest_with_layers newest r.layers)
    (after_placing r.number (held_beside newest r) window)
committing-goes-on pictures_law contents_law plan first_picture first_window r left newest window now = record {
  placeable = subst (λ w. ArePlaceable w (entries_of left)) (sym (contents_law r.number (held_beside newest r) window))
      now.placeable.1;
  window_is = now.window_is;
  pictures_are = now.pictures_are;
  fits = λ i d less. now.fits (suc i) d (omega arith);
  room = leaves-room pictures_law newest r.layers (length left) fewer now.great (now.fits 0 r (omega arith)) now.room;
  great = stays-great pictures_law newest r.layers now.great;
  few = few;
} where
  few : length left ≤ WINDOW
  few = let bound : suc (length left) ≤ WINDOW = now.few in omega arith

  fewer : length left < WINDOW
  fewer = let bound : suc (length left) ≤ WINDOW = now.few in omega arith

-- the same, from one turn of the loop to the next
pub committing-turns : GivesPicture →
    ((n : ℕ) (held : Held) (window : Contents Held) →
    contents_of (after_placing n held window) ≡ after_placing n (content_of held) (contents_of window)) →
    (plan : List Repair) (first_picture : Option ℕ) (first_window : Contents Held) (r : Repair)
    (before left : List Repair) (newest newest_after : Option ℕ) (window window_after : Contents Held) →
    before ≡ r ∷ left → newest_after ≡ newest_with_layers newest r.layers →
    window_after ≡ after_placing r.number (held_beside newest r) window →
    IsCommitting plan first_picture first_window before newest window →
    IsCommitting plan first_picture first_window left newest_after window_after
committing-turns pictures_law contents_law plan first_picture first_window r before left newest newest_after window
    window_after before_is newest_is window_is now =
    subst (λ (w : Contents Held). IsCommitting plan first_picture first_window left newest_after w) (sym window_is)
    (subst (λ (k : Option ℕ). IsCommitting plan first_picture first_window left k
    (after_placing r.number (held_beside newest r) window)) (sym newest_is)
    (committing-goes-on pictures_law contents_law plan first_picture first_window r left newest window
    (subst (λ (rs : List Repair). IsCommitting plan first_picture first_window rs newest window) before_is now)))

-- numbers that are left by a test pass it
dead-passes : (p : ℕ → Bool) (ds : List ℕ) (d : ℕ) → is_dead d (filter p ds) ≡ true → p d ≡ true
dead-passes p [] d is = absurd (true≢false (sym is))
dead-passes p (k ∷ ks) d is = by_test (p k) refl is (dead-passes p ks d) where
  by_test : (b : Bool) → p k ≡ b → is_dead d (cond b (k ∷ filter p ks) (filter p ks)) ≡ true
      → (is_dead d (filter p ks) ≡ true → p d ≡ true) → p d ≡ true
  by_test false left there rest = rest there
  by_test true taken there rest = elim (or_cases (d == k) (is_dead d (filter p ks)) there) [
    | inl same ↦ ap p (eqb-true d k same) ∙ taken
    | inr later ↦ rest later
  ]

module _ (n : ℕ) (held : Held) (window : Contents Held) where
  abbrev planned : Contents Content
  planned = placed n held window

  abbrev newest_number : ℕ
  newest_number = newest_with window.newest n

  abbrev first_number : ℕ
  first_number = unwrap_or window.first n

  abbrev dead_numbers : List ℕ
  dead_numbers = filter (in_window newest_number) window.dead

  -- the packets of the window in which the packet is placed are within it
  inside-planned : would_of window n ≡ Fresh → (k : ℕ) → is_available k planned.packets ≡ true →
      in_window newest_number k ≡ true
  inside-planned fresh k there = elim (cases_eq k n) [
    | inl same ↦ ap (in_window newest_number) same ∙ inside-placed window.newest n (fresh-young window n fresh)
    | inr other ↦ elim (cases_Bool (in_window newest_number k)) [
      | inl inside ↦ inside
      | inr outside ↦ absurd (true≢false (sym there
          ∙ ap is_some (placed-outside k n newest_number held window.packets other outside)))
    ]
  ]

  pub within-planned : would_of window n ≡ Fresh → IsWindow window → IsWithin (Some newest_number) planned.packets
  within-planned fresh is = record {
    rise = sorted-map content_of (entries_with newest_number n held window.packets)
        ∙ sorted-put n held (where_key nat_cmp (in_window newest_number) window.packets)
        (sorted-where (in_window newest_number) window.packets is.packets_rise);
    inside = inside-planned fresh;
  }

  module _ (source : Source) (plan : List Repair) (is : IsPlan source n held window plan) (w : IsWindow window)
      (law : RepairsAre) where
    within : IsWithin (Some newest_number) planned.packets
    within = within-planned is.fresh w

    inside : AreInside newest_number dead_numbers
    inside = dead-passes (in_window newest_number) window.dead

    -- what is planned are the repairs
    are : AreRepairs source (Some newest_number) dead_numbers planned.packets (entries_of plan)
    are = subst (AreRepairs source (Some newest_number) dead_numbers planned.packets)
        (repairs-in source planned ∙ sym is.repairs)
        (law source (Some newest_number) dead_numbers planned.packets within).are_repairs

    pub commit-begins : (picture : Option ℕ) → IsGreat picture → IfSome picture (λ k. k ≤ 2 ^ 61) →
        IsCommitting plan picture (after_placing n held window) plan picture (after_placing n held window)
    commit-begins picture great low =
        committing-begins plan picture (after_placing n held window)
        (placeable source newest_number first_number dead_numbers inside planned.packets (entries_of plan) within are)
        (fit-planned source.codec plan is.sound) great low (few-planned source n held window plan is)

    -- what the window has in the end
    pub commit-repaired : ((k : ℕ) (h : Held) (v : Contents Held) →
        contents_of (after_placing k h v) ≡ after_placing k (content_of h) (contents_of v)) →
        (picture : Option ℕ) (end : Contents Held) → end ≡ window_after plan picture (after_placing n held window) →
        IsRepaired source (repairs_in source planned) planned (contents_of end)
    commit-repaired contents_law picture end end_is = record {
      newest = ap (λ (v : Contents Content). v.newest) all;
      first = ap (λ (v : Contents Content). v.first) all;
      dead = ap (λ (v : Contents Content). v.dead) all;
      packets = ap (λ (v : Contents Content). v.packets) all ∙ ap (λ es. with_repairs es planned.packets) is.repairs;
      are_repairs = subst (AreRepairs source (Some newest_number) dead_numbers planned.packets) is.repairs are;
      closed = subst (λ (v : Contents Content). IsClosed source v.newest v.dead v.packets) (sym all)
          (repairs-closed source (Some newest_number) dead_numbers planned.packets (entries_of plan) are);
    } where
      all : contents_of end ≡ whole newest_number first_number (with_repairs (entries_of plan) planned.packets) dead_numbers
      all = ap contents_of end_is
          ∙ contents-after source newest_number first_number dead_numbers inside contents_law plan picture
          (after_placing n held window) planned.packets refl within are
