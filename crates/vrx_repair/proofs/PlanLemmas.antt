-- A plan in the making.
use Rattle.std.proofs.Common.{◌≡◌, ℕ, zero, suc, ◌+◌, ◌<◌, ◌≤◌, Bool, true, false, cond, max, List, [], ◌∷◌, ◌++◌, length, Option, Some, None, All, refl, sym, ◌∙◌, ap, subst, arith, inl, inr, nat_cmp, append_assoc, append-nil}
use Rattle.std.specs.Prelude.{map, is_some}
use Rattle.std.specs.Option.{option_map, option_map_or, option_or}
use Rattle.std.specs.FinMap.Entries.{where_key}
use Rattle.std.proofs.lemmas.Bool.{and_from, cases_Bool, cases_eq, le-leb, leb-false, lt-ltb, true≢false}
use Rattle.std.proofs.lemmas.List.{map-append}
use Rattle.std.proofs.lemmas.List.Elements.{All-push}
use Rattle.std.proofs.lemmas.Option.{none-some, same_Some}
use Rattle.vrx_num.specs.declared.limits.TheConstants.{MOST_OCTETS, WINDOW}
use Rattle.vrx_codec.specs.Meaning.{Meaning}
use Rattle.vrx_window.specs.Content.{Content, Media, content_of, is_fec, is_fec_held}
use Rattle.vrx_window.specs.IsWindow.{IsWindow, IsWithin}
use Rattle.vrx_window.specs.Sound.{AreSound, IsSound}
use Rattle.vrx_window.specs.Window.{Contents, at, entries_with, in_window, is_available, is_dead, is_too_old, newest_with, would_of}
use Rattle.vrx_window.specs.declared.held.Held.{Held}
use Rattle.vrx_window.specs.declared.held.Held.TheVariants as helds
use Rattle.vrx_window.specs.declared.placing.Placing.{Placing}
use Rattle.vrx_window.specs.declared.placing.Placing.TheVariants.{TooOld, Dead, Repeat, Fresh}
use Rattle.vrx_repair.specs.Plan.{SaysItsText, entries_of, entry_of, packets_seen, placed, repairs_in}
use Rattle.vrx_repair.specs.Seen.{ArePackets, IsText}
use Rattle.vrx_repair.specs.Source.{Source}
use Rattle.vrx_repair.specs.Step.{Packets, first_of, first_step, repairs, step, with_repair, with_repairs}
use Rattle.vrx_repair.specs.declared.repair.Repair.{Repair}
use Rattle.vrx_repair.proofs.ClosureLemmas.{step-within}
use Rattle.vrx_repair.proofs.MapLemmas.{at_put-here, at_put-other, sorted-map, sorted-put, sorted-where}
use Rattle.vrx_repair.proofs.NextLemmas.{none-seen}
use Rattle.vrx_repair.proofs.StepLemmas.{step-not-fec}
use Rattle.vrx_repair.proofs.SeenLemmas.{placed-here, placed-inside, placed-outside}
use Rattle.vrx_repair.proofs.TextLemmas.{read-long}

-- a fresh number isn't too old
pub fresh-young : {X : Type 0} (window : Contents X) (n : ℕ) → would_of window n ≡ Fresh → is_too_old window.newest n ≡ false
fresh-young window n is = by_tests (is_too_old window.newest n) (is_dead n window.dead) (is_available n window.packets) is where
  code : Placing → ℕ
  code TooOld = 0
  code Dead = 1
  code Repeat = 2
  code Fresh = 3

  by_tests : (a b c : Bool) → cond a TooOld (cond b Dead (cond c Repeat Fresh)) ≡ Fresh → a ≡ false
  by_tests true b c e = absurd (let apart : 0 ≡ 3 = ap code e in omega arith)
  by_tests false b c e = refl

-- a number that isn't too old is in the window in which it is placed
pub inside-placed : (newest : Option ℕ) (n : ℕ) → is_too_old newest n ≡ false → in_window (newest_with newest n) n ≡ true
inside-placed None n is = and_from _ _ (lt-ltb n (n + WINDOW) (omega arith)) (le-leb n n (omega arith))
inside-placed (Some newest) n is =
    let young : newest < n + WINDOW = leb-false (n + WINDOW) newest is in
    and_from _ _ (lt-ltb (max newest n) (n + WINDOW) (omega arith)) (le-leb n (max newest n) (omega arith))

-- a sound packet's text has a header, and isn't too long
sound-text : (codec : Meaning) (held : Held) (text : List ℕ) → IsSound codec held → content_of held ≡ Media text →
    IsText text
sound-text codec (helds.Media t marker ts start key layers) text sound is =
    let same : t ≡ text = cc in
    let size : length t ≤ MOST_OCTETS = sound.size in
    let long : 12 ≤ length t = read-long t sound.packet sound.reads in
    let equal : length t ≡ length text = ap length same in
    record { at_least = omega arith; at_most = omega arith }
sound-text codec (helds.Empty marker) text sound is = cc
sound-text codec (helds.Fec payload) text sound is = cc

-- what is mapped to something is there
mapped : {A B : Type 0} (f : A → B) (o : Option A) (y : B) → Some y ≡ option_map f o → (x : A) × (o ≡ Some x) × (f x ≡ y)
mapped f None y is = absurd (none-some y (sym is))
mapped f (Some x) y is = (x, refl, same_Some (f x) y (sym is))

there-is : {A : Type 0} (o : Option A) → is_some o ≡ true → (x : A) × (o ≡ Some x)
there-is None is = absurd (true≢false (sym is))
there-is (Some x) is = (x, refl)

same-media : (t u : List ℕ) → Media t ≡ Media u → t ≡ u
same-media t u is = cc

module _ (codec : Meaning) (n : ℕ) (held : Held) (window : Contents Held) where
  abbrev newest : ℕ
  newest = newest_with window.newest n

  abbrev first_packets : Packets
  first_packets = (placed n held window).packets

  -- what stands in the window in which the packet is placed is sound, and in that window
  record PlacedSays (k : ℕ) (x : Content) : Type 0 where
    here : Held
    content : content_of here ≡ x
    sound : IsSound codec here
    inside : in_window newest k ≡ true

  placed-says : would_of window n ≡ Fresh → AreSound codec window.packets → IsSound codec held → (k : ℕ) (x : Content) →
      at k first_packets ≡ Some x → PlacedSays k x
  placed-says fresh sound says k x is = elim (cases_eq k n) [
    | inl same ↦ record {
      here = held;
      content = same_Some (content_of held) x (sym (placed-here k n newest held window.packets same) ∙ is);
      sound = says;
      inside = ap (in_window newest) same ∙ inside-placed window.newest n (fresh-young window n fresh);
    }
    | inr other ↦ elim (cases_Bool (in_window newest k)) [
      | inl inside ↦ (let there = mapped content_of (at k window.packets) x
          (sym is ∙ placed-inside k n newest held window.packets other inside) in
          record { here = there.0; content = there.2; sound = sound k there.0 there.1; inside = inside })
      | inr outside ↦ absurd (none-some x (sym (placed-outside k n newest held window.packets other outside) ∙ is))
    ]
  ]

  -- the texts of the window in which the packet is placed
  texts-placed : would_of window n ≡ Fresh → AreSound codec window.packets → IsSound codec held →
      ArePackets first_packets
  texts-placed fresh sound says k text is =
      let p : PlacedSays k (Media text) = placed-says fresh sound says k (Media text) is in
      sound-text codec p.here text p.sound p.content

  -- that window's packets are within it
  within-placed : would_of window n ≡ Fresh → AreSound codec window.packets → IsSound codec held →
      IsWindow window → IsWithin (Some newest) first_packets
  within-placed fresh sound says is = record {
    rise = sorted-map content_of (entries_with newest n held window.packets)
        ∙ sorted-put n held (where_key nat_cmp (in_window newest) window.packets)
        (sorted-where (in_window newest) window.packets is.packets_rise);
    inside = λ k there. (let x = there-is (at k first_packets) there in
        (placed-says fresh sound says k x.0 x.1).inside);
  }

-- repairs after repairs
repairs-append : (xs ys : List (ℕ × Content)) (ps : Packets) →
    with_repairs (xs ++ ys) ps ≡ with_repairs ys (with_repairs xs ps)
repairs-append [] ys ps = refl
repairs-append (x ∷ xs) ys ps = repairs-append xs ys (with_repair x ps)

pub seen-more : (n : ℕ) (held : Held) (window : Contents Held) (made : List Repair) (r : Repair) →
    packets_seen n held window (made ++ r ∷ []) ≡ with_repair (entry_of r) (packets_seen n held window made)
seen-more n held window made r =
    ap (λ es. with_repairs es (placed n held window).packets) (map-append entry_of made (r ∷ []))
    ∙ repairs-append (entries_of made) (entry_of r ∷ []) (placed n held window).packets

-- A plan in the making: the repairs so far and those that follow, at most so many, are the repairs; each so far says
-- what its text says; and the packets that are seen are texts, and within the window.
pub record IsPlanning (source : Source) (n : ℕ) (held : Held) (window : Contents Held) (made : List Repair) (left : ℕ)
    : Type 0 where
  pub entries : entries_of made
      ++ repairs source (placed n held window).newest (placed n held window).dead left (packets_seen n held window made)
      ≡ repairs_in source (placed n held window)
  pub sound : All (SaysItsText source.codec) made
  pub packets : ArePackets (packets_seen n held window made)
  pub within : IsWithin (placed n held window).newest (packets_seen n held window made)

-- the repairs of a window, as a function with a bound
pub repairs-in : (source : Source) (window : Contents Content) →
    repairs source window.newest window.dead WINDOW window.packets ≡ repairs_in source window
unfolding repairs_in
repairs-in source window = refl

module _ (source : Source) (n : ℕ) (held : Held) (window : Contents Held) where
  abbrev planned : Contents Content
  planned = placed n held window

  abbrev seen : List Repair → Packets
  seen made = packets_seen n held window made

  pub planning-begins : (left : ℕ) → left ≡ WINDOW → would_of window n ≡ Fresh → AreSound source.codec window.packets →
      IsSound source.codec held → IsWindow window → IsPlanning source n held window [] left
  planning-begins left left_is fresh sound says is = record {
    entries = ap (λ k. repairs source planned.newest planned.dead k (seen [])) left_is ∙ repairs-in source planned;
    sound = λ i d less. absurd (omega arith);
    packets = texts-placed source.codec n held window fresh sound says;
    within = within-placed source.codec n held window fresh sound says is;
  }

  -- the repairs that follow are a first one and the others, or none
  repairs-some : (more : ℕ) (ps : Packets) (r : ℕ × Content) → first_step source planned.newest planned.dead ps ≡ Some r →
      repairs source planned.newest planned.dead (suc more) ps
      ≡ r ∷ repairs source planned.newest planned.dead more (with_repair r ps)
  repairs-some more ps r is =
      ap (λ o. option_map_or (λ x. x ∷ repairs source planned.newest planned.dead more (with_repair x ps)) o []) is

  repairs-none : (left : ℕ) (ps : Packets) → first_step source planned.newest planned.dead ps ≡ None →
      repairs source planned.newest planned.dead left ps ≡ []
  repairs-none zero ps is = refl
  repairs-none (suc more) ps is =
      ap (λ o. option_map_or (λ x. x ∷ repairs source planned.newest planned.dead more (with_repair x ps)) o []) is

  pub planning-goes-on : (made : List Repair) (left rest : ℕ) (r : Repair) → left ≡ rest + 1 →
      first_step source planned.newest planned.dead (seen made) ≡ Some (entry_of r) → SaysItsText source.codec r →
      IsPlanning source n held window made left → IsPlanning source n held window (made ++ r ∷ []) rest
  planning-goes-on made left rest r left_is is says now = record {
    entries =
        ap (λ ps. entries_of (made ++ r ∷ []) ++ repairs source planned.newest planned.dead rest ps) (seen-more n held window made r)
        ∙ ap (λ es. es ++ repairs source planned.newest planned.dead rest (with_repair (entry_of r) (seen made)))
        (map-append entry_of made (r ∷ []))
        ∙ append_assoc (entries_of made) (entry_of r ∷ [])
        (repairs source planned.newest planned.dead rest (with_repair (entry_of r) (seen made)))
        ∙ ap (λ es. entries_of made ++ es) (sym (repairs-some rest (seen made) (entry_of r) is))
        ∙ (let next : suc rest ≡ left = omega arith in
        ap (λ k. entries_of made ++ repairs source planned.newest planned.dead k (seen made)) next)
        ∙ now.entries;
    sound = All-push (SaysItsText source.codec) made r now.sound says;
    packets = subst ArePackets (sym (seen-more n held window made r)) texts;
    within = subst (IsWithin planned.newest) (sym (seen-more n held window made r))
        (step-within source planned.newest planned.dead (seen made) (entry_of r) now.within is).0;
  } where
    long : 12 ≤ length r.text
    long = read-long r.text says.packet says.reads

    texts : ArePackets (with_repair (entry_of r) (seen made))
    texts k text there = elim (cases_eq k r.number) [
      | inl same ↦
          subst IsText (same-media r.text text (same_Some (Media r.text) (Media text)
          (sym (at_put-here r.number (Media r.text) (seen made))
          ∙ ap (λ j. at j (with_repair (entry_of r) (seen made))) (sym same) ∙ there)))
          (record { at_least = long; at_most = says.size })
      | inr other ↦ now.packets k text (sym (at_put-other k r.number (Media r.text) (seen made) other) ∙ there)
    ]

  pub planning-ends : (made : List Repair) (left : ℕ) → first_step source planned.newest planned.dead (seen made) ≡ None →
      IsPlanning source n held window made left → entries_of made ≡ repairs_in source planned
  planning-ends made left is now =
      sym (append-nil (entries_of made))
      ∙ ap (λ es. entries_of made ++ es) (sym (repairs-none left (seen made) is))
      ∙ now.entries

  pub planning-full : (made : List Repair) (left : ℕ) → left ≡ 0 → IsPlanning source n held window made left →
      entries_of made ≡ repairs_in source planned
  planning-full made left none now =
      sym (append-nil (entries_of made))
      ∙ ap (λ k. entries_of made ++ repairs source planned.newest planned.dead k (seen made)) (sym none)
      ∙ now.entries

  -- without a FEC packet, neither in the window nor the one to be placed, nothing is rebuilt
  pub planning-nothing : would_of window n ≡ Fresh → AreSound source.codec window.packets → IsSound source.codec held →
      IsWindow window → is_fec held ≡ false → ((k : ℕ) → is_fec_held (at k window.packets) ≡ false) →
      [] ≡ repairs_in source planned
  planning-nothing fresh sound says is here there =
      planning-ends [] WINDOW (first-none (map (λ entry. entry.0) (seen []))) (planning-begins WINDOW refl fresh sound says is) where
        none : (k : ℕ) → step source planned.newest planned.dead (seen []) k ≡ None
        none k = step-not-fec source planned.newest planned.dead (seen []) k
            (none-seen n k held window [] (λ same fec. true≢false (sym fec ∙ here)) (there k))

        first-none : (ns : List ℕ) → first_of (step source planned.newest planned.dead (seen [])) ns ≡ None
        first-none [] = refl
        first-none (k ∷ ns) = ap (λ o. option_or o (first_of (step source planned.newest planned.dead (seen [])) ns)) (none k)
            ∙ first-none ns
