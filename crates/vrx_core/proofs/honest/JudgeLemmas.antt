-- Whether a frame with layers waits for nothing, in the sender's terms.
use Rattle.std.proofs.Common.{◌≡◌, ℕ, ◌+◌, ◌-◌, ◌<◌, ◌≤◌, ◌⊎◌, Bool, true, false, cond, List, [], ◌∷◌, length, slice_get, Contains, Option, Some, None, IfSome, is_some, refl, sym, ◌∙◌, ap, subst, arith, inl, inr}
use Rattle.std.specs.Prelude.{◌||◌, ◌==◌, not, nat_lt, nat_le, filter}
use Rattle.std.specs.Option.{option_map}
use Rattle.std.proofs.lemmas.Bool.{and_from, and_parts, cases_lt, eq-eqb, eqb-true, le-leb, le-ltb, leb-true, lt-ltb, ltb-true, or_cases, or_left, or_right, true≢false}
use Rattle.std.proofs.lemmas.Option.{none-some, same_Some}
use Rattle.vrx_num.specs.Index.{index_before}
use Rattle.vrx_codec.specs.declared.part.Layers.{Layers}
use Rattle.vrx_codec.specs.declared.run.Place.{Place}
use Rattle.vrx_codec.specs.declared.run.Run.{Run as RunSummary}
use Rattle.vrx_refs.specs.declared.limits.TheConstants.{REACH}
use Rattle.vrx_refs.specs.Laws.{is_among}
use Rattle.vrx_refs.specs.References.{Needs, base, base_reference, counts, references, seen, waits_for, walk, was_pulled, was_pulled_key}
use Rattle.vrx_buffer.specs.Frames.{is_ready}
use Rattle.vrx_core.specs.machine.Told.{Told, sightings}
use Rattle.vrx_core.specs.honest.Sender.{Sender}
use Rattle.vrx_core.specs.honest.Layers.{HasTid, IsKey, IsLastOf, IsStop, KeepsLayers, is_on_base, layers_at}
use Rattle.vrx_core.specs.honest.Chain.{IsRuleReference, RefersBy}
use Rattle.vrx_core.proofs.relation.MapLemmas.{some-of}
use Rattle.vrx_core.proofs.honest.LastLemmas.{key_first, last_same, layers_within, placed}
use Rattle.vrx_core.proofs.honest.IndexLemmas.{base_index, base_is_last, base_there, last_has_index}
use Rattle.vrx_core.proofs.honest.ReferLemmas.{referred, refers}
use Rattle.vrx_core.proofs.honest.WalkLemmas.{ReferencesPulled, SeesFrames, StopIsNear, WerePulled, walked, walks}
use Rattle.vrx_core.proofs.honest.ShiftLemmas.{among_raised, lifted_walk, raised, raised_among}
use Rattle.vrx_core.proofs.honest.TellLemmas.{IsPlaceOf, ToldRightly}
use Rattle.vrx_core.proofs.honest.SightLemmas.{ArePlaced, Fall, IsBase, IsIndexed, SomeCame, base-from, base-there, came_told, has_picture, key-from, key-to, pulled-from, pulled-to, seen-from, seen-to}

-- the stop of frame f lies at most 255 pictures before it, and a packet of each frame from it up to f has come
pub record StopHasCome (sender : Sender) (js : List ℕ) (rep : ℕ → Type 0) (tid f : ℕ) : Type 0 where
  pub at : ℕ
  pub is_stop : IsStop sender.frames tid f at
  pub near : f ≤ at + REACH
  pub come : (g : ℕ) → at ≤ g → g < f → SomeCame sender js rep g

-- it is evident to what frame f refers, which has this place
abbrev pub IsPlain : Sender → List ℕ → (ℕ → Type 0) → (f : ℕ) → Place → Bool → Type 0
IsPlain sender js rep f place true = (g : ℕ) → IsLastOf sender.frames 0 f g → f ≤ g + REACH
IsPlain sender js rep f place false = StopHasCome sender js rep place.tid f

module _ (pulled : List RunSummary) where
  -- a frame waits for nothing exactly if all to which it refers was pulled
  waits-from : (found : List ℕ) → is_ready (Needs (filter (λ q. not (was_pulled pulled q)) found)) ≡ true → (q : ℕ) →
      is_among q found ≡ true → was_pulled pulled q ≡ true
  waits-from [] h q among = absurd (true≢false (sym among))
  waits-from (x ∷ found) h q among = by (was_pulled pulled x) refl h
      (λ rest later. waits-from found rest q later) where
        by : (b : Bool) → was_pulled pulled x ≡ b →
            is_ready (Needs (cond (not b) (x ∷ filter (λ q. not (was_pulled pulled q)) found)
            (filter (λ q. not (was_pulled pulled q)) found))) ≡ true →
            (is_ready (Needs (filter (λ q. not (was_pulled pulled q)) found)) ≡ true → is_among q found ≡ true →
            was_pulled pulled q ≡ true) → was_pulled pulled q ≡ true
        by true is rest more = elim (or_cases (x == q) (is_among q found) among) [
          | inl here ↦ ap (was_pulled pulled) (sym (eqb-true x q here)) ∙ is
          | inr later ↦ more rest later
        ]
        by false is rest more = absurd (true≢false (sym rest))

  waits-to : (found : List ℕ) → ((q : ℕ) → is_among q found ≡ true → was_pulled pulled q ≡ true) →
      is_ready (Needs (filter (λ q. not (was_pulled pulled q)) found)) ≡ true
  waits-to [] each = refl
  waits-to (x ∷ found) each =
      ap (λ b. is_ready (Needs (cond (not b) (x ∷ filter (λ q. not (was_pulled pulled q)) found)
      (filter (λ q. not (was_pulled pulled q)) found))))
      (each x (or_left (x == x) (is_among x found) (eq-eqb x x refl)))
      ∙ waits-to found (λ q among. each q (or_right (x == q) (is_among q found) among))

  ready-from : (o : Option (List ℕ)) → is_ready (waits_for pulled o) ≡ true → (found : List ℕ) × (o ≡ Some found)
      × ((q : ℕ) → is_among q found ≡ true → was_pulled pulled q ≡ true)
  ready-from None h = absurd (true≢false (sym h))
  ready-from (Some found) h = (found, refl, waits-from found h)

  ready-to : (o : Option (List ℕ)) (found : List ℕ) → o ≡ Some found →
      ((q : ℕ) → is_among q found ≡ true → was_pulled pulled q ≡ true) → is_ready (waits_for pulled o) ≡ true
  ready-to o found is each = ap (λ x. is_ready (waits_for pulled x)) is ∙ waits-to found each

-- a base as the one reference
reference-from : (p : ℕ) (o : Option ℕ) (found : List ℕ) → base_reference p o ≡ Some found →
    (b : ℕ) × (o ≡ Some b) × (b < p) × (p ≤ b + REACH)
reference-from p None found is = absurd (none-some found is)
reference-from p (Some b) found is = by (counts p b) refl is where
  by : (c : Bool) → counts p b ≡ c → cond c (Some (b ∷ [])) None ≡ Some found →
      (x : ℕ) × (Some b ≡ Some x) × (x < p) × (p ≤ x + REACH)
  by true test gives =
      let both : (nat_lt b p ≡ true) × (nat_le p (b + REACH) ≡ true) =
      and_parts (nat_lt b p) (nat_le p (b + REACH)) test in
      (b, refl, ltb-true b p both.0, leb-true p (b + REACH) both.1)
  by false test gives = absurd (none-some found gives)

reference-to : (p : ℕ) (o : Option ℕ) (b : ℕ) → o ≡ Some b → b < p → p ≤ b + REACH →
    base_reference p o ≡ Some (b ∷ [])
reference-to p o b is below near = ap (base_reference p) is
    ∙ ap (λ c. cond c (Some (b ∷ [])) None)
    (and_from (nat_lt b p) (nat_le p (b + REACH)) (lt-ltb b p below) (le-leb p (b + REACH) near))

-- a function of numbers from d on, which is the other one at d less
abbrev from_on : {A : Type 0} → A → (ℕ → A) → (d q : ℕ) → A
from_on none h d q = cond (nat_lt q d) none (h (q - d))

from_on-low : {A : Type 0} (none : A) (h : ℕ → A) (d q : ℕ) → q < d → from_on none h d q ≡ none
from_on-low none h d q less = ap (λ b. cond b none (h (q - d))) (lt-ltb q d less)

from_on-at : {A : Type 0} (none : A) (h : ℕ → A) (d q p : ℕ) → q ≡ p + d → from_on none h d q ≡ h p
from_on-at none h d q p at = ap (λ b. cond b none (h (q - d))) (le-ltb q d (omega (arith, at)))
    ∙ ap h (omega (arith, at))

from_on-cases : {A : Type 0} (none : A) (h : ℕ → A) (d q : ℕ) →
    ((q < d) × (from_on none h d q ≡ none)) ⊎ ((p : ℕ) × (q ≡ p + d) × (from_on none h d q ≡ h p))
from_on-cases none h d q = elim (cases_lt q d) [
  | inl less ↦ inl (less, from_on-low none h d q less)
  | inr more ↦ let at : q ≡ (q - d) + d = omega (arith, more) in
      inr (q - d, at, from_on-at none h d q (q - d) at)
]

-- a frame that refers to its base only, and one that doesn't
on_base : {A : Type 0} (h : ℕ → A) (w : A) (a s : Bool) (i j : ℕ) → (a || s) ≡ true →
    cond a (h i) (cond s (h j) w) ≡ h (cond a i j)
on_base h w true s i j is = refl
on_base h w false true i j is = refl
on_base h w false false i j is = absurd (true≢false (sym is))

not_on_base : {A : Type 0} (x y w : A) (a s : Bool) → (a || s) ≡ false → cond a x (cond s y w) ≡ w
not_on_base x y w true s is = absurd (true≢false is)
not_on_base x y w false true is = absurd (true≢false is)
not_on_base x y w false false is = refl

-- Packets told the places of the frames of which they came, none of which lies more than 2,048 places beyond frame f;
-- these frames were pulled, with their rule references, in their order, all before frame f, which is no keyframe.
module _ (sender : Sender) (keeps : KeepsLayers sender.frames)
    (from_key : IfSome (slice_get sender.frames 0) (λ frame. frame.key ≡ true)) (js : List ℕ) (rep : ℕ → Type 0)
    (told : Told) (right : ToldRightly sender js rep told) (fs : List ℕ) (pulled : List RunSummary)
    (are : ArePlaced sender right.up right.down fs pulled) (fall : Fall fs)
    (closed : (g h : ℕ) → Contains fs g → IsRuleReference sender g h → Contains fs h) (f : ℕ) (place : Place)
    (place_is : IsPlaceOf sender right.up right.down f place) (delta : IsKey sender.frames f → ⊥)
    (beyond : (g : ℕ) → Contains fs g → g < f) (near : (k : ℕ) → SomeCame sender js rep k → k ≤ f + 2048) where
  abbrev sent : Place
  sent = place_is.sent

  abbrev up : ℕ
  up = right.up

  abbrev down : ℕ
  down = right.down

  -- a frame before it has layers
  has_place : (g : ℕ) → g < f → (p : Place) × (layers_at sender.frames g ≡ Some p)
  has_place g less =
      let within : f < length sender.frames = layers_within sender.frames f sent place_is.sent_is in
      let p : (p : Place) × (layers_at sender.frames g ≡ Some p) × (p.tl0 < 256) × (IsKey sender.frames g → p.tid ≡ 0) =
      placed sender.frames keeps g (omega (arith, within, less)) in
      (p.0, p.1)

  -- to what it refers
  abbrev to_what : Option (List ℕ)
  to_what = references (sightings told) pulled place

  -- the index of its base, and the walk back from it
  abbrev base_of : ℕ
  base_of = base_index sender.frames keeps sent

  same_on_base : is_on_base place ≡ is_on_base sent
  same_on_base = ap (λ (l : Layers). (l.tid == 0) || l.sync) place_is.same

  on_its_base : is_on_base sent ≡ true → to_what ≡ base_reference place.picture (base pulled base_of)
  on_its_base is = on_base (λ (i : ℕ). base_reference place.picture (base pulled i))
      (walk (seen (sightings told)) (was_pulled_key pulled) place.tid REACH place.picture [])
      (place.tid == 0) place.sync (index_before place.tl0) place.tl0 (same_on_base ∙ is)
      ∙ ap (λ (l : Layers). base_reference place.picture
      (base pulled (cond (l.tid == 0) (index_before l.tl0) l.tl0))) place_is.same

  by_walk : is_on_base sent ≡ false →
      to_what ≡ walk (seen (sightings told)) (was_pulled_key pulled) sent.tid REACH place.picture []
  by_walk is = not_on_base (base_reference place.picture (base pulled (index_before place.tl0)))
      (base_reference place.picture (base pulled place.tl0))
      (walk (seen (sightings told)) (was_pulled_key pulled) place.tid REACH place.picture [])
      (place.tid == 0) place.sync (same_on_base ∙ is)
      ∙ ap (λ (l : Layers). walk (seen (sightings told)) (was_pulled_key pulled) l.tid REACH place.picture [])
      place_is.same

  -- its rule references, if it refers to its base only
  base_refers : is_on_base sent ≡ true → (g : ℕ) → IsRuleReference sender f g → IsLastOf sender.frames 0 f g
  base_refers is g by = subst (λ (b : Bool). RefersBy sender.frames sent b f g) is
      (referred sender f g sent place_is.sent_is by)

  refers_base : is_on_base sent ≡ true → (g : ℕ) → IsLastOf sender.frames 0 f g → IsRuleReference sender f g
  refers_base is g last = refers sender f g sent place_is.sent_is delta
      (subst (λ (b : Bool). RefersBy sender.frames sent b f g) (sym is) last)

  -- A frame that refers to its base only.
  module _ (is : is_on_base sent ≡ true) where
    -- if it waits for nothing, its base lies near, and was pulled
    base_known : is_ready (waits_for pulled to_what) ≡ true →
        (g : ℕ) × IsLastOf sender.frames 0 f g × (f ≤ g + REACH) × Contains fs g
    base_known h =
        let r : (found : List ℕ) × (to_what ≡ Some found)
        × ((q : ℕ) → is_among q found ≡ true → was_pulled pulled q ≡ true) = ready-from pulled to_what h in
        let b : (b : ℕ) × (base pulled base_of ≡ Some b) × (b < place.picture) × (place.picture ≤ b + REACH) =
        reference-from place.picture (base pulled base_of) r.0 (sym (on_its_base is) ∙ r.1) in
        let g : (g : ℕ) × IsBase sender up down fs base_of b.0 g =
        base-from sender up down fs pulled are fall base_of b.0 b.1 in
        let close : f ≤ g.0 + REACH = let at : b.0 + down ≡ g.0 + up = g.1.picture in
        omega (arith, at, place_is.picture, b.3) in (
          g.0,
          base_is_last sender.frames keeps f g.0 sent place_is.sent_is (beyond g.0 g.1.among) close g.1.is.0 g.1.is.1,
          close,
          g.1.among,
        )

    base_from : is_ready (waits_for pulled to_what) ≡ true →
        ((g : ℕ) → IsLastOf sender.frames 0 f g → f ≤ g + REACH) × ReferencesPulled sender f (Contains fs)
    base_from h =
        let b : (g : ℕ) × IsLastOf sender.frames 0 f g × (f ≤ g + REACH) × Contains fs g = base_known h in (
          λ g last. subst (λ (x : ℕ). f ≤ x + REACH) (last_same sender.frames 0 f b.0 g b.1 last) b.2,
          λ g by. subst (λ (x : ℕ). Contains fs x)
              (last_same sender.frames 0 f b.0 g b.1 (base_refers is g by)) b.3,
        )

    -- and back
    base_to : ((g : ℕ) → IsLastOf sender.frames 0 f g → f ≤ g + REACH) → ReferencesPulled sender f (Contains fs) →
        is_ready (waits_for pulled to_what) ≡ true
    base_to close refs =
        let within : f < length sender.frames = layers_within sender.frames f sent place_is.sent_is in
        let first : IsKey sender.frames 0 = key_first sender.frames from_key (omega (arith, within)) in
        let later : 0 < f = elim (cases_lt 0 f) [
          | inl more ↦ more
          | inr less ↦ let same : 0 ≡ f = omega (arith, less) in
              absurd (delta (subst (λ (x : ℕ). IsKey sender.frames x) same first))
        ] in
        let g : (g : ℕ) × IsLastOf sender.frames 0 f g = base_there sender.frames keeps from_key f later within in
        let was : Contains fs g.0 = refs g.0 (refers_base is g.0 g.1) in
        let index : IsIndexed sender.frames base_of g.0 =
        (g.1.of_tid, last_has_index sender.frames keeps f g.0 sent place_is.sent_is g.1) in
        let b : (b : ℕ) × (base pulled base_of ≡ Some b) =
        base-there sender up down fs pulled are base_of g.0 was index in
        let k : (k : ℕ) × IsBase sender up down fs base_of b.0 k =
        base-from sender up down fs pulled are fall base_of b.0 b.1 in
        let same : k.0 ≡ g.0 = elim (cases_lt g.0 k.0) [
          | inl more ↦ absurd (g.1.last k.0 more (beyond k.0 k.1.among) k.1.is.0)
          | inr less ↦ let upto : g.0 ≤ k.0 = k.1.last g.0 was index in omega (arith, upto, less)
        ] in
        let at : b.0 + down ≡ k.0 + up = k.1.picture in
        let before : g.0 < f = g.1.before in
        let far : f ≤ g.0 + REACH = close g.0 g.1 in
        ready-to pulled to_what (b.0 ∷ [])
        (on_its_base is ∙ reference-to place.picture (base pulled base_of) b.0 b.1
        (omega (arith, at, same, before, place_is.picture)) (omega (arith, at, same, far, place_is.picture)))
        (λ q among. elim (or_cases (b.0 == q) false among) [
          | inl here ↦ pulled-to sender up down fs pulled are k.0 q k.1.among
              (let x : b.0 ≡ q = eqb-true b.0 q here in omega (arith, at, x))
          | inr none ↦ absurd (true≢false (sym none))
        ])

  -- pictures and the constant that the sender's side lacks: the picture of frame g is the other constant and g
  abbrev tids : ℕ → Option ℕ
  tids q = from_on None (seen (sightings told)) down q

  abbrev stop : ℕ → Bool
  stop q = from_on false (was_pulled_key pulled) down q

  -- what is known of a picture that is seen
  tid_frame : (q t : ℕ) → tids q ≡ Some t → (g : ℕ) × (q ≡ up + g) × HasTid sender.frames g t × SomeCame sender js rep g
  tid_frame q t is = elim (from_on-cases None (seen (sightings told)) down q) [
    | inl low ↦ absurd (none-some t (sym low.1 ∙ is))
    | inr at ↦
        let g : (g : ℕ) × (at.0 + down ≡ g + up) × HasTid sender.frames g t × SomeCame sender js rep g =
        seen-from sender js rep told right at.0 t (sym at.2 ∙ is) in
        (g.0, omega (arith, at.1, g.1), g.2, g.3)
  ]

  sees_below : (q : ℕ) → q < up → is_some (tids q) ≡ false
  sees_below q less = by (tids q) refl where
    by : (o : Option ℕ) → tids q ≡ o → is_some o ≡ false
    by None is = refl
    by (Some t) is = let g : (g : ℕ) × (q ≡ up + g) × HasTid sender.frames g t × SomeCame sender js rep g =
        tid_frame q t is in absurd (omega (arith, less, g.1))

  sees : SeesFrames sender f up tids stop (Contains fs)
  sees = record {
    below = sees_below;
    tids_are = λ g t below is.
        let k : (k : ℕ) × (up + g ≡ up + k) × HasTid sender.frames k t × SomeCame sender js rep k =
        tid_frame (up + g) t is in
        let same : k.0 ≡ g = omega (arith, k.1) in
        subst (λ (x : ℕ). HasTid sender.frames x t) same k.2;
    stops = λ g below. (stops_from g, λ was. stops_to g was.0 was.1);
    closed = closed;
  } where
    stops_from : (g : ℕ) → stop (up + g) ≡ true → Contains fs g × IsKey sender.frames g
    stops_from g is = elim (from_on-cases false (was_pulled_key pulled) down (up + g)) [
      | inl low ↦ absurd (true≢false (sym is ∙ low.1))
      | inr at ↦
          let k : (k : ℕ) × Contains fs k × IsKey sender.frames k × (at.0 + down ≡ k + up) =
          key-from sender up down fs pulled are at.0 (sym at.2 ∙ is) in
          let same : k.0 ≡ g = omega (arith, at.1, k.3) in (
            subst (λ (x : ℕ). Contains fs x) same k.1,
            subst (λ (x : ℕ). IsKey sender.frames x) same k.2,
          )
    ]

    stops_to : (g : ℕ) → Contains fs g → IsKey sender.frames g → stop (up + g) ≡ true
    stops_to g was key =
        let q : (q : ℕ) × (q + down ≡ g + up) = has_picture sender up down fs pulled are g was in
        from_on-at false (was_pulled_key pulled) down (up + g) q.0 (omega (arith, q.1))
        ∙ key-to sender up down fs pulled are g q.0 was key q.1

  -- the frames from its stop on are seen exactly if a packet of each has come
  near_from : StopIsNear sender sent.tid f up tids → StopHasCome sender js rep sent.tid f
  near_from n = record {
    at = n.at;
    is_stop = n.is_stop;
    near = n.near;
    come = λ g above below.
        let t : (t : ℕ) × (tids (up + g) ≡ Some t) = some-of (tids (up + g)) (n.seen g above below) in
        let k : (k : ℕ) × (up + g ≡ up + k) × HasTid sender.frames k t.0 × SomeCame sender js rep k =
        tid_frame (up + g) t.0 t.1 in
        let same : k.0 ≡ g = omega (arith, k.1) in
        subst (λ (x : ℕ). SomeCame sender js rep x) same k.3;
  }

  near_to : StopHasCome sender js rep sent.tid f → StopIsNear sender sent.tid f up tids
  near_to n = record {
    at = n.at;
    is_stop = n.is_stop;
    near = n.near;
    seen = λ g above below.
        let p : (p : Place) × (layers_at sender.frames g ≡ Some p) = has_place g below in
        let came : SomeCame sender js rep g = n.come g above below in
        let e : (entry : ℕ × Place) × Contains told entry × (entry.1.picture + down ≡ g + up) =
        came_told sender js rep told right g p.0 p.1 came in
        let at : e.0.1.picture + down ≡ g + up = e.2 in
        let close : f ≤ n.at + REACH = n.near in
        ap is_some (from_on-at None (seen (sightings told)) down (up + g) e.0.1.picture (omega (arith, at)))
        ∙ seen-to sender js rep told right f g e.0.1.picture p.0 near (omega (arith, close, above)) p.1 came at;
  }

  -- the walk, and the one over these pictures
  same_walk : walk tids stop sent.tid REACH (up + f) []
      ≡ option_map (raised down) (walk (seen (sightings told)) (was_pulled_key pulled) sent.tid REACH place.picture [])
  same_walk = lifted_walk down (seen (sightings told)) tids (was_pulled_key pulled) stop
      (λ q. from_on-at None (seen (sightings told)) down (q + down) q refl)
      (λ q low. from_on-low None (seen (sightings told)) down q low)
      (λ q. from_on-at false (was_pulled_key pulled) down (q + down) q refl) sent.tid REACH place.picture (up + f) []
      (omega (arith, place_is.picture))

  -- Any other frame.
  module _ (plain : is_on_base sent ≡ false) where
    walk_from : is_ready (waits_for pulled to_what) ≡ true →
        StopHasCome sender js rep sent.tid f × ReferencesPulled sender f (Contains fs)
    walk_from h =
        let r : (found : List ℕ) × (to_what ≡ Some found)
        × ((q : ℕ) → is_among q found ≡ true → was_pulled pulled q ≡ true) = ready-from pulled to_what h in
        let w : StopIsNear sender sent.tid f up tids × ReferencesPulled sender f (Contains fs) =
        walked sender keeps from_key f sent place_is.sent_is plain delta up tids stop (Contains fs) sees
        (raised down r.0) (same_walk ∙ ap (option_map (raised down)) (sym (by_walk plain) ∙ r.1))
        (λ q' among.
        let q : (q : ℕ) × (q' ≡ q + down) × (is_among q r.0 ≡ true) = among_raised down q' r.0 among in
        let g : (g : ℕ) × Contains fs g × (q.0 + down ≡ g + up) =
        pulled-from sender up down fs pulled are q.0 (r.2 q.0 q.2) in
        (g.0, omega (arith, q.1, g.2), g.1)) in
        (near_from w.0, w.1)

    walk_to : StopHasCome sender js rep sent.tid f → ReferencesPulled sender f (Contains fs) →
        is_ready (waits_for pulled to_what) ≡ true
    walk_to come refs =
        let w : (found : List ℕ) × (walk tids stop sent.tid REACH (up + f) [] ≡ Some found)
        × WerePulled up (Contains fs) found =
        walks sender keeps from_key f sent place_is.sent_is plain delta up tids stop (Contains fs) sees (near_to come)
        refs in
        by (walk (seen (sightings told)) (was_pulled_key pulled) sent.tid REACH place.picture []) refl w.0
        (sym same_walk ∙ w.1) w.2 where
          by : (o : Option (List ℕ)) →
              walk (seen (sightings told)) (was_pulled_key pulled) sent.tid REACH place.picture [] ≡ o →
              (found : List ℕ) →
              option_map (raised down) (walk (seen (sightings told)) (was_pulled_key pulled) sent.tid REACH
              place.picture []) ≡ Some found → WerePulled up (Contains fs) found →
              is_ready (waits_for pulled to_what) ≡ true
          by None is found gives were =
              absurd (none-some found (sym (ap (option_map (raised down)) is) ∙ gives))
          by (Some own) is found gives were =
              let same : raised down own ≡ found =
              same_Some (raised down own) found (sym (ap (option_map (raised down)) is) ∙ gives) in
              ready-to pulled to_what own (by_walk plain ∙ is) (λ q among.
              let g : (g : ℕ) × (q + down ≡ up + g) × Contains fs g =
              were (q + down) (subst (λ (xs : List ℕ). is_among (q + down) xs ≡ true) same
              (raised_among down q own among)) in
              pulled-to sender up down fs pulled are g.0 q g.2 (omega (arith, g.1)))

  -- If it waits for nothing, it is evident to what it refers, and all that was pulled.
  pub judged-from : is_ready (waits_for pulled to_what) ≡ true →
      IsPlain sender js rep f sent (is_on_base sent) × ReferencesPulled sender f (Contains fs)
  judged-from h = by (is_on_base sent) refl where
    by : (b : Bool) → is_on_base sent ≡ b →
        IsPlain sender js rep f sent b × ReferencesPulled sender f (Contains fs)
    by true is = base_from is h
    by false is = walk_from is h

  -- And back.
  pub judged-to : IsPlain sender js rep f sent (is_on_base sent) → ReferencesPulled sender f (Contains fs) →
      is_ready (waits_for pulled to_what) ≡ true
  judged-to evident refs = by (is_on_base sent) refl evident where
    by : (b : Bool) → is_on_base sent ≡ b → IsPlain sender js rep f sent b →
        is_ready (waits_for pulled to_what) ≡ true
    by true is close = base_to is close refs
    by false is come = walk_to is come refs
