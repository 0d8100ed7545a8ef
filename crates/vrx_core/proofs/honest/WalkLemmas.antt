-- The walk back over a sender's own frames meets just the frames that the rules name, and ends where they end.
use Rattle.std.proofs.Common.{◌≡◌, ℕ, ◌+◌, ◌-◌, ◌<◌, ◌≤◌, ◌↔◌, ◌⊎◌, Bool, true, false, List, [], length, slice_get, Option, Some, IfSome, is_some, sym, ◌∙◌, ap, subst, arith, inl, inr}
use Rattle.std.specs.Prelude.{◌||◌}
use Rattle.std.proofs.lemmas.Bool.{cases_lt, false_from_ne_true, or_cases, or_from, or_left, or_right, true≢false}
use Rattle.vrx_codec.specs.declared.run.Place.{Place}
use Rattle.vrx_refs.specs.declared.sighting.Sighting.{Sighting}
use Rattle.vrx_refs.specs.References.{are_met, pictures, walk}
use Rattle.vrx_refs.specs.Laws.{is_among}
use Rattle.vrx_refs.specs.declared.limits.TheConstants.{REACH}
use Rattle.vrx_core.specs.honest.Sender.{Sender}
use Rattle.vrx_core.specs.honest.Layers.{HasTid, HaveLast, IsKey, IsLastKey, IsLastOf, IsLastSinceKey, IsLastUpTo, IsStop, KeepsLayers, is_on_base, layers_at}
use Rattle.vrx_core.specs.honest.Chain.{IsRuleReference, RefersBy}
use Rattle.vrx_core.proofs.relation.MapLemmas.{some-of}
use Rattle.vrx_core.proofs.honest.LastLemmas.{earliest, have_last, key_first, key_from, last_from, layers_within, one_tid, since_key}
use Rattle.vrx_core.proofs.honest.ReferLemmas.{down_to_key, key_tid, referred, refers}
use Rattle.vrx_core.proofs.honest.MetLemmas.{HasCome, HasMet, IsFirstOf, comes, each-met, first-among, has_come, met-each}

-- A receiver knows the picture of frame g as base + g. What it knows of the pictures below that of frame f: those
-- that it saw have the sender's TIDs; walks stop at the keyframes that were pulled; and what was pulled is closed under
-- the rule references.
pub record SeesFrames (sender : Sender) (f base : ℕ) (tids : ℕ → Option ℕ) (stop : ℕ → Bool) (Pulled : ℕ → Type 0)
    : Type 0 where
  pub below : (q : ℕ) → q < base → is_some (tids q) ≡ false
  pub tids_are : (g t : ℕ) → g < f → tids (base + g) ≡ Some t → HasTid sender.frames g t
  pub stops : (g : ℕ) → g < f → (stop (base + g) ≡ true) ↔ (Pulled g × IsKey sender.frames g)
  pub closed : (g h : ℕ) → Pulled g → IsRuleReference sender g h → Pulled h

-- the frames from the stop of frame f on lie at most 255 pictures before it, and each of them was seen
pub record StopIsNear (sender : Sender) (tid f base : ℕ) (tids : ℕ → Option ℕ) : Type 0 where
  pub at : ℕ
  pub is_stop : IsStop sender.frames tid f at
  pub near : f ≤ at + REACH
  pub seen : (g : ℕ) → at ≤ g → g < f → is_some (tids (base + g)) ≡ true

-- each of these pictures is that of a frame that was pulled
abbrev pub WerePulled : (base : ℕ) → (ℕ → Type 0) → List ℕ → Type 0
WerePulled base Pulled found = (q : ℕ) → is_among q found ≡ true → (g : ℕ) × (q ≡ base + g) × Pulled g

-- each frame to which frame f refers was pulled
abbrev pub ReferencesPulled : Sender → ℕ → (ℕ → Type 0) → Type 0
ReferencesPulled sender f Pulled = (g : ℕ) → IsRuleReference sender f g → Pulled g

module _ (sender : Sender) (keeps : KeepsLayers sender.frames)
    (from_key : IfSome (slice_get sender.frames 0) (λ frame. frame.key ≡ true)) (f : ℕ) (place : Place)
    (is : layers_at sender.frames f ≡ Some place) (plain : is_on_base place ≡ false)
    (delta : IsKey sender.frames f → ⊥) (base : ℕ) (tids : ℕ → Option ℕ) (stop : ℕ → Bool) (Pulled : ℕ → Type 0)
    (sees : SeesFrames sender f base tids stop Pulled) where
  -- the frame refers to the last one of each TID up to its own
  own : (g : ℕ) → IsLastUpTo sender.frames place.tid f g → IsRuleReference sender f g
  own g upto = refers sender f g place is delta
      (subst (λ (b : Bool). RefersBy sender.frames place b f g) (sym plain) upto)

  its_own : (g : ℕ) → IsRuleReference sender f g → IsLastUpTo sender.frames place.tid f g
  its_own g by = subst (λ (b : Bool). RefersBy sender.frames place b f g) plain (referred sender f g place is by)

  -- the last keyframe before it
  key_before : (k : ℕ) × IsLastKey sender.frames f k
  key_before = elim (cases_lt 0 f) [
    | inl more ↦ let k : (k : ℕ) × (0 ≤ k) × IsLastKey sender.frames f k =
        key_from sender.frames f 0 more first in (k.0, k.2)
    | inr less ↦ let same : 0 ≡ f = omega (arith, less) in
        absurd (delta (subst (λ (x : ℕ). IsKey sender.frames x) same first))
  ] where
    within : f < length sender.frames
    within = layers_within sender.frames f place is

    first : IsKey sender.frames 0
    first = key_first sender.frames from_key (omega (arith, within))

  -- a frame that is seen has its TID
  tid_there : (g t : ℕ) → g < f → is_some (tids (base + g)) ≡ true → HasTid sender.frames g t →
      tids (base + g) ≡ Some t
  tid_there g t below seen of_tid =
      let u : (u : ℕ) × (tids (base + g) ≡ Some u) = some-of (tids (base + g)) seen in
      let same : u.0 ≡ t =
      one_tid u.0 t (layers_at sender.frames g) (sees.tids_are g u.0 below u.1) of_tid in
      u.1 ∙ ap Some same

  -- The frames from l on are seen.
  module _ (l : ℕ) (seen : (g : ℕ) → l ≤ g → g < f → is_some (tids (base + g)) ≡ true) where
    -- the first picture of a TID on the way is that of the last frame of this TID
    frame_of : (q t : ℕ) → IsFirstOf tids place.tid (base + f) (base + l) q t →
        (g : ℕ) × (q ≡ base + g) × (l ≤ g) × IsLastOf sender.frames t f g
    frame_of q t first = (
      g,
      at,
      upto,
      record {
        before = below;
        of_tid = sees.tids_are g t below (ap tids (sym at) ∙ first.has);
        last = λ h above under of_tid. first.first (base + h) (omega (arith, at, above)) (omega (arith, under))
            (tid_there h t under (seen h (omega (arith, upto, above)) under) of_tid);
      },
    ) where
      g : ℕ
      g = q - base

      at : q ≡ base + g
      at = let above : base + l ≤ q = first.above in omega arith

      upto : l ≤ g
      upto = let above : base + l ≤ q = first.above in omega arith

      below : g < f
      below = let above : base + l ≤ q = first.above in let under : q < base + f = first.under in omega arith

    -- and back
    first_of : (g t : ℕ) → l ≤ g → t ≤ place.tid → IsLastOf sender.frames t f g →
        IsFirstOf tids place.tid (base + f) (base + l) (base + g) t
    first_of g t upto low last = record {
      above = omega (arith, upto);
      under = let before : g < f = last.before in omega (arith, before);
      has = tid_there g t last.before (seen g upto last.before) last.of_tid;
      low = low;
      first = λ r above under has.
          let at : r ≡ base + (r - base) = omega (arith, above) in
          let below : r - base < f = omega (arith, above, under) in
          last.last (r - base) (omega (arith, above)) below
          (sees.tids_are (r - base) t below (ap tids (sym at) ∙ has));
    }

    -- what was met is that of frames
    met_frame : (met : List Sighting) → HasMet tids place.tid (base + f) (base + l) met → (q : ℕ) →
        is_among q (pictures met) ≡ true →
        (g : ℕ) × (q ≡ base + g) × (l ≤ g) × (t : ℕ) × (t ≤ place.tid) × IsLastOf sender.frames t f g
    met_frame met has q among =
        let one : (t : ℕ) × IsFirstOf tids place.tid (base + f) (base + l) q t = has.sound q among in
        let g : (g : ℕ) × (q ≡ base + g) × (l ≤ g) × IsLastOf sender.frames one.0 f g = frame_of q one.0 one.1 in
        (g.0, g.1, g.2, one.0, one.1.low, g.3)

    -- if all TIDs were met, each has a last frame from l on
    all_met : (met : List Sighting) → HasMet tids place.tid (base + f) (base + l) met →
        are_met place.tid met ≡ true → (t : ℕ) → t ≤ place.tid → (g : ℕ) × (l ≤ g) × IsLastOf sender.frames t f g
    all_met met has all t low =
        let one : (q : ℕ) × (is_among q (pictures met) ≡ true)
        × IsFirstOf tids place.tid (base + f) (base + l) q t =
        met-each tids place.tid (base + f) (base + l) met has all t low in
        let g : (g : ℕ) × (one.0 ≡ base + g) × (l ≤ g) × IsLastOf sender.frames t f g = frame_of one.0 t one.2 in
        (g.0, g.2, g.3)

    met_all : (met : List Sighting) → HasMet tids place.tid (base + f) (base + l) met →
        ((t : ℕ) → t ≤ place.tid → (g : ℕ) × (l ≤ g) × IsLastOf sender.frames t f g) → are_met place.tid met ≡ true
    met_all met has each = each-met tids place.tid (base + f) (base + l) met has (λ t low.
        let g : (g : ℕ) × (l ≤ g) × IsLastOf sender.frames t f g = each t low in
        let first : IsFirstOf tids place.tid (base + f) (base + l) (base + g.0) t = first_of g.0 t g.1 low g.2 in
        (base + g.0, first.above, first.under, first.has))

  -- A walk came to the picture of frame l.
  module _ (l : ℕ) (found : List ℕ) (come : HasCome tids place.tid (base + f) stop found (base + l))
      (pulled : WerePulled base Pulled found) where
    seen_from : (g : ℕ) → l ≤ g → g < f → is_some (tids (base + g)) ≡ true
    seen_from g upto below = come.has.seen (base + g) (omega (arith, upto)) (omega (arith, below))

    -- the last frame of each TID was pulled, if it isn't before l
    pulled_from : (g t : ℕ) → l ≤ g → t ≤ place.tid → IsLastOf sender.frames t f g → Pulled g
    pulled_from g t upto low last =
        let among : is_among (base + g) (pictures come.met) ≡ true =
        first-among tids place.tid (base + f) (base + l) (base + g) t come.met come.has
        (first_of l seen_from g t upto low last) in
        let one : (h : ℕ) × (base + g ≡ base + h) × Pulled h =
        pulled (base + g) (subst (λ (xs : List ℕ). is_among (base + g) xs ≡ true) come.gives among) in
        let same : one.0 ≡ g = let at : base + g ≡ base + one.0 = one.1 in omega (arith, at) in
        subst Pulled same one.2

    below : l < f
    below = let under : base + l < base + f = come.below in omega (arith, under)

    -- l is not before the last keyframe
    key_upto : (k : ℕ) → IsLastKey sender.frames f k → k ≤ l
    key_upto k key = elim (cases_lt l k) [
      | inl less ↦
          let b : (b : ℕ) × (k ≤ b) × IsLastOf sender.frames 0 f b =
          last_from sender.frames 0 f k key.before (key_tid sender.frames keeps k key.key) in
          let first : Pulled b.0 = pulled_from b.0 0 (omega (arith, b.1, less)) (omega arith) b.2 in
          let was : Pulled k =
          down_to_key sender keeps Pulled sees.closed f k key b.0 b.1 b.2.before b.2.of_tid first in
          let before : k < f = key.before in
          let goes : stop (base + k) ≡ false =
          come.goes_on (base + k) (omega (arith, less)) (omega (arith, before)) in
          absurd (true≢false (sym ((sees.stops k key.before).1 (was, key.key)) ∙ goes))
      | inr more ↦ more
    ]

    -- how it ended: all TIDs have a last frame from l on, or l is a keyframe
    ended : ((t : ℕ) → t ≤ place.tid → (g : ℕ) × (l ≤ g) × IsLastOf sender.frames t f g) ⊎ IsKey sender.frames l
    ended = elim (or_cases (are_met place.tid come.met) (stop (base + l)) come.ends) [
      | inl all ↦ inl (all_met l seen_from come.met come.has all)
      | inr stops ↦ inr ((sees.stops l below).0 stops).1
    ]

    -- so the references don't lie before l
    reference_upto : (g : ℕ) → IsLastUpTo sender.frames place.tid f g → l ≤ g
    reference_upto g upto = elim (cases_lt g l) [
      | inl less ↦ elim ended [
        | inl all ↦ let h : (h : ℕ) × (l ≤ h) × IsLastOf sender.frames upto.0 f h = all upto.0 upto.1 in
            absurd (upto.2.last_of.last h.0 (omega (arith, less, h.1)) h.2.before h.2.of_tid)
        | inr key ↦ absurd (upto.2.since_key l less below key)
      ]
      | inr more ↦ more
    ]

    references_pulled : ReferencesPulled sender f Pulled
    references_pulled g by = let upto : IsLastUpTo sender.frames place.tid f g = its_own g by in
        pulled_from g upto.0 (reference_upto g upto) upto.1 upto.2.last_of

    stop_near : f ≤ l + REACH → StopIsNear sender place.tid f base tids
    stop_near near = elim (have_last sender.frames place.tid f k key) [
      | inl have ↦
          let s : (s : ℕ) × IsLastUpTo sender.frames place.tid f s
          × ((g : ℕ) → IsLastUpTo sender.frames place.tid f g → s ≤ g) =
          earliest sender.frames place.tid f have in
          let upto : l ≤ s.0 = reference_upto s.0 s.1 in record {
            at = s.0;
            is_stop = inl (have, s.1, s.2);
            near = omega (arith, near, upto);
            seen = λ g above under. seen_from g (omega (arith, upto, above)) under;
          }
      | inr none ↦
          let upto : l ≤ k = key_from_end none in record {
            at = k;
            is_stop = inr (none, key);
            near = omega (arith, near, upto);
            seen = λ g above under. seen_from g (omega (arith, upto, above)) under;
          }
    ] where
      k : ℕ
      k = key_before.0

      key : IsLastKey sender.frames f k
      key = key_before.1

      key_from_end : (HaveLast sender.frames place.tid f → ⊥) → l ≤ k
      key_from_end none = elim ended [
        | inl all ↦ absurd (none (λ t low.
            let g : (g : ℕ) × (l ≤ g) × IsLastOf sender.frames t f g = all t low in
            let upto : k ≤ l = key_upto k key in
            (g.0, since_key sender.frames t f g.0 k key g.2 (omega (arith, upto, g.1)))))
        | inr is_key ↦ elim (cases_lt k l) [
          | inl less ↦ absurd (key.last l less below is_key)
          | inr more ↦ more
        ]
      ]

  -- If a walk back from frame f comes to an end, and all that it gives was pulled, then the frames from the stop of f
  -- on are seen, and its references were pulled.
  pub walked : (found : List ℕ) → walk tids stop place.tid REACH (base + f) [] ≡ Some found →
      WerePulled base Pulled found → StopIsNear sender place.tid f base tids × ReferencesPulled sender f Pulled
  walked found gives pulled =
      let end : (last : ℕ) × (base + f ≤ last + REACH) × HasCome tids place.tid (base + f) stop found last =
      has_come tids place.tid (base + f) stop REACH found gives in
      elim (cases_lt end.0 base) [
        | inl less ↦ let below : is_some (tids end.0) ≡ true =
            end.2.has.seen end.0 (omega arith) end.2.below in
            absurd (true≢false (sym below ∙ sees.below end.0 less))
        | inr more ↦
            let at : end.0 ≡ base + (end.0 - base) = omega (arith, more) in
            let come : HasCome tids place.tid (base + f) stop found (base + (end.0 - base)) =
            subst (λ (x : ℕ). HasCome tids place.tid (base + f) stop found x) at end.2 in
            let far : base + f ≤ end.0 + REACH = end.1 in
            let near : f ≤ end.0 - base + REACH = omega (arith, more, far) in (
              stop_near (end.0 - base) found come pulled near,
              references_pulled (end.0 - base) found come pulled,
            )
      ]

  -- The frames from the stop of frame f on are seen, and its references were pulled.
  module _ (near : StopIsNear sender place.tid f base tids) (pulled : ReferencesPulled sender f Pulled) where
    abbrev s : ℕ
    s = near.at

    -- the stop lies before f, and no keyframe between them
    stop_before : s < f
    stop_before = elim near.is_stop [
      | inl have ↦ have.1.2.last_of.before
      | inr none ↦ none.1.before
    ]

    no_key : (h : ℕ) → s < h → h < f → IsKey sender.frames h → ⊥
    no_key h above below is_key = elim near.is_stop [
      | inl have ↦ have.1.2.since_key h above below is_key
      | inr none ↦ none.1.last h above below is_key
    ]

    -- not all TIDs have a last frame behind the stop
    not_all : (l : ℕ) → s < l → ((t : ℕ) → t ≤ place.tid → (g : ℕ) × (l ≤ g) × IsLastOf sender.frames t f g) → ⊥
    not_all l above all = elim near.is_stop [
      | inl have ↦
          let h : (h : ℕ) × (l ≤ h) × IsLastOf sender.frames have.1.0 f h = all have.1.0 have.1.1 in
          have.1.2.last_of.last h.0 (omega (arith, above, h.1)) h.2.before h.2.of_tid
      | inr none ↦ none.0 (λ t low.
          let g : (g : ℕ) × (l ≤ g) × IsLastOf sender.frames t f g = all t low in
          (g.0, since_key sender.frames t f g.0 s none.1 g.2 (omega (arith, above, g.1))))
    ]

    seen_to : (l : ℕ) → s ≤ l → (g : ℕ) → l ≤ g → g < f → is_some (tids (base + g)) ≡ true
    seen_to l from g upto below = near.seen g (omega (arith, from, upto)) below

    -- so a walk goes on behind the stop
    goes : (q : ℕ) (met : List Sighting) → base + s < q → q < base + f → HasMet tids place.tid (base + f) q met →
        (are_met place.tid met || stop q) ≡ false
    goes q met above under has = or_from (are_met place.tid met) (stop q)
        (false_from_ne_true (are_met place.tid met) (λ all. not_all l behind
        (all_met l (seen_to l (omega (arith, behind))) met
        (subst (λ (x : ℕ). HasMet tids place.tid (base + f) x met) at has) all)))
        (false_from_ne_true (stop q) (λ stops. no_key l behind below
        ((sees.stops l below).0 (ap stop (sym at) ∙ stops)).1)) where
          l : ℕ
          l = q - base

          at : q ≡ base + l
          at = omega (arith, above)

          behind : s < l
          behind = omega (arith, above)

          below : l < f
          below = omega (arith, above, under)

    -- and ends there
    ends : (met : List Sighting) → HasMet tids place.tid (base + f) (base + s) met →
        (are_met place.tid met || stop (base + s)) ≡ true
    ends met has = elim near.is_stop [
      | inl have ↦ or_left (are_met place.tid met) (stop (base + s)) (met_all s (seen_to s (omega arith)) met has
          (λ t low. let g : (g : ℕ) × IsLastSinceKey sender.frames t f g = have.0 t low in
          (g.0, have.2 g.0 (t, low, g.1), g.1.last_of)))
      | inr none ↦
          let b : (b : ℕ) × (s ≤ b) × IsLastOf sender.frames 0 f b =
          last_from sender.frames 0 f s none.1.before (key_tid sender.frames keeps s none.1.key) in
          let since : IsLastSinceKey sender.frames 0 f b.0 = since_key sender.frames 0 f b.0 s none.1 b.2 b.1 in
          let first : Pulled b.0 = pulled b.0 (own b.0 (0, omega arith, since)) in
          let was : Pulled s =
          down_to_key sender keeps Pulled sees.closed f s none.1 b.0 b.1 b.2.before b.2.of_tid first in
          or_right (are_met place.tid met) (stop (base + s)) ((sees.stops s none.1.before).1 (was, none.1.key))
    ]

    -- what is met on the way are references
    met_pulled : (met : List Sighting) → HasMet tids place.tid (base + f) (base + s) met →
        WerePulled base Pulled (pictures met)
    met_pulled met has q among =
        let g : (g : ℕ) × (q ≡ base + g) × (s ≤ g) × (t : ℕ) × (t ≤ place.tid) × IsLastOf sender.frames t f g =
        met_frame s (seen_to s (omega arith)) met has q among in (
          g.0,
          g.1,
          pulled g.0 (own g.0 (
            g.3,
            g.4,
            record {
              last_of = g.5;
              since_key = λ h above below is_key. no_key h (omega (arith, g.2, above)) below is_key;
            },
          )),
        )

    -- Then a walk back from frame f comes to an end, and all that it gives was pulled.
    pub walks : (found : List ℕ) × (walk tids stop place.tid REACH (base + f) [] ≡ Some found)
        × WerePulled base Pulled found
    walks =
        let to : (met : List Sighting) × HasMet tids place.tid (base + f) (base + s) met
        × (walk tids stop place.tid REACH (base + f) [] ≡ Some (pictures met)) =
        comes tids place.tid (base + f) stop (base + s) all_seen goes ends REACH (omega (arith, stop_before))
        (omega (arith, close)) in
        (pictures to.0, to.2, met_pulled to.0 to.1) where
          close : f ≤ s + REACH
          close = near.near

          all_seen : (q : ℕ) → base + s ≤ q → q < base + f → is_some (tids q) ≡ true
          all_seen q above under =
              let at : q ≡ base + (q - base) = omega (arith, above) in
              ap (λ (x : ℕ). is_some (tids x)) at
              ∙ near.seen (q - base) (omega (arith, above)) (omega (arith, above, under))
