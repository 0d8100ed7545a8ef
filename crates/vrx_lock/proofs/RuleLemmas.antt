-- What the rule says of a seat, and what it takes to keep it when the view of one seat changes.
use Rattle.std.proofs.Common.{◌≡◌, ◌≢◌, ◌∙◌, ℕ, zero, suc, ◌+◌, ◌≤◌, ◌⊎◌, List, [], ◌∷◌, length, get_or, set, Option, Some, refl, sym, ap, subst, ⊎_elim, arith}
use mathlib.Core.Logic.{dite}
use mathlib.Core.Option.{some, some-injective, some-ne-none}
use mathlib.Core.Option as maybe
use native.Mathlib.Decide.{ℕ_discrete}
use lib.ListN.{get_elem?}
use Rattle.atomic_table.specs.Table.{State}
use Rattle.atomic_table.proofs.Lists.{at_set}
use Rattle.vrx_lock.specs.declared.entry.Entry.{Entry}
use Rattle.vrx_lock.specs.declared.known.Setup.{Setup}
use Rattle.vrx_lock.specs.declared.view.View.{View}
use Rattle.vrx_lock.specs.declared.view.Hand.{Hand}
use Rattle.vrx_lock.specs.declared.view.Hand.TheVariants.{Idle, Holding}
use Rattle.vrx_lock.specs.Lists.{AllBelow, BeginsWith, counted_from}
use Rattle.vrx_lock.specs.Shares.{IsWhole, parts_at}
use Rattle.vrx_lock.specs.inside.Stored.{Stored, stored}
use Rattle.vrx_lock.specs.inside.Rule.{Ruled, Sound, total, total_below}
use Rattle.vrx_lock.proofs.Totals.{below-one, one, total-one, total-only, total-set, total-two}
use Rattle.vrx_lock.proofs.PlaceLemmas.{below-more, rises-all, rises-few}
use Rattle.vrx_lock.proofs.BeginLemmas.{begins-length}
use Rattle.vrx_lock.proofs.ShareLemmas.{parts-none, parts-whole}

abbrev pub St : Type 0
St = State (Option Stored) View

-- the slot at home
abbrev pub Homes : Type 0
Homes = List (maybe.Option (Option Stored))

-- what a function of a view's places comes to
abbrev pub in_places : (ℕ → ℕ) → View → ℕ
in_places f v = total f v.known.places

abbrev pub in_share : ℕ → View → ℕ
in_share depth v = parts_at depth v.known.share

-- what the rule says of a view's hand
abbrev pub HandIs : List Entry → ℕ → ℕ → ℕ → View → Type 0
HandIs journal turn holder i v =
    (v.hand ≡ Idle) ⊎ ((v.hand ≡ Holding journal) × (i ≡ holder) × (turn ≡ v.known.actor + 1))

pub not-both : (h : Hand) (journal : List Entry) → h ≡ Idle → h ≡ Holding journal → ⊥
not-both h journal a b = cc

pub one-journal : (h : Hand) (j k : List Entry) → h ≡ Holding j → h ≡ Holding k → j ≡ k
one-journal h j k a b = cc

pub at-here : {A : Type 0} (xs : List A) (i : ℕ) (x y : A) → get_elem? xs i ≡ some x → get_elem? (set xs i y) i ≡ some y
at-here [] i x y at = absurd (some-ne-none x (sym at))
at-here (z ∷ zs) zero x y at = refl
at-here (z ∷ zs) (suc i) x y at = at-here zs i x y at

-- what holds of one view that was set, and of all others, holds of each
pub each-set : (K : ℕ → View → Type 0) (vs : List View) (id : ℕ) (w : View) → K id w
    → ((j : ℕ) (u : View) → j ≢ id → get_elem? vs j ≡ some u → K j u)
    → (j : ℕ) (u : View) → get_elem? (set vs id w) j ≡ some u → K j u
each-set K vs id w mine others j u at = ⊎_elim
    (λ (t : (j ≡ id) × (w ≡ u)). subst (λ (x : ℕ × View). K x.0 x.1) (λ k. (sym t.0 k, t.1 k)) mine)
    (λ (t : (j ≢ id) × (get_elem? vs j ≡ some u)). others j u t.0 t.1) (at_set vs id j w u at)

module _ (key : Setup) where
  -- a view stays sound if the journal grows and the rest of the table changes
  pub moved : (j j' : List Entry) (t t' h h' d d' i : ℕ) (v : View)
      → ((xs : List Entry) → BeginsWith j xs → BeginsWith j' xs) → d ≤ d' → HandIs j' t' h' i v
      → Sound key j t h d i v → Sound key j' t' h' d' i v
  moved j j' t t' h h' d d' i v more le hand s = record {
    seen = more v.known.seen s.seen;
    told = more v.told s.told;
    rises = s.rises;
    mine = s.mine;
    hand = hand;
    deep = omega (arith, le, s.deep);
    setup = s.setup;
    spent = s.spent;
  }

  -- a step that changes the view of one seat, which keeps its share
  pub steps : (s : St) (r : Ruled key s) (id : ℕ) (v w : View) (words : List ℕ) (homes : Homes) (journal : List Entry)
      (holder : ℕ) → get_elem? s.views id ≡ some v → length words ≡ 2 → get_or words 1 0 ≡ length journal
      → length journal ≤ key.room
      → (get_or words 0 0 ≡ 0 → get_elem? homes 0 ≡ some (some (Some (stored key journal))))
      → (get_or words 0 0 ≢ 0 → (u : View) × (get_elem? (set s.views id w) holder ≡ some u) × (u.hand ≡ Holding journal))
      → ((xs : List Entry) → BeginsWith r.journal xs → BeginsWith journal xs)
      → ((j : ℕ) (u : View) → j ≢ id → get_elem? s.views j ≡ some u → HandIs journal (get_or words 0 0) holder j u)
      → Sound key journal (get_or words 0 0) holder r.depth id w
      → ((f : ℕ → ℕ) → in_places f w + total_below f (length r.journal) ≡ in_places f v + total_below f (length journal))
      → w.known.share ≡ v.known.share → Ruled key record { words = words; homes = homes; views = set s.views id w }
  steps s r id v w words homes journal holder at wide count fits home held more others mine places share = record {
    journal = journal;
    holder = holder;
    depth = r.depth;
    wide = wide;
    count = count;
    fits = fits;
    home = home;
    held = held;
    each = each-set (Sound key journal (get_or words 0 0) holder r.depth) s.views id w mine
        (λ j u ne at'. moved r.journal journal (get_or s.words 0 0) (get_or words 0 0) r.holder holder r.depth r.depth j u
        more (omega arith) (others j u ne at') (r.each j u at'));
    places = λ f. omega (arith, total-set (in_places f) s.views id v w at, r.places f, places f);
    shares = omega (
      arith,
      total-set (in_share r.depth) s.views id v w at,
      r.shares,
      ap (λ x. parts_at r.depth x) share,
    );
  }

  module _ (s : St) (r : Ruled key s) (id : ℕ) (v : View) (at : get_elem? s.views id ≡ some v) where
    -- a seat without the turn isn't the holder
    pub not-holder : v.hand ≡ Idle → get_or s.words 0 0 ≢ 0 → r.holder ≢ id
    not-holder idle taken same =
        let h = r.held taken in
        let u : View = h.0 in
        let is : u ≡ v = some-injective u v (sym (sym (ap (λ k. get_elem? s.views k) same) ∙ h.1) ∙ at) in
        not-both v.hand r.journal idle (ap (λ (x : View). x.hand) (sym is) ∙ h.2)

    -- beside a whole seat all others are spent
    pub others-spent : IsWhole v.known.share → (j : ℕ) (u : View) → j ≢ id → get_elem? s.views j ≡ some u
        → u.known.share.parts ≡ 0
    others-spent whole j u ne at' =
        let two = total-two (in_share r.depth) s.views id j v u (λ e. ne (sym e)) at at' in
        let all = parts-whole r.depth v.known.share (r.each id v at).deep whole in
        parts-none r.depth u.known.share (omega (arith, two, all, r.shares))

    -- and the turn is free, or its own
    pub whole-free : v.hand ≡ Idle → IsWhole v.known.share → get_or s.words 0 0 ≡ 0
    whole-free idle whole = dite (ℕ_discrete (get_or s.words 0 0) 0) (λ e. e) (λ taken.
        let h = r.held taken in
        let none = others-spent whole r.holder h.0 (not-holder idle taken) h.1 in
        absurd (not-both h.0.hand r.journal ((r.each r.holder h.0 h.1).spent none).1 h.2))

    -- and it has all places
    pub whole-length : IsWhole v.known.share → length v.known.places ≡ length r.journal
    whole-length whole =
        let only = total-only (in_places one) s.views id v at (λ j u ne at'.
        ap (λ x. total one x) ((r.each j u at').spent (others-spent whole j u ne at')).0) in
        omega (arith, total-one v.known.places, only, r.places one, below-one (length r.journal))

    pub below-journal : AllBelow (length r.journal) v.known.places
    below-journal =
        let sound = r.each id v at in
        below-more (length v.known.seen) (length r.journal) v.known.places (begins-length r.journal v.known.seen sound.seen)
        sound.mine

    pub whole-places : IsWhole v.known.share → v.known.places ≡ counted_from 0 (length r.journal)
    whole-places whole =
        let count = whole-length whole in
        rises-all 0 (length r.journal) v.known.places (omega arith) (r.each id v at).rises below-journal
        (omega (arith, count)) ∙ ap (counted_from 0) count

    pub whole-seen : IsWhole v.known.share → v.known.places ≡ counted_from 0 (length v.known.seen)
    whole-seen whole =
        let sound = r.each id v at in
        let few = rises-few 0 (length v.known.seen) v.known.places (omega arith) sound.rises sound.mine in
        let long = begins-length r.journal v.known.seen sound.seen in
        let count : length v.known.places ≡ length v.known.seen = omega (arith, few, long, whole-length whole) in
        rises-all 0 (length v.known.seen) v.known.places (omega arith) sound.rises sound.mine (omega (arith, count))
        ∙ ap (counted_from 0) count
