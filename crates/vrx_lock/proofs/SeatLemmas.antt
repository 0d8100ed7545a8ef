-- A split, a join and the last state keep the rule.
use Rattle.std.proofs.Common.{◌≡◌, ◌∙◌, ℕ, ◌+◌, ◌<◌, ◌≤◌, List, [], ◌∷◌, length, get_or, set, Option, Some, refl, sym, subst, inl, ⊎_elim, arith}
use mathlib.Core.Option.{some}
use lib.ListN.{get_elem?}
use Rattle.atomic_table.specs.Table.{Final, Joins, Seen, Splits}
use Rattle.atomic_table.proofs.Lists.{at_longer, at_snoc, set_else}
use Rattle.vrx_lock.specs.declared.entry.Entry.{Entry}
use Rattle.vrx_lock.specs.declared.known.Setup.{Setup}
use Rattle.vrx_lock.specs.declared.view.View.{View}
use Rattle.vrx_lock.specs.declared.view.Hand.TheVariants.{Idle}
use Rattle.vrx_lock.specs.Lists.{BeginsWith, counted_from}
use Rattle.vrx_lock.specs.Shares.{IsWhole}
use Rattle.vrx_lock.specs.Seats.{longer}
use Rattle.vrx_lock.specs.inside.Stored.{Stored, stored}
use Rattle.vrx_lock.specs.inside.Rule.{Ruled, Sound, total}
use Rattle.vrx_lock.specs.inside.Steps.{both_views, left_view, right_view, spent_view}
use Rattle.vrx_lock.proofs.Totals.{total-append, total-double, total-set, total-two}
use Rattle.vrx_lock.proofs.PlaceLemmas.{below-merged, below-more, below-once, is_at, rises-merged, total-merged}
use Rattle.vrx_lock.proofs.BeginLemmas.{begins-longer, begins-nothing, begins-shorter, longer-length}
use Rattle.vrx_lock.proofs.ShareLemmas.{added-deep, added-live, parts-added, parts-double, parts-halved, pow-next}
use Rattle.vrx_lock.proofs.RuleLemmas.{St, each-set, in_places, in_share, moved, not-holder, whole-free, whole-places}

module _ (key : Setup) where
  pub splits : (id : ℕ) (v : View) (actor : ℕ) → v.hand ≡ Idle
      → Splits (Ruled key) id v (left_view v) (right_view actor v)
  splits id v actor idle s r at =
      let left : View = left_view v in
      let right : View = right_view actor v in
      let turn : ℕ = get_or s.words 0 0 in
      let sound = r.each id v at in
      let depth : ℕ = r.depth + 1 in
      let of_left : Sound key r.journal turn r.holder depth id left = record {
        seen = sound.seen;
        told = sound.told;
        rises = sound.rises;
        mine = sound.mine;
        hand = sound.hand;
        deep = omega (arith, sound.deep);
        setup = sound.setup;
        spent = sound.spent;
      } in
      let of_right : (i : ℕ) → Sound key r.journal turn r.holder depth i right = λ i. record {
        seen = sound.seen;
        told = begins-nothing r.journal;
        rises = tt;
        mine = tt;
        hand = inl refl;
        deep = omega (arith, sound.deep);
        setup = sound.setup;
        spent = λ gone. (refl, refl);
      } in
      let lefts : (i : ℕ) (u : View) → get_elem? (set s.views id left) i ≡ some u → Sound key r.journal turn r.holder depth i u =
      each-set (Sound key r.journal turn r.holder depth) s.views id left of_left
      (λ j u ne at'. moved key r.journal r.journal turn turn r.holder r.holder r.depth depth j u (λ xs b. b)
      (omega arith) (r.each j u at').hand (r.each j u at')) in
      let twice = total-double (in_share r.depth) (in_share depth) s.views
      (λ i u at'. parts-double r.depth u.known.share (r.each i u at').deep) in
      record {
        journal = r.journal;
        holder = r.holder;
        depth = depth;
        wide = r.wide;
        count = r.count;
        fits = r.fits;
        home = r.home;
        held = λ taken. let h = r.held taken in (
          h.0,
          at_longer (set s.views id left) (right ∷ []) r.holder h.0
              (set_else s.views id r.holder left (not-holder key s r id v at idle taken) ∙ h.1),
          h.2,
        );
        each = λ i u at'. ⊎_elim (λ e. lefts i u e)
            (λ e. subst (Sound key r.journal turn r.holder depth i) e (of_right i)) (at_snoc (set s.views id left) right u i at');
        places = λ f. omega (
          arith,
          total-append (in_places f) (set s.views id left) (right ∷ []),
          total-set (in_places f) s.views id v left at,
          r.places f,
        );
        shares = omega (
          arith,
          total-append (in_share depth) (set s.views id left) (right ∷ []),
          total-set (in_share depth) s.views id v left at,
          twice,
          r.shares,
          parts-halved r.depth v.known.share,
          parts-double r.depth v.known.share sound.deep,
          pow-next r.depth,
        );
      }

  pub joins : (id : ℕ) (v : View) (other : ℕ) (w : View) → v.hand ≡ Idle → w.hand ≡ Idle → 0 < v.known.share.parts
      → Joins (Ruled key) id v other w (both_views v w) spent_view
  joins id v other w idle idle' live s r at ne at' =
      let both : View = both_views v w in
      let turn : ℕ = get_or s.words 0 0 in
      let there : get_elem? s.views other ≡ some w = sym (set_else s.views id other both ne) ∙ at' in
      let one = r.each id v at in
      let two = r.each other w there in
      let apart : (n : ℕ) → total (is_at n) v.known.places + total (is_at n) w.known.places ≤ 1 =
      λ n. omega (
        arith,
        total-two (in_places (is_at n)) s.views id other v w (λ e. ne (sym e)) at there,
        r.places (is_at n),
        below-once n (length r.journal),
      ) in
      let long = longer-length v.known.seen w.known.seen in
      let of_both : Sound key r.journal turn r.holder r.depth id both = record {
        seen = begins-longer r.journal v.known.seen w.known.seen one.seen two.seen;
        told = begins-shorter r.journal v.known.seen w.known.seen one.seen two.seen;
        rises = rises-merged v.known.places w.known.places two.rises apart;
        mine = below-merged (length (longer v.known.seen w.known.seen)) v.known.places w.known.places
            (below-more (length v.known.seen) (length (longer v.known.seen w.known.seen)) v.known.places long.0 one.mine)
            (below-more (length w.known.seen) (length (longer v.known.seen w.known.seen)) w.known.places long.1 two.mine);
        hand = inl refl;
        deep = added-deep r.depth v.known.share w.known.share one.deep two.deep;
        setup = λ lt. one.setup live;
        spent = λ gone. absurd (omega (arith, gone, added-live v.known.share w.known.share live));
      } in
      let of_spent : Sound key r.journal turn r.holder r.depth other spent_view = record {
        seen = begins-nothing r.journal;
        told = begins-nothing r.journal;
        rises = tt;
        mine = tt;
        hand = inl refl;
        deep = omega arith;
        setup = λ lt. absurd (omega (arith, lt));
        spent = λ gone. (refl, refl);
      } in
      record {
        journal = r.journal;
        holder = r.holder;
        depth = r.depth;
        wide = r.wide;
        count = r.count;
        fits = r.fits;
        home = r.home;
        held = λ taken. let h = r.held taken in (
          h.0,
          set_else (set s.views id both) other r.holder spent_view (not-holder key s r other w there idle' taken)
              ∙ set_else s.views id r.holder both (not-holder key s r id v at idle taken) ∙ h.1,
          h.2,
        );
        each = each-set (Sound key r.journal turn r.holder r.depth) (set s.views id both) other spent_view of_spent
            (λ j u ne' at''. each-set (Sound key r.journal turn r.holder r.depth) s.views id both of_both
            (λ k x ne'' at'''. r.each k x at''') j u at'');
        places = λ f. omega (
          arith,
          total-set (in_places f) (set s.views id both) other w spent_view at',
          total-set (in_places f) s.views id v both at,
          r.places f,
          total-merged f v.known.places w.known.places,
        );
        shares = omega (
          arith,
          total-set (in_share r.depth) (set s.views id both) other w spent_view at',
          total-set (in_share r.depth) s.views id v both at,
          r.shares,
          parts-added r.depth v.known.share w.known.share one.deep two.deep,
        );
      }

  -- the last state, if a whole seat is idle
  pub record Closed (v : View) (slots : List (Option Stored)) : Type 0 where
    pub journal : List Entry
    pub slot : get_elem? slots 0 ≡ some (Some (stored key journal))
    pub begins : BeginsWith journal v.known.seen
    pub places : v.known.places ≡ counted_from 0 (length journal)
    pub room : length journal ≤ key.room

  pub closes : (id : ℕ) (v : View) (words : List ℕ) (slots : List (Option Stored))
      → Final (Seen (Ruled key) id v) words slots → v.hand ≡ Idle → IsWhole v.known.share → Closed v slots
  closes id v words slots last idle whole =
      let s : St = last.0 in
      let r : Ruled key s = last.1.0 in
      let at : get_elem? s.views id ≡ some v = last.1.1 in
      record {
        journal = r.journal;
        slot = last.4 0 (Some (stored key r.journal)) (r.home (whole-free key s r id v at idle whole));
        begins = (r.each id v at).seen;
        places = whole-places key s r id v at whole;
        room = r.fits;
      }
