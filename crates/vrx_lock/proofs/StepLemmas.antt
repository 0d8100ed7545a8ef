-- Each step on a word keeps the rule, and tells what it should.
use Rattle.std.proofs.Common.{◌≡◌, ◌≢◌, ◌∙◌, ℕ, suc, ◌+◌, ◌%◌, ◌<◌, List, [], ◌∷◌, ◌++◌, length, get_or, set, Option, Some, eqb, length-append, length-set, get_or-set_other, get_or-set_same, refl, sym, ap, subst, inl, inr, ⊎_elim, arith}
use mathlib.Core.Logic.{dite}
use mathlib.Core.Option.{none, some, some-injective}
use native.Mathlib.Decide.{ℕ_discrete}
use lib.ListN.{get_elem?}
use prog.Atomic.{either}
use Rattle.atomic_table.specs.Table.{Act, Allows, Valid, carried_after, gives, homes_after, keeps, put_back, rest, stepped, takes}
use Rattle.atomic_table.proofs.Lists.{exchanged, set_else, set_here}
use Rattle.vrx_lock.specs.declared.entry.Entry.{Entry}
use Rattle.vrx_lock.specs.declared.known.Setup.{Setup}
use Rattle.vrx_lock.specs.declared.view.View.{View}
use Rattle.vrx_lock.specs.declared.view.Hand.TheVariants.{Idle, Holding}
use Rattle.vrx_lock.specs.Lists.{AllBelow, BeginsWith, RisesFrom, counted_from}
use Rattle.vrx_lock.specs.inside.Stored.{Stored, stored}
use Rattle.vrx_lock.specs.inside.Rule.{Ruled, Sound, total, total_below}
use Rattle.vrx_lock.specs.inside.Steps.{Appended, Claimed, IsHolding, IsIdle, IsNoted, Looked, Place, Released, Settled, newest}
use Rattle.vrx_lock.proofs.Totals.{total-append}
use Rattle.vrx_lock.proofs.PlaceLemmas.{below-last, rises-last}
use Rattle.vrx_lock.proofs.BeginLemmas.{begins-both, begins-itself, begins-length, begins-more, begins-nothing}
use Rattle.vrx_lock.proofs.RuleLemmas.{Homes, St, at-here, below-journal, not-both, not-holder, one-journal, steps, whole-free, whole-places, whole-seen}

module _ (key : Setup) where
  -- a claim that finds the turn free
  won : (slots id : ℕ) (v : View) → v.hand ≡ Idle → 0 < v.known.share.parts → (s : St) → Ruled key s
      → get_elem? s.views id ≡ some v → get_or s.words 0 0 ≡ 0
      → (w : View) × (a : Act (Option Stored)) × Valid s.homes [] a
      × Ruled key (stepped s 0 (v.known.actor + 1) id [] w a) × Claimed (v, []) (get_or s.words 0 0) (w, carried_after [] a)
  won slots id v idle live s r at free =
      let sound = r.each id v at in
      let w : View = record v {
        known = record v.known { words = v.known.words ++ get_or s.words 0 0 ∷ [] };
        hand = Holding r.journal;
      } in
      let words : List ℕ = set s.words 0 (v.known.actor + 1) in
      let turn : get_or words 0 0 ≡ v.known.actor + 1 =
      get_or-set_same s.words 0 (v.known.actor + 1) 0 (omega (arith, r.wide)) in
      let mine : Sound key r.journal (get_or words 0 0) id r.depth id w = record {
        seen = sound.seen;
        told = sound.told;
        rises = sound.rises;
        mine = sound.mine;
        hand = inr (refl, refl, turn);
        deep = sound.deep;
        setup = sound.setup;
        spent = λ gone. absurd (omega (arith, live, gone));
      } in (
        w,
        takes 0 (Some (stored key r.journal)),
        r.home free,
        steps key s r id v w words (set s.homes 0 none) r.journal id at (length-set s.words 0 (v.known.actor + 1) ∙ r.wide)
            (get_or-set_other s.words 0 1 (v.known.actor + 1) 0 (λ e. absurd (omega (arith, e))) ∙ r.count) r.fits
            (λ e. absurd (omega (arith, e, turn))) (λ taken. (w, at-here s.views id v w at, refl)) (λ xs b. b)
            (λ j u ne at'. inl (⊎_elim (λ e. e) (λ t. absurd (omega (arith, t.2, free))) (r.each j u at').hand)) mine (λ f. refl) refl,
        record {
          hand = Holding r.journal;
          view = refl;
          whole = λ whole. free;
          won = λ e. (
            r.journal,
            refl,
            ap (λ z. (0, Some (stored z r.journal)) ∷ []) (sym (sound.setup live)),
            sound.seen,
            omega (arith, r.fits, ap (λ z. z.room) (sound.setup live)),
          );
          lost = λ ne. absurd (ne free);
        },
      )

  -- a claim that finds it taken
  lost : (slots id : ℕ) (v : View) → v.hand ≡ Idle → 0 < v.known.share.parts → (s : St) → Ruled key s
      → get_elem? s.views id ≡ some v → get_or s.words 0 0 ≢ 0
      → (w : View) × (a : Act (Option Stored)) × Valid s.homes [] a
      × Ruled key (stepped s 0 (get_or s.words 0 0) id [] w a) × Claimed (v, []) (get_or s.words 0 0) (w, carried_after [] a)
  lost slots id v idle live s r at taken =
      let sound = r.each id v at in
      let w : View = record v {
        known = record v.known { words = v.known.words ++ get_or s.words 0 0 ∷ [] };
        hand = Idle;
      } in
      let words : List ℕ = set s.words 0 (get_or s.words 0 0) in
      let turn : get_or words 0 0 ≡ get_or s.words 0 0 =
      get_or-set_same s.words 0 (get_or s.words 0 0) 0 (omega (arith, r.wide)) in
      let other = not-holder key s r id v at idle taken in
      let holder = r.held taken in
      let mine : Sound key r.journal (get_or words 0 0) r.holder r.depth id w = record {
        seen = sound.seen;
        told = sound.told;
        rises = sound.rises;
        mine = sound.mine;
        hand = inl refl;
        deep = sound.deep;
        setup = sound.setup;
        spent = λ gone. absurd (omega (arith, live, gone));
      } in (
        w,
        keeps,
        tt,
        steps key s r id v w words s.homes r.journal r.holder at (length-set s.words 0 (get_or s.words 0 0) ∙ r.wide)
            (get_or-set_other s.words 0 1 (get_or s.words 0 0) 0 (λ e. absurd (omega (arith, e))) ∙ r.count) r.fits
            (λ e. absurd (taken (sym turn ∙ e)))
            (λ t. (holder.0, set_else s.views id r.holder w other ∙ holder.1, holder.2)) (λ xs b. b)
            (λ j u ne at'. ⊎_elim (λ e. inl e) (λ t. inr (t.0, t.1, turn ∙ t.2)) (r.each j u at').hand) mine (λ f. refl) refl,
        record {
          hand = Idle;
          view = refl;
          whole = λ whole. whole-free key s r id v at idle whole;
          won = λ e. absurd (taken e);
          lost = λ ne. (refl, refl);
        },
      )

  pub claims : (slots id : ℕ) (m : Place) (actor : ℕ) → IsIdle m → actor ≡ m.0.known.actor
      → Allows (Ruled key) slots id m 0 (λ n. either (eqb n 0) (actor + 1) n) (λ n me. Claimed m n me)
  claims slots id m actor idle same = subst (λ (z : Place × ℕ). Allows (Ruled key) slots id z.0 0
      (λ n. either (eqb n 0) (z.1 + 1) n) (λ n me. Claimed z.0 n me)) (λ k. ((m.0, sym idle.slots k), sym same k))
      (λ s r deep at small. exchanged (get_or s.words 0 0) 0 (m.0.known.actor + 1)
      (λ x. (w : View) × (a : Act (Option Stored)) × Valid s.homes [] a × Ruled key (stepped s 0 x id [] w a)
      × Claimed (m.0, []) (get_or s.words 0 0) (w, carried_after [] a))
      (λ e. won slots id m.0 idle.hand idle.share s r at e) (λ ne. lost slots id m.0 idle.hand idle.share s r at ne))

  -- one entry more, by the seat that holds the turn
  pub appends : (slots id : ℕ) (m : Place) (kept : Stored) (e : Entry) → IsNoted m kept → newest kept.journal ≡ e
      → Allows (Ruled key) slots id m 1 (λ n. (n + 1) % 18446744073709551616) (λ n me. Appended e m n me)
  appends slots id m kept e noted is s r deep at small =
      let v : View = m.0 in
      let sound = r.each id v at in
      let hand : (v.hand ≡ Holding r.journal) × (id ≡ r.holder) × (get_or s.words 0 0 ≡ v.known.actor + 1) =
      ⊎_elim (λ idle. absurd (not-both v.hand noted.before idle noted.holding.hand)) (λ t. t) sound.hand in
      let same : noted.before ≡ r.journal =
      one-journal v.hand noted.before r.journal noted.holding.hand hand.0 in
      let n : ℕ = get_or s.words 1 0 in
      let long : length noted.before ≡ n = ap (λ j. length j) same ∙ sym r.count in
      let journal : List Entry = r.journal ++ e ∷ [] in
      let longer : length journal ≡ suc (length r.journal) = omega (arith, length-append r.journal (e ∷ [])) in
      let w : View = record v {
        known = record v.known { seen = journal; places = v.known.places ++ n ∷ [] };
        hand = Holding journal;
      } in
      let next : (n + 1) % 18446744073709551616 ≡ n + 1 = omega (arith, long, noted.room, noted.few) in
      let words : List ℕ = set s.words 1 ((n + 1) % 18446744073709551616) in
      let turn : get_or words 0 0 ≡ v.known.actor + 1 =
      get_or-set_other s.words 1 0 ((n + 1) % 18446744073709551616) 0 (λ z. absurd (omega (arith, z))) ∙ hand.2 in
      let below = below-journal key s r id v at in
      let mine : Sound key journal (get_or words 0 0) r.holder r.depth id w = record {
        seen = begins-itself journal;
        told = begins-more r.journal v.told (e ∷ []) sound.told;
        rises = rises-last 0 n v.known.places (omega arith) sound.rises
            (subst (λ k. AllBelow k v.known.places) (sym r.count) below);
        mine = below-last n (length journal) v.known.places (omega (arith, longer, r.count))
            (subst (λ k. AllBelow k v.known.places) (sym r.count) below);
        hand = inr (refl, hand.1, turn);
        deep = sound.deep;
        setup = sound.setup;
        spent = λ gone. absurd (omega (arith, noted.holding.share, gone));
      } in
      let room : length r.journal < key.room =
      omega (
        arith,
        noted.room,
        long,
        r.count,
        ap (λ z. z.room) noted.setup,
        ap (λ z. z.room) (sound.setup noted.holding.share),
      ) in
      let sums : (f : ℕ → ℕ) → total f (v.known.places ++ n ∷ []) + total_below f (length r.journal)
      ≡ total f v.known.places + total_below f (length journal) =
      λ f. omega (arith, total-append f v.known.places (n ∷ []), ap (total_below f) longer, ap f r.count) in (
        w,
        keeps,
        tt,
        steps key s r id v w words s.homes journal r.holder at (length-set s.words 1 ((n + 1) % 18446744073709551616) ∙ r.wide)
            (get_or-set_same s.words 1 ((n + 1) % 18446744073709551616) 0 (omega (arith, r.wide)) ∙ next ∙ omega (arith, longer, r.count))
            (omega (arith, longer, room)) (λ free. absurd (omega (arith, free, turn)))
            (λ taken. (w, subst (λ k. get_elem? (set s.views id w) k ≡ some w) hand.1 (at-here s.views id v w at), refl))
            (λ xs b. begins-more r.journal xs (e ∷ []) b)
            (λ j u ne at'. inl (⊎_elim (λ z. z) (λ t. absurd (ne (t.1 ∙ sym hand.1))) (r.each j u at').hand)) mine sums refl,
        record {
          journal = r.journal;
          held = hand.0;
          place = r.count;
          view = refl;
          slots = refl;
        },
      )

  -- the turn given back, with the value
  pub releases : (slots id : ℕ) (m : Place) (kept : Stored) → slots ≡ 1 → IsHolding kept.journal (Some kept) m
      → kept.setup ≡ m.0.known.setup → Allows (Ruled key) slots id m 0 (λ n. 0) (λ n me. Released m me)
  releases slots id m kept one holding same s r deep at small =
      let v : View = m.0 in
      let sound = r.each id v at in
      let hand : (v.hand ≡ Holding r.journal) × (id ≡ r.holder) × (get_or s.words 0 0 ≡ v.known.actor + 1) =
      ⊎_elim (λ idle. absurd (not-both v.hand kept.journal idle holding.hand)) (λ t. t) sound.hand in
      let journal : kept.journal ≡ r.journal = one-journal v.hand kept.journal r.journal holding.hand hand.0 in
      let setup : kept.setup ≡ key = same ∙ sound.setup holding.share in
      let is : kept ≡ stored key r.journal = λ k. record { setup = setup k; journal = journal k } in
      let w : View = record v { hand = Idle } in
      let words : List ℕ = set s.words 0 0 in
      let homes : Homes = homes_after s.homes m.1 gives in
      let home : get_elem? homes 0 ≡ some (some (Some (stored key r.journal))) =
      subst (λ c. get_elem? (put_back s.homes c) 0 ≡ some (some (Some (stored key r.journal)))) (sym holding.slots)
      (set_here s.homes 0 (some (Some kept)) (omega (arith, deep, one)) ∙ ap (λ z. some (some (Some z))) is) in
      let turn : get_or words 0 0 ≡ 0 = get_or-set_same s.words 0 0 0 (omega (arith, r.wide)) in
      let mine : Sound key r.journal (get_or words 0 0) r.holder r.depth id w = record {
        seen = sound.seen;
        told = sound.told;
        rises = sound.rises;
        mine = sound.mine;
        hand = inl refl;
        deep = sound.deep;
        setup = sound.setup;
        spent = λ gone. absurd (omega (arith, holding.share, gone));
      } in (
        w,
        gives,
        tt,
        steps key s r id v w words homes r.journal r.holder at (length-set s.words 0 0 ∙ r.wide)
            (get_or-set_other s.words 0 1 0 0 (λ e. absurd (omega (arith, e))) ∙ r.count) r.fits
            (λ free. home) (λ taken. absurd (taken turn)) (λ xs b. b)
            (λ j u ne at'. inl (⊎_elim (λ e. e) (λ t. absurd (ne (t.1 ∙ sym hand.1))) (r.each j u at').hand)) mine (λ f. refl) refl,
        record { view = refl; slots = ap rest holding.slots },
      )

  -- a step that leaves both words, and changes no hand
  stays : (id : ℕ) (v w : View) → 0 < v.known.share.parts → (s : St) (r : Ruled key s) → get_elem? s.views id ≡ some v
      → w.hand ≡ v.hand → w.known.share ≡ v.known.share → w.known.places ≡ v.known.places
      → w.known.actor ≡ v.known.actor → w.known.setup ≡ v.known.setup → BeginsWith r.journal w.known.seen
      → BeginsWith r.journal w.told → AllBelow (length w.known.seen) w.known.places
      → Ruled key record { words = set s.words 1 (get_or s.words 1 0); homes = s.homes; views = set s.views id w }
  stays id v w live s r at hand share places actor setup seen told below =
      let sound = r.each id v at in
      let n : ℕ = get_or s.words 1 0 in
      let words : List ℕ = set s.words 1 n in
      let turn : get_or words 0 0 ≡ get_or s.words 0 0 = get_or-set_other s.words 1 0 n 0 (λ e. absurd (omega (arith, e))) in
      let mine : Sound key r.journal (get_or words 0 0) r.holder r.depth id w = record {
        seen = seen;
        told = told;
        rises = subst (RisesFrom 0) (sym places) sound.rises;
        mine = below;
        hand = ⊎_elim (λ e. inl (hand ∙ e))
            (λ t. inr (hand ∙ t.0, t.1, turn ∙ t.2 ∙ ap (λ k. k + 1) (sym actor))) sound.hand;
        deep = omega (arith, sound.deep, ap (λ z. z.depth) share);
        setup = λ lt. setup ∙ sound.setup live;
        spent = λ gone. absurd (omega (arith, live, gone, ap (λ z. z.parts) share));
      } in
      steps key s r id v w words s.homes r.journal r.holder at (length-set s.words 1 n ∙ r.wide)
      (get_or-set_same s.words 1 n 0 (omega (arith, r.wide)) ∙ r.count) r.fits
      (λ free. r.home (sym turn ∙ free))
      (λ taken. holder id v w s r at hand (λ e. taken (turn ∙ e)))
      (λ xs b. b)
      (λ j u ne at'. ⊎_elim (λ e. inl e) (λ t. inr (t.0, t.1, turn ∙ t.2)) (r.each j u at').hand) mine
      (λ f. ap (λ ps. total f ps + total_below f (length r.journal)) places) share
    where
      holder : (id : ℕ) (v w : View) (s : St) (r : Ruled key s) → get_elem? s.views id ≡ some v → w.hand ≡ v.hand
          → get_or s.words 0 0 ≢ 0
          → (u : View) × (get_elem? (set s.views id w) r.holder ≡ some u) × (u.hand ≡ Holding r.journal)
      holder id v w s r at hand taken =
          let h = r.held taken in
          dite (ℕ_discrete r.holder id)
          (λ e. let is : h.0 ≡ v = some-injective h.0 v (sym h.1 ∙ ap (λ k. get_elem? s.views k) e ∙ at) in (
            w,
            ap (λ k. get_elem? (set s.views id w) k) e ∙ at-here s.views id v w at,
            hand ∙ ap (λ (x : View). x.hand) (sym is) ∙ h.2,
          ))
          (λ ne. (h.0, set_else s.views id r.holder w ne ∙ h.1, h.2))

  pub looks : (slots id : ℕ) (m : Place) → 0 < m.0.known.share.parts
      → Allows (Ruled key) slots id m 1 (λ n. n) (λ n me. Looked m n me)
  looks slots id m live s r deep at small =
      let v : View = m.0 in
      let sound = r.each id v at in
      let n : ℕ = get_or s.words 1 0 in
      let w : View = record v { known = record v.known { seen = r.journal; counts = v.known.counts ++ n ∷ [] } } in (
        w,
        keeps,
        tt,
        stays id v w live s r at refl refl refl refl refl (begins-itself r.journal) sound.told (below-journal key s r id v at),
        record {
          journal = r.journal;
          view = refl;
          slots = refl;
          begins = sound.seen;
          count = sym r.count;
          held = λ j e. ⊎_elim (λ idle. absurd (not-both v.hand j idle e)) (λ t. one-journal v.hand r.journal j t.0 e) sound.hand;
          room = omega (arith, r.count, r.fits, ap (λ z. z.room) (sound.setup live));
          whole = λ whole. whole-places key s r id v at whole ∙ ap (counted_from 0) (sym r.count);
        },
      )

  pub settles : (slots id : ℕ) (m : Place) → 0 < m.0.known.share.parts
      → Allows (Ruled key) slots id m 1 (λ n. n) (λ n me. Settled m n me)
  settles slots id m live s r deep at small =
      let v : View = m.0 in
      let sound = r.each id v at in
      let n : ℕ = get_or s.words 1 0 in
      let w : View = record v { known = record v.known { counts = v.known.counts ++ n ∷ [] }; told = [] } in (
        w,
        keeps,
        tt,
        stays id v w live s r at refl refl refl refl refl sound.seen (begins-nothing r.journal) sound.mine,
        record {
          view = refl;
          slots = refl;
          begins = λ le. begins-both r.journal v.known.seen v.told sound.seen sound.told le;
          rises = sound.rises;
          count = omega (arith, r.count, begins-length r.journal v.known.seen sound.seen);
          room = omega (arith, r.count, r.fits, ap (λ z. z.room) (sound.setup live));
          whole = λ whole. whole-seen key s r id v at whole;
        },
      )

-- the one slot that is out with a seat
pub taken-slot : (slots : List (ℕ × Option Stored)) (x : Option Stored) → slots ≡ (0, x) ∷ [] → slots ≡ (0, x) ∷ rest slots
taken-slot slots x e = e ∙ ap (λ c. (0, x) ∷ rest c) (sym e)

-- the value goes into the slot
pub put-in : (m n : Place) (journal : List Entry) (slot new : Option Stored) → IsHolding journal slot m
    → n ≡ (m.0, (0, new) ∷ rest m.1) → IsHolding journal new n
put-in m n journal slot new h e = record {
  hand = ap (λ (z : Place). z.0.hand) e ∙ h.hand;
  slots = ap (λ (z : Place). z.1) e ∙ ap (λ c. (0, new) ∷ rest c) h.slots;
  share = subst (λ (z : Place). 0 < z.0.known.share.parts) (sym e) h.share;
}
