-- The seat that a join leaves, and what a close gives.
use Rattle.std.proofs.Common.{◌≡◌, ◌∙◌, ℕ, ◌+◌, ◌≤◌, List, [], ◌∷◌, ◌++◌, length, Option, Some, None, sym, ap, subst, arith}
use mathlib.Core.Option.{some, some-injective}
use lib.ListN.{get_elem?}
use Rattle.atomic_table.specs.Table.{Final, Seen}
use Rattle.vrx_lock.specs.declared.entry.Entry.{Entry}
use Rattle.vrx_lock.specs.declared.known.Known.{Known}
use Rattle.vrx_lock.specs.declared.known.Setup.{Setup}
use Rattle.vrx_lock.specs.declared.view.View.{View}
use Rattle.vrx_lock.specs.declared.view.Hand.TheVariants.{Idle}
use Rattle.vrx_lock.specs.Lists.{BeginsWith, counted_from, merged}
use Rattle.vrx_lock.specs.Shares.{IsWhole, added}
use Rattle.vrx_lock.specs.Seats.{IsSeat, Joined, longer}
use Rattle.vrx_lock.specs.inside.Stored.{Stored, stored}
use Rattle.vrx_lock.specs.inside.Rule.{Ruled}
use Rattle.vrx_lock.specs.inside.Steps.{Glued, Place, Seated}
use Rattle.vrx_lock.proofs.PlaceLemmas.{apart-merged, below-merged, below-more, length-merged}
use Rattle.vrx_lock.proofs.BeginLemmas.{longer-length, shorter-length}
use Rattle.vrx_lock.proofs.ShareLemmas.{added-live}
use Rattle.vrx_lock.proofs.SeatLemmas.{Closed, closes}
use Rattle.vrx_lock.proofs.OfferLemmas.{one-view, seated-after}

-- what the joined seat knows
abbrev both_known : Known → Known → ℕ → Known
both_known v w count = record v {
  seen = longer v.seen w.seen;
  places = merged v.places w.places;
  words = v.words ++ w.words;
  counts = (v.counts ++ w.counts) ++ count ∷ [];
  share = added v.share w.share;
}

module _ (v w : View) (n : Place) (glued : Glued v w n) where
  glued-known : n.0.known ≡ both_known v.known w.known glued.count
  glued-known = ap (λ (x : View). x.known) glued.settled.view

  pub joined : Joined v.known w.known n.0.known
  joined = record {
    count = glued.count;
    known = glued-known;
    begins = glued.settled.begins (shorter-length v.known.seen w.known.seen);
    apart = apart-merged v.known.places w.known.places glued.settled.rises;
    count_is = subst (λ (k : Known). length k.seen ≤ glued.count) (sym glued-known) glued.settled.count;
    room = glued.settled.room;
    whole = subst (λ (k : Known). IsWhole k.share → k.places ≡ counted_from 0 (length k.seen)) (sym glued-known)
        glued.settled.whole;
  }

  joined-seat : IsSeat v.known → IsSeat w.known → IsSeat n.0.known
  joined-seat one two =
      let long = longer-length v.known.seen w.known.seen in
      subst IsSeat (sym glued-known) (record {
        rises = glued.settled.rises;
        mine = below-merged (length (longer v.known.seen w.known.seen)) v.known.places w.known.places
            (below-more (length v.known.seen) (length (longer v.known.seen w.known.seen)) v.known.places long.0 one.mine)
            (below-more (length w.known.seen) (length (longer v.known.seen w.known.seen)) w.known.places long.1 two.mine);
        share = added-live v.known.share w.known.share one.share;
        few = omega (arith, glued.settled.count, glued.settled.room);
        room = one.room;
      })

pub seated-joined : (views others views' : List View) (actor calls actor' calls' : ℕ) (m o n : Place)
    → Seated views actor calls → Seated others actor' calls' → views ≡ m.0 ∷ [] → others ≡ o.0 ∷ []
    → views' ≡ n.0 ∷ [] → Glued m.0 o.0 n → Seated views' actor (calls + calls')
seated-joined views others views' actor calls actor' calls' m o n seated seated' before before' after glued =
    let mine : seated.view ≡ m.0 = one-view seated.view m.0 (sym seated.views_is ∙ before) in
    let theirs : seated'.view ≡ o.0 = one-view seated'.view o.0 (sym seated'.views_is ∙ before') in
    let known = glued-known m.0 o.0 n glued in
    seated-after views views' actor calls m n seated before after (calls + calls')
    (ap (λ (x : View). x.hand) glued.settled.view)
    (ap (λ (x : View). x.told) glued.settled.view ∙ sym seated.told ∙ ap (λ (x : View). x.told) mine)
    (joined-seat m.0 o.0 n glued (subst (λ (x : View). IsSeat x.known) mine seated.known)
    (subst (λ (x : View). IsSeat x.known) theirs seated'.known))
    (ap (λ (k : Known). k.actor) known)
    (omega (
      arith,
      seated.calls_is,
      seated'.calls_is,
      ap (λ (x : View). length x.known.places) mine,
      ap (λ (x : View). length x.known.places) theirs,
      ap (λ (k : Known). length k.places) known,
      length-merged m.0.known.places o.0.known.places,
    ))

-- a seat of a caller, as its place at the table has it
pub seat-idle : (views : List View) (actor calls : ℕ) (m : Place) → Seated views actor calls → views ≡ m.0 ∷ []
    → m.0.hand ≡ Idle
seat-idle views actor calls m seated before =
    ap (λ (x : View). x.hand) (sym (one-view seated.view m.0 (sym seated.views_is ∙ before))) ∙ seated.hand

module _ (key : Setup) (id : ℕ) (m : Place) (known : Known) (words : List ℕ) (slots : List (Option Stored))
    (found : Option Stored) (idle : m.0.hand ≡ Idle) (same : m.0.known ≡ known) (whole : IsWhole known.share)
    (last : Final (Seen (Ruled key) id m.0) words slots) (taken : get_elem? slots 0 ≡ some found) where
  abbrev end : Closed key m.0 slots
  end = closes key id m.0 words slots last idle (subst (λ (k : Known). IsWhole k.share) (sym same) whole)

  is-stored : found ≡ Some (stored key end.journal)
  is-stored = some-injective found (Some (stored key end.journal)) (sym taken ∙ end.slot)

  pub not-none : found ≡ None → ⊥
  not-none e = let h : None ≡ Some (stored key end.journal) = sym e ∙ is-stored in cc

  kept-is : (kept : Stored) → found ≡ Some kept → kept ≡ stored key end.journal
  kept-is kept e = let h : Some kept ≡ Some (stored key end.journal) = sym e ∙ is-stored in cc

  pub kept-setup : (kept : Stored) → found ≡ Some kept → kept.setup ≡ key
  kept-setup kept e = ap (λ (z : Stored). z.setup) (kept-is kept e)

  pub closed-as : (kept : Stored) → found ≡ Some kept → BeginsWith kept.journal known.seen
      × (known.places ≡ counted_from 0 (length kept.journal)) × (length kept.journal ≤ key.room)
  closed-as kept e = subst (λ (x : Known × List Entry). BeginsWith x.1 x.0.seen
      × (x.0.places ≡ counted_from 0 (length x.1)) × (length x.1 ≤ key.room))
      (λ k. (same k, sym (ap (λ (z : Stored). z.journal) (kept-is kept e)) k)) (end.begins, end.places, end.room)
