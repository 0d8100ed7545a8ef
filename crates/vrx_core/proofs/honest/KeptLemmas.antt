-- The packets that the receiver keeps are the sender's.
use Rattle.std.proofs.Common.{◌≡◌, ℕ, Bool, true, false, cond, List, [], ◌∷◌, Contains, Option, Some, None, IsSomeAnd, is_some, slice_get, refl, sym, ◌∙◌, ap, subst, inl, inr, Less, Equal, Greater, nat_cmp}
use Rattle.std.specs.Ordering.{eq_by_cmp}
use Rattle.std.specs.FinMap.Entries.{by_order, put, where_key}
use Rattle.vrx_window.specs.Content.{Content}
use Rattle.vrx_window.specs.Window.{at, is_available, in_window, entries_with}
use Rattle.vrx_frames.specs.Run.{Packets}
use Rattle.vrx_core.specs.honest.Sender.{SentPacket, Sender}
use Rattle.vrx_core.specs.honest.WireForm.{content_sent}
use Rattle.vrx_core.specs.honest.Ready.{IsNumber}
use Rattle.vrx_core.proofs.honest.NumberLemmas.{IsNumber-grown}
use Rattle.vrx_core.proofs.machine.MemberLemmas.{Contains-either, Contains-empty}
use Rattle.vrx_core.proofs.machine.KeyLemmas.{same_key, equal_key}

-- an entry is the sender's packet of this place, under its number
pub record IsKept (sender : Sender) (js : List ℕ) (entry : ℕ × Content) : Type 0 where
  pub place : ℕ
  pub carried : IsSomeAnd (slice_get sender.packets place) (λ packet. entry.1 ≡ content_sent packet)
  pub numbered : IsNumber sender js place entry.0

-- each entry is such a packet
abbrev pub AreKept : Sender → List ℕ → Packets → Type 0
AreKept sender js [] = Unit {0}
AreKept sender js (e ∷ es) = IsKept sender js e × AreKept sender js es

module _ (sender : Sender) (js : List ℕ) where
  -- an entry of those kept
  pub kept-among : (packets : Packets) (entry : ℕ × Content) → AreKept sender js packets →
      Contains packets entry → IsKept sender js entry
  kept-among [] entry kept there = absurd (Contains-empty entry there)
  kept-among (e ∷ es) entry kept there = elim (Contains-either e es entry there) [
    | inl same ↦ subst (IsKept sender js) same kept.0
    | inr later ↦ kept-among es entry kept.1 later
  ]

  -- fewer entries
  pub where_key-kept : (p : ℕ → Bool) (packets : Packets) → AreKept sender js packets →
      AreKept sender js (where_key nat_cmp p packets)
  where_key-kept p [] k = tt
  where_key-kept p (e ∷ es) k =
      let rest = where_key-kept p es k.1 in
      elim (p e.0) as (λ b. AreKept sender js
      (cond b (e ∷ where_key nat_cmp p es) (where_key nat_cmp p es))) [ true ↦ (k.0, rest) | false ↦ rest ]

  -- one entry more
  pub put-kept : (n : ℕ) (content : Content) (packets : Packets) → IsKept sender js (n, content) →
      AreKept sender js packets → AreKept sender js (put nat_cmp n content packets)
  put-kept n content [] new k = (new, tt)
  put-kept n content (e ∷ es) new k =
      let rest = put-kept n content es new k.1 in
      elim (nat_cmp n e.0) as (λ o. nat_cmp n e.0 ≡ o →
      AreKept sender js (by_order o ((n, content) ∷ e ∷ es) ((e.0, content) ∷ es) (e ∷ put nat_cmp n content es))) [
        | Less ↦ λ _. (new, k)
        | Equal ↦ λ same. (subst (λ (x : ℕ). IsKept sender js (x, content)) (equal_key n e.0 same) new, k.1)
        | Greater ↦ λ _. (k.0, rest)
      ] refl

  -- the entries after one was taken
  pub placed-kept : (newest n : ℕ) (content : Content) (packets : Packets) → IsKept sender js (n, content) →
      AreKept sender js packets → AreKept sender js (entries_with newest n content packets)
  placed-kept newest n content packets new k =
      put-kept n content (where_key nat_cmp (in_window newest) packets) new
      (where_key-kept (in_window newest) packets k)

  -- an entry is the sender's also when one more packet was taken
  pub grown-kept : (j : ℕ) (packets : Packets) → AreKept sender js packets → AreKept sender (j ∷ js) packets
  grown-kept j [] k = tt
  grown-kept j (e ∷ es) k =
      let here : IsKept sender js e = k.0 in (
        record {
          place = here.place;
          carried = here.carried;
          numbered = IsNumber-grown sender j js here.place e.0 here.numbered;
        },
        grown-kept j es k.1,
      )

module _ (sender : Sender) (js : List ℕ) (n : ℕ) where
  -- the packet of this place stands at the number, with its content
  abbrev pub IsThere : ℕ → Packets → Type 0
  IsThere place packets =
      IsSomeAnd (slice_get sender.packets place) (λ packet. at n packets ≡ Some (content_sent packet))

  -- an entry's content is its packet's
  there_first : (o : Option SentPacket) (content : Content) (found : Option Content) → found ≡ Some content →
      IsSomeAnd o (λ packet. content ≡ content_sent packet) →
      IsSomeAnd o (λ packet. found ≡ Some (content_sent packet))
  there_first None content found is carried = absurd carried
  there_first (Some packet) content found is carried = is ∙ ap Some carried

  -- what stands at a number, by the first entry
  there_either : (e : ℕ × Content) (es : Packets) → IsKept sender js e →
      (is_available n es ≡ true → (k : ℕ) × IsNumber sender js k n × IsThere k es) → (b : Bool) →
      eq_by_cmp nat_cmp n e.0 ≡ b → is_some (cond b (Some e.1) (at n es)) ≡ true →
      (k : ℕ) × IsNumber sender js k n × IsThere k (e ∷ es)
  there_either e es k rest true same h = (
    k.place,
    subst (λ (x : ℕ). IsNumber sender js k.place x) (sym (same_key n e.0 same)) k.numbered,
    there_first (slice_get sender.packets k.place) e.1 (at n (e ∷ es))
        (ap (λ b. cond b (Some e.1) (at n es)) same) k.carried,
  )
  there_either e es k rest false apart h =
      let p : (k : ℕ) × IsNumber sender js k n × IsThere k es = rest h in (
        p.0,
        p.1,
        subst (λ (found : Option Content).
            IsSomeAnd (slice_get sender.packets p.0) (λ packet. found ≡ Some (content_sent packet)))
            (sym (ap (λ b. cond b (Some e.1) (at n es)) apart)) p.2,
      )

  -- what is available is a packet of the sender, under its number and with its content
  pub kept-there : (packets : Packets) → AreKept sender js packets → is_available n packets ≡ true →
      (k : ℕ) × IsNumber sender js k n × IsThere k packets
  kept-there [] k h = absurd (cc)
  kept-there (e ∷ es) k h = there_either e es k.0 (λ later. kept-there es k.1 later) (eq_by_cmp nat_cmp n e.0) refl h
