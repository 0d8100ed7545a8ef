-- How the front goes on: over available numbers that are no media.
use Rattle.std.proofs.Common.{◌≡◌, ℕ, zero, suc, ◌+◌, ◌<◌, ◌≤◌, ◌⊎◌, max, Bool, true, false, cond, Option, Some, None, is_some, IsSomeAnd, refl, sym, subst, arith, inl, inr}
use Rattle.std.specs.Option.{option_map_or}
use Rattle.std.proofs.lemmas.Bool.{true≢false}
use Rattle.vrx_num.specs.declared.limits.TheConstants.{WINDOW}
use Rattle.vrx_window.specs.Content.{Content, Media, Fec, Empty}
use Rattle.vrx_window.specs.Window.{at, is_available}
use Rattle.vrx_frames.specs.Front.{front_after, is_no_media, reach_from}
use Rattle.vrx_frames.specs.Run.{Packets, ends_frame}
use Rattle.vrx_core.proofs.relation.RunMoveLemmas.{first_or_later}

-- what is no media is available, and ends a frame
pub over-available : (n : ℕ) (packets : Packets) → IsSomeAnd (at n packets) (λ content. is_no_media content ≡ true) →
    is_available n packets ≡ true
over-available n packets h = by (at n packets) h where
  by : (o : Option Content) → IsSomeAnd o (λ content. is_no_media content ≡ true) → is_some o ≡ true
  by None g = absurd g
  by (Some content) g = refl

-- and ends a frame
pub over-ends : (n : ℕ) (packets : Packets) → IsSomeAnd (at n packets) (λ content. is_no_media content ≡ true) →
    option_map_or ends_frame (at n packets) false ≡ true
over-ends n packets h = by (at n packets) h where
  by : (o : Option Content) → IsSomeAnd o (λ content. is_no_media content ≡ true) →
      option_map_or ends_frame o false ≡ true
  by None g = absurd g
  by (Some (Media text)) g = absurd (true≢false (sym g))
  by (Some (Fec payload)) g = refl
  by (Some Empty) g = refl

module _ (packets : Packets) where
  -- each number after one, up to another, is available and no media
  abbrev pub Over : ℕ → ℕ → Type 0
  Over from to = (m : ℕ) → from < m → m ≤ to → IsSomeAnd (at m packets) (λ content. is_no_media content ≡ true)

  -- what is reached from a number isn't below it, and all between is available and no media
  pub reach_from-over : (more from : ℕ) →
      (from ≤ reach_from more from packets) × Over from (reach_from more from packets)
  reach_from-over zero from = (omega arith, λ m less upto. absurd (omega arith))
  reach_from-over (suc more) from = either (at (from + 1) packets) refl (reach_from-over more (from + 1)) where
    over-next : (c : Content) → at (from + 1) packets ≡ Some c → is_no_media c ≡ true →
        Over (from + 1) (reach_from more (from + 1) packets) → Over from (reach_from more (from + 1) packets)
    over-next c is none rest m less upto = elim (first_or_later (from + 1) m (omega arith)) [
      | inl same ↦ subst (λ k. IsSomeAnd (at k packets) (λ content. is_no_media content ≡ true)) same
          (subst (λ (o : Option Content). IsSomeAnd o (λ content. is_no_media content ≡ true)) (sym is) none)
      | inr later ↦ rest m (omega arith) upto
    ]

    go : (c : Content) → at (from + 1) packets ≡ Some c → (b : Bool) → is_no_media c ≡ b →
        (from + 1 ≤ reach_from more (from + 1) packets) × Over (from + 1) (reach_from more (from + 1) packets)
        → (from ≤ cond b (reach_from more (from + 1) packets) from)
        × Over from (cond b (reach_from more (from + 1) packets) from)
    go c is true none rest =
        (let up : from + 1 ≤ reach_from more (from + 1) packets = rest.0 in omega arith, over-next c is none rest.1)
    go c is false none rest = (omega arith, λ m less upto. absurd (omega arith))

    either : (o : Option Content) → at (from + 1) packets ≡ o →
        (from + 1 ≤ reach_from more (from + 1) packets) × Over (from + 1) (reach_from more (from + 1) packets)
        → (from ≤ cond (option_map_or is_no_media o false) (reach_from more (from + 1) packets) from)
        × Over from (cond (option_map_or is_no_media o false) (reach_from more (from + 1) packets) from)
    either None is rest = (omega arith, λ m less upto. absurd (omega arith))
    either (Some c) is rest = go c is (is_no_media c) refl rest

  -- the front after an event, if a frame was pulled: from the greater of the front before and the last number pulled
  pub record GoesOn (from : ℕ) (after : Option ℕ) : Type 0 where
    pub front : ℕ
    pub front_is : after ≡ Some front
    pub upto : from ≤ front
    pub over : Over from front

  -- from a number on
  goes-on : (from : ℕ) → GoesOn from (Some (reach_from WINDOW from packets))
  goes-on from = let p = reach_from-over WINDOW from in
      record { front = reach_from WINDOW from packets; front_is = refl; upto = p.0; over = p.1 }

  -- before the first frame is pulled there is no front
  pub front-none : (before : Option ℕ) → front_after before None packets ≡ None
  front-none before = refl

  -- with the first frame pulled it goes on from that last number
  pub front-first : (last : ℕ) → GoesOn last (front_after None (Some last) packets)
  front-first last = goes-on last

  -- and later from the greater of the front and that last number
  pub front-next : (front last : ℕ) → GoesOn (max front last) (front_after (Some front) (Some last) packets)
  front-next front last = goes-on (max front last)

-- the front went on if it is the same, or its number ends a frame
pub goes-ends : (packets : Packets) (from : ℕ) (after : Option ℕ) → (g : GoesOn packets from after) →
    (from ≡ g.front) ⊎ (option_map_or ends_frame (at g.front packets) false ≡ true)
goes-ends packets from after g = elim (first_or_later from g.front g.upto) [
  | inl same ↦ inl same
  | inr later ↦ inr (over-ends g.front packets (g.over g.front (omega arith) (omega arith)))
]
