-- The front of an honest call: after the last number of the last frame pulled there are only packets that are no parts up to it.
use Rattle.std.proofs.Common.{◌≡◌, ℕ, zero, suc, ◌+◌, ◌<◌, ◌≤◌, max, ◌⊎◌, Bool, true, false, if◌then◌else◌, List, ◌∷◌, slice_get, Option, Some, None, IfSome, IsSomeAnd, refl, sym, ◌∙◌, ap, subst, arith, inl, inr}
use Rattle.std.specs.Option.{option_map_or}
use Rattle.std.proofs.lemmas.Bool.{true≢false, cases_order}
use Rattle.std.proofs.lemmas.Option.{none-some}
use Rattle.vrx_num.specs.declared.limits.TheConstants.{WINDOW}
use Rattle.vrx_codec.specs.Meaning.{Meaning}
use Rattle.vrx_window.specs.Content.{Content}
use Rattle.vrx_window.specs.Window.{at}
use Rattle.vrx_frames.specs.Run.{Packets}
use Rattle.vrx_frames.specs.Front.{is_no_media, reach_from, front_after}
use Rattle.vrx_core.specs.honest.Sender.{SentPacket, Media, Fec, Empty, Sender, IsNoPart}
use Rattle.vrx_core.specs.honest.WireForm.{content_sent}
use Rattle.vrx_core.specs.honest.HonestSender.{HonestSender}
use Rattle.vrx_core.specs.honest.Ready.{IsNumber}
use Rattle.vrx_core.specs.declared.settings.Settings.{Settings}
use Rattle.vrx_core.proofs.honest.NumberLemmas.{IsNumber-grown}
use Rattle.vrx_core.proofs.honest.KeptLemmas.{AreKept}
use Rattle.vrx_core.proofs.honest.PartLemmas.{some_from}
use Rattle.vrx_core.proofs.honest.BeginLemmas.{there_tested, IsPacketAt, packet_at}

-- a packet that brings no media is no part of a frame
no_media_other : (packet : SentPacket) → is_no_media (content_sent packet) ≡ true → IsNoPart packet
no_media_other (Media f k text) h = absurd (true≢false (sym h))
no_media_other (Fec payload) h = tt
no_media_other Empty h = tt

module _ (sender : Sender) where
  -- each number after one, up to another, is that of a packet that is no part
  abbrev pub AreOthersTo : List ℕ → ℕ → ℕ → Type 0
  AreOthersTo js from to =
      (m : ℕ) → from < m → m ≤ to → (i : ℕ) × IsNumber sender js i m × IsSomeAnd (slice_get sender.packets i) IsNoPart

  -- the front, if there is one: only packets that are no parts lie between the last number pulled and it
  abbrev pub IsFrontOf : List ℕ → Option ℕ → Option ℕ → Type 0
  IsFrontOf js None front = front ≡ None
  IsFrontOf js (Some last) None = ⊥
  IsFrontOf js (Some last) (Some front) = (last ≤ front) × AreOthersTo js last front

  -- it stays so when one more packet is taken
  pub front-grown : (j : ℕ) (js : List ℕ) (last front : Option ℕ) → IsFrontOf js last front →
      IsFrontOf (j ∷ js) last front
  front-grown j js None front is = is
  front-grown j js (Some last) None is = is
  front-grown j js (Some last) (Some front) is =
      (is.0, λ m above upto. let e = is.1 m above upto in (e.0, IsNumber-grown sender j js e.0 m e.1, e.2))

  module _ (settings : Settings) (codec : Meaning) (honest : HonestSender settings codec sender) (js : List ℕ)
      (packets : Packets) (kept : AreKept sender js packets) where
    -- available packets that are no media are no parts
    other_there : (n : ℕ) → option_map_or is_no_media (at n packets) false ≡ true →
        (i : ℕ) × IsNumber sender js i n × IsSomeAnd (slice_get sender.packets i) IsNoPart
    other_there n h =
        let c : (content : Content) × (at n packets ≡ Some content) × (is_no_media content ≡ true) =
        there_tested is_no_media (at n packets) h in
        let p : IsPacketAt settings codec sender honest js n c.0 =
        packet_at settings codec sender honest js packets n c.0 kept c.1 in (
          p.i,
          p.numbered,
          some_from IsNoPart (slice_get sender.packets p.i) p.packet p.sent
              (no_media_other p.packet (sym (ap is_no_media p.content_is) ∙ c.2)),
        )

    -- what is reached from a number is reached over packets that are no parts
    reach_from-others : (fuel from : ℕ) →
        (from ≤ reach_from fuel from packets) × AreOthersTo js from (reach_from fuel from packets)
    reach_from-others zero from = (omega arith, λ m above upto. absurd (omega arith))
    reach_from-others (suc fuel) from =
        by_next (reach_from-others fuel (from + 1))
        (option_map_or is_no_media (at (from + 1) packets) false) refl where
          by_next : (from + 1 ≤ reach_from fuel (from + 1) packets)
              × AreOthersTo js (from + 1) (reach_from fuel (from + 1) packets) → (b : Bool) →
              option_map_or is_no_media (at (from + 1) packets) false ≡ b →
              (from ≤ (if b then reach_from fuel (from + 1) packets else from))
              × AreOthersTo js from (if b then reach_from fuel (from + 1) packets else from)
          by_next rest false is = (omega arith, λ m above upto. absurd (omega arith))
          by_next rest true is =
              let further : from + 1 ≤ reach_from fuel (from + 1) packets = rest.0 in (
                omega arith,
                λ m above upto. elim (cases_order m (from + 1)) [
                  | inl same ↦ let e =
                      other_there (from + 1) is in
                      (e.0, subst (λ (x : ℕ). IsNumber sender js e.0 x) (sym same) e.1, e.2)
                  | inr other ↦ elim other [ inl less ↦ absurd (omega arith) | inr more ↦ rest.1 m more upto ]
                ],
              )

    -- and from the greater of the front and the last number pulled
    reach_from-front : (fuel last front : ℕ) → AreOthersTo js last front →
        (last ≤ reach_from fuel (max front last) packets)
        × AreOthersTo js last (reach_from fuel (max front last) packets)
    reach_from-front fuel last front empty =
        let r : (max front last ≤ reach_from fuel (max front last) packets)
        × AreOthersTo js (max front last) (reach_from fuel (max front last) packets) =
        reach_from-others fuel (max front last) in
        let further : max front last ≤ reach_from fuel (max front last) packets = r.0 in (
          omega arith,
          λ m above upto. elim (before_or_after m (max front last)) [
            | inl before ↦ empty m above (omega arith)
            | inr after ↦ r.1 m after upto
          ],
        ) where
          before_or_after : (n m : ℕ) → (n ≤ m) ⊎ (m < n)
          before_or_after n m = elim (cases_order n m) [
            | inl same ↦ inl
                (omega arith)
            | inr other ↦ elim other [ inl less ↦ inl (omega arith) | inr more ↦ inr more ]
          ]

    -- the front after an event, with the last number pulled after it
    pub front-moves : (before old : Option ℕ) (last : ℕ) → IsFrontOf js old before → IfSome old (λ l. l ≤ last) →
        IsFrontOf js (Some last) (front_after before (Some last) packets)
    front-moves None old last is upto = reach_from-others WINDOW last
    front-moves (Some front) None last is upto = absurd (none-some front (sym is))
    front-moves (Some front) (Some l) last is upto =
        reach_from-front WINDOW last front (λ m above to. is.1 m (omega (arith, upto, above)) to)

    -- the front after an event that pulls nothing
    pub front-stays : (before last : Option ℕ) → IsFrontOf js last before →
        IsFrontOf js last (front_after before last packets)
    front-stays before None is = refl
    front-stays before (Some last) is = front-moves before (Some last) last is (omega arith)
