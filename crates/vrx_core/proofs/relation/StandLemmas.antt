-- The runs that stand, after the window moved and after the front did.
use Rattle.std.proofs.Common.{◌≡◌, ◌≢◌, ◌↔◌, ℕ, ◌+◌, ◌<◌, ◌≤◌, ◌⊎◌, Bool, true, false, List, Contains, Option, Some, None, is_some, IsSomeAnd, refl, sym, ◌∙◌, ap, subst, arith, inl, inr, nat_cmp}
use Rattle.std.specs.Prelude.{nat_le}
use Rattle.std.specs.List.{filter}
use Rattle.std.specs.Option.{option_map_or}
use Rattle.std.specs.FinMap.Entries.{is_sorted}
use Rattle.std.proofs.lemmas.Bool.{le-leb, leb-true, true≢false, cases_lt}
use Rattle.vrx_num.specs.declared.limits.TheConstants.{WINDOW}
use Rattle.vrx_codec.specs.Meaning.{Meaning}
use Rattle.vrx_codec.specs.declared.run.Place.{Place}
use Rattle.vrx_window.specs.Content.{Content, contents}
use Rattle.vrx_window.specs.Window.{Contents, at, in_window, is_available, is_inside, newest_with, after_placing}
use Rattle.vrx_window.specs.declared.held.Held.{Held}
use Rattle.vrx_frames.specs.Completed.{IsUpTo, packets_under}
use Rattle.vrx_frames.specs.Front.{is_no_media}
use Rattle.vrx_frames.specs.IsRun.{IsPiece, IsRunBy, RunsApart, RunsAre, RunsRise}
use Rattle.vrx_frames.specs.Run.{Packets, Piece, Run, ends_frame, is_start, stands, stands_after_end}
use Rattle.vrx_frames.specs.declared.shape.Shape.{Shape}
use Rattle.vrx_core.specs.relation.StandsFor.{shapes_of}
use Rattle.vrx_core.specs.inside.Step.{lowest_of}
use Rattle.vrx_core.proofs.relation.ListLemmas.{filter-from, filter-to, rises-filter, same-lists}
use Rattle.vrx_core.proofs.relation.MapLemmas.{at_where-from, at_where-yes, some-of, sorted_where}
use Rattle.vrx_core.proofs.relation.RunMoveLemmas.{Held as HeldPiece, beyond-stands, last-ends, piece-in, piece-media, piece-moves, run-available, run-moves, standing-by, standing-equal, standing-from, standing-rises, standing-to, stands-beyond, start-same}
use Rattle.vrx_core.proofs.relation.FrontLemmas.{GoesOn, Over, goes-ends}
use Rattle.vrx_core.proofs.relation.AddLemmas.{first_of}
use Rattle.vrx_core.proofs.relation.WindowLemmas.{available-contents, inside-upto, order-window, after_placing-from, after_placing-stays, sorted-contents, sorted-after_placing, told-available, window-order}

-- a run whose first number is media doesn't begin among numbers that are no media
pub begins-beyond : (codec : Meaning) (place : ℕ → Option Place) (starts : Piece → Bool) (packets : Packets) (run : Run) (from to : ℕ) →
    IsRunBy codec place starts packets run → Over packets from to → from < run.first → to < run.first
begins-beyond codec place starts packets run from to r over beyond = elim (cases_lt to run.first) [
  | inl less ↦ less
  | inr upto ↦
      let p = piece-in codec place starts packets run run.first r (omega arith) r.not_empty in
      absurd (none (at run.first packets) refl (over run.first beyond upto) p)
] where
  none : (o : Option Content) → at run.first packets ≡ o → IsSomeAnd o (λ content. is_no_media content ≡ true) →
      HeldPiece codec packets (λ p. (p.packet.marker ≡ true) ↔ (p.number ≡ run.last)) run.first → ⊥
  none None is h p = h
  none (Some content) is h p = piece-media codec packets run.first p.piece content p.is is h

module _ (are : RunsAre) (rise : RunsRise) (codec : Meaning) (place : ℕ → Option Place) where
  -- The runs of what was known, in the new window, are those that stood and begin in it: a packet that came is not
  -- known yet, and what is left is as it was.
  module _ (window : Contents Held) (n : ℕ) (held : Held) (told : List (ℕ × Shape)) (front : Option ℕ)
      (starts : Piece → Bool) where
    -- the packets of the new window, and its lowest number
    abbrev now : Packets
    now = contents (after_placing n held window).packets

    abbrev lowest : ℕ
    lowest = lowest_of (after_placing n held window).newest

    -- what stands under a number of the old window, among what was known
    stays : told ≡ shapes_of codec (contents window.packets) →
        ((m : ℕ) → is_available m window.packets ≡ true → is_inside window.newest m ≡ true) →
        is_available n window.packets ≡ false
        → (m : ℕ) → is_available m (contents window.packets) ≡ true → lowest ≤ m →
        at m (contents window.packets) ≡ at m (packets_under told now)
    stays told_is inside missing m there upto =
        let high : m ≤ newest_with window.newest n =
        inside-upto window.newest n m (inside m (sym (available-contents m window.packets) ∙ there)) in
        let in_new : in_window (newest_with window.newest n) m ≡ true =
        order-window (newest_with window.newest n) m (omega arith) high in
        sym (at_where-yes (λ k. is_available k told) m now
        (told-available codec told (contents window.packets) m told_is ∙ there)
        ∙ after_placing-stays window n held m missing there in_new)

    -- what is known in the new window was there, and lies in it
    was : told ≡ shapes_of codec (contents window.packets) → is_available n window.packets ≡ false
        → (m : ℕ) → is_available m (packets_under told now) ≡ true →
        (is_available m (contents window.packets) ≡ true) × (lowest ≤ m)
    was told_is missing m there =
        let x : (c : Content) × (at m (packets_under told now) ≡ Some c) =
        some-of (at m (packets_under told now)) there in
        let p : (is_available m told ≡ true) × (at m now ≡ Some x.0) =
        at_where-from (λ k. is_available k told) m now x.0 x.1 in
        let before : is_available m (contents window.packets) ≡ true =
        sym (told-available codec told (contents window.packets) m told_is) ∙ p.0 in
        let other : m ≢ n = λ same.
        true≢false (sym before ∙ ap (λ k. is_available k (contents window.packets)) same
        ∙ available-contents n window.packets ∙ missing) in
        let q : (in_window (newest_with window.newest n) m ≡ true) × (at m (contents window.packets) ≡ Some x.0) =
        after_placing-from window n held m x.0 other p.1 in
        let order : (newest_with window.newest n < m + WINDOW) × (m ≤ newest_with window.newest n) =
        window-order (newest_with window.newest n) m q.0 in
        (before, omega (arith, order.0))

    -- so the runs are the same
    pub standing-left : told ≡ shapes_of codec (contents window.packets) → is_sorted nat_cmp window.packets ≡ true →
        ((m : ℕ) → is_available m window.packets ≡ true → is_inside window.newest m ≡ true)
        → is_available n window.packets ≡ false
        → filter (λ run. nat_le lowest run.first) (standing-by codec place front starts (contents window.packets))
        ≡ standing-by codec place front starts (packets_under told now)
    standing-left told_is sorted inside missing =
        same-lists first_of (filter (λ run. nat_le lowest run.first)
        (standing-by codec place front starts (contents window.packets)))
        (standing-by codec place front starts (packets_under told now))
        (rises-filter first_of (λ run. nat_le lowest run.first)
        (standing-by codec place front starts (contents window.packets))
        (standing-rises rise codec place front starts (contents window.packets)
        (sorted-contents window.packets sorted)))
        (standing-rises rise codec place front starts (packets_under told now)
        (sorted_where (λ k. is_available k told) now (sorted-after_placing window n held sorted)))
        to back where
          to : (run : Run) → Contains
              (filter (λ run. nat_le lowest run.first)
              (standing-by codec place front starts (contents window.packets))) run →
              Contains (standing-by codec place front starts (packets_under told now)) run
          to run there =
              let p = filter-from (λ run. nat_le lowest run.first)
              (standing-by codec place front starts (contents window.packets)) run there in
              let q = standing-from are codec place front starts (contents window.packets) run p.0 in
              let low : lowest ≤ run.first = leb-true lowest run.first p.1 in
              standing-to are codec place front starts (packets_under told now) run
              (run-moves codec place starts starts (contents window.packets) (packets_under told now) run q.0
              (λ m piece from upto is. (
                piece-moves codec (contents window.packets) (packets_under told now) m piece
                    (stays told_is inside missing m (ap is_some is.media) (omega arith)) is,
                refl,
              )))
              q.1

          back : (run : Run) → Contains (standing-by codec place front starts (packets_under told now)) run →
              Contains (filter (λ run. nat_le lowest run.first)
              (standing-by codec place front starts (contents window.packets))) run
          back run there =
              let q = standing-from are codec place front starts (packets_under told now) run there in
              let first_there : is_available run.first (packets_under told now) ≡ true =
              run-available codec place starts (packets_under told now) run run.first q.0 (omega arith)
              (q.0).not_empty in
              let low : lowest ≤ run.first = (was told_is missing run.first first_there).1 in
              filter-to (λ run. nat_le lowest run.first)
              (standing-by codec place front starts (contents window.packets)) run
              (standing-to are codec place front starts (contents window.packets) run
              (run-moves codec place starts starts (packets_under told now) (contents window.packets) run q.0
              (λ m piece from upto is. let w = was told_is missing m (ap is_some is.media) in (
                piece-moves codec (packets_under told now) (contents window.packets) m piece
                    (sym (stays told_is inside missing m w.0 w.1)) is,
                refl,
              )))
              q.1)
              (le-leb lowest run.first low)

  module _ (packets : Packets) (began : ℕ → Bool) where
    -- once the front went on over numbers that are no media, the same runs stand
    pub standing-goes : (front : ℕ) (after : Option ℕ) → is_sorted nat_cmp packets ≡ true →
        ((m : ℕ) → stands_after_end m packets ≡ true → began m ≡ true) → GoesOn packets front after
        → standing-by codec place (Some front) (is_start (Some front) began) packets
        ≡ standing-by codec place after (is_start after began) packets
    standing-goes front after sorted behind g =
        standing-equal are rise codec place (Some front) (Some g.front) (is_start (Some front) began)
        (is_start (Some g.front) began) packets packets sorted sorted
        (λ run r s. let beyond : g.front < run.first =
        begins-beyond codec place (is_start (Some front) began) packets run front g.front r g.over
        (stands-beyond front run s) in (
          run-moves codec place (is_start (Some front) began)
              (is_start (Some g.front) began) packets packets run r
              (λ m piece from upto is. (is, same m piece (omega arith) is)),
          beyond-stands g.front run beyond,
        ))
        (λ run r s. let beyond : g.front < run.first = stands-beyond g.front run s in let less : front ≤ g.front =
        g.upto in (
          run-moves codec place (is_start (Some g.front) began)
              (is_start (Some front) began) packets packets run r
              (λ m piece from upto is. (is, sym (same m piece (omega arith) is))),
          beyond-stands front run (omega arith),
        ))
        ∙ ap (λ o. standing-by codec place o (is_start o began) packets) (sym g.front_is) where
          ends : (Some front ≡ Some g.front) ⊎ (option_map_or ends_frame (at g.front packets) false ≡ true)
          ends = elim (goes-ends packets front after g) [ inl same ↦ inl (ap Some same) | inr end ↦ inr end ]

          same : (m : ℕ) (piece : Piece) → g.front < m → IsPiece codec packets m piece →
              is_start (Some front) began piece ≡ is_start (Some g.front) began piece
          same m piece beyond is =
              start-same codec packets began (Some front) g.front m piece behind g.upto ends beyond is

    -- once a run is handed out, the runs that begin after it stand
    pub standing-pulled : RunsApart → (before after : Option ℕ) (run : Run) → is_sorted nat_cmp packets ≡ true →
        ((m : ℕ) → stands_after_end m packets ≡ true → began m ≡ true)
        → Contains (standing-by codec place before (is_start before began) packets) run →
        GoesOn packets run.last after
        → filter (λ other. nat_le (run.first + 1) other.first)
        (standing-by codec place before (is_start before began) packets) ≡ standing-by codec place after
        (is_start after began) packets
    standing-pulled apart before after run sorted behind there g =
        same-lists first_of (filter (λ other. nat_le (run.first + 1) other.first)
        (standing-by codec place before (is_start before began) packets))
        (standing-by codec place (Some g.front) (is_start (Some g.front) began) packets)
        (rises-filter first_of (λ other. nat_le (run.first + 1) other.first)
        (standing-by codec place before (is_start before began) packets)
        (standing-rises rise codec place before (is_start before began) packets sorted))
        (standing-rises rise codec place (Some g.front) (is_start (Some g.front) began) packets sorted)
        to back
        ∙ ap (λ o. standing-by codec place o (is_start o began) packets) (sym g.front_is) where
          itself : IsRunBy codec place (is_start before began) packets run × (stands before run ≡ true)
          itself = standing-from are codec place before (is_start before began) packets run there

          within : run.first ≤ run.last
          within = (itself.0).not_empty

          reach : run.last ≤ g.front
          reach = g.upto

          upto-by : (o : Option ℕ) → stands o run ≡ true → IsUpTo o (Some g.front)
          upto-by None s = tt
          upto-by (Some old) s = let less : old < run.first =
              stands-beyond old run s in omega (arith, less, within, reach)

          ends : (before ≡ Some g.front) ⊎ (option_map_or ends_frame (at g.front packets) false ≡ true)
          ends = elim (goes-ends packets run.last after g) [
            | inl same ↦ inr (subst (λ k. option_map_or ends_frame (at k packets) false ≡ true) same
                (last-ends codec place (is_start before began) packets run itself.0))
            | inr end ↦ inr end
          ]

          same : (m : ℕ) (piece : Piece) → g.front < m → IsPiece codec packets m piece →
              is_start before began piece ≡ is_start (Some g.front) began piece
          same m piece beyond is =
              start-same codec packets began before g.front m piece behind (upto-by before itself.1) ends beyond is

          stands-by : (o : Option ℕ) (other : Run) → stands o run ≡ true → run.first < other.first →
              stands o other ≡ true
          stands-by None other s less = refl
          stands-by (Some old) other s less =
              beyond-stands old other (let far : old < run.first = stands-beyond old run s in omega arith)

          to : (other : Run) → Contains
              (filter (λ other. nat_le (run.first + 1) other.first)
              (standing-by codec place before (is_start before began) packets)) other →
              Contains (standing-by codec place (Some g.front) (is_start (Some g.front) began) packets) other
          to other c =
              let p = filter-from (λ other. nat_le (run.first + 1) other.first)
              (standing-by codec place before (is_start before began) packets) other c in
              let q = standing-from are codec place before (is_start before began) packets other p.0 in
              let later : run.first + 1 ≤ other.first = leb-true (run.first + 1) other.first p.1 in
              let past : run.last < other.first = elim (cases_lt run.last other.first) [
                | inl less ↦ less
                | inr inner ↦
                    let r' = q.0 in let some : other.first ≤ other.last = r'.not_empty in
                    let one : run ≡ other = apart codec place
                    (is_start before began) packets run other other.first itself.0 q.0 (omega arith, inner)
                    (omega arith, some) in
                    let e : run.first ≡ other.first = ap first_of one in absurd (omega arith)
              ] in
              let beyond : g.front < other.first =
              begins-beyond codec place (is_start before began) packets other run.last g.front q.0 g.over past in
              standing-to are codec place (Some g.front) (is_start (Some g.front) began) packets other
              (run-moves codec place (is_start before began)
              (is_start (Some g.front) began) packets packets other q.0
              (λ m piece from upto is. (is, same m piece (omega arith) is)))
              (beyond-stands g.front other beyond)

          back : (other : Run) → Contains
              (standing-by codec place (Some g.front) (is_start (Some g.front) began) packets) other →
              Contains (filter (λ other. nat_le (run.first + 1) other.first)
              (standing-by codec place before (is_start before began) packets)) other
          back other c =
              let q =
              standing-from are codec place (Some g.front) (is_start (Some g.front) began) packets other c in
              let beyond : g.front < other.first = stands-beyond g.front other q.1 in
              let less : run.first < other.first = omega (arith, within, reach, beyond) in
              filter-to (λ other. nat_le (run.first + 1) other.first)
              (standing-by codec place before (is_start before began) packets) other
              (standing-to are codec place before (is_start before began) packets other
              (run-moves codec place (is_start (Some g.front) began)
              (is_start before began) packets packets other q.0
              (λ m piece from upto is. (is, sym (same m piece (omega arith) is))))
              (stands-by before other itself.1 less))
              (le-leb (run.first + 1) other.first (omega arith))
