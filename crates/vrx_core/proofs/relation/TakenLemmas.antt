-- A packet was taken: what is known, and the runs that stand.
use Rattle.std.proofs.Common.{◌≡◌, ℕ, ◌-◌, Bool, true, false, ◌&&◌, ◌||◌, List, map, Option, Some, refl, sym, ◌∙◌, ap, nat_cmp}
use Rattle.std.specs.Prelude.{nat_le}
use Rattle.std.specs.List.{filter}
use Rattle.std.specs.Option.{option_map_or}
use Rattle.std.specs.FinMap.Entries.{is_sorted, put, where_key}
use Rattle.std.proofs.lemmas.Bool.{and_parts, or_right}
use Rattle.vrx_codec.specs.Meaning.{Meaning}
use Rattle.vrx_codec.specs.declared.run.Place.{Place}
use Rattle.vrx_codec.specs.declared.run.Run.{Run as RunSummary}
use Rattle.vrx_window.specs.Content.{Content, contents}
use Rattle.vrx_window.specs.Sound.{place_at}
use Rattle.vrx_window.specs.Window.{Contents, at, in_window, is_available, is_inside, newest_with, after_placing, entries_with}
use Rattle.vrx_window.specs.declared.held.Held.{Held}
use Rattle.vrx_frames.specs.Completed.{Known, is_among, known_with, standing_runs, packets_under}
use Rattle.vrx_frames.specs.IsRun.{RunsAre, RunsRise}
use Rattle.vrx_frames.specs.Run.{Packets, Run, ends_frame, is_start, stands_after_end, summary_of}
use Rattle.vrx_frames.specs.Shape.{shape_of}
use Rattle.vrx_frames.specs.declared.shape.Shape.{Shape}
use Rattle.vrx_frames.specs.declared.shape.Shape.TheVariants as shapes
use Rattle.vrx_buffer.specs.Frames.{runs_from}
use Rattle.vrx_core.specs.relation.StandsFor.{numbers_of, shapes_of}
use Rattle.vrx_core.specs.inside.Step.{frames_in, lowest_of}
use Rattle.vrx_core.proofs.relation.ListLemmas.{Rises, filter-map}
use Rattle.vrx_core.proofs.relation.MapLemmas.{among-numbers, at_put-here, map_put, map_where, sorted_where}
use Rattle.vrx_core.proofs.relation.RunMoveLemmas.{standing-by, standing-place, standing-rises}
use Rattle.vrx_core.proofs.relation.WindowLemmas.{among-filter, sorted-contents, told-numbers, told-whole}
use Rattle.vrx_core.proofs.relation.AddLemmas.{first_of}
use Rattle.vrx_core.proofs.relation.StandLemmas.{standing-left}

-- the runs that stand rise
pub known-rises : RunsRise → (codec : Meaning) (place : ℕ → Option Place) (passed : Option ℕ) (k : Known)
    (packets : Packets) → is_sorted nat_cmp packets ≡ true →
    Rises first_of (standing_runs codec place passed k packets)
known-rises rise codec place passed k packets sorted =
    standing-rises rise codec place passed (is_start passed (is_among k.began)) (packets_under k.arrivals packets)
    (sorted_where (λ n. is_available n k.arrivals) packets sorted)

-- if all that is held is told, the runs are those of all packets
pub standing_runs-whole : (codec : Meaning) (place : ℕ → Option Place) (passed : Option ℕ) (k : Known)
    (packets : Packets) → k.arrivals ≡ shapes_of codec packets
    → standing_runs codec place passed k packets ≡ standing-by codec place passed
    (is_start passed (is_among k.began)) packets
standing_runs-whole codec place passed k packets is =
    ap (standing-by codec place passed (is_start passed (is_among k.began)))
    (told-whole codec k.arrivals packets is)

module _ (codec : Meaning) (packets : Packets) (newest n : ℕ) (content : Content) (passed : Option ℕ) (k : Known) where
  -- the packets once n was placed
  abbrev pub now : Packets
  now = entries_with newest n content packets

  -- what is known once n is told too
  abbrev pub then : Known
  then = known_with codec (Some newest) n passed now k

  -- the shape of the packet that was placed
  shape-here : option_map_or (shape_of codec) (at n now) shapes.Other ≡ shape_of codec content
  shape-here = ap (λ o. option_map_or (shape_of codec) o shapes.Other)
      (at_put-here n content (where_key nat_cmp (in_window newest) packets))

  -- all that is held is told
  pub told-then : k.arrivals ≡ shapes_of codec packets → then.arrivals ≡ shapes_of codec now
  told-then is =
      ap (λ t. put nat_cmp n (option_map_or (shape_of codec) (at n now) shapes.Other)
      (where_key nat_cmp (in_window newest) t)) is
      ∙ ap (λ s. put nat_cmp n s (where_key nat_cmp (in_window newest) (shapes_of codec packets))) shape-here
      ∙ ap (put nat_cmp n (shape_of codec content)) (sym (map_where (shape_of codec) (in_window newest) packets))
      ∙ sym (map_put (shape_of codec) n content (where_key nat_cmp (in_window newest) packets))

  -- of the numbers told those are known that began, and those that stand right after the end of a frame
  pub began-then : k.arrivals ≡ shapes_of codec packets →
      then.began ≡ filter (λ m. is_among k.began m || stands_after_end m now) (numbers_of now)
  began-then is =
      ap (λ ps. filter (λ m. is_among k.began m || stands_after_end m ps)
      (map (λ (entry : ℕ × Shape). entry.0) then.arrivals)) (told-whole codec then.arrivals now (told-then is))
      ∙ ap (filter (λ m. is_among k.began m || stands_after_end m now))
      (told-numbers codec then.arrivals now (told-then is))

  -- so it is of a number that is available
  pub among-then : k.arrivals ≡ shapes_of codec packets → (m : ℕ) → is_available m now ≡ true →
      is_among then.began m ≡ (is_among k.began m || stands_after_end m now)
  among-then is m there =
      ap (λ ns. is_among ns m) (began-then is)
      ∙ among-filter (λ q. is_among k.began q || stands_after_end q now) (numbers_of now) m
      ∙ ap (λ b. (is_among k.began m || stands_after_end m now) && b) (sym (among-numbers now m) ∙ there)
      ∙ and_true (is_among k.began m || stands_after_end m now) where
        and_true : (b : Bool) → (b && true) ≡ b
        and_true true = refl
        and_true false = refl

  -- each number that stands right after the end of a frame is known
  pub behind-then : k.arrivals ≡ shapes_of codec packets → (m : ℕ) → stands_after_end m now ≡ true →
      is_among then.began m ≡ true
  behind-then is m stood =
      let p : (is_available m now ≡ true) × (option_map_or ends_frame (at (m - 1) now) false ≡ true) =
      and_parts (is_available m now) (option_map_or ends_frame (at (m - 1) now) false) stood in
      among-then is m p.0 ∙ or_right (is_among k.began m) (stands_after_end m now) stood

module _ (are : RunsAre) (rise : RunsRise) (codec : Meaning) (window : Contents Held) (n : ℕ) (held : Held)
    (passed : Option ℕ) (k : Known) where
  -- What is left in the window, if packets came beside what was known: of these numbers stands what stood there, and
  -- they have the places that they had.
  pub frames-left : (after : Contents Held) → k.arrivals ≡ shapes_of codec (contents window.packets)
      → is_sorted nat_cmp window.packets ≡ true →
      ((m : ℕ) → is_available m window.packets ≡ true → is_inside window.newest m ≡ true) →
      is_available n window.packets ≡ false
      → is_sorted nat_cmp after.packets ≡ true → after.newest ≡ Some (newest_with window.newest n)
      → packets_under k.arrivals (contents (after_placing n held window).packets)
      ≡ packets_under k.arrivals (contents after.packets)
      → ((m : ℕ) → is_available m (packets_under k.arrivals (contents after.packets)) ≡ true →
      place_at window.packets m ≡ place_at after.packets m)
      → runs_from (lowest_of after.newest) (frames_in codec window passed k) ≡ frames_in codec after passed k
  frames-left after is sorted inside missing sorted' newest_is under places =
      ap (λ rs. runs_from (lowest_of after.newest) (map summary_of rs))
      (standing_runs-whole codec (place_at window.packets) passed k (contents window.packets) is)
      ∙ ap (λ (o : Option ℕ). runs_from (lowest_of o) (map summary_of stood)) newest_is
      ∙ filter-map summary_of (λ (run : RunSummary). nat_le lowest run.first) stood
      ∙ ap (map summary_of) (standing-left are rise codec (place_at window.packets) window n held k.arrivals passed
      (is_start passed (is_among k.began)) is sorted inside missing)
      ∙ ap (λ ps. map summary_of (standing-by codec (place_at window.packets) passed
      (is_start passed (is_among k.began)) ps)) under
      ∙ ap (map summary_of) (standing-place are rise codec (place_at window.packets) (place_at after.packets) passed
      (is_start passed (is_among k.began)) (packets_under k.arrivals (contents after.packets))
      (sorted_where (λ m. is_available m k.arrivals) (contents after.packets)
      (sorted-contents after.packets sorted')) places) where
        stood : List Run
        stood = standing-by codec (place_at window.packets) passed (is_start passed (is_among k.began))
            (contents window.packets)

        lowest : ℕ
        lowest = lowest_of (Some (newest_with window.newest n))
