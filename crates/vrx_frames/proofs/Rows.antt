-- Definitions evaluated on small examples, worked by hand.
use Rattle.std.proofs.Common.{◌≡◌, ℕ, Bool, true, false, List, [], ◌∷◌, map, Option, Some, None, Ok, refl, arith}
use Rattle.std.specs.Prelude.{◌==◌, if◌then◌else◌, slice_index}
use Rattle.std.specs.List.{flat_map}
use Rattle.vrx_codec.specs.Meaning.{Meaning}
use Rattle.vrx_codec.specs.declared.part.Start.{Start}
use Rattle.vrx_codec.specs.declared.part.Start.TheVariants.{Yes, No, ByNeighbour}
use Rattle.vrx_codec.specs.declared.run.Place.{Place}
use Rattle.vrx_window.specs.Content.{Content, Empty, Media}
use Rattle.vrx_frames.specs.Run.{Packets, Run, summary_of}
use Rattle.vrx_frames.specs.Completed.{Completes, Known, known_with, nothing_known, standing_runs}
use Rattle.vrx_frames.specs.Front.{front_after}
use Rattle.vrx_frames.specs.declared.shape.Shape.TheVariants as shapes

-- what an octet says of the start of its frame: 1 that it is here, 2 that it isn't, and any other leaves it open
abbrev start_said : ℕ → Start
start_said octet = if octet == 1 then Yes else (if octet == 2 then No else ByNeighbour)

-- a codec whose first octet says this
abbrev codec : Meaning
codec = record {
  read = λ payload. Ok (record {
    start = start_said (slice_index payload 0);
    key = false;
    layers = None;
    body = payload;
  });
  join = λ parts. Ok (flat_map (λ part. part.body) parts);
}

-- no packet has layers
abbrev no_place : ℕ → Option Place
no_place n = None

-- a media packet: its marker, its timestamp and its payload of one octet (RFC 3550 5.1)
abbrev packet : Bool → ℕ → ℕ → Content
packet marker ts octet =
    Media (128 ∷ (if marker then 224 else 96) ∷ 0 ∷ 0 ∷ 0 ∷ 0 ∷ 0 ∷ ts ∷ 0 ∷ 0 ∷ 0 ∷ 10 ∷ octet ∷ [])

-- the ends of runs
abbrev ends_of : List Run → List (ℕ × ℕ)
ends_of runs = map (λ run. (run.first, run.last)) runs

-- what is known once numbers were told one after the other, all of these packets held
abbrev told : Option ℕ → Option ℕ → Packets → List ℕ → Known
told newest passed packets [] = nothing_known
told newest passed packets (n ∷ ns) = known_with codec newest n passed packets (told newest passed packets ns)

-- 3 is told, and then 2, which is no media: 3 stands after it
remembers : told (Some 3) None ((2, Empty) ∷ (3, Empty) ∷ []) (2 ∷ 3 ∷ [])
    ≡ record { arrivals = (2, shapes.Other) ∷ (3, shapes.Other) ∷ []; began = 3 ∷ []; newest = Some 3; passed = None }
remembers = refl

-- 4, the end of a frame, and 5 were told. 4 leaves the window, and that 5 began stays known
abbrev four_and_five : Packets
four_and_five = (4, packet true 1 0) ∷ (5, packet false 2 0) ∷ []

abbrev moved : Packets
moved = (5, packet false 2 0) ∷ (2052, Empty) ∷ []

stays_known : known_with codec (Some 2052) 2052 None moved (told (Some 5) None four_and_five (5 ∷ 4 ∷ []))
    ≡ record {
      arrivals = (5, shapes.Media 2 false ByNeighbour) ∷ (2052, shapes.Other) ∷ [];
      began = 5 ∷ [];
      newest = Some 2052;
      passed = None;
    }
stays_known = refl

-- 1 was pulled, 3 is there, and 2 comes without a payload. With the front before, 1, the run of 3 stands newly
abbrev two_and_three : Packets
two_and_three = (2, Empty) ∷ (3, packet true 7 0) ∷ []

stood_not : ends_of (standing_runs codec no_place (Some 1)
    (told (Some 3) (Some 1) two_and_three (3 ∷ [])) two_and_three) ≡ []
stood_not = refl

stands_now : ends_of (standing_runs codec no_place (Some 1)
    (told (Some 3) (Some 1) two_and_three (2 ∷ 3 ∷ [])) two_and_three) ≡ (3, 3) ∷ []
stands_now = refl

-- with the front after, 2, it would have stood before, and would be lost
stood_already : ends_of (standing_runs codec no_place (Some 2)
    (told (Some 3) (Some 1) two_and_three (3 ∷ [])) two_and_three) ≡ (3, 3) ∷ []
stood_already = refl

-- a second start in a stretch: the run begins there, and none has both
second_start : ends_of (standing_runs codec no_place None
    (told (Some 3) None ((1, packet false 7 1) ∷ (2, packet false 7 1) ∷ (3, packet true 7 2) ∷ []) (1 ∷ 2 ∷ 3 ∷ []))
    ((1, packet false 7 1) ∷ (2, packet false 7 1) ∷ (3, packet true 7 2) ∷ [])) ≡ (2, 3) ∷ []
second_start = refl

-- a run that stood before isn't told again
not_twice : (run : Run) → Completes (run ∷ []) (run ∷ []) (summary_of run ∷ []) → ⊥
not_twice run c = c.not_both run (0, omega arith, refl) (0, omega arith, refl) (0, omega arith, refl)

-- the front goes on over 2 and 3, and not over the gap
front : front_after (Some 1) (Some 1) ((2, Empty) ∷ (3, Empty) ∷ (5, Empty) ∷ []) ≡ Some 3
front = refl
