-- THE DRAWS of a drill: the successive words of PCG32 (XSH RR 64/32) from a seed. Each frame draws its size, and then
-- the fate of each of its packets, in order.
use Rattle.std.specs.Prelude.{ℕ, zero, suc, ◌+◌, ◌%◌, ◌==◌, if◌then◌else◌, List, [], ◌∷◌}
use Rattle.rand_core.specs.Pcg32Seed.{pcg32_seed}
use Rattle.rand_pcg.specs.Lcg.{Lcg}
use Rattle.rand_pcg.specs.Pcg.{pcg32, pcg32_of_seed}
use Rattle.vrx_sender.specs.declared.draws.Fate.{Fate}
use Rattle.vrx_sender.specs.declared.draws.Fate.TheVariants.{InTime, Late, Lost, SentAgain}
use Rattle.vrx_sender.specs.Frames.{size_by, packet_count}

-- the generator of a seed
abbrev pub generator : ℕ → Lcg
generator seed = pcg32_of_seed (pcg32_seed 16 seed)

-- the word that a generator draws, and the generator after it
abbrev pub word : Lcg → ℕ
word g = (pcg32 g).0

abbrev pub after : Lcg → Lcg
after g = (pcg32 g).1

-- The fate of a packet, and the generator after it: by its word one in twenty is late, and one in twenty is lost. By
-- a second word a lost packet is sent again, but for one in sixteen.
abbrev pub fate_of_lost : ℕ → Fate
fate_of_lost v = if v % 16 == 0 then Lost else SentAgain

abbrev pub fate : Lcg → Fate × Lcg
fate g =
    if word g % 20 == 0 then (fate_of_lost (word (after g)), after (after g))
    else (if word g % 20 == 1 then Late else InTime, after g)

-- the fates of so many packets, and the generator after them
abbrev pub fates : ℕ → Lcg → List Fate × Lcg
fates zero g = ([], g)
fates (suc count) g = let first = fate g in let others = fates count first.1 in (first.0 ∷ others.0, others.1)

-- what is drawn for a frame: how many octets it has, and the fates of its packets
pub record Drawn : Type 0 where
  pub size : ℕ
  pub fates : List Fate

-- what is drawn for frame f, and the generator after it
abbrev pub drawn : ℕ → Lcg → Drawn × Lcg
drawn f g =
    let size : ℕ = size_by f (word g) in
    let its = fates (packet_count size) (after g) in (record { size = size; fates = its.0 }, its.1)

-- what is drawn for so many frames, from frame f on
unfoldable pub drawn_from : ℕ → ℕ → Lcg → List Drawn
drawn_from f zero g = []
drawn_from f (suc count) g = (drawn f g).0 ∷ drawn_from (f + 1) count (drawn f g).1

-- the draws of a drill: a seed, and a count of frames
abbrev pub draws : ℕ → ℕ → List Drawn
draws seed frames = drawn_from 0 frames (generator seed)
