-- Rows of the definitions, which compute. Frames are single packets: frame i has number 65,536 + i and picture
-- 32,768 + i.
use Rattle.std.proofs.Common.{◌≡◌, ℕ, ◌+◌, Bool, true, false, List, [], ◌∷◌, Option, Some, None, refl}
use Rattle.vrx_codec.specs.declared.run.Place.{Place}
use Rattle.vrx_codec.specs.declared.run.Run.{Run}
use Rattle.vrx_refs.specs.declared.sighting.Sighting.{Sighting}
use Rattle.vrx_buffer.specs.Frames.{key_numbers, next_of, runs_from, with_run}
use Rattle.vrx_buffer.specs.Order.{greatest_of}

abbrev run_of : ℕ → Bool → Option Place → Run
run_of i key layers = record {
  first = 65536 + i;
  last = 65536 + i;
  ts = 0;
  key = key;
  layers = layers;
  octets = 1;
}

-- a frame without layers, and one among layers, of index 5
abbrev bare : ℕ → Bool → Run
bare i key = run_of i key None

abbrev frame : (i tid : ℕ) → (key sync : Bool) → Run
frame i tid key sync = run_of i key (Some (record { picture = 32768 + i; tl0 = 5; tid = tid; sync = sync }))

abbrev sighting : (i tid : ℕ) → Sighting
sighting i tid = record { picture = 32768 + i; tid = tid }

-- TIDs 0, 2, 1, 2: frame 1 was pulled, and frame 2 is lost
abbrev pulled : List Run
pulled = frame 1 0 true false ∷ []

abbrev third : Run
third = frame 3 1 false false

abbrev fourth : Run
fourth = frame 4 2 false false

abbrev without : List Sighting
without = sighting 4 2 ∷ sighting 3 1 ∷ sighting 1 0 ∷ []

abbrev whole : List Sighting
whole = sighting 2 2 ∷ without

-- neither of the others goes out before it is known what frame 2 is
unknown : next_of without pulled (Some 65537) (third ∷ fourth ∷ []) ≡ None
unknown = refl

-- then the one of TID 1 does, and the one of TID 2 after it waits for frame 2
one_goes : next_of whole pulled (Some 65537) (third ∷ fourth ∷ []) ≡ Some third
one_goes = refl

one_waits : next_of whole (third ∷ pulled) (Some 65539) (fourth ∷ []) ≡ None
one_waits = refl

-- it goes out if frame 2 came after all, or if it says with Y that it doesn't need it
it_came : next_of whole (third ∷ frame 2 2 false false ∷ pulled) (Some 65539) (fourth ∷ []) ≡ Some fourth
it_came = refl

synced : next_of whole (third ∷ pulled) (Some 65539) (frame 4 2 false true ∷ []) ≡ Some (frame 4 2 false true)
synced = refl

-- a frame that is ready goes out before a later keyframe, and one that isn't is passed over
ready_first : next_of whole pulled (Some 65537) (third ∷ bare 5 true ∷ []) ≡ Some third
ready_first = refl

key_first : next_of without pulled (Some 65537) (third ∷ bare 5 true ∷ []) ≡ Some (bare 5 true)
key_first = refl

-- a run without layers waits until the number before it is passed
waits : next_of [] pulled (Some 65537) (bare 3 false ∷ []) ≡ None
waits = refl

goes : next_of [] pulled (Some 65538) (bare 3 false ∷ []) ≡ Some (bare 3 false)
goes = refl

-- a run is put in place of one that begins at the same number
replaced : with_run (bare 3 true) (bare 2 false ∷ third ∷ fourth ∷ [])
    ≡ (bare 2 false ∷ bare 3 true ∷ fourth ∷ [])
replaced = refl

-- the runs from frame 3 on, and the greatest keyframe
from_third : runs_from 65539 (bare 2 false ∷ third ∷ fourth ∷ []) ≡ (third ∷ fourth ∷ [])
from_third = refl

greatest : greatest_of (key_numbers (bare 2 true ∷ third ∷ bare 5 true ∷ bare 6 false ∷ [])) ≡ Some 65541
greatest = refl
