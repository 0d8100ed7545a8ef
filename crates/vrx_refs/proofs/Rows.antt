-- Rows of the definitions, which compute. Frames are single packets: frame i has number 65,536 + i and picture
-- 32,768 + i, and frame 1 is key.
use Rattle.std.proofs.Common.{◌≡◌, ℕ, zero, suc, ◌+◌, ◌%◌, Bool, true, false, List, [], ◌∷◌, ◌==◌, Option, Some, None, refl}
use Rattle.vrx_codec.specs.declared.run.Place.{Place}
use Rattle.vrx_codec.specs.declared.run.Run.{Run}
use Rattle.vrx_refs.specs.declared.sighting.Sighting.{Sighting}
use Rattle.vrx_refs.specs.References.{judge, Key, Needs, Unknown, seen}

abbrev frame_of : ℕ → Option Place → Run
frame_of i layers = record {
  first = 65536 + i;
  last = 65536 + i;
  ts = 0;
  key = i == 1;
  layers = layers;
  octets = 1;
}

abbrev frame : (i tl0 tid : ℕ) → Bool → Run
frame i tl0 tid sync =
    frame_of i (Some (record { picture = 32768 + i; tl0 = tl0; tid = tid; sync = sync }))

abbrev sighting : (i tid : ℕ) → Sighting
sighting i tid = record { picture = 32768 + i; tid = tid }

-- TIDs 0, 2, 1, 2 under one index: frame 1 was pulled, and frame 2 is lost
abbrev pulled : List Run
pulled = frame 1 5 0 false ∷ []

abbrev without : List Sighting
without = sighting 3 1 ∷ sighting 1 0 ∷ []

abbrev whole : List Sighting
whole = sighting 2 2 ∷ without

a_keyframe : judge without [] None (frame 1 5 0 false) ≡ Key
a_keyframe = refl

-- frame 3 isn't judged before it is known what frame 2 is, and then needs frame 1 only
lost : judge without pulled (Some 65537) (frame 3 5 1 false) ≡ Unknown
lost = refl

there : judge whole pulled (Some 65537) (frame 3 5 1 false) ≡ Needs []
there = refl

-- with Y it needs frame 1 only, whatever frame 2 is
synced : judge without pulled (Some 65537) (frame 3 5 1 true) ≡ Needs []
synced = refl

-- frame 4 waits for the frames 3 and 2
fourth : judge (sighting 4 2 ∷ whole) pulled (Some 65537) (frame 4 5 2 false) ≡ Needs (32771 ∷ 32770 ∷ [])
fourth = refl

-- of frame 2 the packet counts that came first, whatever another one says
first_packet : judge (sighting 2 0 ∷ whole) pulled (Some 65537) (frame 3 5 1 false) ≡ Needs []
first_packet = refl

-- frames 1 to 256 have TID 0 and the indexes 0 to 255, and all were pulled; frame 257 of index 0 is lost
abbrev pulled_up_to : ℕ → List Run
pulled_up_to zero = []
pulled_up_to (suc i) = frame (suc i) (i % 256) 0 false ∷ pulled_up_to i

-- the last frame pulled of index 0 is frame 1: it lies 257 pictures below frame 258
an_older_equal_index : judge [] (pulled_up_to 256) (Some 65792) (frame 258 1 0 false) ≡ Unknown
an_older_equal_index = refl

the_equal_index : judge [] (pulled_up_to 257) (Some 65793) (frame 258 1 0 false) ≡ Needs []
the_equal_index = refl

-- a base counts 255 pictures back, and not 256
far : judge [] pulled (Some 65537) (frame 256 6 0 false) ≡ Needs []
far = refl

too_far : judge [] pulled (Some 65537) (frame 257 6 0 false) ≡ Unknown
too_far = refl

-- a frame of TID 0 doesn't refer to its own index
own_index : judge [] pulled (Some 65537) (frame 2 5 0 false) ≡ Unknown
own_index = refl

-- a walk stops at a keyframe that was pulled, though no TID 1 was met
stops : judge (sighting 2 2 ∷ sighting 1 0 ∷ []) pulled (Some 65537) (frame 3 5 2 false) ≡ Needs (32770 ∷ [])
stops = refl

-- and goes on at any other picture that was pulled
goes_on : judge (sighting 2 0 ∷ []) (frame 2 6 0 false ∷ pulled) (Some 65538) (frame 3 6 1 false) ≡ Unknown
goes_on = refl

-- a picture that was seen is forgotten 4,096 pictures later
remembered : seen (sighting 4097 0 ∷ sighting 2 1 ∷ []) 32770 ≡ Some 1
remembered = refl

forgotten : seen (sighting 4098 0 ∷ sighting 2 1 ∷ []) 32770 ≡ None
forgotten = refl

-- without layers the number before has to be passed, and some frame pulled
evident : judge [] pulled (Some 65537) (frame_of 2 None) ≡ Needs []
evident = refl

not_evident : judge [] pulled (Some 65537) (frame_of 3 None) ≡ Unknown
not_evident = refl

nothing_pulled : judge [] [] (Some 65537) (frame_of 2 None) ≡ Unknown
nothing_pulled = refl
