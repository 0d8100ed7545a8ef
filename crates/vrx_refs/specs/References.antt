-- The frames that a frame among temporal layers refers to, as a receiver can know them (RFC 7741 4.2, 4.3). Pictures
-- are PictureIDs extended beyond their 15 bits. What a receiver saw is two lists, the newest first: the pictures that
-- packets carried, each with its TID, and the runs that were pulled.
use Rattle.std.specs.Prelude.{ℕ, zero, suc, ◌+◌, ◌-◌, ◌%◌, Bool, true, false, ◌&&◌, ◌||◌, not, ◌==◌, nat_lt, nat_le, max, if◌then◌else◌, List, [], ◌∷◌, ◌++◌, map, length, Option, Some, None, is_some}
use Rattle.std.specs.List.{filter, list_any}
use Rattle.vrx_num.specs.Index.{index_before}
use Rattle.vrx_codec.specs.declared.run.Place.{Place}
use Rattle.vrx_codec.specs.declared.run.Run.{Run}
use Rattle.vrx_refs.specs.declared.limits.TheConstants.{LAYERS, MEMORY, REACH}
use Rattle.vrx_refs.specs.declared.sighting.Sighting.{Sighting}

-- the newest picture: the greatest that a packet carried
abbrev pub newest_of : List Sighting → ℕ
newest_of [] = 0
newest_of (s ∷ told) = max s.picture (newest_of told)

-- the TID of the first packet that carried a picture
abbrev pub first_of : ℕ → Sighting → Option ℕ → Option ℕ
first_of q s (Some tid) = Some tid
first_of q s None = if s.picture == q then Some s.tid else None

abbrev pub first_tid : ℕ → List Sighting → Option ℕ
first_tid q [] = None
first_tid q (s ∷ told) = first_of q s (first_tid q told)

-- a picture is above the newest one less 4,096
abbrev pub is_recent : ℕ → ℕ → Bool
is_recent newest q = nat_lt newest (q + MEMORY)

-- the TID of a picture that is seen: a packet carried it, and it is recent
abbrev pub seen : List Sighting → ℕ → Option ℕ
seen told q = if is_recent (newest_of told) q then first_tid q told else None

-- a run has layers, and this is its picture
abbrev pub is_placed_at : ℕ → Option Place → Bool
is_placed_at q None = false
is_placed_at q (Some place) = place.picture == q

abbrev pub is_of_picture : ℕ → Run → Bool
is_of_picture q run = is_placed_at q run.layers

-- a picture was pulled, and it was pulled as a keyframe
abbrev pub was_pulled : List Run → ℕ → Bool
was_pulled pulled q = list_any (is_of_picture q) pulled

abbrev pub was_pulled_key : List Run → ℕ → Bool
was_pulled_key pulled q = list_any (λ run. run.key && is_of_picture q run) pulled

-- the base of an index: the picture of the last run pulled of TID 0 and this TL0PICIDX
abbrev pub base_by : ℕ → Option Place → Option ℕ → Option ℕ
base_by index None before = before
base_by index (Some place) before = if (place.tid == 0) && (place.tl0 == index) then Some place.picture else before

abbrev pub base : List Run → ℕ → Option ℕ
base [] index = None
base (run ∷ pulled) index = base_by index run.layers (base pulled index)

-- a base counts for picture p if it lies 1 to 255 below it
abbrev pub counts : ℕ → ℕ → Bool
counts p b = nat_lt b p && nat_le p (b + REACH)

-- the base as the one reference of picture p, if there is one that counts
abbrev pub base_reference : ℕ → Option ℕ → Option (List ℕ)
base_reference p None = None
base_reference p (Some b) = if counts p b then Some (b ∷ []) else None

-- a TID was met
abbrev pub was_met : ℕ → List Sighting → Bool
was_met tid met = list_any (λ s. s.tid == tid) met

-- what was met once picture q of TID t is, on a walk for a frame of this TID: the first of each TID up to its own
abbrev pub met_with : (tid q t : ℕ) → List Sighting → List Sighting
met_with tid q t met =
    if nat_le t tid && not (was_met t met) then met ++ (record { picture = q; tid = t } ∷ []) else met

-- all TIDs from 0 to this one were met
abbrev pub are_met : ℕ → List Sighting → Bool
are_met tid met = length met == tid + 1

-- the pictures met
abbrev pub pictures : List Sighting → List ℕ
pictures met = map (λ s. s.picture) met

-- what a walk gives that comes to picture q, with the TID of q if it is seen: nothing if it isn't; what was met, if
-- that is all TIDs, or if walks stop at this picture; and else what it gives as it goes on
abbrev pub walked : (ℕ → Bool) → (tid q : ℕ) → (List Sighting → Option (List ℕ)) → List Sighting → Option ℕ
    → Option (List ℕ)
walked stop tid q on met None = None
walked stop tid q on met (Some t) = let next : List Sighting = met_with tid q t met in
    if are_met tid next || stop q then Some (pictures next) else on next

-- the pictures met on a walk back from a frame of this TID over the pictures below p, at most so many of them, if it
-- comes to an end: of each picture its TID, if it is seen, and whether walks stop at it
abbrev pub walk : (ℕ → Option ℕ) → (ℕ → Bool) → (tid most p : ℕ) → List Sighting → Option (List ℕ)
walk tids stop tid zero p met = None
walk tids stop tid (suc most) zero met = None
walk tids stop tid (suc most) (suc q) met = walked stop tid q (walk tids stop tid most q) met (tids q)

-- The pictures that a frame with layers refers to, if they are known. A frame of TID 0 refers to the base of the
-- index before its own, and one that depends on its base only (Y is 1) to the base of its own index. Any other one
-- refers to the picture that is met first of each TID up to its own, on a walk back over pictures that are seen. The
-- walk goes 255 pictures back at most, and stops at a picture that was pulled as a keyframe.
abbrev pub references : List Sighting → List Run → Place → Option (List ℕ)
references told pulled place =
    if place.tid == 0 then base_reference place.picture (base pulled (index_before place.tl0))
    else if place.sync then base_reference place.picture (base pulled place.tl0)
    else walk (seen told) (was_pulled_key pulled) place.tid REACH place.picture []

-- how far a run is from being decoded: it refers to nothing; it waits for these pictures, to which it refers and
-- which weren't pulled; or it isn't known to what it refers
pub data Judgement : Type 0 where
  Key : Judgement
  Needs : (pictures : List ℕ) → Judgement
  Unknown : Judgement

abbrev pub waits_for : List Run → Option (List ℕ) → Judgement
waits_for pulled None = Unknown
waits_for pulled (Some pictures) = Needs (filter (λ q. not (was_pulled pulled q)) pictures)

-- some run was pulled
abbrev pub is_some_pulled : List Run → Bool
is_some_pulled [] = false
is_some_pulled (run ∷ pulled) = true

-- the number before the first one of a run is passed
abbrev pub is_passed_before : Option ℕ → ℕ → Bool
is_passed_before None first = false
is_passed_before (Some front) first = nat_le (first - 1) front

-- it is evident that a run without layers refers to the last run pulled
abbrev pub is_evident : List Run → Option ℕ → ℕ → Bool
is_evident pulled passed first = is_some_pulled pulled && is_passed_before passed first

-- a run that isn't key, by its layers
abbrev pub judge_delta : List Sighting → List Run → Option ℕ → ℕ → Option Place → Judgement
judge_delta told pulled passed first None = if is_evident pulled passed first then Needs [] else Unknown
judge_delta told pulled passed first (Some place) = waits_for pulled (references told pulled place)

-- a run, after these sightings and pulls, with the numbers up to `passed` passed
abbrev pub judge : List Sighting → List Run → Option ℕ → Run → Judgement
judge told pulled passed run = if run.key then Key else judge_delta told pulled passed run.first run.layers

-- a run's TID, if it has layers, is one of the four that there are
abbrev pub has_layer : Option Place → Bool
has_layer None = true
has_layer (Some place) = nat_lt place.tid LAYERS

-- a run's picture, if it has layers, was carried by a packet
abbrev pub was_carried : List Sighting → Option Place → Bool
was_carried told None = true
was_carried told (Some place) = is_some (first_tid place.picture told)

-- a run is ready to be decoded: it refers to nothing, or to frames that are known and were all pulled
abbrev pub is_ready : Judgement → Bool
is_ready Key = true
is_ready (Needs []) = true
is_ready (Needs (q ∷ qs)) = false
is_ready Unknown = false
