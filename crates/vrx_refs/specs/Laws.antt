-- What holds of references and judgements, as statements.
use Rattle.std.specs.Prelude.{◌≡◌, ◌≢◌, ◌↔◌, ◌⊎◌, ℕ, ◌+◌, ◌<◌, ◌≤◌, Bool, true, false, ◌==◌, List, [], length, Option, Some, is_some, IsSomeAnd}
use Rattle.std.specs.List.{list_any}
use Rattle.vrx_codec.specs.declared.run.Place.{Place}
use Rattle.vrx_codec.specs.declared.run.Run.{Run}
use Rattle.vrx_refs.specs.declared.limits.TheConstants.{REACH}
use Rattle.vrx_refs.specs.declared.sighting.Sighting.{Sighting}
use Rattle.vrx_refs.specs.References.{judge, Needs, references, seen, walk, was_pulled, was_pulled_key}

-- a picture is one of these
abbrev pub is_among : ℕ → List ℕ → Bool
is_among q pictures = list_any (λ picture. picture == q) pictures

-- a picture has a TID up to this one, and no picture between it and p has the same
abbrev pub IsFirst : (ℕ → Option ℕ) → (tid p q : ℕ) → Type 0
IsFirst tids tid p q = IsSomeAnd (tids q) (λ t. (t ≤ tid) × ((r : ℕ) → q < r → r < p → tids r ≢ Some t))

-- A walk back from picture p came to picture `last`. Each picture on the way is seen. What it gives is the pictures
-- on the way that are the first of their TIDs. It ends where there are as many of them as TIDs up to this one, or
-- where walks stop, which they do nowhere on the way before.
pub record HasWalked (tids : ℕ → Option ℕ) (stop : ℕ → Bool) (tid p last : ℕ) (found : List ℕ) : Type 0 where
  pub below : last < p
  pub seen : (q : ℕ) → last ≤ q → q < p → is_some (tids q) ≡ true
  pub firsts : (q : ℕ) → (is_among q found ≡ true) ↔ ((last ≤ q) × (q < p) × IsFirst tids tid p q)
  pub goes_on : (q : ℕ) → last < q → q < p → stop q ≡ false
  pub ends : (length found ≡ tid + 1) ⊎ (stop last ≡ true)

-- what a walk gives, whatever the TIDs of pictures are, and wherever walks stop: it goes at most so many pictures
-- back
abbrev pub WalksBack : Type 0
WalksBack = (tids : ℕ → Option ℕ) (stop : ℕ → Bool) (tid most p : ℕ) (found : List ℕ) →
    walk tids stop tid most p [] ≡ Some found →
    (last : ℕ) × (p ≤ last + most) × HasWalked tids stop tid p last found

-- what a frame refers to, if it has neither TID 0 nor Y: a walk gives it, over pictures that are seen
abbrev pub AreWalked : Type 0
AreWalked = (told : List Sighting) (pulled : List Run) (place : Place) (found : List ℕ) → place.tid ≢ 0 →
    place.sync ≡ false → references told pulled place ≡ Some found →
    (last : ℕ) × HasWalked (seen told) (was_pulled_key pulled) place.tid place.picture last found

-- each frame that another one refers to lies 1 to 255 pictures below it
abbrev pub AreNear : Type 0
AreNear = (told : List Sighting) (pulled : List Run) (place : Place) (found : List ℕ) →
    references told pulled place ≡ Some found →
    (q : ℕ) → is_among q found ≡ true → (q < place.picture) × (place.picture ≤ q + REACH)

-- each picture between a frame that has neither TID 0 nor Y and one that it refers to is seen
abbrev pub AreSeenBetween : Type 0
AreSeenBetween = (told : List Sighting) (pulled : List Run) (place : Place) (found : List ℕ) → place.tid ≢ 0 →
    place.sync ≡ false → references told pulled place ≡ Some found →
    (q r : ℕ) → is_among q found ≡ true → q ≤ r → r < place.picture → is_some (seen told r) ≡ true

-- if a frame with layers waits for nothing, it is known to what it refers, and all that was pulled
abbrev pub FollowsReferences : Type 0
FollowsReferences = (told : List Sighting) (pulled : List Run) (passed : Option ℕ) (run : Run) (place : Place) →
    run.layers ≡ Some place → judge told pulled passed run ≡ Needs [] →
    IsSomeAnd (references told pulled place)
    (λ found. (q : ℕ) → is_among q found ≡ true → was_pulled pulled q ≡ true)
