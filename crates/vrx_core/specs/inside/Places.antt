-- The places of packets among temporal layers, as the engine keeps them and tells them to the finder.
use Rattle.std.specs.Prelude.{◌≡◌, ℕ, List, [], ◌∷◌, Option, Some, None, IfSome}
use Rattle.vrx_num.specs.Extended.{greater}
use Rattle.vrx_codec.specs.declared.run.Place.{Place}
use Rattle.vrx_refs.specs.declared.sighting.Sighting.{Sighting}
use Rattle.vrx_repair.specs.Commit.{place_beside}
use Rattle.vrx_window.specs.Sound.{on_wire, place_at, place_of}
use Rattle.vrx_window.specs.declared.held.Held.{Held}

-- the place of a packet, if it has one, is what its layers say beside the newest picture
abbrev pub IsPlacedBeside : Option ℕ → Held → Type 0
IsPlacedBeside newest held = IfSome (place_of (Some held)) (λ place. place ≡ place_beside newest (on_wire place))

-- the newest picture once a packet of this place was taken
abbrev pub newest_with_place : Option ℕ → Option Place → Option ℕ
newest_with_place newest None = newest
newest_with_place newest (Some place) = greater newest place.picture

-- what was told of pictures, with this place told
abbrev pub with_sighting : Option Place → List Sighting → List Sighting
with_sighting None told = told
with_sighting (Some place) told = record { picture = place.picture; tid = place.tid } ∷ told

-- the same with the places told of these numbers of a window, one after the other
abbrev pub with_sightings : List (ℕ × Held) → List ℕ → List Sighting → List Sighting
with_sightings packets [] told = told
with_sightings packets (n ∷ ns) told = with_sightings packets ns (with_sighting (place_at packets n) told)
