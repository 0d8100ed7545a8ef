-- What packets told of the places of their frames among temporal layers (RFC 7741 4.2).
use Rattle.std.specs.Prelude.{ℕ, ◌==◌, if◌then◌else◌, List, [], ◌∷◌, map, Option, Some, None}
use Rattle.std.specs.Option.{option_and_then}
use Rattle.vrx_num.specs.Extended.{greater}
use Rattle.vrx_codec.specs.Meaning.{Meaning}
use Rattle.vrx_codec.specs.declared.part.Layers.{Layers}
use Rattle.vrx_codec.specs.declared.run.Place.{Place}
use Rattle.vrx_window.specs.Content.{Content}
use Rattle.vrx_frames.specs.Run.{piece_of}
use Rattle.vrx_repair.specs.Commit.{place_beside}
use Rattle.vrx_refs.specs.declared.sighting.Sighting.{Sighting}

-- the numbers that told a place, each with it, the newest first
abbrev pub Told : Type 0
Told = List (ℕ × Place)

-- the newest picture: the greatest one told
abbrev pub newest_picture : Told → Option ℕ
newest_picture [] = None
newest_picture ((n, place) ∷ told) = greater (newest_picture told) place.picture

-- the pictures that packets carried, each with its TID, the newest first
abbrev pub sightings : Told → List Sighting
sightings told = map (λ entry. record { picture = entry.1.picture; tid = entry.1.tid }) told

-- the place that a number told, if it told one
abbrev pub place_told : Told → ℕ → Option Place
place_told [] n = None
place_told ((m, place) ∷ told) n = if m == n then Some place else place_told told n

-- the layers that a packet says, if it is media with layers
abbrev pub layers_of : Meaning → Content → Option Layers
layers_of codec content = option_and_then (λ piece. piece.part.layers) (piece_of codec 0 content)

-- a number tells the place that these layers say beside the newest picture
abbrev pub told_by : ℕ → Option Layers → Told → Told
told_by n None told = told
told_by n (Some layers) told = (n, place_beside (newest_picture told) layers) ∷ told

-- what is told once packets became available, one after the other
abbrev pub told_with : Meaning → List (ℕ × Content) → Told → Told
told_with codec [] told = told
told_with codec ((n, content) ∷ packets) told = told_with codec packets (told_by n (layers_of codec content) told)
