-- What a plan does once it is carried out.
use Rattle.std.specs.Prelude.{◌≡◌, ℕ, ◌+◌, ◌*◌, ◌^◌, ◌≤◌, List, [], ◌∷◌, Option, Some, None, IfSome}
use Rattle.std.specs.Option.{option_map}
use Rattle.vrx_num.specs.Extended.{greater}
use Rattle.vrx_num.specs.Pictures.{extended_picture}
use Rattle.vrx_num.specs.declared.limits.TheConstants.{WINDOW, HALF_PICTURES}
use Rattle.vrx_codec.specs.declared.part.Layers.{Layers}
use Rattle.vrx_codec.specs.declared.run.Place.{Place}
use Rattle.vrx_window.specs.Content.{Content}
use Rattle.vrx_window.specs.Window.{Contents, after_placing, would_of}
use Rattle.vrx_window.specs.declared.held.Held.{Held}
use Rattle.vrx_window.specs.declared.held.Held.TheVariants as helds
use Rattle.vrx_window.specs.declared.placing.Placing.TheVariants.{Fresh}
use Rattle.vrx_repair.specs.declared.repair.Repair.{Repair}

-- the place that layers say beside the newest picture: the picture is extended beyond its 15 bits (RFC 7741 4.2)
abbrev pub place_beside : Option ℕ → Layers → Place
place_beside newest layers = record {
  picture = extended_picture newest layers.picture;
  tl0 = layers.tl0;
  tid = layers.tid;
  sync = layers.sync;
}

-- the packet that a repair is, its place extended beside the newest picture
abbrev pub held_beside : Option ℕ → Repair → Held
held_beside newest repair =
    helds.Media repair.text repair.marker repair.ts repair.start repair.key
    (option_map (place_beside newest) repair.layers)

-- the newest picture once layers were taken, if there are any
abbrev pub newest_with_layers : Option ℕ → Option Layers → Option ℕ
newest_with_layers newest None = newest
newest_with_layers newest (Some layers) = greater newest (extended_picture newest layers.picture)

-- the newest picture once repairs were taken in their order
abbrev pub pictures_after : List Repair → Option ℕ → Option ℕ
pictures_after [] newest = newest
pictures_after (repair ∷ repairs) newest = pictures_after repairs (newest_with_layers newest repair.layers)

-- the window once repairs were placed in their order, each with its place beside the newest picture at that moment
abbrev pub window_after : List Repair → Option ℕ → Contents Held → Contents Held
window_after [] newest window = window
window_after (repair ∷ repairs) newest window =
    window_after repairs (newest_with_layers newest repair.layers)
    (after_placing repair.number (held_beside newest repair) window)

-- each of these can be placed, once those before it were
abbrev pub ArePlaceable : Contents Content → List (ℕ × Content) → Type 0
ArePlaceable window [] = Unit {0}
ArePlaceable window (entry ∷ entries) =
    (would_of window entry.0 ≡ Fresh) × ArePlaceable (after_placing entry.0 entry.1 window) entries

-- the newest picture leaves room for so many more, each at most half of the space above the one before
abbrev pub HasRoom : Option ℕ → ℕ → Type 0
HasRoom newest more = IfSome newest (λ picture. picture + HALF_PICTURES * more ≤ 2 ^ 61 + HALF_PICTURES * WINDOW)
