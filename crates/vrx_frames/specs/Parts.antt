-- What the payloads of available packets say.
use Rattle.std.specs.Prelude.{ℕ, Bool, true, false, List, Option, Some, None}
use Rattle.std.specs.List.{filter_map}
use Rattle.std.specs.Option.{option_map, option_and_then}
use Rattle.vrx_codec.specs.Part.{Part}
use Rattle.vrx_codec.specs.Meaning.{Meaning}
use Rattle.vrx_window.specs.Content.{Content}
use Rattle.vrx_window.specs.Window.{at}
use Rattle.vrx_window.specs.declared.held.Held.{Held}
use Rattle.vrx_window.specs.declared.held.Held.TheVariants as helds
use Rattle.vrx_frames.specs.Run.{Packets, numbers_from, piece_of}

-- media is held
abbrev pub is_media : Option Held → Bool
is_media None = false
is_media (Some (helds.Media text marker ts start key layers)) = true
is_media (Some (helds.Empty marker)) = false
is_media (Some (helds.Fec payload)) = false

-- what a content's payload says, if it is media
abbrev pub part_of : Meaning → Content → Option Part
part_of codec content = option_map (λ piece. piece.part) (piece_of codec 0 content)

-- what a number's payload says, if the number is available media
abbrev pub part_at : Meaning → Packets → ℕ → Option Part
part_at codec packets n = option_and_then (part_of codec) (at n packets)

-- the parts of the numbers n, n + 1 and so on, as many as are asked for
abbrev pub parts_from : Meaning → Packets → ℕ → ℕ → List Part
parts_from codec packets n count = filter_map (part_at codec packets) (numbers_from n count)
