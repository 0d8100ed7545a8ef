-- A held packet says what its text says.
use Rattle.std.specs.Prelude.{◌≡◌, ◌≢◌, ℕ, ◌%◌, ◌≤◌, Bool, List, [], length, Option, Some, None, IfSome, Ok}
use Rattle.std.specs.Option.{option_map}
use Rattle.vrx_num.specs.declared.limits.TheConstants.{MOST_OCTETS}
use Rattle.vrx_rtp.specs.Packet.{Packet}
use Rattle.vrx_rtp.specs.Reading.{read}
use Rattle.vrx_codec.specs.Part.{Part}
use Rattle.vrx_codec.specs.Joining.{FitsLayers}
use Rattle.vrx_codec.specs.Meaning.{Meaning}
use Rattle.vrx_codec.specs.declared.part.Layers.{Layers}
use Rattle.vrx_codec.specs.declared.part.Start.{Start}
use Rattle.vrx_codec.specs.declared.run.Place.{Place}
use Rattle.vrx_window.specs.Window.{at}
use Rattle.vrx_window.specs.declared.held.Held.{Held}
use Rattle.vrx_window.specs.declared.held.Held.TheVariants as helds

-- a place, as it is on the wire: its picture in 15 bits (RFC 7741 4.2)
abbrev pub on_wire : Place → Layers
on_wire place = record { picture = place.picture % 32768; tl0 = place.tl0; tid = place.tid; sync = place.sync }

-- What stands beside a media packet's text is what the text says, as the codec reads it. The text isn't too long, it
-- has no padding, and its payload isn't empty. Its layers, if it has some, have their bits.
pub record SaysItsText (codec : Meaning) (text : List ℕ) (marker : Bool) (ts : ℕ) (start : Start) (key : Bool)
    (layers : Option Place) : Type 0 where
  pub packet : Packet
  pub part : Part
  pub size : length text ≤ MOST_OCTETS
  pub reads : read text ≡ Some packet
  pub unpadded : packet.padding ≡ 0
  pub marker_is : packet.marker ≡ marker
  pub ts_is : packet.ts ≡ ts
  pub payload : packet.payload ≢ []
  pub part_reads : codec.read packet.payload ≡ Ok part
  pub start_is : part.start ≡ start
  pub key_is : part.key ≡ key
  pub layers_are : part.layers ≡ option_map on_wire layers
  pub layers_fit : IfSome part.layers FitsLayers

-- a held packet is sound for a codec: if it is a media packet, it says what its text says
abbrev pub IsSound : Meaning → Held → Type 0
IsSound codec (helds.Media text marker ts start key layers) = SaysItsText codec text marker ts start key layers
IsSound codec (helds.Empty marker) = Unit {0}
IsSound codec (helds.Fec payload) = Unit {0}

-- each packet held is sound
abbrev pub AreSound : Meaning → List (ℕ × Held) → Type 0
AreSound codec packets = (n : ℕ) (held : Held) → at n packets ≡ Some held → IsSound codec held

-- the place of a held packet, if it has layers
abbrev pub place_of : Option Held → Option Place
place_of None = None
place_of (Some (helds.Media text marker ts start key layers)) = layers
place_of (Some (helds.Empty marker)) = None
place_of (Some (helds.Fec payload)) = None

abbrev pub place_at : List (ℕ × Held) → ℕ → Option Place
place_at packets n = place_of (at n packets)
