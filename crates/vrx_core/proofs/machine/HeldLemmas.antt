-- The packet held of a datagram says what its text says.
use Rattle.std.proofs.Common.{◌≡◌, ℕ, ◌+◌, ◌%◌, ◌<◌, ◌≤◌, List, length, Option, Some, None, IfSome, Ok, refl, sym, ◌∙◌, ap, subst, arith, option_map}
use Rattle.std.specs.Result.{result_ok}
use Rattle.vrx_num.specs.Pictures.{GivesPicture, IsNewestPicture, IsPictureNear, extended_picture}
use Rattle.vrx_num.specs.declared.limits.TheConstants.{MOST_OCTETS, PICTURES}
use Rattle.vrx_codec.specs.Joining.{FitsLayers}
use Rattle.vrx_codec.specs.declared.part.Layers.{Layers}
use Rattle.vrx_codec.specs.declared.run.Place.{Place}
use Rattle.vrx_repair.specs.Commit.{place_beside}
use Rattle.vrx_rtp.specs.Packet.{Packet}
use Rattle.vrx_rtp.specs.Reading.{read, reading}
use Rattle.vrx_rtp.specs.View.{view}
use Rattle.vrx_codec.specs.View.{view as view_part}
use Rattle.vrx_codec.specs.Meaning.{Meaning}
use Rattle.vrx_codec.specs.declared.part.Part.{Part as PartSeen}
use Rattle.vrx_window.specs.Sound.{SaysItsText, on_wire}
use Rattle.vrx_core.specs.machine.Text.{without_padding, packet_text}
use Rattle.vrx_core.specs.inside.Seen.{Says, IsSeen}
use Rattle.vrx_core.specs.declared.original.PacketSeen.{PacketSeen}
use Rattle.vrx_core.specs.declared.original.PayloadSeen.TheVariants as brings
use Rattle.vrx_core.proofs.machine.TextLemmas.{ReadsPacket, text-packet}

-- the layers of a place that was extended beside the newest picture are those that it was made of
pub wire-beside : GivesPicture → (newest : Option ℕ) → IfSome newest IsNewestPicture → (l : Layers) →
    FitsLayers l → on_wire (place_beside newest l) ≡ l
wire-beside near None sound l fits =
    let small : l.picture < 32768 = fits.0 in
    let same : (l.picture + PICTURES) % 32768 ≡ l.picture = omega arith in
    ap (λ p. record { picture = p; tl0 = l.tl0; tid = l.tid; sync = l.sync }) same
wire-beside near (Some m) sound l fits =
    let small : l.picture < 32768 = fits.0 in
    let least : PICTURES ≤ m = sound.at_least in
    let n : IsPictureNear m l.picture (extended_picture (Some m) l.picture) =
    (near m l.picture (extended_picture (Some m) l.picture) (omega arith) small).0 refl in
    ap (λ p. record { picture = p; tl0 = l.tl0; tid = l.tid; sync = l.sync }) n.same

-- and so the place is what its layers say beside that picture
pub beside-wire : GivesPicture → (newest : Option ℕ) → IfSome newest IsNewestPicture → (l : Layers) →
    FitsLayers l → place_beside newest l ≡ place_beside newest (on_wire (place_beside newest l))
beside-wire near newest sound l fits = ap (place_beside newest) (sym (wire-beside near newest sound l fits))

-- the text of a packet whose payload is this part says what was seen
pub held-says : ReadsPacket →
    (codec : Meaning) (octets : List ℕ) (seen : PacketSeen) (part : PartSeen) (text : List ℕ) →
    (place : Option Place) → IsSeen codec octets seen → seen.brought ≡ brings.Media part →
    text ≡ packet_text (view seen.packet) → option_map on_wire place ≡ part.layers
    → SaysItsText codec text seen.packet.marker seen.packet.ts part.start part.key place
held-says law codec octets seen part text place is brought same wire =
    let packet : Packet = view seen.packet in
    let kept : reading (packet_text packet) ≡ Ok (without_padding packet) =
    (law (packet_text packet) (without_padding packet) is.below).1 (text-packet packet is.fits) in
    let said : Says codec seen.packet.payload.now (brings.Media part) =
    subst (Says codec seen.packet.payload.now) brought is.says in
    let short : length (packet_text packet) ≤ MOST_OCTETS = is.size in
    let long : length text ≡ length (packet_text packet) = ap length same in
    record {
      packet = without_padding packet;
      part = view_part part;
      size = omega arith;
      reads = ap read same ∙ ap result_ok kept;
      unpadded = refl;
      marker_is = refl;
      ts_is = refl;
      payload = said.0;
      part_reads = said.1;
      start_is = refl;
      key_is = refl;
      layers_are = sym wire;
      layers_fit = said.2;
    }
