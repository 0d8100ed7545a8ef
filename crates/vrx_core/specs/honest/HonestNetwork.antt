-- An honest network: what it brings comes from the sender, or is octets that are RTCP or refused,
-- whatever came before. Loss, repeats and order are free.
use Rattle.std.specs.Prelude.{ℕ, ◌+◌, ◌<◌, ◌≤◌, max, List, [], ◌∷◌, slice_get, Contains, IsSomeAnd, IsErr}
use Rattle.vrx_codec.specs.Meaning.{Meaning}
use Rattle.vrx_codec.specs.declared.run.Place.{Place}
use Rattle.vrx_num.specs.declared.limits.TheConstants.{HALF_PICTURES, HALF_SPACE}
use Rattle.vrx_core.specs.machine.Original.{original}
use Rattle.vrx_core.specs.machine.Machine.{latest, snapshots}
use Rattle.vrx_core.specs.machine.Told.{Told}
use Rattle.vrx_core.specs.honest.Sender.{Sender, wire_of}
pub use Rattle.vrx_core.specs.honest.Taken.{Origin, FromSender, Elsewhere, takes}
unfoldable pub use Rattle.vrx_core.specs.honest.Taken.{packets_taken}
use Rattle.vrx_core.specs.honest.Number.{IsOfFrame}
use Rattle.vrx_core.specs.honest.WireForm.{IsWireForm}
use Rattle.vrx_core.specs.declared.settings.Settings.{Settings}
use Rattle.vrx_core.specs.declared.event.Event.{Event}
use Rattle.vrx_core.specs.declared.event.Event.TheVariants.{Datagram, Tick, Pull}

-- the greatest of the packets taken
abbrev pub greatest : List ℕ → ℕ
greatest [] = 0
greatest (i ∷ is) = max i (greatest is)

-- no packet was taken yet, or packet i is at most 32,768 away from the greatest that was, which is half of the space of
-- sequence numbers (RFC 3550 5.1). Each packet that is repaired has a smaller number than the FEC packet that names it
abbrev pub IsNear : ℕ → List ℕ → Type 0
IsNear i [] = Unit {0}
IsNear i (j ∷ js) = (i ≤ greatest (j ∷ js) + HALF_SPACE) × (greatest (j ∷ js) ≤ i + HALF_SPACE)

-- what an honest network may bring after a history: a wire form of a packet of the sender, near those taken; or
-- octets that are RTCP or refused, whatever came before. Ticks and pulls are free
abbrev pub IsDelivery : Settings → Meaning → Sender → List Event → List Origin → Event → Origin → Type 0
IsDelivery settings codec sender h origins (Tick moment) Elsewhere = Unit {0}
IsDelivery settings codec sender h origins (Tick moment) (FromSender i) = ⊥
IsDelivery settings codec sender h origins (Pull moment) Elsewhere = Unit {0}
IsDelivery settings codec sender h origins (Pull moment) (FromSender i) = ⊥
IsDelivery settings codec sender h origins (Datagram moment octets) Elsewhere = IsErr (original settings codec octets)
IsDelivery settings codec sender h origins (Datagram moment octets) (FromSender i) =
    IsSomeAnd (slice_get sender.packets i) (λ packet. IsWireForm settings (wire_of sender i) packet octets)
    × IsNear i (packets_taken settings codec h origins)

-- frame g is the newest of those of which packets told places
pub record IsNewestTold (sender : Sender) (js : List ℕ) (told : Told) (g : ℕ) : Type 0 where
  pub entry : ℕ × Place
  pub among : Contains told entry
  pub of_frame : IsOfFrame sender js entry.0 g
  pub newest : (other : ℕ × Place) (f : ℕ) → Contains told other → IsOfFrame sender js other.0 f → f ≤ g

-- The frame of which a packet told a place is fewer than 16,384 pictures away from the newest one of which a place was
-- told before, which is half of the space of 15 bits (RFC 7741 4.2); the frames' pictures rise by one. The packets that
-- told places stand the newest first
abbrev pub AreNearTold : Sender → List ℕ → Told → Type 0
AreNearTold sender js [] = Unit {0}
AreNearTold sender js (entry ∷ told) = ((f g : ℕ) → IsOfFrame sender js entry.0 f → IsNewestTold sender js told g →
    (f < g + HALF_PICTURES) × (g < f + HALF_PICTURES)) × AreNearTold sender js told

-- so it is of all packets with layers that became available in a history, as they were taken or repaired
abbrev pub PicturesAreNear : Settings → Meaning → Sender → List Event → List Origin → Type 0
PicturesAreNear settings codec sender h origins =
    AreNearTold sender (packets_taken settings codec h origins) (latest (snapshots settings codec h)).told

-- each of the events that follow a history is such a delivery, and leaves pictures near
abbrev pub HonestNetwork : Settings → Meaning → Sender → List Event → List Origin → List Event → List Origin → Type 0
HonestNetwork settings codec sender h origins [] [] = Unit {0}
HonestNetwork settings codec sender h origins [] (o ∷ os) = ⊥
HonestNetwork settings codec sender h origins (e ∷ es) [] = ⊥
HonestNetwork settings codec sender h origins (e ∷ es) (o ∷ os) =
    IsDelivery settings codec sender h origins e o × PicturesAreNear settings codec sender (e ∷ h) (o ∷ origins)
    × HonestNetwork settings codec sender (e ∷ h) (o ∷ origins) es os
