-- Where events come from, and which of a sender's packets a receiver took.
use Rattle.std.specs.Prelude.{ℕ, Bool, if◌then◌else◌, List, [], ◌∷◌, is_ok}
use Rattle.vrx_codec.specs.Meaning.{Meaning}
use Rattle.vrx_core.specs.machine.Verdict.{verdict}
use Rattle.vrx_core.specs.machine.Machine.{latest, snapshots}
use Rattle.vrx_core.specs.declared.settings.Settings.{Settings}
use Rattle.vrx_core.specs.declared.event.Event.{Event}
use Rattle.vrx_core.specs.declared.event.Event.TheVariants.{Datagram, Tick, Pull}

-- where an event comes from: it brings the sender's packet i, or nothing of the sender's
pub data Origin : Type 0 where
  FromSender : (i : ℕ) → Origin
  Elsewhere : Origin

-- whether the receiver takes these octets after a history
abbrev pub takes : Settings → Meaning → List Event → List ℕ → Bool
takes settings codec h octets = is_ok (verdict settings codec (latest (snapshots settings codec h)).window octets)

-- the sender's packets that were taken in a history, the newest first; the origins stand in the order of the events
unfoldable pub packets_taken : Settings → Meaning → List Event → List Origin → List ℕ
packets_taken settings codec [] origins = []
packets_taken settings codec (e ∷ h) [] = []
packets_taken settings codec (e ∷ h) (Elsewhere ∷ origins) = packets_taken settings codec h origins
packets_taken settings codec (Tick moment ∷ h) (FromSender i ∷ origins) = packets_taken settings codec h origins
packets_taken settings codec (Pull moment ∷ h) (FromSender i ∷ origins) = packets_taken settings codec h origins
packets_taken settings codec (Datagram moment octets ∷ h) (FromSender i ∷ origins) = if takes settings codec h octets
    then i ∷ packets_taken settings codec h origins else packets_taken settings codec h origins
