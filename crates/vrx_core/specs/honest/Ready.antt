-- A ready frame: one of the sender's frames that a pull may give.
use Rattle.std.specs.Prelude.{◌≡◌, ◌⊎◌, ℕ, ◌+◌, ◌-◌, ◌<◌, ◌≤◌, Bool, true, false, List, slice_get, All, Contains, Option, Some, None, IsSomeAnd, Ok}
use Rattle.vrx_rtp.specs.Packet.{Packet}
use Rattle.vrx_rtp.specs.Reading.{read}
use Rattle.vrx_codec.specs.Part.{Part}
use Rattle.vrx_codec.specs.declared.run.Place.{Place}
use Rattle.vrx_codec.specs.declared.part.Start.TheVariants.{Yes}
use Rattle.vrx_codec.specs.Meaning.{Meaning}
use Rattle.vrx_refs.specs.declared.limits.TheConstants.{REACH}
use Rattle.vrx_window.specs.Window.{is_available}
use Rattle.vrx_frames.specs.Run.{Packets, Run, is_passed}
use Rattle.vrx_core.specs.machine.Machine.{latest, snapshots, times}
use Rattle.vrx_core.specs.honest.Sender.{SentFrame, SentPacket, Media, Fec, Empty, Sender}
use Rattle.vrx_core.specs.honest.Chain.{IsRuleReference}
use Rattle.vrx_core.specs.honest.Layers.{IsLastOf, IsStop, is_on_base}
pub use Rattle.vrx_core.specs.honest.Number.{HasNumbers, IsNumber}
use Rattle.vrx_core.specs.honest.Number.{SomeHasCome}
use Rattle.vrx_core.specs.honest.Taken.{Origin, packets_taken}
use Rattle.vrx_core.specs.declared.settings.Settings.{Settings}
use Rattle.vrx_core.specs.declared.event.Event.{Event}

-- a packet says that a frame begins with it
abbrev pub SaysStart : Meaning → SentPacket → Type 0
SaysStart codec (Media frame part text) = (packet : Packet) × (said : Part) × (read text ≡ Some packet)
    × (codec.read packet.payload ≡ Ok said) × (said.start ≡ Yes)
SaysStart codec (Fec payload) = ⊥
SaysStart codec Empty = ⊥

-- n and the number before were both available at some time
abbrev pub WereBeside : List Packets → ℕ → Type 0
WereBeside times n = (packets : Packets) × Contains times packets × (is_available n packets ≡ true)
    × (is_available (n - 1) packets ≡ true)

-- it is evident after a history that a frame begins with packet i, which the receiver knows by the number n: the
-- packet says so; or the number before is passed; or both numbers were available at the end of some event
abbrev pub BeginsEvidently : Settings → Meaning → Sender → List Event → ℕ → ℕ → Type 0
BeginsEvidently settings codec sender h i n =
    IsSomeAnd (slice_get sender.packets i) (SaysStart codec)
    ⊎ ((is_passed (latest (snapshots settings codec h)).front (n - 1) ≡ true)
    ⊎ WereBeside (times (snapshots settings codec h)) n)

-- frame f of the sender stands complete after a history: each of its packets is available, it lies beyond every frame
-- that was pulled, and it is evident where it begins
pub record StandsComplete (settings : Settings) (codec : Meaning) (sender : Sender) (h : List Event)
    (origins : List Origin) (f : ℕ) : Type 0 where
  pub frame : SentFrame
  pub sent : slice_get sender.frames f ≡ Some frame
  pub first : ℕ
  pub last : ℕ
  pub numbered : HasNumbers sender (packets_taken settings codec h origins) f first last
  pub available : (n : ℕ) → first ≤ n → n ≤ last →
      is_available n (latest (snapshots settings codec h)).window.packets ≡ true
  pub beyond : All (λ run. run.last < first) (latest (snapshots settings codec h)).pulled
  pub begins : BeginsEvidently settings codec sender h numbered.from first

-- frame g was pulled: this run
pub record WasPulled (settings : Settings) (codec : Meaning) (sender : Sender) (h : List Event) (origins : List Origin)
    (g : ℕ) : Type 0 where
  pub run : Run
  pub pulled : Contains (latest (snapshots settings codec h)).pulled run
  pub numbered : HasNumbers sender (packets_taken settings codec h origins) g run.first run.last

-- each number between a frame that was pulled and a frame that begins with this number is passed
abbrev pub IsPassedUpTo : Settings → Meaning → Sender → List Event → List Origin → (g first : ℕ) → Type 0
IsPassedUpTo settings codec sender h origins g first =
    (pulled : WasPulled settings codec sender h origins g) (n : ℕ) → pulled.run.last < n → n < first →
    is_passed (latest (snapshots settings codec h)).front n ≡ true

-- the stop of frame f lies at most 255 pictures before it, and a packet of each frame from it up to f has come. How far
-- back a receiver looks is this project's own limit
pub record StopIsSeen (settings : Settings) (codec : Meaning) (sender : Sender) (h : List Event)
    (origins : List Origin) (tid f : ℕ) : Type 0 where
  pub at : ℕ
  pub is_stop : IsStop sender.frames tid f at
  pub near : f ≤ at + REACH
  pub seen : (g : ℕ) → at ≤ g → g < f → SomeHasCome settings codec sender h origins g

-- it is evident to what a frame with layers refers: its base lies at most 255 pictures before it, if it refers to that
-- only; and else its stop is seen
abbrev pub IsEvidentBy : Settings → Meaning → Sender → List Event → List Origin → (f : ℕ) → Place → Bool → Type 0
IsEvidentBy settings codec sender h origins f place true =
    (g : ℕ) → IsLastOf sender.frames 0 f g → f ≤ g + REACH
IsEvidentBy settings codec sender h origins f place false = StopIsSeen settings codec sender h origins place.tid f

-- and to what one without layers does, which begins with this number: each number between it and the frame before it
-- is passed
abbrev pub IsEvident : Settings → Meaning → Sender → List Event → List Origin → (f first : ℕ) → Option Place → Type 0
IsEvident settings codec sender h origins f first None =
    (g : ℕ) → g + 1 ≡ f → IsPassedUpTo settings codec sender h origins g first
IsEvident settings codec sender h origins f first (Some place) =
    IsEvidentBy settings codec sender h origins f place (is_on_base place)

-- It is ready if, besides, each of its rule references was pulled, and, unless it is a keyframe, it is evident to what
-- it refers.
pub record Ready (settings : Settings) (codec : Meaning) (sender : Sender) (h : List Event) (origins : List Origin)
    (f : ℕ) : Type 0 where
  pub complete : StandsComplete settings codec sender h origins f
  pub pulled : (g : ℕ) → IsRuleReference sender f g → WasPulled settings codec sender h origins g
  pub evident : complete.frame.key ≡ false →
      IsEvident settings codec sender h origins f complete.first complete.frame.layers
