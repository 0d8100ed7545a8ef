-- What a receiver takes and keeps in an honest call, said in the sender's terms. A datagram of the sender is taken
-- exactly if its packet is in reach, and was neither taken before nor repaired nor given up: the receiver doesn't wait
-- any longer for a packet that it gave up, and drops it if it comes. Its numbers and its pictures are the sender's, each
-- and a constant.
use Rattle.std.specs.Prelude.{◌≡◌, ℕ, ◌+◌, ◌<◌, ◌≤◌, ◌↔◌, true, List, [], ◌∷◌, slice_get, Contains, Option, Some, None, Ok, IsSomeAnd}
use Rattle.vrx_codec.specs.Meaning.{Meaning}
use Rattle.vrx_codec.specs.declared.run.Place.{Place}
use Rattle.vrx_num.specs.declared.limits.TheConstants.{WINDOW, HALF_SPACE}
use Rattle.vrx_window.specs.Content.{Content}
use Rattle.vrx_window.specs.Sound.{on_wire}
use Rattle.vrx_window.specs.Window.{Contents, after_placing, at, is_available}
use Rattle.vrx_repair.specs.Order.{AreAlike, AreSteps}
use Rattle.vrx_repair.specs.Step.{IsClosed, with_repairs}
use Rattle.vrx_core.specs.machine.SettingsFault.{fault_of}
use Rattle.vrx_core.specs.machine.GivenUp.{is_lost}
use Rattle.vrx_core.specs.machine.Machine.{answer_taken, latest, snapshots, source_in, reply, what_in}
use Rattle.vrx_core.specs.machine.Told.{Told}
use Rattle.vrx_core.specs.machine.Verdict.{verdict}
use Rattle.vrx_core.specs.honest.Sender.{Sender}
use Rattle.vrx_core.specs.honest.Layers.{layers_at}
use Rattle.vrx_core.specs.honest.WireForm.{content_sent}
use Rattle.vrx_core.specs.honest.HonestSender.{HonestSender}
use Rattle.vrx_core.specs.honest.HonestNetwork.{Origin, FromSender, Elsewhere, HonestNetwork, greatest, takes, packets_taken}
use Rattle.vrx_core.specs.honest.Number.{IsOfFrame}
pub use Rattle.vrx_core.specs.honest.Number.{HasCome, IsNumber, IsRepaired}
use Rattle.vrx_core.specs.declared.settings.Settings.{Settings}
use Rattle.vrx_core.specs.declared.event.Event.{Event}
use Rattle.vrx_core.specs.declared.event.Event.TheVariants.{Datagram, Tick, Pull}

-- packet i is in reach, after these packets were taken: none was, or it lies fewer than 2,048 places below the
-- greatest of them, and fewer than 32,768 above it
abbrev pub IsInReach : ℕ → List ℕ → Type 0
IsInReach i [] = Unit {0}
IsInReach i (j ∷ js) = (i < greatest (j ∷ js) + HALF_SPACE) × (greatest (j ∷ js) < i + WINDOW)

-- packet i was given up, by an event of a history: the number by which the receiver knows it was
abbrev pub WasGivenUp : Settings → Meaning → Sender → List Event → List Origin → ℕ → Type 0
WasGivenUp settings codec sender h origins i = (n : ℕ) × IsNumber sender (packets_taken settings codec h origins) i n
    × (is_lost (snapshots settings codec h) n ≡ true)

-- packet i is one to take, after a history: it is in reach, and was neither taken before nor repaired nor given up
pub record IsToTake (settings : Settings) (codec : Meaning) (sender : Sender) (h : List Event) (origins : List Origin)
    (i : ℕ) : Type 0 where
  pub in_reach : IsInReach i (packets_taken settings codec h origins)
  pub not_come : HasCome settings codec sender h origins i → ⊥
  pub not_given_up : WasGivenUp settings codec sender h origins i → ⊥

-- packet i is one to keep, after a history: it was taken or repaired, and lies fewer than 2,048 places below the
-- greatest packet taken
abbrev pub IsToKeep : Settings → Meaning → Sender → List Event → List Origin → ℕ → Type 0
IsToKeep settings codec sender h origins i =
    HasCome settings codec sender h origins i × (greatest (packets_taken settings codec h origins) < i + WINDOW)

-- packet i is available after a history, under its number and with its content
abbrev pub IsKeptAt : Settings → Meaning → Sender → List Event → List Origin → ℕ → Type 0
IsKeptAt settings codec sender h origins i = (n : ℕ) × IsNumber sender (packets_taken settings codec h origins) i n
    × IsSomeAnd (slice_get sender.packets i)
    (λ packet. at n (latest (snapshots settings codec h)).window.packets ≡ Some (content_sent packet))

-- the newest number is that of the greatest packet taken, and at least 65,536
abbrev pub IsNewestOf : Sender → List ℕ → Option ℕ → Type 0
IsNewestOf sender [] newest = newest ≡ None
IsNewestOf sender (j ∷ js) newest =
    (m : ℕ) × (newest ≡ Some m) × (65536 ≤ m) × IsNumber sender (j ∷ js) (greatest (j ∷ js)) m

-- each number told a place of the frame of its packet: its picture is the sender's and one constant, which may be below
-- nothing, so that each side has a summand; and on the wire the place is as it was sent
pub record TellsRightly (sender : Sender) (js : List ℕ) (told : Told) : Type 0 where
  pub up : ℕ
  pub down : ℕ
  pub each : (entry : ℕ × Place) → Contains told entry → (f : ℕ) × IsOfFrame sender js entry.0 f
      × IsSomeAnd (layers_at sender.frames f)
      (λ sent. (entry.1.picture + down ≡ sent.picture + up) × (on_wire entry.1 ≡ on_wire sent))

-- what is available after a history, and what is known by it
pub record KeepsRightly (settings : Settings) (codec : Meaning) (sender : Sender) (h : List Event)
    (origins : List Origin) : Type 0 where
  -- a packet is available, under its number and with its content, exactly if it is one to keep
  pub kept : (i : ℕ) → IsKeptAt settings codec sender h origins i
      ↔ IsToKeep settings codec sender h origins i
  -- an available number is that of a packet to keep
  pub only : (n : ℕ) → is_available n (latest (snapshots settings codec h)).window.packets ≡ true →
      (i : ℕ) × IsNumber sender (packets_taken settings codec h origins) i n
      × IsToKeep settings codec sender h origins i
  -- the newest number is that of the greatest packet taken
  pub newest : IsNewestOf sender (packets_taken settings codec h origins)
      (latest (snapshots settings codec h)).window.newest
  -- the places told are those of the sender's frames, their pictures and one constant
  pub told : TellsRightly sender (packets_taken settings codec h origins) (latest (snapshots settings codec h)).told

-- The order of the repairs makes no difference. Say that a datagram is taken, and its packet is placed in the window:
-- whichever steps (RFC 5109 9) are made from there, one after the other, until none is left, the same numbers are
-- available in the end, with the same contents, as after the datagram.
abbrev pub RepairsInAnyOrder : Settings → Meaning → List Event → (moment : ℕ) → (octets : List ℕ) → Type 0
RepairsInAnyOrder settings codec h moment octets =
    (n : ℕ) (content : Content) →
    verdict settings codec (latest (snapshots settings codec h)).window octets ≡ Ok (n, content) →
    let placed : Contents Content = after_placing n content (latest (snapshots settings codec h)).window in
    (made : List (ℕ × Content)) →
    AreSteps (source_in settings codec) placed.newest placed.dead placed.packets made →
    IsClosed (source_in settings codec) placed.newest placed.dead (with_repairs made placed.packets) →
    AreAlike (with_repairs made placed.packets)
    (latest (snapshots settings codec (Datagram moment octets ∷ h))).window.packets

-- what a datagram that brings packet i of the sender meets after a history
pub record TakesPacket (settings : Settings) (codec : Meaning) (sender : Sender) (h : List Event)
    (origins : List Origin) (moment : ℕ) (octets : List ℕ) (i : ℕ) : Type 0 where
  -- it is taken exactly if its packet is one to take
  pub exactly : (takes settings codec h octets ≡ true) ↔ IsToTake settings codec sender h origins i
  -- if it is taken, it is answered as what it brings, by the number by which the receiver knows the packet from then
  -- on
  pub answer : takes settings codec h octets ≡ true →
      (n : ℕ) × IsNumber sender (i ∷ packets_taken settings codec h origins) i n
      × IsSomeAnd (slice_get sender.packets i)
      (λ packet. what_in (reply settings codec h (Datagram moment octets)) ≡ Some
      (answer_taken n (content_sent packet)))
  -- and what is available then doesn't depend on the order of the repairs
  pub any_order : RepairsInAnyOrder settings codec h moment octets

-- each datagram of the sender is taken and answered rightly
abbrev pub IsTakenRightly : Settings → Meaning → Sender → List Event → List Origin → Event → Origin → Type 0
IsTakenRightly settings codec sender h origins (Datagram moment octets) (FromSender i) =
    TakesPacket settings codec sender h origins moment octets i
IsTakenRightly settings codec sender h origins (Datagram moment octets) Elsewhere = Unit {0}
IsTakenRightly settings codec sender h origins (Tick moment) origin = Unit {0}
IsTakenRightly settings codec sender h origins (Pull moment) origin = Unit {0}

-- after a history and after each of the events that follow it, the packets available are those to keep; and each
-- event takes what is to be taken, and answers it by its number
abbrev pub TakesRightly : Settings → Meaning → Sender → List Event → List Origin → List Event → List Origin → Type 0
TakesRightly settings codec sender h origins [] [] = KeepsRightly settings codec sender h origins
TakesRightly settings codec sender h origins (e ∷ es) (o ∷ os) =
    KeepsRightly settings codec sender h origins × IsTakenRightly settings codec sender h origins e o
    × TakesRightly settings codec sender (e ∷ h) (o ∷ origins) es os
TakesRightly settings codec sender h origins [] (o ∷ os) = ⊥
TakesRightly settings codec sender h origins (e ∷ es) [] = ⊥

-- every honest call takes and keeps so, whatever settings without a fault and whatever the codec's meaning
abbrev pub HonestTakenHolds : Type 0
HonestTakenHolds = (settings : Settings) (codec : Meaning) (sender : Sender) (events : List Event)
    (origins : List Origin) → fault_of settings ≡ None → HonestSender settings codec sender →
    HonestNetwork settings codec sender [] [] events origins → TakesRightly settings codec sender [] [] events origins
