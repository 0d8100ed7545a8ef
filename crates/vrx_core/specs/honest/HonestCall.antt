-- The honest call: what a receiver answers if an honest network brings what an honest sender sent. The frames pulled
-- are the sender's, and none of them comes after a packet of it, or of a frame in its chain, was given up. And each
-- packet that is given up brings a request for a keyframe, unless one is outstanding or a later keyframe answers it.
use Rattle.std.specs.Prelude.{◌≡◌, ◌⊎◌, ℕ, ◌≤◌, true, false, List, [], ◌∷◌, slice_get, All, Contains, IfSome, IsSomeAnd, Option, Some, None}
use Rattle.std.specs.List.{filter_map}
use Rattle.std.specs.List.Sorted.{IsStrictlyIncreasing}
use Rattle.std.specs.Option.{IsSome}
use Rattle.vrx_rtcp.specs.declared.feedback.Feedback.{Feedback}
use Rattle.vrx_codec.specs.Meaning.{Meaning}
use Rattle.vrx_core.specs.machine.SettingsFault.{fault_of}
use Rattle.vrx_core.specs.machine.Asking.{IsOutstanding}
use Rattle.vrx_core.specs.machine.KeyRequest.{is_answered}
use Rattle.vrx_core.specs.machine.Machine.{Reply, ToDatagram, ToTick, ToPull, Snapshot, latest, snapshots, replies}
use Rattle.vrx_core.specs.honest.Sender.{SentFrame, IsOf, Sender}
use Rattle.vrx_core.specs.honest.Chain.{InChain}
use Rattle.vrx_core.specs.honest.HonestSender.{HonestSender}
use Rattle.vrx_core.specs.honest.HonestNetwork.{Origin, HonestNetwork, packets_taken}
use Rattle.vrx_core.specs.honest.HonestTaken.{WasGivenUp}
use Rattle.vrx_core.specs.honest.Ready.{IsNumber, Ready}
use Rattle.vrx_core.specs.declared.settings.Settings.{Settings}
use Rattle.vrx_core.specs.declared.event.Event.{Event}
use Rattle.vrx_core.specs.declared.event.Event.TheVariants.{Datagram, Tick, Pull}
use Rattle.vrx_core.specs.declared.reply.Frame.{Frame}
use Rattle.vrx_core.specs.declared.reply.Pulled.TheVariants as pulls

-- what was pulled is what was sent, byte for byte
pub record IsSentFrame (sent : SentFrame) (frame : Frame) : Type 0 where
  pub ts : frame.ts ≡ sent.ts
  pub key : frame.key ≡ sent.key
  pub bytes : frame.bytes ≡ sent.bytes

-- no packet of frame f was given up in a history
abbrev pub NoneGivenUp : Settings → Meaning → Sender → List Event → List Origin → ℕ → Type 0
NoneGivenUp settings codec sender h origins f = (i : ℕ) → IsSomeAnd (slice_get sender.packets i) (IsOf f) →
    WasGivenUp settings codec sender h origins i → ⊥

-- a frame pulled after a history is the sender's frame f, under its packets' numbers; f is ready, and the least that
-- is
pub record IsLeastReady (settings : Settings) (codec : Meaning) (sender : Sender) (h : List Event)
    (origins : List Origin) (frame : Frame) (f : ℕ) : Type 0 where
  pub ready : Ready settings codec sender h origins f
  pub least : (g : ℕ) → Ready settings codec sender h origins g → f ≤ g
  pub first : frame.first ≡ ready.complete.first
  pub last : frame.last ≡ ready.complete.last
  pub sent : IsSentFrame ready.complete.frame frame
  -- no packet of it, or of a frame in its chain, was given up before
  pub kept : NoneGivenUp settings codec sender h origins f
  pub chain_kept : (g : ℕ) → InChain sender f g → NoneGivenUp settings codec sender h origins g

-- a pull gives the least ready frame, of this place, and NotReady exactly if no frame is ready. What gives no
-- frame has no place
abbrev pub IsAnswer : Settings → Meaning → Sender → List Event → List Origin → Event → Reply → Option ℕ → Type 0
IsAnswer settings codec sender h origins (Pull moment) (ToPull pulls.NotReady) None =
    (f : ℕ) → Ready settings codec sender h origins f → ⊥
IsAnswer settings codec sender h origins (Pull moment) (ToPull (pulls.Frame frame)) (Some f) =
    IsLeastReady settings codec sender h origins frame f
IsAnswer settings codec sender h origins (Datagram moment octets) (ToDatagram handled) None = Unit {0}
IsAnswer settings codec sender h origins (Tick moment) (ToTick feedback) None = Unit {0}
IsAnswer settings codec sender h origins _ _ _ = ⊥

-- each of the events that follow a history is answered so, with the place of the frame that it gives, if it gives one
abbrev pub Answers : Settings → Meaning → Sender → List Event → List Origin → List Event → List Origin → List Reply →
    List (Option ℕ) → Type 0
Answers settings codec sender h origins [] [] [] [] = Unit {0}
Answers settings codec sender h origins (e ∷ es) (o ∷ os) (r ∷ rs) (f ∷ fs) =
    IsAnswer settings codec sender h origins e r f × Answers settings codec sender (e ∷ h) (o ∷ origins) es os rs fs
Answers settings codec sender h origins _ _ _ _ = ⊥

-- the places that there are, in order
abbrev pub places_of : List (Option ℕ) → List ℕ
places_of given = filter_map (λ place. place) given

-- the frames among replies, in order
abbrev pub frames_of : List Reply → List Frame
frames_of [] = []
frames_of (ToPull (pulls.Frame frame) ∷ rs) = frame ∷ frames_of rs
frames_of (ToPull pulls.NotReady ∷ rs) = frames_of rs
frames_of (ToDatagram handled ∷ rs) = frames_of rs
frames_of (ToTick feedback ∷ rs) = frames_of rs

-- these frames are the sender's frames of these places
abbrev pub AreSent : Sender → List ℕ → List Frame → Type 0
AreSent sender [] [] = Unit {0}
AreSent sender (f ∷ fs) (frame ∷ frames) =
    IsSomeAnd (slice_get sender.frames f) (λ sent. IsSentFrame sent frame) × AreSent sender fs frames
AreSent sender [] (frame ∷ frames) = ⊥
AreSent sender (f ∷ fs) [] = ⊥

-- the first of these frames is a keyframe
abbrev pub BeginsWithKey : List Frame → Type 0
BeginsWithKey [] = Unit {0}
BeginsWithKey (frame ∷ frames) = frame.key ≡ true

-- each of these frames comes after all frames of its chain and after all its references. Those that were given before
-- stand in the first list
abbrev pub AfterReferences : Sender → List ℕ → List ℕ → Type 0
AfterReferences sender before [] = Unit {0}
AfterReferences sender before (f ∷ fs) = ((g : ℕ) → InChain sender f g → Contains before g)
    × IfSome (slice_get sender.frames f) (λ frame. All (λ g. Contains before g) frame.references)
    × AfterReferences sender (f ∷ before) fs

-- the feedback of a reply: a pull has none
abbrev pub feedback_in : Reply → Option Feedback
feedback_in (ToDatagram handled) = Some handled.feedback
feedback_in (ToTick feedback) = Some feedback
feedback_in (ToPull pulled) = None

-- a reply asks for a keyframe: it has a PLI (RFC 4585 6.3.1)
abbrev pub AsksForKey : Reply → Type 0
AsksForKey r = IsSomeAnd (feedback_in r) (λ feedback. IsSome feedback.pli)

-- a request for a keyframe, by an event of the history, is outstanding once one event more is over: it isn't 300 ms
-- old, and no keyframe completed after it, nor with this event
abbrev pub StaysOutstanding : Settings → Meaning → List Event → Event → Type 0
StaysOutstanding settings codec h e =
    let s : Snapshot = latest (snapshots settings codec (e ∷ h)) in
    (s.key_completed ≡ false) × IsOutstanding s.now (snapshots settings codec h)

-- If an event after a history gives up packet i, by the number n by which the receiver knows it, then the reply asks
-- for a keyframe; or the number is answered, by a keyframe that begins beyond it, and stands or was pulled; or an
-- earlier request for a keyframe is outstanding.
abbrev pub AsksForLoss : Settings → Meaning → Sender → List Event → List Origin → Event → Origin → Reply → Type 0
AsksForLoss settings codec sender h origins e o r =
    let s : Snapshot = latest (snapshots settings codec (e ∷ h)) in
    (i n : ℕ) → IsNumber sender (packets_taken settings codec (e ∷ h) (o ∷ origins)) i n → Contains s.lost n
    → AsksForKey r ⊎ ((is_answered s n ≡ true) ⊎ StaysOutstanding settings codec h e)

-- so does the reply to each of the events that follow a history
abbrev pub LossesAsked : Settings → Meaning → Sender → List Event → List Origin → List Event → List Origin →
    List Reply → Type 0
LossesAsked settings codec sender h origins [] [] [] = Unit {0}
LossesAsked settings codec sender h origins (e ∷ es) (o ∷ os) (r ∷ rs) =
    AsksForLoss settings codec sender h origins e o r
    × LossesAsked settings codec sender (e ∷ h) (o ∷ origins) es os rs
LossesAsked settings codec sender h origins _ _ _ = ⊥

-- the frames pulled are the sender's, byte for byte, in order, each at most once, from a keyframe on, and after all
-- their references; and none of them comes after a packet of it, or of a frame in its chain, was given up. Each pull is
-- answered by the least ready frame, or by NotReady exactly if none is ready. Each packet that is given up brings a
-- request for a keyframe with the event that gives it up, unless one is outstanding or a later keyframe answers it
pub record HonestCall (settings : Settings) (codec : Meaning) (sender : Sender) (events : List Event)
    (origins : List Origin) (replies : List Reply) : Type 0 where
  -- the place of the frame that each event gives, if it gives one
  pub frames_given : List (Option ℕ)
  pub answers : Answers settings codec sender [] [] events origins replies frames_given
  pub rising : IsStrictlyIncreasing (places_of frames_given)
  pub sent : AreSent sender (places_of frames_given) (frames_of replies)
  pub from_key : BeginsWithKey (frames_of replies)
  pub after_references : AfterReferences sender [] (places_of frames_given)
  pub losses : LossesAsked settings codec sender [] [] events origins replies

-- every honest call is answered so, whatever settings without a fault and whatever the codec's meaning
abbrev pub HonestCallHolds : Type 0
HonestCallHolds = (settings : Settings) (codec : Meaning) (sender : Sender) (events : List Event)
    (origins : List Origin) → fault_of settings ≡ None → HonestSender settings codec sender →
    HonestNetwork settings codec sender [] [] events origins →
    HonestCall settings codec sender events origins (replies settings codec [] events)
