-- Temporal layers among a sender's frames (RFC 7741 4.2). A frame is named by its place in the list, from 0 on. That a
-- frame of TID 0 comes at most 127 pictures after the one before is this project's own rule.
use Rattle.std.specs.Prelude.{◌≡◌, ◌⊎◌, ℕ, ◌+◌, ◌<◌, ◌≤◌, Bool, true, ◌||◌, ◌==◌, if◌then◌else◌, List, slice_get, Option, None, IfSome, IsSomeAnd}
use Rattle.std.specs.Option.{option_and_then}
use Rattle.vrx_num.specs.Index.{index_after}
use Rattle.vrx_codec.specs.declared.run.Place.{Place}
use Rattle.vrx_core.specs.honest.Sender.{SentFrame}

-- the layers of frame f, if it has any
abbrev pub layers_at : List SentFrame → ℕ → Option Place
layers_at frames f = option_and_then (λ frame. frame.layers) (slice_get frames f)

-- frame f has this TID
abbrev pub HasTid : List SentFrame → (f tid : ℕ) → Type 0
HasTid frames f tid = IsSomeAnd (layers_at frames f) (λ place. place.tid ≡ tid)

-- frame f is a keyframe
abbrev pub IsKey : List SentFrame → ℕ → Type 0
IsKey frames f = IsSomeAnd (slice_get frames f) (λ frame. frame.key ≡ true)

-- frame g is the last one of this TID before frame f
pub record IsLastOf (frames : List SentFrame) (tid f g : ℕ) : Type 0 where
  pub before : g < f
  pub of_tid : HasTid frames g tid
  pub last : (h : ℕ) → g < h → h < f → HasTid frames h tid → ⊥

-- frame k is the last keyframe before frame f
pub record IsLastKey (frames : List SentFrame) (f k : ℕ) : Type 0 where
  pub before : k < f
  pub key : IsKey frames k
  pub last : (h : ℕ) → k < h → h < f → IsKey frames h → ⊥

-- what a sender with layers keeps to
pub record KeepsLayers (frames : List SentFrame) : Type 0 where
  -- each frame has a place; its index has 8 bits; and a keyframe has TID 0
  pub each : (f : ℕ) → IfSome (slice_get frames f)
      (λ frame. IsSomeAnd frame.layers (λ place. (place.tl0 < 256) × (frame.key ≡ true → place.tid ≡ 0)))
  -- pictures rise by one for each frame
  pub pictures : (f : ℕ) → IfSome (layers_at frames f)
      (λ place. IfSome (layers_at frames (f + 1)) (λ after. after.picture ≡ place.picture + 1))
  -- a frame of TID 0 has the index after that of the frame of TID 0 before it, modulo 256; another frame has the index
  -- of the last frame of TID 0 before it
  pub indexes : (f g : ℕ) → IsLastOf frames 0 f g → IfSome (layers_at frames f)
      (λ place. IfSome (layers_at frames g)
      (λ base. place.tl0 ≡ (if place.tid == 0 then index_after base.tl0 else base.tl0)))
  -- a frame of TID 0 comes at most 127 pictures after the one of TID 0 before it
  pub near : (f g : ℕ) → HasTid frames f 0 → IsLastOf frames 0 f g → f ≤ g + 127

-- no frame has layers
abbrev pub HaveNoLayers : List SentFrame → Type 0
HaveNoLayers frames = (f : ℕ) → IfSome (slice_get frames f) (λ frame. frame.layers ≡ None)

-- all frames have layers, by these rules, or none has
abbrev pub LayersAreRight : List SentFrame → Type 0
LayersAreRight frames = KeepsLayers frames ⊎ HaveNoLayers frames

-- a frame of this place refers to its base only: it has TID 0, or Y is 1
abbrev pub is_on_base : Place → Bool
is_on_base place = (place.tid == 0) || place.sync

-- frame g is the last one of this TID before frame f, and no keyframe stands between them
pub record IsLastSinceKey (frames : List SentFrame) (tid f g : ℕ) : Type 0 where
  pub last_of : IsLastOf frames tid f g
  pub since_key : (h : ℕ) → g < h → h < f → IsKey frames h → ⊥

-- frame g is the last of some TID up to this one, so
abbrev pub IsLastUpTo : List SentFrame → (tid f g : ℕ) → Type 0
IsLastUpTo frames tid f g = (t : ℕ) × (t ≤ tid) × IsLastSinceKey frames t f g

-- each TID up to this one has such a frame
abbrev pub HaveLast : List SentFrame → (tid f : ℕ) → Type 0
HaveLast frames tid f = (t : ℕ) → t ≤ tid → (g : ℕ) × IsLastSinceKey frames t f g

-- The stop of frame f, which has this TID and doesn't refer to its base only: the earliest of its references, if each
-- TID up to its own has one; and else the last keyframe before it.
abbrev pub IsStop : List SentFrame → (tid f s : ℕ) → Type 0
IsStop frames tid f s =
    (HaveLast frames tid f × IsLastUpTo frames tid f s × ((g : ℕ) → IsLastUpTo frames tid f g → s ≤ g))
    ⊎ ((HaveLast frames tid f → ⊥) × IsLastKey frames f s)
