-- Which frames a frame rests on, by rule (RFC 7741 4.2): what its sender may take as its references.
use Rattle.std.specs.Prelude.{◌≡◌, ℕ, ◌+◌, Bool, true, false, List, [], ◌∷◌, slice_get, Option, None, Some, IsSomeAnd}
use Rattle.vrx_codec.specs.declared.run.Place.{Place}
use Rattle.vrx_core.specs.honest.Sender.{SentFrame, Sender}
use Rattle.vrx_core.specs.honest.Layers.{IsLastOf, IsLastUpTo, is_on_base}

-- a frame with layers refers to its base: the last frame of TID 0 before it. One that doesn't refer to its base only
-- refers to the last frame of each TID up to its own, but to none before the last keyframe, which is this project's own
-- rule
abbrev pub RefersBy : List SentFrame → Place → Bool → (f g : ℕ) → Type 0
RefersBy frames place true f g = IsLastOf frames 0 f g
RefersBy frames place false f g = IsLastUpTo frames place.tid f g

-- a frame without layers refers to the frame before it
abbrev pub RefersTo : List SentFrame → Option Place → (f g : ℕ) → Type 0
RefersTo frames None f g = g + 1 ≡ f
RefersTo frames (Some place) f g = RefersBy frames place (is_on_base place) f g

-- frame g is a rule reference of frame f, which is no keyframe: those have none
abbrev pub IsRuleReference : Sender → ℕ → ℕ → Type 0
IsRuleReference sender f g = IsSomeAnd (slice_get sender.frames f)
    (λ frame. (frame.key ≡ false) × RefersTo sender.frames frame.layers f g)

-- rule references lead from frame f by way of these frames to frame g
abbrev pub Leads : Sender → ℕ → List ℕ → ℕ → Type 0
Leads sender f [] g = IsRuleReference sender f g
Leads sender f (k ∷ ks) g = IsRuleReference sender f k × Leads sender k ks g

-- frame g lies in the chain of frame f: it is one of its rule references, or of theirs, and so on
abbrev pub InChain : Sender → ℕ → ℕ → Type 0
InChain sender f g = (way : List ℕ) × Leads sender f way g
