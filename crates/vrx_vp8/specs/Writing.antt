-- What is written for a part (RFC 7741 4.2), and what it reads as.
use Rattle.std.specs.Prelude.{ℕ, ◌+◌, ◌*◌, ◌/◌, ◌%◌, Bool, ◌&&◌, ◌==◌, if◌then◌else◌, List, ◌∷◌, slice_index, Option, None, Some}
use Rattle.vrx_codec.specs.Part.{Part}
use Rattle.vrx_codec.specs.declared.part.Layers.{Layers}
use Rattle.vrx_codec.specs.declared.part.Start.TheVariants.{Yes, No}
use Rattle.vrx_vp8.specs.declared.bits.TheConstants.{BIT_X, BIT_S, BIT_I, BIT_L, BIT_T, BIT_M, BIT_Y}

-- bit S of the first octet, if the frame begins here; PID is 0
abbrev pub start_bit : Bool → ℕ
start_bit start = if start then BIT_S else 0

-- The payload. Without layers the descriptor is its first octet only. With layers bit X is 1, and I, L and T of the
-- next octet; the PictureID has M = 1 and 15 bits; after TL0PICIDX come TID and Y, with KEYIDX 0.
abbrev pub written_payload : Bool → Option Layers → List ℕ → List ℕ
written_payload start None body = start_bit start ∷ body
written_payload start (Some layers) body =
    (BIT_X + start_bit start) ∷ (BIT_I + BIT_L + BIT_T) ∷ (BIT_M + layers.picture / 256) ∷ (layers.picture % 256)
    ∷ layers.tl0 ∷ (layers.tid * 64 + (if layers.sync then BIT_Y else 0)) ∷ body

-- the part that is said: it says a keyframe if it begins a frame whose first octet has bit P, the least significant
-- one, 0 (RFC 7741 4.3)
abbrev pub written_part : Bool → Option Layers → List ℕ → Part
written_part start layers body = record {
  start = if start then Yes else No;
  key = start && (slice_index body 0 % 2 == 0);
  layers = layers;
  body = body;
}
