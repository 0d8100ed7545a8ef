-- What a codec's packet carries of a frame. Whether it begins the frame, the frame's place among temporal layers
-- (RFC 7741 4.2: PictureID, TL0PICIDX, TID, Y), and the faults are the types of the code.
use Rattle.std.specs.Prelude.{ℕ, Bool, List, Option}
use Rattle.vrx_codec.specs.declared.part.Start.{Start}
use Rattle.vrx_codec.specs.declared.part.Layers.{Layers}

-- what one payload says: key of a part that makes its frame a keyframe by itself
pub record Part : Type 0 where
  pub start : Start
  pub key : Bool
  pub layers : Option Layers
  pub body : List ℕ
