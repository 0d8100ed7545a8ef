-- What a codec means: all that the receiver asks of it.
use Rattle.std.specs.Prelude.{ℕ, List, Result}
use Rattle.vrx_codec.specs.Part.{Part}
use Rattle.vrx_codec.specs.declared.fault.PartFault.{PartFault}
use Rattle.vrx_codec.specs.declared.fault.JoinFault.{JoinFault}

-- how a payload reads, and to which bytes a list of parts joins
pub record Meaning : Type 0 where
  pub read : List ℕ → Result Part PartFault
  pub join : List Part → Result (List ℕ) JoinFault
