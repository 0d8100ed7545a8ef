-- What the types of the code stand for.
use Rattle.std.specs.Prelude.{Result, Ok, Err}
use Rattle.vrx_codec.specs.Part.{Part}
use Rattle.vrx_codec.specs.declared.fault.PartFault.{PartFault}
use Rattle.vrx_codec.specs.declared.part.Part.{Part as PartSeen}

-- the part, without where its body lies in memory
abbrev pub view : PartSeen → Part
view p = record { start = p.start; key = p.key; layers = p.layers; body = p.body.now }

-- the part that was read, or the fault
abbrev pub view_result : Result PartSeen PartFault → Result Part PartFault
view_result (Ok p) = Ok (view p)
view_result (Err e) = Err e
