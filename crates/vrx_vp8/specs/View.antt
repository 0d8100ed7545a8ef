-- What the types of the code stand for.
use Rattle.vrx_vp8.specs.declared.descriptor.FieldsSeen.{FieldsSeen}
use Rattle.vrx_vp8.specs.Descriptor.{Fields}

-- the fields, and what follows them as a list, wherever it lies in memory
abbrev pub view_fields : FieldsSeen → Fields
view_fields f = record { start = f.start; layers = f.layers; body = f.body.now }
