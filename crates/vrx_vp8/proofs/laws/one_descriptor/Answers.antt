-- The laws of the descriptor, from the lemmas on it.
use Rattle.std.proofs.Common.{refl, ap, length}
use Rattle.vrx_vp8.specs.Descriptor.{fields, part_of}
use Rattle.vrx_vp8.proofs.DescriptorLemmas.{fields_spelled, fields-spelled, layers-said, said-layers, keyed, bare, cut}
use Rattle.vrx_vp8.proofs.laws.one_descriptor.Goals as goal

pub returns-clause-fields_spelled : goal.returns-clause-fields_spelled
returns-clause-fields_spelled c payload f = (fields_spelled payload f, fields-spelled payload f)

pub returns-clause-part_spelled : goal.returns-clause-part_spelled
returns-clause-part_spelled c payload f is = ap (part_of (length payload)) (fields-spelled payload f is)

pub returns-clause-layers : goal.returns-clause-layers
returns-clause-layers c payload f d = (layers-said payload f d, said-layers payload f d)

pub returns-clause-key : goal.returns-clause-key
returns-clause-key c payload part is = keyed payload part is

pub returns-clause-no_body : goal.returns-clause-no_body
returns-clause-no_body c payload f is empty = bare payload f is empty

pub returns-clause-short : goal.returns-clause-short
returns-clause-short c payload none = cut payload (fields payload) refl none
