-- What holds of the payload descriptor (RFC 7741 4.2), as statements.
use Rattle.std.specs.Prelude.{◌≡◌, ℕ, ◌↔◌, true, List, [], length, IsSome, Some, Ok, Err}
use Rattle.vrx_codec.specs.Part.{Part}
use Rattle.vrx_vp8.specs.declared.faults.TheConstants.{SHORT, NO_BODY}
use Rattle.vrx_vp8.specs.Descriptor.{Fields, fields, part_with, read_part}
use Rattle.vrx_vp8.specs.IsDescriptor.{IsDescriptor, SaysLayers, SaysKey}

-- the fields of a payload are read exactly if its octets spell them
abbrev pub ReadsSpelled : Type 0
ReadsSpelled = (payload : List ℕ) (f : Fields) → (fields payload ≡ Some f) ↔ IsDescriptor payload f

-- the part is that of the fields that are spelled
abbrev pub GivesPart : Type 0
GivesPart =
    (payload : List ℕ) (f : Fields) → IsDescriptor payload f → read_part payload ≡ part_with (length payload) f f.body

-- there are layers exactly if the octets say so
abbrev pub GivesLayers : Type 0
GivesLayers = (payload : List ℕ) (f : Fields) (d : IsDescriptor payload f) → IsSome f.layers ↔ SaysLayers payload f d

-- a part is marked as a keyframe's exactly if it says so
abbrev pub GivesKey : Type 0
GivesKey = (payload : List ℕ) (part : Part) → read_part payload ≡ Ok part → (part.key ≡ true) ↔ SaysKey part

-- if nothing follows the descriptor, that is told at the payload's end
abbrev pub RefusesNoBody : Type 0
RefusesNoBody = (payload : List ℕ) (f : Fields) → IsDescriptor payload f → f.body ≡ [] →
    read_part payload ≡ Err (record { code = NO_BODY; at = length payload })

-- and if the octets spell no descriptor, that is told there
abbrev pub RefusesShort : Type 0
RefusesShort = (payload : List ℕ) → ((f : Fields) → IsDescriptor payload f → ⊥) →
    read_part payload ≡ Err (record { code = SHORT; at = length payload })
