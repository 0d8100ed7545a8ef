-- What a walk remembers of what it met. No public clause cites this module.
use Rattle.std.specs.Prelude.{◌≡◌, ℕ, ◌+◌, ◌<◌, false, List, length, slice_index_or}
use Rattle.vrx_refs.specs.declared.limits.TheConstants.{LAYERS}
use Rattle.vrx_refs.specs.declared.sighting.Sighting.{Sighting}
use Rattle.vrx_refs.specs.declared.walk.Met.{Met}
use Rattle.vrx_refs.specs.References.{was_met}

-- a walk for a frame of this TID met just these pictures: they are told by their TIDs, and by how many TIDs are left
pub record IsMet (top : ℕ) (met : Met) (list : List Sighting) : Type 0 where
  pub flags : (tid : ℕ) → tid < LAYERS → slice_index_or met.was tid false ≡ was_met tid list
  pub left : met.left + length list ≡ top + 1
