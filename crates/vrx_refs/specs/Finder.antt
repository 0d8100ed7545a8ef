-- What a finder remembers. Only `Knows` says what that has to do with what was told and pulled.
use Rattle.std.specs.Prelude.{◌≡◌, ℕ, ◌%◌, Bool, ◌==◌, if◌then◌else◌, List, length, slice_index_or, Option, Some, None}
use Rattle.vrx_refs.specs.declared.limits.TheConstants.{INDEXES, MEMORY}
use Rattle.vrx_refs.specs.declared.sight.Sight.{Sight}
use Rattle.vrx_refs.specs.References.{is_recent}

-- the newest picture; what was seen last in each of 4,096 slots, of which a picture has the one of its number modulo
-- 4,096; the base of each index; and whether a run was pulled
pub record Finder : Type 0 where
  pub newest : ℕ
  pub sights : List (Option Sight)
  pub bases : List (Option ℕ)
  pub has_pulled : Bool

-- there are all slots and all indexes
pub record IsWhole (sights : List (Option Sight)) (bases : List (Option ℕ)) : Type 0 where
  pub slots : length sights ≡ MEMORY
  pub indexes : length bases ≡ INDEXES

-- what a slot says of a picture
abbrev pub said_of : ℕ → Option Sight → Option Sight
said_of q None = None
said_of q (Some sight) = if sight.picture == q then Some sight else None

-- the same of its own slot
abbrev pub slot_at : List (Option Sight) → ℕ → Option Sight
slot_at sights q = said_of q (slice_index_or sights (q % MEMORY) None)

-- what is remembered of a picture
abbrev pub sight_at : Finder → ℕ → Option Sight
sight_at finder q = if is_recent finder.newest q then slot_at finder.sights q else None

-- the base of an index
abbrev pub base_at : Finder → ℕ → Option ℕ
base_at finder index = slice_index_or finder.bases index None
