-- What lies ahead of a reader: octets that it keeps, and then what its source has left.
use Rattle.std.specs.Prelude.{ℕ, List, ◌++◌, Option}
use Rattle.std.specs.Option.{option_map}

-- the octets ahead, if the source reports what it has left
unfoldable pub ahead : List ℕ → Option (List ℕ) → Option (List ℕ)
ahead kept left = option_map (λ octets. kept ++ octets) left
