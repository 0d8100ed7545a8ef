-- The octets that were read and not passed over, and what reading on does to them.
use Rattle.std.specs.Prelude.{◌≡◌, ◌⊎◌, ℕ, Bool, true, List, [], ◌++◌, Option}
use Rattle.vrx_io.specs.Source.{IsSpent}
use Rattle.vrx_capture.specs.Ahead.{ahead}

-- the octets kept, and whether their source was read to its end
pub record Holding : Type 0 where
  pub kept : List ℕ
  pub ended : Bool

-- what reading on did: the source gave some octets, and they stand after those kept before
pub record ReadsOn (old new : Holding) (before after : Option (List ℕ)) : Type 0 where
  pub read : List ℕ
  pub source : before ≡ ahead read after
  pub octets : new.kept ≡ old.kept ++ read
  pub end : new.ended ≡ true → (old.ended ≡ true) ⊎ IsSpent after
  -- after the end nothing is read
  pub stays : old.ended ≡ true → (new.ended ≡ true) × (read ≡ [])
