-- The reads of a source, one after the other.
use Rattle.std.specs.Prelude.{◌≡◌, ℕ, List, [], ◌∷◌, ◌++◌, take}
use Rattle.std.specs.declared.result.Result.{Result}
use Rattle.std.specs.declared.result.Result.TheVariants.{Ok, Err}
use Rattle.vrx_io.specs.declared.failed.Failed.{Failed}

-- the octets that a read gave: those at the front of the buffer, and none if it failed
abbrev pub octets_read : Result ℕ Failed → List ℕ → List ℕ
octets_read (Ok n) buf = take n buf
octets_read (Err failed) buf = []

-- all the octets that some reads gave; each read stands with the source after it
unfoldable pub all_read : {S : Type 0} → List (List ℕ × S) → List ℕ
all_read [] = []
all_read ((octets, source) ∷ reads) = octets ++ all_read reads

-- these reads were made one after the other, from one source to another, and each only when the octets kept and read
-- until then allowed it
unfoldable pub AreReads : {S : Type 0} → (S → List ℕ → S → Type 0) → (List ℕ → Type 0) → List ℕ → S →
    List (List ℕ × S) → S → Type 0
AreReads is_read allow kept old [] new = new ≡ old
AreReads is_read allow kept old ((octets, mid) ∷ reads) new =
    allow kept × is_read old octets mid × AreReads is_read allow (kept ++ octets) mid reads new

-- a call read these octets of a source, in one read after the other, and each only when the octets kept and read until
-- then allowed it
pub record ReadsSo {S : Type 0} (is_read : S → List ℕ → S → Type 0) (allow : List ℕ → Type 0) (kept : List ℕ)
    (old new : S) (read : List ℕ) : Type 0 where
  pub reads : List (List ℕ × S)
  pub were : AreReads is_read allow kept old reads new
  pub octets : all_read reads ≡ read
