-- A reader or a writer with a count of faults, and what one call of it does, as contracts see them.
use Rattle.std.specs.Prelude.{◌≡◌, ℕ, ◌<◌, ◌⊎◌, List, length}
use Rattle.std.specs.declared.io.Error.{Error}
use Rattle.std.specs.declared.result.Result.{Result}
use Rattle.std.specs.declared.result.Result.TheVariants.{Ok, Err}
use Rattle.vrx_io.specs.declared.failed.Failed.{Failed}
use Rattle.vrx_io.specs.Faults.{faults_after}
use Rattle.vrx_io.specs.Reads.{octets_read}

-- what is read or written, and how many of its calls failed
pub record Counted (Device : Type 0) : Type 0 where
  pub device : Device
  pub faults : ℕ

-- what one call of a reader does: the reader and the buffer before it, its answer, the buffer and the reader after it
abbrev pub ReadCall : Type 0 → Type 1
ReadCall Reader = Reader → List ℕ → Result ℕ Error → List ℕ → Reader → Type 0

-- what one call of a writer does: the writer before it, the piece, its answer, and the writer after it
abbrev pub WriteCall : Type 0 → Type 1
WriteCall Writer = Writer → List ℕ → Result ℕ Error → Writer → Type 0

-- the reader was called once, with this buffer: its count is the result, and `Failed` stands for its error
abbrev pub ReadsOnce : {R : Type 0} → ReadCall R → R → List ℕ → Result ℕ Failed → List ℕ → R → Type 0
ReadsOnce is_call old room (Ok n) buf new = is_call old room (Ok n) buf new
ReadsOnce is_call old room (Err failed) buf new = (error : Error) × is_call old room (Err error) buf new

-- the writer was called once, with this piece: its count is the result, and `Failed` stands for its error, or for
-- no byte taken of a piece that has one
abbrev pub WritesOnce : {W : Type 0} → WriteCall W → W → List ℕ → Result ℕ Failed → W → Type 0
WritesOnce is_call old piece (Ok n) new = is_call old piece (Ok n) new
WritesOnce is_call old piece (Err failed) new =
    ((error : Error) × is_call old piece (Err error) new) ⊎ ((0 < length piece) × is_call old piece (Ok 0) new)

-- one call of the reader gave these octets, none if it failed, and is counted if it failed
pub record IsCountedRead {Reader : Type 0} (is_call : ReadCall Reader) (old : Counted Reader) (octets : List ℕ)
    (new : Counted Reader) : Type 0 where
  pub room : List ℕ
  pub result : Result ℕ Failed
  pub buf : List ℕ
  pub once : ReadsOnce is_call old.device room result buf new.device
  pub octets_are : octets ≡ octets_read result buf
  pub counted : new.faults ≡ faults_after old.faults result
