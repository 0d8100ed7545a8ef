-- The end of the three workers, whose seats were joined.
use Rattle.std.specs.Prelude.{◌≡◌, ◌≢◌, ◌+◌, ◌<◌, ℕ, List, length, replicate, All, Result, Ok, Err, Vec}
use Rattle.std.specs.Global.{Global}
use Rattle.vrx_codec.specs.Meaning.{Meaning}
use Rattle.vrx_lock.specs.declared.known.Known.{Known}
use Rattle.vrx_lock.specs.Lists.{counted_from}
use Rattle.vrx_lock.specs.Shares.{IsWhole}
use Rattle.vrx_live.specs.declared.calls.Stop.{Stop}
use Rattle.vrx_live.specs.declared.calls.Stop.TheVariants.{Full}
use Rattle.vrx_live.specs.declared.lists.Lists.{Lists}
use Rattle.vrx_live.specs.declared.pieces.Piece.{Piece}
use Rattle.vrx_live.specs.Runs.{HaveRun, HaveStopped}
use Rattle.vrx_live.specs.inside.Placed.{blank, placed}

-- how many pieces three workers have
abbrev pub count_of : List Piece → List Piece → List Piece → ℕ
count_of one two three = length one + length two + length three

-- their texts, each at its place
abbrev pub all_placed : List Piece → List Piece → List Piece → List (ℕ × List ℕ)
all_placed one two three = placed three (placed two (placed one (replicate (count_of one two three) blank)))

-- their places lie below their number
pub record AreWithin (one two three : List Piece) : Type 0 where
  pub datagrams : All (λ piece. piece.place < count_of one two three) one
  pub ticks : All (λ piece. piece.place < count_of one two three) two
  pub pulls : All (λ piece. piece.place < count_of one two three) three

-- the seat is whole again, no worker met a full journal, and the texts have all places of the journal
pub record HaveEnded (codec : Meaning) (lists : Lists) (old new : Known)
    (datagrams ticks pulls : Result (Vec Piece Global) Stop) : Type 0 where
  pub setup : (new.setup ≡ old.setup) × (new.actor ≡ old.actor)
  pub whole : IsWhole new.share
  pub places : new.places ≡ counted_from 0 (length new.seen)
  pub stopped : HaveStopped lists new
  pub room : (datagrams ≢ Err Full) × (ticks ≢ Err Full) × (pulls ≢ Err Full)
  pub within : (one two three : Vec Piece Global) → datagrams ≡ Ok one → ticks ≡ Ok two → pulls ≡ Ok three
      → AreWithin one.items two.items three.items
  pub run : (one two three : Vec Piece Global) → datagrams ≡ Ok one → ticks ≡ Ok two → pulls ≡ Ok three
      → HaveRun codec lists new (all_placed one.items two.items three.items)
