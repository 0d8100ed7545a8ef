-- What the runs are, each condition by itself (RFC 7741 4.1, RFC 6184 5.1).
use Rattle.std.specs.Prelude.{◌≡◌, ◌↔◌, ℕ, ◌+◌, ◌≤◌, Bool, true, List, [], ◌∷◌, map, length, All, Contains, Option, Some, Ok}
use Rattle.std.specs.List.Sorted.{IsStrictlySortedBy}
use Rattle.std.specs.Ordering.{nat_cmp}
use Rattle.std.specs.FinMap.Entries.{is_sorted}
use Rattle.vrx_rtp.specs.Reading.{read}
use Rattle.vrx_codec.specs.Meaning.{Meaning}
use Rattle.vrx_codec.specs.declared.run.Place.{Place}
use Rattle.vrx_window.specs.Content.{Media}
use Rattle.vrx_window.specs.Window.{at}
use Rattle.vrx_frames.specs.Run.{Packets, Piece, Run, runs_by}

-- n is available media, and this is its packet and what its payload says
pub record IsPiece (codec : Meaning) (packets : Packets) (n : ℕ) (piece : Piece) : Type 0 where
  pub number : piece.number ≡ n
  pub text : List ℕ
  pub media : at n packets ≡ Some (Media text)
  pub reads : read text ≡ Some piece.packet
  pub part_reads : codec.read piece.packet.payload ≡ Ok piece.part

-- the numbers n, n + 1 and so on are each available media, and these are their pieces
abbrev pub ArePieces : Meaning → Packets → ℕ → List Piece → Type 0
ArePieces codec packets n [] = Unit {0}
ArePieces codec packets n (piece ∷ pieces) = IsPiece codec packets n piece × ArePieces codec packets (n + 1) pieces

-- a run whose starts are those of a test, and whose place is that of its first number
pub record IsRunBy (codec : Meaning) (place : ℕ → Option Place) (starts : Piece → Bool) (packets : Packets)
    (run : Run) : Type 0 where
  -- its numbers, from the first to the last, are each available media
  pub pieces : List Piece
  pub from_first : ArePieces codec packets run.first pieces
  pub to_last : run.first + length pieces ≡ run.last + 1
  pub not_empty : run.first ≤ run.last
  -- all its packets have one timestamp
  pub ts : All (λ piece. piece.packet.ts ≡ run.ts) pieces
  -- its first packet is a start, and no other is
  pub start : All (λ piece. (starts piece ≡ true) ↔ (piece.number ≡ run.first)) pieces
  -- its last packet has the marker, and no other has
  pub marker : All (λ piece. (piece.packet.marker ≡ true) ↔ (piece.number ≡ run.last)) pieces
  -- it is a keyframe exactly if some part says so
  pub key : (run.key ≡ true) ↔ ((piece : Piece) × Contains pieces piece × (piece.part.key ≡ true))
  -- its place is that of its first number
  pub layers : run.layers ≡ place run.first
  -- its parts join to its bytes
  pub joins : codec.join (map (λ piece. piece.part) pieces) ≡ Ok run.bytes

-- the runs are just these
abbrev pub RunsAre : Type 0
RunsAre = (codec : Meaning) (place : ℕ → Option Place) (starts : Piece → Bool) (packets : Packets) (run : Run) →
    Contains (runs_by codec place starts packets) run ↔ IsRunBy codec place starts packets run

-- among packets in the order of their numbers the runs rise by their first numbers: at most one begins at a number
abbrev pub RunsRise : Type 0
RunsRise = (codec : Meaning) (place : ℕ → Option Place) (starts : Piece → Bool) (packets : Packets) →
    is_sorted nat_cmp packets ≡ true →
    IsStrictlySortedBy (λ (a b : Run). nat_cmp a.first b.first) (runs_by codec place starts packets)

-- a number lies in a run
abbrev pub LiesIn : ℕ → Run → Type 0
LiesIn n run = (run.first ≤ n) × (n ≤ run.last)

-- two runs with a common number are one
abbrev pub RunsApart : Type 0
RunsApart =
    (codec : Meaning) (place : ℕ → Option Place) (starts : Piece → Bool) (packets : Packets) (a b : Run) (n : ℕ) →
    IsRunBy codec place starts packets a → IsRunBy codec place starts packets b → LiesIn n a → LiesIn n b → a ≡ b
