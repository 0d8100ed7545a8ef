-- Runs: the whole frames that lie among the available packets (RFC 7741 4.1, RFC 6184 5.1).
use Rattle.std.specs.Prelude.{length, ℕ, zero, suc, ◌+◌, ◌-◌, Bool, true, false, ◌&&◌, ◌||◌, not, ◌==◌, nat_le, if◌then◌else◌, List, [], ◌∷◌, map, Option, Some, None}
use Rattle.std.specs.List.{list_any, list_all, filter_map, flat_map}
use Rattle.std.specs.Option.{option_map, option_map_or}
use Rattle.std.specs.Result.{result_ok}
use Rattle.vrx_rtp.specs.Packet.{Packet}
use Rattle.vrx_rtp.specs.Reading.{read}
use Rattle.vrx_codec.specs.Part.{Part}
use Rattle.vrx_codec.specs.declared.part.Start.{Start}
use Rattle.vrx_codec.specs.declared.part.Start.TheVariants.{Yes, No, ByNeighbour}
use Rattle.vrx_codec.specs.declared.run.Place.{Place}
use Rattle.vrx_codec.specs.declared.run.Run.{Run as RunSummary}
use Rattle.vrx_codec.specs.Meaning.{Meaning}
use Rattle.vrx_window.specs.Content.{Content, Media, Fec, Empty}
use Rattle.vrx_window.specs.Window.{at, is_available}
use Rattle.vrx_num.specs.OptionChain.{◌>>=◌}

-- what stands under numbers, in their order
abbrev pub Packets : Type 0
Packets = List (ℕ × Content)

-- a number that is available media: its packet, and what its payload says
pub record Piece : Type 0 where
  pub number : ℕ
  pub packet : Packet
  pub part : Part

abbrev pub text_of : Content → Option (List ℕ)
text_of (Media text) = Some text
text_of (Fec payload) = None
text_of Empty = None

-- what a number stands for, if this is available under it
abbrev pub piece_of : Meaning → ℕ → Content → Option Piece
piece_of codec n content = do
  text ← text_of content
  packet ← read text
  part ← result_ok (codec.read packet.payload)
  Some (record { number = n; packet = packet; part = part })

abbrev pub piece_at : Meaning → Packets → ℕ → Option Piece
piece_at codec packets n = at n packets >>= piece_of codec n

-- n, n + 1 and so on, as many as are asked for
abbrev pub numbers_from : ℕ → ℕ → List ℕ
numbers_from n zero = []
numbers_from n (suc more) = n ∷ numbers_from (n + 1) more

-- all values, if each is there
abbrev pub all_some : {A : Type 0} → List (Option A) → Option (List A)
all_some [] = Some []
all_some (o ∷ os) = do
  x ← o
  xs ← all_some os
  Some (x ∷ xs)

-- the stretch of the numbers from first to last, if each is available media
abbrev pub stretch : Meaning → Packets → ℕ → ℕ → Option (List Piece)
stretch codec packets first last = all_some (map (piece_at codec packets) (numbers_from first (last + 1 - first)))

-- a packet after which a frame begins: it has the marker, or is no media
abbrev pub ends_frame : Content → Bool
ends_frame (Media text) = option_map_or (λ packet. packet.marker) (read text) false
ends_frame (Fec payload) = true
ends_frame Empty = true

-- passed: no frame still needs a number up to the front
abbrev pub is_passed : Option ℕ → ℕ → Bool
is_passed None n = false
is_passed (Some front) n = nat_le n front

-- n and the number before are both available, and the number before ends a frame
abbrev pub stands_after_end : ℕ → Packets → Bool
stands_after_end n packets = is_available n packets && option_map_or ends_frame (at (n - 1) packets) false

-- what the payload says, or else the packet before it
abbrev pub begins : Start → Bool → Bool
begins Yes behind = true
begins No behind = false
begins ByNeighbour behind = behind

-- whether a number is the first of a frame, by a test that says which numbers ever stood right after the end of one
abbrev pub is_start : Option ℕ → (ℕ → Bool) → Piece → Bool
is_start front began piece = begins piece.part.start (is_passed front (piece.number - 1) || began piece.number)

-- the first passes the test, and no other does
abbrev pub first_alone : {A : Type 0} → (A → Bool) → List A → Bool
first_alone test [] = false
first_alone test (x ∷ xs) = test x && list_all (λ y. not (test y)) xs

-- the last passes the test, and no other does
abbrev pub last_alone : {A : Type 0} → (A → Bool) → List A → Bool
last_alone test [] = false
last_alone test (x ∷ []) = test x
last_alone test (x ∷ y ∷ ys) = not (test x) && last_alone test (y ∷ ys)

-- a whole frame: its first and last number, its timestamp, whether it is a keyframe, its place (that of its first
-- packet), its bytes
pub record Run : Type 0 where
  pub first : ℕ
  pub last : ℕ
  pub ts : ℕ
  pub key : Bool
  pub layers : Option Place
  pub bytes : List ℕ

-- a stretch is a run if all its packets have one timestamp, the first is a start and no other is, the last has
-- the marker and no other has, and the parts join
abbrev pub run_of : Meaning → (ℕ → Option Place) → (Piece → Bool) → ℕ → List Piece → Option Run
run_of codec place starts last [] = None
run_of codec place starts last (piece ∷ pieces) =
    if list_all (λ p. p.packet.ts == piece.packet.ts) pieces && first_alone starts (piece ∷ pieces) && last_alone
    (λ p. p.packet.marker) (piece ∷ pieces)
    then option_map (λ bytes.
    record {
      first = piece.number;
      last = last;
      ts = piece.packet.ts;
      key = list_any (λ p. p.part.key) (piece ∷ pieces);
      layers = place piece.number;
      bytes = bytes;
    }) (result_ok (codec.join (map (λ p. p.part) (piece ∷ pieces))))
    else None

-- the runs whose starts are those of this test, by their first number and then by their last
abbrev pub runs_by : Meaning → (ℕ → Option Place) → (Piece → Bool) → Packets → List Run
runs_by codec place starts packets =
    flat_map (λ first. filter_map
    (λ last. stretch codec packets first last >>= run_of codec place starts last) numbers) numbers where
      numbers : List ℕ
      numbers = map (λ entry. entry.0) packets

-- what is told of a run
abbrev pub summary_of : Run → RunSummary
summary_of run = record {
  first = run.first;
  last = run.last;
  ts = run.ts;
  key = run.key;
  layers = run.layers;
  octets = length run.bytes;
}

-- a run stands if it begins beyond this number, or if there is no number
abbrev pub stands : Option ℕ → Run → Bool
stands None run = true
stands (Some last) run = not (nat_le run.first last)
