-- Repairs: the packets that available FEC packets rebuild (RFC 5109 9).
use Rattle.std.specs.Prelude.{◌≡◌, ℕ, zero, suc, ◌+◌, ◌-◌, ◌%◌, Bool, ◌&&◌, not, ◌==◌, if◌then◌else◌, List, [], ◌∷◌, map, Option, Some, None}
use Rattle.std.specs.List.{filter}
use Rattle.std.specs.Option.{option_or, option_map_or}
use Rattle.std.specs.Ordering.{nat_cmp}
use Rattle.std.specs.Result.{result_ok}
use Rattle.std.specs.FinMap.Entries.{put}
use Rattle.vrx_num.specs.OptionChain.{◌>>=◌}
use Rattle.vrx_fec.specs.Parity.{Texts}
use Rattle.vrx_fec.specs.Payload.{Payload, distance, protected}
use Rattle.vrx_fec.specs.Reading.{reading}
use Rattle.vrx_fec.specs.Rebuilt.{rebuilt}
use Rattle.vrx_window.specs.Content.{Content, Media, Fec, Empty}
use Rattle.vrx_window.specs.Window.{at, is_available, is_dead, is_inside}
use Rattle.vrx_repair.specs.Source.{Source, media_in}

-- what is available under extended sequence numbers (RFC 3550 A.1), in their order
abbrev pub Packets : Type 0
Packets = List (ℕ × Content)

-- the text of a media packet
abbrev pub text_of : Content → Option (List ℕ)
text_of (Media text) = Some text
text_of (Fec payload) = None
text_of Empty = None

-- the payload of a FEC packet
abbrev pub payload_of : Content → Option (List ℕ)
payload_of (Media text) = None
payload_of (Fec payload) = Some payload
payload_of Empty = None

-- what the FEC packet of a number says, if there is one and its payload reads
abbrev pub fec_at : Packets → ℕ → Option Payload
fec_at packets m = do
  content ← at m packets
  payload ← payload_of content
  result_ok (reading payload (m % 65536))

-- SN base of the FEC packet of a number, as an extended number: so far before the packet's own
abbrev pub base_of : ℕ → Payload → ℕ
base_of m p = m - distance (m % 65536) p.base

-- those of the offsets from a base under which nothing is available
abbrev pub missing_of : Packets → ℕ → List ℕ → List ℕ
missing_of packets base offsets = filter (λ i. not (is_available (base + i) packets)) offsets

-- the one member of a list that has just one
abbrev pub only_one : List ℕ → Option ℕ
only_one [] = None
only_one (x ∷ []) = Some x
only_one (x ∷ y ∷ ys) = None

-- the offsets but one
abbrev pub others_of : ℕ → List ℕ → List ℕ
others_of missing offsets = filter (λ i. not (i == missing)) offsets

-- the texts under these offsets from a base, each with its offset, if each of them is available media
abbrev pub texts_at : Packets → ℕ → List ℕ → Option Texts
texts_at packets base [] = Some []
texts_at packets base (i ∷ is) = do
  content ← at (base + i) packets
  text ← text_of content
  texts ← texts_at packets base is
  Some ((i, text) ∷ texts)

-- the number is in the window, and wasn't given up
abbrev pub is_wanted : Option ℕ → List ℕ → ℕ → Bool
is_wanted newest dead n = is_inside newest n && not (is_dead n dead)

-- the content of a text under a number, if the text is media of the source
abbrev pub media_under : Source → ℕ → List ℕ → Option (ℕ × Content)
media_under source n text = do
  said ← media_in source text
  Some (n, Media text)

-- what a FEC packet's payload rebuilds under one of its offsets from a base, if the number is wanted, the others are
-- media, the rebuilt length is neither too great nor more than is covered, and what is rebuilt is media
abbrev pub rebuilt_under : Source → Option ℕ → List ℕ → Packets → ℕ → Payload → ℕ → Option (ℕ × Content)
rebuilt_under source newest dead packets base p missing =
    if is_wanted newest dead (base + missing)
    then (do
      others ← texts_at packets base (others_of missing (protected p))
      text ← result_ok (rebuilt p others missing source.ssrc)
      media_under source (base + missing) text)
    else None

-- what a FEC packet's payload rebuilds, its offsets counted from a base: the mask of its level 0 names just one
-- number that isn't available, and this one is rebuilt
abbrev pub step_of : Source → Option ℕ → List ℕ → Packets → ℕ → Payload → Option (ℕ × Content)
step_of source newest dead packets base p =
    only_one (missing_of packets base (protected p)) >>= rebuilt_under source newest dead packets base p

-- THE STEP of the FEC packet of a number, if it has one. The window ends at its newest number, and these numbers of
-- it were given up.
abbrev pub step : Source → Option ℕ → List ℕ → Packets → ℕ → Option (ℕ × Content)
step source newest dead packets m = fec_at packets m >>= λ p. step_of source newest dead packets (base_of m p) p

-- the first that a function gives, of some numbers
abbrev pub first_of : {X : Type 0} → (ℕ → Option X) → List ℕ → Option X
first_of f [] = None
first_of f (n ∷ ns) = option_or (f n) (first_of f ns)

-- the step of the least number that has one
abbrev pub first_step : Source → Option ℕ → List ℕ → Packets → Option (ℕ × Content)
first_step source newest dead packets =
    first_of (step source newest dead packets) (map (λ entry. entry.0) packets)

-- the packets, and one that was rebuilt
abbrev pub with_repair : ℕ × Content → Packets → Packets
with_repair repair packets = put nat_cmp repair.0 repair.1 packets

-- the packets, and all that were rebuilt
abbrev pub with_repairs : List (ℕ × Content) → Packets → Packets
with_repairs [] packets = packets
with_repairs (repair ∷ repairs) packets = with_repairs repairs (with_repair repair packets)

-- THE REPAIRS: step after step is made, always that of the least number, at most so many
abbrev pub repairs : Source → Option ℕ → List ℕ → ℕ → Packets → List (ℕ × Content)
repairs source newest dead zero packets = []
repairs source newest dead (suc more) packets = option_map_or
    (λ repair. repair ∷ repairs source newest dead more (with_repair repair packets))
    (first_step source newest dead packets)
    []

-- these are the repairs: each is the step of the least number once those before it were made, and after them no
-- step is left
abbrev pub AreRepairs : Source → Option ℕ → List ℕ → Packets → List (ℕ × Content) → Type 0
AreRepairs source newest dead packets [] = first_step source newest dead packets ≡ None
AreRepairs source newest dead packets (repair ∷ repairs) =
    (first_step source newest dead packets ≡ Some repair)
    × AreRepairs source newest dead (with_repair repair packets) repairs

-- no step is left
abbrev pub IsClosed : Source → Option ℕ → List ℕ → Packets → Type 0
IsClosed source newest dead packets = (m : ℕ) → step source newest dead packets m ≡ None
