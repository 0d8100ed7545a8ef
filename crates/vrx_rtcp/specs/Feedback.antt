-- The feedback that a receiver sends, as octets: a generic NACK (RFC 4585 6.2.1), and a picture loss indication
-- (6.3.1). A NACK names missing packets by items:
--
--  0                   1                   2                   3
--  0 1 2 3 4 5 6 7 8 9 0 1 2 3 4 5 6 7 8 9 0 1 2 3 4 5 6 7 8 9 0 1
-- +-+-+-+-+-+-+-+-+-+-+-+-+-+-+-+-+-+-+-+-+-+-+-+-+-+-+-+-+-+-+-+-+
-- |              PID              |              BLP              |
-- +-+-+-+-+-+-+-+-+-+-+-+-+-+-+-+-+-+-+-+-+-+-+-+-+-+-+-+-+-+-+-+-+
--
-- PID is a missing number, and bit i of BLP, counted from 1 at the least significant, says that PID + i is missing
-- too, modulo 65,536. Numbers here are wider than 16 bits, and are written modulo 65,536.
use Rattle.std.specs.Prelude.{ℕ, ◌+◌, ◌-◌, ◌%◌, ◌^◌, ◌==◌, nat_lt, nat_le, false, ◌&&◌, if◌then◌else◌, List, [], ◌∷◌, ◌++◌, length, map, filter, sum_by}
use Rattle.std.specs.List.{flat_map, range_with_len}
use Rattle.std.specs.Int.{w16, w32, to_be_bytes, from_be_bytes, bit_at}
use Rattle.vrx_rtcp.specs.declared.types.TheConstants.{RTPFB, PSFB, FMT_NACK, FMT_PLI, BLP_BITS}
use Rattle.vrx_rtcp.specs.Packet.{first_octet}

-- ---- what is written of numbers that rise

-- the numbers that begin an item, after one that begins with first: the next that its BLP doesn't reach, and so on
abbrev pub later_firsts : ℕ → List ℕ → List ℕ
later_firsts first [] = []
later_firsts first (n ∷ numbers) =
    if nat_le n (first + BLP_BITS) then later_firsts first numbers else n ∷ later_firsts n numbers

-- the numbers that begin an item: the least, and those after it
abbrev pub firsts : List ℕ → List ℕ
firsts [] = []
firsts (n ∷ numbers) = n ∷ later_firsts n numbers

-- the numbers that the BLP of an item names
abbrev pub numbers_in_reach : List ℕ → ℕ → List ℕ
numbers_in_reach numbers first = filter (λ n. nat_lt first n && nat_le n (first + BLP_BITS)) numbers

-- BLP: bit i for the number first + i
abbrev pub blp_of : List ℕ → ℕ → ℕ
blp_of numbers first = sum_by (λ n. 2 ^ (n - first - 1)) (numbers_in_reach numbers first)

-- the octets of an item, and of all of them
abbrev pub item_octets : List ℕ → ℕ → List ℕ
item_octets numbers first = to_be_bytes w16 (first % 65536) ++ to_be_bytes w16 (blp_of numbers first)

abbrev pub items_octets : List ℕ → List ℕ
items_octets numbers = flat_map (item_octets numbers) (firsts numbers)

-- what a feedback message has before them (RFC 4585 6.1): a header without padding, and the SSRCs of its sender and
-- of the media
abbrev pub feedback_head : ℕ → ℕ → ℕ → ℕ → ℕ → List ℕ
feedback_head format kind words from media =
    first_octet false format ∷ kind ∷ to_be_bytes w16 words ++ to_be_bytes w32 from ++ to_be_bytes w32 media

-- a generic NACK of these numbers, from one SSRC, on the media of another
abbrev pub nack_octets : ℕ → ℕ → List ℕ → List ℕ
nack_octets from media numbers =
    feedback_head FMT_NACK RTPFB (2 + length (firsts numbers)) from media ++ items_octets numbers

-- a picture loss indication
abbrev pub pli_octets : ℕ → ℕ → List ℕ
pli_octets from media = feedback_head FMT_PLI PSFB 2 from media

-- ---- what is read of items

-- the numbers that an item names
abbrev pub item_numbers : ℕ → ℕ → List ℕ
item_numbers pid blp =
    pid ∷ map (λ i. (pid + i) % 65536) (filter (λ i. bit_at blp (i - 1) == 1) (range_with_len 1 BLP_BITS))

-- the numbers that the octets of items name, in their order
abbrev pub numbers_named : List ℕ → List ℕ
numbers_named (a ∷ b ∷ c ∷ d ∷ items) =
    item_numbers (from_be_bytes w16 (a ∷ b ∷ [])) (from_be_bytes w16 (c ∷ d ∷ [])) ++ numbers_named items
numbers_named (a ∷ b ∷ c ∷ []) = []
numbers_named (a ∷ b ∷ []) = []
numbers_named (a ∷ []) = []
numbers_named [] = []
