-- Rebuilding a lost packet from a FEC payload and the other protected packets (RFC 5109 9.1, 9.2).
use Rattle.std.specs.Prelude.{◌≡◌, ℕ, ◌+◌, ◌-◌, ◌/◌, ◌%◌, ◌^◌, ◌<◌, ◌≤◌, Bool, true, nat_lt, if◌then◌else◌, bit_xor, List, [], ◌∷◌, ◌++◌, length, map, take, drop, Result, Ok, Err}
use Rattle.std.specs.Int.{w16, w32, to_be_bytes, from_be_bytes}
use Rattle.vrx_fec.specs.declared.parity.TheConstants.{HEADER}
use Rattle.vrx_fec.specs.declared.span.Span.{Span}
use Rattle.vrx_fec.specs.declared.register.RecoverFault.{RecoverFault}
use Rattle.vrx_fec.specs.declared.register.RecoverFault.TheVariants.{BadLength, NotCovered}
use Rattle.vrx_fec.specs.declared.register.TheConstants.{MOST_REBUILT}
use Rattle.vrx_fec.specs.Mask.{are_nested, is_named, numbers_from}
use Rattle.vrx_fec.specs.Payload.{Payload, masks}
use Rattle.vrx_fec.specs.Parity.{IsTrue, Texts, body_of, octet_at, recovery, spans_of, xor_of_fields, xor_of_octets}

-- a field of the lost packet: the XOR of the recovery field and of the others' fields
abbrev pub rebuilt_field : Payload → Texts → ℕ → ℕ
rebuilt_field p others k = bit_xor (octet_at k (recovery p.head)) (xor_of_fields k others)

-- its octet k after the first twelve: the XOR of the level's octet and of the others' octets
abbrev pub rebuilt_octet : Payload → Texts → ℕ → ℕ
rebuilt_octet p others k = bit_xor (octet_at k (body_of p.levels)) (xor_of_octets p.long (spans_of p.levels) k others)

-- how many octets it has after the first twelve
abbrev pub rebuilt_length : Payload → Texts → ℕ
rebuilt_length p others = from_be_bytes w16 (rebuilt_field p others 6 ∷ rebuilt_field p others 7 ∷ [])

-- the first twelve octets of a packet of version 2, of these fields, and of this number and SSRC (RFC 3550 5.1)
abbrev pub header_of : List ℕ → ℕ → ℕ → List ℕ
header_of fields number ssrc =
    (128 + octet_at 0 fields) ∷ octet_at 1 fields ∷ to_be_bytes w16 number
    ++ octet_at 2 fields ∷ octet_at 3 fields ∷ octet_at 4 fields ∷ octet_at 5 fields ∷ to_be_bytes w32 ssrc

-- its first twelve octets: the number counts from SN base, the SSRC is the source's, and the fields are rebuilt
abbrev pub rebuilt_header : Payload → Texts → ℕ → ℕ → List ℕ
rebuilt_header p others missing ssrc =
    header_of (map (rebuilt_field p others) (numbers_from 0 8)) ((p.base + missing) % 2 ^ 16) ssrc

-- the lost packet: the octets after the first twelve are as many as the rebuilt length says
abbrev pub rebuilt_text : Payload → Texts → ℕ → ℕ → List ℕ
rebuilt_text p others missing ssrc =
    rebuilt_header p others missing ssrc ++ map (rebuilt_octet p others) (numbers_from 0 (rebuilt_length p others))

-- how many octets of the packet at this offset are covered: those of the levels that name it
abbrev pub covered_by : Bool → List Span → ℕ → ℕ
covered_by long [] i = 0
covered_by long (span ∷ spans) i = (if is_named long span.mask i then span.size else 0) + covered_by long spans i

abbrev pub covered : Payload → ℕ → ℕ
covered p i = covered_by p.long (spans_of p.levels) i

-- THE LOST PACKET at this offset, or why it isn't rebuilt: its length is too great, or isn't covered
abbrev pub rebuilt : Payload → Texts → ℕ → ℕ → Result (List ℕ) RecoverFault
rebuilt p others missing ssrc =
    if nat_lt MOST_REBUILT (rebuilt_length p others) then Err BadLength
    else if nat_lt (covered p missing) (rebuilt_length p others) then Err NotCovered
    else Ok (rebuilt_text p others missing ssrc)

-- a text of the source: RTP of version 2 (RFC 3550 5.1), under the number at this offset from SN base, and of this
-- SSRC
pub record IsFrom (p : Payload) (offset ssrc : ℕ) (text : List ℕ) : Type 0 where
  pub version : octet_at 0 text / 64 ≡ 2
  pub number : take 2 (drop 2 text) ≡ to_be_bytes w16 ((p.base + offset) % 2 ^ 16)
  pub source : take 4 (drop 8 text) ≡ to_be_bytes w32 ssrc

-- the text can be protected: it has an RTP header, and the octets after its first twelve are counted in 16 bits
pub record HasSize (text : List ℕ) : Type 0 where
  pub at_least : HEADER ≤ length text
  pub at_most : length text - HEADER < 2 ^ 16

-- The payload is true for this text at this offset and for the others. Each level's mask is within the one before, as
-- in each payload that is read. The text's octets after the first twelve are covered, and not too many.
pub record IsRebuildable (p : Payload) (others : Texts) (missing ssrc : ℕ) (text : List ℕ) : Type 0 where
  pub true_is : IsTrue p ((missing, text) ∷ others)
  pub nested : are_nested (masks p.levels) ≡ true
  pub size : HasSize text
  pub origin : IsFrom p missing ssrc text
  pub few : length text - HEADER ≤ MOST_REBUILT
  pub within : length text - HEADER ≤ covered p missing

-- what a register has added up: fields, and octets after the first twelve
pub record Sums : Type 0 where
  pub fields : List ℕ
  pub body : List ℕ

-- A REGISTER of a payload and of texts that were added: at each place it has the XOR of them
pub record IsOf (sums : Sums) (p : Payload) (texts : Texts) : Type 0 where
  pub fields : (k : ℕ) → k < 8 → octet_at k sums.fields ≡ rebuilt_field p texts k
  pub size : length sums.body ≡ length (body_of p.levels)
  pub body : (k : ℕ) → k < length sums.body → octet_at k sums.body ≡ rebuilt_octet p texts k
