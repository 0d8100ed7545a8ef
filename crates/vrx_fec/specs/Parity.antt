-- The XOR of what a FEC packet protects (RFC 5109 8.1, 8.2), place by place over a list of texts. A text is a
-- protected packet, from its RTP header on; it stands here with its offset from SN base.
use Rattle.std.specs.Prelude.{◌≡◌, ℕ, ◌+◌, ◌-◌, ◌%◌, ◌<◌, Bool, nat_lt, if◌then◌else◌, bit_xor, List, [], ◌∷◌, length, map, filter, flat_map, slice_index, IsPermutation}
use Rattle.std.specs.Int.{w16, to_be_bytes}
use Rattle.vrx_fec.specs.declared.parity.TheConstants.{HEADER}
use Rattle.vrx_fec.specs.declared.span.Span.{Span}
use Rattle.vrx_fec.specs.Mask.{is_named}
use Rattle.vrx_fec.specs.Payload.{Level, Payload, protected}

-- texts, each with its offset
abbrev pub Texts : Type 0
Texts = List (ℕ × List ℕ)

-- an octet of a list; past its end it counts as 0
abbrev pub octet_at : ℕ → List ℕ → ℕ
octet_at k octets = slice_index octets k

-- THE FIELDS of a text that the FEC header protects (RFC 5109 8.1), in its order: the first octet without the
-- version, so P, X and CC; M and PT; the four octets of the timestamp; and how many octets come after the first
-- twelve, in 16 bits.
abbrev pub fields_of : List ℕ → List ℕ
fields_of text = octet_at 0 text % 64 ∷ octet_at 1 text ∷ octet_at 4 text ∷ octet_at 5 text ∷ octet_at 6 text
    ∷ octet_at 7 text ∷ to_be_bytes w16 (length text - HEADER)

-- the same fields of a FEC header, which are the recovery fields: P, X and CC without E and L; M and PT; TS; length
abbrev pub recovery : List ℕ → List ℕ
recovery head = octet_at 0 head % 64 ∷ octet_at 1 head ∷ octet_at 4 head ∷ octet_at 5 head ∷ octet_at 6 head
    ∷ octet_at 7 head ∷ octet_at 8 head ∷ octet_at 9 head ∷ []

-- the XOR of what the texts have
abbrev pub xor_of : (List ℕ → ℕ) → Texts → ℕ
xor_of part [] = 0
xor_of part (t ∷ ts) = bit_xor (part t.1) (xor_of part ts)

-- the XOR of the texts' fields at a place
abbrev pub xor_of_fields : ℕ → Texts → ℕ
xor_of_fields k texts = xor_of (λ text. octet_at k (fields_of text)) texts

-- a level protects these packets, and so many octets of each
abbrev pub span_of : Level → Span
span_of level = record { mask = level.mask; size = length level.octets }

abbrev pub spans_of : List Level → List Span
spans_of levels = map span_of levels

-- The mask of the level that protects the octet k after the first twelve: level 0 protects the first ones, level 1
-- those that follow, and so on (RFC 5109 8.2).
abbrev pub mask_at : List Span → ℕ → ℕ
mask_at [] k = 0
mask_at (span ∷ spans) k = if nat_lt k span.size then span.mask else mask_at spans (k - span.size)

-- the texts that a mask names
abbrev pub named : Bool → ℕ → Texts → Texts
named long mask texts = filter (λ t. is_named long mask t.0) texts

-- the XOR of the octets k after the first twelve, over the texts that the level there names
abbrev pub xor_of_octets : Bool → List Span → ℕ → Texts → ℕ
xor_of_octets long spans k texts = xor_of (λ text. octet_at (HEADER + k) text) (named long (mask_at spans k) texts)

-- the octets of all levels, one level after the other
abbrev pub body_of : List Level → List ℕ
body_of levels = flat_map (λ level. level.octets) levels

-- the payload is the parity of these texts: each recovery field, and each octet of each level, is their XOR
pub record IsParity (p : Payload) (texts : Texts) : Type 0 where
  pub fields : (k : ℕ) → k < 8 → octet_at k (recovery p.head) ≡ xor_of_fields k texts
  pub body : (k : ℕ) → k < length (body_of p.levels) →
      octet_at k (body_of p.levels) ≡ xor_of_octets p.long (spans_of p.levels) k texts

-- the texts' offsets
abbrev pub offsets_of : Texts → List ℕ
offsets_of texts = map (λ t. t.0) texts

-- TRUE: the payload is the parity of just the texts that level 0 names, each once
pub record IsTrue (p : Payload) (texts : Texts) : Type 0 where
  pub protects : IsPermutation (protected p) (offsets_of texts)
  pub parity : IsParity p texts
