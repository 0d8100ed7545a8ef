-- The VP8 payload descriptor (RFC 7741 4.2), and the meaning of VP8.
--
--      0 1 2 3 4 5 6 7
--     +-+-+-+-+-+-+-+-+
--     |X|R|N|S|R| PID |  S = 1 and PID = 0: the frame begins here
--     +-+-+-+-+-+-+-+-+
-- X:  |I|L|T|K| RSV   |
--     +-+-+-+-+-+-+-+-+
-- I:  |M| PictureID   |  M = 1: its low eight bits follow in one more octet
--     +-+-+-+-+-+-+-+-+
-- L:  |   TL0PICIDX   |
--     +-+-+-+-+-+-+-+-+
-- T/K:|TID|Y| KEYIDX  |
--     +-+-+-+-+-+-+-+-+
use Rattle.std.specs.Prelude.{ℕ, ◌+◌, ◌*◌, ◌/◌, ◌%◌, Bool, true, false, ◌&&◌, ◌||◌, ◌==◌, if◌then◌else◌, List, [], ◌∷◌, length, Option, Some, None, Result, Ok, Err}
use Rattle.std.specs.List.{flat_map}
use Rattle.vrx_codec.specs.Octet.{bit}
use Rattle.vrx_codec.specs.Part.{Part}
use Rattle.vrx_codec.specs.declared.part.Start.TheVariants.{Yes, No}
use Rattle.vrx_codec.specs.declared.part.Layers.{Layers}
use Rattle.vrx_codec.specs.declared.fault.PartFault.{PartFault}
use Rattle.vrx_codec.specs.Meaning.{Meaning}
use Rattle.vrx_vp8.specs.declared.bits.TheConstants.{BIT_X, BIT_S, BIT_I, BIT_L, BIT_T, BIT_K, BIT_M, BIT_Y}
use Rattle.vrx_vp8.specs.declared.faults.TheConstants.{SHORT, NO_BODY}
use Rattle.vrx_num.specs.OptionChain.{◌>>=◌}

-- the next octet and the octets after it, if a flag says that it comes: else 0, and nothing is taken
abbrev pub octet_if : Bool → List ℕ → Option (ℕ × List ℕ)
octet_if false rest = Some (0, rest)
octet_if true [] = None
octet_if true (octet ∷ rest) = Some (octet, rest)

-- the fields of a descriptor, and what follows it
pub record Fields : Type 0 where
  pub start : Bool
  pub layers : Option Layers
  pub body : List ℕ

-- from the first octet, the octet of extension flags (0 if there is none), and what follows it
abbrev pub fields_after : ℕ → ℕ × List ℕ → Option Fields
fields_after head flags = do
  picture ← octet_if (bit BIT_I flags.0) flags.1
  low ← octet_if (bit BIT_M picture.0) picture.1
  tl0 ← octet_if (bit BIT_L flags.0) low.1
  tid ← octet_if (bit BIT_T flags.0 || bit BIT_K flags.0) tl0.1
  Some (record {
    start = bit BIT_S head && (head % 8 == 0);
    layers = if bit BIT_M picture.0 && bit BIT_L flags.0 && bit BIT_T flags.0
        then Some (record {
          picture = picture.0 % 128 * 256 + low.0;
          tl0 = tl0.0;
          tid = tid.0 / 64;
          sync = bit BIT_Y tid.0;
        })
        else None;
    body = tid.1;
  })

abbrev pub fields : List ℕ → Option Fields
fields payload = do
  head ← octet_if true payload
  flags ← octet_if (bit BIT_X head.0) head.1
  fields_after head.0 flags

-- The part that the fields and a body give, if a body follows the descriptor. A frame's first part says a keyframe if
-- bit P of the frame's first octet, the least significant one, is 0 (RFC 7741 4.3).
abbrev pub part_with : ℕ → Fields → List ℕ → Result Part PartFault
part_with len f [] = Err (record { code = NO_BODY; at = len })
part_with len f (octet ∷ rest) =
    Ok (record {
      start = if f.start then Yes else No;
      key = f.start && (octet % 2 == 0);
      layers = f.layers;
      body = octet ∷ rest;
    })

-- the part that the fields give, if the descriptor doesn't run past the end
abbrev pub part_of : ℕ → Option Fields → Result Part PartFault
part_of len None = Err (record { code = SHORT; at = len })
part_of len (Some f) = part_with len f f.body

abbrev pub read_part : List ℕ → Result Part PartFault
read_part payload = part_of (length payload) (fields payload)

-- VP8: a frame's bytes are the bodies of its parts, one after the other
abbrev pub vp8 : Meaning
vp8 = record { read = read_part; join = λ parts. Ok (flat_map (λ part. part.body) parts) }
