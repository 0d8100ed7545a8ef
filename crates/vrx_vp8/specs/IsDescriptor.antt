-- The descriptor as a relation: which octets spell which fields (RFC 7741 4.2).
use Rattle.std.specs.Prelude.{◌≡◌, ℕ, ◌+◌, ◌*◌, ◌/◌, ◌%◌, Bool, true, false, ◌&&◌, ◌||◌, ◌==◌, if◌then◌else◌, List, [], ◌∷◌, ◌++◌, slice_get, slice_index, None, Some, IsSomeAnd}
use Rattle.vrx_codec.specs.Part.{Part}
use Rattle.vrx_codec.specs.declared.part.Start.TheVariants.{Yes}
use Rattle.vrx_codec.specs.Octet.{bit}
use Rattle.vrx_vp8.specs.declared.bits.TheConstants.{BIT_X, BIT_S, BIT_I, BIT_L, BIT_T, BIT_K, BIT_M, BIT_Y}
use Rattle.vrx_vp8.specs.Descriptor.{Fields}

-- one octet if a flag says that it comes, and else none
abbrev pub Comes : Bool → List ℕ → Type 0
Comes true octets = (octet : ℕ) × (octets ≡ octet ∷ [])
Comes false octets = octets ≡ []

-- the octet that came, or 0 if none did
abbrev pub octet_of : List ℕ → ℕ
octet_of octets = slice_index octets 0

-- The payload is the octets of the descriptor, of which each comes if a bit before it says so, and then the body. The
-- frame begins here if S = 1 and PID = 0. There are layers if the PictureID has M = 1, so 15 bits, and L and T are 1.
pub record IsDescriptor (payload : List ℕ) (f : Fields) : Type 0 where
  pub head : ℕ
  pub flags : List ℕ
  pub picture : List ℕ
  pub low : List ℕ
  pub tl0 : List ℕ
  pub tid : List ℕ
  pub spelled : payload ≡ head ∷ (flags ++ (picture ++ (low ++ (tl0 ++ (tid ++ f.body)))))
  pub x : Comes (bit BIT_X head) flags
  pub i : Comes (bit BIT_I (octet_of flags)) picture
  pub m : Comes (bit BIT_M (octet_of picture)) low
  pub l : Comes (bit BIT_L (octet_of flags)) tl0
  pub t_or_k : Comes (bit BIT_T (octet_of flags) || bit BIT_K (octet_of flags)) tid
  pub start : f.start ≡ (bit BIT_S head && (head % 8 == 0))
  pub layers : f.layers ≡ (
      if bit BIT_M (octet_of picture) && bit BIT_L (octet_of flags) && bit BIT_T (octet_of flags)
      then Some (record {
        picture = octet_of picture % 128 * 256 + octet_of low;
        tl0 = octet_of tl0;
        tid = octet_of tid / 64;
        sync = bit BIT_Y (octet_of tid);
      })
      else None)

-- the octets say layers: X, I, L and T are 1, and so is M: the PictureID has 15 bits
pub record SaysLayers (payload : List ℕ) (f : Fields) (d : IsDescriptor payload f) : Type 0 where
  pub x : bit BIT_X d.head ≡ true
  pub i : bit BIT_I (octet_of d.flags) ≡ true
  pub l : bit BIT_L (octet_of d.flags) ≡ true
  pub t : bit BIT_T (octet_of d.flags) ≡ true
  pub m : bit BIT_M (octet_of d.picture) ≡ true

-- a part says a keyframe: it is a start, and bit P of the frame's first octet, the least significant one, is 0 (RFC
-- 7741 4.3)
abbrev pub SaysKey : Part → Type 0
SaysKey part = (part.start ≡ Yes) × IsSomeAnd (slice_get part.body 0) (λ octet. octet % 2 ≡ 0)
