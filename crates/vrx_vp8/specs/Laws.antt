-- VP8 keeps the laws of a codec. These are proofs, which the `impl` names, and so they stand here: a reader need
-- believe none of this.
use Rattle.std.proofs.Common.{◌≡◌, ℕ, ◌+◌, ◌*◌, ◌%◌, ◌/◌, ◌<◌, ◌≤◌, ◌&&◌, ◌||◌, if◌then◌else◌, Bool, true, false, List, [], ◌∷◌, length, Option, None, Some, IfSome, Ok, IfOk, refl, ap, arith}
use Rattle.std.specs.List.{flat_map}
use Rattle.std.proofs.lemmas.List.Elements.{All-head, All-tail}
use Rattle.vrx_codec.specs.Part.{Part}
use Rattle.vrx_codec.specs.declared.part.Layers.{Layers}
use Rattle.vrx_codec.specs.Joining.{FitsLayers, IsWithin, join_from, with_octets, beginning}
use Rattle.vrx_num.specs.Octets.{AreOctets}
use Rattle.vrx_codec.specs.declared.join.Join.{Join}
use Rattle.vrx_codec.specs.Octet.{bit}
use Rattle.vrx_vp8.specs.declared.bits.TheConstants.{BIT_X, BIT_I, BIT_L, BIT_T, BIT_K, BIT_M, BIT_Y}
use Rattle.vrx_vp8.specs.Descriptor.{octet_if, Fields, fields_after, fields, part_with, part_of, vp8}
use Rattle.vrx_num.specs.OptionChain.{◌>>=◌}
use Rattle.vrx_vp8.specs.Joining.{joining}

-- from any state on, parts join to their bodies
joins_from : (parts : List Part) (state : Join) →
    join_from joining parts state ≡ Ok (flat_map (λ part. part.body) parts)
joins_from [] state = refl
joins_from (part ∷ parts) state = ap (with_octets part.body) (joins_from parts _)

pub vp8_joins : (parts : List Part) → join_from joining parts beginning ≡ vp8.join parts
vp8_joins parts = joins_from parts beginning

-- an octet, and at most so many octets after it
record Taken (most : ℕ) (x : ℕ × List ℕ) : Type 0 where
  octet : x.0 < 256
  rest : AreOctets x.1
  fits : length x.1 ≤ most

-- what is taken of octets is an octet, and no octets are added after it
takes : (most : ℕ) (flag : Bool) (rest : List ℕ) → AreOctets rest → length rest ≤ most →
    IfSome (octet_if flag rest) (Taken most)
takes most false rest are fits = record { octet = omega arith; rest = are; fits = fits }
takes most true [] are fits = tt
takes most true (octet ∷ rest) are fits =
    record {
      octet = All-head (λ octet. octet < 256) octet rest are;
      rest = All-tail (λ octet. octet < 256) octet rest are;
      fits = omega arith;
    }

-- what comes next, if there is a value of which a condition holds
next_holds : {A B : Type 0} (P : A → Type 0) (Q : B → Type 0) (o : Option A) (f : A → Option B) → IfSome o P →
    ((x : A) → P x → IfSome (f x) Q) → IfSome (o >>= f) Q
next_holds P Q None f is goes_on = tt
next_holds P Q (Some x) f is goes_on = goes_on x is

-- the fields that fit: at most so many octets follow them
record Fits (most : ℕ) (f : Fields) : Type 0 where
  layers : IfSome f.layers FitsLayers
  body : length f.body ≤ most

-- layers of octets fit
fit_layers : (b : Bool) (picture low tl0 tid : ℕ) (sync : Bool) → low < 256 → tid < 256 →
    IfSome (if b then Some (let l : Layers =
    record { picture = picture % 128 * 256 + low; tl0 = tl0; tid = tid / 64; sync = sync } in l) else None) FitsLayers
fit_layers false picture low tl0 tid sync is_low is_tid = tt
fit_layers true picture low tl0 tid sync is_low is_tid = (omega arith, omega arith)

behind_fit : (most head : ℕ) (flags : ℕ × List ℕ) → Taken most flags → IfSome (fields_after head flags) (Fits most)
behind_fit most head flags is =
    next_holds (Taken most) (Fits most) (octet_if (bit BIT_I flags.0) flags.1) _
    (takes most (bit BIT_I flags.0) flags.1 is.rest is.fits) (λ picture is_picture.
    next_holds (Taken most) (Fits most) (octet_if (bit BIT_M picture.0) picture.1) _
    (takes most (bit BIT_M picture.0) picture.1 is_picture.rest is_picture.fits) (λ low is_low.
    next_holds (Taken most) (Fits most) (octet_if (bit BIT_L flags.0) low.1) _
    (takes most (bit BIT_L flags.0) low.1 is_low.rest is_low.fits) (λ tl0 is_tl0.
    next_holds (Taken most) (Fits most) (octet_if (bit BIT_T flags.0 || bit BIT_K flags.0) tl0.1) _
    (takes most (bit BIT_T flags.0 || bit BIT_K flags.0) tl0.1 is_tl0.rest is_tl0.fits) (λ tid is_tid.
    record {
      layers = fit_layers (bit BIT_M picture.0 && bit BIT_L flags.0 && bit BIT_T flags.0) picture.0 low.0 tl0.0
          tid.0 (bit BIT_Y tid.0) is_low.octet is_tid.octet;
      body = is_tid.fits;
    }))))

fields_fit : (payload : List ℕ) → AreOctets payload → IfSome (fields payload) (Fits (length payload))
fields_fit payload are =
    let most : ℕ = length payload in
    next_holds (Taken most) (Fits most) (octet_if true payload) _ (takes most true payload are (omega arith))
    (λ head is_head.
    next_holds (Taken most) (Fits most) (octet_if (bit BIT_X head.0) head.1) _
    (takes most (bit BIT_X head.0) head.1 is_head.rest is_head.fits) (λ flags is_flags.
    behind_fit most head.0 flags is_flags))

-- a part of fields that fit is within the payload
with_fit : (payload : List ℕ) (len : ℕ) (f : Fields) (body : List ℕ) → Fits (length payload) f →
    length body ≤ length payload → IfOk (part_with len f body) (IsWithin payload)
with_fit payload len f [] is fits = tt
with_fit payload len f (octet ∷ rest) is fits = (fits, is.layers)

of_fit : (payload : List ℕ) (len : ℕ) (f : Option Fields) → IfSome f (Fits (length payload)) →
    IfOk (part_of len f) (IsWithin payload)
of_fit payload len None is = tt
of_fit payload len (Some f) is = with_fit payload len f f.body is is.body

pub vp8_within : (payload : List ℕ) → AreOctets payload → IfOk (vp8.read payload) (λ part. IsWithin payload part)
vp8_within payload are = of_fit payload (length payload) (fields payload) (fields_fit payload are)
