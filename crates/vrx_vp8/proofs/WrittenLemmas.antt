-- What is written is read again.
use Rattle.std.proofs.Common.{◌≡◌, ℕ, ◌+◌, ◌*◌, ◌/◌, ◌%◌, ◌<◌, ◌==◌, if◌then◌else◌, Bool, true, false, List, [], ◌∷◌, length, Option, None, Some, IfSome, Ok, refl, ap, ◌∙◌, arith}
use Rattle.vrx_codec.specs.Joining.{FitsLayers}
use Rattle.vrx_codec.specs.declared.part.Layers.{Layers}
use Rattle.vrx_codec.specs.Octet.{bit}
use Rattle.vrx_vp8.specs.declared.bits.TheConstants.{BIT_X, BIT_I, BIT_L, BIT_T, BIT_M, BIT_Y}
use Rattle.vrx_vp8.specs.Descriptor.{read_part}
use Rattle.vrx_vp8.specs.Writing.{start_bit, written_payload, written_part}

-- the octet of M and the picture's high bits says M = 1
marked : (picture : ℕ) → picture < 32768 → bit BIT_M (BIT_M + picture / 256) ≡ true
marked picture fits = let one : (128 + picture / 256) / 128 % 2 ≡ 1 = omega arith in ap (λ n. n == 1) one

-- the octet of TID and Y says both
tid_again : (tid : ℕ) (sync : Bool) → (tid * 64 + (if sync then BIT_Y else 0)) / 64 ≡ tid
tid_again tid true = omega arith
tid_again tid false = omega arith

sync_again : (tid : ℕ) (sync : Bool) → bit BIT_Y (tid * 64 + (if sync then BIT_Y else 0)) ≡ sync
sync_again tid true = let one : (tid * 64 + 32) / 32 % 2 ≡ 1 = omega arith in ap (λ n. n == 1) one
sync_again tid false = let none : (tid * 64 + 0) / 32 % 2 ≡ 0 = omega arith in ap (λ n. n == 1) none

-- the same layers, field by field
same_layers : (layers : Layers) (picture tid : ℕ) (sync : Bool) → picture ≡ layers.picture → tid ≡ layers.tid →
    sync ≡ layers.sync → (let l : Layers = record { picture = picture; tl0 = layers.tl0; tid = tid; sync = sync } in
    l) ≡ layers
same_layers layers picture tid sync is_picture is_tid is_sync = rw is_picture (rw is_tid (rw is_sync refl))

-- the layers that two octets of a PictureID and the octet of TID and Y say
abbrev layers_in : ℕ → ℕ → ℕ → ℕ → Layers
layers_in high low tl0 tid =
    record { picture = high % 128 * 256 + low; tl0 = tl0; tid = tid / 64; sync = bit BIT_Y tid }

-- a descriptor of six octets reads so
read_six : (start : Bool) (high low tl0 tid octet : ℕ) (body : List ℕ) → bit BIT_M high ≡ true →
    read_part ((BIT_X + start_bit start) ∷ (BIT_I + BIT_L + BIT_T) ∷ high ∷ low ∷ tl0 ∷ tid ∷ octet ∷ body) ≡ Ok
    (written_part start (Some (layers_in high low tl0 tid)) (octet ∷ body))
read_six true high low tl0 tid octet body marked_is = rw marked_is refl
read_six false high low tl0 tid octet body marked_is = rw marked_is refl

-- written and read, by cases on what was to be written
pub read_part-written_payload : (start : Bool) (layers : Option Layers) (body : List ℕ) → 0 < length body →
    IfSome layers FitsLayers → read_part (written_payload start layers body) ≡ Ok (written_part start layers body)
read_part-written_payload start layers [] some fits = absurd (omega (arith, some))
read_part-written_payload true None (octet ∷ body) some fits = refl
read_part-written_payload false None (octet ∷ body) some fits = refl
read_part-written_payload start (Some layers) (octet ∷ body) some fits =
    let high : ℕ = BIT_M + layers.picture / 256 in
    let low : ℕ = layers.picture % 256 in
    let last : ℕ = layers.tid * 64 + (if layers.sync then BIT_Y else 0) in
    let is_picture : high % 128 * 256 + low ≡ layers.picture = omega (arith, fits.0) in
    read_six start high low layers.tl0 last octet body (marked layers.picture fits.0)
    ∙ ap (λ l. Ok (written_part start (Some l) (octet ∷ body)))
    (same_layers layers _ _ _ is_picture (tid_again layers.tid layers.sync) (sync_again layers.tid layers.sync))

-- what was written is read again, if it was written
pub written_again : (start : Bool) (layers : Option Layers) (body : List ℕ) → 0 < length body →
    IfSome layers FitsLayers → (octets : List ℕ) → octets ≡ written_payload start layers body →
    read_part octets ≡ Ok (written_part start layers body)
written_again start layers body some fits octets is =
    ap read_part is ∙ read_part-written_payload start layers body some fits
