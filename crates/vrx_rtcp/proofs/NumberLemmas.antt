-- Numbers at their places: what is read there is spelled so, and what is spelled so is read.
use Rattle.std.proofs.Common.{◌≡◌, ℕ, ◌+◌, ◌^◌, ◌<◌, ◌≤◌, List, ◌++◌, length, All, get_or, take, drop, refl, sym, ap, ◌∙◌, arith, inl, inr}
use Rattle.std.specs.Int.{Width, w32, w64, byte_len, from_be_bytes, to_be_bytes}
use Rattle.std.proofs.lemmas.Bool.{cases_lt}
use Rattle.std.proofs.lemmas.List.{take-append-drop, drop-drop, length-take, length-drop, get_or-drop, get_or-take, get_or_past}
use Rattle.std.proofs.lemmas.Nat.{be_bytes_4, be_bytes_8}

-- each is an octet, at every place
abbrev pub Octets : List ℕ → Type 0
Octets octets = (i : ℕ) → get_or octets i 0 < 256

pub Octets-drop : (n : ℕ) (octets : List ℕ) → Octets octets → Octets (drop n octets)
Octets-drop n octets fit i = rw get_or-drop (fit (n + i))

pub Octets-take : (n : ℕ) (octets : List ℕ) → Octets octets → Octets (take n octets)
Octets-take n octets fit i =
    elim (cases_lt i n) [
      | inl lt ↦ rw (get_or-take n octets i 0 lt) (fit i)
      | inr le ↦ rw (get_or_past (take n octets) i 0 (omega (arith, length-take n octets))) (omega arith)
    ]

-- a width whose numbers are spelled by octets, and read again
pub record IsWide (w : Width) (limit : ℕ) : Type 0 where
  pub back : (octets : List ℕ) → length octets ≡ byte_len w → Octets octets →
      to_be_bytes w (from_be_bytes w octets) ≡ octets
  pub below : (octets : List ℕ) → Octets octets → from_be_bytes w octets < limit

pub wide32 : IsWide w32 (2 ^ 32)
wide32 = record {
  back = λ octets len fit. be_bytes_4 octets _ len fit refl;
  below = λ octets fit. omega (arith, fit 0, fit 1, fit 2, fit 3);
}

pub wide64 : IsWide w64 (2 ^ 64)
wide64 = record {
  back = λ octets len fit. be_bytes_8 octets _ len fit refl;
  below = λ octets fit. omega (arith, fit 0, fit 1, fit 2, fit 3, fit 4, fit 5, fit 6, fit 7);
}

-- the octets from a place on are those of the number there, and the octets after it
pub drop-number : (w : Width) (limit : ℕ) (wide : IsWide w limit) (i : ℕ) (octets : List ℕ) → Octets octets →
    i + byte_len w ≤ length octets →
    drop i octets ≡ to_be_bytes w (from_be_bytes w (take (byte_len w) (drop i octets))) ++ drop
    (i + byte_len w) octets
drop-number w limit wide i octets fit room =
    let from_i = drop i octets in
    let cut : length (take (byte_len w) from_i) ≡ byte_len w =
    omega (arith, length-take (byte_len w) from_i, length-drop i octets) in
    let front =
    wide.back (take (byte_len w) from_i) cut (Octets-take (byte_len w) from_i (Octets-drop i octets fit)) in
    let behind = drop-drop (byte_len w) i octets in
    sym (take-append-drop (byte_len w) from_i)
    ∙ ap (λ (front : List ℕ). front ++ drop (byte_len w) from_i) (sym front)
    ∙ ap (λ (behind : List ℕ). to_be_bytes w (from_be_bytes w (take (byte_len w) from_i)) ++ behind) behind

-- and the number fits
pub number-below : (w : Width) (limit : ℕ) (wide : IsWide w limit) (i : ℕ) (octets : List ℕ) → Octets octets →
    from_be_bytes w (take (byte_len w) (drop i octets)) < limit
number-below w limit wide i octets fit =
    wide.below (take (byte_len w) (drop i octets))
    (Octets-take (byte_len w) (drop i octets) (Octets-drop i octets fit))

-- octets within the list are octets at every place
pub all_octets : (octets : List ℕ) → All (λ octet. octet < 256) octets → Octets octets
all_octets octets fit i =
    elim (cases_lt i (length octets)) [
      | inl lt ↦ fit i 0 lt
      | inr le ↦ rw (get_or_past octets i 0 le) (omega arith)
    ]
