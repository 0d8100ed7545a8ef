-- How the units of an aggregate go on, one after another. These are proofs: a reader need believe none of this.
use Rattle.std.proofs.Common.{◌≡◌, ℕ, zero, suc, ◌+◌, ◌*◌, ◌≤◌, List, [], ◌∷◌, length, Option, None, Some, IfSome, refl, sym, ap, ◌∙◌, arith, length-take, length-drop}
use Rattle.std.proofs.lemmas.Bool.Decides.{nat_tests}
use Rattle.vrx_codec.specs.declared.fault.PartFault.{PartFault}
use Rattle.vrx_h264.specs.Aggregate.{sized_fault, unit_if, first_unit, Units, units_with, units_within, units_of}

-- a unit, and the octets after it, of so many octets
abbrev pub Splits : ℕ → List ℕ × List ℕ → Type 0
Splits len x = length x.0 + length x.1 ≡ len

-- if nothing is wrong the unit fits
pub sized_fits : (at size : ℕ) (octets : List ℕ) → sized_fault at size octets ≡ None → size ≤ length octets
sized_fits at size octets none = grind (arith, nat_tests)

unit_splits : (fault : Option PartFault) (size : ℕ) (octets : List ℕ) → (fault ≡ None → size ≤ length octets) →
    IfSome (unit_if fault size octets) (Splits (length octets))
unit_splits (Some fault) size octets fits = tt
unit_splits None size octets fits = omega (arith, fits refl, length-take size octets, length-drop size octets)

-- a unit and what is after it are two octets fewer than all
abbrev pub SplitsSized : ℕ → List ℕ × List ℕ → Type 0
SplitsSized len x = length x.0 + length x.1 + 2 ≡ len

two_more : (len : ℕ) (o : Option (List ℕ × List ℕ)) → IfSome o (Splits len) → IfSome o (SplitsSized (suc (suc len)))
two_more len None is = tt
two_more len (Some x) is = omega (arith, is)

pub first_unit_splits : (octets : List ℕ) → IfSome (first_unit octets) (SplitsSized (length octets))
first_unit_splits [] = tt
first_unit_splits (high ∷ []) = tt
first_unit_splits (high ∷ low ∷ octets) =
    let size : ℕ = high * 256 + low in
    two_more (length octets) (first_unit (high ∷ low ∷ octets))
    (unit_splits (sized_fault 0 size octets) size octets (sized_fits 0 size octets))

same_units : (u : List ℕ) (a b : Units) → a ≡ b →
    ◌≡◌ {A = Units} (record { units = u ∷ a.units; left = a.left }) (record { units = u ∷ b.units; left = b.left })
same_units u a b same = ap (λ (x : Units). let y : Units = record { units = u ∷ x.units; left = x.left } in y) same

shorter : (m : ℕ) (octets : List ℕ) → length octets ≤ suc m → (o : Option (List ℕ × List ℕ)) →
    IfSome o (SplitsSized (length octets)) → IfSome o (λ x. length x.1 ≤ m)
shorter m octets fits None is = tt
shorter m octets fits (Some x) is = omega (arith, is)

same_with_shorter : (octets : List ℕ) (n m : ℕ) (o : Option (List ℕ × List ℕ)) (f g : List ℕ → Units) →
    IfSome o (λ x. length x.1 ≤ n) → IfSome o (λ x. length x.1 ≤ m) →
    ((b : List ℕ) → length b ≤ n → length b ≤ m → f b ≡ g b) → units_with octets o f ≡ units_with octets o g
same_with_shorter octets n m None f g is_n is_m same = refl
same_with_shorter octets n m (Some (u, b)) f g is_n is_m same = same_units u (f b) (g b) (same b is_n is_m)

-- as many as there are octets are enough
enough : (n m : ℕ) (octets : List ℕ) → length octets ≤ n → length octets ≤ m →
    units_within n octets ≡ units_within m octets
enough zero zero octets fits_n fits_m = refl
enough zero (suc m) [] fits_n fits_m = refl
enough zero (suc m) (o ∷ octets) fits_n fits_m = absurd (omega arith)
enough (suc n) zero [] fits_n fits_m = refl
enough (suc n) zero (o ∷ octets) fits_n fits_m = absurd (omega arith)
enough (suc n) (suc m) octets fits_n fits_m =
    same_with_shorter octets n m (first_unit octets) (units_within n) (units_within m)
    (shorter n octets fits_n (first_unit octets) (first_unit_splits octets))
    (shorter m octets fits_m (first_unit octets) (first_unit_splits octets))
    (λ b b_n b_m. enough n m b b_n b_m)

-- the units of octets are the one at the front and those of the octets after it
pub units_of-next : (octets : List ℕ) → units_of octets ≡ units_with octets (first_unit octets) units_of
unfolding units_of
units_of-next [] = refl
units_of-next (o ∷ octets) =
    same_with_shorter (o ∷ octets) (length octets) (length octets) (first_unit (o ∷ octets))
    (units_within (length octets)) units_of
    (shorter (length octets) (o ∷ octets) (omega arith) (first_unit (o ∷ octets)) (first_unit_splits (o ∷ octets)))
    (shorter (length octets) (o ∷ octets) (omega arith) (first_unit (o ∷ octets)) (first_unit_splits (o ∷ octets)))
    (λ b b_n b_m. enough (length octets) (length b) b b_n (omega arith))

-- the same, by what is at the front
pub units_of-some : (octets u b : List ℕ) → Some (u, b) ≡ first_unit octets →
    units_of octets ≡ record { units = u ∷ (units_of b).units; left = (units_of b).left }
units_of-some octets u b some = units_of-next octets ∙ ap (λ o. units_with octets o units_of) (sym some)

pub units_of-none : (octets : List ℕ) → None ≡ first_unit octets →
    units_of octets ≡ record { units = []; left = octets }
units_of-none octets none = units_of-next octets ∙ ap (λ o. units_with octets o units_of) (sym none)
