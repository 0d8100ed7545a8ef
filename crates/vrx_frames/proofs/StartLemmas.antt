-- Starts, by what is kept and by the passed numbers.
use Rattle.std.proofs.Common.{◌≡◌, ℕ, ◌-◌, Bool, true, false, ◌||◌, Option, Some, refl, sym, ap}
use Rattle.std.specs.Option.{option_map_or}
use Rattle.vrx_codec.specs.declared.part.Start.{Start}
use Rattle.vrx_codec.specs.declared.part.Start.TheVariants.{Yes, No, ByNeighbour}
use Rattle.vrx_frames.specs.Linked.{fact_with}
use Rattle.vrx_frames.specs.Run.{begins, is_passed}
use Rattle.vrx_frames.specs.declared.shape.Shape.{Shape}
use Rattle.vrx_frames.specs.declared.shape.Shape.TheVariants as shapes
use Rattle.vrx_frames.specs.declared.arrival.Fact.{Fact}

-- starts grow with what stands before them
pub begins-grows : (start : Start) (a b : Bool) → (a ≡ true → b ≡ true) → begins start a ≡ true →
    begins start b ≡ true
begins-grows Yes a b so h = refl
begins-grows No a b so h = h
begins-grows ByNeighbour a b so h = so h

-- whether a fact is a start
abbrev pub starts_of : Option Fact → Bool
starts_of o = option_map_or (λ fact. fact.starts) o false

-- what is kept of one shape is a fact by whether it is a start
pub same-start : (a b : Option ℕ) (n : ℕ) (x y : Bool) (shape : Shape) →
    starts_of (fact_with a n x shape) ≡ starts_of (fact_with b n y shape) →
    fact_with a n x shape ≡ fact_with b n y shape
same-start a b n x y (shapes.Media ts marker start) e =
    ap (λ s. Some (record { ts = ts; marker = marker; starts = s })) e
same-start a b n x y shapes.Other e = refl

-- starts grow with the passed numbers, and with what is remembered
pub fact-grows : (a b : Option ℕ) (n : ℕ) (x y : Bool) (shape : Shape) →
    ((is_passed a (n - 1) || x) ≡ true → (is_passed b (n - 1) || y) ≡ true) →
    starts_of (fact_with a n x shape) ≡ true → starts_of (fact_with b n y shape) ≡ true
fact-grows a b n x y (shapes.Media ts marker start) so h =
    begins-grows start (is_passed a (n - 1) || x) (is_passed b (n - 1) || y) so h
fact-grows a b n x y shapes.Other so h = h

-- two tests of which neither holds without the other
pub same-bool : (a b : Bool) → (a ≡ true → b ≡ true) → (b ≡ true → a ≡ true) → a ≡ b
same-bool true b x y = sym (x refl)
same-bool false true x y = y refl
same-bool false false x y = refl
