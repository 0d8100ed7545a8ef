-- The order of the steps makes no difference, if what they rebuild is right.
use Rattle.std.specs.Prelude.{◌≡◌, ℕ, List, [], ◌∷◌, Option, Some}
use Rattle.vrx_window.specs.Content.{Content}
use Rattle.vrx_window.specs.Window.{at}
use Rattle.vrx_repair.specs.Source.{Source}
use Rattle.vrx_repair.specs.Step.{Packets, IsClosed, step, with_repair, with_repairs}

-- each of these is the step of some number once those before it were made, whichever it is
abbrev pub AreSteps : Source → Option ℕ → List ℕ → Packets → List (ℕ × Content) → Type 0
AreSteps source newest dead packets [] = Unit {0}
AreSteps source newest dead packets (repair ∷ repairs) =
    ((m : ℕ) × (step source newest dead packets m ≡ Some repair))
    × AreSteps source newest dead (with_repair repair packets) repairs

-- each packet is what is right under its number, by a function that says it of each number
abbrev pub AreRight : (ℕ → Option Content) → Packets → Type 0
AreRight right packets = (n : ℕ) (x : Content) → at n packets ≡ Some x → right n ≡ Some x

-- steps from right packets are right
abbrev pub StepsAreRight : (ℕ → Option Content) → Source → Option ℕ → List ℕ → Type 0
StepsAreRight right source newest dead = (packets : Packets) (m : ℕ) (repair : ℕ × Content) →
    AreRight right packets → step source newest dead packets m ≡ Some repair → right repair.0 ≡ Some repair.1

-- the same stands under each number
abbrev pub AreAlike : Packets → Packets → Type 0
AreAlike some others = (n : ℕ) → at n some ≡ at n others

-- If the packets are right, and steps from right packets are: whatever steps are made until none is left, the same
-- packets are available in the end.
abbrev pub AnyOrder : Type 0
AnyOrder = (right : ℕ → Option Content) (source : Source) (newest : Option ℕ) (dead : List ℕ) →
    StepsAreRight right source newest dead →
    (packets : Packets) (made others : List (ℕ × Content)) → AreRight right packets →
    AreSteps source newest dead packets made → IsClosed source newest dead (with_repairs made packets) →
    AreSteps source newest dead packets others → IsClosed source newest dead (with_repairs others packets) →
    AreAlike (with_repairs made packets) (with_repairs others packets)
