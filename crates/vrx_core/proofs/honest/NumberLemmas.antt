-- The numbers by which the receiver knows the sender's packets.
use Rattle.std.proofs.Common.{◌≡◌, ℕ, ◌+◌, ◌-◌, ◌%◌, ◌<◌, ◌≤◌, max, List, [], ◌∷◌, Option, Some, sym, ap, subst, arith}
use Rattle.std.proofs.lemmas.Option.{same_Some}
use Rattle.vrx_num.specs.Extended.{Extends, GivesMeant, extended_number}
use Rattle.vrx_num.specs.declared.limits.TheConstants.{WINDOW, HALF_SPACE}
use Rattle.vrx_window.specs.Window.{newest_with}
use Rattle.vrx_core.specs.honest.Sender.{Sender, wire_of}
use Rattle.vrx_core.specs.honest.HonestNetwork.{IsNear, greatest}
use Rattle.vrx_core.specs.honest.HonestTaken.{IsNewestOf}
use Rattle.vrx_core.specs.honest.Ready.{IsNumber}

-- the packet that was taken first, of those taken (the newest first)
abbrev pub oldest : ℕ → List ℕ → ℕ
oldest j [] = j
oldest j (k ∷ js) = oldest k js

-- packet i has the number n if this packet was taken first
abbrev pub IsNumberFrom : Sender → ℕ → ℕ → ℕ → Type 0
IsNumberFrom sender first i n = n + first ≡ (wire_of sender first + 65536) + i

-- a packet's number, by the packet that was taken first
pub IsNumberFrom-oldest : (sender : Sender) (j : ℕ) (js : List ℕ) (i n : ℕ) → IsNumber sender (j ∷ js) i n →
    IsNumberFrom sender (oldest j js) i n
IsNumberFrom-oldest sender j [] i n is = is
IsNumberFrom-oldest sender j (k ∷ js) i n is = IsNumberFrom-oldest sender k js i n is

-- and back
pub IsNumber-from_oldest : (sender : Sender) (j : ℕ) (js : List ℕ) (i n : ℕ) → IsNumberFrom sender (oldest j js) i n →
    IsNumber sender (j ∷ js) i n
IsNumber-from_oldest sender j [] i n is = is
IsNumber-from_oldest sender j (k ∷ js) i n is = IsNumber-from_oldest sender k js i n is

-- numbers stay when one more packet is taken
pub IsNumber-grown : (sender : Sender) (k : ℕ) (js : List ℕ) (i n : ℕ) → IsNumber sender js i n →
    IsNumber sender (k ∷ js) i n
IsNumber-grown sender k [] i n is = absurd is
IsNumber-grown sender k (j ∷ js) i n is = is

-- a lesser number is that of an earlier packet
pub IsNumber-below : (sender : Sender) (js : List ℕ) (i k n m : ℕ) → IsNumber sender js i n → IsNumber sender js k m →
    n < m → i < k
IsNumber-below sender [] i k n m a b below = absurd a
IsNumber-below sender (j ∷ js) i k n m a b below =
    let c : IsNumberFrom sender (oldest j js) i n = IsNumberFrom-oldest sender j js i n a in
    let d : IsNumberFrom sender (oldest j js) k m = IsNumberFrom-oldest sender j js k m b in
    omega arith

-- a number that isn't greater is that of no later packet
pub IsNumber-upto : (sender : Sender) (js : List ℕ) (i k n m : ℕ) → IsNumber sender js i n → IsNumber sender js k m →
    n ≤ m → i ≤ k
IsNumber-upto sender [] i k n m a b upto = absurd a
IsNumber-upto sender (j ∷ js) i k n m a b upto =
    let c : IsNumberFrom sender (oldest j js) i n = IsNumberFrom-oldest sender j js i n a in
    let d : IsNumberFrom sender (oldest j js) k m = IsNumberFrom-oldest sender j js k m b in
    omega arith

-- the later of two packets has the greater of their numbers
max-number : (sender : Sender) (js : List ℕ) (i k n m : ℕ) → IsNumber sender js i n → IsNumber sender js k m →
    IsNumber sender js (max i k) (max m n)
max-number sender [] i k n m a b = absurd a
max-number sender (j ∷ js) i k n m a b =
    let c : IsNumberFrom sender (oldest j js) i n = IsNumberFrom-oldest sender j js i n a in
    let d : IsNumberFrom sender (oldest j js) k m = IsNumberFrom-oldest sender j js k m b in
    let e : IsNumberFrom sender (oldest j js) (max i k) (max m n) = omega arith in
    IsNumber-from_oldest sender j js (max i k) (max m n) e

-- the number nearer than half of the space is the one with the sender's constant
near-number : (begin first m g i n : ℕ) → 65536 ≤ m → m + first ≡ ((begin + first) % 65536 + 65536) + g →
    i ≤ g + HALF_SPACE → g ≤ i + HALF_SPACE → n % 65536 ≡ (begin + i) % 65536 → n < m + HALF_SPACE →
    m < n + HALF_SPACE → n + first ≡ ((begin + first) % 65536 + 65536) + i
near-number begin first m g i n from is ahead behind same not_far_ahead not_far_behind = omega arith

-- a wire number has 16 bits
pub wire_below : (sender : Sender) (i : ℕ) → wire_of sender i < 65536
wire_below sender i = omega arith

-- the number of a packet that is near those taken
pub near-is_number : (sender : Sender) (j : ℕ) (js : List ℕ) (m i n : ℕ) → 65536 ≤ m →
    IsNumber sender (j ∷ js) (greatest (j ∷ js)) m → IsNear i (j ∷ js) → Extends m (wire_of sender i) n →
    IsNumber sender (j ∷ js) i n
near-is_number sender j js m i n from is near extends =
    IsNumber-from_oldest sender j js i n
    (near-number sender.first_wire (oldest j js) m (greatest (j ∷ js)) i n from
    (IsNumberFrom-oldest sender j js (greatest (j ∷ js)) m is) near.0 near.1 extends.same extends.not_far_ahead
    extends.not_far_behind)

-- a packet that is taken has its number
pub taken-number : GivesMeant → (sender : Sender) (js : List ℕ) (newest : Option ℕ) (i n : ℕ) →
    IsNewestOf sender js newest → IsNear i js → extended_number newest (wire_of sender i) ≡ Some n →
    IsNumber sender (i ∷ js) i n
taken-number meant sender [] newest i n is near given =
    let e : n ≡ wire_of sender i + 65536 =
    sym (same_Some _ _ (subst (λ (o : Option ℕ). extended_number o (wire_of sender i) ≡ Some n) is given)) in
    omega arith
taken-number meant sender (j ∷ js) newest i n is near given =
    let e : extended_number (Some is.0) (wire_of sender i) ≡ Some n =
    subst (λ (o : Option ℕ). extended_number o (wire_of sender i) ≡ Some n) is.1 given in
    let f : HALF_SPACE ≤ is.0 = omega arith in
    near-is_number sender j js is.0 i n is.2 is.3 near ((meant is.0 (wire_of sender i) n f (wire_below sender i)).0 e)

-- and the newest number is again that of the greatest packet taken
pub taken-newest : GivesMeant → (sender : Sender) (js : List ℕ) (newest : Option ℕ) (i n : ℕ) →
    IsNewestOf sender js newest → IsNear i js → extended_number newest (wire_of sender i) ≡ Some n →
    IsNewestOf sender (i ∷ js) (Some (newest_with newest n))
taken-newest meant sender [] newest i n is near given =
    let e : n ≡ wire_of sender i + 65536 =
    sym (same_Some _ _ (subst (λ (o : Option ℕ). extended_number o (wire_of sender i) ≡ Some n) is given)) in
    let g : newest_with newest n ≡ n = ap (λ (o : Option ℕ). newest_with o n) is in
    (n, ap Some g, omega arith, omega arith)
taken-newest meant sender (j ∷ js) newest i n is near given =
    let here : IsNumber sender (j ∷ js) i n = taken-number meant sender (j ∷ js) newest i n is near given in
    let g : newest_with newest n ≡ max is.0 n = ap (λ (o : Option ℕ). newest_with o n) is.1 in
    (max is.0 n, ap Some g, omega arith, max-number sender (j ∷ js) i (greatest (j ∷ js)) n is.0 here is.3)

-- the number with the sender's constant is the one that the wire number means, less than half of the space away
number-extends : (begin first m g i : ℕ) → 65536 ≤ m → m + first ≡ ((begin + first) % 65536 + 65536) + g →
    i < g + HALF_SPACE → g < i + HALF_SPACE → Extends m ((begin + i) % 65536) ((m + i) - g)
number-extends begin first m g i from is ahead behind =
    record { same = omega arith; not_far_ahead = omega arith; not_far_behind = omega arith }

-- a packet in the window, and less than half of the space ahead, has a number that its wire number means
pub is_number-extends : (sender : Sender) (j : ℕ) (js : List ℕ) (m i : ℕ) → 65536 ≤ m →
    IsNumber sender (j ∷ js) (greatest (j ∷ js)) m → i < greatest (j ∷ js) + HALF_SPACE →
    greatest (j ∷ js) < i + WINDOW → (n : ℕ) × IsNumber sender (j ∷ js) i n × Extends m (wire_of sender i) n
is_number-extends sender j js m i from is ahead behind =
    let g : ℕ = greatest (j ∷ js) in
    let known : IsNumberFrom sender (oldest j js) g m = IsNumberFrom-oldest sender j js g m is in
    let here : IsNumberFrom sender (oldest j js) i ((m + i) - g) = omega arith in (
      (m + i) - g,
      IsNumber-from_oldest sender j js i ((m + i) - g) here,
      number-extends sender.first_wire (oldest j js) m g i from known ahead (omega arith),
    )
