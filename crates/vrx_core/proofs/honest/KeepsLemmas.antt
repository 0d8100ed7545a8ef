-- The packets that are available are those taken or repaired that the window still holds.
use Rattle.std.proofs.Common.{◌≡◌, ℕ, ◌+◌, ◌<◌, ◌≤◌, ◌⊎◌, true, List, [], ◌∷◌, map, Contains, Some, is_some, sym, ap, subst, arith, inl, inr}
use Rattle.vrx_num.specs.declared.limits.TheConstants.{WINDOW}
use Rattle.vrx_window.specs.Content.{Content}
use Rattle.vrx_window.specs.Window.{at, in_window, is_available, entries_with}
use Rattle.vrx_frames.specs.Run.{Packets}
use Rattle.vrx_core.specs.honest.Sender.{Sender}
use Rattle.vrx_core.specs.honest.HonestNetwork.{greatest}
use Rattle.vrx_core.specs.honest.Ready.{IsNumber}
use Rattle.vrx_core.proofs.machine.PacketLemmas.{placed_cases, placed_new, placed_old}
use Rattle.vrx_core.proofs.machine.AvailableLemmas.{order-window, window-order}
use Rattle.vrx_core.proofs.machine.MemberLemmas.{Contains-head, Contains-tail, Contains-either, Contains-empty}
use Rattle.vrx_core.proofs.relation.ListLemmas.{map-from, map-to}
use Rattle.vrx_core.proofs.relation.MapLemmas.{some-of}
use Rattle.vrx_core.proofs.honest.NumberLemmas.{IsNumberFrom, IsNumberFrom-oldest, IsNumber-grown, oldest}

-- what was taken isn't above the greatest
pub greatest-upto : (js : List ℕ) (i : ℕ) → Contains js i → i ≤ greatest js
greatest-upto [] i c = absurd (Contains-empty i c)
greatest-upto (j ∷ js) i c =
    elim (Contains-either j js i c) [
      | inl same ↦ omega arith
      | inr later ↦ let upto : i ≤ greatest js =
          greatest-upto js i later in omega arith
    ]

module _ (sender : Sender) where
  -- numbers are as far from each other as their packets
  pub number-near : (js : List ℕ) (i k n m d : ℕ) → IsNumber sender js i n → IsNumber sender js k m → m < n + d →
      k < i + d
  number-near [] i k n m d a b near = absurd a
  number-near (j ∷ js) i k n m d a b near =
      let c : IsNumberFrom sender (oldest j js) i n = IsNumberFrom-oldest sender j js i n a in
      let e : IsNumberFrom sender (oldest j js) k m = IsNumberFrom-oldest sender j js k m b in
      omega arith

  -- and back
  pub near-number : (js : List ℕ) (i k n m d : ℕ) → IsNumber sender js i n → IsNumber sender js k m → k < i + d →
      m < n + d
  near-number [] i k n m d a b near = absurd a
  near-number (j ∷ js) i k n m d a b near =
      let c : IsNumberFrom sender (oldest j js) i n = IsNumberFrom-oldest sender j js i n a in
      let e : IsNumberFrom sender (oldest j js) k m = IsNumberFrom-oldest sender j js k m b in
      omega arith

  -- a packet has one number
  pub one-number : (js : List ℕ) (i n m : ℕ) → IsNumber sender js i n → IsNumber sender js i m → n ≡ m
  one-number [] i n m a b = absurd a
  one-number (j ∷ js) i n m a b =
      let c : IsNumberFrom sender (oldest j js) i n = IsNumberFrom-oldest sender j js i n a in
      let e : IsNumberFrom sender (oldest j js) i m = IsNumberFrom-oldest sender j js i m b in
      omega arith

  -- a number is that of one packet
  pub one-place : (js : List ℕ) (i k n : ℕ) → IsNumber sender js i n → IsNumber sender js k n → i ≡ k
  one-place [] i k n a b = absurd a
  one-place (j ∷ js) i k n a b =
      let c : IsNumberFrom sender (oldest j js) i n = IsNumberFrom-oldest sender j js i n a in
      let e : IsNumberFrom sender (oldest j js) k n = IsNumberFrom-oldest sender j js k n b in
      omega arith

  -- if a packet was taken before, numbers were as they are
  pub number-before : (i : ℕ) (js : List ℕ) (k n : ℕ) → Contains js k → IsNumber sender (i ∷ js) k n →
      IsNumber sender js k n
  number-before i [] k n c is = absurd (Contains-empty k c)
  number-before i (j ∷ js) k n c is = is

-- Packet i was taken, or its number n was repaired: the numbers repaired so far are given.
abbrev pub Came : List ℕ → (ℕ → Type 0) → ℕ → ℕ → Type 0
Came js rep i n = Contains js i ⊎ rep n

-- the numbers available are those of the packets taken or repaired that lie fewer than 2,048 places below the greatest
-- taken; and a number that was repaired is that of a packet not above it
pub record Keeps (sender : Sender) (js : List ℕ) (rep : ℕ → Type 0) (packets : Packets) : Type 0 where
  pub from : (n : ℕ) → is_available n packets ≡ true →
      (i : ℕ) × Came js rep i n × IsNumber sender js i n × (greatest js < i + WINDOW)
  pub all : (i n : ℕ) → Came js rep i n → IsNumber sender js i n → greatest js < i + WINDOW →
      is_available n packets ≡ true
  pub upto : (n : ℕ) → rep n → (i : ℕ) × IsNumber sender js i n × (i ≤ greatest js)

module _ (sender : Sender) (js : List ℕ) (rep : ℕ → Type 0) (packets : Packets) (keeps : Keeps sender js rep packets)
    (i m n : ℕ) (content : Content) (number : IsNumber sender (i ∷ js) i n)
    (newest : IsNumber sender (i ∷ js) (greatest (i ∷ js)) m) (inside : m < n + WINDOW) where
  -- what came stays so
  came-on : (k q : ℕ) → Came js rep k q → Came (i ∷ js) rep k q
  came-on k q came = elim came [ inl taken ↦ inl (Contains-tail i js k taken) | inr repaired ↦ inr repaired ]

  -- what is available once packet i was taken
  after_placing-from : (q : ℕ) → is_available q (entries_with m n content packets) ≡ true →
      (k : ℕ) × Came (i ∷ js) rep k q × IsNumber sender (i ∷ js) k q × (greatest (i ∷ js) < k + WINDOW)
  after_placing-from q h = elim (placed_cases m n q content packets h) [
    | inl same ↦ (
      i,
      inl (Contains-head i js),
      subst (λ (x : ℕ). IsNumber sender (i ∷ js) i x) (sym same) number,
      number-near sender (i ∷ js) i (greatest (i ∷ js)) n m WINDOW number newest inside,
    )
    | inr old ↦
        let p : (k : ℕ) × Came js rep k q × IsNumber sender js k q × (greatest js < k + WINDOW) =
        keeps.from q old.1 in
        let is : IsNumber sender (i ∷ js) p.0 q = IsNumber-grown sender i js p.0 q p.2 in (
          p.0,
          came-on p.0 q p.1,
          is,
          number-near sender (i ∷ js) p.0 (greatest (i ∷ js)) q m WINDOW is newest (window-order m q old.0).0,
        )
  ]

  -- a packet that came before
  placed-before : (k q : ℕ) → Came js rep k q → k ≤ greatest js → IsNumber sender js k q →
      greatest (i ∷ js) < k + WINDOW → is_available q (entries_with m n content packets) ≡ true
  placed-before k q came upto was near =
      let is : IsNumber sender (i ∷ js) k q = IsNumber-grown sender i js k q was in
      let closer : greatest js < k + WINDOW = omega arith in
      let above : k < greatest (i ∷ js) + 1 = omega arith in
      let less : q < m + 1 = near-number sender (i ∷ js) (greatest (i ∷ js)) k m q 1 newest is above in
      let within : in_window m q ≡ true =
      order-window m q (near-number sender (i ∷ js) k (greatest (i ∷ js)) q m WINDOW is newest near)
      (omega arith) in
      placed_old m n q content packets within (keeps.all k q came was closer)

  -- every packet that came and lies near enough is available
  placed-all : (k q : ℕ) → Came (i ∷ js) rep k q → IsNumber sender (i ∷ js) k q → greatest (i ∷ js) < k + WINDOW →
      is_available q (entries_with m n content packets) ≡ true
  placed-all k q came is near = elim came [
    | inl taken ↦ elim (Contains-either i js k taken) [
      | inl same ↦ subst (λ (x : ℕ). is_available x (entries_with m n content packets) ≡ true)
          (one-number sender (i ∷ js) i n q number (subst (λ (x : ℕ). IsNumber sender (i ∷ js) x q) (sym same) is))
          (placed_new m n content packets)
      | inr later ↦ placed-before k q (inl later) (greatest-upto js k later) (number-before sender i js k q later is)
          near
    ]
    | inr repaired ↦
        let p : (j : ℕ) × IsNumber sender js j q × (j ≤ greatest js) = keeps.upto q repaired in
        let same : p.0 ≡ k =
        one-place sender (i ∷ js) p.0 k q (IsNumber-grown sender i js p.0 q p.1) is in
        placed-before k q (inr repaired) (subst (λ (x : ℕ). x ≤ greatest js) same p.2)
        (subst (λ (x : ℕ). IsNumber sender js x q) same p.1) near
  ]

  -- a number that was repaired
  placed-upto : (q : ℕ) → rep q → (k : ℕ) × IsNumber sender (i ∷ js) k q × (k ≤ greatest (i ∷ js))
  placed-upto q repaired =
      let p : (j : ℕ) × IsNumber sender js j q × (j ≤ greatest js) = keeps.upto q repaired in
      (p.0, IsNumber-grown sender i js p.0 q p.1, omega (arith, p.2))

  -- what is kept once packet i was taken
  pub placed-keeps : Keeps sender (i ∷ js) rep (entries_with m n content packets)
  placed-keeps = record { from = after_placing-from; all = placed-all; upto = placed-upto }

-- the numbers that were repaired, once these repairs were made
abbrev pub with_made : List (ℕ × Content) → (ℕ → Type 0) → ℕ → Type 0
with_made made rep n = Contains (map (λ repair. repair.0) made) n ⊎ rep n

-- the number of a packet not above the greatest of those taken, and in the window
pub record IsMadeAt (sender : Sender) (js : List ℕ) (repair : ℕ × Content) : Type 0 where
  pub place : ℕ
  pub numbered : IsNumber sender js place repair.0
  pub upto : place ≤ greatest js
  pub near : greatest js < place + WINDOW

module _ (sender : Sender) (js : List ℕ) (rep : ℕ → Type 0) (before after : Packets)
    (keeps : Keeps sender js rep before) (made : List (ℕ × Content))
    (from : (n : ℕ) (content : Content) → at n after ≡ Some content →
    (at n before ≡ Some content) ⊎ Contains made (n, content))
    (stays : (n : ℕ) (content : Content) → at n before ≡ Some content → at n after ≡ Some content)
    (here : (n : ℕ) (content : Content) → Contains made (n, content) → at n after ≡ Some content)
    (place_of : (repair : ℕ × Content) → Contains made repair → IsMadeAt sender js repair) where
  -- what is available after the repairs
  made-from : (n : ℕ) → is_available n after ≡ true →
      (i : ℕ) × Came js (with_made made rep) i n × IsNumber sender js i n × (greatest js < i + WINDOW)
  made-from n h =
      let c : (content : Content) × (at n after ≡ Some content) = some-of (at n after) h in
      elim (from n c.0 c.1) [
        | inl old ↦
            let p : (i : ℕ) × Came js rep i n × IsNumber sender js i n × (greatest js < i + WINDOW) =
            keeps.from n (ap is_some old) in
            (p.0, elim p.1 [ inl taken ↦ inl taken | inr repaired ↦ inr (inr repaired) ], p.2, p.3)
        | inr new ↦
            let p : IsMadeAt sender js (n, c.0) = place_of (n, c.0) new in (
              p.place,
              inr (inl (map-to (λ (repair : ℕ × Content). repair.0) made (n, c.0) new)),
              p.numbered,
              p.near,
            )
      ]

  -- what was available is so still
  still : (n : ℕ) → is_available n before ≡ true → is_available n after ≡ true
  still n h =
      let c : (content : Content) × (at n before ≡ Some content) = some-of (at n before) h in
      ap is_some (stays n c.0 c.1)

  -- a repair, by its number
  by_number : (n : ℕ) → Contains (map (λ repair. repair.0) made) n →
      (content : Content) × Contains made (n, content)
  by_number n among =
      let p = map-from (λ (repair : ℕ × Content). repair.0) made n among in
      (p.0.1, subst (λ (k : ℕ). Contains made (k, p.0.1)) p.2 p.1)

  made-all : (i n : ℕ) → Came js (with_made made rep) i n → IsNumber sender js i n → greatest js < i + WINDOW →
      is_available n after ≡ true
  made-all i n came is near = elim came [
    | inl taken ↦ still n (keeps.all i n (inl taken) is near)
    | inr repaired ↦ elim repaired [
      | inl new ↦ let c = by_number n new in ap is_some (here n c.0 c.1)
      | inr old ↦ still n (keeps.all i n (inr old) is near)
    ]
  ]

  made-upto : (n : ℕ) → with_made made rep n → (i : ℕ) × IsNumber sender js i n × (i ≤ greatest js)
  made-upto n repaired = elim repaired [
    | inl new ↦
        let c = by_number n new in
        let p : IsMadeAt sender js (n, c.0) = place_of (n, c.0) c.1 in
        (p.place, p.numbered, p.upto)
    | inr old ↦ keeps.upto n old
  ]

  -- what is kept once the repairs were made
  pub made-keeps : Keeps sender js (with_made made rep) after
  made-keeps = record { from = made-from; all = made-all; upto = made-upto }
