-- A run stays one if what lies under its numbers and its starts stay.
use Rattle.std.proofs.Common.{◌≡◌, ◌↔◌, ℕ, ◌+◌, ◌-◌, ◌<◌, ◌≤◌, ◌⊎◌, Bool, true, false, not, ◌||◌, List, [], ◌∷◌, length, Contains, Option, Some, None, is_some, refl, sym, ◌∙◌, ap, subst, arith, inl, inr}
use Rattle.std.specs.Prelude.{nat_le}
use Rattle.std.specs.List.{AllByRecursion, filter}
use Rattle.std.specs.Option.{option_map_or}
use Rattle.std.specs.Ordering.{nat_cmp}
use Rattle.std.specs.FinMap.Entries.{is_sorted}
use Rattle.std.proofs.lemmas.Bool.{cases_order, lt-leb, leb-false, and_from}
use Rattle.std.proofs.lemmas.List.Elements.{All-from_recursion, recursion_from_All}
use Rattle.vrx_codec.specs.Meaning.{Meaning}
use Rattle.vrx_codec.specs.declared.run.Place.{Place}
use Rattle.vrx_window.specs.Content.{Content, Media}
use Rattle.vrx_window.specs.Window.{at, is_available}
use Rattle.vrx_frames.specs.Front.{is_no_media}
use Rattle.vrx_frames.specs.IsRun.{ArePieces, IsPiece, IsRunBy, RunsAre, RunsRise}
use Rattle.vrx_frames.specs.Run.{Packets, Piece, Run, begins, ends_frame, is_passed, is_start, runs_by, stands, stands_after_end}
use Rattle.vrx_frames.specs.Completed.{IsUpTo}
use Rattle.vrx_core.proofs.relation.ListLemmas.{Rises, filter-from, filter-to, rises-filter, rises-from, same-lists}

-- a number is the first, or later
pub first_or_later : (n m : ℕ) → n ≤ m → (n ≡ m) ⊎ (n + 1 ≤ m)
first_or_later n m upto =
    elim (cases_order n m) [
      | inl same ↦ inl same
      | inr other ↦ elim other [ inl less ↦ inr (omega arith) | inr more ↦ absurd (omega arith) ]
    ]

module _ (codec : Meaning) where
  -- if the same stands under a number, its piece is the same
  pub piece-moves : (packets packets' : Packets) (n : ℕ) (piece : Piece) → at n packets ≡ at n packets' →
      IsPiece codec packets n piece → IsPiece codec packets' n piece
  piece-moves packets packets' n piece same is =
      record {
        number = is.number;
        text = is.text;
        media = sym same ∙ is.media;
        reads = is.reads;
        part_reads = is.part_reads;
      }

  -- a piece is available
  pub piece-available : (packets : Packets) (n : ℕ) (piece : Piece) → IsPiece codec packets n piece →
      is_available n packets ≡ true
  piece-available packets n piece is = ap is_some is.media

  -- the piece of a number among pieces of which a fact holds
  pub record Held (packets : Packets) (P : Piece → Type 0) (m : ℕ) : Type 0 where
    pub piece : Piece
    pub is : IsPiece codec packets m piece
    pub holds : P piece

  -- among the pieces of a stretch
  piece-among : (packets : Packets) (P : Piece → Type 0) (n m : ℕ) (ps : List Piece) → ArePieces codec packets n ps →
      AllByRecursion P ps → n ≤ m → m < n + length ps → Held packets P m
  piece-among packets P n m [] are all from below = absurd (omega arith)
  piece-among packets P n m (p ∷ ps) are all from below = elim (first_or_later n m from) [
    | inl same ↦ record { piece = p; is = subst (λ k. IsPiece codec packets k p) same are.0; holds = all.0 }
    | inr later ↦ piece-among packets P (n + 1) m ps are.1 all.1 later (omega arith)
  ]

  -- each number of a run has its piece: the last has the marker
  pub piece-in : (place : ℕ → Option Place) (starts : Piece → Bool) (packets : Packets) (run : Run) (n : ℕ) →
      IsRunBy codec place starts packets run → run.first ≤ n → n ≤ run.last
      → Held packets (λ p. (p.packet.marker ≡ true) ↔ (p.number ≡ run.last)) n
  piece-in place starts packets run n r from upto =
      let size : run.first + length r.pieces ≡ run.last + 1 = r.to_last in
      piece-among packets (λ p. (p.packet.marker ≡ true) ↔ (p.number ≡ run.last)) run.first n r.pieces r.from_first
      (recursion_from_All _ r.pieces r.marker) from (omega arith)

  -- each number of a run is available, and media
  pub run-available : (place : ℕ → Option Place) (starts : Piece → Bool) (packets : Packets) (run : Run) (n : ℕ) →
      IsRunBy codec place starts packets run → run.first ≤ n → n ≤ run.last
      → is_available n packets ≡ true
  run-available place starts packets run n r from upto = let p =
      piece-in place starts packets run n r from upto in piece-available packets n p.piece p.is

  -- the last number of a run ends a frame
  pub last-ends : (place : ℕ → Option Place) (starts : Piece → Bool) (packets : Packets) (run : Run) →
      IsRunBy codec place starts packets run → option_map_or ends_frame (at run.last packets) false ≡ true
  last-ends place starts packets run r =
      let p : Held packets (λ p. (p.packet.marker ≡ true) ↔ (p.number ≡ run.last)) run.last =
      piece-in place starts packets run run.last r r.not_empty (omega arith) in
      ap (λ o. option_map_or ends_frame o false) p.is.media
      ∙ ap (λ o. option_map_or (λ packet. packet.marker) o false) p.is.reads ∙ p.holds.1 p.is.number

  -- what is media isn't no media
  pub piece-media : (packets : Packets) (n : ℕ) (piece : Piece) (content : Content) → IsPiece codec packets n piece →
      at n packets ≡ Some content → is_no_media content ≡ true → ⊥
  piece-media packets n piece content is there none =
      let e : Some (Media is.text) ≡ Some content = sym is.media ∙ there in
      let same : Media is.text ≡ content = cc in
      let f : is_no_media (Media is.text) ≡ true = ap is_no_media same ∙ none in absurd (cc)

  module _ (place : ℕ → Option Place) (starts starts' : Piece → Bool) (packets packets' : Packets) (run : Run) where
    -- the pieces of a run, and their starts, elsewhere
    abbrev Moves : Type 0
    Moves = (n : ℕ) (piece : Piece) → run.first ≤ n → n ≤ run.last → IsPiece codec packets n piece →
        IsPiece codec packets' n piece × (starts piece ≡ starts' piece)

    -- a piece is a start exactly if it is the first
    abbrev Starts : (Piece → Bool) → Piece → Type 0
    Starts test piece = (test piece ≡ true) ↔ (piece.number ≡ run.first)

    -- pieces and starts, from a number on
    moved : (n : ℕ) (ps : List Piece) → Moves → run.first ≤ n → n + length ps ≡ run.last + 1 →
        ArePieces codec packets n ps → AllByRecursion (Starts starts) ps
        → ArePieces codec packets' n ps × AllByRecursion (Starts starts') ps
    moved n [] moves from size are all = (tt, tt)
    moved n (p ∷ ps) moves from size are all =
        let here : IsPiece codec packets' n p × (starts p ≡ starts' p) = moves n p from (omega arith) are.0 in
        let rest : ArePieces codec packets' (n + 1) ps × AllByRecursion (Starts starts') ps =
        moved (n + 1) ps moves (omega arith) (omega arith) are.1 all.1 in
        ((here.0, rest.0), ((λ s. all.0.0 (here.1 ∙ s), λ e. sym here.1 ∙ all.0.1 e), rest.1))

    -- a run whose pieces stay, and of whose pieces each is a start as before, is a run there too
    pub run-moves : IsRunBy codec place starts packets run → Moves → IsRunBy codec place starts' packets' run
    run-moves r moves =
        let there : ArePieces codec packets' run.first r.pieces × AllByRecursion (Starts starts') r.pieces =
        moved run.first r.pieces moves (omega arith) r.to_last r.from_first
        (recursion_from_All _ r.pieces r.start) in
        record {
          pieces = r.pieces;
          from_first = there.0;
          to_last = r.to_last;
          not_empty = r.not_empty;
          ts = r.ts;
          start = All-from_recursion (Starts starts') r.pieces there.1;
          marker = r.marker;
          key = r.key;
          layers = r.layers;
          joins = r.joins;
        }

-- the runs that stand beyond a number
abbrev pub standing-by : Meaning → (ℕ → Option Place) → Option ℕ → (Piece → Bool) → Packets → List Run
standing-by codec place passed starts packets = filter (stands passed) (runs_by codec place starts packets)

module _ (are : RunsAre) (codec : Meaning) (place : ℕ → Option Place) (passed : Option ℕ) (starts : Piece → Bool)
    (packets : Packets) where
  -- a run that stands is one by its conditions, and lies beyond the number
  pub standing-from : (run : Run) → Contains (standing-by codec place passed starts packets) run →
      IsRunBy codec place starts packets run × (stands passed run ≡ true)
  standing-from run there =
      let p : Contains (runs_by codec place starts packets) run × (stands passed run ≡ true) =
      filter-from (stands passed) (runs_by codec place starts packets) run there in
      ((are codec place starts packets run).0 p.0, p.1)

  -- and back
  pub standing-to : (run : Run) → IsRunBy codec place starts packets run → stands passed run ≡ true →
      Contains (standing-by codec place passed starts packets) run
  standing-to run r s =
      filter-to (stands passed) (runs_by codec place starts packets) run ((are codec place starts packets run).1 r) s

-- they rise by their first numbers
pub standing-rises : RunsRise →
    (codec : Meaning) (place : ℕ → Option Place) (passed : Option ℕ) (starts : Piece → Bool) (packets : Packets) →
    is_sorted nat_cmp packets ≡ true
    → Rises (λ (run : Run). run.first) (standing-by codec place passed starts packets)
standing-rises rise codec place passed starts packets sorted =
    rises-filter (λ (run : Run). run.first) (stands passed) (runs_by codec place starts packets)
    (rises-from (λ (run : Run). run.first) (runs_by codec place starts packets)
    (rise codec place starts packets sorted))

-- what holds of the runs that stand on one side holds on the other
abbrev pub Keeps : Meaning → (ℕ → Option Place) → (passed passed' : Option ℕ) → (starts starts' : Piece → Bool) →
    (packets packets' : Packets) → Type 0
Keeps codec place passed passed' starts starts' packets packets' = (run : Run) →
    IsRunBy codec place starts packets run → stands passed run ≡ true →
    IsRunBy codec place starts' packets' run × (stands passed' run ≡ true)

-- runs that stand on both sides alike are the same
pub standing-equal : RunsAre → RunsRise →
    (codec : Meaning) (place : ℕ → Option Place) (passed passed' : Option ℕ) (starts starts' : Piece → Bool)
    (packets packets' : Packets)
    → is_sorted nat_cmp packets ≡ true → is_sorted nat_cmp packets' ≡ true
    → Keeps codec place passed passed' starts starts' packets packets' →
    Keeps codec place passed' passed starts' starts packets' packets
    → standing-by codec place passed starts packets ≡ standing-by codec place passed' starts' packets'
standing-equal are rise codec place passed passed' starts starts' packets packets' sorted sorted' to back =
    same-lists (λ (run : Run). run.first) (standing-by codec place passed starts packets)
    (standing-by codec place passed' starts' packets')
    (standing-rises rise codec place passed starts packets sorted)
    (standing-rises rise codec place passed' starts' packets' sorted')
    (λ run there. let p = standing-from are codec place passed starts packets run there in let q = to run p.0 p.1 in
    standing-to are codec place passed' starts' packets' run q.0 q.1)
    (λ run there. let p = standing-from are codec place passed' starts' packets' run there in
    let q = back run p.0 p.1 in standing-to are codec place passed starts packets run q.0 q.1)

-- if numbers that are available have the same places, the same runs stand
pub standing-place : RunsAre → RunsRise →
    (codec : Meaning) (place place' : ℕ → Option Place) (passed : Option ℕ) (starts : Piece → Bool)
    (packets : Packets)
    → is_sorted nat_cmp packets ≡ true → ((n : ℕ) → is_available n packets ≡ true → place n ≡ place' n)
    → standing-by codec place passed starts packets ≡ standing-by codec place' passed starts packets
standing-place are rise codec place place' passed starts packets sorted same =
    same-lists (λ (run : Run). run.first) (standing-by codec place passed starts packets)
    (standing-by codec place' passed starts packets)
    (standing-rises rise codec place passed starts packets sorted)
    (standing-rises rise codec place' passed starts packets sorted)
    (λ run there. let p = standing-from are codec place passed starts packets run there in
    standing-to are codec place' passed starts packets run (moved-to place place' same run p.0) p.1)
    (λ run there. let p = standing-from are codec place' passed starts packets run there in
    standing-to are codec place passed starts packets run
    (moved-to place' place (λ n here. sym (same n here)) run p.0) p.1) where
      moved-to : (from to : ℕ → Option Place) → ((n : ℕ) → is_available n packets ≡ true → from n ≡ to n) →
          (run : Run) → IsRunBy codec from starts packets run → IsRunBy codec to starts packets run
      moved-to from to alike run r = record {
        pieces = r.pieces;
        from_first = r.from_first;
        to_last = r.to_last;
        not_empty = r.not_empty;
        ts = r.ts;
        start = r.start;
        marker = r.marker;
        key = r.key;
        layers = r.layers
            ∙ alike run.first
            (run-available codec from starts packets run run.first r (omega arith) r.not_empty);
        joins = r.joins;
      }

-- a run that stands begins beyond the number
pub stands-beyond : (front : ℕ) (run : Run) → stands (Some front) run ≡ true → front < run.first
stands-beyond front run h = beyond (nat_le run.first front) refl h where
  beyond : (b : Bool) → nat_le run.first front ≡ b → not b ≡ true → front < run.first
  beyond true upto s = absurd (cc)
  beyond false over s = leb-false run.first front over

-- and back
pub beyond-stands : (front : ℕ) (run : Run) → front < run.first → stands (Some front) run ≡ true
beyond-stands front run less = ap not (lt-leb run.first front less)

-- The same starts, once the front went on: of a number beyond the front, the number before is passed only by the new
-- front if it is that front, and then it ends a frame, or the front is the one before.
pub start-same : (codec : Meaning) (packets : Packets) (began : ℕ → Bool) (before : Option ℕ) (front n : ℕ)
    (piece : Piece)
    → ((m : ℕ) → stands_after_end m packets ≡ true → began m ≡ true) → IsUpTo before (Some front)
    → (before ≡ Some front) ⊎ (option_map_or ends_frame (at front packets) false ≡ true)
    → front < n → IsPiece codec packets n piece → is_start before began piece ≡ is_start (Some front) began piece
start-same codec packets began before front n piece behind upto ends beyond is = elim ends [
  | inl same ↦ ap (λ o. is_start o began piece) same
  | inr end ↦ elim (first_or_later (front + 1) n (omega arith)) [
    | inl next ↦
        let number : piece.number ≡ n = is.number in
        let before_is : front ≡ n - 1 = omega arith in
        let end' : option_map_or ends_frame (at (n - 1) packets) false ≡ true =
        subst (λ k. option_map_or ends_frame (at k packets) false ≡ true) before_is end in
        let stood : stands_after_end n packets ≡ true =
        and_from (is_available n packets) (option_map_or ends_frame (at (n - 1) packets) false)
        (piece-available codec packets n piece is) end' in
        let began_is : began piece.number ≡ true = ap began number ∙ behind n stood in
        ap (λ b. begins piece.part.start (is_passed before (piece.number - 1) || b)) began_is
        ∙ ap (λ b. begins piece.part.start b)
        (or_true (is_passed before (piece.number - 1)) (is_passed (Some front) (piece.number - 1)))
        ∙ sym (ap (λ b. begins piece.part.start (is_passed (Some front) (piece.number - 1) || b)) began_is)
    | inr later ↦
        let number : piece.number ≡ n = is.number in
        let far : front < piece.number - 1 = omega arith in
        ap (λ b. begins piece.part.start (b || began piece.number))
        (not_passed before upto far ∙ sym (lt-leb (piece.number - 1) front far))
  ]
] where
  or_true : (a b : Bool) → (a || true) ≡ (b || true)
  or_true true true = refl
  or_true true false = refl
  or_true false true = refl
  or_true false false = refl

  not_passed : (o : Option ℕ) → IsUpTo o (Some front) → front < piece.number - 1 →
      is_passed o (piece.number - 1) ≡ false
  not_passed None up far = refl
  not_passed (Some old) up far = lt-leb (piece.number - 1) old (let up' : old ≤ front = up in omega arith)
