-- Runs don't overlap, and rise by their first numbers.
use Rattle.std.proofs.Common.{◌≡◌, ◌↔◌, ℕ, ◌+◌, ◌<◌, ◌≤◌, ◌⊎◌, Bool, true, List, [], ◌∷◌, ◌++◌, map, length, Contains, Option, Some, None, Less, Ordering, nat_cmp, is_lt, refl, sym, ◌∙◌, ap, subst, arith, inl, inr}
use Rattle.std.specs.List.{AllByRecursion, filter_map, flat_map, cons_option}
use Rattle.std.specs.Prelude.{Ok}
use Rattle.std.specs.Result.{result_ok}
use Rattle.std.specs.List.Sorted.{IsStrictlySortedBy}
use Rattle.std.specs.FinMap.Entries.{below_all, is_sorted}
use Rattle.std.proofs.lemmas.Bool.{and_parts, cases_order}
use Rattle.std.proofs.lemmas.Grind.{common_steps}
use Rattle.std.proofs.lemmas.Option.{same_Some}
use Rattle.std.proofs.lemmas.List.Elements.{recursion_from_All}
use Rattle.vrx_codec.specs.declared.run.Place.{Place}
use Rattle.vrx_codec.specs.Meaning.{Meaning}
use Rattle.vrx_frames.specs.Run.{Packets, Run, Piece}
use Rattle.vrx_frames.specs.IsRun.{IsPiece, ArePieces, IsRunBy, LiesIn, RunsApart, RunsRise}
use Rattle.vrx_frames.proofs.MapLemmas.{less_key}
use Rattle.vrx_frames.proofs.RunLemmas.{piece_at-to, same_run, same_test, first_or_later, between, between-from, between-ends}

module _ (codec : Meaning) (packets : Packets) where
  -- a number has one piece
  pub one_piece : (n : ℕ) (p q : Piece) → IsPiece codec packets n p → IsPiece codec packets n q → p ≡ q
  one_piece n p q a b = same_Some p q (sym (piece_at-to codec packets n p a) ∙ piece_at-to codec packets n q b)

  -- so many numbers have one list of pieces
  pub one_list : (n : ℕ) (ps qs : List Piece) → ArePieces codec packets n ps → ArePieces codec packets n qs →
      length ps ≡ length qs → ps ≡ qs
  one_list n [] [] a b size = refl
  one_list n [] (q ∷ qs) a b size = absurd (omega arith)
  one_list n (p ∷ ps) [] a b size = absurd (omega arith)
  one_list n (p ∷ ps) (q ∷ qs) a b size =
      ap (λ (x : Piece). x ∷ ps) (one_piece n p q a.0 b.0)
      ∙ ap (λ (xs : List Piece). q ∷ xs) (one_list (n + 1) ps qs a.1 b.1 (omega arith))

  -- the piece of a number among pieces of which a fact holds
  pub record Held (P : Piece → Type 0) (m : ℕ) : Type 0 where
    pub piece : Piece
    pub is : IsPiece codec packets m piece
    pub holds : P piece

  pub piece-among : (P : Piece → Type 0) (n m : ℕ) (ps : List Piece) → ArePieces codec packets n ps →
      AllByRecursion P ps → n ≤ m → m < n + length ps → Held P m
  piece-among P n m [] are all from below = absurd (omega arith)
  piece-among P n m (p ∷ ps) are all from below = elim (first_or_later n m from) [
    | inl same ↦ record { piece = p; is = subst (λ k. IsPiece codec packets k p) same are.0; holds = all.0 }
    | inr later ↦ piece-among P (n + 1) m ps are.1 all.1 later (omega arith)
  ]

module _ (codec : Meaning) (place : ℕ → Option Place) (starts : Piece → Bool) (packets : Packets) where
  abbrev pub IsIt : Run → Type 0
  IsIt run = IsRunBy codec place starts packets run

  -- the piece of a number in a run: whether it is a start, has the marker, and its timestamp
  abbrev pub Says : Run → Piece → Type 0
  Says run p = (p.packet.ts ≡ run.ts) × ((starts p ≡ true) ↔ (p.number ≡ run.first))
      × ((p.packet.marker ≡ true) ↔ (p.number ≡ run.last))

  all-says : (run : Run) (ps : List Piece) → AllByRecursion (λ p. p.packet.ts ≡ run.ts) ps →
      AllByRecursion (λ p. (starts p ≡ true) ↔ (p.number ≡ run.first)) ps →
      AllByRecursion (λ p. (p.packet.marker ≡ true) ↔ (p.number ≡ run.last)) ps → AllByRecursion (Says run) ps
  all-says run [] a b c = tt
  all-says run (p ∷ ps) a b c = ((a.0, b.0, c.0), all-says run ps a.1 b.1 c.1)

  pub piece-in : (run : Run) (n : ℕ) → IsIt run → LiesIn n run → Held codec packets (Says run) n
  piece-in run n r lies =
      let size : run.first + length r.pieces ≡ run.last + 1 = r.to_last in
      let from : run.first ≤ n = lies.0 in
      let upto : n ≤ run.last = lies.1 in
      piece-among codec packets (Says run) run.first n r.pieces r.from_first
      (all-says run r.pieces (recursion_from_All _ r.pieces r.ts) (recursion_from_All _ r.pieces r.start)
      (recursion_from_All _ r.pieces r.marker)) from (omega arith)

  -- a run that begins inside another begins with it
  first-upto : (a b : Run) → IsIt a → IsIt b → LiesIn b.first a → b.first ≤ b.last → b.first ≡ a.first
  first-upto a b r s lies some =
      let p : Held codec packets (Says a) b.first = piece-in a b.first r lies in
      let q : Held codec packets (Says b) b.first = piece-in b b.first s (omega arith, some) in
      let same : p.piece ≡ q.piece = one_piece codec packets b.first p.piece q.piece p.is q.is in
      let number : p.piece.number ≡ b.first = p.is.number in
      let number' : q.piece.number ≡ b.first = q.is.number in
      sym number ∙ p.holds.1.0 (ap starts same ∙ q.holds.1.1 number')

  -- a run that ends inside another ends with it
  last-upto : (a b : Run) → IsIt a → IsIt b → LiesIn b.last a → b.first ≤ b.last → b.last ≡ a.last
  last-upto a b r s lies some =
      let p : Held codec packets (Says a) b.last = piece-in a b.last r lies in
      let q : Held codec packets (Says b) b.last = piece-in b b.last s (some, omega arith) in
      let same : p.piece ≡ q.piece = one_piece codec packets b.last p.piece q.piece p.is q.is in
      let number : p.piece.number ≡ b.last = p.is.number in
      let number' : q.piece.number ≡ b.last = q.is.number in
      sym number ∙ p.holds.2.0 (ap (λ (x : Piece). x.packet.marker) same ∙ q.holds.2.1 number')

  same_first : (a b : Run) (n : ℕ) → IsIt a → IsIt b → LiesIn n a → LiesIn n b → a.first ≡ b.first
  same_first a b n r s x y =
      let a0 : a.first ≤ n = x.0 in let a1 : n ≤ a.last = x.1 in let b0 : b.first ≤ n = y.0 in let b1 : n ≤ b.last =
      y.1 in
      elim (cases_order a.first b.first) [
        | inl same ↦ same
        | inr other ↦ elim other [
          | inl less ↦ sym (first-upto a b r s (omega arith, omega arith) (omega arith))
          | inr more ↦ first-upto b a s r (omega arith, omega arith) (omega arith)
        ]
      ]

  same_last : (a b : Run) (n : ℕ) → IsIt a → IsIt b → LiesIn n a → LiesIn n b → a.last ≡ b.last
  same_last a b n r s x y =
      let a0 : a.first ≤ n = x.0 in let a1 : n ≤ a.last = x.1 in let b0 : b.first ≤ n = y.0 in let b1 : n ≤ b.last =
      y.1 in
      elim (cases_order a.last b.last) [
        | inl same ↦ same
        | inr other ↦ elim other [
          | inl less ↦ last-upto b a s r (omega arith, omega arith) (omega arith)
          | inr more ↦ sym (last-upto a b r s (omega arith, omega arith) (omega arith))
        ]
      ]

  -- an Ok has one value
  one_ok : (r : List Piece) (xs ys : List ℕ) → codec.join (map (λ p. p.part) r) ≡ Ok xs →
      codec.join (map (λ p. p.part) r) ≡ Ok ys → xs ≡ ys
  one_ok r xs ys a b = same_Some xs ys (ap result_ok (sym a ∙ b))

  apart-with : (a b : Run) (n : ℕ) → IsIt a → IsIt b → LiesIn n a → LiesIn n b → a.first ≡ b.first → a.last ≡ b.last →
      a ≡ b
  apart-with a b n r s x y first last =
      let p : Held codec packets (Says a) n = piece-in a n r x in
      let q : Held codec packets (Says b) n = piece-in b n s y in
      let same : p.piece ≡ q.piece = one_piece codec packets n p.piece q.piece p.is q.is in
      let size : a.first + length r.pieces ≡ a.last + 1 = r.to_last in
      let size' : b.first + length s.pieces ≡ b.last + 1 = s.to_last in
      let pieces : r.pieces ≡ s.pieces =
      one_list codec packets b.first r.pieces s.pieces
      (subst (λ k. ArePieces codec packets k r.pieces) first r.from_first) s.from_first (omega arith) in
      same_run a b first last
      (sym p.holds.0 ∙ ap (λ (z : Piece). z.packet.ts) same ∙ q.holds.0)
      (same_test a.key b.key (λ h.
      s.key.1 (subst (λ ps. (z : Piece) × Contains ps z × (z.part.key ≡ true)) pieces (r.key.0 h)))
      (λ h. r.key.1 (subst (λ ps. (z : Piece) × Contains ps z × (z.part.key ≡ true)) (sym pieces) (s.key.0 h))))
      (r.layers ∙ ap place first ∙ sym s.layers)
      (one_ok r.pieces a.bytes b.bytes r.joins (ap (λ ps. codec.join (map (λ z. z.part) ps)) pieces ∙ s.joins))

-- two runs with a common number are one
pub runs-apart : RunsApart
runs-apart codec place starts packets a b n r s x y =
    apart-with codec place starts packets a b n r s x y (same_first codec place starts packets a b n r s x y)
    (same_last codec place starts packets a b n r s x y)

-- numbers that rise
abbrev Rises : List ℕ → Type 0
Rises [] = Unit {0}
Rises (n ∷ ns) = AllByRecursion (λ m. n < m) ns × Rises ns

-- the keys of a sorted map rise
below-from : (x : ℕ) (es : Packets) → below_all nat_cmp x es ≡ true → AllByRecursion (λ m. x < m) (map (λ e. e.0) es)
below-from x [] h = tt
below-from x (e ∷ es) h =
    let p : (is_lt (nat_cmp x e.0) ≡ true) × (below_all nat_cmp x es ≡ true) =
    and_parts (is_lt (nat_cmp x e.0)) (below_all nat_cmp x es) h in
    (less_key x e.0 p.0, below-from x es p.1)

rises-from : (es : Packets) → is_sorted nat_cmp es ≡ true → Rises (map (λ e. e.0) es)
rises-from [] h = tt
rises-from (e ∷ es) h =
    let p : (below_all nat_cmp e.0 es ≡ true) × (is_sorted nat_cmp es ≡ true) =
    and_parts (below_all nat_cmp e.0 es) (is_sorted nat_cmp es) h in
    (below-from e.0 es p.0, rises-from es p.1)

module _ (codec : Meaning) (place : ℕ → Option Place) (starts : Piece → Bool) (packets : Packets) where
  abbrev to : ℕ → ℕ → Option Run
  to first last = between codec place starts packets first last

  -- the runs that begin with a number, of these last numbers: one or none
  abbrev One : ℕ → List ℕ → Type 0
  One n ls = (filter_map (to n) ls ≡ []) ⊎ ((run : Run) × (filter_map (to n) ls ≡ run ∷ []) × (run.first ≡ n))

  -- what lies between two numbers, has them
  ends-at : (n l : ℕ) (run : Run) → to n l ≡ Some run → (run.first ≡ n) × (run.last ≡ l)
  ends-at n l run is = between-ends codec place starts packets n l run is

  -- where there is a run to one number, there is none to another
  none-else : (n l m : ℕ) (run other : Run) → l < m → to n l ≡ Some run → to n m ≡ Some other → ⊥
  none-else n l m run other less is is' =
      let r : IsRunBy codec place starts packets run = between-from codec place starts packets n l run is in
      let s : IsRunBy codec place starts packets other = between-from codec place starts packets n m other is' in
      let e : (run.first ≡ n) × (run.last ≡ l) = ends-at n l run is in
      let e' : (other.first ≡ n) × (other.last ≡ m) = ends-at n m other is' in
      let some : run.first ≤ run.last = r.not_empty in
      let some' : other.first ≤ other.last = s.not_empty in
      let same : run ≡ other =
      runs-apart codec place starts packets run other n r s (omega arith, omega arith)
      (omega arith, omega arith) in
      let last : run.last ≡ other.last = ap (λ (x : Run). x.last) same in
      absurd (omega arith)

  none-later : (n l : ℕ) (run : Run) (ls : List ℕ) → to n l ≡ Some run → AllByRecursion (λ m. l < m) ls →
      filter_map (to n) ls ≡ []
  none-later n l run [] is all = refl
  none-later n l run (m ∷ ms) is all = either (to n m) refl (none-later n l run ms is all.1) where
    either : (o : Option Run) → to n m ≡ o → filter_map (to n) ms ≡ [] → filter_map (to n) (m ∷ ms) ≡ []
    either None none rest = ap (λ o. cons_option o (filter_map (to n) ms)) none ∙ rest
    either (Some other) is' rest = absurd (none-else n l m run other all.0 is is')

  one : (n : ℕ) (ls : List ℕ) → Rises ls → One n ls
  one n [] rises = inl refl
  one n (l ∷ ls) rises = either (to n l) refl (one n ls rises.1) where
    either : (o : Option Run) → to n l ≡ o → One n ls → One n (l ∷ ls)
    either None none rest = subst
        (λ (o : Option Run). (cons_option o (filter_map (to n) ls) ≡ [])
        ⊎ ((run : Run) × (cons_option o (filter_map (to n) ls) ≡ run ∷ []) × (run.first ≡ n))) (sym none) rest
    either (Some run) is rest =
        inr (
          run,
          ap (λ o. cons_option o (filter_map (to n) ls)) is
              ∙ ap (λ (rs : List Run). run ∷ rs) (none-later n l run ls is rises.0),
          (ends-at n l run is).0,
        )

  abbrev by_first : Run → Run → Ordering
  by_first a b = nat_cmp a.first b.first

  abbrev runs_from : List ℕ → List ℕ → List Run
  runs_from ls ns = flat_map (λ n. filter_map (to n) ls) ns

  less : (a b : ℕ) → a < b → nat_cmp a b ≡ Less
  less a b h = grind (arith, common_steps)

  -- the runs of greater numbers are greater
  above : (run : Run) (ls ns : List ℕ) → Rises ls → AllByRecursion (λ m. run.first < m) ns →
      AllByRecursion (λ other. by_first run other ≡ Less) (runs_from ls ns)
  above run ls [] rises all = tt
  above run ls (n ∷ ns) rises all = elim (one n ls rises) [
    | inl none ↦ subst (λ (rs : List Run).
        AllByRecursion (λ other. by_first run other ≡ Less) (rs ++ runs_from ls ns)) (sym none)
        (above run ls ns rises all.1)
    | inr some ↦ let first : some.0.first ≡ n = some.2 in let far : run.first < n = all.0 in
        subst (λ (rs : List Run). AllByRecursion (λ other. by_first run other ≡ Less) (rs ++ runs_from ls ns))
        (sym some.1) (less run.first some.0.first (omega arith), above run ls ns rises all.1)
  ]

  pub rise : (ls ns : List ℕ) → Rises ls → Rises ns → IsStrictlySortedBy by_first (runs_from ls ns)
  unfolding IsStrictlySortedBy
  rise ls [] a b = tt
  rise ls (n ∷ ns) a b = elim (one n ls a) [
    | inl none ↦ subst (λ (rs : List Run). IsStrictlySortedBy by_first (rs ++ runs_from ls ns)) (sym none)
        (rise ls ns a b.1)
    | inr some ↦ let first : some.0.first ≡ n = some.2 in
        subst (λ (rs : List Run). IsStrictlySortedBy by_first (rs ++ runs_from ls ns)) (sym some.1)
        (above some.0 ls ns a (subst (λ k. AllByRecursion (λ m. k < m) ns) (sym first) b.0), rise ls ns a b.1)
  ]

-- the runs rise
pub runs-rise : RunsRise
runs-rise codec place starts packets sorted =
    rise codec place starts packets (map (λ e. e.0) packets) (map (λ e. e.0) packets) (rises-from packets sorted)
    (rises-from packets sorted)
