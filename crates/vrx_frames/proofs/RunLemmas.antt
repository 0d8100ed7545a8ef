-- The runs are just what the conditions say.
use Rattle.std.proofs.Common.{◌≡◌, ◌↔◌, ℕ, zero, suc, ◌+◌, ◌-◌, ◌<◌, ◌≤◌, ◌⊎◌, Bool, true, false, not, ◌&&◌, cond, List, [], ◌∷◌, map, length, Contains, Option, Some, None, is_some, Result, Ok, Err, option_map, refl, sym, ◌∙◌, ap, subst, arith, inl, inr}
use Rattle.std.specs.Prelude.{◌==◌}
use Rattle.std.specs.List.{AllByRecursion, list_all, list_any, filter_map}
use Rattle.std.specs.Result.{result_ok}
use Rattle.std.proofs.lemmas.Bool.{and_parts, and_from, or_cases, or_left, or_right, both_ways, not-true, not_from_false, false_from_ne_true, eqb-true, eq-eqb, cases_order}
use Rattle.std.proofs.lemmas.Option.{none-some, same_Some}
use Rattle.std.proofs.lemmas.List.Elements.{All-from_recursion, recursion_from_All}
use Rattle.vrx_rtp.specs.Packet.{Packet}
use Rattle.vrx_rtp.specs.Reading.{read}
use Rattle.vrx_codec.specs.Part.{Part}
use Rattle.vrx_codec.specs.declared.run.Place.{Place}
use Rattle.vrx_codec.specs.Meaning.{Meaning}
use Rattle.vrx_window.specs.Content.{Content, Media, Fec, Empty}
use Rattle.vrx_window.specs.Window.{at, is_available}
use Rattle.vrx_frames.specs.Run.{Packets, Run, Piece, text_of, piece_at, numbers_from, all_some, stretch, first_alone, last_alone, run_of, runs_by}
use Rattle.vrx_num.specs.OptionChain.{◌>>=◌}
use Rattle.vrx_frames.specs.IsRun.{IsPiece, ArePieces, IsRunBy, RunsAre}
use Rattle.vrx_frames.proofs.MapLemmas.{available_cases}
use Rattle.vrx_frames.proofs.MemberLemmas.{Contains-head, Contains-tail, Contains-either, Contains-empty, found_tail, flat_map-from, flat_map-to, filter_map-from, filter_map-to}

-- what a step gives comes from a value before it
pub bind-some : {A B : Type 0} (o : Option A) (f : A → Option B) (y : B) → (o >>= f) ≡ Some y →
    (x : A) × (o ≡ Some x) × (f x ≡ Some y)
bind-some None f y is = absurd (none-some y is)
bind-some (Some x) f y is = (x, refl, is)

-- a content with a text is media
pub text_of-some : (content : Content) (text : List ℕ) → text_of content ≡ Some text → content ≡ Media text
text_of-some (Media other) text is = ap Media (same_Some other text is)
text_of-some (Fec payload) text is = absurd (none-some text is)
text_of-some Empty text is = absurd (none-some text is)

-- a result with a value is an Ok
pub result_ok-some : {A E : Type 0} (r : Result A E) (x : A) → result_ok r ≡ Some x → r ≡ Ok x
result_ok-some (Ok y) x is = ap Ok (same_Some y x is)
result_ok-some (Err e) x is = absurd (none-some x is)

-- a number that is available is a key of the map
available-key : (packets : Packets) (n : ℕ) → is_available n packets ≡ true →
    Contains (map (λ entry. entry.0) packets) n
available-key [] n h = absurd (cc)
available-key (e ∷ es) n h = elim (available_cases n e es h) [
  | inl same ↦ subst (λ x. Contains (e.0 ∷ map (λ entry. entry.0) es) x) (sym same)
      (Contains-head e.0 (map (λ entry. entry.0) es))
  | inr later ↦ Contains-tail e.0 (map (λ entry. entry.0) es) n (available-key es n later)
]

-- the first number, or one after it
pub first_or_later : (n m : ℕ) → n ≤ m → (n ≡ m) ⊎ (n + 1 ≤ m)
first_or_later n m from =
    elim (cases_order n m) [
      | inl same ↦ inl same
      | inr other ↦ elim other [ inl less ↦ inr (omega arith) | inr more ↦ absurd (omega arith) ]
    ]

module _ (codec : Meaning) (packets : Packets) where
  -- the steps to a piece, from what is there
  abbrev from_packet : ℕ → Packet → Option Piece
  from_packet n packet =
      result_ok (codec.read packet.payload) >>= λ part. Some (record { number = n; packet = packet; part = part })

  -- the same from a content
  abbrev from_content : ℕ → Content → Option Piece
  from_content n content = text_of content >>= λ text. read text >>= from_packet n

  -- what the steps give is a piece
  steps_piece : (n : ℕ) (content : Content) (text : List ℕ) (packet : Packet) (part : Part) (piece : Piece) →
      at n packets ≡ Some content → text_of content ≡ Some text → read text ≡ Some packet →
      result_ok (codec.read packet.payload) ≡ Some part
      → Some (record { number = n; packet = packet; part = part }) ≡ Some piece → IsPiece codec packets n piece
  steps_piece n content text packet part piece found has_text reads part_reads made =
      subst (λ p. IsPiece codec packets n p) (same_Some _ piece made) (record {
        number = refl;
        text = text;
        media = found ∙ ap Some (text_of-some content text has_text);
        reads = reads;
        part_reads = result_ok-some (codec.read packet.payload) part part_reads;
      })

  -- the piece at a number is its packet, and what its payload says
  pub piece_at-from : (n : ℕ) (piece : Piece) → piece_at codec packets n ≡ Some piece → IsPiece codec packets n piece
  piece_at-from n piece is =
      let a : (content : Content) × (at n packets ≡ Some content) × (from_content n content ≡ Some piece) =
      bind-some (at n packets) (from_content n) piece is in
      let b : (text : List ℕ) × (text_of a.0 ≡ Some text) × ((read text >>= from_packet n) ≡ Some piece) =
      bind-some (text_of a.0) (λ text. read text >>= from_packet n) piece a.2 in
      let c : (packet : Packet) × (read b.0 ≡ Some packet) × (from_packet n packet ≡ Some piece) =
      bind-some (read b.0) (from_packet n) piece b.2 in
      let made : Part → Piece = λ part. record { number = n; packet = c.0; part = part } in
      let d : (part : Part) × (result_ok (codec.read c.0.payload) ≡ Some part) × (Some (made part) ≡ Some piece) =
      bind-some (result_ok (codec.read c.0.payload)) (λ part. Some (made part)) piece c.2 in
      steps_piece n a.0 b.0 c.0 d.0 piece a.1 b.1 c.1 d.1 d.2

  -- and back
  pub piece_at-to : (n : ℕ) (piece : Piece) → IsPiece codec packets n piece → piece_at codec packets n ≡ Some piece
  piece_at-to n piece p = ap (λ o. o >>= from_content n) p.media ∙ ap (λ o. o >>= from_packet n) p.reads
      ∙ ap (λ r. result_ok r >>= λ part. Some (made n part)) p.part_reads
      ∙ ap (λ k. Some (made k piece.part)) (sym p.number) where
        made : ℕ → Part → Piece
        made k part = record { number = k; packet = piece.packet; part = part }

  -- the pieces of so many numbers
  pub pieces-from : (n k : ℕ) (pieces : List Piece) →
      all_some (map (piece_at codec packets) (numbers_from n k)) ≡ Some pieces →
      ArePieces codec packets n pieces × (length pieces ≡ k)
  pieces-from n zero pieces is =
      subst (λ ps. ArePieces codec packets n ps × (length ps ≡ zero)) (same_Some [] pieces is) (tt, refl)
  pieces-from n (suc k) pieces is =
      let others : Option (List Piece) = all_some (map (piece_at codec packets) (numbers_from (n + 1) k)) in
      let a : (piece : Piece) × (piece_at codec packets n ≡ Some piece)
      × ((others >>= λ ps. Some (piece ∷ ps)) ≡ Some pieces) =
      bind-some (piece_at codec packets n) (λ piece. others >>= λ ps. Some (piece ∷ ps)) pieces is in
      let b : (ps : List Piece) × (others ≡ Some ps) × (Some (a.0 ∷ ps) ≡ Some pieces) =
      bind-some others (λ ps. Some (a.0 ∷ ps)) pieces a.2 in
      let rest : ArePieces codec packets (n + 1) b.0 × (length b.0 ≡ k) = pieces-from (n + 1) k b.0 b.1 in
      subst (λ ps. ArePieces codec packets n ps × (length ps ≡ suc k)) (same_Some (a.0 ∷ b.0) pieces b.2)
      ((piece_at-from n a.0 a.1, rest.0), ap suc rest.1)

  -- and back
  pub pieces-to : (n : ℕ) (pieces : List Piece) → ArePieces codec packets n pieces →
      all_some (map (piece_at codec packets) (numbers_from n (length pieces))) ≡ Some pieces
  pieces-to n [] are = refl
  pieces-to n (piece ∷ pieces) are =
      ap (λ o. o >>= λ p. all_some (map (piece_at codec packets) (numbers_from (n + 1) (length pieces))) >>= λ ps.
      Some (p ∷ ps)) (piece_at-to n piece are.0)
      ∙ ap (λ o. o >>= λ ps. Some (piece ∷ ps)) (pieces-to (n + 1) pieces are.1)

  -- each number of the pieces is available
  pub pieces-available : (n m : ℕ) (pieces : List Piece) → ArePieces codec packets n pieces → n ≤ m →
      m < n + length pieces → is_available m packets ≡ true
  pieces-available n m [] are from below = absurd (omega arith)
  pieces-available n m (piece ∷ pieces) are from below = elim (first_or_later n m from) [
    | inl same ↦ ap (λ k. is_available k packets) (sym same) ∙ ap is_some are.0.media
    | inr later ↦ pieces-available (n + 1) m pieces are.1 later (omega arith)
  ]

-- a test that holds of all of a list
list_all-from : {X : Type 0} (test : X → Bool) (xs : List X) → list_all test xs ≡ true →
    AllByRecursion (λ x. test x ≡ true) xs
list_all-from test [] h = tt
list_all-from test (x ∷ xs) h =
    ((and_parts (test x) (list_all test xs) h).0, list_all-from test xs (and_parts (test x) (list_all test xs) h).1)

-- and back
list_all-to : {X : Type 0} (test : X → Bool) (xs : List X) → AllByRecursion (λ x. test x ≡ true) xs →
    list_all test xs ≡ true
list_all-to test [] all = refl
list_all-to test (x ∷ xs) all = and_from (test x) (list_all test xs) all.0 (list_all-to test xs all.1)

-- a test that holds of some of a list
pub list_any-from : {X : Type 0} (test : X → Bool) (xs : List X) → list_any test xs ≡ true →
    (x : X) × Contains xs x × (test x ≡ true)
list_any-from test [] h = absurd (cc)
list_any-from test (x ∷ xs) h = elim (or_cases (test x) (list_any test xs) h) [
  | inl here ↦ (x, Contains-head x xs, here)
  | inr later ↦ found_tail (λ y. test y ≡ true) x xs (list_any-from test xs later)
]

-- and back
pub list_any-to : {X : Type 0} (test : X → Bool) (xs : List X) (x : X) → Contains xs x → test x ≡ true →
    list_any test xs ≡ true
list_any-to test [] x c h = absurd (Contains-empty x c)
list_any-to test (y ∷ xs) x c h = elim (Contains-either y xs x c) [
  | inl same ↦ or_left (test y) (list_any test xs) (ap test same ∙ h)
  | inr later ↦ or_right (test y) (list_any test xs) (list_any-to test xs x later h)
]

-- two tests that hold in the same case
pub same_test : (a b : Bool) → (a ≡ true → b ≡ true) → (b ≡ true → a ≡ true) → a ≡ b
same_test true b to from = sym (to refl)
same_test false true to from = from refl
same_test false false to from = refl

-- equal fields make equal runs
pub same_run : (a b : Run) → a.first ≡ b.first → a.last ≡ b.last → a.ts ≡ b.ts → a.key ≡ b.key → a.layers ≡ b.layers →
    a.bytes ≡ b.bytes → a ≡ b
same_run a b first last ts key layers bytes =
    ap (λ n. run_with n a.last a.ts a.key a.layers a.bytes) first
    ∙ ap (λ n. run_with b.first n a.ts a.key a.layers a.bytes) last
    ∙ ap (λ n. run_with b.first b.last n a.key a.layers a.bytes) ts
    ∙ ap (λ k. run_with b.first b.last b.ts k a.layers a.bytes) key
    ∙ ap (λ y. run_with b.first b.last b.ts b.key y a.bytes) layers
    ∙ ap (λ bs. run_with b.first b.last b.ts b.key b.layers bs) bytes where
      run_with : ℕ → ℕ → ℕ → Bool → Option Place → List ℕ → Run
      run_with f l t k y bs = record { first = f; last = l; ts = t; key = k; layers = y; bytes = bs }

module _ (codec : Meaning) (packets : Packets) (starts : Piece → Bool) where
  -- the packets after the first are no start
  later_starts : (first n : ℕ) (pieces : List Piece) → first < n → ArePieces codec packets n pieces →
      list_all (λ piece. not (starts piece)) pieces ≡ true →
      AllByRecursion (λ piece. (starts piece ≡ true) ↔ (piece.number ≡ first)) pieces
  later_starts first n [] less are h = tt
  later_starts first n (piece ∷ pieces) less are h =
      let both : (not (starts piece) ≡ true) × (list_all (λ p. not (starts p)) pieces ≡ true) =
      and_parts (not (starts piece)) (list_all (λ p. not (starts p)) pieces) h in (
        (
          λ s. absurd (both_ways (starts piece) (not-true (starts piece) both.0) s),
          λ same. let number : piece.number
              ≡ n = are.0.number in absurd (omega arith),
        ),
        later_starts first (n + 1) pieces (omega arith) are.1 both.1,
      )

  -- and back
  later_starts-to : (first n : ℕ) (pieces : List Piece) → first < n → ArePieces codec packets n pieces →
      AllByRecursion (λ piece. (starts piece ≡ true) ↔ (piece.number ≡ first)) pieces →
      list_all (λ piece. not (starts piece)) pieces ≡ true
  later_starts-to first n [] less are all = refl
  later_starts-to first n (piece ∷ pieces) less are all =
      and_from (not (starts piece)) (list_all (λ p. not (starts p)) pieces)
      (not_from_false (starts piece)
      (false_from_ne_true (starts piece)
      (λ s. let same : piece.number ≡ first = all.0.0 s in let number : piece.number ≡ n = are.0.number in
      absurd (omega arith))))
      (later_starts-to first (n + 1) pieces (omega arith) are.1 all.1)

  -- the last packet alone passes a test
  last-from : (test : Piece → Bool) (last n : ℕ) (piece : Piece) (pieces : List Piece) →
      n + length (piece ∷ pieces) ≡ last + 1 → ArePieces codec packets n (piece ∷ pieces) →
      last_alone test (piece ∷ pieces) ≡ true →
      AllByRecursion (λ p. (test p ≡ true) ↔ (p.number ≡ last)) (piece ∷ pieces)
  last-from test last n piece [] size are h =
      ((λ _. let number : piece.number ≡ n = are.0.number in omega arith, λ _. h), tt)
  last-from test last n piece (next ∷ pieces) size are h =
      let both : (not (test piece) ≡ true) × (last_alone test (next ∷ pieces) ≡ true) =
      and_parts (not (test piece)) (last_alone test (next ∷ pieces)) h in (
        (
          λ s. absurd (both_ways (test piece) (not-true (test piece) both.0) s),
          λ same. let number : piece.number ≡ n =
              are.0.number in absurd (omega arith),
        ),
        last-from test last (n + 1) next pieces (omega arith) are.1 both.1,
      )

  -- and back
  last-to : (test : Piece → Bool) (last n : ℕ) (piece : Piece) (pieces : List Piece) →
      n + length (piece ∷ pieces) ≡ last + 1 → ArePieces codec packets n (piece ∷ pieces) →
      AllByRecursion (λ p. (test p ≡ true) ↔ (p.number ≡ last)) (piece ∷ pieces) →
      last_alone test (piece ∷ pieces) ≡ true
  last-to test last n piece [] size are all = all.0.1 (let number : piece.number ≡ n = are.0.number in omega arith)
  last-to test last n piece (next ∷ pieces) size are all =
      and_from (not (test piece)) (last_alone test (next ∷ pieces))
      (not_from_false (test piece)
      (false_from_ne_true (test piece)
      (λ s. let same : piece.number ≡ last = all.0.0 s in let number : piece.number ≡ n = are.0.number in
      absurd (omega arith))))
      (last-to test last (n + 1) next pieces (omega arith) are.1 all.1)

-- timestamps that are one, as tests
same_ts-from : (ts : ℕ) (pieces : List Piece) → list_all (λ p. p.packet.ts == ts) pieces ≡ true →
    AllByRecursion (λ p. p.packet.ts ≡ ts) pieces
same_ts-from ts [] h = tt
same_ts-from ts (piece ∷ pieces) h =
    let both : ((piece.packet.ts == ts) ≡ true) × (list_all (λ p. p.packet.ts == ts) pieces ≡ true) =
    and_parts (piece.packet.ts == ts) (list_all (λ p. p.packet.ts == ts) pieces) h in
    (eqb-true piece.packet.ts ts both.0, same_ts-from ts pieces both.1)

-- and back
same_ts-to : (ts : ℕ) (pieces : List Piece) → AllByRecursion (λ p. p.packet.ts ≡ ts) pieces →
    list_all (λ p. p.packet.ts == ts) pieces ≡ true
same_ts-to ts [] all = refl
same_ts-to ts (piece ∷ pieces) all =
    and_from (piece.packet.ts == ts) (list_all (λ p. p.packet.ts == ts) pieces) (eq-eqb piece.packet.ts ts all.0)
    (same_ts-to ts pieces all.1)

-- a mapped value comes from one
pub option_map-some : {A B : Type 0} (f : A → B) (o : Option A) (y : B) → option_map f o ≡ Some y →
    (x : A) × (o ≡ Some x) × (f x ≡ y)
option_map-some f None y is = absurd (none-some y is)
option_map-some f (Some x) y is = (x, refl, same_Some (f x) y is)

-- a value under a test
pub tested : {A : Type 0} (b : Bool) (o : Option A) (y : A) → cond b o None ≡ Some y → (b ≡ true) × (o ≡ Some y)
tested true o y is = (refl, is)
tested false o y is = absurd (none-some y is)

module _ (codec : Meaning) (place : ℕ → Option Place) (starts : Piece → Bool) (packets : Packets) where
  -- a packet has the marker
  abbrev marked : Piece → Bool
  marked p = p.packet.marker

  -- a part says a keyframe
  abbrev keyed : Piece → Bool
  keyed p = p.part.key

  -- the run that a stretch makes with these bytes
  abbrev made : ℕ → Piece → List Piece → List ℕ → Run
  made last piece pieces bytes =
      record {
        first = piece.number;
        last = last;
        ts = piece.packet.ts;
        key = list_any keyed (piece ∷ pieces);
        layers = place piece.number;
        bytes = bytes;
      }

  -- the conditions of a stretch, as a test
  abbrev conditions : Piece → List Piece → Bool
  conditions piece pieces =
      list_all (λ p. p.packet.ts == piece.packet.ts) pieces && first_alone starts (piece ∷ pieces)
      && last_alone marked (piece ∷ pieces)

  -- a run of pieces is what the conditions say
  pieces_run : (first last : ℕ) (piece : Piece) (pieces : List Piece) (run : Run) →
      ArePieces codec packets first (piece ∷ pieces) → first + length (piece ∷ pieces) ≡ last + 1 →
      run_of codec place starts last (piece ∷ pieces) ≡ Some run → IsRunBy codec place starts packets run
  pieces_run first last piece pieces run are size is =
      let a : (conditions piece pieces ≡ true)
      × (option_map (made last piece pieces) (result_ok (codec.join (map (λ p. p.part) (piece ∷ pieces))))
      ≡ Some run) = tested (conditions piece pieces) _ run is in
      let b : (bytes : List ℕ) × (result_ok (codec.join (map (λ p. p.part) (piece ∷ pieces))) ≡ Some bytes)
      × (made last piece pieces bytes ≡ run) =
      option_map-some (made last piece pieces)
      (result_ok (codec.join (map (λ p. p.part) (piece ∷ pieces)))) run a.1 in
      let c : ((list_all (λ p. p.packet.ts == piece.packet.ts) pieces && first_alone starts (piece ∷ pieces)) ≡ true)
      × (last_alone marked (piece ∷ pieces) ≡ true) = and_parts _ _ a.0 in
      let d : (list_all (λ p. p.packet.ts == piece.packet.ts) pieces ≡ true)
      × (first_alone starts (piece ∷ pieces) ≡ true) = and_parts _ _ c.0 in
      let e : (starts piece ≡ true) × (list_all (λ p. not (starts p)) pieces ≡ true) =
      and_parts (starts piece) (list_all (λ p. not (starts p)) pieces) d.1 in
      let number : piece.number ≡ first = are.0.number in
      subst (IsRunBy codec place starts packets) b.2 (record {
        pieces = piece ∷ pieces;
        from_first = subst (λ n. ArePieces codec packets n (piece ∷ pieces)) (sym number) are;
        to_last = ap (λ n. n + length (piece ∷ pieces)) number ∙ size;
        not_empty = omega arith;
        ts = All-from_recursion (λ p. p.packet.ts ≡ piece.packet.ts) (piece ∷ pieces)
            (refl, same_ts-from piece.packet.ts pieces d.0);
        start = All-from_recursion (λ p. (starts p ≡ true) ↔ (p.number ≡ piece.number)) (piece ∷ pieces) (
          (λ _. refl, λ _. e.0),
          subst (λ n. AllByRecursion (λ p. (starts p ≡ true) ↔ (p.number ≡ n)) pieces)
              (sym number) (later_starts codec packets starts first (first + 1) pieces (omega arith) are.1 e.1),
        );
        marker = All-from_recursion (λ p. (marked p ≡ true) ↔ (p.number ≡ last)) (piece ∷ pieces)
            (last-from codec packets starts marked last first piece pieces size are c.1);
        key = (λ k. list_any-from keyed (piece ∷ pieces) k, λ k. list_any-to keyed (piece ∷ pieces) k.0 k.1 k.2);
        layers = refl;
        joins = result_ok-some (codec.join (map (λ p. p.part) (piece ∷ pieces))) b.0 b.1;
      })

  -- a stretch of a first and a last number that is a run
  stretch_run : (first last : ℕ) (pieces : List Piece) (run : Run) → ArePieces codec packets first pieces →
      length pieces ≡ last + 1 - first → run_of codec place starts last pieces ≡ Some run →
      IsRunBy codec place starts packets run
  stretch_run first last [] run are size is = absurd (none-some run is)
  stretch_run first last (piece ∷ pieces) run are size is =
      pieces_run first last piece pieces run are (omega arith) is

  -- the run between a first and a last number
  abbrev pub between : ℕ → ℕ → Option Run
  between first last = stretch codec packets first last >>= run_of codec place starts last

  -- it is what the conditions say
  pub between-from : (first last : ℕ) (run : Run) → between first last ≡ Some run →
      IsRunBy codec place starts packets run
  between-from first last run is =
      let a : (pieces : List Piece) × (stretch codec packets first last ≡ Some pieces)
      × (run_of codec place starts last pieces ≡ Some run) =
      bind-some (stretch codec packets first last) (run_of codec place starts last) run is in
      let b : ArePieces codec packets first a.0 × (length a.0 ≡ last + 1 - first) =
      pieces-from codec packets first (last + 1 - first) a.0 a.1 in
      stretch_run first last a.0 run b.0 b.1 a.2

  -- with these first and last numbers
  stretch_ends : (first last : ℕ) (pieces : List Piece) (run : Run) → ArePieces codec packets first pieces →
      run_of codec place starts last pieces ≡ Some run → (run.first ≡ first) × (run.last ≡ last)
  stretch_ends first last [] run are is = absurd (none-some run is)
  stretch_ends first last (piece ∷ pieces) run are is =
      let a : (conditions piece pieces ≡ true)
      × (option_map (made last piece pieces) (result_ok (codec.join (map (λ p. p.part) (piece ∷ pieces))))
      ≡ Some run) = tested (conditions piece pieces) _ run is in
      let b : (bytes : List ℕ) × (result_ok (codec.join (map (λ p. p.part) (piece ∷ pieces))) ≡ Some bytes)
      × (made last piece pieces bytes ≡ run) =
      option_map-some (made last piece pieces)
      (result_ok (codec.join (map (λ p. p.part) (piece ∷ pieces)))) run a.1 in
      (sym (ap (λ (r : Run). r.first) b.2) ∙ are.0.number, sym (ap (λ (r : Run). r.last) b.2))

  pub between-ends : (first last : ℕ) (run : Run) → between first last ≡ Some run →
      (run.first ≡ first) × (run.last ≡ last)
  between-ends first last run is =
      let a : (pieces : List Piece) × (stretch codec packets first last ≡ Some pieces)
      × (run_of codec place starts last pieces ≡ Some run) =
      bind-some (stretch codec packets first last) (run_of codec place starts last) run is in
      let b : ArePieces codec packets first a.0 × (length a.0 ≡ last + 1 - first) =
      pieces-from codec packets first (last + 1 - first) a.0 a.1 in
      stretch_ends first last a.0 run b.0 a.2

  -- what is among the runs is one
  pub runs-from : (run : Run) → Contains (runs_by codec place starts packets) run →
      IsRunBy codec place starts packets run
  runs-from run there =
      let numbers : List ℕ = map (λ entry. entry.0) packets in
      let a : (first : ℕ) × Contains numbers first × Contains (filter_map (between first) numbers) run =
      flat_map-from (λ first. filter_map (between first) numbers) numbers run there in
      let b : (last : ℕ) × Contains numbers last × (between a.0 last ≡ Some run) =
      filter_map-from (between a.0) numbers run a.2 in
      between-from a.0 b.0 run b.2

module _ (codec : Meaning) (place : ℕ → Option Place) (starts : Piece → Bool) (packets : Packets) where
  -- pieces of which the conditions hold make the run
  run_of-to : (run : Run) (piece : Piece) (pieces : List Piece) → ArePieces codec packets run.first (piece ∷ pieces) →
      run.first + length (piece ∷ pieces) ≡ run.last + 1
      → AllByRecursion (λ p. p.packet.ts ≡ run.ts) (piece ∷ pieces) →
      AllByRecursion (λ p. (starts p ≡ true) ↔ (p.number ≡ run.first)) (piece ∷ pieces) →
      AllByRecursion (λ p. (p.packet.marker ≡ true) ↔ (p.number ≡ run.last)) (piece ∷ pieces)
      → (run.key ≡ true) ↔ ((p : Piece) × Contains (piece ∷ pieces) p × (p.part.key ≡ true)) →
      run.layers ≡ place run.first → codec.join (map (λ p. p.part) (piece ∷ pieces)) ≡ Ok run.bytes →
      run_of codec place starts run.last (piece ∷ pieces) ≡ Some run
  run_of-to run piece pieces are size ts start marker key layers joins =
      let number : piece.number ≡ run.first = are.0.number in
      let times_agree : list_all (λ p. p.packet.ts == piece.packet.ts) pieces ≡ true =
      same_ts-to piece.packet.ts pieces
      (subst (λ t. AllByRecursion (λ p. p.packet.ts ≡ t) pieces) (sym ts.0) ts.1) in
      let starts_alone : first_alone starts (piece ∷ pieces) ≡ true =
      and_from (starts piece) (list_all (λ p. not (starts p)) pieces) (start.0.1 number)
      (later_starts-to codec packets starts run.first (run.first + 1) pieces (omega arith) are.1 start.1) in
      let ends_alone : last_alone (λ p. p.packet.marker) (piece ∷ pieces) ≡ true =
      last-to codec packets starts (λ p. p.packet.marker) run.last run.first piece pieces size are marker in
      let all_hold : conditions codec place starts packets piece pieces ≡ true =
      and_from (list_all (λ p. p.packet.ts == piece.packet.ts) pieces && first_alone starts (piece ∷ pieces))
      (last_alone (λ p. p.packet.marker) (piece ∷ pieces))
      (and_from (list_all (λ p. p.packet.ts == piece.packet.ts) pieces)
      (first_alone starts (piece ∷ pieces)) times_agree starts_alone) ends_alone in
      let keys : list_any (λ p. p.part.key) (piece ∷ pieces) ≡ run.key =
      same_test (list_any (λ p. p.part.key) (piece ∷ pieces)) run.key
      (λ h. key.1 (list_any-from (λ p. p.part.key) (piece ∷ pieces) h))
      (λ h. list_any-to (λ p. p.part.key) (piece ∷ pieces) (key.0 h).0 (key.0 h).1 (key.0 h).2) in
      let from : List ℕ → Run = made codec place starts packets run.last piece pieces in
      ap (λ b. cond b (option_map from (result_ok (codec.join (map (λ p. p.part) (piece ∷ pieces))))) None) all_hold
      ∙ ap (λ r. option_map from (result_ok r)) joins
      ∙ ap Some (same_run (from run.bytes) run number refl ts.0 keys (ap place number ∙ sym layers) refl)

  -- a run lies between its first and last number
  between-to : (run : Run) (pieces : List Piece) → ArePieces codec packets run.first pieces →
      run.first + length pieces ≡ run.last + 1 → run.first ≤ run.last
      → AllByRecursion (λ p. p.packet.ts ≡ run.ts) pieces →
      AllByRecursion (λ p. (starts p ≡ true) ↔ (p.number ≡ run.first)) pieces →
      AllByRecursion (λ p. (p.packet.marker ≡ true) ↔ (p.number ≡ run.last)) pieces
      → (run.key ≡ true) ↔ ((p : Piece) × Contains pieces p × (p.part.key ≡ true)) → run.layers ≡ place run.first →
      codec.join (map (λ p. p.part) pieces) ≡ Ok run.bytes →
      between codec place starts packets run.first run.last ≡ Some run
  between-to run [] are size within ts start marker key layers joins = absurd (omega arith)
  between-to run (piece ∷ pieces) are size within ts start marker key layers joins =
      let many : run.last + 1 - run.first ≡ length (piece ∷ pieces) = omega arith in
      ap (λ k. all_some (map (piece_at codec packets) (numbers_from run.first k))
      >>= run_of codec place starts run.last) many
      ∙ ap (λ o. o >>= run_of codec place starts run.last) (pieces-to codec packets run.first (piece ∷ pieces) are)
      ∙ run_of-to run piece pieces are size ts start marker key layers joins

  -- what the conditions hold of is among the runs
  pub runs-to : (run : Run) → IsRunBy codec place starts packets run →
      Contains (runs_by codec place starts packets) run
  runs-to run r =
      let numbers : List ℕ = map (λ entry. entry.0) packets in
      let within : run.first ≤ run.last = r.not_empty in
      let size : run.first + length r.pieces ≡ run.last + 1 = r.to_last in
      let first : Contains numbers run.first =
      available-key packets run.first
      (pieces-available codec packets run.first run.first r.pieces r.from_first (omega arith) (omega arith)) in
      let last : Contains numbers run.last =
      available-key packets run.last
      (pieces-available codec packets run.first run.last r.pieces r.from_first within (omega arith)) in
      flat_map-to (λ n. filter_map (between codec place starts packets n) numbers) numbers run.first run first
      (filter_map-to (between codec place starts packets run.first) numbers run.last run last
      (between-to run r.pieces r.from_first size within (recursion_from_All _ r.pieces r.ts)
      (recursion_from_All _ r.pieces r.start) (recursion_from_All _ r.pieces r.marker) r.key r.layers r.joins))

-- the runs are just what the conditions hold of
pub runs-are : RunsAre
runs-are codec place starts packets run =
    (runs-from codec place starts packets run, runs-to codec place starts packets run)
