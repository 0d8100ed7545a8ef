-- The run that a number lies in, from the span that the search finds and the parts that join.
use Rattle.std.proofs.Common.{◌≡◌, ◌↔◌, ℕ, zero, suc, ◌+◌, ◌-◌, ◌≤◌, ◌||◌, inl, inr, Bool, true, false, not, List, [], ◌∷◌, map, length, Option, Some, None, Ok, refl, sym, ◌∙◌, ap, subst, arith}
use Rattle.std.specs.List.{AllByRecursion, list_any}
use Rattle.std.specs.Option.{option_map, option_and_then}
use Rattle.std.specs.Result.{result_ok}
use Rattle.std.proofs.lemmas.Bool.{true≢false, false_from_ne_true, not_from_false}
use Rattle.std.proofs.lemmas.Option.{none-some}
use Rattle.std.proofs.lemmas.List.Elements.{All-from_recursion}
use Rattle.vrx_codec.specs.Part.{Part}
use Rattle.vrx_codec.specs.declared.run.Place.{Place}
use Rattle.vrx_codec.specs.declared.run.Run.{Run as RunSummary}
use Rattle.vrx_codec.specs.Meaning.{Meaning}
use Rattle.vrx_window.specs.Content.{Media}
use Rattle.vrx_window.specs.Window.{at}
use Rattle.vrx_frames.specs.Run.{Packets, Piece, Run, is_passed, stands}
use Rattle.vrx_frames.specs.IsRun.{IsPiece, ArePieces, IsRunBy, LiesIn}
use Rattle.vrx_frames.specs.Judging.{says_key, octets_of, summary_with, span_summary, AnswerFound}
use Rattle.vrx_frames.specs.Parts.{part_of, part_at, parts_from}
use Rattle.vrx_frames.specs.Linked.{Sits, AreWhole, SpanFound}
use Rattle.vrx_frames.specs.declared.search.Span.{Span}
use Rattle.vrx_frames.specs.declared.arrival.Fact.{Fact}
use Rattle.vrx_frames.proofs.ApartLemmas.{Held, one_list, piece-in, Says}
use Rattle.vrx_frames.proofs.CompleteLemmas.{RunAround}
use Rattle.vrx_frames.proofs.JoinLemmas.{octets-of, parts-next, part_of-text}
use Rattle.vrx_frames.proofs.LinkLemmas.{one_fact, whole-first, whole-last, ts-at, starts-at, marker-at}
use Rattle.vrx_frames.proofs.RunLemmas.{first_or_later, list_any-from, list_any-to}

-- a piece, as the search sees it
abbrev pub fact_of_piece : (Piece → Bool) → Piece → Fact
fact_of_piece starts piece = record { ts = piece.packet.ts; marker = piece.packet.marker; starts = starts piece }

-- the piece that a fact stands for
pub record HasPiece (codec : Meaning) (starts : Piece → Bool) (packets : Packets) (n : ℕ) (fact : Fact) : Type 0 where
  pub piece : Piece
  pub is : IsPiece codec packets n piece
  pub fact_is : fact ≡ fact_of_piece starts piece

-- the keys of parts are those of their pieces
keys-of : (ps : List Piece) → says_key (map (λ p. p.part) ps) ≡ list_any (λ p. p.part.key) ps
keys-of [] = refl
keys-of (p ∷ ps) = ap (λ b. p.part.key || b) (keys-of ps)

module _ (codec : Meaning) (place : ℕ → Option Place) (starts : Piece → Bool) (known packets : Packets)
    (facts : ℕ → Option Fact) (passed : Option ℕ)
    (within : (n : ℕ) (text : List ℕ) → at n known ≡ Some (Media text) → at n packets ≡ Some (Media text))
    (to : (n : ℕ) (p : Piece) → IsPiece codec known n p → facts n ≡ Some (fact_of_piece starts p))
    (from : (n : ℕ) (fact : Fact) → facts n ≡ Some fact → HasPiece codec starts known n fact) where
  abbrev Is : Run → Type 0
  Is run = IsRunBy codec place starts known run

  -- the numbers of a run are a whole frame
  whole-of : (run : Run) → Is run → AreWhole facts run.ts run.first run.last
  whole-of run is =
      let some : run.first ≤ run.last = is.not_empty in
      let f : Held codec known (Says codec place starts known run) run.first =
      piece-in codec place starts known run run.first is (omega arith, some) in
      let l : Held codec known (Says codec place starts known run) run.last =
      piece-in codec place starts known run run.last is (some, omega arith) in
      record {
        linked = record { upto = some; each = sits };
        start = record {
          fact = fact_of_piece starts f.piece;
          told = to run.first f.piece f.is;
          starts = f.holds.1.1 f.is.number;
        };
        end = record {
          fact = fact_of_piece starts l.piece;
          told = to run.last l.piece l.is;
          marker = l.holds.2.1 l.is.number;
        };
      } where
        sits : (n : ℕ) → run.first ≤ n → n ≤ run.last → Sits facts run.ts run.first run.last n
        sits n above upto =
            let p : Held codec known (Says codec place starts known run) n =
            piece-in codec place starts known run n is (above, upto) in
            let number : p.piece.number ≡ n = p.is.number in
            record {
              fact = fact_of_piece starts p.piece;
              told = to n p.piece p.is;
              ts_is = p.holds.0;
              later = λ less. false_from_ne_true (starts p.piece)
                  (λ h. let e : p.piece.number ≡ run.first = p.holds.1.0 h in absurd (omega arith));
              earlier = λ less. false_from_ne_true p.piece.packet.marker
                  (λ h. let e : p.piece.number ≡ run.last = p.holds.2.0 h in absurd (omega arith));
            }

  -- what a piece of a whole frame is
  abbrev Fits : Span → Piece → Type 0
  Fits span p = (p.packet.ts ≡ span.ts) × ((starts p ≡ true) ↔ (p.number ≡ span.first))
      × ((p.packet.marker ≡ true) ↔ (p.number ≡ span.last))

  fits : (span : Span) → AreWhole facts span.ts span.first span.last → (n : ℕ) → span.first ≤ n → n ≤ span.last →
      (p : Piece) × IsPiece codec known n p × Fits span p
  fits span whole n above upto =
      let s : Sits facts span.ts span.first span.last n = whole.linked.each n above upto in
      let h : HasPiece codec starts known n s.fact = from n s.fact s.told in
      let number : h.piece.number ≡ n = h.is.number in
      let told : facts n ≡ Some (fact_of_piece starts h.piece) = to n h.piece h.is in (
        h.piece,
        h.is,
        (
          ts-at facts span.ts span.first span.last n (fact_of_piece starts h.piece) whole.linked above upto told,
          (λ e. starts-from n h.piece above upto told number e, λ e. starts-to n h.piece told (sym number ∙ e)),
          (λ e. ends-from n h.piece above upto told number e, λ e. ends-to n h.piece told (sym number ∙ e)),
        ),
      ) where
        starts-from : (m : ℕ) (p : Piece) → span.first ≤ m → m ≤ span.last → facts m ≡ Some (fact_of_piece starts p) →
            p.number ≡ m → starts p ≡ true → p.number ≡ span.first
        starts-from m p above' upto' told number e = elim (first_or_later span.first m above') [
          | inl same ↦ number ∙ sym same
          | inr later ↦ absurd (true≢false
              (sym e ∙ starts-at facts span.ts span.first span.last m (fact_of_piece starts p) whole.linked
              (omega arith) upto' told))
        ]

        starts-to : (m : ℕ) (p : Piece) → facts m ≡ Some (fact_of_piece starts p) → m ≡ span.first → starts p ≡ true
        starts-to m p told e = ap (λ (x : Fact). x.starts)
            (one_fact facts m (fact_of_piece starts p) whole.start.fact told (ap facts e ∙ whole.start.told))
            ∙ whole.start.starts

        ends-from : (m : ℕ) (p : Piece) → span.first ≤ m → m ≤ span.last → facts m ≡ Some (fact_of_piece starts p) →
            p.number ≡ m → p.packet.marker ≡ true → p.number ≡ span.last
        ends-from m p above' upto' told number e = elim (first_or_later m span.last upto') [
          | inl same ↦ number ∙ same
          | inr later ↦ absurd (true≢false
              (sym e ∙ marker-at facts span.ts span.first span.last m (fact_of_piece starts p) whole.linked above'
              (omega arith) told))
        ]

        ends-to : (m : ℕ) (p : Piece) → facts m ≡ Some (fact_of_piece starts p) → m ≡ span.last →
            p.packet.marker ≡ true
        ends-to m p told e = ap (λ (x : Fact). x.marker)
            (one_fact facts m (fact_of_piece starts p) whole.end.fact told (ap facts e ∙ whole.end.told))
            ∙ whole.end.marker

  -- the pieces of so many numbers of a whole frame
  record Pieces (span : Span) (n count : ℕ) : Type 0 where
    pub pieces : List Piece
    pub are : ArePieces codec known n pieces
    pub size : length pieces ≡ count
    pub ts : AllByRecursion (λ p. p.packet.ts ≡ span.ts) pieces
    pub start : AllByRecursion (λ p. (starts p ≡ true) ↔ (p.number ≡ span.first)) pieces
    pub marker : AllByRecursion (λ p. (p.packet.marker ≡ true) ↔ (p.number ≡ span.last)) pieces

  pieces-of : (span : Span) → AreWhole facts span.ts span.first span.last → (n count : ℕ) → span.first ≤ n →
      n + count ≤ span.last + 1 → Pieces span n count
  pieces-of span whole n zero above upto =
      record { pieces = []; are = tt; size = refl; ts = tt; start = tt; marker = tt }
  pieces-of span whole n (suc count) above upto =
      let f : (p : Piece) × IsPiece codec known n p × Fits span p = fits span whole n above (omega arith) in
      let rest : Pieces span (n + 1) count = pieces-of span whole (n + 1) count (omega arith) (omega arith) in
      record {
        pieces = f.0 ∷ rest.pieces;
        are = (f.1, rest.are);
        size = ap suc rest.size;
        ts = (f.2.0, rest.ts);
        start = (f.2.1, rest.start);
        marker = (f.2.2, rest.marker);
      }

  -- the parts of pieces are those of their numbers
  part-is : (n : ℕ) (p : Piece) → IsPiece codec known n p → part_at codec packets n ≡ Some p.part
  part-is n p is = ap (option_and_then (part_of codec)) (within n is.text is.media)
      ∙ part_of-text codec is.text p.packet p.part is.reads is.part_reads

  parts-are : (n : ℕ) (ps : List Piece) → ArePieces codec known n ps →
      parts_from codec packets n (length ps) ≡ map (λ p. p.part) ps
  parts-are n [] are = refl
  parts-are n (p ∷ ps) are = parts-next codec packets n (suc (length ps)) (length ps) p.part (part-is n p are.0) refl
      ∙ ap (λ xs. p.part ∷ xs) (parts-are (n + 1) ps are.1)

  -- a run stands if its first number isn't passed
  stands-is : (run : Run) → stands passed run ≡ not (is_passed passed run.first)
  stands-is run = either passed where
    either : (o : Option ℕ) → stands o run ≡ not (is_passed o run.first)
    either None = refl
    either (Some last) = refl

  -- a run of a number of a whole frame has the frame's pieces
  same-pieces : (span : Span) (run : Run) (n : ℕ) → AreWhole facts span.ts span.first span.last → span.first ≤ n →
      n ≤ span.last → (is : Is run) → LiesIn n run → (pieces : Pieces span span.first (span.last - span.first + 1)) →
      is.pieces ≡ pieces.pieces
  same-pieces span run n whole above upto is lies pieces =
      let w : AreWhole facts run.ts run.first run.last = whole-of run is in
      let first : run.first ≡ span.first =
      whole-first facts run.ts run.first run.last span.ts span.first span.last n w whole lies.0 lies.1 above
      upto in
      let last : run.last ≡ span.last =
      whole-last facts run.ts run.first run.last span.ts span.first span.last n w whole lies.0 lies.1 above
      upto in
      let size : run.first + length is.pieces ≡ run.last + 1 = is.to_last in
      let size' : length pieces.pieces ≡ span.last - span.first + 1 = pieces.size in
      one_list codec known span.first is.pieces pieces.pieces
      (subst (λ k. ArePieces codec known k is.pieces) first is.from_first) pieces.are (omega arith)

  -- what the judge says of a span is what the run is
  span_summary-around : (span : Span) (n : ℕ) → AreWhole facts span.ts span.first span.last → span.first ≤ n →
      n ≤ span.last → is_passed passed span.first ≡ false →
      RunAround codec place starts known passed n (span_summary codec place packets span)
  span_summary-around span n whole above upto beyond =
      subst (RunAround codec place starts known passed n) (sym by_pieces) (either (octets_of codec parts) refl) where
        some : span.first ≤ span.last
        some = whole.linked.upto

        pieces : Pieces span span.first (span.last - span.first + 1)
        pieces = pieces-of span whole span.first (span.last - span.first + 1) (omega arith) (omega arith)

        parts : List Part
        parts = map (λ p. p.part) pieces.pieces

        by_pieces : span_summary codec place packets span ≡ summary_with codec place span parts
        by_pieces = ap (λ k. summary_with codec place span (parts_from codec packets span.first k)) (sym pieces.size)
            ∙ ap (summary_with codec place span) (parts-are span.first pieces.pieces pieces.are)

        either : (o : Option ℕ) → octets_of codec parts ≡ o →
            RunAround codec place starts known passed n
            (option_map (λ octets. record {
              first = span.first;
              last = span.last;
              ts = span.ts;
              key = says_key parts;
              layers = place span.first;
              octets = octets;
            }) o)
        either None none = λ run is it_stands lies.
            let same : is.pieces ≡ pieces.pieces = same-pieces span run n whole above upto is lies pieces in
            none-some (length run.bytes)
            (sym none ∙ ap (λ ps. octets_of codec (map (λ p. p.part) ps)) (sym same)
            ∙ ap (λ r. option_map length (result_ok r)) is.joins)
        either (Some octets) is =
            let joined : (bytes : List ℕ) × (codec.join parts ≡ Ok bytes) × (length bytes ≡ octets) =
            octets-of (codec.join parts) octets is in
            let size : length pieces.pieces ≡ span.last - span.first + 1 = pieces.size in
            let run : Run = record {
              first = span.first;
              last = span.last;
              ts = span.ts;
              key = says_key parts;
              layers = place span.first;
              bytes = joined.0;
            } in (
              run,
              record {
                pieces = pieces.pieces;
                from_first = pieces.are;
                to_last = omega arith;
                not_empty = some;
                ts = All-from_recursion (λ p. p.packet.ts ≡ span.ts) pieces.pieces pieces.ts;
                start =
                    All-from_recursion (λ p. (starts p ≡ true) ↔ (p.number ≡ span.first)) pieces.pieces pieces.start;
                marker = All-from_recursion
                    (λ p. (p.packet.marker ≡ true) ↔ (p.number ≡ span.last)) pieces.pieces pieces.marker;
                key = (
                  λ k. list_any-from (λ p. p.part.key) pieces.pieces (sym (keys-of pieces.pieces) ∙ k),
                  λ k.
                      keys-of pieces.pieces ∙ list_any-to (λ p. p.part.key) pieces.pieces k.0 k.1 k.2,
                );
                layers = refl;
                joins = joined.1;
              },
              stands-is run ∙ not_from_false (is_passed passed span.first) beyond,
              (above, upto),
              ap (λ k. record {
                first = span.first;
                last = span.last;
                ts = span.ts;
                key = says_key parts;
                layers = place span.first;
                octets = k;
              }) joined.2,
            )

  -- the answer is the run that the number lies in
  pub around : (n : ℕ) (answer : Option RunSummary) → AnswerFound codec place packets facts passed n answer →
      RunAround codec place starts known passed n answer
  around n answer found =
      subst (RunAround codec place starts known passed n) (sym found.is) (either found.span found.found) where
        either : (o : Option Span) → SpanFound facts passed n o →
            RunAround codec place starts known passed n (option_and_then (span_summary codec place packets) o)
        either None none = λ run is it_stands lies.
            true≢false (sym it_stands ∙ stands-is run
            ∙ ap not (none run.ts run.first run.last (whole-of run is) lies.0 lies.1))
        either (Some span) f = span_summary-around span n f.0 f.1 f.2 f.3
