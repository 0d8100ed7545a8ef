-- What one number more completes, of the runs by two tests of starts.
use Rattle.std.proofs.Common.{◌≡◌, ◌≢◌, ◌↔◌, ℕ, ◌+◌, ◌<◌, ◌≤◌, ◌⊎◌, Bool, true, false, not, ◌&&◌, List, [], ◌∷◌, Contains, length, Option, Some, None, refl, sym, ◌∙◌, ap, subst, arith, inl, inr}
use Rattle.std.specs.Prelude.{filter}
use Rattle.std.specs.List.{AllByRecursion, cons_option}
use Rattle.std.proofs.lemmas.Bool.{and_parts, not-true, true≢false, cases_eq, cases_order}
use Rattle.std.proofs.lemmas.Option.{none-some, same_Some}
use Rattle.std.proofs.lemmas.List.Elements.{All-from_recursion, recursion_from_All}
use Rattle.vrx_codec.specs.declared.run.Place.{Place}
use Rattle.vrx_codec.specs.declared.run.Run.{Run as RunSummary}
use Rattle.vrx_codec.specs.Meaning.{Meaning}
use Rattle.vrx_window.specs.Content.{Media}
use Rattle.vrx_window.specs.Window.{at}
use Rattle.vrx_frames.specs.Run.{Packets, Piece, Run, runs_by, stands, summary_of}
use Rattle.vrx_frames.specs.IsRun.{IsPiece, ArePieces, IsRunBy, LiesIn}
use Rattle.vrx_frames.specs.Completed.{Completes}
use Rattle.vrx_frames.proofs.ApartLemmas.{Held, one_piece, piece-in, runs-apart, Says}
use Rattle.vrx_frames.proofs.MemberLemmas.{Contains-head, Contains-tail, Contains-either, Contains-empty, filter-from, filter-to}
use Rattle.vrx_frames.proofs.RunLemmas.{runs-from, runs-to}

-- the answer for a number: the run that it lies in, if there is one that stands
abbrev pub RunAround : Meaning → (ℕ → Option Place) → (Piece → Bool) → Packets → Option ℕ → ℕ → Option RunSummary →
    Type 0
RunAround codec place starts packets passed n None =
    (run : Run) → IsRunBy codec place starts packets run → stands passed run ≡ true → LiesIn n run → ⊥
RunAround codec place starts packets passed n (Some told) = (run : Run) × IsRunBy codec place starts packets run
    × (stands passed run ≡ true) × LiesIn n run × (summary_of run ≡ told)

-- a number lies in a run, or not
lies-or : (n : ℕ) (run : Run) → LiesIn n run ⊎ ((n < run.first) ⊎ (run.last < n))
lies-or n run = elim (cases_order n run.first) [
  | inl same ↦ elim (cases_order n run.last) [
    | inl same' ↦ inl
        (omega arith, omega arith)
    | inr other ↦ elim other [ inl less ↦ inl (omega arith, omega arith) | inr more ↦ inr (inr more) ]
  ]
  | inr other ↦ elim other [
    | inl less ↦ inr (inl less)
    | inr more ↦ elim (cases_order n run.last) [
      | inl same' ↦ inl
          (omega arith, omega arith)
      | inr other' ↦ elim other' [ inl less' ↦ inl (omega arith, omega arith) | inr more' ↦ inr (inr more') ]
    ]
  ]
]

module _ (codec : Meaning) (place : ℕ → Option Place) where
  -- pieces stay where the packets under their numbers do
  pieces-stay : (a b : Packets) (n : ℕ) (ps : List Piece) → ((m : ℕ) → n ≤ m → m < n + length ps → at m b ≡ at m a) →
      ArePieces codec a n ps → ArePieces codec b n ps
  pieces-stay a b n [] same are = tt
  pieces-stay a b n (p ∷ ps) same are = (
    record {
      number = are.0.number;
      text = are.0.text;
      media = same n (omega arith) (omega arith) ∙ are.0.media;
      reads = are.0.reads;
      part_reads = are.0.part_reads;
    },
    pieces-stay a b (n + 1) ps (λ m from below. same m (omega arith) (omega arith)) are.1,
  )

  -- and so do their starts where the tests agree on them
  starts-stay : (starts others : Piece → Bool) (a : Packets) (first n : ℕ) (ps : List Piece) →
      ((p : Piece) (m : ℕ) → n ≤ m → m < n + length ps → IsPiece codec a m p → others p ≡ starts p) →
      ArePieces codec a n ps → AllByRecursion (λ p. (starts p ≡ true) ↔ (p.number ≡ first)) ps →
      AllByRecursion (λ p. (others p ≡ true) ↔ (p.number ≡ first)) ps
  starts-stay starts others a first n [] same are all = tt
  starts-stay starts others a first n (p ∷ ps) same are all =
      let e : others p ≡ starts p = same p n (omega arith) (omega arith) are.0 in (
        (λ h. all.0.0 (sym e ∙ h), λ h. e ∙ all.0.1 h),
        starts-stay starts others a first (n + 1) ps
            (λ q m from below. same q m (omega arith) (omega arith)) are.1 all.1,
      )

  -- a run stays one
  pub run-stays : (starts others : Piece → Bool) (a b : Packets) (run : Run) →
      ((m : ℕ) → LiesIn m run → at m b ≡ at m a) →
      ((p : Piece) (m : ℕ) → LiesIn m run → IsPiece codec a m p → others p ≡ starts p) →
      IsRunBy codec place starts a run → IsRunBy codec place others b run
  run-stays starts others a b run same agree is =
      let size : run.first + length is.pieces ≡ run.last + 1 = is.to_last in
      record {
        pieces = is.pieces;
        from_first = pieces-stay a b run.first is.pieces (λ m from below. same m (from, omega arith)) is.from_first;
        to_last = is.to_last;
        not_empty = is.not_empty;
        ts = is.ts;
        start = All-from_recursion _ is.pieces
            (starts-stay starts others a run.first run.first is.pieces
            (λ p m from below piece. agree p m (from, omega arith) piece) is.from_first
            (recursion_from_All _ is.pieces is.start));
        marker = is.marker;
        key = is.key;
        layers = is.layers;
        joins = is.joins;
      }

module _ (codec : Meaning) (place : ℕ → Option Place) (passed : Option ℕ) (before after : Packets)
    (starts others : Piece → Bool) (n : ℕ) (newly : Bool)
    (same : (m : ℕ) → m ≢ n → at m after ≡ at m before) (absent : at n before ≡ None)
    (kept : (p : Piece) (m : ℕ) → m ≢ n → m ≢ n + 1 → IsPiece codec after m p → others p ≡ starts p)
    (grows : (p : Piece) (m : ℕ) → m ≢ n → IsPiece codec after m p → starts p ≡ true → others p ≡ true)
    (next : (p : Piece) → IsPiece codec after (n + 1) p → newly ≡ (others p && not (starts p))) where
  abbrev Was : Run → Type 0
  Was run = IsRunBy codec place starts before run

  abbrev Is : Run → Type 0
  Is run = IsRunBy codec place others after run

  -- no run before has the number
  outside : (run : Run) → Was run → LiesIn n run → ⊥
  outside run was lies = let p : Held codec before (Says codec place starts before run) n =
      piece-in codec place starts before run n was lies in none-some (Media p.is.text) (sym absent ∙ p.is.media)

  -- a piece before is one after
  piece-after : (m : ℕ) (p : Piece) → m ≢ n → IsPiece codec before m p → IsPiece codec after m p
  piece-after m p other piece =
      record {
        number = piece.number;
        text = piece.text;
        media = same m other ∙ piece.media;
        reads = piece.reads;
        part_reads = piece.part_reads;
      }

  piece-before : (m : ℕ) (p : Piece) → m ≢ n → IsPiece codec after m p → IsPiece codec before m p
  piece-before m p other piece =
      record {
        number = piece.number;
        text = piece.text;
        media = sym (same m other) ∙ piece.media;
        reads = piece.reads;
        part_reads = piece.part_reads;
      }

  -- each run before is one after
  stays : (run : Run) → Was run → Is run
  stays run was =
      run-stays codec place starts others before after run (λ m lies. same m (not-it m lies)) agree was where
        not-it : (m : ℕ) → LiesIn m run → m ≢ n
        not-it m lies e = outside run was (subst (λ k. LiesIn k run) e lies)

        starting : (p : Piece) (m : ℕ) → m ≡ n + 1 → LiesIn m run → IsPiece codec before m p → others p ≡ starts p
        starting p m e lies piece =
            let q : Held codec before (Says codec place starts before run) m =
            piece-in codec place starts before run m was lies in
            let p_q : q.piece ≡ p = one_piece codec before m q.piece p q.is piece in
            let first : m ≡ run.first = begins-there m e lies in
            let starts_p : starts p ≡ true = ap starts (sym p_q) ∙ q.holds.1.1 (q.is.number ∙ first) in
            grows p m (not-it m lies) (piece-after m p (not-it m lies) piece) starts_p ∙ sym starts_p where
              begins-there : (k : ℕ) → k ≡ n + 1 → LiesIn k run → k ≡ run.first
              begins-there k e' lies' =
                  let from : run.first ≤ k = lies'.0 in
                  let upto : k ≤ run.last = lies'.1 in
                  elim (cases_order run.first k) [
                    | inl same' ↦ sym same'
                    | inr other ↦ elim other [
                      | inl less ↦ absurd
                          (outside run was (omega arith, omega arith))
                      | inr more ↦ absurd (omega arith)
                    ]
                  ]

        agree : (p : Piece) (m : ℕ) → LiesIn m run → IsPiece codec before m p → others p ≡ starts p
        agree p m lies piece = elim (cases_eq m (n + 1)) [
          | inl e ↦ starting p m e lies piece
          | inr other ↦ kept p m (not-it m lies) other (piece-after m p (not-it m lies) piece)
        ]

  -- a run after that hasn't the number, and doesn't newly begin after it, was one before
  was-before : (run : Run) → Is run → (LiesIn n run → ⊥) → (newly ≡ true → run.first ≡ n + 1 → ⊥) → Was run
  was-before run is apart old =
      run-stays codec place others starts after before run (λ m lies. sym (same m (not-it m lies))) agree is where
        not-it : (m : ℕ) → LiesIn m run → m ≢ n
        not-it m lies e = apart (subst (λ k. LiesIn k run) e lies)

        begins-there : (k : ℕ) → k ≡ n + 1 → LiesIn k run → k ≡ run.first
        begins-there k e' lies' =
            let from : run.first ≤ k = lies'.0 in
            let upto : k ≤ run.last = lies'.1 in
            elim (cases_order run.first k) [
              | inl same' ↦ sym same'
              | inr other ↦ elim other [
                | inl less ↦ absurd (apart (omega arith, omega arith))
                | inr more ↦ absurd
                    (omega arith)
              ]
            ]

        both : (a b c : Bool) → c ≡ (a && not b) → a ≡ true → (c ≡ true → ⊥) → b ≡ a
        both true true c e h no_new = refl
        both true false c e h no_new = absurd (no_new e)
        both false b c e h no_new = absurd (true≢false (sym h))

        starting : (p : Piece) (m : ℕ) → m ≡ n + 1 → LiesIn m run → IsPiece codec after m p → starts p ≡ others p
        starting p m e lies piece =
            let q : Held codec after (Says codec place others after run) m =
            piece-in codec place others after run m is lies in
            let p_q : q.piece ≡ p = one_piece codec after m q.piece p q.is piece in
            let first : m ≡ run.first = begins-there m e lies in
            both (others p) (starts p) newly (next p (subst (λ k. IsPiece codec after k p) e piece))
            (ap others (sym p_q) ∙ q.holds.1.1 (q.is.number ∙ first)) (λ h. old h (sym first ∙ e))

        agree : (p : Piece) (m : ℕ) → LiesIn m run → IsPiece codec after m p → starts p ≡ others p
        agree p m lies piece = elim (cases_eq m (n + 1)) [
          | inl e ↦ starting p m e lies piece
          | inr other ↦ sym (kept p m (not-it m lies) other piece)
        ]

  abbrev runs_before : List Run
  runs_before = filter (stands passed) (runs_by codec place starts before)

  abbrev runs_after : List Run
  runs_after = filter (stands passed) (runs_by codec place others after)

  is-before : (run : Run) → Contains runs_before run → Was run × (stands passed run ≡ true)
  is-before run there = let f : Contains (runs_by codec place starts before) run × (stands passed run ≡ true) =
      filter-from (stands passed) (runs_by codec place starts before) run there in
      (runs-from codec place starts before run f.0, f.1)

  is-after : (run : Run) → Contains runs_after run → Is run × (stands passed run ≡ true)
  is-after run there = let f : Contains (runs_by codec place others after) run × (stands passed run ≡ true) =
      filter-from (stands passed) (runs_by codec place others after) run there in
      (runs-from codec place others after run f.0, f.1)

  in-before : (run : Run) → Was run → stands passed run ≡ true → Contains runs_before run
  in-before run was it_stands =
      filter-to (stands passed) (runs_by codec place starts before) run
      (runs-to codec place starts before run was) it_stands

  in-after : (run : Run) → Is run → stands passed run ≡ true → Contains runs_after run
  in-after run is it_stands =
      filter-to (stands passed) (runs_by codec place others after) run
      (runs-to codec place others after run is) it_stands

  abbrev Around : ℕ → Option RunSummary → Type 0
  Around m answer = RunAround codec place others after passed m answer

  -- a run that the number after begins newly is no run before
  not-newly : (run : Run) → Was run → newly ≡ true → run.first ≡ n + 1 → ⊥
  not-newly run was new first =
      let some : run.first ≤ run.last = was.not_empty in
      let p : Held codec before (Says codec place starts before run) run.first =
      piece-in codec place starts before run run.first was (omega arith, some) in
      let other : run.first ≢ n = λ e. omega arith in
      let started : starts p.piece ≡ true = p.holds.1.1 p.is.number in
      let now_is : newly ≡ (others p.piece && not (starts p.piece)) =
      next p.piece (subst (λ k. IsPiece codec after k p.piece) first
      (piece-after run.first p.piece other p.is)) in
      let no_start : not (starts p.piece) ≡ true =
      (and_parts (others p.piece) (not (starts p.piece)) (sym now_is ∙ new)).1 in
      true≢false (sym started ∙ not-true (starts p.piece) no_start)

  -- what the two answers tell
  pub completes : (a b : Option RunSummary) → Around n a → (newly ≡ true → Around (n + 1) b) →
      (newly ≡ false → b ≡ None) → Completes runs_before runs_after (cons_option a (cons_option b []))
  completes a b first second none =
      record {
        either = answered;
        not_both = apart;
        only = told;
        stay = λ run there. let w : Was run
            × (stands passed run ≡ true) = is-before run there in in-after run (stays run w.0) w.1;
      } where
        -- a run that has the number of an answer is told
        told-by : (m : ℕ) (answer : Option RunSummary) (run : Run) → Around m answer → Is run →
            stands passed run ≡ true →
            LiesIn m run → answer ≡ Some (summary_of run)
        told-by m None run around is it_stands lies = absurd (around run is it_stands lies)
        told-by m (Some t) run around is it_stands lies =
            ap Some (sym around.4 ∙ ap summary_of
            (runs-apart codec place others after around.0 run m around.1 is around.3 lies))

        in-first : (t : RunSummary) → a ≡ Some t → Contains (cons_option a (cons_option b [])) t
        in-first t e = subst (λ (o : Option RunSummary). Contains (cons_option o (cons_option b [])) t) (sym e)
            (Contains-head t (cons_option b []))

        in-second : (t : RunSummary) → b ≡ Some t → Contains (cons_option a (cons_option b [])) t
        in-second t e =
            later a (subst (λ (o : Option RunSummary). Contains (cons_option o []) t) (sym e)
            (Contains-head t [])) where
              later : (o : Option RunSummary) → Contains (cons_option b []) t →
                  Contains (cons_option o (cons_option b [])) t
              later None there = there
              later (Some x) there = Contains-tail x (cons_option b []) t there

        one-of : (t : RunSummary) → Contains (cons_option a (cons_option b [])) t → (a ≡ Some t) ⊎ (b ≡ Some t)
        one-of t there = cases a b there where
          second-of : (o : Option RunSummary) → Contains (cons_option o []) t → o ≡ Some t
          second-of None there' = absurd (Contains-empty t there')
          second-of (Some x) there' =
              elim (Contains-either x [] t there') [ inl e ↦ ap Some e | inr more ↦ absurd (Contains-empty t more) ]

          cases : (o p : Option RunSummary) → Contains (cons_option o (cons_option p [])) t →
              (o ≡ Some t) ⊎ (p ≡ Some t)
          cases None p there' = inr (second-of p there')
          cases (Some x) p there' =
              elim (Contains-either x (cons_option p []) t there') [
                | inl e ↦ inl (ap Some e)
                | inr more ↦ inr
                    (second-of p more)
              ]

        -- what an answer is
        answer-is : (m : ℕ) (answer : Option RunSummary) (t : RunSummary) → Around m answer → answer ≡ Some t →
            (run : Run) × Is run × (stands passed run ≡ true) × LiesIn m run × (summary_of run ≡ t)
        answer-is m None t around e = absurd (none-some t e)
        answer-is m (Some x) t around e = (around.0, around.1, around.2, around.3, around.4 ∙ same_Some x t e)

        newly-if : (t : RunSummary) → b ≡ Some t → newly ≡ true
        newly-if t e = elim_new newly refl where
          elim_new : (c : Bool) → newly ≡ c → newly ≡ true
          elim_new true h = h
          elim_new false h = absurd (none-some t (sym (none h) ∙ e))

        told : (t : RunSummary) → Contains (cons_option a (cons_option b [])) t →
            (run : Run) × Contains runs_after run × (summary_of run ≡ t)
        told t there = elim (one-of t there) [
          | inl e ↦ let r : (run : Run) × Is run × (stands passed run ≡ true) × LiesIn n run × (summary_of run ≡ t) =
              answer-is n a t first e in (r.0, in-after r.0 r.1 r.2, r.4)
          | inr e ↦ let r : (run : Run) × Is run × (stands passed run ≡ true) × LiesIn (n + 1) run
              × (summary_of run ≡ t) =
              answer-is (n + 1) b t (second (newly-if t e)) e in (r.0, in-after r.0 r.1 r.2, r.4)
        ]

        -- a run that begins newly after the number has that number
        behind : (run : Run) → run.first ≡ n + 1 → run.first ≤ run.last → LiesIn (n + 1) run
        behind run e some = (omega arith, omega arith)

        answered : (run : Run) → Contains runs_after run →
            Contains runs_before run ⊎ Contains (cons_option a (cons_option b [])) (summary_of run)
        answered run there = elim (lies-or n run) [
          | inl lies ↦ inr (in-first (summary_of run) (told-by n a run first i.0 i.1 lies))
          | inr apart' ↦ begins newly refl (cases_eq run.first (n + 1))
              (λ lies. let l0 : run.first ≤ n = lies.0 in let l1 : n ≤ run.last = lies.1 in
              elim apart' [ inl less ↦ omega arith | inr more ↦ omega arith ])
        ] where
          i : Is run × (stands passed run ≡ true)
          i = is-after run there

          begins : (c : Bool) → newly ≡ c → (run.first ≡ n + 1) ⊎ (run.first ≡ n + 1 → ⊥) → (LiesIn n run → ⊥) →
              Contains runs_before run ⊎ Contains (cons_option a (cons_option b [])) (summary_of run)
          begins true h (inl e) apart' =
              inr (in-second (summary_of run) (told-by (n + 1) b run (second h) i.0 i.1 (behind run e i.0.not_empty)))
          begins true h (inr other) apart' = inl (in-before run (was-before run i.0 apart' (λ _ e. other e)) i.1)
          begins false h e apart' =
              inl (in-before run (was-before run i.0 apart' (λ h' _. true≢false (sym h' ∙ h))) i.1)

        apart : (run : Run) → Contains runs_after run → Contains runs_before run →
            Contains (cons_option a (cons_option b [])) (summary_of run) → ⊥
        apart run there there' it = elim (one-of (summary_of run) it) [
          | inl e ↦ let r : (other : Run) × Is other × (stands passed other ≡ true) × LiesIn n other
              × (summary_of other ≡ summary_of run) = answer-is n a (summary_of run) first e in
              outside run w.0 (same-ends n r.0 r.3 r.4)
          | inr e ↦ let new : newly ≡ true = newly-if (summary_of run) e in
              let r : (other : Run) × Is other × (stands passed other ≡ true) × LiesIn (n + 1) other
              × (summary_of other ≡ summary_of run) = answer-is (n + 1) b (summary_of run) (second new) e in
              let lies : LiesIn (n + 1) run = same-ends (n + 1) r.0 r.3 r.4 in
              let from : run.first ≤ n + 1 = lies.0 in
              let upto : n + 1 ≤ run.last = lies.1 in
              elim (cases_order run.first (n + 1)) [
                | inl first' ↦ not-newly run w.0 new first'
                | inr other ↦ elim other [
                  | inl less ↦ outside run w.0
                      (omega arith, omega arith)
                  | inr more ↦ omega arith
                ]
              ]
        ] where
          w : Was run × (stands passed run ≡ true)
          w = is-before run there'

          same-ends : (m : ℕ) (other : Run) → LiesIn m other → summary_of other ≡ summary_of run → LiesIn m run
          same-ends m other lies e =
              let f : other.first ≡ run.first = ap (λ (t : RunSummary). t.first) e in
              let l : other.last ≡ run.last = ap (λ (t : RunSummary). t.last) e in
              let from : other.first ≤ m = lies.0 in
              let upto : m ≤ other.last = lies.1 in
              (omega arith, omega arith)
