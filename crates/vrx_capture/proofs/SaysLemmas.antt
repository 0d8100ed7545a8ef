-- Lemmas on what lines say to a reader, and on readers that pass over lines that say nothing.
use Rattle.std.proofs.Common.{◌≡◌, ◌⊎◌, ℕ, ◌+◌, true, List, [], ◌∷◌, ◌++◌, length, Option, None, Result, Ok, Err, refl, sym, ap, subst, ◌∙◌, inl, inr, append_assoc, arith}
use Rattle.std.proofs.lemmas.List.{append-nil, length-append}
use Rattle.vrx_io.specs.Source.{IsSpent}
use Rattle.vrx_capture.specs.Line.{lines_of, line_at, IsOpenLine}
use Rattle.vrx_capture.specs.Reading.{sound, event_count, with_line, reading}
use Rattle.vrx_capture.specs.Ahead.{ahead}
use Rattle.vrx_io.specs.Reads.{ReadsSo}
use Rattle.vrx_capture.specs.Reader.{Reader, says, AreWhole, MayFollow, Passes, IsNext, AllSayBad, SayNothing}
use Rattle.vrx_capture.specs.Joins.{behind_events}
use Rattle.vrx_capture.specs.Step.{GoesOn}
use Rattle.vrx_capture.specs.declared.line.LineKind.{LineKind}
use Rattle.vrx_capture.specs.declared.line.LineReason.{LineReason}
use Rattle.vrx_capture.specs.declared.lines.Line.{Line}
use Rattle.vrx_capture.specs.declared.lines.Line.TheVariants as lines
use Rattle.vrx_capture.specs.declared.lines.LineFault.{LineFault}
use Rattle.vrx_capture.specs.declared.lines.LineFault.TheVariants as faults
use Rattle.vrx_capture.proofs.AheadLemmas.{ahead-ahead, IsSpent-ahead}
use Rattle.vrx_capture.proofs.JoinLemmas.{lines_join, readings_join}
use Rattle.vrx_capture.proofs.ReadsLemmas.{reads_both}

-- what one line says to a reader
abbrev pub kind_of : Reader → List ℕ → LineKind
kind_of reader line = line_at reader.max (reader.given + 1) reader.events line

-- what lines say is what the first says, and then what the others do
pub says-first : (reader : Reader) (octets line : List ℕ) (others : List (List ℕ)) → reader.bad ≡ None →
    lines_of octets ≡ line ∷ others →
    says reader octets ≡ with_line (reader.given + 1) (kind_of reader line)
    (reading reader.max (reader.given + 1 + 1) (reader.events + event_count (kind_of reader line)) others)
unfolding reading
says-first reader octets line others sound lines = rw (sound, lines) refl

-- no lines say nothing
pub says-none : (reader : Reader) → reader.bad ≡ None → says reader [] ≡ sound []
unfolding reading lines_of
says-none reader sound = rw sound refl

-- whole lines and whole lines are whole lines
AreWhole-join : (xs ys : List ℕ) → AreWhole xs → AreWhole ys → AreWhole (xs ++ ys)
AreWhole-join xs ys whole (inl none) = rw (none, append-nil xs) whole
AreWhole-join xs ys whole (inr (front, spelled)) =
    inr (xs ++ front, rw spelled (sym (append_assoc xs front (10 ∷ []))))

none_after : (xs ys : List ℕ) → [] ≡ xs ++ ys → xs ≡ []
none_after [] ys none = refl
none_after (x ∷ xs) ys none = cc none

-- A reader that passed over lines that say nothing.
module _ (old mid : Reader) (before between : Option (List ℕ)) (first : GoesOn old mid before between)
    (good : old.bad ≡ None) where
  -- what whole lines say after those
  says-whole : (octets : List ℕ) → AreWhole first.passes.gone →
      says old (first.passes.gone ++ octets) ≡ says mid octets
  says-whole octets whole =
      let n : ℕ = length (lines_of first.passes.gone) in
      let nothing : reading old.max (old.given + 1) old.events (lines_of first.passes.gone) ≡ sound [] =
      rw good at first.nothing in
      let joined : reading old.max (old.given + 1) old.events (lines_of first.passes.gone ++ lines_of octets)
      ≡ behind_events [] (reading old.max (old.given + 1 + n) (old.events + 0) (lines_of octets)) =
      readings_join old.max (old.given + 1) old.events (lines_of first.passes.gone)
      (lines_of octets) [] nothing in
      let number : old.given + 1 + n ≡ mid.given + 1 = omega (arith, first.passes.given) in
      let count : old.events + 0 ≡ mid.events = omega (arith, first.events) in
      let same : reading old.max (old.given + 1) old.events (lines_of first.passes.gone ++ lines_of octets)
      ≡ reading mid.max (mid.given + 1) mid.events (lines_of octets) =
      rw (sym number, sym count, first.passes.max) joined in
      rw (good, first.bad, lines_join first.passes.gone octets whole) same

  pub says-on : (octets : List ℕ) → AreWhole first.passes.gone ⊎ (octets ≡ []) →
      says old (first.passes.gone ++ octets) ≡ says mid octets
  says-on octets (inl whole) = says-whole octets whole
  says-on octets (inr none) = rw (none, append-nil first.passes.gone) (first.nothing ∙ sym (says-none mid first.bad))

  -- What it did next.
  module _ (new : Reader) (after : Option (List ℕ)) (second : Passes mid new between after) where
    -- after a last line with no line feed nothing is read or passed over
    pub behind_last : (mid.ended ≡ true) × (mid.kept ≡ []) → (second.read ≡ []) × (second.gone ≡ [])
    behind_last last =
        let stays = second.stays last.0 in
        let none : [] ≡ second.gone ++ new.kept = rw (last.1, stays.1) at second.octets in
        (stays.1, none_after second.gone new.kept none)

    pub whole_or_none : AreWhole first.passes.gone ⊎ ((mid.ended ≡ true) × (mid.kept ≡ [])) →
        AreWhole first.passes.gone ⊎ (second.gone ≡ [])
    whole_or_none (inl whole) = inl whole
    whole_or_none (inr last) = inr (behind_last last).1

    -- all that it kept and read
    pub all_octets : old.kept ++ (first.passes.read ++ second.read) ≡ first.passes.gone ++ (mid.kept ++ second.read)
    all_octets = sym (append_assoc old.kept first.passes.read second.read)
        ∙ ap (λ (octets : List ℕ). octets ++ second.read) first.passes.octets
        ∙ append_assoc first.passes.gone mid.kept second.read

    pub spent_first : (old.ended ≡ true) ⊎ IsSpent between → (old.ended ≡ true) ⊎ IsSpent after
    spent_first (inl ended) = inl ended
    spent_first (inr spent) = inr (IsSpent-ahead second.read after (rw second.source at spent))

    pub spent_by : (mid.ended ≡ true) ⊎ IsSpent after → (old.ended ≡ true) ⊎ IsSpent after
    spent_by (inl ended) = spent_first (first.passes.end ended)
    spent_by (inr spent) = inr spent

    pub whole_by : AreWhole first.passes.gone ⊎ ((mid.ended ≡ true) × (mid.kept ≡ [])) →
        AreWhole second.gone ⊎ ((new.ended ≡ true) × (new.kept ≡ [])) →
        AreWhole (first.passes.gone ++ second.gone) ⊎ ((new.ended ≡ true) × (new.kept ≡ []))
    whole_by (inl whole) (inl more) = inl (AreWhole-join first.passes.gone second.gone whole more)
    whole_by first_whole (inr last) = inr last
    whole_by (inr last) (inl more) =
        let stays = second.stays last.0 in
        let rest : [] ≡ second.gone ++ new.kept = rw (last.1, stays.1) at second.octets in
        let none : second.gone ≡ [] = none_after second.gone new.kept rest in
        inr (stays.0, sym (rw none at rest))

    pub count_by : AreWhole first.passes.gone ⊎ (second.gone ≡ []) →
        length (lines_of (first.passes.gone ++ second.gone)) ≡ length (lines_of first.passes.gone) + length
        (lines_of second.gone)
    unfolding lines_of
    count_by (inl whole) = rw (lines_join first.passes.gone second.gone whole)
        (length-append (lines_of first.passes.gone) (lines_of second.gone))
    count_by (inr none) = rw (none, append-nil first.passes.gone) (omega arith)

    -- both together
    abbrev pub passes-on : Passes old new before after
    passes-on = record {
      read = first.passes.read ++ second.read;
      gone = first.passes.gone ++ second.gone;
      source = first.passes.source ∙ ap (λ (left : Option (List ℕ)). ahead first.passes.read left) second.source
          ∙ ahead-ahead first.passes.read second.read after;
      end = λ ended. spent_by (second.end ended);
      stays = λ ended. let mid_stays = first.passes.stays ended in let new_stays =
          second.stays mid_stays.0 in (new_stays.0, rw (mid_stays.1, new_stays.1) refl);
      octets = all_octets ∙ ap (λ (octets : List ℕ). first.passes.gone ++ octets) second.octets
          ∙ sym (append_assoc first.passes.gone second.gone new.kept);
      whole = whole_by first.passes.whole second.whole;
      given = omega (arith, second.given, first.passes.given, count_by (whole_or_none first.passes.whole));
      max = second.max ∙ first.passes.max;
    }

    pub says-both : says old (first.passes.gone ++ second.gone) ≡ says mid second.gone
    says-both = says-on second.gone (whole_or_none first.passes.whole)

    bad_or_none : (more : List ℕ) → MayFollow new more →
        AreWhole first.passes.gone ⊎ ((mid.ended ≡ true) × (mid.kept ≡ [])) →
        AreWhole first.passes.gone ⊎ ((mid.kept ++ second.read) ++ more ≡ [])
    bad_or_none more may (inl whole) = inl whole
    bad_or_none more may (inr last) =
        let none = behind_last last in
        inr (rw (last.1, none.0, may (second.stays last.0).0) refl)

    bad-both : (bad : ℕ × LineReason) → AllSayBad mid new (mid.kept ++ second.read) bad →
        AllSayBad old new (old.kept ++ (first.passes.read ++ second.read)) bad
    bad-both bad all more may =
        let octets : (old.kept ++ (first.passes.read ++ second.read)) ++ more ≡ first.passes.gone
        ++ ((mid.kept ++ second.read) ++ more) = ap (λ (xs : List ℕ). xs ++ more) all_octets
        ∙ append_assoc first.passes.gone (mid.kept ++ second.read) more in
        rw octets (says-on ((mid.kept ++ second.read) ++ more) (bad_or_none more may first.passes.whole)
        ∙ all more may)

    -- the answer is the same
    pub next-on : (result : Result Line LineFault) → IsNext mid new second.read second.gone result →
        IsNext old new (first.passes.read ++ second.read) (first.passes.gone ++ second.gone) result
    next-on (Ok (lines.Event k event)) is = (says-both ∙ is.0, is.1 ∙ ap (λ (n : ℕ). n + 1) first.events, is.2, is.3)
    next-on (Ok lines.End) is = (says-both ∙ is.0, is.1, is.2, is.3 ∙ first.events, is.4)
    next-on (Err (faults.Bad k reason)) is = (bad-both (k, reason) is.0, is.1 ∙ first.events, is.2)
    next-on (Err faults.ReadFault) is = (says-both ∙ is.0, is.1, is.2, is.3 ∙ first.events, is.4, is.5)
    next-on (Err faults.NoMemory) is = (says-both ∙ is.0, is.1 ∙ first.events, is.2)

  -- what was read until a part of a line was kept says nothing
  part_says : AreWhole first.passes.gone → (octets : List ℕ) → IsOpenLine octets →
      SayNothing old (first.passes.gone ++ octets)
  part_says whole octets short =
      record {
        lines = first.passes.gone;
        part = octets;
        are = refl;
        whole = whole;
        short = short;
        nothing = first.nothing;
      }

  -- it reads on, if its source wasn't at its end
  module _ {S : Type 0} (is_read : S → List ℕ → S → Type 0) (start was now : S)
      (reads : ReadsSo is_read (SayNothing old) old.kept start was first.passes.read) where
    pub reads-on : (new : Reader) (after : Option (List ℕ)) (second : Passes mid new between after) →
        (mid.ended ≡ true → now ≡ was) → ReadsSo is_read IsOpenLine mid.kept was now second.read →
        ReadsSo is_read (SayNothing old) old.kept start now (first.passes.read ++ second.read)
    reads-on new after second idle more = by_whole first.passes.whole where
      by_whole : AreWhole first.passes.gone ⊎ ((mid.ended ≡ true) × (mid.kept ≡ [])) →
          ReadsSo is_read (SayNothing old) old.kept start now (first.passes.read ++ second.read)
      by_whole (inl whole) = reads_both is_read IsOpenLine
          (SayNothing old) old.kept first.passes.gone mid.kept start was now first.passes.read second.read reads
          first.passes.octets (part_says whole) more
      by_whole (inr last) = subst
          (λ s. ReadsSo is_read (SayNothing old) old.kept start s (first.passes.read ++ second.read))
          (sym (idle last.0)) (subst (λ read. ReadsSo is_read (SayNothing old) old.kept start was read)
          (sym (append-nil first.passes.read)
          ∙ ap (λ (read : List ℕ). first.passes.read ++ read) (sym (second.stays last.0).1)) reads)

-- Lines that say nothing, and more of them.
module _ (old mid new : Reader) (before between after : Option (List ℕ)) (first : GoesOn old mid before between)
    (good : old.bad ≡ None) (second : GoesOn mid new between after) where
  abbrev pub goes-on : GoesOn old new before after
  goes-on = record {
    passes = passes-on old mid before between first good new after second.passes;
    nothing = says-both old mid before between first good new after second.passes ∙ second.nothing;
    events = second.events ∙ first.events;
    bad = second.bad;
  }
