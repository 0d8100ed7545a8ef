-- What a call answers, by what is kept before and after it.
use Rattle.std.proofs.Common.{◌≡◌, ◌≢◌, ℕ, ◌+◌, ◌-◌, ◌<◌, ◌≤◌, ◌⊎◌, Bool, true, false, not, ◌&&◌, List, [], Less, nat_cmp, arith, Option, Some, None, sym, ◌∙◌, ap, subst, inl, inr}
use Rattle.std.specs.Prelude.{nat_lt}
use Rattle.std.specs.List.{cons_option}
use Rattle.std.specs.List.Sorted.{IsStrictlySortedBy}
use Rattle.std.specs.Option.{option_and_then, option_map_or}
use Rattle.std.proofs.lemmas.Bool.{and_parts, cases_order, not-true, true≢false}
use Rattle.std.proofs.lemmas.Grind.{common_steps}
use Rattle.std.proofs.lemmas.Option.{none-some}
use Rattle.vrx_codec.specs.Meaning.{Meaning}
use Rattle.vrx_codec.specs.declared.run.Place.{Place}
use Rattle.vrx_codec.specs.declared.run.Run.{Run as RunSummary}
use Rattle.vrx_window.specs.Content.{contents}
use Rattle.vrx_window.specs.IsWindow.{IsWindow}
use Rattle.vrx_window.specs.Numbered.{Numbered, IsNumbered}
use Rattle.vrx_window.specs.Sound.{AreSound}
use Rattle.vrx_window.specs.Window.{Contents, at, is_available, is_inside, in_window, entries_in, newest_with}
use Rattle.vrx_window.specs.declared.held.Held.{Held}
use Rattle.vrx_frames.specs.Marked.{IsKeptMarked, IsMarked, IsMarkedBefore, WasLookedAt, NextFound, counts}
use Rattle.vrx_frames.specs.Completed.{AreStill, IsUpTo, Completes, Known, known_with, standing_runs}
use Rattle.vrx_frames.specs.Judging.{AnswerFound, AreHeld, span_summary, octets_of}
use Rattle.vrx_frames.specs.Parts.{parts_from}
use Rattle.vrx_frames.specs.Run.{Packets}
use Rattle.vrx_frames.specs.Kept.{IsKept, held_shape, known_of, settled_arrival}
use Rattle.vrx_frames.specs.Linked.{AreWhole, Sits, SpanFound, fact_at, starts_at}
use Rattle.vrx_frames.specs.declared.search.Span.{Span}
use Rattle.vrx_frames.specs.declared.arrival.Fact.{Fact}
use Rattle.vrx_frames.proofs.RunLemmas.{option_map-some}
use Rattle.vrx_frames.specs.declared.shape.Shape.{Shape}
use Rattle.vrx_frames.specs.declared.arrival.Arrival.{Arrival}
use Rattle.vrx_frames.proofs.KeptLemmas.{newest-moved}
use Rattle.vrx_frames.proofs.MoveLemmas.{Second, before-first, low-first, marks-first}
use Rattle.vrx_frames.proofs.ToldLemmas.{all-completed, are-held, fact-before, facts-else, facts-next, known_packets-is, stays-kept}

-- a call: what was kept, and what is kept afterwards
pub record IsCall (codec : Meaning) (window : Contents Held) (newest n : ℕ) (shape : Shape) (before : Known)
    (old ring : Numbered Arrival) : Type 0 where
  pub earlier : Option ℕ
  pub view_is : known_of earlier old ≡ before
  pub sound : AreSound codec window.packets
  pub whole : IsWindow window
  pub upto : IsUpTo before.newest window.newest
  pub newest_now : window.newest ≡ Some newest
  pub here : Held
  pub is_here : at n window.packets ≡ Some here
  pub shape_here : shape ≡ held_shape here
  pub kept : IsKept old
  pub absent : is_available n before.arrivals ≡ false
  pub still : AreStill codec window.newest (contents window.packets) before.arrivals
  pub newest_is : ring.newest ≡ Some newest
  pub entries : (m : ℕ) → at m ring.entries ≡ settled_arrival newest n shape old.entries m
  pub numbered : IsNumbered ring

-- whether the number after the one told begins newly
abbrev pub newly_begins : ℕ → ℕ → Option ℕ → List (ℕ × Arrival) → List (ℕ × Arrival) → Bool
newly_begins newest n passed before after =
    (nat_lt n newest && starts_at passed after (n + 1)) && not (nat_lt n newest && starts_at passed before (n + 1))

-- the second answer: the run of the number after, if that begins newly, and else none
abbrev pub SecondFound : Meaning → (ℕ → Option Place) → Contents Held → ℕ → ℕ → Option ℕ → List (ℕ × Arrival) →
    List (ℕ × Arrival) → Option RunSummary → Type 0
SecondFound codec place window newest n passed before after answer =
    ((newly_begins newest n passed before after ≡ true)
    × AnswerFound codec place (contents window.packets) (fact_at passed after) passed (n + 1) answer)
    ⊎ ((newly_begins newest n passed before after ≡ false) × (answer ≡ None))

-- the frame of an answer
record AnswerSpan (facts : ℕ → Option Fact) (n : ℕ) (told : RunSummary) : Type 0 where
  pub span : Span
  pub whole : AreWhole facts span.ts span.first span.last
  pub from : span.first ≤ n
  pub upto : n ≤ span.last
  pub first_is : told.first ≡ span.first

answer-span : (codec : Meaning) (place : ℕ → Option Place) (packets : Packets) (facts : ℕ → Option Fact)
    (passed : Option ℕ) (n : ℕ) (told : RunSummary) → AnswerFound codec place packets facts passed n (Some told) →
    AnswerSpan facts n told
answer-span codec place packets facts passed n told found = either found.span found.found found.is where
  either : (o : Option Span) → SpanFound facts passed n o →
      Some told ≡ option_and_then (span_summary codec place packets) o → AnswerSpan facts n told
  either None f is = absurd (none-some told (sym is))
  either (Some span) f is =
      let made : (octets : ℕ) × (octets_of codec (parts_from codec packets span.first (span.last - span.first + 1))
      ≡ Some octets) × (_ ≡ told) =
      option_map-some _ (octets_of codec (parts_from codec packets span.first (span.last - span.first + 1))) told
      (sym is) in
      record {
        span = span;
        whole = f.0;
        from = f.1;
        upto = f.2;
        first_is = sym (ap (λ (t : RunSummary). t.first) made.2);
      }

-- of two answers the first has the number told, and the second begins with the number after it
pub answers-rise : (codec : Meaning) (place : ℕ → Option Place) (packets : Packets) (passed : Option ℕ) (n : ℕ)
    (entries : List (ℕ × Arrival)) (a b : Option RunSummary) →
    AnswerFound codec place packets (fact_at passed entries) passed n a
    → (b ≡ None) ⊎ ((starts_at passed entries (n + 1) ≡ true)
    × AnswerFound codec place packets (fact_at passed entries) passed (n + 1) b) →
    IsStrictlySortedBy (λ (x y : RunSummary). nat_cmp x.first y.first) (cons_option a (cons_option b []))
unfolding IsStrictlySortedBy
answers-rise codec place packets passed n entries None None first second = tt
answers-rise codec place packets passed n entries None (Some y) first second = (tt, tt)
answers-rise codec place packets passed n entries (Some x) None first second = (tt, tt)
answers-rise codec place packets passed n entries (Some x) (Some y) first (inl none) = absurd (none-some y (sym none))
answers-rise codec place packets passed n entries (Some x) (Some y) first (inr second) =
    let s : AnswerSpan (fact_at passed entries) n x =
    answer-span codec place packets (fact_at passed entries) passed n x first in
    let t : AnswerSpan (fact_at passed entries) (n + 1) y =
    answer-span codec place packets (fact_at passed entries) passed (n + 1) y second.1 in
    let sits : Sits (fact_at passed entries) t.span.ts t.span.first t.span.last (n + 1) =
    t.whole.linked.each (n + 1) t.from t.upto in
    let starts : sits.fact.starts ≡ true =
    sym (ap (λ o. option_map_or (λ (f : Fact). f.starts) o false) sits.told) ∙ second.0 in
    let x_first : x.first ≡ s.span.first = s.first_is in
    let x_upto : s.span.first ≤ n = s.from in
    let y_first : y.first ≡ t.span.first = t.first_is in
    let here : t.span.first ≡ n + 1 =
    begins t.span.first t.from (λ less. true≢false (sym starts ∙ sits.later less)) in
    let less : x.first < y.first = omega arith in
    ((less_than x.first y.first less, tt), (tt, tt)) where
      begins : (k : ℕ) → k ≤ n + 1 → (k < n + 1 → ⊥) → k ≡ n + 1
      begins k from upto = elim (cases_order k
          (n + 1)) [
            | inl same ↦ same
            | inr other ↦ elim other [ inl less ↦ absurd (upto less) | inr more ↦ absurd (omega arith) ]
          ]

      less_than : (i j : ℕ) → i < j → nat_cmp i j ≡ Less
      less_than i j h = grind (arith, common_steps)

-- the second answer, as it rises
pub second-rises : (codec : Meaning) (place : ℕ → Option Place) (window : Contents Held) (newest n : ℕ)
    (passed : Option ℕ) (before after : List (ℕ × Arrival)) (b : Option RunSummary) →
    SecondFound codec place window newest n passed before after b
    → (b ≡ None) ⊎ ((starts_at passed after (n + 1) ≡ true)
    × AnswerFound codec place (contents window.packets) (fact_at passed after) passed (n + 1) b)
second-rises codec place window newest n passed before after b second = elim second [
  | inl new ↦ inr (
    (and_parts (nat_lt n newest) (starts_at passed after (n + 1))
        (and_parts (nat_lt n newest && starts_at passed after (n + 1))
        (not (nat_lt n newest && starts_at passed before (n + 1))) new.0).0).1,
    new.1,
  )
  | inr old ↦ inl old.1
]

module _ (codec : Meaning) (window : Contents Held) (newest n : ℕ) (shape : Shape) (passed : Option ℕ)
    (before : Known) (old ring : Numbered Arrival) (call : IsCall codec window newest n shape before old ring) where
  -- all that is available is in the window
  inside-all : (m : ℕ) → is_available m window.packets ≡ true → in_window newest m ≡ true
  inside-all m h = ap (λ o. is_inside o m) (sym call.newest_now) ∙ call.whole.packets_inside m h

  absent-known : is_available n (known_of call.earlier old).arrivals ≡ false
  absent-known = ap (λ (k : Known). is_available n k.arrivals) call.view_is ∙ call.absent

  still-known : AreStill codec (Some newest) (contents window.packets) (known_of call.earlier old).arrivals
  still-known =
      subst (λ o. AreStill codec o (contents window.packets) (known_of call.earlier old).arrivals) call.newest_now
      (subst (λ (k : Known). AreStill codec window.newest (contents window.packets) k.arrivals)
      (sym call.view_is) call.still)

  pub call-kept : IsKept ring
  call-kept = stays-kept codec window.packets newest n shape call.earlier passed old ring call.here call.sound
      inside-all call.is_here call.shape_here call.kept absent-known still-known call.newest_is call.entries
      call.numbered

  pub call-held : AreHeld (fact_at passed ring.entries) window.packets
  call-held = are-held codec window.packets newest n shape call.earlier passed old ring call.here call.sound
      inside-all call.is_here call.shape_here call.kept absent-known still-known call.newest_is call.entries
      call.numbered

  pub call-known : known_of passed ring ≡ known_with codec window.newest n passed (contents window.packets) before
  call-known =
      known_packets-is codec window.packets newest n shape call.earlier passed old ring call.here call.sound
      inside-all call.is_here call.shape_here call.kept absent-known still-known call.newest_is call.entries
      call.numbered
      ∙ ap (λ k. known_with codec (Some newest) n passed (contents window.packets) k) call.view_is
      ∙ ap (λ o. known_with codec o n passed (contents window.packets) before) (sym call.newest_now)

  pub call-completes : (place : ℕ → Option Place) (a b : Option RunSummary) (answers : List RunSummary) →
      answers ≡ cons_option a (cons_option b []) →
      AnswerFound codec place (contents window.packets) (fact_at passed ring.entries) passed n a
      → SecondFound codec place window newest n passed old.entries ring.entries b
      → Completes (standing_runs codec place passed before (contents window.packets))
      (standing_runs codec place passed (known_of passed ring) (contents window.packets)) answers
  call-completes place a b answers listed first second =
      subst (λ rs. Completes (standing_runs codec place passed before (contents window.packets))
      (standing_runs codec place passed (known_of passed ring) (contents window.packets)) rs) (sym listed)
      (subst (λ k. Completes (standing_runs codec place passed k (contents window.packets))
      (standing_runs codec place passed (known_of passed ring) (contents window.packets))
      (cons_option a (cons_option b []))) call.view_is
      (all-completed codec window.packets newest n shape call.earlier passed old ring call.here call.sound inside-all
      call.is_here call.shape_here call.kept absent-known still-known call.newest_is call.entries call.numbered
      place a b first
      (λ h. elim second [ inl yes' ↦ yes'.1 | inr no' ↦ absurd (true≢false (sym h ∙ no'.0)) ])
      (λ h. elim second [ inl yes' ↦ absurd (true≢false (sym yes'.0 ∙ h)) | inr no' ↦ no'.1 ])))

  -- what was told before isn't beyond the newest number
  upto-newest : IsUpTo old.newest (Some newest)
  upto-newest = subst (IsUpTo old.newest) call.newest_now
      (subst (λ (k : Known). IsUpTo k.newest window.newest) (sym call.view_is) call.upto)

  -- the marks: those before, those once the window moved, and those once the number after was looked at
  module _ (place : ℕ → Option Place) (marks moved second : Numbered ℕ) (newly : Bool) (b : Option RunSummary)
      (newly_is : newly ≡ newly_begins newest n passed old.entries ring.entries)
      (marked : IsMarked passed old marks)
      (moved_newest : moved.newest ≡ Some (newest_with marks.newest newest))
      (moved_is : moved.entries ≡ entries_in (newest_with marks.newest newest) marks.entries)
      (next : NextFound codec place (contents window.packets) (fact_at passed ring.entries)
      (counts ring.newest passed) passed (n + 1) newly moved.entries second.entries b) where
    next-is : newest_with marks.newest newest ≡ newest
    next-is = ap (λ o. newest_with o newest) marked.newest_is ∙ newest-moved old.newest newest upto-newest

    begins : newly ≡ true → (starts_at passed ring.entries (n + 1) ≡ true)
        × (starts_at passed old.entries (n + 1) ≡ false)
    begins h =
        let p : ((nat_lt n newest && starts_at passed ring.entries (n + 1)) ≡ true)
        × (not (nat_lt n newest && starts_at passed old.entries (n + 1)) ≡ true) =
        and_parts (nat_lt n newest && starts_at passed ring.entries (n + 1))
        (not (nat_lt n newest && starts_at passed old.entries (n + 1))) (sym newly_is ∙ h) in
        let q : (nat_lt n newest ≡ true) × (starts_at passed ring.entries (n + 1) ≡ true) =
        and_parts (nat_lt n newest) (starts_at passed ring.entries (n + 1)) p.0 in (
          q.1,
          sym (ap (λ c. c && starts_at passed old.entries (n + 1)) q.0)
              ∙ not-true (nat_lt n newest && starts_at passed old.entries (n + 1)) p.1,
        )

    else-same : (m : ℕ) → in_window newest m ≡ true → m ≢ n → m ≢ n + 1 →
        fact_at passed ring.entries m ≡ fact_at passed old.entries m
    else-same = facts-else codec window.packets newest n shape call.earlier passed old ring call.here call.sound
        inside-all call.is_here call.shape_here call.kept absent-known still-known call.newest_is call.entries
        call.numbered

    none-before : fact_at passed old.entries n ≡ None
    none-before = fact-before codec window.packets newest n shape call.earlier passed old ring call.here call.sound
        inside-all call.is_here call.shape_here call.kept absent-known still-known call.newest_is call.entries
        call.numbered

    next-same : in_window newest (n + 1) ≡ true → newly ≡ false →
        fact_at passed ring.entries (n + 1) ≡ fact_at passed old.entries (n + 1)
    next-same inside h = facts-next codec window.packets newest n shape call.earlier passed old ring call.here
        call.sound inside-all call.is_here call.shape_here call.kept absent-known still-known call.newest_is
        call.entries call.numbered inside (sym newly_is ∙ h)

    answered : (first : Numbered ℕ) →
        Second passed newest n old ring marks moved second first call.kept.numbered call.numbered marked upto-newest
        call.newest_is moved_is next-is else-same none-before newly
    answered first = elim next [ inl new ↦ inl (new.0, new.1.looked) | inr gone ↦ inr (gone.0, gone.2) ]

    pub call-before : IsMarkedBefore (fact_at passed ring.entries) (counts ring.newest passed)
        (starts_at passed ring.entries n) n second.entries
    call-before = before-first passed newest n old ring marks moved second second call.kept.numbered call.numbered
        marked upto-newest call.newest_is moved_is next-is else-same none-before newly begins next-same
        (answered second)

    pub call-marked : (first : Numbered ℕ) →
        WasLookedAt (fact_at passed ring.entries) (counts ring.newest passed) n second.entries first.entries →
        second.newest ≡ moved.newest → first.newest ≡ second.newest → IsNumbered first →
        IsKeptMarked passed ring first
    call-marked first l second_newest first_newest numbered = record {
      kept = call-kept;
      marked = record {
        newest_is = first_newest ∙ second_newest ∙ moved_newest ∙ ap Some next-is ∙ sym call.newest_is;
        numbered = numbered;
        low = low-first passed newest n old ring marks moved second first call.kept.numbered call.numbered marked
            upto-newest call.newest_is moved_is next-is else-same none-before newly begins next-same
            (answered first) l;
        marked = marks-first passed newest n old ring marks moved second first call.kept.numbered call.numbered marked
            upto-newest call.newest_is moved_is next-is else-same none-before newly begins next-same
            (answered first) l;
      };
    }

    pub call-second : SecondFound codec place window newest n passed old.entries ring.entries b
    call-second = elim next [
      | inl new ↦ inl (sym newly_is ∙ new.0, new.1.found)
      | inr gone ↦ inr
          (sym newly_is ∙ gone.0, gone.1)
    ]
