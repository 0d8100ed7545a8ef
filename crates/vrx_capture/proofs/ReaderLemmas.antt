-- Lemmas on the steps of a reader.
use Rattle.std.proofs.Common.{◌≡◌, ◌⊎◌, ℕ, ◌+◌, ◌<◌, ◌≤◌, ◌==◌, Bool, true, false, List, [], ◌∷◌, ◌++◌, length, take, drop, Option, Some, None, Result, Ok, Err, refl, sym, ap, ◌∙◌, inl, inr, append_assoc, arith}
use Rattle.std.proofs.lemmas.Bool.{cases_lt}
use Rattle.std.proofs.lemmas.List.{append-nil, take-append-drop, drop_all, length-take-le}
use Rattle.vrx_capture.specs.Line.{feed_place, lines_of, longest_line, most_lines, IsOpenLine}
use Rattle.vrx_capture.specs.Reading.{sound, bad_at, with_line, reading}
use Rattle.vrx_io.specs.Reads.{ReadsSo}
use Rattle.vrx_capture.specs.Holding.{ReadsOn}
use Rattle.vrx_capture.specs.Found.{IsFirstLine}
use Rattle.vrx_capture.specs.Reader.{Reader, says, AreWhole, MayFollow, Passes, IsNext, AllSayBad, SayNothing, HasNoFeed, HasNoHead}
use Rattle.vrx_capture.specs.Step.{GoesOn, IsTaken, IsStep, KeepsCounts, holding_of, long_reason, after_passing}
use Rattle.vrx_core.specs.declared.event.Event.{Event}
use Rattle.vrx_capture.specs.declared.line.LineKind.{LineKind}
use Rattle.vrx_capture.specs.declared.line.LineKind.TheVariants.{Blank, Happens, Wrong}
use Rattle.vrx_capture.specs.declared.line.LineReason.{LineReason}
use Rattle.vrx_capture.specs.declared.lines.Line.{Line}
use Rattle.vrx_capture.specs.declared.lines.Line.TheVariants as lines
use Rattle.vrx_capture.specs.declared.lines.LineFault.{LineFault}
use Rattle.vrx_capture.specs.declared.lines.LineFault.TheVariants as faults
use Rattle.vrx_capture.proofs.PlaceLemmas.{place_within}
use Rattle.vrx_capture.proofs.LinesLemmas.{first_line, whole_line, first_length, feed_le_first}
use Rattle.vrx_capture.proofs.LineLemmas.{long_line}
use Rattle.vrx_capture.proofs.AheadLemmas.{ahead-none}
use Rattle.vrx_capture.proofs.JoinLemmas.{lines_join}
use Rattle.vrx_capture.proofs.SaysLemmas.{kind_of, says-first, says-none, next-on, passes-on, goes-on, reads-on}

-- ---- a reader that did nothing

pub none_given : (n : ℕ) → n ≡ n + length (lines_of [])
unfolding lines_of
none_given n = omega arith

abbrev pub passes_none : (reader : Reader) (left : Option (List ℕ)) → Passes reader reader left left
passes_none reader left = record {
  read = [];
  gone = [];
  source = ahead-none left;
  end = λ ended. inl ended;
  stays = λ ended. (ended, refl);
  octets = append-nil reader.kept;
  whole = inl (inl refl);
  given = none_given reader.given;
  max = refl;
}

abbrev pub goes_none : (reader : Reader) (left : Option (List ℕ)) → reader.bad ≡ None → GoesOn reader reader left left
goes_none reader left good =
    record { passes = passes_none reader left; nothing = says-none reader good; events = refl; bad = good }

-- it met a bad line before
pub next_bad : (reader : Reader) (left : Option (List ℕ)) (k : ℕ) (reason : LineReason) →
    reader.bad ≡ Some (k, reason) → (so : List ℕ → Type 0) → so [] →
    (passes : Passes reader reader left left)
    × IsNext reader reader passes.read passes.gone (Err (faults.Bad k reason)) × so passes.read
next_bad reader left k reason bad so none = (passes_none reader left, (λ more may. rw bad refl, refl, bad), none)

-- so many lines were given that the next has no number
pub head_full : (reader : Reader) (left : Option (List ℕ)) → most_lines ≤ reader.given → (so : List ℕ → Type 0) →
    so [] → (passes : Passes reader reader left left)
    × ((passes.gone ≡ []) × (reader.given < most_lines → (more : List ℕ) → MayFollow reader more →
    HasNoHead (lines_of (reader.kept ++ passes.read ++ more)))) × so passes.read
head_full reader left full so none = (passes_none reader left, (refl, λ fewer. absurd (omega arith)), none)

-- ---- the front of what is kept

pub len_within : (kept : List ℕ) (ended : Bool) (len : ℕ) → IsFirstLine kept ended len → len ≤ length kept
len_within kept ended len first = omega (arith, first.place, place_within (λ octet. octet == 10) kept)

-- The first line kept.
module _ (kept : List ℕ) (ended : Bool) (len : ℕ) (first : IsFirstLine kept ended len) where
  some_by : (len < length kept) ⊎ ((0 < len) × (ended ≡ true)) → 0 < length kept
  some_by (inl within) = omega arith
  some_by (inr last) = omega (arith, last.0, len_within kept ended len first)

  pub gone_line : lines_of (take (len + 1) kept) ≡ take len kept ∷ []
  gone_line = rw first.place (first_line kept (some_by first.whole))

  whole_by : (len < length kept) ⊎ (length kept ≤ len) → (len < length kept) ⊎ ((0 < len) × (ended ≡ true)) →
      AreWhole (take (len + 1) kept) ⊎ ((ended ≡ true) × (drop (len + 1) kept ≡ []))
  whole_by (inl within) known = inl (rw first.place (whole_line kept (omega (arith, first.place))))
  whole_by (inr beyond) (inl within) = absurd (omega arith)
  whole_by (inr beyond) (inr last) = inr (last.1, drop_all (len + 1) kept (omega arith))

  pub gone_whole : AreWhole (take (len + 1) kept) ⊎ ((ended ≡ true) × (drop (len + 1) kept ≡ []))
  gone_whole = whole_by (cases_lt len (length kept)) first.whole

  pub parted : take (len + 1) kept ++ drop (len + 1) kept ≡ kept
  parted = take-append-drop (len + 1) kept

  first_by : (more : List ℕ) → (ended ≡ true → more ≡ []) →
      AreWhole (take (len + 1) kept) ⊎ ((ended ≡ true) × (drop (len + 1) kept ≡ [])) →
      (others : List (List ℕ)) × (lines_of (kept ++ more) ≡ take len kept ∷ others)
  first_by more may (inl whole) =
      let octets : kept ++ more ≡ take (len + 1) kept ++ (drop (len + 1) kept ++ more) =
      ap (λ (xs : List ℕ). xs ++ more) (sym parted)
      ∙ append_assoc (take (len + 1) kept) (drop (len + 1) kept) more in
      let lines : lines_of (kept ++ more) ≡ lines_of (take (len + 1) kept) ++ lines_of (drop (len + 1) kept ++ more) =
      ap lines_of octets ∙ lines_join (take (len + 1) kept) (drop (len + 1) kept ++ more) whole in (
        lines_of (drop (len + 1) kept ++ more),
        lines
            ∙ ap (λ (xs : List (List ℕ)). xs ++ lines_of (drop (len + 1) kept ++ more)) gone_line,
      )
  first_by more may (inr last) =
      let whole : take (len + 1) kept ≡ kept = sym (append-nil (take (len + 1) kept))
      ∙ ap (λ (xs : List ℕ). take (len + 1) kept ++ xs) (sym last.1) ∙ parted in
      let octets : kept ++ more ≡ take (len + 1) kept =
      ap (λ (xs : List ℕ). kept ++ xs) (may last.0) ∙ append-nil kept ∙ sym whole in
      ([], ap lines_of octets ∙ gone_line)

  -- it is the first, whatever follows
  pub first_of : (more : List ℕ) → (ended ≡ true → more ≡ []) →
      (others : List (List ℕ)) × (lines_of (kept ++ more) ≡ take len kept ∷ others)
  first_of more may = first_by more may gone_whole

-- ---- lines that are too long

long_says : (reader : Reader) (octets : List ℕ) (lines : List (List ℕ)) → reader.bad ≡ None →
    lines_of octets ≡ lines → longest_line < first_length lines →
    says reader octets ≡ bad_at (reader.given + 1, long_reason (reader.given + 1))
long_says reader octets [] good is long = absurd (omega arith)
long_says reader octets (line ∷ others) good is long =
    let kind : kind_of reader line ≡ Wrong (long_reason (reader.given + 1)) =
    long_line reader.max (reader.given + 1) reader.events line long in
    says-first reader octets line others good is ∙ rw kind refl

HasNoHead-first_length : (lines : List (List ℕ)) → longest_line < first_length lines → HasNoHead lines
HasNoHead-first_length [] long = tt
HasNoHead-first_length (line ∷ lines) long = long

no_head : (kept more : List ℕ) → kept ≡ [] → more ≡ [] → HasNoHead (lines_of (kept ++ more))
unfolding lines_of
no_head kept more none nothing = rw (none, nothing) tt

-- After a find, which left a reader `mid`.
module _ (old mid : Reader) (before after : Option (List ℕ))
    (reads : ReadsOn (holding_of old) (holding_of mid) before after) (counts : KeepsCounts old mid)
    (so : List ℕ → Type 0) (read_so : so reads.read) where
  pub given_same : mid.given ≡ old.given
  given_same = ap (λ (r : Reader). r.given) counts

  events_same : mid.events ≡ old.events
  events_same = ap (λ (r : Reader). r.events) counts

  pub max_same : mid.max ≡ old.max
  max_same = ap (λ (r : Reader). r.max) counts

  bad_same : mid.bad ≡ old.bad
  bad_same = ap (λ (r : Reader). r.bad) counts

  -- the same lines say the same to both
  says_same : (octets : List ℕ) → says old octets ≡ says mid octets
  says_same octets = rw (given_same, events_same, max_same, bad_same) refl

  -- what it did, if it passed over octets then
  abbrev pub made : (new : Reader) (gone : List ℕ) → mid.kept ≡ gone ++ new.kept → new.ended ≡ mid.ended →
      new.given ≡ mid.given + length (lines_of gone) → new.max ≡ mid.max →
      AreWhole gone ⊎ ((new.ended ≡ true) × (new.kept ≡ [])) → Passes old new before after
  made new gone octets ended given max whole = record {
    read = reads.read;
    gone = gone;
    source = reads.source;
    end = λ was. reads.end (sym ended ∙ was);
    stays = λ was. (ended ∙ (reads.stays was).0, (reads.stays was).1);
    octets = sym reads.octets ∙ octets;
    whole = whole;
    given = given ∙ ap (λ (n : ℕ). n + length (lines_of gone)) given_same;
    max = max ∙ max_same;
  }

  -- if it passed over none
  abbrev pub made_none : (new : Reader) → new.kept ≡ mid.kept → new.ended ≡ mid.ended → new.given ≡ mid.given →
      new.max ≡ mid.max → Passes old new before after
  made_none new kept ended given max =
      made new [] (sym kept) ended (given ∙ none_given mid.given) max (inl (inl refl))

  -- if it passed over its first line
  abbrev pub made_line : (new : Reader) (len : ℕ) → IsFirstLine mid.kept mid.ended len →
      new.kept ≡ drop (len + 1) mid.kept → new.ended ≡ mid.ended → new.given ≡ mid.given + 1 → new.max ≡ mid.max →
      Passes old new before after
  made_line new len first kept ended given max =
      made new (take (len + 1) mid.kept)
      (sym (parted mid.kept mid.ended len first) ∙ ap (λ (xs : List ℕ). take (len + 1) mid.kept ++ xs) (sym kept))
      ended (given ∙ ap (λ (xs : List (List ℕ)). mid.given + length xs)
      (sym (gone_line mid.kept mid.ended len first))) max (rw (ended, kept) (gone_whole mid.kept mid.ended len first))

  -- all octets that were kept and read
  kept_read : (more : List ℕ) → (old.kept ++ reads.read) ++ more ≡ mid.kept ++ more
  kept_read more = ap (λ (xs : List ℕ). xs ++ more) (sym reads.octets)

  -- ---- head lines

  pub head_failed : HasNoFeed mid.kept → mid.ended ≡ false → length mid.kept ≤ longest_line →
      (passes : Passes old mid before after)
      × ((passes.gone ≡ []) × HasNoFeed mid.kept × (mid.ended ≡ false) × (length mid.kept ≤ longest_line))
      × so passes.read
  head_failed no_feed going short = (made_none mid refl refl refl refl, (refl, no_feed, going, short), read_so)

  pub head_no_memory : (new : Reader) → new ≡ mid →
      (passes : Passes old new before after) × (passes.gone ≡ []) × so passes.read
  head_no_memory new same = rw same (made_none mid refl refl refl refl, refl, read_so)

  pub head_end : mid.kept ≡ [] → mid.ended ≡ true →
      (passes : Passes old mid before after)
      × ((passes.gone ≡ []) × (old.given < most_lines → (more : List ℕ) → MayFollow mid more →
      HasNoHead (lines_of (old.kept ++ passes.read ++ more)))) × so passes.read
  head_end none ended = (
    made_none mid refl refl refl refl,
    (refl, λ fewer more may. rw (kept_read more) (no_head mid.kept more none (may ended))),
    read_so,
  )

  pub head_too_long : longest_line < feed_place mid.kept →
      (passes : Passes old mid before after)
      × ((passes.gone ≡ []) × (old.given < most_lines → (more : List ℕ) → MayFollow mid more →
      HasNoHead (lines_of (old.kept ++ passes.read ++ more)))) × so passes.read
  head_too_long long = (
    made_none mid refl refl refl refl,
    (
      refl,
      λ fewer more may.
          rw (kept_read more) (HasNoHead-first_length (lines_of (mid.kept ++ more))
          (omega (arith, feed_le_first mid.kept more))),
    ),
    read_so,
  )

  pub head_given : (new : Reader) (len : ℕ) (line : List ℕ) → IsFirstLine mid.kept mid.ended len →
      new ≡ after_passing mid len 0 → line ≡ take len mid.kept →
      (passes : Passes old new before after) × ((lines_of passes.gone ≡ line ∷ []) × (length line ≤ longest_line))
      × so passes.read
  head_given new len line first is told =
      rw (is, told) (
        made_line (after_passing mid len 0) len first refl refl refl refl,
        (
          gone_line mid.kept mid.ended len first,
          omega (arith, first.short, length-take-le len mid.kept (len_within mid.kept mid.ended len first)),
        ),
        read_so,
      )

  -- ---- events

  module _ (good : old.bad ≡ None) where
    mid_good : mid.bad ≡ None
    mid_good = bad_same ∙ good

    pub found_failed : HasNoFeed mid.kept → mid.ended ≡ false → length mid.kept ≤ longest_line →
        (passes : Passes old mid before after) × IsNext old mid passes.read passes.gone (Err faults.ReadFault)
        × so passes.read
    found_failed no_feed going short = (
      made_none mid refl refl refl refl,
      (says-none old good, no_feed, going, events_same, mid_good, short),
      read_so,
    )

    pub found_end : mid.kept ≡ [] → mid.ended ≡ true →
        (passes : Passes old mid before after) × IsNext old mid passes.read passes.gone (Ok lines.End)
        × so passes.read
    found_end none ended =
        (made_none mid refl refl refl refl, (says-none old good, none, ended, events_same, mid_good), read_so)

    pub found_too_long : (new : Reader) (fault : LineFault) →
        new ≡ record mid { bad = Some (mid.given + 1, long_reason (mid.given + 1)) } →
        fault ≡ faults.Bad (mid.given + 1) (long_reason (mid.given + 1)) → longest_line < feed_place mid.kept →
        (passes : Passes old new before after) × IsNext old new passes.read passes.gone (Err fault) × so passes.read
    found_too_long new fault is told long =
        rw (told, is) (
          made_none
              (record mid { bad = Some (mid.given + 1, long_reason (mid.given + 1)) }) refl refl refl refl,
          (all, events_same, refl),
          read_so,
        )
      where
        all : AllSayBad old (record mid { bad = Some (mid.given + 1, long_reason (mid.given + 1)) })
            (old.kept ++ reads.read) (mid.given + 1, long_reason (mid.given + 1))
        all more may = rw (kept_read more)
            (says_same (mid.kept ++ more)
            ∙ long_says mid (mid.kept ++ more) (lines_of (mid.kept ++ more)) mid_good refl
            (omega (arith, feed_le_first mid.kept more)))

    -- what the first line says
    says_gone : (len : ℕ) (kind : LineKind) → IsFirstLine mid.kept mid.ended len →
        kind_of mid (take len mid.kept) ≡ kind →
        says old (take (len + 1) mid.kept) ≡ with_line (mid.given + 1) kind (sound [])
    unfolding reading
    says_gone len kind first is = says_same (take (len + 1) mid.kept)
        ∙ says-first mid (take (len + 1) mid.kept) (take len mid.kept) [] mid_good
        (gone_line mid.kept mid.ended len first) ∙ rw is refl

    wrong_all : (new : Reader) (len : ℕ) (reason : LineReason) → IsFirstLine mid.kept mid.ended len →
        kind_of mid (take len mid.kept) ≡ Wrong reason → new.ended ≡ mid.ended →
        AllSayBad old new (old.kept ++ reads.read) (mid.given + 1, reason)
    wrong_all new len reason first is ended more may =
        let line = first_of mid.kept mid.ended len first more (λ was. may (ended ∙ was)) in
        rw (kept_read more) (says_same (mid.kept ++ more)
        ∙ says-first mid (mid.kept ++ more) (take len mid.kept) line.0 mid_good line.1 ∙ rw is refl)

    event_given : (len : ℕ) (event : Event) → IsFirstLine mid.kept mid.ended len →
        kind_of mid (take len mid.kept) ≡ Happens event → mid.events + 1 ≤ mid.max →
        (passes : Passes old (after_passing mid len 1) before after)
        × IsNext old (after_passing mid len 1) passes.read passes.gone (Ok (lines.Event (mid.given + 1) event))
        × so passes.read
    event_given len event first is fewer = (
      made_line (after_passing mid len 1) len first refl refl refl refl,
      (says_gone len (Happens event) first is, ap (λ (n : ℕ). n + 1) events_same, fewer, mid_good),
      read_so,
    )

    bad_given : (len : ℕ) (reason : LineReason) → IsFirstLine mid.kept mid.ended len →
        kind_of mid (take len mid.kept) ≡ Wrong reason →
        (passes : Passes old (record mid { bad = Some (mid.given + 1, reason) }) before after)
        × IsNext old (record mid { bad = Some (mid.given + 1, reason) }) passes.read passes.gone
        (Err (faults.Bad (mid.given + 1) reason)) × so passes.read
    bad_given len reason first is = (
      made_none (record mid { bad = Some (mid.given + 1, reason) }) refl refl refl refl,
      (wrong_all (record mid { bad = Some (mid.given + 1, reason) }) len reason first is refl, events_same, refl),
      read_so,
    )

    pub found_taken : (new : Reader) (len : ℕ) (result : Result (Option Line) LineFault) →
        IsFirstLine mid.kept mid.ended len → IsTaken mid (kind_of mid (take len mid.kept)) len new result →
        IsStep so old new before after result
    found_taken new len (Ok None) first taken = rw taken.1 (
      record {
        passes = made_line (after_passing mid len 0) len first refl refl refl refl;
        nothing = says_gone len Blank first taken.0;
        events = omega (arith, events_same);
        bad = mid_good;
      },
      read_so,
    )
    found_taken new len (Ok (Some (lines.Event k event))) first taken =
        rw (taken.1, taken.2) (event_given len event first taken.0 (rw taken.2 at taken.3))
    found_taken new len (Ok (Some lines.End)) first taken = absurd taken
    found_taken new len (Err (faults.Bad k reason)) first taken =
        rw (taken.1, rw taken.1 at taken.2) (bad_given len reason first taken.0)
    found_taken new len (Err faults.ReadFault) first taken = absurd taken
    found_taken new len (Err faults.NoMemory) first taken =
        rw taken (made_none mid refl refl refl refl, (says-none old good, events_same, mid_good), read_so)

-- ---- several steps

-- After steps over lines that say nothing.
module _ (old mid : Reader) (before between : Option (List ℕ)) (first : GoesOn old mid before between)
    (good : old.bad ≡ None) where
  pub next_after : {S : Type 0} (is_read : S → List ℕ → S → Type 0) (start was now : S) →
      ReadsSo is_read (SayNothing old) old.kept start was first.passes.read → (mid.ended ≡ true → now ≡ was) →
      (new : Reader) (after : Option (List ℕ)) (result : Result Line LineFault)
      → (passes : Passes mid new between after) × IsNext mid new passes.read passes.gone result
      × ReadsSo is_read IsOpenLine mid.kept was now passes.read →
      (passes : Passes old new before after) × IsNext old new passes.read passes.gone result
      × ReadsSo is_read (SayNothing old) old.kept start now passes.read
  next_after is_read start was now reads idle new after result second = (
    passes-on old mid before between first good new after second.0,
    next-on old mid before between first good new after second.0 result second.1,
    reads-on old mid before between first good is_read start was now reads new after second.0 idle second.2,
  )

  -- a step over a line that says nothing
  pub goes_after : {S : Type 0} (is_read : S → List ℕ → S → Type 0) (start was now : S) →
      ReadsSo is_read (SayNothing old) old.kept start was first.passes.read → (mid.ended ≡ true → now ≡ was) →
      (new : Reader) (after : Option (List ℕ))
      → (goes : GoesOn mid new between after) × ReadsSo is_read IsOpenLine mid.kept was now goes.passes.read →
      (goes : GoesOn old new before after) × ReadsSo is_read (SayNothing old) old.kept start now goes.passes.read
  goes_after is_read start was now reads idle new after second = (
    goes-on old mid new before between after first good second.0,
    reads-on old mid before between first good is_read start was now reads new after second.0.passes idle second.1,
  )

  -- and no read after its end
  pub idle_source : {A : Type 0} (start was now : A) → (old.ended ≡ true → was ≡ start) →
      (mid.ended ≡ true → now ≡ was) → old.ended ≡ true → now ≡ start
  idle_source start was now idle still ended = still (first.passes.stays ended).0 ∙ idle ended
