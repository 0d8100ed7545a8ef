-- What was read of a capture, after its first line, and what each call of the reader adds.
use Rattle.std.proofs.Common.{◌≡◌, ◌⊎◌, ℕ, ◌+◌, true, false, List, [], ◌∷◌, ◌++◌, length, refl, sym, ap, subst, ◌∙◌, inl, inr, append_assoc, append-nil, arith}
use Rattle.std.specs.Prelude.{Option, Some, None}
use Rattle.std.specs.Option.{option_map}
use Rattle.std.proofs.lemmas.List.{length-append}
use Rattle.std.proofs.lemmas.Option.{same_Some, none-some}
use Rattle.vrx_io.specs.Source.{IsSpent}
use Rattle.vrx_core.specs.declared.event.Event.{Event}
use Rattle.vrx_capture.specs.Line.{lines_of}
use Rattle.vrx_capture.specs.Reading.{Reading, sound, bad_at, reading}
use Rattle.vrx_capture.specs.Ahead.{ahead}
use Rattle.vrx_capture.specs.Reader.{Reader, opening, says, AreWhole, MayFollow, Passes, AllSayBad}
use Rattle.vrx_program.specs.HasRead.{HasRead}
use Rattle.vrx_capture.specs.Joins.{LinesJoin, ReadingsJoin, behind_events}
use Rattle.vrx_capture.specs.declared.line.LineReason.{LineReason}

pub ahead-twice : (a b : List ℕ) (left : Option (List ℕ)) → ahead a (ahead b left) ≡ ahead (a ++ b) left
unfolding ahead
ahead-twice a b None = refl
ahead-twice a b (Some octets) = ap Some (sym (append_assoc a b octets))

pub ahead-told : (octets capture : List ℕ) (left : Option (List ℕ)) → Some capture ≡ ahead octets left →
    (rest : List ℕ) × (left ≡ Some rest) × (capture ≡ octets ++ rest)
unfolding ahead
ahead-told octets capture None is = absurd (none-some _ (sym is))
ahead-told octets capture (Some rest) is = (rest, refl, same_Some _ _ is)

no_more : {A : Type 0} (xs ys : List A) → [] ≡ xs ++ ys → (xs ≡ []) × (ys ≡ [])
no_more [] ys is = (refl, sym is)
no_more (x ∷ xs) ys is = cc is

-- whole lines and whole lines are whole lines
pub whole-both : (a b : List ℕ) → AreWhole a → AreWhole b → AreWhole (a ++ b)
whole-both a b one (inl none) = subst AreWhole (sym (ap (λ x. a ++ x) none ∙ append-nil a)) one
whole-both a b one (inr (front, is)) = inr (a ++ front, ap (λ x. a ++ x) is ∙ sym (append_assoc a front (10 ∷ [])))

-- where nothing was read of a spent source, it is spent
spent_still : (mid left : Option (List ℕ)) (read : List ℕ) → mid ≡ ahead read left → read ≡ [] → IsSpent mid →
    IsSpent left
unfolding ahead
spent_still mid None read is none s = tt
spent_still mid (Some octets) read is none s =
    subst IsSpent (is ∙ ap (λ o. option_map (λ x. o ++ x) (Some octets)) none) s

no_lines : (n : ℕ) → n + length (lines_of []) ≡ n
unfolding lines_of
no_lines n = omega arith

module _ (lines_join : LinesJoin) (readings_join : ReadingsJoin) (max : ℕ) (before : Option (List ℕ))
    (first : List ℕ) where
  -- what a reader says of no octets
  says-none : (reader : Reader) → reader.bad ≡ None → says reader [] ≡ sound []
  unfolding lines_of reading
  says-none reader bad = rw bad refl

  says-sound : (reader : Reader) (octets : List ℕ) → reader.bad ≡ None →
      says reader octets ≡ reading reader.max (reader.given + 1) reader.events (lines_of octets)
  says-sound reader octets bad = rw bad refl

  behind-none : (events : List (ℕ × Event)) (r : Reading) (more : List (ℕ × Event)) → r ≡ sound more →
      behind_events events r ≡ sound (events ++ more)
  behind-none events r more is = rw is refl

  -- one call more: the lines that it passed over give these events
  pub reads-on : (old new : Reader) (mid after : Option (List ℕ)) (events more : List (ℕ × Event))
      (r : HasRead max before first old mid events) (p : Passes old new mid after)
      → says old p.gone ≡ sound more → new.events ≡ old.events + length more → new.bad ≡ None →
      (now : HasRead max before first new after (events ++ more))
      × ((r.gone ++ old.kept) ++ p.read ≡ now.gone ++ new.kept)
  reads-on old new mid after events more r p said count sound_now = by_whole r.whole where
    rest : List (List ℕ)
    rest = lines_of p.gone

    end_now : new.ended ≡ true → IsSpent after
    end_now ended = by_end (p.end ended) where
      by_end : (old.ended ≡ true) ⊎ IsSpent after → IsSpent after
      by_end (inl was) = spent_still mid after p.read p.source (p.stays was).1 (r.end was)
      by_end (inr now) = now

    source_now : before ≡ ahead ((r.gone ++ p.gone) ++ new.kept) after
    source_now = r.source ∙ ap (ahead (r.gone ++ old.kept)) p.source ∙ ahead-twice (r.gone ++ old.kept) p.read after
        ∙ ap (λ o. ahead o after)
        (append_assoc r.gone old.kept p.read ∙ ap (λ o. r.gone ++ o) p.octets
        ∙ sym (append_assoc r.gone p.gone new.kept))

    in_whole : AreWhole r.gone →
        (now : HasRead max before first new after (events ++ more))
        × ((r.gone ++ old.kept) ++ p.read ≡ now.gone ++ new.kept)
    in_whole whole = (
      record {
        gone = r.gone ++ p.gone;
        others = r.others ++ rest;
        source = source_now;
        lines = lines_join r.gone p.gone whole ∙ ap (λ l. l ++ rest) r.lines;
        gives = readings_join max 2 0 r.others rest events r.gives ∙ behind-none events _ more behind_is;
        whole = whole_now p.whole;
        end = end_now;
        given = p.given ∙ omega (arith, r.given, length-append r.others rest);
        count = count ∙ omega (arith, r.count, length-append events more);
        max_is = p.max ∙ r.max_is;
        bad = sound_now;
      },
      append_assoc r.gone old.kept p.read ∙ ap (λ o. r.gone ++ o) p.octets
          ∙ sym (append_assoc r.gone p.gone new.kept),
    ) where
      behind_is : reading max (2 + length r.others) (0 + length events) rest ≡ sound more
      behind_is = ap (λ k. reading max k (0 + length events) rest) (omega (arith, r.given))
          ∙ ap (λ n. reading max (old.given + 1) n rest) (omega (arith, r.count))
          ∙ ap (λ m. reading m (old.given + 1) old.events rest) (sym r.max_is)
          ∙ sym (says-sound old p.gone r.bad) ∙ said

      whole_now : AreWhole p.gone ⊎ ((new.ended ≡ true) × (new.kept ≡ [])) →
          AreWhole (r.gone ++ p.gone) ⊎ ((new.ended ≡ true) × (new.kept ≡ []))
      whole_now (inl w) = inl (whole-both r.gone p.gone whole w)
      whole_now (inr last) = inr last

    in_end : (old.ended ≡ true) × (old.kept ≡ []) →
        (now : HasRead max before first new after (events ++ more))
        × ((r.gone ++ old.kept) ++ p.read ≡ now.gone ++ new.kept)
    in_end (ended, kept) = (
      record {
        gone = r.gone;
        others = r.others;
        source = subst (λ o. before ≡ ahead o after)
            (ap (λ g. (r.gone ++ g) ++ new.kept) nothing.0 ∙ ap (λ g. g ++ new.kept) (append-nil r.gone)) source_now;
        lines = r.lines;
        gives = r.gives ∙ ap sound (sym (ap (λ m. events ++ m) none ∙ append-nil events));
        whole = inr (stays.0, nothing.1);
        end = end_now;
        given = p.given ∙ ap (λ g. old.given + length (lines_of g)) nothing.0 ∙ no_lines old.given ∙ r.given;
        count = count ∙ ap (λ m. old.events + length m) none ∙ omega (arith, r.count)
            ∙ ap length (sym (ap (λ m. events ++ m) none ∙ append-nil events));
        max_is = p.max ∙ r.max_is;
        bad = sound_now;
      },
      ap (λ k. (r.gone ++ k) ++ p.read) kept ∙ ap (λ o. (r.gone ++ []) ++ o) stays.1 ∙ append-nil (r.gone ++ [])
          ∙ ap (λ k. r.gone ++ k) (sym nothing.1),
    ) where
      stays : (new.ended ≡ true) × (p.read ≡ [])
      stays = p.stays ended

      nothing : (p.gone ≡ []) × (new.kept ≡ [])
      nothing = no_more p.gone new.kept (sym (ap (λ k. k ++ p.read) kept ∙ stays.1) ∙ p.octets)

      none : more ≡ []
      none = ap (λ (x : Reading). x.events) (sym said ∙ ap (says old) nothing.0 ∙ says-none old r.bad)

    by_whole : AreWhole r.gone ⊎ ((old.ended ≡ true) × (old.kept ≡ [])) →
        (now : HasRead max before first new after (events ++ more))
        × ((r.gone ++ old.kept) ++ p.read ≡ now.gone ++ new.kept)
    by_whole (inl whole) = in_whole whole
    by_whole (inr last) = in_end last

  -- the first call of a fresh reader gave the first line
  pub reads-first : (new : Reader) (after : Option (List ℕ)) (p : Passes (opening max) new before after) →
      lines_of p.gone ≡ first ∷ [] → new.events ≡ 0 → new.bad ≡ None →
      (now : HasRead max before first new after []) × (p.read ≡ now.gone ++ new.kept)
  unfolding reading
  reads-first new after p line count bad = (
    record {
      gone = p.gone;
      others = [];
      source = p.source ∙ ap (λ o. ahead o after) p.octets;
      lines = line;
      gives = refl;
      whole = p.whole;
      end = λ ended. by_end (p.end ended);
      given = p.given ∙ ap (λ ls. 0 + length ls) line;
      count = count;
      max_is = p.max;
      bad = bad;
    },
    p.octets,
  ) where
    by_end : (false ≡ true) ⊎ IsSpent after → IsSpent after
    by_end (inl never) = cc never
    by_end (inr now) = now

  -- whole lines behind what was read, which say nothing
  pub reads-quiet : (reader : Reader) (left : Option (List ℕ)) (events : List (ℕ × Event))
      (r : HasRead max before first reader left events) (octets : List ℕ) → AreWhole r.gone →
      says reader octets ≡ sound []
      → (lines_of (r.gone ++ octets) ≡ first ∷ (r.others ++ lines_of octets))
      × (reading max 2 0 (r.others ++ lines_of octets) ≡ sound events)
  reads-quiet reader left events r octets whole said = (
    lines_join r.gone octets whole
        ∙ ap (λ l. l ++ lines_of octets) r.lines,
    readings_join max 2 0 r.others (lines_of octets) events r.gives
        ∙ behind-none events _ [] behind_is ∙ ap sound (append-nil events),
  ) where
    behind_is : reading max (2 + length r.others) (0 + length events) (lines_of octets) ≡ sound []
    behind_is = ap (λ k. reading max k (0 + length events) (lines_of octets)) (omega (arith, r.given))
        ∙ ap (λ n. reading max (reader.given + 1) n (lines_of octets)) (omega (arith, r.count))
        ∙ ap (λ m. reading m (reader.given + 1) reader.events (lines_of octets)) (sym r.max_is)
        ∙ sym (says-sound reader octets r.bad) ∙ said

  -- at the end, what was read is the capture
  pub reads-end : (reader : Reader) (left : Option (List ℕ)) (events : List (ℕ × Event))
      (r : HasRead max before first reader left events) → reader.kept ≡ [] → reader.ended ≡ true
      → (capture : List ℕ) → before ≡ Some capture →
      (others : List (List ℕ)) × (lines_of capture ≡ first ∷ others) × (reading max 2 0 others ≡ sound events)
      × (left ≡ Some [])
  reads-end reader left events r kept ended capture told =
      (r.others, ap lines_of all ∙ r.lines, r.gives, left_is.1 ∙ ap Some none) where
        left_is : (rest : List ℕ) × (left ≡ Some rest) × (capture ≡ (r.gone ++ reader.kept) ++ rest)
        left_is = ahead-told (r.gone ++ reader.kept) capture left (sym told ∙ r.source)

        none : left_is.0 ≡ []
        none = subst IsSpent left_is.1 (r.end ended)

        all : capture ≡ r.gone
        all = left_is.2 ∙ ap (λ x. (r.gone ++ reader.kept) ++ x) none ∙ append-nil (r.gone ++ reader.kept)
            ∙ ap (λ k. r.gone ++ k) kept ∙ append-nil r.gone

  -- so far, what was read is the front of the capture: the rest gives what follows
  pub reads-front : (reader : Reader) (left : Option (List ℕ)) (events : List (ℕ × Event))
      (r : HasRead max before first reader left events)
      → (capture : List ℕ) → before ≡ Some capture →
      (others : List (List ℕ)) × (lines_of capture ≡ first ∷ others) × (rest : Reading)
      × (reading max 2 0 others ≡ behind_events events rest)
  reads-front reader left events r capture told = by_whole r.whole where
    left_is : (rest : List ℕ) × (left ≡ Some rest) × (capture ≡ (r.gone ++ reader.kept) ++ rest)
    left_is = ahead-told (r.gone ++ reader.kept) capture left (sym told ∙ r.source)

    more : List (List ℕ)
    more = lines_of (reader.kept ++ left_is.0)

    by_whole : AreWhole r.gone ⊎ ((reader.ended ≡ true) × (reader.kept ≡ [])) →
        (others : List (List ℕ)) × (lines_of capture ≡ first ∷ others) × (rest : Reading)
        × (reading max 2 0 others ≡ behind_events events rest)
    by_whole (inl whole) = (
      r.others ++ more,
      ap lines_of (left_is.2 ∙ append_assoc r.gone reader.kept left_is.0)
          ∙ lines_join r.gone (reader.kept ++ left_is.0) whole ∙ ap (λ l. l ++ more) r.lines,
      reading max (2 + length r.others) (0 + length events) more,
      readings_join max 2 0 r.others more events r.gives,
    )
    by_whole (inr last) = let all = reads-end reader left events r last.1 last.0 capture told in
        (all.0, all.1, sound [], all.2 ∙ ap sound (sym (append-nil events)))

  -- a bad line, behind what was read
  pub reads-bad : (old new : Reader) (mid after : Option (List ℕ)) (events : List (ℕ × Event)) (bad : ℕ × LineReason)
      (r : HasRead max before first old mid events) (p : Passes old new mid after)
      → AllSayBad old new (old.kept ++ p.read) bad → (capture : List ℕ) → before ≡ Some capture
      → (others : List (List ℕ)) × (lines_of capture ≡ first ∷ others)
      × (reading max 2 0 others ≡ record { events = events; bad = Some bad })
  reads-bad old new mid after events bad r p all capture told = by_whole r.whole where
    mid_is : (rest : List ℕ) × (mid ≡ Some rest) × (capture ≡ (r.gone ++ old.kept) ++ rest)
    mid_is = ahead-told (r.gone ++ old.kept) capture mid (sym told ∙ r.source)

    after_is : (rest : List ℕ) × (after ≡ Some rest) × (mid_is.0 ≡ p.read ++ rest)
    after_is = ahead-told p.read mid_is.0 after (sym mid_is.1 ∙ p.source)

    octets : List ℕ
    octets = (old.kept ++ p.read) ++ after_is.0

    capture_is : capture ≡ r.gone ++ octets
    capture_is = mid_is.2 ∙ append_assoc r.gone old.kept mid_is.0 ∙ ap (λ m. r.gone ++ (old.kept ++ m)) after_is.2
        ∙ ap (λ o. r.gone ++ o) (sym (append_assoc old.kept p.read after_is.0))

    follows : MayFollow new after_is.0
    follows ended = by_end (p.end ended) where
      by_end : (old.ended ≡ true) ⊎ IsSpent after → after_is.0 ≡ []
      by_end (inl was) = (no_more p.read after_is.0 (sym (subst IsSpent mid_is.1 (r.end was)) ∙ after_is.2)).1
      by_end (inr now) = subst IsSpent after_is.1 now

    said : says old octets ≡ bad_at bad
    said = all after_is.0 follows

    by_whole : AreWhole r.gone ⊎ ((old.ended ≡ true) × (old.kept ≡ [])) →
        (others : List (List ℕ)) × (lines_of capture ≡ first ∷ others)
        × (reading max 2 0 others ≡ record { events = events; bad = Some bad })
    by_whole (inl whole) = (
      r.others ++ lines_of octets,
      ap lines_of capture_is ∙ lines_join r.gone octets whole
          ∙ ap (λ l. l ++ lines_of octets) r.lines,
      gives,
    ) where
      behind_is : reading max (2 + length r.others) (0 + length events) (lines_of octets) ≡ bad_at bad
      behind_is = ap (λ k. reading max k (0 + length events) (lines_of octets)) (omega (arith, r.given))
          ∙ ap (λ n. reading max (old.given + 1) n (lines_of octets)) (omega (arith, r.count))
          ∙ ap (λ m. reading m (old.given + 1) old.events (lines_of octets)) (sym r.max_is)
          ∙ sym (says-sound old octets r.bad) ∙ said

      gives : reading max 2 0 (r.others ++ lines_of octets) ≡ record { events = events; bad = Some bad }
      gives = readings_join max 2 0 r.others (lines_of octets) events r.gives ∙ ap (behind_events events) behind_is
          ∙ ap (λ e. record { events = e; bad = Some bad }) (append-nil events)
    by_whole (inr (ended, kept)) = absurd (never (sym said ∙ ap (says old) nothing ∙ says-none old r.bad)) where
      none_read : p.read ≡ []
      none_read = (p.stays ended).1

      none_left : after_is.0 ≡ []
      none_left = (no_more p.read after_is.0 (sym (subst IsSpent mid_is.1 (r.end ended)) ∙ after_is.2)).1

      nothing : octets ≡ []
      nothing = ap (λ k. (k ++ p.read) ++ after_is.0) kept ∙ ap (λ k. k ++ after_is.0) none_read ∙ none_left

      never : bad_at bad ≡ sound [] → ⊥
      never is = none-some _ (sym (ap (λ (x : Reading). x.bad) is))

  -- after a failed read, what was read is whole lines and a part of a line
  pub reads-fault : (reader : Reader) (left : Option (List ℕ)) (events : List (ℕ × Event))
      (r : HasRead max before first reader left events) → reader.ended ≡ false → AreWhole r.gone
  reads-fault reader left events r going = by_whole r.whole where
    by_whole : AreWhole r.gone ⊎ ((reader.ended ≡ true) × (reader.kept ≡ [])) → AreWhole r.gone
    by_whole (inl whole) = whole
    by_whole (inr last) = cc (going, last.0)
