-- What each call of the reader and each event add to a run, and how a run ends.
use Rattle.std.proofs.Common.{◌≡◌, ◌⊎◌, ◌≤◌, ℕ, true, false, List, [], ◌∷◌, ◌++◌, length, take, refl, sym, ap, subst, ◌∙◌, inl, inr, append_assoc, append-nil, arith}
use Rattle.std.specs.Prelude.{Option, Some, None, Ok, is_some, MatchOption}
use Rattle.std.specs.Option.{option_map}
use Rattle.vrx_io.specs.Sink.{with_more}
use Rattle.vrx_io.specs.Reads.{ReadsSo}
use Rattle.vrx_core.specs.declared.event.Event.{Event}
use Rattle.vrx_capture.specs.Line.{lines_of, longest_line, IsOpenLine}
use Rattle.vrx_capture.specs.Reading.{sound, reading}
use Rattle.vrx_capture.specs.Ahead.{ahead}
use Rattle.vrx_capture.specs.Reader.{Reader, opening, says, AreWhole, HasNoFeed, Passes, IsNext, IsHead, AllSayBad, SayNothing}
use Rattle.vrx_capture.specs.Joins.{LinesJoin, ReadingsJoin}
use Rattle.vrx_text.specs.Transcript.{error_line}
use Rattle.vrx_capture.specs.declared.line.LineReason.{LineReason}
use Rattle.vrx_capture.specs.declared.lines.Line.TheVariants as lines
use Rattle.vrx_text.specs.declared.transcript.ErrorReason.{ErrorReason}
use Rattle.vrx_text.specs.declared.transcript.ErrorReason.TheVariants as errors
use Rattle.vrx_program.specs.HasRead.{HasRead}
use Rattle.vrx_program.specs.Heads.{RefusesHeads}
use Rattle.vrx_program.specs.Outcome.{Outcome, text_of_outcome, error_text}
use Rattle.vrx_program.specs.Job.{Answering, most_events, history_after, texts, bad_line, reading_outcome, Begins, IsRefused}
use Rattle.vrx_program.specs.Ends.{TookPrefix, EndsOver, EndsBadly, EndsAmid}
use Rattle.vrx_program.specs.Runs.{IsWritten, ReadsInStep, IsRunning, IsOver, IsAnswered}
use Rattle.vrx_program.specs.declared.status.Status.{Status}
use Rattle.vrx_program.specs.declared.status.Status.TheVariants as statuses
use Rattle.vrx_program.proofs.TextLemmas.{with_more-none, with_more-twice, took-more, ends-badly, ends-amid, take-all}
use Rattle.vrx_program.proofs.ReadsLemmas.{ahead-twice, whole-both, reads-on, reads-end, reads-front, reads-bad, reads-fault, reads-quiet}
use Rattle.vrx_program.proofs.HeadLemmas.{head-read, ends-none, ends-unread, ends-refusal}
use Rattle.vrx_program.proofs.JobLemmas.{history-more, texts-next, reading_outcome-front}
use Rattle.vrx_program.proofs.InStepLemmas.{reads_nothing, reads_both, reads_weaker}

-- ---- what the sink took in an ending

grown-badly : (status : Status) (text : List ℕ) (before after : Option (List ℕ)) →
    EndsBadly status text before after → (more : List ℕ) × (after ≡ with_more before more)
grown-badly statuses.BadCapture text before after ends = (text, ends)
grown-badly statuses.WriteFault text before after ends = (take ends.count text, ends.part)
grown-badly statuses.NoMemory text before after ends = (take ends.0 text, ends.1)
grown-badly statuses.Done text before after ends = absurd ends
grown-badly statuses.BadUsage text before after ends = absurd ends
grown-badly statuses.ReadFault text before after ends = absurd ends

grown-amid : (status : Status) (text : List ℕ) (before after : Option (List ℕ)) → EndsAmid status text before after →
    (more : List ℕ) × (after ≡ with_more before more)
grown-amid statuses.WriteFault text before after ends = (take ends.count text, ends.part)
grown-amid statuses.NoMemory text before after ends = (take ends.0 text, ends.1)
grown-amid statuses.BadCapture text before after ends = absurd ends
grown-amid statuses.Done text before after ends = absurd ends
grown-amid statuses.BadUsage text before after ends = absurd ends
grown-amid statuses.ReadFault text before after ends = absurd ends

-- what is written stays written
written-more : (outcome : List ℕ → Outcome) (before mid after : Option (List ℕ)) (more : List ℕ) →
    after ≡ with_more mid more → (octets : List ℕ) → IsWritten outcome before mid octets →
    IsWritten outcome before after octets
written-more outcome before mid after more is octets w = record {
  lines = w.lines;
  part = w.part;
  are = w.are;
  whole = w.whole;
  short = w.short;
  right = w.right;
  more = w.more ++ more;
  wrote = is ∙ ap (λ m. with_more m more) w.wrote ∙ with_more-twice before ((outcome w.lines).text ++ w.more) more
      ∙ ap (with_more before) (append_assoc (outcome w.lines).text w.more more);
}

-- a part of the first line asks for no text
part-written : (outcome : List ℕ → Outcome) → RefusesHeads outcome → (sink last : Option (List ℕ)) (more : List ℕ) →
    last ≡ with_more sink more → (octets : List ℕ) → IsOpenLine octets → IsWritten outcome sink last octets
part-written outcome heads sink last more is octets part = record {
  lines = [];
  part = octets;
  are = refl;
  whole = inl refl;
  short = part;
  right = inl refl;
  more = more;
  wrote = is ∙ ap (λ told. with_more sink (told ++ more)) (sym heads.nothing);
}

module _ {S : Type 0} (outcome : List ℕ → Outcome) (is_read : S → List ℕ → S → Type 0)
    (left : S → Option (List ℕ)) where
  -- a source that tells what it has left tells it after a run too
  pub tells-still : (old new : S) (before after : Option (List ℕ)) →
      ReadsInStep outcome is_read left old new before after → is_some (left new) ≡ is_some (left old)
  unfolding ahead
  tells-still old new before after step = still (left new) step.source where
    still : (o : Option (List ℕ)) → left old ≡ ahead step.read o → is_some o ≡ is_some (left old)
    still None source = sym (ap is_some source)
    still (Some rest) source = sym (ap is_some source)

  ahead-none : (o : Option (List ℕ)) → o ≡ ahead [] o
  unfolding ahead
  ahead-none None = refl
  ahead-none (Some rest) = refl

  -- nothing was read or written: memory ran out
  pub over-nothing : (source : S) (sink : Option (List ℕ)) →
      IsOver outcome is_read left source source sink sink statuses.NoMemory
  over-nothing source sink = record {
    ends = over (left source);
    in_step = record {
      read = [];
      source = ahead-none (left source);
      reads =
          reads_nothing is_read (IsWritten outcome sink sink) [] source;
    };
  } where
    over : (o : Option (List ℕ)) → EndsOver outcome statuses.NoMemory o sink (left source) sink
    over None = tt
    over (Some capture) = (0, sym (with_more-none sink))

  -- ---- the first line

  module _ (heads : RefusesHeads outcome) (lines_join : LinesJoin) (readings_join : ReadingsJoin) (start now : S)
      (sink : Option (List ℕ)) (new : Reader) (p : Passes (opening most_events) new (left start) (left now))
      (reads : ReadsSo is_read IsOpenLine [] start now p.read) where
    abbrev head-step : (last : Option (List ℕ)) (more : List ℕ) → last ≡ with_more sink more →
        ReadsInStep outcome is_read left start now sink last
    head-step last more is =
        record {
          read = p.read;
          source = p.source;
          reads =
              reads_weaker is_read IsOpenLine (IsWritten outcome sink last) [] start now p.read
              (part-written outcome heads sink last more is) reads;
        }

    -- there is none that may be taken
    pub over-none : (status : Status) (last : Option (List ℕ)) → IsHead (opening most_events) new p.read p.gone None →
        EndsBadly status (error_line 1 errors.Settings) sink last →
        IsOver outcome is_read left start now sink last status
    over-none status last head ends = let grown =
        grown-badly status (error_line 1 errors.Settings) sink last ends in record {
          ends =
              ends-none outcome heads (left start) sink new (left now) p head.0 last status
              (head.1 (omega arith)) ends;
          in_step = head-step last grown.0 grown.1;
        }

    -- its read failed
    pub over-unread : p.gone ≡ [] → HasNoFeed new.kept → length new.kept ≤ longest_line →
        IsOver outcome is_read left start now sink sink statuses.ReadFault
    over-unread gone no_feed short = record {
      ends = ends-unread outcome heads (left start) sink new (left now) p gone no_feed short;
      in_step = head-step sink [] (sym (with_more-none sink));
    }

    -- memory ran out
    pub over-head : IsOver outcome is_read left start now sink sink statuses.NoMemory
    over-head = record { ends = over (left start); in_step = head-step sink [] (sym (with_more-none sink)) } where
      over : (o : Option (List ℕ)) → EndsOver outcome statuses.NoMemory o sink (left now) sink
      over None = tt
      over (Some capture) = (0, sym (with_more-none sink))

    module _ (line : List ℕ) (head : IsHead (opening most_events) new p.read p.gone (Some line))
        (events : new.events ≡ 0) (bad : new.bad ≡ None) where
      -- it is refused
      pub over-refused : (reason : ErrorReason) (status : Status) (last : Option (List ℕ)) →
          IsRefused outcome line reason → EndsBadly status (error_line 1 reason) sink last →
          IsOver outcome is_read left start now sink last status
      over-refused reason status last refuses ends = let grown =
          grown-badly status (error_line 1 reason) sink last ends in record {
            ends =
                ends-refusal outcome lines_join readings_join (left start) sink line new (left now) last reason status
                (head-read (left start) new (left now) line lines_join readings_join p head events bad).0 refuses
                ends;
            in_step = head-step last grown.0 grown.1;
          }

      -- it begins the run
      pub runs-first : (job : Answering) (answers : List Event → Type 0) → Begins outcome line job → answers [] →
          IsRunning outcome job answers is_read left start now sink sink new
      unfolding texts
      runs-first job answers begins history = let r =
          head-read (left start) new (left now) line lines_join readings_join p head events bad in record {
            first = line;
            begins = begins;
            events = [];
            read = r.0;
            history = history;
            wrote = sym (with_more-none sink);
            reads = subst (λ octets. ReadsSo is_read (IsWritten outcome sink sink) [] start now octets) r.1
                (head-step sink [] (sym (with_more-none sink))).reads;
          }

  -- ---- in the middle: a call of the reader

  module _ (job : Answering) (answers : List Event → Type 0) (lines_join : LinesJoin) (readings_join : ReadingsJoin)
      (start : S) (sink : Option (List ℕ))
      (now then : S) (taken : Option (List ℕ)) (old new : Reader)
      (p : IsRunning outcome job answers is_read left start now sink taken old)
      (passes : Passes old new (left now) (left then))
      (reads : ReadsSo is_read (SayNothing old) old.kept now then passes.read)
      (idle : old.ended ≡ true → then ≡ now) where
    -- whole lines that say nothing, after those read
    quiet-written : AreWhole p.read.gone → (octets : List ℕ) → SayNothing old octets →
        IsWritten outcome sink taken (p.read.gone ++ octets)
    quiet-written whole octets s = record {
      lines = p.read.gone ++ s.lines;
      part = s.part;
      are = ap (λ o. p.read.gone ++ o) s.are ∙ sym (append_assoc p.read.gone s.lines s.part);
      whole = whole-both p.read.gone s.lines whole s.whole;
      short = s.short;
      right = inr (ap (λ (o : Outcome). o.status) gives);
      more = [];
      wrote = p.wrote ∙ ap (with_more sink)
          (sym (append-nil (texts job [] p.events))
          ∙ ap (λ told. told ++ []) (sym (ap (λ (o : Outcome). o.text) gives)));
    } where
      quiet : (lines_of (p.read.gone ++ s.lines) ≡ p.first ∷ (p.read.others ++ lines_of s.lines))
          × (reading most_events 2 0 (p.read.others ++ lines_of s.lines) ≡ sound p.events)
      quiet = reads-quiet lines_join readings_join most_events (left start) p.first old
          (left now) p.events p.read s.lines whole s.nothing

      gives : outcome (p.read.gone ++ s.lines)
          ≡ record { status = statuses.Done; text = texts job [] p.events; last = [] }
      gives = p.begins (p.read.gone ++ s.lines) (p.read.others ++ lines_of s.lines) quiet.0
          ∙ ap (reading_outcome job) quiet.1

    -- all that was read, in step
    all-reads : ReadsSo is_read (IsWritten outcome sink taken) [] start
        then ((p.read.gone ++ old.kept) ++ passes.read)
    all-reads = by_whole p.read.whole where
      by_whole : AreWhole p.read.gone ⊎ ((old.ended ≡ true) × (old.kept ≡ [])) →
          ReadsSo is_read (IsWritten outcome sink taken) [] start then ((p.read.gone ++ old.kept) ++ passes.read)
      by_whole (inl whole) = reads_both is_read (SayNothing old)
          (IsWritten outcome sink taken) [] p.read.gone old.kept start now
          then (p.read.gone ++ old.kept) passes.read p.reads refl (quiet-written whole) reads
      by_whole (inr last) = subst
          (λ s. ReadsSo is_read (IsWritten outcome sink taken) [] start s ((p.read.gone ++ old.kept) ++ passes.read))
          (sym (idle last.0))
          (subst (λ octets. ReadsSo is_read (IsWritten outcome sink taken) [] start now octets)
          (sym (append-nil (p.read.gone ++ old.kept))
          ∙ ap (λ read. (p.read.gone ++ old.kept) ++ read) (sym (passes.stays last.0).1)) p.reads)

    abbrev in-step : (last : Option (List ℕ)) (more : List ℕ) → last ≡ with_more taken more →
        ReadsInStep outcome is_read left start then sink last
    in-step last more is = record {
      read = (p.read.gone ++ old.kept) ++ passes.read;
      source = p.read.source ∙ ap (ahead (p.read.gone ++ old.kept)) passes.source
          ∙ ahead-twice (p.read.gone ++ old.kept) passes.read (left then);
      reads = reads_weaker is_read (IsWritten outcome sink taken) (IsWritten outcome sink last) [] start
          then ((p.read.gone ++ old.kept) ++ passes.read) (written-more outcome sink taken last more is) all-reads;
    }

    -- memory ran out: the sink took what was told before, and the text goes on with it
    pub over-memory : IsOver outcome is_read left start then sink taken statuses.NoMemory
    over-memory =
        record { ends = over (left start) refl; in_step = in-step taken [] (sym (with_more-none taken)) } where
          over : (o : Option (List ℕ)) → left start ≡ o → EndsOver outcome statuses.NoMemory o sink (left then) taken
          over None is = tt
          over (Some capture) is = let f =
              reads-front lines_join readings_join most_events (left start) p.first old
              (left now) p.events p.read capture is in
              let told : List ℕ = texts job [] p.events in
              let more : List ℕ = texts job (history_after [] p.events) f.2.events in
              let last_text : List ℕ = error_text (option_map bad_line f.2.bad) in
              let text : text_of_outcome (outcome capture) ≡ told ++ (more ++ last_text) =
              ap text_of_outcome (p.begins capture f.0 f.1 ∙ ap (reading_outcome job) f.3
              ∙ reading_outcome-front job p.events f.2) ∙ append_assoc told more last_text in
              subst (TookPrefix sink taken) (sym text)
              (took-more sink taken told (more ++ last_text)
              (length told, p.wrote ∙ ap (with_more sink) (sym (take-all told))))

    -- the lines passed over say nothing
    module _ (said : says old passes.gone ≡ sound []) (count : new.events ≡ old.events) (bad : new.bad ≡ None) where
      quiet-read : (r : HasRead most_events (left start) p.first new (left then) (p.events ++ []))
          × ((p.read.gone ++ old.kept) ++ passes.read ≡ r.gone ++ new.kept)
      quiet-read = reads-on lines_join readings_join most_events (left start) p.first old new (left now)
          (left then) p.events [] p.read passes said (omega (arith, count)) bad

      quiet-now : HasRead most_events (left start) p.first new (left then) p.events
      quiet-now = subst (HasRead most_events (left start) p.first new (left then)) (append-nil p.events) quiet-read.0

      -- a failed read: the sink took the text of the whole lines read
      pub over-fault : HasNoFeed new.kept → new.ended ≡ false → length new.kept ≤ longest_line →
          IsOver outcome is_read left start then sink taken statuses.ReadFault
      over-fault no_feed going short =
          record { ends = over (left start) refl; in_step = in-step taken [] (sym (with_more-none taken)) } where
            r : HasRead most_events (left start) p.first new (left then) p.events
            r = quiet-now

            gives : outcome r.gone ≡ record { status = statuses.Done; text = texts job [] p.events; last = [] }
            gives = p.begins r.gone r.others r.lines ∙ ap (reading_outcome job) r.gives

            over : (o : Option (List ℕ)) → left start ≡ o →
                EndsOver outcome statuses.ReadFault o sink (left then) taken
            over None is = tt
            over (Some capture) is = record {
              lines = r.gone;
              part = new.kept;
              read = sym is ∙ r.source;
              whole =
                  reads-fault lines_join readings_join most_events (left start) p.first new
                  (left then) p.events r going;
              no_feed = no_feed;
              right = inr (ap (λ (o : Outcome). o.status) gives);
              short = short;
              took = p.wrote ∙ ap (with_more sink) (sym (ap (λ (o : Outcome). o.text) gives));
            }

      -- the end: the sink took the text of the capture
      pub over-done : new.kept ≡ [] → new.ended ≡ true →
          IsOver outcome is_read left start then sink taken statuses.Done
      over-done kept ended =
          record { ends = over (left start) refl; in_step = in-step taken [] (sym (with_more-none taken)) } where
            over : (o : Option (List ℕ)) → left start ≡ o → EndsOver outcome statuses.Done o sink (left then) taken
            over None is = tt
            over (Some capture) is = let all =
                reads-end lines_join readings_join most_events (left start) p.first new
                (left then) p.events quiet-now kept ended capture is in
                let gives : outcome capture
                ≡ record { status = statuses.Done; text = texts job [] p.events; last = [] } =
                p.begins capture all.0 all.1 ∙ ap (reading_outcome job) all.2 in (
                  ap (λ (o : Outcome). o.status) gives,
                  p.wrote
                      ∙ ap (with_more sink) (sym (ap text_of_outcome gives ∙ append-nil (texts job [] p.events))),
                  all.3,
                )

    -- a bad line, after what was read
    pub over-bad : (bad : ℕ × LineReason) (status : Status) (last : Option (List ℕ)) →
        AllSayBad old new (old.kept ++ passes.read) bad →
        EndsBadly status (error_line bad.0 (errors.Line bad.1)) taken last →
        IsOver outcome is_read left start then sink last status
    over-bad bad status last all ends = let grown =
        grown-badly status (error_line bad.0 (errors.Line bad.1)) taken last ends in
        record { ends = over (left start) refl; in_step = in-step last grown.0 grown.1 } where
          over : (o : Option (List ℕ)) → left start ≡ o → EndsOver outcome status o sink (left then) last
          over None is = tt
          over (Some capture) is = let b =
              reads-bad lines_join readings_join most_events (left start) p.first old new (left now)
              (left then) p.events bad p.read passes all capture is in
              let gives : outcome capture
              ≡ record {
                status = statuses.BadCapture;
                text = texts job [] p.events;
                last =
                    error_line bad.0 (errors.Line bad.1);
              } = p.begins capture b.0 b.1 ∙ ap (reading_outcome job) b.2 in
              ends-badly status outcome capture (texts job [] p.events)
              (error_line bad.0 (errors.Line bad.1)) sink taken last (left then)
              (ap (λ (o : Outcome). o.status) gives)
              (ap text_of_outcome gives) p.wrote ends

    -- an event
    module _ (k : ℕ) (event : Event) (next : IsNext old new passes.read passes.gone (Ok (lines.Event k event))) where
      event-read : (r : HasRead most_events (left start) p.first new (left then) (p.events ++ (k, event) ∷ []))
          × ((p.read.gone ++ old.kept) ++ passes.read ≡ r.gone ++ new.kept)
      event-read = reads-on lines_join readings_join most_events (left start) p.first old new (left now)
          (left then) p.events ((k, event) ∷ []) p.read passes next.0 next.1 next.3

      -- the run ends in its text
      pub over-amid : (status : Status) (last : Option (List ℕ)) →
          EndsAmid status (job.text (history_after [] p.events) k event) taken last →
          IsOver outcome is_read left start then sink last status
      over-amid status last ends = let grown =
          grown-amid status (job.text (history_after [] p.events) k event) taken last ends in
          record { ends = over (left start) refl; in_step = in-step last grown.0 grown.1 } where
            over : (o : Option (List ℕ)) → left start ≡ o → EndsOver outcome status o sink (left then) last
            over None is = tt
            over (Some capture) is =
                let all : List (ℕ × Event) = p.events ++ (k, event) ∷ [] in
                let f = reads-front lines_join readings_join most_events (left start) p.first new
                (left then) all event-read.0 capture is in
                let told : List ℕ = texts job [] p.events in
                let text : List ℕ = job.text (history_after [] p.events) k event in
                let more : List ℕ = texts job (history_after [] all) f.2.events in
                let last_text : List ℕ = error_text (option_map bad_line f.2.bad) in
                let whole : text_of_outcome (outcome capture) ≡ told ++ (text ++ (more ++ last_text)) =
                ap text_of_outcome (p.begins capture f.0 f.1 ∙ ap (reading_outcome job) f.3
                ∙ reading_outcome-front job all f.2)
                ∙ append_assoc (texts job [] all) more last_text
                ∙ ap (λ t. t ++ (more ++ last_text)) (texts-next job p.events k event)
                ∙ append_assoc told text (more ++ last_text) in
                ends-amid status outcome capture told text (more ++ last_text) sink taken last
                (left then) whole p.wrote ends

      -- the run goes on
      pub runs-on : (later : List Event → Type 0) (last : Option (List ℕ)) →
          later (event ∷ history_after [] p.events) →
          last ≡ with_more taken (job.text (history_after [] p.events) k event) →
          IsRunning outcome job later is_read left start then sink last new
      runs-on later last history wrote = record {
        first = p.first;
        begins = p.begins;
        events = p.events ++ (k, event) ∷ [];
        read = event-read.0;
        history = subst later (sym (history-more [] p.events k event)) history;
        wrote = wrote ∙ ap (λ m. with_more m (job.text (history_after [] p.events) k event)) p.wrote
            ∙ with_more-twice sink (texts job [] p.events) (job.text (history_after [] p.events) k event)
            ∙ ap (with_more sink) (sym (texts-next job p.events k event));
        reads = subst (λ octets. ReadsSo is_read (IsWritten outcome sink last) [] start then octets) event-read.1
            (in-step last (job.text (history_after [] p.events) k event) wrote).reads;
      }

      pub runs-next : (later : List Event → Type 0) (status : Option Status) (last : Option (List ℕ)) →
          IsAnswered job later (history_after [] p.events) k event status taken last
          → MatchOption status (IsRunning outcome job later is_read left start then sink last new)
          (λ s. IsOver outcome is_read left start then sink last s)
      runs-next later None last is = runs-on later last is.0 is.1
      runs-next later (Some status) last is = over-amid status last is
