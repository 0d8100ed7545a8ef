-- How a run begins and ends by its first line, whatever it gives of captures.
use Rattle.std.proofs.Common.{◌≡◌, ◌⊎◌, ◌≤◌, ℕ, length, true, false, List, [], ◌∷◌, ◌++◌, sym, ap, subst, ◌∙◌, inl, inr, refl}
use Rattle.std.specs.Prelude.{Option, Some, None}
use Rattle.vrx_io.specs.Source.{IsSpent}
use Rattle.vrx_io.specs.Sink.{with_more}
use Rattle.vrx_capture.specs.Line.{lines_of, longest_line}
use Rattle.vrx_capture.specs.Ahead.{ahead}
use Rattle.vrx_capture.specs.Reader.{Reader, opening, Passes, MayFollow, HasNoHead, HasNoFeed, IsHead}
use Rattle.vrx_capture.specs.Joins.{LinesJoin, ReadingsJoin}
use Rattle.vrx_text.specs.Transcript.{error_line}
use Rattle.vrx_text.specs.declared.transcript.ErrorReason.{ErrorReason}
use Rattle.vrx_text.specs.declared.transcript.ErrorReason.TheVariants as errors
use Rattle.vrx_program.specs.HasRead.{HasRead}
use Rattle.vrx_program.specs.Outcome.{Outcome, text_of_outcome, refusal}
use Rattle.vrx_program.specs.Job.{most_events}
use Rattle.vrx_program.specs.Heads.{RefusesHeads}
use Rattle.vrx_program.specs.Ends.{Ends, EndsOver, EndsBadly}
use Rattle.vrx_program.specs.declared.status.Status.{Status}
use Rattle.vrx_program.specs.declared.status.Status.TheVariants as statuses
use Rattle.vrx_program.proofs.ReadsLemmas.{ahead-told, reads-first, reads-front}
use Rattle.vrx_program.proofs.TextLemmas.{with_more-none, ends-badly}

-- the first call gave a line: it was read
pub head-read : (source : Option (List ℕ)) (new : Reader) (after : Option (List ℕ)) (line : List ℕ) → LinesJoin →
    ReadingsJoin → (p : Passes (opening most_events) new source after) →
    IsHead (opening most_events) new p.read p.gone (Some line) → new.events ≡ 0 → new.bad ≡ None
    → (now : HasRead most_events source line new after []) × (p.read ≡ now.gone ++ new.kept)
head-read source new after line lines_join readings_join p head events bad =
    reads-first lines_join readings_join most_events source line new after p head.0 events bad

module _ (outcome : List ℕ → Outcome) where
  -- a capture whose first line is refused
  ends-first : (reason : ErrorReason) (capture : List ℕ) (status : Status) (sink last left : Option (List ℕ)) →
      outcome capture ≡ refusal reason → EndsBadly status (error_line 1 reason) sink last →
      Ends outcome status capture sink last left
  ends-first reason capture status sink last left is ends =
      ends-badly status outcome capture [] (error_line 1 reason) sink sink last left
      (ap (λ (o : Outcome). o.status) is) (ap text_of_outcome is) (sym (with_more-none sink)) ends

  -- a first call that passed over nothing
  module _ (heads : RefusesHeads outcome) (source sink : Option (List ℕ)) (new : Reader) (after : Option (List ℕ))
      (p : Passes (opening most_events) new source after) (none_gone : p.gone ≡ []) where
    -- what was read is kept
    kept-is : new.kept ≡ p.read
    kept-is = sym (p.octets ∙ ap (λ g. g ++ new.kept) none_gone)

    -- there is no first line that may be taken
    pub ends-none : (last : Option (List ℕ)) (status : Status) →
        ((more : List ℕ) → MayFollow new more → HasNoHead (lines_of (p.read ++ more))) →
        EndsBadly status (error_line 1 errors.Settings) sink last → EndsOver outcome status source sink after last
    ends-none last status none ends = over source refl where
      over : (o : Option (List ℕ)) → source ≡ o → EndsOver outcome status o sink after last
      over None is = tt
      over (Some capture) is =
          ends-first errors.Settings capture status sink last after
          (heads.refuses capture (subst (λ c. HasNoHead (lines_of c)) (sym told.2) (none told.0 follows))) ends where
            told : (rest : List ℕ) × (after ≡ Some rest) × (capture ≡ p.read ++ rest)
            told = ahead-told p.read capture after (sym is ∙ p.source)

            follows : MayFollow new told.0
            follows ended = by_end (p.end ended) where
              by_end : (false ≡ true) ⊎ IsSpent after → told.0 ≡ []
              by_end (inl never) = cc never
              by_end (inr spent) = subst IsSpent told.1 spent

    -- a read of the first line failed
    pub ends-unread : HasNoFeed new.kept → length new.kept ≤ longest_line →
        EndsOver outcome statuses.ReadFault source sink after sink
    ends-unread no_feed short = over source refl where
      over : (o : Option (List ℕ)) → source ≡ o → EndsOver outcome statuses.ReadFault o sink after sink
      over None is = tt
      over (Some capture) is = record {
        lines = [];
        part = new.kept;
        read = sym is ∙ p.source ∙ ap (λ k. ahead k after) (sym kept-is);
        whole = inl refl;
        no_feed = no_feed;
        right = inl refl;
        short = short;
        took = sym (with_more-none sink) ∙ ap (with_more sink) (sym heads.nothing);
      }

  -- the first line is refused
  pub ends-refusal : LinesJoin → ReadingsJoin →
      (source sink : Option (List ℕ)) (line : List ℕ) (reader : Reader) (left last : Option (List ℕ))
      (reason : ErrorReason) (status : Status) → HasRead most_events source line reader left []
      → ((capture : List ℕ) (others : List (List ℕ)) → lines_of capture ≡ line ∷ others →
      outcome capture ≡ refusal reason) → EndsBadly status (error_line 1 reason) sink last →
      EndsOver outcome status source sink left last
  ends-refusal lines_join readings_join source sink line reader left last reason status read refuses ends =
      over source refl where
        over : (o : Option (List ℕ)) → source ≡ o → EndsOver outcome status o sink left last
        over None is = tt
        over (Some capture) is = let f =
            reads-front lines_join readings_join most_events source line reader left [] read capture is in
            ends-first reason capture status sink last left (refuses capture f.0 f.1) ends
