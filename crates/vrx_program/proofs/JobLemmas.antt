-- What a run gives of events, and of more events after them.
use Rattle.std.proofs.Common.{◌≡◌, ℕ, List, [], ◌∷◌, ◌++◌, refl, sym, ap, ◌∙◌, append_assoc, append-nil}
use Rattle.std.specs.Option.{option_map}
use Rattle.vrx_core.specs.declared.event.Event.{Event}
use Rattle.vrx_capture.specs.Reading.{Reading}
use Rattle.vrx_capture.specs.Joins.{behind_events}
use Rattle.vrx_program.specs.Outcome.{status_of, error_text}
use Rattle.vrx_program.specs.Job.{Answering, history_after, texts, bad_line, reading_outcome}

pub history-more : (h : List Event) (events : List (ℕ × Event)) (k : ℕ) (event : Event) →
    history_after h (events ++ (k, event) ∷ []) ≡ event ∷ history_after h events
history-more h [] k event = refl
history-more h ((j, e) ∷ events) k event = history-more (e ∷ h) events k event

module _ (job : Answering) where
  -- the text of events, and then of more
  pub texts-more : (h : List Event) (events more : List (ℕ × Event)) →
      texts job h (events ++ more) ≡ texts job h events ++ texts job (history_after h events) more
  unfolding texts
  texts-more h [] more = refl
  texts-more h ((k, event) ∷ events) more = ap (λ t. job.text h k event ++ t) (texts-more (event ∷ h) events more)
      ∙ sym (append_assoc (job.text h k event) (texts job (event ∷ h) events)
      (texts job (history_after (event ∷ h) events) more))

  texts-one : (h : List Event) (k : ℕ) (event : Event) → texts job h ((k, event) ∷ []) ≡ job.text h k event
  unfolding texts
  texts-one h k event = append-nil (job.text h k event)

  pub texts-next : (events : List (ℕ × Event)) (k : ℕ) (event : Event) →
      texts job [] (events ++ (k, event) ∷ []) ≡ texts job [] events ++ job.text (history_after [] events) k event
  texts-next events k event = texts-more [] events ((k, event) ∷ [])
      ∙ ap (λ t. texts job [] events ++ t) (texts-one (history_after [] events) k event)

  -- what a reading gives after events: their text comes first
  pub reading_outcome-front : (events : List (ℕ × Event)) (rest : Reading)
      → reading_outcome job (behind_events events rest) ≡ record {
        status = status_of (option_map bad_line rest.bad);
        text = texts job [] events ++ texts job (history_after [] events) rest.events;
        last = error_text (option_map bad_line rest.bad);
      }
  reading_outcome-front events rest =
      ap (λ t. record {
        status = status_of (option_map bad_line rest.bad);
        text = t;
        last =
            error_text (option_map bad_line rest.bad);
      }) (texts-more [] events rest.events)
