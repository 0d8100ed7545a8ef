-- What an inspection does with the events of a capture, and when its first line is refused.
use Rattle.std.proofs.Common.{◌≡◌, ℕ, ◌<◌, ◌≤◌, cond, true, false, List, [], ◌∷◌, ◌++◌, length, refl, ap, ◌∙◌}
use Rattle.std.specs.Option.{option_map}
use Rattle.std.proofs.lemmas.Bool.{lt-ltb, le-ltb}
use Rattle.vrx_core.specs.declared.event.Event.{Event}
use Rattle.vrx_capture.specs.Line.{lines_of, longest_line}
use Rattle.vrx_capture.specs.SettingsLine.{settings_in}
use Rattle.vrx_capture.specs.Reading.{Reading, reading}
use Rattle.vrx_capture.specs.Reader.{HasNoHead}
use Rattle.vrx_text.specs.declared.transcript.ErrorReason.TheVariants as errors
use Rattle.vrx_program.specs.Heads.{RefusesHeads}
use Rattle.vrx_program.specs.Outcome.{status_of, error_text, refusal}
use Rattle.vrx_program.specs.Job.{most_events, texts, bad_line, reading_outcome, Begins}
use Rattle.vrx_program.specs.Inspect.{has_right_settings, is_head, inspected_event, inspections, inspected_reading, inspected_from, inspected_lines, inspection_outcome, inspecting}

-- ---- the events

texts-are : (h : List Event) (events : List (ℕ × Event)) → inspections events ≡ texts inspecting h events
unfolding inspections texts
texts-are h [] = refl
texts-are h ((k, event) ∷ events) = ap (λ t. inspected_event k event ++ t) (texts-are (event ∷ h) events)

outcome-is : (r : Reading) → inspected_reading r ≡ reading_outcome inspecting r
outcome-is r = ap (λ t. record {
  status = status_of (option_map bad_line r.bad);
  text = t;
  last =
      error_text (option_map bad_line r.bad);
}) (texts-are [] r.events)

-- the first line is right
pub inspect-begins : (line : List ℕ) → is_head line ≡ true → Begins inspection_outcome line inspecting
inspect-begins line right capture others lines =
    ap inspected_lines lines ∙ ap (λ b. inspected_from b others) right ∙ outcome-is (reading most_events 2 0 others)

-- ---- the first line

head-long : (line : List ℕ) → longest_line < length line → is_head line ≡ false
unfolding is_head
head-long line long =
    ap (λ b. cond b false (has_right_settings (settings_in line))) (lt-ltb longest_line (length line) long)

pub head-short : (line : List ℕ) → length line ≤ longest_line → is_head line ≡ has_right_settings (settings_in line)
unfolding is_head
head-short line short =
    ap (λ b. cond b false (has_right_settings (settings_in line))) (le-ltb longest_line (length line) short)

no_head : (lines : List (List ℕ)) → HasNoHead lines → inspected_lines lines ≡ refusal errors.Settings
no_head [] none = refl
no_head (line ∷ lines) long = ap (λ b. inspected_from b lines) (head-long line long)

pub inspect-heads : RefusesHeads inspection_outcome
unfolding lines_of
inspect-heads = record { refuses = λ capture none. no_head (lines_of capture) none; nothing = refl }
