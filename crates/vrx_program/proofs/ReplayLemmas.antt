-- What a replay does with the events of a capture, and when its first line is refused.
use Rattle.std.proofs.Common.{◌≡◌, ℕ, ◌<◌, ◌≤◌, cond, List, [], ◌∷◌, ◌++◌, length, refl, sym, ap, ◌∙◌, append_assoc}
use Rattle.std.specs.Prelude.{Ok, Err}
use Rattle.std.specs.Option.{option_map}
use Rattle.std.proofs.lemmas.Bool.{lt-ltb, le-ltb}
use Rattle.vrx_codec.specs.Meaning.{Meaning}
use Rattle.vrx_core.specs.machine.Machine.{reply}
use Rattle.vrx_core.specs.declared.settings.Settings.{Settings}
use Rattle.vrx_core.specs.declared.event.Event.{Event}
use Rattle.vrx_capture.specs.Line.{lines_of, longest_line}
use Rattle.vrx_capture.specs.SettingsLine.{settings_in}
use Rattle.vrx_capture.specs.Reading.{Reading, reading}
use Rattle.vrx_capture.specs.Reader.{HasNoHead}
use Rattle.vrx_text.specs.Transcript.{text_of, transcript}
use Rattle.vrx_capture.specs.declared.settings_line.CodecName.{CodecName}
use Rattle.vrx_text.specs.declared.transcript.ErrorReason.{ErrorReason}
use Rattle.vrx_text.specs.declared.transcript.ErrorReason.TheVariants as errors
use Rattle.vrx_core.specs.machine.SettingsFault.{fault_of}
use Rattle.vrx_program.specs.declared.job.Unanswered.{Unanswered}
use Rattle.vrx_program.specs.declared.job.Unanswered.TheVariants as unanswered
use Rattle.vrx_program.specs.Heads.{RefusesHeads}
use Rattle.vrx_program.specs.Outcome.{status_of, error_text, refusal}
use Rattle.vrx_program.specs.Job.{history_after, texts, bad_line, reading_outcome, Begins, IsRefused, IfRefused}
use Rattle.vrx_program.specs.Replay.{meaning_of, settings_of, unless_fault, settings_or_reason, most_events, call_from, call_in, outcome_of, replay_outcome, replaying}

-- the text of events, and then of more
pub transcript-more : (codec : Meaning) (settings : Settings) (h : List Event) (events more : List (ℕ × Event)) →
    transcript settings codec h (events ++ more) ≡ transcript settings codec h events ++ transcript settings codec
    (history_after h events) more
unfolding transcript
transcript-more codec settings h [] more = refl
transcript-more codec settings h ((k, event) ∷ events) more =
    ap (λ t. text_of k (reply settings codec h event) ++ t) (transcript-more codec settings (event ∷ h) events more)
    ∙ sym (append_assoc (text_of k (reply settings codec h event)) (transcript settings codec (event ∷ h) events)
    (transcript settings codec (history_after (event ∷ h) events) more))

-- ---- the events of a call

module _ (settings : Settings) (codec : Meaning) where
  texts-are : (h : List Event) (events : List (ℕ × Event)) →
      transcript settings codec h events ≡ texts (replaying settings codec) h events
  unfolding transcript texts
  texts-are h [] = refl
  texts-are h ((k, event) ∷ events) =
      ap (λ t. text_of k (reply settings codec h event) ++ t) (texts-are (event ∷ h) events)

  outcome-is : (r : Reading) →
      record {
        status = status_of (option_map bad_line r.bad);
        text = transcript settings codec [] r.events;
        last =
            error_text (option_map bad_line r.bad);
      } ≡ reading_outcome (replaying settings codec) r
  outcome-is r = ap (λ t. record {
    status = status_of (option_map bad_line r.bad);
    text = t;
    last =
        error_text (option_map bad_line r.bad);
  }) (texts-are [] r.events)

-- the first line tells settings that are taken
pub replay-begins : (line : List ℕ) (name : CodecName) (settings : Settings) →
    settings_of line ≡ Ok (name, settings) → Begins replay_outcome line (replaying settings (meaning_of name))
replay-begins line name settings told capture others lines = ap (λ l. outcome_of (call_in l)) lines
    ∙ ap (λ s. outcome_of (call_from s others)) told
    ∙ outcome-is settings (meaning_of name) (reading most_events 2 0 others)

-- ---- the first line

-- a line that is too long tells no settings
pub settings-long : (line : List ℕ) → longest_line < length line → settings_of line ≡ Err errors.Settings
unfolding settings_of
settings-long line long =
    ap (λ b. cond b (Err errors.Settings) (settings_or_reason (settings_in line)))
    (lt-ltb longest_line (length line) long)

pub settings-short : (line : List ℕ) → length line ≤ longest_line →
    settings_of line ≡ settings_or_reason (settings_in line)
unfolding settings_of
settings-short line short =
    ap (λ b. cond b (Err errors.Settings) (settings_or_reason (settings_in line)))
    (le-ltb longest_line (length line) short)

pub replay-refusal : (line : List ℕ) (reason : ErrorReason) → settings_of line ≡ Err reason →
    IsRefused replay_outcome line reason
replay-refusal line reason told capture others lines =
    ap (λ l. outcome_of (call_in l)) lines ∙ ap (λ s. outcome_of (call_from s others)) told

no_head : (lines : List (List ℕ)) → HasNoHead lines → outcome_of (call_in lines) ≡ refusal errors.Settings
no_head [] none = refl
no_head (line ∷ lines) long = ap (λ s. outcome_of (call_from s lines)) (settings-long line long)

pub replay-heads : RefusesHeads replay_outcome
unfolding lines_of
replay-heads = record { refuses = λ capture none. no_head (lines_of capture) none; nothing = refl }

-- no engine stands for its settings
pub refusal-why : (line : List ℕ) (name : CodecName) (settings : Settings) →
    settings_of line ≡ unless_fault name settings (fault_of settings) → (why : Unanswered) →
    IfRefused why (λ reason. (codec : CodecName) → unless_fault codec settings (fault_of settings) ≡ Err reason) →
    IfRefused why (IsRefused replay_outcome line)
refusal-why line name settings told (unanswered.Refused reason) refuses =
    replay-refusal line reason (told ∙ refuses name)
refusal-why line name settings told unanswered.NoMemory refuses = tt
