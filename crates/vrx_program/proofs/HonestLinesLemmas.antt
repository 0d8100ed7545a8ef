-- The text of an honest capture is the lines of an honest call.
use Rattle.std.proofs.Common.{◌≡◌, ℕ, ◌+◌, List, [], ◌∷◌, ◌++◌, length, map, refl, sym, ◌∙◌, ap, subst, ◌⊎◌, inl, inr, append_assoc}
use Rattle.std.specs.Prelude.{Option, Some, None, Result, Ok, Err, IfSome, IsOkAnd}
use Rattle.vrx_io.specs.Sink.{with_more}
use Rattle.vrx_codec.specs.Meaning.{Meaning}
use Rattle.vrx_core.specs.machine.Machine.{reply, replies}
use Rattle.vrx_core.specs.honest.Sender.{Sender}
use Rattle.vrx_core.specs.honest.HonestSender.{HonestSender}
use Rattle.vrx_core.specs.honest.HonestNetwork.{Origin, HonestNetwork}
use Rattle.vrx_core.specs.honest.HonestCall.{HonestCallHolds}
use Rattle.vrx_core.specs.declared.settings.Settings.{Settings}
use Rattle.vrx_core.specs.declared.event.Event.{Event}
use Rattle.vrx_capture.specs.Line.{lines_of, line_at}
use Rattle.vrx_capture.specs.Reading.{Reading, event_count, with_line, reading}
use Rattle.vrx_capture.specs.Reader.{AreWhole}
use Rattle.vrx_capture.specs.Joins.{LinesJoin}
use Rattle.vrx_capture.specs.declared.line.LineKind.{LineKind}
use Rattle.vrx_capture.specs.declared.line.LineKind.TheVariants.{Blank, Happens, Wrong}
use Rattle.vrx_text.specs.declared.transcript.ErrorReason.{ErrorReason}
use Rattle.vrx_text.specs.Transcript.{text_of, transcript}
use Rattle.vrx_program.specs.Outcome.{text_of_outcome, error_text, refusal}
use Rattle.vrx_capture.specs.declared.settings_line.CodecName.{CodecName}
use Rattle.vrx_program.specs.Replay.{meaning_of, settings_of, most_events, Call, call_with, call_from, call_in, call_of, outcome_of, replay_outcome}
use Rattle.vrx_program.specs.Ends.{TookPrefix, TookLines, Ends, EndsOver}
use Rattle.vrx_program.specs.Job.{history_after}
use Rattle.vrx_program.specs.HonestLines.{events_of, IsHonestCapture, lines_text, call_text, HonestLines}
use Rattle.vrx_program.specs.declared.status.Status.{Status}
use Rattle.vrx_program.specs.declared.status.Status.TheVariants as statuses
use Rattle.vrx_program.proofs.FaultlessLemmas.{call-faultless}
use Rattle.vrx_program.proofs.ReadsLemmas.{ahead-told}
use Rattle.vrx_program.proofs.TextLemmas.{took-more, take-all}
use Rattle.vrx_program.proofs.ReplayLemmas.{transcript-more}

-- a transcript is the lines of the machine's replies
pub transcript-lines : (codec : Meaning) (settings : Settings) (h : List Event) (lines : List (ℕ × Event)) →
    transcript settings codec h lines ≡ lines_text lines (replies settings codec h (map (λ line. line.1) lines))
unfolding transcript replies
transcript-lines codec settings h [] = refl
transcript-lines codec settings h ((k, e) ∷ lines) =
    ap (λ text. text_of k (reply settings codec h e) ++ text) (transcript-lines codec settings (e ∷ h) lines)

-- ---- what whole lines give is the front of what they give with others behind them

-- some text is the front of a longer one
abbrev Leads : List ℕ → List ℕ → Type 0
Leads text whole = (more : List ℕ) × (whole ≡ text ++ more)

line-front : (k : ℕ) (kind : LineKind) (r whole : Reading) →
    (more : List (ℕ × Event)) × (whole.events ≡ r.events ++ more) →
    (more : List (ℕ × Event)) × ((with_line k kind whole).events ≡ (with_line k kind r).events ++ more)
line-front k Blank r whole front = front
line-front k (Wrong reason) r whole front = ([], refl)
line-front k (Happens event) r whole (more, is) = (more, ap (λ e. (k, event) ∷ e) is)

reading-front : (max k events : ℕ) (lines others : List (List ℕ)) →
    (more : List (ℕ × Event))
    × ((reading max k events (lines ++ others)).events ≡ (reading max k events lines).events ++ more)
unfolding reading
reading-front max k events [] others = ((reading max k events others).events, refl)
reading-front max k events (line ∷ lines) others = let kind : LineKind = line_at max k events line in
    line-front k kind (reading max (k + 1) (events + event_count kind) lines)
    (reading max (k + 1) (events + event_count kind) (lines ++ others))
    (reading-front max (k + 1) (events + event_count kind) lines others)

call-front : (first : CodecName × Settings) (r whole : Reading) →
    (more : List (ℕ × Event)) × (whole.events ≡ r.events ++ more) →
    Leads (outcome_of (Ok (call_with first r))).text (text_of_outcome (outcome_of (Ok (call_with first whole))))
call-front first r whole (more, is) =
    let told : List ℕ = transcript first.1 (meaning_of first.0) [] r.events in
    let behind : List ℕ = transcript first.1 (meaning_of first.0) (history_after [] r.events) more in
    let last : List ℕ = error_text (call_with first whole).bad in (
      behind ++ last,
      ap (λ t. t ++ last)
          (ap (transcript first.1 (meaning_of first.0) []) is
          ∙ transcript-more (meaning_of first.0) first.1 [] r.events more) ∙ append_assoc told behind last,
    )

lines-front : (lines others : List (List ℕ)) →
    Leads (outcome_of (call_in lines)).text (text_of_outcome (outcome_of (call_in (lines ++ others))))
lines-front [] others = (text_of_outcome (outcome_of (call_in others)), refl)
lines-front (line ∷ lines) others = by_settings (settings_of line) where
  by_settings : (told : Result (CodecName × Settings) ErrorReason) →
      Leads (outcome_of (call_from told lines)).text (text_of_outcome (outcome_of (call_from told (lines ++ others))))
  by_settings (Err reason) = (text_of_outcome (refusal reason), refl)
  by_settings (Ok first) =
      call-front first (reading most_events 2 0 lines) (reading most_events 2 0 (lines ++ others))
      (reading-front most_events 2 0 lines others)

whole-front : (lines_join : LinesJoin) (lines rest : List ℕ) → AreWhole lines →
    Leads (replay_outcome lines).text (text_of_outcome (replay_outcome (lines ++ rest)))
whole-front lines_join lines rest whole = let front = lines-front (lines_of lines) (lines_of rest) in
    (front.0, ap (λ l. text_of_outcome (outcome_of (call_in l))) (lines_join lines rest whole) ∙ front.1)

-- ---- what a replay left in the sink

took-all-of : (before after : Option (List ℕ)) (text : List ℕ) → after ≡ with_more before text →
    TookPrefix before after text
took-all-of before after text took = (length text, took ∙ ap (with_more before) (sym (take-all text)))

took-lines : (lines_join : LinesJoin) (capture : List ℕ) (before after left : Option (List ℕ)) →
    TookLines replay_outcome capture before after left →
    TookPrefix before after (text_of_outcome (replay_outcome capture))
took-lines lines_join capture before after left t =
    let told = ahead-told (t.lines ++ t.part) capture left t.read in
    let front = whole-front lines_join t.lines (t.part ++ told.0) t.whole in
    let whole : text_of_outcome (replay_outcome capture) ≡ (replay_outcome t.lines).text ++ front.0 =
    ap (λ c. text_of_outcome (replay_outcome c)) (told.2 ∙ append_assoc t.lines t.part told.0) ∙ front.1 in
    subst (TookPrefix before after) (sym whole)
    (took-more before after (replay_outcome t.lines).text front.0
    (took-all-of before after (replay_outcome t.lines).text t.took))

-- a part from the front of the text, however the replay ended: after a failed read, that of the whole lines read
took-any : (lines_join : LinesJoin) (status : Status) (capture : List ℕ) (before after left : Option (List ℕ)) →
    Ends replay_outcome status capture before after left →
    TookPrefix before after (text_of_outcome (replay_outcome capture))
took-any lines_join statuses.Done capture before after left ends =
    took-all-of before after (text_of_outcome (replay_outcome capture)) ends.1
took-any lines_join statuses.BadCapture capture before after left ends =
    took-all-of before after (text_of_outcome (replay_outcome capture)) ends.1
took-any lines_join statuses.ReadFault capture before after left ends =
    took-lines lines_join capture before after left ends
took-any lines_join statuses.WriteFault capture before after left ends = (ends.count, ends.part)
took-any lines_join statuses.NoMemory capture before after left ends = ends
took-any lines_join statuses.BadUsage capture before after left ends = absurd ends

-- and all of it, where the run was Done or met a line that is refused
took-all : (status : Status) (capture : List ℕ) (before after left : Option (List ℕ)) →
    Ends replay_outcome status capture before after left → (status ≡ statuses.Done) ⊎ (status ≡ statuses.BadCapture) →
    after ≡ with_more before (text_of_outcome (replay_outcome capture))
took-all statuses.Done capture before after left ends which = ends.1
took-all statuses.BadCapture capture before after left ends which = ends.1
took-all statuses.ReadFault capture before after left ends (inl is) = cc
took-all statuses.ReadFault capture before after left ends (inr is) = cc
took-all statuses.WriteFault capture before after left ends (inl is) = cc
took-all statuses.WriteFault capture before after left ends (inr is) = cc
took-all statuses.NoMemory capture before after left ends (inl is) = cc
took-all statuses.NoMemory capture before after left ends (inr is) = cc
took-all statuses.BadUsage capture before after left ends which = absurd ends

-- the run of an honest capture
honest-run : (law : HonestCallHolds) (lines_join : LinesJoin) (capture : List ℕ) (sender : Sender)
    (origins : List Origin) (status : Status) (before after left : Option (List ℕ)) (o : Result Call ErrorReason) →
    call_of capture ≡ o
    → Ends replay_outcome status capture before after left →
    IsOkAnd o (λ call. HonestSender call.settings (meaning_of call.codec) sender
    × HonestNetwork call.settings (meaning_of call.codec) sender [] [] (events_of call) origins) →
    HonestLines capture sender origins status before after
honest-run law lines_join capture sender origins status before after left (Err reason) is ends honest = absurd honest
honest-run law lines_join capture sender origins status before after left (Ok call) is ends honest = record {
  call = call;
  told = is;
  honest = law call.settings (meaning_of call.codec) sender (events_of call) origins
      (call-faultless capture call is) honest.0 honest.1;
  took = subst (TookPrefix before after) text_is (took-any lines_join status capture before after left ends);
  whole = λ which. took-all status capture before after left ends which ∙ ap (with_more before) text_is;
} where
  text_is : text_of_outcome (replay_outcome capture) ≡ call_text call
  text_is = ap (λ c. text_of_outcome (outcome_of c)) is
      ∙ ap (λ t. t ++ error_text call.bad) (transcript-lines (meaning_of call.codec) call.settings [] call.events)

pub honest-lines : (law : HonestCallHolds) (lines_join : LinesJoin) (told : Option (List ℕ)) (status : Status)
    (before after left : Option (List ℕ)) → EndsOver replay_outcome status told before left after
    → IfSome told (λ capture. (sender : Sender) (origins : List Origin) → IsHonestCapture capture sender origins →
    HonestLines capture sender origins status before after)
honest-lines law lines_join None status before after left ends = tt
honest-lines law lines_join (Some capture) status before after left ends =
    λ sender origins honest.
    honest-run law lines_join capture sender origins status before after left (call_of capture) refl ends honest
