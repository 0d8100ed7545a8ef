-- How live ends.
use Rattle.std.proofs.Common.{◌≡◌, ◌∙◌, ◌⊎◌, ℕ, List, [], ◌∷◌, length, map, refl, sym, ap, subst, inl, inr}
use Rattle.std.specs.Prelude.{Option, Some, None, Result, Ok, Err, IfSome}
use Rattle.std.specs.Result.{result_ok}
use Rattle.std.proofs.lemmas.Option.{none-some, same_Some}
use Rattle.vrx_io.specs.Faults.{Rose}
use Rattle.vrx_io.specs.Sink.{with_more}
use Rattle.vrx_core.specs.declared.event.Event.{Event}
use Rattle.vrx_core.specs.declared.settings.Settings.{Settings}
use Rattle.vrx_core.specs.machine.Machine.{replies}
use Rattle.vrx_core.specs.machine.SettingsFault.{fault_of}
use Rattle.vrx_core.specs.honest.HonestCall.{HonestCallHolds}
use Rattle.vrx_lock.specs.declared.entry.Entry.{Entry}
use Rattle.vrx_lock.specs.Journal.{events}
use Rattle.vrx_live.specs.declared.lists.Lists.{Lists}
use Rattle.vrx_live.specs.Calls as live
use Rattle.vrx_capture.specs.Line.{lines_of}
use Rattle.vrx_capture.specs.declared.settings_line.CodecName.{CodecName}
use Rattle.vrx_text.specs.Transcript.{error_line, transcript}
use Rattle.vrx_text.specs.declared.transcript.ErrorReason.{ErrorReason}
use Rattle.vrx_program.specs.Counts.{IsCounted}
use Rattle.vrx_program.specs.Outcome.{status_of}
use Rattle.vrx_program.specs.Ends.{EndsBadly, TookPrefix}
use Rattle.vrx_program.specs.HonestLines.{lines_text}
use Rattle.vrx_program.specs.Replay.{Call, meaning_of, settings_of}
use Rattle.vrx_program.specs.Live.{HonestLive, LiveEnds, Plays, PlaysCapture, dealt, lines_in, live_call_from, live_call_in, live_call_of, live_status, refused_in}
use Rattle.vrx_program.specs.LiveReading.{IsPlayed, IsTold, IsUnread}
use Rattle.vrx_program.specs.declared.live.told.Unread.TheVariants as unread
use Rattle.vrx_program.specs.declared.status.Status.{Status}
use Rattle.vrx_program.specs.declared.status.Status.TheVariants as statuses
use Rattle.vrx_program.proofs.FaultlessLemmas.{line-none}
use Rattle.vrx_program.proofs.HonestLinesLemmas.{transcript-lines}
use Rattle.vrx_program.proofs.TextLemmas.{take-all}

-- ---- a call that was read whole

module _ (capture : List ℕ) (codec : CodecName) (settings : Settings) (lists : Lists) (left : Option (List ℕ))
    (told : IsTold capture codec settings lists left) where
  plays-capture : (journal : List Entry) (text : List ℕ) → Plays settings (meaning_of codec) lists journal text
      → PlaysCapture capture journal text
  plays-capture journal text plays = record {
    call = told.call;
    told = told.told;
    right = told.right;
    plays = subst (λ (x : Settings × CodecName × Lists). Plays x.0 (meaning_of x.1) x.2 journal text)
        (λ t. (told.settings_are t, told.codec_is t, told.lists_are t)) plays;
  }

  pub ends-played : (status : Status) (journal : Option (List Entry)) (before after : Option (List ℕ))
      → IsPlayed settings (meaning_of codec) lists status journal before after
      → LiveEnds status journal capture before after left
  ends-played statuses.Done (Some journal) before after p = (p.0, plays-capture journal p.0 p.1, p.2, told.end)
  ends-played statuses.Done None before after p = absurd p
  ends-played statuses.WriteFault (Some journal) before after p = (p.0, plays-capture journal p.0 p.1, p.2)
  ends-played statuses.WriteFault None before after p = absurd p
  ends-played statuses.NoMemory (Some journal) before after p = absurd p
  ends-played statuses.NoMemory None before after p = inl p
  ends-played statuses.BadUsage journal before after p = absurd p
  ends-played statuses.BadCapture journal before after p = absurd p
  ends-played statuses.ReadFault journal before after p = absurd p

pub over-played : (source : Option (List ℕ)) (codec : CodecName) (settings : Settings) (lists : Lists)
    (left : Option (List ℕ)) → IfSome source (λ capture. IsTold capture codec settings lists left) → (status : Status)
    (journal : Option (List Entry)) (before after : Option (List ℕ))
    → IsPlayed settings (meaning_of codec) lists status journal before after
    → IfSome source (λ capture. LiveEnds status journal capture before after left)
over-played None codec settings lists left told status journal before after played = tt
over-played (Some capture) codec settings lists left told status journal before after played =
    ends-played capture codec settings lists left told status journal before after played

-- ---- a line that is refused

ends-refused : (capture : List ℕ) (k : ℕ) (reason : ErrorReason) → refused_in (live_call_of capture) ≡ Some (k, reason)
    → (status : Status) (before after left : Option (List ℕ)) → EndsBadly status (error_line k reason) before after
    → LiveEnds status None capture before after left
ends-refused capture k reason is statuses.BadCapture before after left ends =
    (error_line k reason, record { k = k; reason = reason; refused = is; text_is = refl }, ends)
ends-refused capture k reason is statuses.WriteFault before after left ends =
    (error_line k reason, record { k = k; reason = reason; refused = is; text_is = refl }, ends)
ends-refused capture k reason is statuses.NoMemory before after left ends =
    inr (error_line k reason, record { k = k; reason = reason; refused = is; text_is = refl }, ends)
ends-refused capture k reason is statuses.Done before after left ends = absurd ends
ends-refused capture k reason is statuses.BadUsage before after left ends = absurd ends
ends-refused capture k reason is statuses.ReadFault before after left ends = absurd ends

pub over-refused : (source : Option (List ℕ)) (k : ℕ) (reason : ErrorReason)
    → IfSome source (λ capture. IsUnread capture (unread.Refused k reason)) → (status : Status)
    (before after left : Option (List ℕ)) → EndsBadly status (error_line k reason) before after
    → IfSome source (λ capture. LiveEnds status None capture before after left)
over-refused None k reason is status before after left ends = tt
over-refused (Some capture) k reason is status before after left ends =
    ends-refused capture k reason is status before after left ends

-- nothing was written
pub over-nothing : (source : Option (List ℕ)) (taken left : Option (List ℕ))
    → IfSome source (λ capture. LiveEnds statuses.NoMemory None capture taken taken left)
over-nothing None taken left = tt
over-nothing (Some capture) taken left = inl refl

pub over-unread : (source : Option (List ℕ)) (taken left : Option (List ℕ))
    → IfSome source (λ capture. LiveEnds statuses.ReadFault None capture taken taken left)
over-unread None taken left = tt
over-unread (Some capture) taken left = refl

-- ---- completeness

complete-of : (capture : List ℕ) (status : Status) (journal : Option (List Entry)) (before after left : Option (List ℕ))
    (reads reads_now writes writes_now : ℕ) → LiveEnds status journal capture before after left
    → IsCounted status reads reads_now writes writes_now → (Rose reads reads_now → ⊥) → (Rose writes writes_now → ⊥)
    → (status ≡ live_status capture) ⊎ (status ≡ statuses.NoMemory)
complete-of capture statuses.Done (Some journal) before after left r r' w w' ends counted nr nw =
    inl (sym (ap (λ c. status_of (refused_in c)) ends.1.told ∙ ap status_of ends.1.right))
complete-of capture statuses.Done None before after left r r' w w' ends counted nr nw = absurd ends
complete-of capture statuses.BadCapture (Some journal) before after left r r' w w' ends counted nr nw = absurd ends
complete-of capture statuses.BadCapture None before after left r r' w w' ends counted nr nw =
    inl (sym (ap status_of ends.1.refused))
complete-of capture statuses.ReadFault journal before after left r r' w w' ends counted nr nw = absurd (nr counted.0)
complete-of capture statuses.WriteFault journal before after left r r' w w' ends counted nr nw = absurd (nw counted.1)
complete-of capture statuses.NoMemory journal before after left r r' w w' ends counted nr nw = inr refl
complete-of capture statuses.BadUsage journal before after left r r' w w' ends counted nr nw = absurd ends

pub over-complete : (source : Option (List ℕ)) (status : Status) (journal : Option (List Entry))
    (before after left : Option (List ℕ)) (reads reads_now writes writes_now : ℕ)
    → IfSome source (λ capture. LiveEnds status journal capture before after left)
    → IsCounted status reads reads_now writes writes_now → (Rose reads reads_now → ⊥) → (Rose writes writes_now → ⊥)
    → IfSome source (λ capture. (status ≡ live_status capture) ⊎ (status ≡ statuses.NoMemory))
over-complete None status journal before after left r r' w w' ends counted nr nw = tt
over-complete (Some capture) status journal before after left r r' w w' ends counted nr nw =
    complete-of capture status journal before after left r r' w w' ends counted nr nw

-- ---- the honest call

map-map : {A B C : Type 0} (f : B → C) (g : A → B) (xs : List A) → map f (map g xs) ≡ map (λ x. f (g x)) xs
map-map f g [] = refl
map-map f g (x ∷ xs) = ap (λ ys. f (g x) ∷ ys) (map-map f g xs)

-- the settings of a capture's call have no fault
from-none : (first : Result (CodecName × Settings) ErrorReason) (lines : List (List ℕ)) (call : Call)
    → ((told : CodecName × Settings) → first ≡ Ok told → fault_of told.1 ≡ None) → live_call_from first lines ≡ Ok call
    → fault_of call.settings ≡ None
from-none (Err reason) lines call right is = absurd (none-some _ (ap result_ok is))
from-none (Ok told) lines call right is =
    subst (λ (s : Settings). fault_of s ≡ None) (ap (λ (c : Call). c.settings) (same_Some _ call (ap result_ok is)))
    (right told refl)

live-faultless : (lines : List (List ℕ)) (call : Call) → live_call_in lines ≡ Ok call → fault_of call.settings ≡ None
live-faultless [] call is = absurd (none-some _ (ap result_ok is))
live-faultless (line ∷ lines) call is = from-none (settings_of line) lines call (line-none line) is

module _ (law : HonestCallHolds) (capture : List ℕ) (call : Call) (told : live_call_of capture ≡ Ok call)
    (journal : List Entry) (text : List ℕ) (p : PlaysCapture capture journal text) where
  same-call : p.call ≡ call
  same-call = same_Some p.call call (ap result_ok (sym p.told ∙ told))

  plays : Plays call.settings (meaning_of call.codec) (dealt call.events) journal text
  plays = subst (λ (c : Call). Plays c.settings (meaning_of c.codec) (dealt c.events) journal text) same-call p.plays

  abbrev pub in-order : List (ℕ × Event)
  in-order = lines_in p.plays.calls

  pub are-events : map (λ (line : ℕ × Event). line.1) in-order ≡ events journal
  are-events =
      map-map (λ (line : ℕ × Event). line.1) (λ (c : live.Call). (c.0, c.1.event)) p.plays.calls
      ∙ sym (ap events p.plays.journal_is ∙ map-map (λ (e : Entry). e.event) (λ (c : live.Call). c.1) p.plays.calls)

  pub text-lines : text
      ≡ lines_text in-order (replies call.settings (meaning_of call.codec) [] (events journal))
  text-lines =
      p.plays.text_is
      ∙ ap (λ (c : Call). transcript c.settings (meaning_of c.codec) [] in-order) same-call
      ∙ transcript-lines (meaning_of call.codec) call.settings [] in-order
      ∙ ap (λ es. lines_text in-order (replies call.settings (meaning_of call.codec) [] es)) are-events

honest-of : HonestCallHolds → (capture : List ℕ) (status : Status) (told : Option (List Entry))
    (before after left : Option (List ℕ)) → LiveEnds status told capture before after left
    → HonestLive status told capture before after
honest-of law capture statuses.Done (Some j) before after left ends call journal sender origins is same sent took =
    let here : j ≡ journal = same_Some j journal same in
    let plays : PlaysCapture capture journal ends.0 = subst (λ x. PlaysCapture capture x ends.0) here ends.1 in
    let lines = text-lines law capture call is journal ends.0 plays in record {
      lines = in-order law capture call is journal ends.0 plays;
      are = are-events law capture call is journal ends.0 plays;
      honest = law call.settings (meaning_of call.codec) sender (events journal) origins
          (live-faultless (lines_of capture) call is) sent took;
      took = subst (TookPrefix before after) lines
          (length ends.0, ends.2 ∙ ap (with_more before) (sym (take-all ends.0)));
      whole = λ done. ends.2 ∙ ap (with_more before) lines;
    }
honest-of law capture statuses.WriteFault (Some j) before after left ends call journal sender origins is same sent took =
    let here : j ≡ journal = same_Some j journal same in
    let plays : PlaysCapture capture journal ends.0 = subst (λ x. PlaysCapture capture x ends.0) here ends.1 in
    let lines = text-lines law capture call is journal ends.0 plays in record {
      lines = in-order law capture call is journal ends.0 plays;
      are = are-events law capture call is journal ends.0 plays;
      honest = law call.settings (meaning_of call.codec) sender (events journal) origins
          (live-faultless (lines_of capture) call is) sent took;
      took = subst (TookPrefix before after) lines (ends.2.count, ends.2.part);
      whole = λ done. cc;
    }
honest-of law capture statuses.Done None before after left ends call journal sender origins is same sent took = absurd ends
honest-of law capture statuses.WriteFault None before after left ends call journal sender origins is same sent took =
    absurd (none-some journal same)
honest-of law capture statuses.BadCapture None before after left ends call journal sender origins is same sent took =
    absurd (none-some journal same)
honest-of law capture statuses.BadCapture (Some j) before after left ends call journal sender origins is same sent took =
    absurd ends
honest-of law capture statuses.ReadFault None before after left ends call journal sender origins is same sent took =
    absurd (none-some journal same)
honest-of law capture statuses.ReadFault (Some j) before after left ends call journal sender origins is same sent took =
    absurd ends
honest-of law capture statuses.NoMemory None before after left ends call journal sender origins is same sent took =
    absurd (none-some journal same)
honest-of law capture statuses.NoMemory (Some j) before after left ends call journal sender origins is same sent took =
    absurd ends
honest-of law capture statuses.BadUsage told before after left ends call journal sender origins is same sent took =
    absurd ends

pub over-honest : HonestCallHolds → (source : Option (List ℕ)) (status : Status) (told : Option (List Entry))
    (before after left : Option (List ℕ)) → IfSome source (λ capture. LiveEnds status told capture before after left)
    → IfSome source (λ capture. HonestLive status told capture before after)
over-honest law None status told before after left ends = tt
over-honest law (Some capture) status told before after left ends =
    honest-of law capture status told before after left ends
