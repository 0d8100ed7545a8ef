-- What live has read of a capture, call by call of the reader.
use Rattle.std.proofs.Common.{◌≡◌, ◌∙◌, ◌⊎◌, ℕ, true, false, List, [], ◌∷◌, ◌++◌, refl, sym, ap, subst, inl, inr, append-nil, arith}
use Rattle.std.specs.Prelude.{Option, Some, None, Ok, Err, IfSome}
use Rattle.vrx_io.specs.Source.{IsSpent}
use Rattle.vrx_core.specs.declared.event.Event.{Event}
use Rattle.vrx_core.specs.declared.settings.NewFault.{NewFault}
use Rattle.vrx_core.specs.declared.settings.NewFault.TheVariants as faults
use Rattle.vrx_core.specs.declared.settings.Settings.{Settings}
use Rattle.vrx_core.specs.machine.SettingsFault.{fault_of}
use Rattle.vrx_lock.specs.declared.limits.TheConstants.{MOST_ENTRIES}
use Rattle.vrx_live.specs.declared.lists.Lists.{Lists}
use Rattle.vrx_capture.specs.Line.{lines_of}
use Rattle.vrx_capture.specs.Reading.{sound}
use Rattle.vrx_capture.specs.Reader.{Reader, opening, Passes, MayFollow, HasNoHead, IsHead, IsNext, AllSayBad}
use Rattle.vrx_capture.specs.Joins.{LinesJoin, ReadingsJoin}
use Rattle.vrx_capture.specs.declared.line.LineReason.{LineReason}
use Rattle.vrx_capture.specs.declared.lines.Line.TheVariants as lines
use Rattle.vrx_capture.specs.declared.settings_line.CodecName.{CodecName}
use Rattle.vrx_text.specs.declared.transcript.ErrorReason.TheVariants as errors
use Rattle.vrx_program.specs.HasRead.{HasRead}
use Rattle.vrx_program.specs.Replay.{call_with, settings_of, unless_fault}
use Rattle.vrx_program.specs.Live.{dealt, live_call_from, live_call_in, refused_in, with_line}
use Rattle.vrx_program.specs.LiveReading.{IsDealing, IsDealt, IsHeadStopped, IsRefusedSettings, IsStopped, IsTold, IsUnread}
use Rattle.vrx_program.specs.declared.live.told.Unread.{Unread}
use Rattle.vrx_program.specs.declared.live.told.Unread.TheVariants as unread
use Rattle.vrx_program.proofs.ReadsLemmas.{ahead-told, reads-on, reads-first, reads-end, reads-bad, reads-front}
use Rattle.vrx_program.proofs.ReplayLemmas.{settings-long}

-- ---- the first line

no-call : (lines : List (List ℕ)) → HasNoHead lines → live_call_in lines ≡ Err errors.Settings
no-call [] none = refl
no-call (line ∷ lines) long = ap (λ s. live_call_from s lines) (settings-long line long)

module _ (lines_join : LinesJoin) (readings_join : ReadingsJoin) (source : Option (List ℕ)) (new : Reader)
    (after : Option (List ℕ)) (p : Passes (opening MOST_ENTRIES) new source after) where
  -- it was given
  pub first-read : (line : List ℕ) → IsHead (opening MOST_ENTRIES) new p.read p.gone (Some line) → new.events ≡ 0
      → new.bad ≡ None → HasRead MOST_ENTRIES source line new after []
  first-read line head events bad =
      (reads-first lines_join readings_join MOST_ENTRIES source line new after p head.0 events bad).0

  -- there is none that may be taken
  pub first-none : IsHead (opening MOST_ENTRIES) new p.read p.gone None
      → IfSome source (λ capture. IsUnread capture (unread.Refused 1 errors.Settings))
  first-none head = over source refl
    where
      over : (o : Option (List ℕ)) → source ≡ o
          → IfSome o (λ capture. IsUnread capture (unread.Refused 1 errors.Settings))
      over None is = tt
      over (Some capture) is = ap refused_in (no-call (lines_of capture)
          (subst (λ c. HasNoHead (lines_of c)) (sym told.2) (head.1 (omega arith) told.0 follows)))
        where
          told : (rest : List ℕ) × (after ≡ Some rest) × (capture ≡ p.read ++ rest)
          told = ahead-told p.read capture after (sym is ∙ p.source)

          follows : MayFollow new told.0
          follows ended = by_end (p.end ended) where
            by_end : (false ≡ true) ⊎ IsSpent after → told.0 ≡ []
            by_end (inl never) = cc never
            by_end (inr spent) = subst IsSpent told.1 spent

-- it was given, and its settings aren't taken
pub first-stopped : LinesJoin → ReadingsJoin → (source left : Option (List ℕ)) (line : List ℕ) (reader : Reader)
    → HasRead MOST_ENTRIES source line reader left [] → (why : Unread) → IsHeadStopped (settings_of line) why
    → IfSome source (λ capture. IsUnread capture why)
first-stopped lines_join readings_join source left line reader read why stopped = over source refl
  where
    unread-is : (capture : List ℕ) (others : List (List ℕ)) → lines_of capture ≡ line ∷ others → (why : Unread)
        → IsHeadStopped (settings_of line) why → IsUnread capture why
    unread-is capture others is (unread.Refused k reason) refused =
        ap (λ ls. refused_in (live_call_in ls)) is ∙ ap (λ s. refused_in (live_call_from s others)) refused.1
        ∙ ap (λ n. Some (n, reason)) (sym refused.0)
    unread-is capture others is unread.ReadFault refused = tt
    unread-is capture others is unread.NoMemory refused = tt

    over : (o : Option (List ℕ)) → source ≡ o → IfSome o (λ capture. IsUnread capture why)
    over None is = tt
    over (Some capture) is = let f =
        reads-front lines_join readings_join MOST_ENTRIES source line reader left [] read capture is in
        unread-is capture f.0 f.1 why stopped

-- ---- the other lines

module _ (lines_join : LinesJoin) (readings_join : ReadingsJoin) (start mid after : Option (List ℕ)) (first : List ℕ)
    (old new : Reader) (lists : Lists) (d : IsDealing start mid first old lists) (p : Passes old new mid after) where
  -- an event
  pub dealing-next : (k : ℕ) (event : Event) → IsNext old new p.read p.gone (Ok (lines.Event k event)) → (later : Lists)
      → ((ls : List (ℕ × Event)) → lists ≡ dealt ls → later ≡ dealt (with_line ls k event))
      → IsDealing start after first new later
  dealing-next k event next later deals = record {
    events = with_line d.events k event;
    read = (reads-on lines_join readings_join MOST_ENTRIES start first old new mid after d.events ((k, event) ∷ [])
        d.read p next.0 next.1 next.3).0;
    lists_are = deals d.events d.lists_are;
  }

  -- the end
  pub dealing-end : IsNext old new p.read p.gone (Ok lines.End) → IsDealt start after first lists
  dealing-end next capture is =
      let read : HasRead MOST_ENTRIES start first new after (d.events ++ []) =
      (reads-on lines_join readings_join MOST_ENTRIES start first old new mid after d.events [] d.read p next.0
      (omega (arith, next.3)) next.4).0 in
      let all = reads-end lines_join readings_join MOST_ENTRIES start first new after (d.events ++ []) read next.1 next.2
      capture is in (
        all.0,
        d.events,
        all.1,
        all.2 ∙ ap sound (append-nil d.events),
        d.lists_are,
        all.3,
      )

  -- a bad line
  pub dealing-bad : (k : ℕ) (reason : LineReason) → AllSayBad old new (old.kept ++ p.read) (k, reason)
      → IsStopped start first (unread.Refused k (errors.Line reason))
  dealing-bad k reason all capture is = let b =
      reads-bad lines_join readings_join MOST_ENTRIES start first old new mid after d.events (k, reason) d.read p all
      capture is in (b.0, d.events, b.1, b.2)

-- ---- the whole capture

-- it was read
pub all-told : (start left : Option (List ℕ)) (first : List ℕ) (codec : CodecName) (settings : Settings) (lists : Lists)
    → settings_of first ≡ Ok (codec, settings) → IsDealt start left first lists
    → IfSome start (λ capture. IsTold capture codec settings lists left)
all-told start left first codec settings lists told dealing = over start refl
  where
    over : (o : Option (List ℕ)) → start ≡ o → IfSome o (λ capture. IsTold capture codec settings lists left)
    over None is = tt
    over (Some capture) is = let d = dealing capture is in record {
      call = call_with (codec, settings) (sound d.1);
      told = ap live_call_in d.2 ∙ ap (λ s. live_call_from s d.0) told ∙ ap (λ r. Ok (call_with (codec, settings) r)) d.3;
      right = refl;
      codec_is = refl;
      settings_are = refl;
      lists_are = d.4;
      end = d.5;
    }

-- it wasn't
pub all-unread : (start : Option (List ℕ)) (first : List ℕ) (codec : CodecName) (settings : Settings) (why : Unread)
    → settings_of first ≡ Ok (codec, settings) → IsStopped start first why
    → IfSome start (λ capture. IsUnread capture why)
all-unread start first codec settings why told stopped = over start refl
  where
    unread-is : (capture : List ℕ) → start ≡ Some capture → (why : Unread) → IsStopped start first why
        → IsUnread capture why
    unread-is capture is (unread.Refused k (errors.Line reason)) stop = let s = stop capture is in
        ap (λ ls. refused_in (live_call_in ls)) s.2 ∙ ap (λ x. refused_in (live_call_from x s.0)) told
        ∙ ap (λ r. refused_in (Ok (call_with (codec, settings) r))) s.3
    unread-is capture is (unread.Refused k errors.Settings) stop = absurd stop
    unread-is capture is unread.ReadFault stop = tt
    unread-is capture is unread.NoMemory stop = tt

    over : (o : Option (List ℕ)) → start ≡ o → IfSome o (λ capture. IsUnread capture why)
    over None is = tt
    over (Some capture) is = unread-is capture is why stopped

-- ---- settings that aren't taken

refused-first : (line : List ℕ) (codec : CodecName) (settings : Settings) (fault : NewFault)
    → settings_of line ≡ unless_fault codec settings (fault_of settings) → (fault ≡ faults.NoMemory → ⊥)
    → (fault ≡ faults.NoMemory) ⊎ (fault_of settings ≡ Some fault) → (why : Unread)
    → why ≡ unread.Refused 1 errors.Settings → IsHeadStopped (settings_of line) why
refused-first line codec settings fault told other (inl memory) why is = absurd (other memory)
refused-first line codec settings fault told other (inr has) why is =
    subst (IsHeadStopped (settings_of line)) (sym is) (refl, told ∙ ap (unless_fault codec settings) has)

pub fault-stopped : (line : List ℕ) (codec : CodecName) (settings : Settings) (fault : NewFault)
    → settings_of line ≡ unless_fault codec settings (fault_of settings)
    → (fault ≡ faults.NoMemory) ⊎ (fault_of settings ≡ Some fault) → (why : Unread) → IsRefusedSettings fault why
    → IsHeadStopped (settings_of line) why
fault-stopped line codec settings faults.NoMemory told has why is =
    subst (IsHeadStopped (settings_of line)) (sym is) tt
fault-stopped line codec settings faults.BadType told has why is =
    refused-first line codec settings faults.BadType told (λ e. cc) has why is
fault-stopped line codec settings faults.SameType told has why is =
    refused-first line codec settings faults.SameType told (λ e. cc) has why is
fault-stopped line codec settings faults.SameSsrc told has why is =
    refused-first line codec settings faults.SameSsrc told (λ e. cc) has why is
fault-stopped line codec settings faults.RedMissing told has why is =
    refused-first line codec settings faults.RedMissing told (λ e. cc) has why is
fault-stopped line codec settings faults.BadInterval told has why is =
    refused-first line codec settings faults.BadInterval told (λ e. cc) has why is
