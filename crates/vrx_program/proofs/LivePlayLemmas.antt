-- The texts of a journal that was played, and how they are written.
use Rattle.std.proofs.Common.{◌≡◌, ◌∙◌, ℕ, zero, suc, ◌+◌, List, [], ◌∷◌, ◌++◌, length, take, flat_map, refl, sym, ap, subst, append_assoc, append-nil, length-append, arith}
use Rattle.std.specs.Prelude.{Option, Some, slice_get}
use Rattle.std.proofs.lemmas.Option.{slice_get_within}
use Rattle.vrx_io.specs.Sink.{with_more, TakesShortPrefix}
use Rattle.vrx_codec.specs.Meaning.{Meaning}
use Rattle.vrx_core.specs.declared.event.Event.{Event}
use Rattle.vrx_core.specs.declared.settings.Settings.{Settings}
use Rattle.vrx_core.specs.machine.Machine.{reply}
use Rattle.vrx_lock.specs.declared.entry.Entry.{Entry}
use Rattle.vrx_lock.specs.declared.known.Known.{Known}
use Rattle.vrx_lock.specs.Lists.{BeginsWith, counted_from}
use Rattle.vrx_live.specs.declared.lists.Lists.{Lists}
use Rattle.vrx_live.specs.Calls as live
use Rattle.vrx_live.specs.Texts.{texts_from}
use Rattle.vrx_live.specs.Runs.{HaveRun}
use Rattle.vrx_text.specs.Transcript.{text_of, transcript}
use Rattle.vrx_program.specs.Live.{Plays, lines_in}
use Rattle.vrx_program.specs.LiveReading.{IsPlayed, IsPut}
use Rattle.vrx_program.specs.declared.status.Status.{Status}
use Rattle.vrx_program.specs.declared.status.Status.TheVariants as statuses
use Rattle.vrx_program.proofs.TextLemmas.{part-later, part-longer, with_more-twice}

-- the octets of texts
abbrev pub flat : List (ℕ × List ℕ) → List ℕ
flat texts = flat_map (λ text. text.1) texts

pub flat-texts : (settings : Settings) (codec : Meaning) (h : List Event) (calls : List live.Call)
    → flat (texts_from settings codec h calls) ≡ transcript settings codec h (lines_in calls)
unfolding transcript
flat-texts settings codec h [] = refl
flat-texts settings codec h (call ∷ calls) =
    ap (λ t. text_of call.0 (reply settings codec h call.1.event) ++ t)
    (flat-texts settings codec (call.1.event ∷ h) calls)

-- ---- the journal of a whole seat

length-counted : (n k : ℕ) → length (counted_from n k) ≡ k
length-counted n zero = refl
length-counted n (suc k) = ap suc (length-counted (n + 1) k)

no-more : (xs rest : List Entry) → length (xs ++ rest) ≡ length xs → xs ++ rest ≡ xs
no-more xs [] e = append-nil xs
no-more xs (x ∷ rest) e = absurd (omega (arith, e, length-append xs (x ∷ rest)))

pub same-journal : (journal seen : List Entry) (places : List ℕ) → BeginsWith journal seen
    → places ≡ counted_from 0 (length seen) → places ≡ counted_from 0 (length journal) → journal ≡ seen
same-journal journal seen places b e e' =
    let long : length (seen ++ b.rest) ≡ length seen =
    omega (arith, ap length e, ap length e', length-counted 0 (length seen), length-counted 0 (length journal), ap length b.is) in
    b.is ∙ no-more seen b.rest long

pub run-plays : (settings : Settings) (codec : Meaning) (lists : Lists) (known : Known) (journal : List Entry)
    (printed : List (ℕ × List ℕ)) → HaveRun codec lists known printed → known.setup.settings ≡ settings
    → journal ≡ known.seen → Plays settings codec lists journal (flat printed)
run-plays settings codec lists known journal printed run is same = record {
  calls = run.calls;
  order = run.order;
  journal_is = same ∙ run.seen;
  text_is = ap flat run.texts ∙ ap (λ s. flat (texts_from s codec [] run.calls)) is
      ∙ flat-texts settings codec [] run.calls;
}

pub put-played : (settings : Settings) (codec : Meaning) (lists : Lists) (journal : List Entry) (text : List ℕ)
    (status : Status) (before after : Option (List ℕ)) → Plays settings codec lists journal text
    → IsPut status text before after → IsPlayed settings codec lists status (Some journal) before after
put-played settings codec lists journal text statuses.Done before after plays put = (text, plays, put)
put-played settings codec lists journal text statuses.WriteFault before after plays put = (text, plays, put)
put-played settings codec lists journal text statuses.BadUsage before after plays put = absurd put
put-played settings codec lists journal text statuses.BadCapture before after plays put = absurd put
put-played settings codec lists journal text statuses.ReadFault before after plays put = absurd put
put-played settings codec lists journal text statuses.NoMemory before after plays put = absurd put

-- ---- writing the texts

flat-next : (texts : List (ℕ × List ℕ)) (i k : ℕ) (text : List ℕ) → slice_get texts i ≡ Some (k, text)
    → flat (take (i + 1) texts) ≡ flat (take i texts) ++ text
flat-next [] i k text e = absurd (omega (arith, slice_get_within [] i (k, text) e))
flat-next (t ∷ texts) zero k text e =
    let same : t ≡ (k, text) = cc in append-nil t.1 ∙ ap (λ x. x.1) same
flat-next (t ∷ texts) (suc i) k text e =
    let one : suc i + 1 ≡ suc (i + 1) = omega arith in
    ap (λ n. flat (take n (t ∷ texts))) one ∙ ap (λ r. t.1 ++ r) (flat-next texts i k text e)
    ∙ sym (append_assoc t.1 (flat (take i texts)) text)

flat-front : (texts : List (ℕ × List ℕ)) (n : ℕ) → (more : List ℕ) × (flat texts ≡ flat (take n texts) ++ more)
flat-front texts zero = (flat texts, refl)
flat-front [] (suc n) = ([], refl)
flat-front (t ∷ texts) (suc n) = let rest = flat-front texts n in
    (rest.0, ap (λ r. t.1 ++ r) rest.1 ∙ sym (append_assoc t.1 (flat (take n texts)) rest.0))

module _ (texts : List (ℕ × List ℕ)) (i k : ℕ) (text : List ℕ) (at : slice_get texts i ≡ Some (k, text))
    (before mid after : Option (List ℕ)) (so-far : mid ≡ with_more before (flat (take i texts))) where
  pub put-next : after ≡ with_more mid text → after ≡ with_more before (flat (take (i + 1) texts))
  put-next wrote = wrote ∙ ap (λ m. with_more m text) so-far ∙ with_more-twice before (flat (take i texts)) text
      ∙ ap (with_more before) (sym (flat-next texts i k text at))

  pub put-part : TakesShortPrefix mid after text → TakesShortPrefix before after (flat texts)
  put-part part = let front = flat-front texts (i + 1) in
      subst (TakesShortPrefix before after) (sym (front.1 ∙ ap (λ t. t ++ front.0) (flat-next texts i k text at)))
      (part-longer before after (flat (take i texts) ++ text) front.0
      (part-later before mid after (flat (take i texts)) text so-far part))
