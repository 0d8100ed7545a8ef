-- The first step, looked for among all numbers of the window.
use Rattle.std.proofs.Common.{◌≡◌, ℕ, zero, suc, ◌+◌, ◌-◌, ◌<◌, ◌≤◌, true, cond, List, Option, Some, None, refl, sym, ◌∙◌, ap, arith}
use Rattle.std.specs.Option.{option_and_then, option_or}
use Rattle.std.specs.Result.{result_ok}
use Rattle.std.proofs.lemmas.Bool.{and_parts, leb-true, ltb-true}
use Rattle.std.proofs.lemmas.Option.{none-some}
use Rattle.vrx_num.specs.OptionChain.{◌>>=◌}
use Rattle.vrx_num.specs.declared.limits.TheConstants.{WINDOW}
use Rattle.vrx_fec.specs.Mask.{numbers_from}
use Rattle.vrx_fec.specs.Parity.{Texts}
use Rattle.vrx_fec.specs.Payload.{Payload, protected}
use Rattle.vrx_fec.specs.Rebuilt.{rebuilt}
use Rattle.vrx_window.specs.Content.{Content}
use Rattle.vrx_window.specs.IsWindow.{IsWithin}
use Rattle.vrx_window.specs.Window.{in_window}
use Rattle.vrx_repair.specs.Source.{Source}
use Rattle.vrx_repair.specs.Step.{Packets, first_of, first_step, is_wanted, media_under, others_of, rebuilt_under, step, texts_at}
use Rattle.vrx_repair.proofs.StepLemmas.{first-range, step-nothing}

-- what is rebuilt under a wanted number, once its text is
pub under-text : (source : Source) (newest : Option ℕ) (dead : List ℕ) (ps : Packets) (base : ℕ) (p : Payload) (i : ℕ)
    (text : List ℕ) → is_wanted newest dead (base + i) ≡ true →
    Some text ≡ option_and_then (λ others. result_ok (rebuilt p others i source.ssrc)) (texts_at ps base (others_of i (protected p)))
    → media_under source (base + i) text ≡ rebuilt_under source newest dead ps base p i
under-text source newest dead ps base p i text wanted is =
    by_texts (texts_at ps base (others_of i (protected p))) is
    ∙ sym (ap (λ b. cond b (texts_at ps base (others_of i (protected p)) >>= finish) None) wanted) where
      finish : Texts → Option (ℕ × Content)
      finish others = result_ok (rebuilt p others i source.ssrc) >>= media_under source (base + i)

      by_texts : (o : Option Texts) → Some text ≡ option_and_then (λ others. result_ok (rebuilt p others i source.ssrc)) o
          → media_under source (base + i) text ≡ (o >>= finish)
      by_texts None e = absurd (none-some text (sym e))
      by_texts (Some others) e = ap (λ o. o >>= media_under source (base + i)) e

module _ (f : ℕ → Option (ℕ × Content)) where
  pub first-found : (n count : ℕ) (x : ℕ × Content) → 0 < count → f n ≡ Some x → first_of f (numbers_from n count) ≡ Some x
  first-found n zero x some is = absurd (omega arith)
  first-found n (suc count) x some is = ap (λ o. option_or o (first_of f (numbers_from (n + 1) count))) is

  pub first-next : (n m count rest : ℕ) → count ≡ rest + 1 → n + 1 ≡ m → f n ≡ None →
      first_of f (numbers_from n count) ≡ first_of f (numbers_from m rest)
  first-next n m zero rest is next none = absurd (omega arith)
  first-next n m (suc count) rest is next none =
      let same : count ≡ rest = omega arith in
      ap (λ o. option_or o (first_of f (numbers_from (n + 1) count))) none
      ∙ ap (λ k. first_of f (numbers_from (n + 1) k)) same ∙ ap (λ k. first_of f (numbers_from k rest)) next

  -- numbers that give nothing are passed over
  first-skips : (gap n count rest : ℕ) → count ≡ rest + gap → ((k : ℕ) → n ≤ k → k < n + gap → f k ≡ None) →
      first_of f (numbers_from n count) ≡ first_of f (numbers_from (n + gap) rest)
  first-skips zero n count rest is none =
      let same : count ≡ rest = omega arith in
      let here : n ≡ n + 0 = omega arith in
      ap (λ k. first_of f (numbers_from n k)) same ∙ ap (λ k. first_of f (numbers_from k rest)) here
  first-skips (suc gap) n count rest is none =
      let there : n + 1 + gap ≡ n + suc gap = omega arith in
      first-next n (n + 1) count (rest + gap) (omega arith) refl (none n (omega arith) (omega arith))
      ∙ first-skips gap (n + 1) (rest + gap) rest refl (λ k later before. none k (omega arith) (omega arith))
      ∙ ap (λ k. first_of f (numbers_from k rest)) there

  pub first-passed : (n next newest : ℕ) → n ≤ next → next ≤ newest →
      ((k : ℕ) → n ≤ k → k < next → f k ≡ None) →
      first_of f (numbers_from n (newest + 1 - n)) ≡ first_of f (numbers_from next (newest + 1 - next))
  first-passed n next newest later upto none =
      let there : n + (next - n) ≡ next = omega arith in
      first-skips (next - n) n (newest + 1 - n) (newest + 1 - next) (omega arith)
      (λ k after before. none k after (omega arith))
      ∙ ap (λ k. first_of f (numbers_from k (newest + 1 - next))) there

-- of the packets within a window the first step is the first of its numbers that has one
pub first-in-window : (source : Source) (newest : ℕ) (dead : List ℕ) (ps : Packets) (lowest count : ℕ) →
    IsWithin (Some newest) ps → lowest ≡ newest - 2047 → count ≡ newest - lowest + 1 →
    first_step source (Some newest) dead ps ≡ first_of (step source (Some newest) dead ps) (numbers_from lowest count)
first-in-window source newest dead ps lowest count within lowest_is count_is =
    first-range (step source (Some newest) dead ps) count lowest ps within.rise
    (λ k later none. step-nothing source (Some newest) dead ps k none)
    (λ k there. inside k (within.inside k there)) where
      inside : (k : ℕ) → in_window newest k ≡ true → (lowest ≤ k) × (k < lowest + count)
      inside k is =
          let parts = and_parts _ _ is in
          let low : newest < k + WINDOW = ltb-true newest (k + WINDOW) parts.0 in
          let high : k ≤ newest = leb-true k newest parts.1 in
          (omega arith, omega arith)
