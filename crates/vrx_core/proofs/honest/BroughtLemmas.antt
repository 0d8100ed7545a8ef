-- The verdict on octets that are known to be a packet of the stream.
use Rattle.std.proofs.Common.{◌≡◌, ℕ, List, Some, Result, Ok, Err, refl, sym, ◌∙◌, ap}
use Rattle.std.specs.Prelude.{IsErr}
use Rattle.vrx_num.specs.Extended.{extended_number}
use Rattle.vrx_codec.specs.Meaning.{Meaning}
use Rattle.vrx_window.specs.Content.{Content}
use Rattle.vrx_window.specs.Window.{Contents, would_of}
use Rattle.vrx_window.specs.declared.placing.Placing.TheVariants as placings
use Rattle.vrx_core.specs.machine.Original.{Original, original}
use Rattle.vrx_core.specs.machine.Verdict.{verdict}
use Rattle.vrx_core.specs.declared.settings.Settings.{Settings}
use Rattle.vrx_core.specs.declared.original.NotTaken.{NotTaken}
use Rattle.vrx_core.proofs.machine.VerdictLemmas.{IsTaken, verdict-taken, verdict-take, verdict-aside}

-- the packet that an Ok holds, else another
held : Result Original NotTaken → Original → Original
held (Ok x) y = x
held (Err left) y = y

module _ (settings : Settings) (codec : Meaning) (window : Contents Content) (octets : List ℕ) where
  -- if it is taken, it is by its extended number, which is fresh, as what it brings
  pub verdict_taken : (o : Original) (n : ℕ) (content : Content) → original settings codec octets ≡ Ok o →
      verdict settings codec window octets ≡ Ok (n, content) →
      (extended_number window.newest o.wire ≡ Some n) × (content ≡ o.content) × (would_of window n ≡ placings.Fresh)
  unfolding held
  verdict_taken o n content is e =
      let t : IsTaken settings codec window octets n content =
      verdict-taken settings codec window octets n content e in
      let same : t.packet ≡ o = ap (λ r. held r o) (sym t.is ∙ is) in (
        sym (ap (λ (x : Original). extended_number window.newest x.wire) same) ∙ t.number,
        sym t.content_is
            ∙ ap (λ (x : Original). x.content) same,
        t.fresh,
      )

  -- and so it is if that number is fresh
  pub verdict_take : (o : Original) (n : ℕ) → original settings codec octets ≡ Ok o →
      extended_number window.newest o.wire ≡ Some n → would_of window n ≡ placings.Fresh →
      verdict settings codec window octets ≡ Ok (n, o.content)
  verdict_take o n is number fresh =
      verdict-take settings codec window octets n o.content
      (record { packet = o; is = is; number = number; content_is = refl; fresh = fresh })

  -- octets that aren't taken whatever came before aren't
  pub verdict_aside : IsErr (original settings codec octets) →
      (left : NotTaken) × (verdict settings codec window octets ≡ Err left)
  verdict_aside aside = by_original (original settings codec octets) refl aside where
    by_original : (r : Result Original NotTaken) → original settings codec octets ≡ r → IsErr r →
        (left : NotTaken) × (verdict settings codec window octets ≡ Err left)
    by_original (Ok o) is h = absurd (cc)
    by_original (Err left) is h = (left, verdict-aside settings codec window octets left is)
