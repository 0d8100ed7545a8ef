-- When a datagram is taken, by the steps of the table.
use Rattle.std.proofs.Common.{◌≡◌, ℕ, Bool, true, false, if◌then◌else◌, List, Option, Some, None, Result, Ok, Err, ok_or, refl, ◌∙◌, ap, subst}
use Rattle.vrx_num.specs.Extended.{extended_number}
use Rattle.vrx_codec.specs.Meaning.{Meaning}
use Rattle.vrx_window.specs.Content.{Content}
use Rattle.vrx_window.specs.Window.{Contents, is_too_old, is_dead, is_available, would_of}
use Rattle.vrx_window.specs.declared.placing.Placing.{Placing}
use Rattle.vrx_window.specs.declared.placing.Placing.TheVariants as placings
use Rattle.vrx_core.specs.machine.Original.{Original, original}
use Rattle.vrx_core.specs.machine.Verdict.{verdict, if_fresh}
use Rattle.vrx_num.specs.ResultChain.{◌>>=◌}
use Rattle.vrx_core.specs.declared.settings.Settings.{Settings}
use Rattle.vrx_core.specs.declared.original.NotTaken.{NotTaken}
use Rattle.vrx_core.specs.declared.original.NotTaken.TheVariants.{Refused}
use Rattle.vrx_core.specs.declared.reply.Reason.TheVariants.{TooFar}

-- a datagram is taken under n with this content: it is a packet of the stream, with this number, which is fresh
pub record IsTaken (settings : Settings) (codec : Meaning) (window : Contents Content) (octets : List ℕ) (n : ℕ)
    (content : Content) : Type 0 where
  pub packet : Original
  pub is : original settings codec octets ≡ Ok packet
  pub number : extended_number window.newest packet.wire ≡ Some n
  pub content_is : packet.content ≡ content
  pub fresh : would_of window n ≡ placings.Fresh

-- a number is fresh: it isn't too old, wasn't given up and isn't available
pub record IsFresh (window : Contents Content) (n : ℕ) : Type 0 where
  pub young : is_too_old window.newest n ≡ false
  pub alive : is_dead n window.dead ≡ false
  pub free : is_available n window.packets ≡ false

-- what an Ok holds, else the other value
held : Result (ℕ × Content) NotTaken → ℕ × Content → ℕ × Content
held (Ok x) y = x
held (Err left) y = y

-- two values that an Ok holds
same_held : (x y : ℕ × Content) → ◌≡◌ {A = Result (ℕ × Content) NotTaken} (Ok x) (Ok y) → x ≡ y
unfolding held
same_held x y e = ap (λ r. held r y) e

-- only a fresh number is taken
placed-fresh : (p : Placing) (x y : ℕ × Content) → if_fresh p x ≡ Ok y → (p ≡ placings.Fresh) × (x ≡ y)
placed-fresh placings.TooOld x y e = absurd (cc)
placed-fresh placings.Dead x y e = absurd (cc)
placed-fresh placings.Repeat x y e = absurd (cc)
placed-fresh placings.Fresh x y e = (refl, same_held x y e)

module _ (settings : Settings) (codec : Meaning) (window : Contents Content) (octets : List ℕ) where
  -- what comes of a packet, once its number is known
  abbrev numbered : Content → Option ℕ → Result (ℕ × Content) NotTaken
  numbered content number = ok_or number (Refused TooFar) >>= λ n. if_fresh (would_of window n) (n, content)

  -- what comes of octets, once it is known what they are by themselves
  abbrev table : Result Original NotTaken → Result (ℕ × Content) NotTaken
  table r = r >>= λ packet. numbered packet.content (extended_number window.newest packet.wire)

  numbered_taken : (packet : Original) → original settings codec octets ≡ Ok packet → (number : Option ℕ) →
      extended_number window.newest packet.wire ≡ number → (n : ℕ) (content : Content) →
      numbered packet.content number ≡ Ok (n, content)
      → IsTaken settings codec window octets n content
  numbered_taken packet is None number n content e = absurd (cc)
  numbered_taken packet is (Some m) number n content e =
      let placed : (would_of window m ≡ placings.Fresh) × (◌≡◌ {A = ℕ × Content} (m, packet.content) (n, content)) =
      placed-fresh (would_of window m) (m, packet.content) (n, content) e in
      let same : m ≡ n = ap (λ (x : ℕ × Content). x.0) placed.1 in
      record {
        packet = packet;
        is = is;
        number = number ∙ ap Some same;
        content_is = ap (λ (x : ℕ × Content). x.1) placed.1;
        fresh = subst (λ (k : ℕ). would_of window k ≡ placings.Fresh) same placed.0;
      }

  table_taken : (r : Result Original NotTaken) → original settings codec octets ≡ r → (n : ℕ) (content : Content) →
      table r ≡ Ok (n, content) → IsTaken settings codec window octets n content
  table_taken (Err left) is n content e = absurd (cc)
  table_taken (Ok packet) is n content e =
      numbered_taken packet is (extended_number window.newest packet.wire) refl n content e

  -- what is taken is so
  pub verdict-taken : (n : ℕ) (content : Content) → verdict settings codec window octets ≡ Ok (n, content) →
      IsTaken settings codec window octets n content
  verdict-taken n content e = table_taken (original settings codec octets) refl n content e

  -- and what is so is taken
  pub verdict-take : (n : ℕ) (content : Content) → IsTaken settings codec window octets n content →
      verdict settings codec window octets ≡ Ok (n, content)
  verdict-take n content t =
      ap table t.is
      ∙ ap (numbered t.packet.content) t.number
      ∙ ap (λ p. if_fresh p (n, t.packet.content)) t.fresh
      ∙ ap taken t.content_is where
        taken : Content → Result (ℕ × Content) NotTaken
        taken c = Ok (n, c)

  -- what octets get by themselves is the verdict
  pub verdict-aside : (left : NotTaken) → original settings codec octets ≡ Err left →
      verdict settings codec window octets ≡ Err left
  verdict-aside left is = ap table is

-- what fresh means
pub fresh-is : (window : Contents Content) (n : ℕ) → would_of window n ≡ placings.Fresh → IsFresh window n
fresh-is window n fresh =
    by_tests (is_too_old window.newest n) (is_dead n window.dead)
    (is_available n window.packets) refl refl refl fresh where
      by_tests : (old dead there : Bool) → is_too_old window.newest n ≡ old → is_dead n window.dead ≡ dead →
          is_available n window.packets ≡ there
          → (if old then placings.TooOld else if dead then placings.Dead else if there then placings.Repeat
          else placings.Fresh) ≡ placings.Fresh → IsFresh window n
      by_tests true dead there is_old dies stands e = absurd (cc)
      by_tests false true there is_old dies stands e = absurd (cc)
      by_tests false false true is_old dies stands e = absurd (cc)
      by_tests false false false is_old dies stands e = record { young = is_old; alive = dies; free = stands }

-- and back
pub fresh-from : (window : Contents Content) (n : ℕ) → IsFresh window n → would_of window n ≡ placings.Fresh
fresh-from window n f =
    ap (λ b. if b then placings.TooOld else if is_dead n window.dead then placings.Dead
    else if is_available n window.packets then placings.Repeat else placings.Fresh) f.young
    ∙ ap (λ b. if b then placings.Dead else if is_available n window.packets then placings.Repeat else placings.Fresh)
    f.alive
    ∙ ap (λ b. if b then placings.Repeat else placings.Fresh) f.free
