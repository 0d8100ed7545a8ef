-- When a datagram is taken, and when each reason refuses it.
use Rattle.std.proofs.Common.{◌≡◌, ◌↔◌, ℕ, ◌+◌, ◌<◌, ◌≤◌, Bool, true, false, if◌then◌else◌, List, Option, Some, None, IfSome, Result, Ok, Err, ok_or, refl, sym, ◌∙◌, ap, subst}
use Rattle.std.proofs.lemmas.Bool.{both_ways, leb-true, le-leb, false_from_ne_true}
use Rattle.vrx_num.specs.Extended.{IsHalfAway, extended_number, GivesNoneHalfAway}
use Rattle.vrx_num.specs.declared.limits.TheConstants.{WINDOW, HALF_SPACE}
use Rattle.vrx_num.specs.Octets.{AreOctets}
use Rattle.vrx_rtcp.specs.Laws.{PassesCompounds, FailsFaults}
use Rattle.vrx_codec.specs.Meaning.{Meaning}
use Rattle.vrx_window.specs.Content.{Content, Media, Fec, Empty}
use Rattle.vrx_window.specs.Window.{Contents, is_too_old, is_dead, is_available, would_of}
use Rattle.vrx_window.specs.declared.placing.Placing.{Placing}
use Rattle.vrx_window.specs.declared.placing.Placing.TheVariants as placings
use Rattle.vrx_core.specs.machine.Original.{Original, Carried, original, seq_of}
use Rattle.vrx_core.specs.machine.Verdict.{verdict, if_fresh}
use Rattle.vrx_num.specs.ResultChain.{◌>>=◌}
use Rattle.vrx_core.specs.machine.Machine.{what_of}
use Rattle.vrx_core.specs.machine.Reasons.{IsBrought, IsNumbered, IsBelow, MeansAside, Means, MeansAnswer, ReasonsHolds}
use Rattle.vrx_core.specs.declared.settings.Settings.{Settings}
use Rattle.vrx_core.specs.declared.original.NotTaken.{NotTaken}
use Rattle.vrx_core.specs.declared.original.NotTaken.TheVariants.{Control, Refused}
use Rattle.vrx_core.specs.declared.reply.What.{What}
use Rattle.vrx_core.specs.declared.reply.What.TheVariants as whats
use Rattle.vrx_core.specs.declared.reply.Reason.TheVariants.{TooLong, BadRtcp, NotRtp, BadHeader, OtherSsrc, OtherType, NoApt, RtxEmpty, MoreBlocks, BadRed, BadFec, BadPart, TooFar, TooOld, Dead, Repeat}
use Rattle.vrx_core.proofs.machine.OriginalLemmas.{Said, original-to, aside-is, brought-is, seq-below}
use Rattle.vrx_core.proofs.machine.SentLemmas.{Wraps}
use Rattle.vrx_core.proofs.machine.TextLemmas.{ReadsPacket}

-- the place of a number, by the three tests
abbrev placing : (old dead there : Bool) → Placing
placing old dead there =
    if old then placings.TooOld else if dead then placings.Dead else if there then placings.Repeat else placings.Fresh

-- a number below the window, as the test says it
pub below-to : (newest : Option ℕ) (n : ℕ) → is_too_old newest n ≡ true → IsBelow newest n
below-to None n h = absurd (cc)
below-to (Some m) n h = leb-true (n + WINDOW) m h

-- and back
pub below-from : (newest : Option ℕ) (n : ℕ) → IsBelow newest n → is_too_old newest n ≡ true
below-from None n h = absurd h
below-from (Some m) n h = le-leb (n + WINDOW) m h

-- a number that isn't below the window
pub not_below-to : (newest : Option ℕ) (n : ℕ) → is_too_old newest n ≡ false → IsBelow newest n → ⊥
not_below-to newest n h below = both_ways (is_too_old newest n) h (below-from newest n below)

-- and back
pub not_below-from : (newest : Option ℕ) (n : ℕ) → (IsBelow newest n → ⊥) → is_too_old newest n ≡ false
not_below-from newest n h = false_from_ne_true (is_too_old newest n) (λ old. h (below-to newest n old))

-- no extended number, exactly just half of the number space away
half_away-to : GivesNoneHalfAway → (newest : Option ℕ) (wire : ℕ) → IfSome newest (λ m. HALF_SPACE ≤ m) →
    wire < 65536 → extended_number newest wire ≡ None → IsHalfAway newest wire
half_away-to law None wire from below is = absurd (cc)
half_away-to law (Some m) wire from below is = (law m wire from below).0 is

-- and back
half_away-from : GivesNoneHalfAway → (newest : Option ℕ) (wire : ℕ) → IfSome newest (λ m. HALF_SPACE ≤ m) →
    wire < 65536 → IsHalfAway newest wire → extended_number newest wire ≡ None
half_away-from law None wire from below away = absurd away
half_away-from law (Some m) wire from below away = (law m wire from below).1 away

module _ (wraps : Wraps) (reads : ReadsPacket) (passes : PassesCompounds) (fails : FailsFaults)
    (none : GivesNoneHalfAway) (settings : Settings) (codec : Meaning) (window : Contents Content) (octets : List ℕ)
    (octet : AreOctets octets) (from : IfSome window.newest (λ m. HALF_SPACE ≤ m)) where
  -- what comes of a packet that brings this, once its number is known
  abbrev numbered : Content → Option ℕ → Result (ℕ × Content) NotTaken
  numbered content number = ok_or number (Refused TooFar) >>= λ n. if_fresh (would_of window n) (n, content)

  -- what comes of octets, once it is known what they are by themselves
  abbrev table : Result Original NotTaken → Result (ℕ × Content) NotTaken
  table r = r >>= λ packet. numbered packet.content (extended_number window.newest packet.wire)

  -- a wire number has 16 bits
  wire-below : (carried : Carried) (content : Content) → IsBrought settings codec octets carried content →
      seq_of carried < 65536
  wire-below carried content is = seq-below wraps reads passes fails settings codec octets octet carried is.stream

  -- the place of a number says what is so
  means_placed : (n : ℕ) (content : Content) → IsNumbered settings codec window.newest octets n content →
      (old dead there : Bool) → is_too_old window.newest n ≡ old → is_dead n window.dead ≡ dead →
      is_available n window.packets ≡ there
      → Means settings codec window octets (if_fresh (placing old dead there) (n, content))
  means_placed n content is true dead there is_old dies stands = (n, content, is, below-to window.newest n is_old)
  means_placed n content is false true there is_old dies stands =
      (n, content, is, not_below-to window.newest n is_old, dies)
  means_placed n content is false false true is_old dies stands =
      (n, content, is, not_below-to window.newest n is_old, dies, stands)
  means_placed n content is false false false is_old dies stands =
      (is, not_below-to window.newest n is_old, dies, stands)

  -- and so does a number, if there is one
  means_numbered : (carried : Carried) (content : Content) → IsBrought settings codec octets carried content →
      (number : Option ℕ) → extended_number window.newest (seq_of carried) ≡ number →
      Means settings codec window octets (numbered content number)
  means_numbered carried content is None number = (
    carried,
    content,
    is,
    half_away-to none window.newest (seq_of carried) from (wire-below carried content is) number,
  )
  means_numbered carried content is (Some n) number =
      means_placed n content (record { carried = carried; brought = is; number = number }) (is_too_old window.newest n)
      (is_dead n window.dead) (is_available n window.packets) refl refl refl

  -- an answer that octets get by themselves is what the verdict means
  means_aside : (left : NotTaken) → MeansAside settings codec octets left →
      Means settings codec window octets (Err left)
  means_aside (Refused TooFar) m = absurd m
  means_aside (Refused TooOld) m = absurd m
  means_aside (Refused Dead) m = absurd m
  means_aside (Refused Repeat) m = absurd m
  means_aside (Refused TooLong) m = m
  means_aside (Refused BadRtcp) m = m
  means_aside Control m = m
  means_aside (Refused NotRtp) m = m
  means_aside (Refused BadHeader) m = m
  means_aside (Refused OtherSsrc) m = m
  means_aside (Refused OtherType) m = m
  means_aside (Refused NoApt) m = m
  means_aside (Refused RtxEmpty) m = m
  means_aside (Refused MoreBlocks) m = m
  means_aside (Refused BadRed) m = m
  means_aside (Refused BadFec) m = m
  means_aside (Refused (BadPart code)) m = m

  -- the table says what is so
  means_table : (r : Result Original NotTaken) → Said settings codec octets r →
      Means settings codec window octets (table r)
  means_table (Err left) said = means_aside left said
  means_table (Ok o) said =
      means_numbered said.0 o.content said.1 (extended_number window.newest o.wire)
      (ap (extended_number window.newest) said.2)

  -- the verdict is what it means
  pub verdict-to : (r : Result (ℕ × Content) NotTaken) → verdict settings codec window octets ≡ r →
      Means settings codec window octets r
  verdict-to r is = subst (Means settings codec window octets) is
      (means_table (original settings codec octets)
      (original-to wraps reads passes fails settings codec octets octet (original settings codec octets) refl))

  -- what the octets are by themselves decides
  table_is : (r : Result Original NotTaken) → original settings codec octets ≡ r →
      verdict settings codec window octets ≡ table r
  table_is r is = ap table is

  -- of a packet of the stream that brings this, its number decides
  brought_is : (carried : Carried) (content : Content) → IsBrought settings codec octets carried content →
      verdict settings codec window octets ≡ numbered content (extended_number window.newest (seq_of carried))
  brought_is carried content is =
      table_is (Ok (record { wire = seq_of carried; content = content }))
      (brought-is wraps reads passes fails settings codec octets octet carried content is)

  -- and of a number its place
  numbered_is : (n : ℕ) (content : Content) → IsNumbered settings codec window.newest octets n content →
      (old dead there : Bool) → is_too_old window.newest n ≡ old → is_dead n window.dead ≡ dead →
      is_available n window.packets ≡ there
      → verdict settings codec window octets ≡ if_fresh (placing old dead there) (n, content)
  numbered_is n content is old dead there is_old dies stands =
      brought_is is.carried content is.brought
      ∙ ap (numbered content) is.number
      ∙ ap (λ b. if_fresh (placing b (is_dead n window.dead) (is_available n window.packets)) (n, content)) is_old
      ∙ ap (λ b. if_fresh (placing old b (is_available n window.packets)) (n, content)) dies
      ∙ ap (λ b. if_fresh (placing old dead b) (n, content)) stands

  -- an answer that octets get by themselves
  aside_is : (left : NotTaken) → MeansAside settings codec octets left →
      verdict settings codec window octets ≡ Err left
  aside_is left m = table_is (Err left) (aside-is wraps reads passes fails settings codec octets octet left m)

  -- and back
  pub verdict-from : (r : Result (ℕ × Content) NotTaken) → Means settings codec window octets r →
      verdict settings codec window octets ≡ r
  verdict-from (Err (Refused TooFar)) m = brought_is m.0 m.1 m.2
      ∙ ap (numbered m.1) (half_away-from none window.newest (seq_of m.0) from (wire-below m.0 m.1 m.2) m.3)
  verdict-from (Err (Refused TooOld)) m =
      numbered_is m.0 m.1 m.2 true (is_dead m.0 window.dead) (is_available m.0 window.packets)
      (below-from window.newest m.0 m.3) refl refl
  verdict-from (Err (Refused Dead)) m =
      numbered_is m.0 m.1 m.2 false true (is_available m.0 window.packets)
      (not_below-from window.newest m.0 m.3) m.4 refl
  verdict-from (Err (Refused Repeat)) m =
      numbered_is m.0 m.1 m.2 false false true (not_below-from window.newest m.0 m.3) m.4 m.5
  verdict-from (Err (Refused TooLong)) m = aside_is (Refused TooLong) m
  verdict-from (Err (Refused BadRtcp)) m = aside_is (Refused BadRtcp) m
  verdict-from (Err Control) m = aside_is Control m
  verdict-from (Err (Refused NotRtp)) m = aside_is (Refused NotRtp) m
  verdict-from (Err (Refused BadHeader)) m = aside_is (Refused BadHeader) m
  verdict-from (Err (Refused OtherSsrc)) m = aside_is (Refused OtherSsrc) m
  verdict-from (Err (Refused OtherType)) m = aside_is (Refused OtherType) m
  verdict-from (Err (Refused NoApt)) m = aside_is (Refused NoApt) m
  verdict-from (Err (Refused RtxEmpty)) m = aside_is (Refused RtxEmpty) m
  verdict-from (Err (Refused MoreBlocks)) m = aside_is (Refused MoreBlocks) m
  verdict-from (Err (Refused BadRed)) m = aside_is (Refused BadRed) m
  verdict-from (Err (Refused BadFec)) m = aside_is (Refused BadFec) m
  verdict-from (Err (Refused (BadPart code))) m = aside_is (Refused (BadPart code)) m
  verdict-from (Ok (n, content)) m =
      numbered_is n content m.0 false false false (not_below-from window.newest n m.1) m.2 m.3

-- a verdict comes exactly if its meaning holds
pub reasons_mean : Wraps → ReadsPacket → PassesCompounds → FailsFaults → GivesNoneHalfAway → ReasonsHolds
reasons_mean wraps reads passes fails none settings codec window octets octet from result = (
  verdict-to wraps reads passes fails none settings codec window octets octet from result,
  verdict-from wraps reads passes fails none settings codec window octets octet from result,
)

-- an answer comes exactly if its meaning holds
pub answers_mean : (law : ReasonsHolds) (settings : Settings) (codec : Meaning) (window : Contents Content)
    (octets : List ℕ) → AreOctets octets → IfSome window.newest (λ m. HALF_SPACE ≤ m)
    → (given : What) → given ≡ what_of (verdict settings codec window octets) → (what : What) →
    (given ≡ what) ↔ MeansAnswer settings codec window octets what
answers_mean law settings codec window octets octet from given is what =
    (λ same. to (verdict settings codec window octets) refl what (sym is ∙ same), λ m. is ∙ back what m) where
      holds : (result : Result (ℕ × Content) NotTaken) →
          (verdict settings codec window octets ≡ result) ↔ Means settings codec window octets result
      holds result = law settings codec window octets octet from result

      to : (result : Result (ℕ × Content) NotTaken) → verdict settings codec window octets ≡ result → (w : What) →
          what_of result ≡ w → MeansAnswer settings codec window octets w
      to (Ok (n, Media text)) v w same =
          subst (MeansAnswer settings codec window octets) same (text, (holds (Ok (n, Media text))).0 v)
      to (Ok (n, Fec payload)) v w same =
          subst (MeansAnswer settings codec window octets) same (payload, (holds (Ok (n, Fec payload))).0 v)
      to (Ok (n, Empty)) v w same =
          subst (MeansAnswer settings codec window octets) same ((holds (Ok (n, Empty))).0 v)
      to (Err Control) v w same = subst (MeansAnswer settings codec window octets) same ((holds (Err Control)).0 v)
      to (Err (Refused reason)) v w same =
          subst (MeansAnswer settings codec window octets) same ((holds (Err (Refused reason))).0 v)

      back : (w : What) → MeansAnswer settings codec window octets w →
          what_of (verdict settings codec window octets) ≡ w
      back (whats.Media n) (text, m) = ap what_of ((holds (Ok (n, Media text))).1 m)
      back (whats.Empty n) m = ap what_of ((holds (Ok (n, Empty))).1 m)
      back whats.Rtcp m = ap what_of ((holds (Err Control)).1 m)
      back (whats.Dropped reason) m = ap what_of ((holds (Err (Refused reason))).1 m)
      back (whats.Fec n) (payload, m) = ap what_of ((holds (Ok (n, Fec payload))).1 m)
