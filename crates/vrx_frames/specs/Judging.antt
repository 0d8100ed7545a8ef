-- How the packets of a frame are judged. No public clause cites this module.
use Rattle.std.specs.Prelude.{◌≡◌, ℕ, ◌+◌, ◌-◌, ◌<◌, ◌≤◌, Bool, true, List, length, Option, Some}
use Rattle.std.specs.List.{list_any}
use Rattle.std.specs.Option.{option_map, option_and_then}
use Rattle.std.specs.Result.{result_ok}
use Rattle.vrx_codec.specs.Part.{Part}
use Rattle.vrx_codec.specs.Meaning.{Meaning}
use Rattle.vrx_codec.specs.declared.run.Place.{Place}
use Rattle.vrx_codec.specs.declared.run.Run.{Run as RunSummary}
use Rattle.vrx_window.specs.Window.{at}
use Rattle.vrx_window.specs.declared.held.Held.{Held}
use Rattle.vrx_frames.specs.Run.{Packets}
use Rattle.vrx_frames.specs.Linked.{SpanFound}
use Rattle.vrx_frames.specs.declared.search.Span.{Span}
use Rattle.vrx_frames.specs.declared.arrival.Fact.{Fact}
use Rattle.vrx_frames.specs.Parts.{is_media, parts_from}

-- media is held under so many numbers, from one on
abbrev pub AreMedia : List (ℕ × Held) → ℕ → ℕ → Type 0
AreMedia packets first count = (n : ℕ) → first ≤ n → n < first + count → is_media (at n packets) ≡ true

-- some part says a keyframe
abbrev pub says_key : List Part → Bool
says_key parts = list_any (λ part. part.key) parts

-- to how many octets parts join, if they do
abbrev pub octets_of : Meaning → List Part → Option ℕ
octets_of codec parts = option_map length (result_ok (codec.join parts))

-- what is told of a span with these parts, if they join
abbrev pub summary_with : Meaning → (ℕ → Option Place) → Span → List Part → Option RunSummary
summary_with codec place span parts =
    option_map (λ octets. record {
      first = span.first;
      last = span.last;
      ts = span.ts;
      key = says_key parts;
      layers = place span.first;
      octets = octets;
    }) (octets_of codec parts)

-- what is told of a span, if its parts join
abbrev pub span_summary : Meaning → (ℕ → Option Place) → Packets → Span → Option RunSummary
span_summary codec place packets span =
    summary_with codec place span (parts_from codec packets span.first (span.last - span.first + 1))

-- what is told media is held media
abbrev pub AreHeld : (ℕ → Option Fact) → List (ℕ × Held) → Type 0
AreHeld facts packets = (n : ℕ) (fact : Fact) → facts n ≡ Some fact → is_media (at n packets) ≡ true

-- the answer for a number: what is told of the frame that it lies in, if there is one beyond the passed numbers
pub record AnswerFound (codec : Meaning) (place : ℕ → Option Place) (packets : Packets) (facts : ℕ → Option Fact)
    (passed : Option ℕ) (n : ℕ) (answer : Option RunSummary) : Type 0 where
  pub span : Option Span
  pub found : SpanFound facts passed n span
  pub is : answer ≡ option_and_then (span_summary codec place packets) span
