-- What a maker of a payload keeps. No public clause cites this module.
use Rattle.std.specs.Prelude.{◌≡◌, ℕ, ◌+◌, ◌*◌, ◌^◌, ◌<◌, ◌≤◌, Bool, true, List, [], ◌∷◌, length, map, take, drop, All}
use Rattle.vrx_fec.specs.declared.fec.TheConstants.{HEAD, MOST_LEVELS}
use Rattle.vrx_fec.specs.declared.span.Span.{Span}
use Rattle.vrx_fec.specs.Making.{head_of}
use Rattle.vrx_fec.specs.Mask.{width, is_named, are_nested}
use Rattle.vrx_fec.specs.Payload.{Level, Payload, first_mask}
use Rattle.vrx_fec.specs.Parity.{octet_at}

-- levels of these spans, whose octets are cut from one list
abbrev pub levels_of : List Span → List ℕ → List Level
levels_of [] octets = []
levels_of (span ∷ spans) octets =
    record { mask = span.mask; octets = take span.size octets } ∷ levels_of spans (drop span.size octets)

-- the payload of these parts
abbrev pub made : Bool → ℕ → List Span → List ℕ → List ℕ → Payload
made long base spans fields body = record {
  head = head_of long base fields;
  long = long;
  base = base;
  levels = levels_of spans body;
}

-- how many octets of a packet the levels protect, in all
abbrev pub total : List Span → ℕ
total [] = 0
total (span ∷ spans) = span.size + total spans

-- the masks of spans
abbrev pub span_masks : List Span → List ℕ
span_masks spans = map (λ span. span.mask) spans

-- a plan's spans
pub record ArePlanned (long : Bool) (spans : List Span) : Type 0 where
  pub few : length spans ≤ MOST_LEVELS
  pub fits : All (λ span. span.mask < 2 ^ width long) spans
  pub sizes : All (λ span. span.size < 2 ^ 16) spans
  pub nested : are_nested (span_masks spans) ≡ true
  pub names_base : is_named long (first_mask (span_masks spans)) 0 ≡ true

-- a plan's spans, the octets of all levels, and an empty list with room for the payload; a level has at most eight
-- octets before its own
pub record IsMaker (long : Bool) (base : ℕ) (spans : List Span) (fields body out : List ℕ) (room_in : ℕ)
    : Type 0 where
  pub planned : ArePlanned long spans
  pub base_fits : base < 2 ^ 16
  pub first_field : octet_at 0 fields < 64
  pub size : length body ≡ total spans
  pub empty : out ≡ []
  pub room : HEAD + 8 * length spans + total spans ≤ room_in
