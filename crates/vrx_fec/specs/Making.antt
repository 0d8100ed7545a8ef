-- Making a FEC payload (RFC 5109 8): its plan, and the payload to which nothing was added.
use Rattle.std.specs.Prelude.{◌≡◌, ℕ, ◌+◌, ◌^◌, ◌<◌, ◌≤◌, Bool, true, if◌then◌else◌, List, [], ◌∷◌, ◌++◌, length, map, replicate, All}
use Rattle.std.specs.Int.{w16, to_be_bytes}
use Rattle.vrx_fec.specs.declared.fec.TheConstants.{MOST_LEVELS}
use Rattle.vrx_fec.specs.declared.maker.LevelPlan.{LevelPlan}
use Rattle.vrx_fec.specs.declared.span.Span.{Span}
use Rattle.vrx_fec.specs.Mask.{width, is_named, are_nested}
use Rattle.vrx_fec.specs.Payload.{Level, Payload, first_mask}
use Rattle.vrx_fec.specs.Parity.{octet_at, spans_of}

-- the masks of a plan's levels
abbrev pub plan_masks : List LevelPlan → List ℕ
plan_masks plan = map (λ level. level.mask) plan

-- A PLAN of one to eight levels: each mask fits its field and is within the one before it, and the first one names SN
-- base
pub record IsPlan (long : Bool) (plan : List LevelPlan) : Type 0 where
  pub some : 1 ≤ length plan
  pub few : length plan ≤ MOST_LEVELS
  pub fits : All (λ level. level.mask < 2 ^ width long) plan
  pub nested : are_nested (plan_masks plan) ≡ true
  pub names_base : is_named long (first_mask (plan_masks plan)) 0 ≡ true

-- the FEC header with these recovery fields (RFC 5109 7.3); E is 0
abbrev pub head_of : Bool → ℕ → List ℕ → List ℕ
head_of long base fields =
    ((if long then 64 else 0) + octet_at 0 fields) ∷ octet_at 1 fields ∷ to_be_bytes w16 base
    ++ octet_at 2 fields ∷ octet_at 3 fields ∷ octet_at 4 fields ∷ octet_at 5 fields ∷ octet_at 6 fields
    ∷ octet_at 7 fields ∷ []

-- a level to which nothing was added
abbrev pub blank_level : LevelPlan → Level
blank_level level = record { mask = level.mask; octets = replicate level.length 0 }

-- the payload of a plan, to which nothing was added
abbrev pub blank : Bool → ℕ → List LevelPlan → Payload
blank long base plan = record {
  head = head_of long base (replicate 8 0);
  long = long;
  base = base;
  levels = map blank_level plan;
}

-- all of a payload that adding doesn't change: bit L, SN base, and what each level protects
pub record Form : Type 0 where
  pub long : Bool
  pub base : ℕ
  pub spans : List Span

abbrev pub form_of : Payload → Form
form_of p = record { long = p.long; base = p.base; spans = spans_of p.levels }

-- what a level of a plan protects
abbrev pub span_in : LevelPlan → Span
span_in level = record { mask = level.mask; size = level.length }
