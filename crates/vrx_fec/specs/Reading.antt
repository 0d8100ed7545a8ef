-- The payload that octets are, or their first fault: what is read, level by level from the front (RFC 5109 7.3, 7.4).
use Rattle.std.specs.Prelude.{ℕ, zero, suc, ◌+◌, Bool, true, false, ◌==◌, nat_lt, if◌then◌else◌, List, [], ◌∷◌, length, take, drop, Option, None, Some, Result, Ok, Err}
use Rattle.std.specs.Int.{w16, w64, from_be_bytes}
use Rattle.vrx_num.specs.ResultChain.{◌>>=◌}
use Rattle.vrx_fec.specs.declared.fault.FecFault.{FecFault}
use Rattle.vrx_fec.specs.declared.fault.FecFaultKind.{FecFaultKind}
use Rattle.vrx_fec.specs.declared.fault.FecFaultKind.TheVariants.{Short, ManyLevels, LevelPastEnd, NotNested, NoneProtected, AheadOfSelf}
use Rattle.vrx_fec.specs.declared.fec.TheConstants.{HEAD, MOST_LEVELS}
use Rattle.vrx_fec.specs.Mask.{is_within}
use Rattle.vrx_fec.specs.Payload.{Level, Payload, base_in, first_mask, has_long_masks, is_ahead, masks}

-- a fault of this kind at this offset
abbrev pub fault : FecFaultKind → ℕ → FecFault
fault what offset = record { kind = what; at = offset }

-- the protection length, the mask, and what is after them
abbrev pub level_header_at : Bool → List ℕ → Option (ℕ × ℕ × List ℕ)
level_header_at false (l1 ∷ l0 ∷ m1 ∷ m0 ∷ rest) =
    Some (from_be_bytes w16 (l1 ∷ l0 ∷ []), from_be_bytes w16 (m1 ∷ m0 ∷ []), rest)
level_header_at true (l1 ∷ l0 ∷ m5 ∷ m4 ∷ m3 ∷ m2 ∷ m1 ∷ m0 ∷ rest) = Some (
  from_be_bytes w16 (l1 ∷ l0 ∷ []),
  from_be_bytes w64 (0 ∷ 0 ∷ m5 ∷ m4 ∷ m3 ∷ m2 ∷ m1 ∷ m0 ∷ []),
  rest,
)
level_header_at long octets = None

-- the level of this header, and what is after it, if the level doesn't run past the end
abbrev pub level_of : ℕ → Option (ℕ × ℕ × List ℕ) → Result (Level × List ℕ) FecFault
level_of offset None = Err (fault LevelPastEnd offset)
level_of offset (Some (size, mask, rest)) =
    if nat_lt (length rest) size then Err (fault LevelPastEnd offset)
    else Ok (record { mask = mask; octets = take size rest }, drop size rest)

-- the level at this offset, and what is after it
abbrev pub level_at : Bool → ℕ → List ℕ → Result (Level × List ℕ) FecFault
level_at long offset octets = level_of offset (level_header_at long octets)

-- the mask is within the one before it, if there is one
abbrev pub is_nested : Option ℕ → ℕ → Bool
is_nested None mask = true
is_nested (Some before) mask = is_within mask before

-- the same of a level that was read at this offset
abbrev pub nested_at : Option ℕ → ℕ → Level × List ℕ → Result (Level × List ℕ) FecFault
nested_at before offset read =
    if is_nested before read.0.mask then Ok read else Err (fault NotNested offset)

-- how many octets the level has: its protection length and its mask, and as many as the protection length
abbrev pub level_size : Bool → Level → ℕ
level_size long level = (if long then 8 else 4) + length level.octets

-- the level at this offset, and what is after it, if its mask is within the one before
abbrev pub next_level_at : Bool → Option ℕ → ℕ → List ℕ → Result (Level × List ℕ) FecFault
next_level_at long before offset octets = level_at long offset octets >>= nested_at before offset

-- The levels from this offset on, of which there may be so many more; before them stands a level of this mask, or
-- none.
abbrev pub levels_at : ℕ → Bool → Option ℕ → ℕ → List ℕ → Result (List Level) FecFault
levels_at more long before offset [] = Ok []
levels_at zero long before offset (first ∷ octets) = Err (fault ManyLevels offset)
levels_at (suc more) long before offset (first ∷ octets) = do
  read ← next_level_at long before offset (first ∷ octets)
  levels ← levels_at more long (Some read.0.mask) (offset + level_size long read.0) read.1
  Ok (read.0 ∷ levels)

-- the FEC header, and what is after it
abbrev pub head_at : List ℕ → Result (List ℕ × List ℕ) FecFault
head_at octets =
    if nat_lt (length octets) HEAD then Err (fault Short (length octets)) else Ok (take HEAD octets, drop HEAD octets)

-- the payload, if it protects something, and only numbers before its own
abbrev pub protecting : ℕ → Payload → Result Payload FecFault
protecting own p =
    if first_mask (masks p.levels) == 0 then Err (fault NoneProtected HEAD)
    else if is_ahead own p then Err (fault AheadOfSelf 2)
    else Ok p

-- the payload of these parts
abbrev pub payload_of : List ℕ → List Level → Payload
payload_of head levels =
    record { head = head; long = has_long_masks head; base = base_in head; levels = levels }

-- the payload that the octets of the FEC packet of this number are, or their first fault
abbrev pub reading : List ℕ → ℕ → Result Payload FecFault
reading octets own = do
  front ← head_at octets
  levels ← levels_at MOST_LEVELS (has_long_masks front.0) None HEAD front.1
  protecting own (payload_of front.0 levels)
