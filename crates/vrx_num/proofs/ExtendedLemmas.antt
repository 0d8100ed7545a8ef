-- The laws of extending a wire number.
use Rattle.std.proofs.Common.{◌≡◌, ℕ, ◌<◌, ◌≤◌, arith, None, Some}
use Rattle.std.proofs.lemmas.Grind.{common_steps}
use Rattle.vrx_num.specs.Extended.{Extends, IsHalfAway, extended_number}

-- a wire number means one number at most
pub extends-one : {newest wire n m : ℕ} → Extends newest wire n → Extends newest wire m → n ≡ m
extends-one a b = omega arith

-- what extending gives is the number that the wire number means
pub extended_number-some : {newest wire n : ℕ} → 32768 ≤ newest → wire < 65536 →
    extended_number (Some newest) wire ≡ Some n → Extends newest wire n
extended_number-some newest_from wire_below given =
    record {
      same = grind (arith, common_steps);
      not_far_ahead = grind (arith, common_steps);
      not_far_behind = grind (arith, common_steps);
    }

-- the number that the wire number means is what extending gives
pub extended_number-extends : {newest wire n : ℕ} → 32768 ≤ newest → wire < 65536 → Extends newest wire n →
    extended_number (Some newest) wire ≡ Some n
extended_number-extends newest_from wire_below meant = grind (arith, common_steps)

-- extending gives none only just half of the space away
pub extended_number-none : (newest wire : ℕ) → 32768 ≤ newest → wire < 65536 →
    extended_number (Some newest) wire ≡ None → IsHalfAway (Some newest) wire
extended_number-none newest wire newest_from wire_below given = grind (arith, common_steps)

-- just half of the space away, extending gives none
pub extended_number-half_away : (newest wire : ℕ) → 32768 ≤ newest → wire < 65536 → IsHalfAway (Some newest) wire →
    extended_number (Some newest) wire ≡ None
extended_number-half_away newest wire newest_from wire_below away = grind (arith, common_steps)
