-- Which numbers of a window are marked: a bit for each, in 32 words of 64 bits, and numbers a whole window apart share
-- one. No public clause cites this module.
use Rattle.std.specs.Prelude.{◌≡◌, ℕ, ◌/◌, ◌%◌, Bool, true, false, ◌==◌, List, length, slice_index_or, Option, Some, None}
use Rattle.std.specs.Int.{bit_at}
use Rattle.vrx_window.specs.Numbered.{IsNumbered, Numbered}
use Rattle.vrx_window.specs.Content.{is_fec}
use Rattle.vrx_window.specs.Window.{at}
use Rattle.vrx_window.specs.declared.fate.Fate.{Fate}
use Rattle.vrx_window.specs.declared.fate.Fate.TheVariants.{Taken, GivenUp}
use Rattle.vrx_window.specs.declared.marks.TheConstants.{BITS, WORDS}

-- the bit of a word
abbrev pub is_set : ℕ → ℕ → Bool
is_set word i = bit_at word i == 1

-- the mark of a number
abbrev pub is_marked : List ℕ → ℕ → Bool
is_marked words n = is_set (slice_index_or words (n / BITS % WORDS) 0) (n % BITS)

-- a fate is a FEC packet
abbrev pub is_fec_fate : Option Fate → Bool
is_fec_fate None = false
is_fec_fate (Some (Taken held)) = is_fec held
is_fec_fate (Some GivenUp) = false

-- What always holds of a ring with marks: there are 32 words, and each number under which a FEC packet is held is
-- marked. If no FEC packet was ever placed, none is held.
pub record IsMarked (ring : Numbered Fate) (marks : List ℕ) (has_fec : Bool) : Type 0 where
  pub sound : IsNumbered ring
  pub words : length marks ≡ WORDS
  pub marked : (n : ℕ) → is_fec_fate (at n ring.entries) ≡ true → is_marked marks n ≡ true
  pub some : (n : ℕ) → is_fec_fate (at n ring.entries) ≡ true → has_fec ≡ true
