-- The marks of numbers told: the first number of the frame that a number is linked to without a gap. No public clause
-- cites this module.
use Rattle.std.specs.Prelude.{◌≡◌, ◌⊎◌, ◌↔◌, ℕ, ◌+◌, ◌≤◌, Bool, true, false, ◌&&◌, not, nat_le, if◌then◌else◌, List, Option, Some, None}
use Rattle.vrx_window.specs.Numbered.{Numbered, IsNumbered}
use Rattle.vrx_window.specs.Window.{at, is_inside}
use Rattle.vrx_codec.specs.Meaning.{Meaning}
use Rattle.vrx_codec.specs.declared.run.Place.{Place}
use Rattle.vrx_codec.specs.declared.run.Run.{Run as RunSummary}
use Rattle.vrx_frames.specs.Judging.{AnswerFound}
use Rattle.vrx_frames.specs.Kept.{IsKept}
use Rattle.vrx_frames.specs.Linked.{AreLinked, IsStartOf, fact_at}
use Rattle.vrx_frames.specs.Run.{Packets, is_passed}
use Rattle.vrx_frames.specs.declared.arrival.Fact.{Fact}
use Rattle.vrx_frames.specs.declared.arrival.Arrival.{Arrival}

-- the numbers from first to n lie in one frame, and it begins with first
pub record IsChain (facts : ℕ → Option Fact) (first n : ℕ) : Type 0 where
  pub ts : ℕ
  pub linked : AreLinked facts ts first n
  pub start : IsStartOf facts first

-- a mark counts if its number is in the window and isn't passed
abbrev pub counts : Option ℕ → Option ℕ → ℕ → Bool
counts newest passed first = is_inside newest first && not (is_passed passed first)

-- each mark that counts is the first number of the chain to its number
abbrev pub Marks : (ℕ → Option Fact) → (ℕ → Bool) → (ℕ → Option ℕ) → Type 0
Marks facts ok under = (n first : ℕ) → ok first ≡ true → (under n ≡ Some first) ↔ IsChain facts first n

-- what always holds of the marks beside what is kept
pub record IsMarked (passed : Option ℕ) (ring : Numbered Arrival) (marks : Numbered ℕ) : Type 0 where
  pub newest_is : marks.newest ≡ ring.newest
  pub numbered : IsNumbered marks
  pub low : (n first : ℕ) → at n marks.entries ≡ Some first → first ≤ n
  pub marked : Marks (fact_at passed ring.entries) (counts ring.newest passed) (λ n. at n marks.entries)

-- what always holds of what is kept and of its marks
pub record IsKeptMarked (passed : Option ℕ) (ring : Numbered Arrival) (marks : Numbered ℕ) : Type 0 where
  pub kept : IsKept ring
  pub marked : IsMarked passed ring marks

-- what stands under each number once those from one to another were marked
abbrev pub mark_with : ℕ → ℕ → ℕ → List (ℕ × ℕ) → ℕ → Option ℕ
mark_with from last first marks n = if nat_le from n && nat_le n last then Some first else at n marks

-- a mark was spread from a number: to each number linked to it, and to no other
pub record IsSpread (facts : ℕ → Option Fact) (n first : ℕ) (before after : List (ℕ × ℕ)) : Type 0 where
  pub each : (m : ℕ) → (((ts : ℕ) × AreLinked facts ts n m × (at m after ≡ Some first))
      ⊎ (((ts : ℕ) → AreLinked facts ts n m → ⊥) × (at m after ≡ at m before)))

-- what became of the marks when a number was looked at: its mark was spread from it, or it has none that counts
pub record WasSpread (facts : ℕ → Option Fact) (ok : ℕ → Bool) (n first : ℕ)
    (before after : List (ℕ × ℕ)) : Type 0 where
  pub counted : ok first ≡ true
  pub chain : IsChain facts first n
  pub spread : IsSpread facts n first before after

pub record WasLeft (facts : ℕ → Option Fact) (ok : ℕ → Bool) (n : ℕ) (before after : List (ℕ × ℕ)) : Type 0 where
  pub none : (first : ℕ) → ok first ≡ true → IsChain facts first n → ⊥
  pub same : after ≡ before

abbrev pub WasLookedAt : (ℕ → Option Fact) → (ℕ → Bool) → ℕ → List (ℕ × ℕ) → List (ℕ × ℕ) → Type 0
WasLookedAt facts ok n before after =
    ((first : ℕ) × WasSpread facts ok n first before after) ⊎ WasLeft facts ok n before after

-- the number before n has the mark of its chain, if n is no start
abbrev pub IsMarkedBefore : (ℕ → Option Fact) → (ℕ → Bool) → Bool → ℕ → List (ℕ × ℕ) → Type 0
IsMarkedBefore facts ok starts n marks = starts ≡ false → (before first : ℕ) → before + 1 ≡ n → ok first ≡ true →
    (at before marks ≡ Some first) ↔ IsChain facts first before

-- the answer for the number after n: if that begins newly, the run that it lies in, and it was looked at; else none
pub record IsNextLookedAt (codec : Meaning) (place : ℕ → Option Place) (packets : Packets) (facts : ℕ → Option Fact)
    (ok : ℕ → Bool) (passed : Option ℕ) (n : ℕ) (before after : List (ℕ × ℕ))
    (answer : Option RunSummary) : Type 0 where
  pub found : AnswerFound codec place packets facts passed n answer
  pub looked : WasLookedAt facts ok n before after

abbrev pub NextFound : Meaning → (ℕ → Option Place) → Packets → (ℕ → Option Fact) → (ℕ → Bool) → Option ℕ → ℕ → Bool →
    List (ℕ × ℕ) → List (ℕ × ℕ) → Option RunSummary → Type 0
NextFound codec place packets facts ok passed n newly before after answer =
    ((newly ≡ true) × IsNextLookedAt codec place packets facts ok passed n before after answer)
    ⊎ ((newly ≡ false) × (answer ≡ None) × (after ≡ before))
