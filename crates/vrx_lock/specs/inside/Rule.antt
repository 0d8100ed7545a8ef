-- The rule of the table, which holds between any two steps: word 0 is the turn, 0 or one more than the actor that has
-- it; word 1 is the count of entries; slot 0 has the engine with its journal.
use Rattle.std.specs.Prelude.{◌≡◌, ◌≢◌, ◌+◌, ◌<◌, ◌≤◌, ◌^◌, ◌⊎◌, ℕ, zero, suc, List, [], ◌∷◌, length, slice_index, Option, Some}
use mathlib.Core.Option.{some}
use lib.ListN.{get_elem?}
use Rattle.atomic_table.specs.Table.{State}
use Rattle.vrx_lock.specs.declared.entry.Entry.{Entry}
use Rattle.vrx_lock.specs.declared.known.Setup.{Setup}
use Rattle.vrx_lock.specs.declared.view.View.{View}
use Rattle.vrx_lock.specs.declared.view.Hand.TheVariants.{Idle, Holding}
use Rattle.vrx_lock.specs.Lists.{AllBelow, BeginsWith, RisesFrom}
use Rattle.vrx_lock.specs.Shares.{parts_at}
use Rattle.vrx_lock.specs.Seats.{first_known}
use Rattle.vrx_lock.specs.inside.Stored.{Stored, stored}

-- what a function comes to over a list, added up
abbrev pub total : {A : Type 0} → (A → ℕ) → List A → ℕ
total f [] = 0
total f (x ∷ xs) = f x + total f xs

-- and over the numbers below one
abbrev pub total_below : (ℕ → ℕ) → ℕ → ℕ
total_below f zero = 0
total_below f (suc n) = total_below f n + f n

-- A view, beside the journal, the turn word, the seat that holds the turn, and the depth of the smallest share. A view
-- without a share is spent, and has neither places nor the turn.
pub record Sound (key : Setup) (journal : List Entry) (turn holder depth i : ℕ) (v : View) : Type 0 where
  pub seen : BeginsWith journal v.known.seen
  pub told : BeginsWith journal v.told
  pub rises : RisesFrom 0 v.known.places
  pub mine : AllBelow (length v.known.seen) v.known.places
  pub hand : (v.hand ≡ Idle) ⊎ ((v.hand ≡ Holding journal) × (i ≡ holder) × (turn ≡ v.known.actor + 1))
  pub deep : v.known.share.depth ≤ depth
  pub setup : 0 < v.known.share.parts → v.known.setup ≡ key
  pub spent : v.known.share.parts ≡ 0 → (v.known.places ≡ []) × (v.hand ≡ Idle)

-- The table, by the setup that it was made with. One journal has as many entries as the count says. While the turn is
-- free, the value in the slot has it; while it is taken, the view that holds the turn says it. The places of all views
-- are those below the count, each once: so says any function of places, added up. The shares add up to one.
pub record Ruled (key : Setup) (s : State (Option Stored) View) : Type 0 where
  pub journal : List Entry
  pub holder : ℕ
  pub depth : ℕ
  pub wide : length s.words ≡ 2
  pub count : slice_index s.words 1 ≡ length journal
  pub fits : length journal ≤ key.room
  pub home : slice_index s.words 0 ≡ 0 → get_elem? s.homes 0 ≡ some (some (Some (stored key journal)))
  pub held : slice_index s.words 0 ≢ 0 → (v : View) × (get_elem? s.views holder ≡ some v) × (v.hand ≡ Holding journal)
  pub each : (i : ℕ) (v : View) → get_elem? s.views i ≡ some v
      → Sound key journal (slice_index s.words 0) holder depth i v
  pub places : (f : ℕ → ℕ) → total (λ (v : View). total f v.known.places) s.views ≡ total_below f (length journal)
  pub shares : total (λ (v : View). parts_at depth v.known.share) s.views ≡ 2 ^ depth

-- the view of the first seat
abbrev pub first_view : Setup → View
first_view setup = record { known = first_known setup; told = []; hand = Idle }
