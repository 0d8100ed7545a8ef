-- What a pull answers, said without how it is found.
use Rattle.std.specs.Prelude.{◌≡◌, ◌↔◌, ℕ, ◌≤◌, true, false, List, Contains, Option, None, IfSome}
use Rattle.vrx_frames.specs.Run.{Run}
use Rattle.vrx_core.specs.machine.Deliverable.{answer, is_deliverable}
use Rattle.vrx_core.specs.machine.Told.{Told}

-- none of these runs is deliverable
abbrev pub NoneDeliverable : Told → (pulled : List Run) → (front : Option ℕ) → List Run → Type 0
NoneDeliverable told pulled front runs =
    (run : Run) → Contains runs run → is_deliverable told pulled front run ≡ false

-- this is a deliverable one of these runs, and none that is deliverable begins before it
pub record IsLeastDeliverable (told : Told) (pulled : List Run) (front : Option ℕ) (runs : List Run) (run : Run)
    : Type 0 where
  pub among : Contains runs run
  pub deliverable : is_deliverable told pulled front run ≡ true
  pub least : (other : Run) → Contains runs other → is_deliverable told pulled front other ≡ true →
      run.first ≤ other.first

-- the answer is none exactly if no run is deliverable, and else the deliverable run with the least first number
pub record AnswersRightly (told : Told) (pulled : List Run) (front : Option ℕ) (runs : List Run) : Type 0 where
  pub none : (answer told pulled front runs ≡ None) ↔ NoneDeliverable told pulled front runs
  pub some : IfSome (answer told pulled front runs) (λ run. IsLeastDeliverable told pulled front runs run)

-- every answer is so
abbrev pub AnswersHold : Type 0
AnswersHold = (told : Told) (pulled : List Run) (front : Option ℕ) (runs : List Run) →
    AnswersRightly told pulled front runs
