-- What the repairs of a window come to.
use Rattle.std.specs.Prelude.{◌≡◌, ℕ, ◌<◌, List, Option, Some, None}
use Rattle.vrx_num.specs.declared.limits.TheConstants.{WINDOW}
use Rattle.vrx_window.specs.Content.{Content}
use Rattle.vrx_window.specs.IsWindow.{IsWithin}
use Rattle.vrx_repair.specs.Source.{Source}
use Rattle.vrx_repair.specs.Step.{Packets, AreRepairs, IsClosed, first_step, repairs, step, with_repairs}

-- a step of a number, and no smaller number has one
pub record IsLeastStep (source : Source) (newest : Option ℕ) (dead : List ℕ) (packets : Packets) (repair : ℕ × Content)
    : Type 0 where
  pub number : ℕ
  pub steps : step source newest dead packets number ≡ Some repair
  pub least : (m : ℕ) → m < number → step source newest dead packets m ≡ None

-- What the repairs of packets within a window come to: they are the repairs, without end or bound; after them no
-- number has a step; and the first step is that of the least number that has one.
pub record RepairsCome (source : Source) (newest : Option ℕ) (dead : List ℕ) (packets : Packets) : Type 0 where
  pub are_repairs : AreRepairs source newest dead packets (repairs source newest dead WINDOW packets)
  pub closed : IsClosed source newest dead (with_repairs (repairs source newest dead WINDOW packets) packets)
  pub least : (repair : ℕ × Content) → first_step source newest dead packets ≡ Some repair →
      IsLeastStep source newest dead packets repair

abbrev pub RepairsAre : Type 0
RepairsAre = (source : Source) (newest : Option ℕ) (dead : List ℕ) (packets : Packets) → IsWithin newest packets →
    RepairsCome source newest dead packets
