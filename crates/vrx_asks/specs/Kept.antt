-- What is kept. No public clause cites this module.
use Rattle.std.specs.Prelude.{ℕ, ◌≤◌, List}
use Rattle.vrx_num.specs.declared.limits.TheConstants.{WINDOW}
use Rattle.vrx_asks.specs.declared.ask.Ask.{Ask}
use Rattle.vrx_asks.specs.IsAsks.{IsAsks}

-- the missing numbers, and room for all that can be missing
pub record IsKept (asks : List Ask) (capacity : ℕ) : Type 0 where
  pub sound : IsAsks asks
  pub room : WINDOW ≤ capacity
