use Rattle.std.proofs.Common.{◌≡◌, ◌+◌, ◌-◌, ◌≤◌, ◌++◌, not, true, length}
use Rattle.std.specs.List.{filter}
use Rattle.vrx_asks.specs.Asks.{are_below, is_near}
use Rattle.vrx_frames.specs.Completed.{is_among}
use Rattle.vrx_core.specs.machine.GivenUp.{numbers_below}
use Rattle.vrx_core.specs.inside.Wants.{with_all_missing}
use Rattle.vrx_core.proofs.requests.notice.Given as goal

-- the numbers up to here were noticed, and those after them are to be
abbrev pub invariant-loop-n : goal.invariant-loop-n
invariant-loop-n l = record {
  asks : with_all_missing l.now (numbers_below l.n l.below) l.asks ≡ with_all_missing l.now
      (numbers_below l.from l.below) l.initial.asks;
  numbers : l.numbers.items ++ filter (λ m. not (is_among l.repaired m)) (numbers_below l.n l.below)
      ≡ filter (λ m. not (is_among l.repaired m)) (numbers_below l.from l.below);
  above : are_below l.n l.asks ≡ true;
  near : is_near (l.below - 1) l.asks ≡ true;
  upto : l.from ≤ l.n;
  count : length l.numbers.items + l.from ≤ l.n;
}
