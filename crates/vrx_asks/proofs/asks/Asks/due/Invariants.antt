use Rattle.std.proofs.Common.{◌≤◌}
use Rattle.std.specs.Vec.{vec_capacity}
use Rattle.vrx_num.specs.declared.limits.TheConstants.{WINDOW}
use Rattle.vrx_asks.proofs.DueLemmas.{IsSettled}
use Rattle.vrx_asks.proofs.asks.Asks.due.Given as goal

-- the first asks are settled, and there is room as before
abbrev pub invariant-loop-i : goal.invariant-loop-i
invariant-loop-i l =
    let old = l.initial.self-inside.asks.items in
    let asks = l.self-inside.asks.items in
    record {
      settled : IsSettled l.now l.interval old asks l.kept l.i l.due.ask.items l.due.give_up.items;
      room : WINDOW ≤ vec_capacity l.self-inside.asks;
    }
