use Rattle.std.proofs.Common.{◌≡◌, ◌-◌}
use Rattle.vrx_num.specs.declared.limits.TheConstants.{WINDOW}
use Rattle.vrx_window.specs.Content.{contents}
use Rattle.vrx_frames.specs.Front.{reach_from as reached_of}
use Rattle.vrx_core.proofs.front.reach_from.Given as goal

abbrev pub invariant-loop : goal.invariant-loop
invariant-loop l = reached_of (WINDOW - l.counter) l.n (contents l.window.packets) ≡ reached_of WINDOW l.from
    (contents l.window.packets)
