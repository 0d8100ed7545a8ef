use Rattle.std.proofs.Common.{◌≡◌, ◌-◌, ◌≤◌, ◌++◌}
use Rattle.arrayvec.specs.ArrayVec.{array_vec_len}
use Rattle.vrx_sender.specs.Draws.{fates}
use Rattle.vrx_sender.proofs.draws.draw_fates.Given as goal

-- the fates up to here, and after them those that are still to be drawn, are all
abbrev pub invariant-loop-fates : goal.invariant-loop-fates
invariant-loop-fates l = record {
  are : l.fates.items ++ (fates (l.count - array_vec_len l.fates) l.draws).0 ≡ (fates l.count l.initial.draws).0;
  next : (fates (l.count - array_vec_len l.fates) l.draws).1 ≡ (fates l.count l.initial.draws).1;
  few : array_vec_len l.fates ≤ l.count;
}

abbrev pub decreases-loop-fates : goal.decreases-loop-fates
decreases-loop-fates l = l.count - array_vec_len l.fates
