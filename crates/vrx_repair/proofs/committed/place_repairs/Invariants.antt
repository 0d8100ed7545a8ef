use Rattle.std.proofs.Common.{◌≡◌, length}
use Rattle.std.specs.Vec.Iter.{into_iter_items, into_iter_len}
use Rattle.vrx_repair.proofs.CommitLemmas.{IsCommitting}
use Rattle.vrx_repair.proofs.committed.place_repairs.Given as goal

-- the repairs that are left lead to the window and the newest picture in the end
abbrev pub invariant-loop-repair : goal.invariant-loop-repair
invariant-loop-repair l =
    (into_iter_len l.repair-iterator ≡ length (into_iter_items l.repair-iterator))
    × IsCommitting (into_iter_items l.initial.repair-iterator) l.initial.pictures l.initial.window
    (into_iter_items l.repair-iterator) l.pictures l.window
