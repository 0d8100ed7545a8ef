use Rattle.std.proofs.Common.{arith, ap, length}
use Rattle.std.specs.Vec.Iter.{into_iter_items}
use Rattle.vrx_repair.proofs.CommitLemmas.{committing-turns}
use Rattle.vrx_repair.proofs.committed.place_repairs.Goals as goal

pub loop-repair-preserved : goal.loop-repair-preserved
loop-repair-preserved c =
    let long = ap length c.in-Some.ensures.steps.0 in (
      omega (arith, c.loop-repair.invariant.0, c.in-Some.ensures.steps.1, long),
      committing-turns c.picture_is_near.ensures.given c.contents_are.ensures.placed
          (into_iter_items c.into_iter-repair-iterator.result) c.args.pictures.now c.args.window.now c.in-Some.repair
          (into_iter_items c.loop-repair.repair-iterator) (into_iter_items c.next.new.self)
          c.loop-repair.pictures c.place_repair.new.pictures c.loop-repair.window c.place_repair.new.window
          c.in-Some.ensures.steps.0 c.place_repair.ensures.pictures c.place_repair.ensures.window
          c.loop-repair.invariant.1,
    )
