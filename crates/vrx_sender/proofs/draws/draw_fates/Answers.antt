use Rattle.std.proofs.Common.{◌≡◌, suc, ◌-◌, arith, ◌∙◌}
use Rattle.arrayvec.specs.ArrayVec.{array_vec_len}
use Rattle.vrx_sender.proofs.DrawsLemmas.{draws-on, fates-on}
use Rattle.vrx_sender.proofs.draws.draw_fates.Goals as goal

pub loop-fates-preserved : goal.loop-fates-preserved
loop-fates-preserved c =
    let more : c.args.count - array_vec_len c.loop-fates.fates ≡ suc (c.args.count - array_vec_len c.push.new.self) = omega (arith, c.push.ensures.len, c.len.ensures.value, c.loop-fates-test.true, c.loop-fates.invariant.few) in
    record {
      are = fates-on c.loop-fates.fates.items c.push.new.self.items c.draw_fate.result c.loop-fates.draws c.draw_fate.new.draws
          (c.args.count - array_vec_len c.loop-fates.fates) (c.args.count - array_vec_len c.push.new.self)
          c.push.ensures.items c.draw_fate.ensures more ∙ c.loop-fates.invariant.are;
      next = draws-on c.draw_fate.result c.loop-fates.draws c.draw_fate.new.draws
          (c.args.count - array_vec_len c.loop-fates.fates) (c.args.count - array_vec_len c.push.new.self)
          c.draw_fate.ensures more ∙ c.loop-fates.invariant.next;
      few = omega (arith, c.push.ensures.len, c.len.ensures.value, c.loop-fates-test.true);
    }
