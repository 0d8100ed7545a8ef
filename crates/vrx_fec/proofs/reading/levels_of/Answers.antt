use Rattle.std.proofs.Common.{◌<◌, length, sym, ◌∙◌, arith}
use Rattle.vrx_fec.proofs.ReadingLemmas.{has-room, one-more, one-err}
use Rattle.vrx_fec.proofs.reading.levels_of.Goals as goal

pub returns-in-Err : goal.returns-in-Err
returns-in-Err c =
    let few : length c.loop-rest.levels.items < 8 =
    has-room c.loop-rest.levels.items (sym c.is_full.ensures.value ∙ c.if-is_full.false) c.is_full.ensures.fits in
    sym (one-err c.args.long c.loop-rest.before c.loop-rest.at c.loop-rest.levels.items c.loop-rest.rest.now
    c.in-Err.fault
    few c.loop-rest-test.true (sym c.in-Err.ensures.reads))
    ∙ c.loop-rest.invariant.same

pub loop-rest-preserved : goal.loop-rest-preserved
loop-rest-preserved c =
    let few : length c.loop-rest.levels.items < 8 =
    has-room c.loop-rest.levels.items (sym c.is_full.ensures.value ∙ c.if-is_full.false) c.is_full.ensures.fits in
    record {
      same = sym (one-more c.args.long c.loop-rest.before c.loop-rest.at c.loop-rest.levels.items
          c.push.new.self.items
          c.in-Ok.level c.loop-rest.rest.now c.in-Ok.after.now c.push.ensures.items few c.loop-rest-test.true
          (sym c.in-Ok.ensures.reads) c.in-Ok.ensures.leaves) ∙ c.loop-rest.invariant.same;
      place = omega (arith, c.in-Ok.ensures.leaves, c.loop-rest.invariant.place);
    }
