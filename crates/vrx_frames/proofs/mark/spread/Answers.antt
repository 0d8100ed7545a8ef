use Rattle.vrx_frames.specs.Linked.{fact_at}
use Rattle.vrx_frames.proofs.MarkLemmas.{spread-all}
use Rattle.vrx_frames.proofs.mark.spread.Goals as goal

pub returns-clause-spread : goal.returns-clause-spread
returns-clause-spread c =
    spread-all (fact_at c.args.passed c.args.ring.now.entries) c.args.here.ts c.args.n c.reach-last.result
    c.args.first c.args.marks.now.entries c.mark.new.marks.entries c.reach-last.ensures.reached c.mark.ensures.entries
