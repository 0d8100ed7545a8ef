use Rattle.std.proofs.Common.{arith}
use Rattle.vrx_frames.proofs.MarkLemmas.{whole-few}
use Rattle.vrx_frames.proofs.runs.run_around.Goals as goal

pub judge-requires-clause-media : goal.judge-requires-clause-media
judge-requires-clause-media g c = λ n from below.
    let upto = c.in-Some.ensures.found.0.linked.upto in
    let sits = c.in-Some.ensures.found.0.linked.each n from (omega arith) in
    c.requires.held n sits.fact sits.told

pub judge-requires-clause-few : goal.judge-requires-clause-few
judge-requires-clause-few g c =
    whole-few c.args.passed c.args.ring.now c.in-Some.span.ts c.in-Some.span.first c.in-Some.span.last
    c.requires.numbered c.in-Some.ensures.found.0
