use Rattle.std.proofs.Common.{subst}
use Rattle.vrx_program.specs.DrillText.{DrillEnds, drill_text}
use Rattle.vrx_program.proofs.DrillLemmas.{drill-one}
use Rattle.vrx_program.proofs.drill.run_drill.Goals as goal

pub returns-in-Some-clause-ends : goal.returns-in-Some-clause-ends
returns-in-Some-clause-ends g c seed frames is =
    let one = drill-one c.in-Some.call.0 c.in-Some.call.1 seed frames _ c.in-Some.ensures is in
    subst (λ s. DrillEnds c.drill.result (drill_text s frames) (g.K.Sink.taken c.args.sink.now) (g.K.Sink.taken c.drill.new.sink))
    one.0 (subst (λ f. DrillEnds c.drill.result (drill_text c.in-Some.call.0 f) (g.K.Sink.taken c.args.sink.now)
    (g.K.Sink.taken c.drill.new.sink)) one.1 c.drill.ensures.ends)
