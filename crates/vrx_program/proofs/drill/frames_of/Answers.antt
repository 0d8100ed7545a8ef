use Rattle.vrx_program.proofs.DrillLemmas.{not-count}
use Rattle.vrx_program.proofs.drill.frames_of.Goals as goal

pub returns-else-is_count : goal.returns-else-is_count
returns-else-is_count c m some few is =
    not-count c.in-Some.n m c.args.word.now c.is_count.result c.in-Some.ensures.fits c.in-Some.ensures.number
    c.is_count.ensures c.if-is_count.false some few is
