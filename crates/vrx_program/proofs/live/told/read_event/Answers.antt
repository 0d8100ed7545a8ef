use Rattle.vrx_program.proofs.LiveReadLemmas.{dealing-bad, dealing-end, dealing-next}
use Rattle.vrx_program.proofs.live.told.read_event.Goals as goal

pub returns-in-Ok-clause-reads : goal.returns-in-Ok-clause-reads
returns-in-Ok-clause-reads g c start first d = let next =
    rw c.in-Ok-Event.field-0-is at c.in-Ok-Event.ensures.next in
    dealing-next c.lines_join.ensures.lines c.lines_join.ensures.readings start (g.S.Source.left c.args.source.now)
    (g.S.Source.left c.next.new.source) first c.args.lines.now c.next.new.self c.args.lists.now d next.0
    c.in-Ok-Event.k c.in-Ok-Event.event next.1 c.deal.new.lists c.in-Ok.ensures.dealt

pub returns-in-Ok-End-clause-reads : goal.returns-in-Ok-End-clause-reads
returns-in-Ok-End-clause-reads g c start first d = let next = rw c.in-Ok-End.field-0-is at c.in-Ok-End.ensures.next in
    dealing-end c.lines_join.ensures.lines c.lines_join.ensures.readings start (g.S.Source.left c.args.source.now)
    (g.S.Source.left c.next.new.source) first c.args.lines.now c.next.new.self c.args.lists.now d next.0 next.1

pub returns-in-Err-Bad-clause-reads : goal.returns-in-Err-Bad-clause-reads
returns-in-Err-Bad-clause-reads g c start first d = let next =
    rw c.in-Err-Bad.field-0-is at c.in-Err-Bad.ensures.next in
    dealing-bad c.lines_join.ensures.lines c.lines_join.ensures.readings start (g.S.Source.left c.args.source.now)
    (g.S.Source.left c.next.new.source) first c.args.lines.now c.next.new.self c.args.lists.now d next.0
    c.in-Err-Bad.k c.in-Err-Bad.reason next.1.0
