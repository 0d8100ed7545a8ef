use Rattle.std.proofs.Common.{[]}
use Rattle.vrx_program.specs.Job.{history_after}
use Rattle.vrx_program.proofs.RunsLemmas.{runs-next, over-done, over-bad, over-fault, over-memory}
use Rattle.vrx_program.proofs.driver.take_event.Goals as goal

pub returns-in-Ok-Event-clause-runs : goal.returns-in-Ok-Event-clause-runs
returns-in-Ok-Event-clause-runs g c start before p = let next =
    rw c.in-Ok-Event.field-0-is at c.in-Ok-Event.ensures.next in
    rw c.answer.ensures.same
    (runs-next g.J.Job.outcome g.S.Source.is_read g.S.Source.left (g.J.Job.answering c.args.job.now)
    (g.J.Job.answered c.args.job.now) c.lines_join.ensures.lines c.lines_join.ensures.readings start before
    c.args.source.now c.next.new.source
    (g.K.Sink.taken c.args.sink.now) c.args.lines.now c.next.new.self p next.0 next.2 c.next.ensures.idle
    c.in-Ok-Event.k c.in-Ok-Event.event next.1 (g.J.Job.answered c.answer.new.job) c.answer.result
    (g.K.Sink.taken c.answer.new.sink)
    (rw c.in-Ok-Event.field-0-is at (c.answer.ensures.answers (history_after [] p.events) p.history)))

pub returns-in-Ok-End-clause-runs : goal.returns-in-Ok-End-clause-runs
returns-in-Ok-End-clause-runs g c start before p = let next = rw c.in-Ok-End.field-0-is at c.in-Ok-End.ensures.next in
    over-done g.J.Job.outcome g.S.Source.is_read g.S.Source.left (g.J.Job.answering c.args.job.now)
    (g.J.Job.answered c.args.job.now) c.lines_join.ensures.lines c.lines_join.ensures.readings start before
    c.args.source.now c.next.new.source
    (g.K.Sink.taken c.args.sink.now) c.args.lines.now c.next.new.self p next.0 next.2 c.next.ensures.idle next.1.0
    next.1.3 next.1.4 next.1.1 next.1.2

pub returns-in-Err-Bad-clause-runs : goal.returns-in-Err-Bad-clause-runs
returns-in-Err-Bad-clause-runs g c start before p = let next =
    rw c.in-Err-Bad.field-0-is at c.in-Err-Bad.ensures.next in
    over-bad g.J.Job.outcome g.S.Source.is_read g.S.Source.left (g.J.Job.answering c.args.job.now)
    (g.J.Job.answered c.args.job.now) c.lines_join.ensures.lines c.lines_join.ensures.readings start before
    c.args.source.now c.next.new.source
    (g.K.Sink.taken c.args.sink.now) c.args.lines.now c.next.new.self p next.0 next.2 c.next.ensures.idle
    (c.in-Err-Bad.k, c.in-Err-Bad.reason) c.refuse.result
    (g.K.Sink.taken c.refuse.new.sink) next.1.0 c.refuse.ensures.ends

pub returns-in-Err-ReadFault-clause-runs : goal.returns-in-Err-ReadFault-clause-runs
returns-in-Err-ReadFault-clause-runs g c start before p = let next =
    rw c.in-Err-ReadFault.field-0-is at c.in-Err-ReadFault.ensures.next in
    over-fault g.J.Job.outcome g.S.Source.is_read g.S.Source.left (g.J.Job.answering c.args.job.now)
    (g.J.Job.answered c.args.job.now) c.lines_join.ensures.lines c.lines_join.ensures.readings start before
    c.args.source.now c.next.new.source
    (g.K.Sink.taken c.args.sink.now) c.args.lines.now c.next.new.self p next.0 next.2 c.next.ensures.idle next.1.0
    next.1.3 next.1.4 next.1.1 next.1.2 next.1.5

pub returns-in-Err-NoMemory-clause-runs : goal.returns-in-Err-NoMemory-clause-runs
returns-in-Err-NoMemory-clause-runs g c start before p = let next =
    rw c.in-Err-NoMemory.field-0-is at c.in-Err-NoMemory.ensures.next in
    over-memory g.J.Job.outcome g.S.Source.is_read g.S.Source.left (g.J.Job.answering c.args.job.now)
    (g.J.Job.answered c.args.job.now) c.lines_join.ensures.lines c.lines_join.ensures.readings start before
    c.args.source.now c.next.new.source
    (g.K.Sink.taken c.args.sink.now) c.args.lines.now c.next.new.self p next.0 next.2 c.next.ensures.idle
