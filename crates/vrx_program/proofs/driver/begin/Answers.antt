use Rattle.vrx_program.proofs.RunsLemmas.{over-none, over-unread, over-head, over-refused, runs-first}
use Rattle.vrx_program.proofs.driver.begin.Goals as goal

pub returns-in-Ok-None-clause-runs : goal.returns-in-Ok-None-clause-runs
returns-in-Ok-None-clause-runs g c = let head =
    rw c.requires.fresh at (rw c.in-Ok-None.field-0-is at c.in-Ok-None.ensures.passes) in
    over-none g.J.Job.outcome g.S.Source.is_read g.S.Source.left c.refuses_heads.ensures.heads
    c.lines_join.ensures.lines c.lines_join.ensures.readings c.args.source.now c.head.new.source
    (g.K.Sink.taken c.args.sink.now) c.head.new.self head.0 head.2 c.refuse.result
    (g.K.Sink.taken c.refuse.new.sink) head.1 c.refuse.ensures.ends

pub returns-in-Err-ReadFault-clause-runs : goal.returns-in-Err-ReadFault-clause-runs
returns-in-Err-ReadFault-clause-runs g c = let head =
    rw c.requires.fresh at (rw c.in-Err-ReadFault.field-0-is at c.in-Err-ReadFault.ensures.passes) in
    over-unread g.J.Job.outcome g.S.Source.is_read g.S.Source.left c.refuses_heads.ensures.heads
    c.lines_join.ensures.lines c.lines_join.ensures.readings c.args.source.now c.head.new.source
    (g.K.Sink.taken c.args.sink.now) c.head.new.self head.0 head.2 head.1.0 head.1.1 head.1.3

pub returns-in-Err-NoMemory-clause-runs : goal.returns-in-Err-NoMemory-clause-runs
returns-in-Err-NoMemory-clause-runs g c = let head =
    rw c.requires.fresh at (rw c.in-Err-NoMemory.field-0-is at c.in-Err-NoMemory.ensures.passes) in
    over-head g.J.Job.outcome g.S.Source.is_read g.S.Source.left c.refuses_heads.ensures.heads
    c.lines_join.ensures.lines c.lines_join.ensures.readings c.args.source.now c.head.new.source
    (g.K.Sink.taken c.args.sink.now) c.head.new.self head.0 head.2

pub returns-in-Ok-clause-runs : goal.returns-in-Ok-clause-runs
returns-in-Ok-clause-runs g c = let head =
    rw c.requires.fresh at (rw c.in-Ok-Some.field-0-is at c.in-Ok-Some.ensures.passes) in
    runs-first g.J.Job.outcome g.S.Source.is_read g.S.Source.left c.refuses_heads.ensures.heads
    c.lines_join.ensures.lines c.lines_join.ensures.readings c.args.source.now c.head.new.source
    (g.K.Sink.taken c.args.sink.now) c.head.new.self head.0 head.2 c.in-Ok-Some.line.items head.1
    (rw c.requires.fresh at c.head.ensures.counts.0) (rw c.requires.fresh at c.head.ensures.counts.1)
    (g.J.Job.answering c.in-Ok.job) (g.J.Job.answered c.in-Ok.job)
    (rw c.as_slice.ensures.value at c.in-Ok.ensures.begins) c.in-Ok.ensures.answered

pub returns-in-Err-Refused-clause-runs : goal.returns-in-Err-Refused-clause-runs
returns-in-Err-Refused-clause-runs g c = let head =
    rw c.requires.fresh at (rw c.in-Ok-Some.field-0-is at c.in-Ok-Some.ensures.passes) in
    over-refused g.J.Job.outcome g.S.Source.is_read g.S.Source.left c.refuses_heads.ensures.heads
    c.lines_join.ensures.lines c.lines_join.ensures.readings c.args.source.now c.head.new.source
    (g.K.Sink.taken c.args.sink.now) c.head.new.self head.0 head.2 c.in-Ok-Some.line.items head.1
    (rw c.requires.fresh at c.head.ensures.counts.0)
    (rw c.requires.fresh at c.head.ensures.counts.1) c.in-Err-Refused.reason c.refuse-in-Err-Refused.result
    (g.K.Sink.taken c.refuse-in-Err-Refused.new.sink)
    (rw c.as_slice.ensures.value at (rw c.in-Err-Refused.field-0-is at c.in-Err-Refused.ensures.refused))
    c.refuse-in-Err-Refused.ensures.ends

pub returns-clause-runs : goal.returns-clause-runs
returns-clause-runs g c = let head =
    rw c.requires.fresh at (rw c.in-Ok-Some.field-0-is at c.in-Ok-Some.ensures.passes) in
    over-head g.J.Job.outcome g.S.Source.is_read g.S.Source.left c.refuses_heads.ensures.heads
    c.lines_join.ensures.lines c.lines_join.ensures.readings c.args.source.now c.head.new.source
    (g.K.Sink.taken c.args.sink.now) c.head.new.self head.0 head.2
