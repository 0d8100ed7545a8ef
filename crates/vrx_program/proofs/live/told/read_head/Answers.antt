use Rattle.std.proofs.lemmas.Result.{IfErr-weaker, IfOk-weaker}
use Rattle.vrx_program.proofs.LiveReadLemmas.{first-none, first-read, first-stopped}
use Rattle.vrx_program.proofs.live.told.read_head.Goals as goal

pub returns-in-Ok-Some-clause-told : goal.returns-in-Ok-Some-clause-told
returns-in-Ok-Some-clause-told g c = let head =
    rw c.requires.fresh at (rw c.in-Ok-Some.field-0-is at c.in-Ok-Some.ensures.passes) in
    let read = first-read c.lines_join.ensures.lines c.lines_join.ensures.readings (g.S.Source.left c.args.source.now)
    c.head.new.self (g.S.Source.left c.head.new.source) head.0 c.in-Ok-Some.line.items head.1
    (rw c.requires.fresh at c.head.ensures.counts.0) (rw c.requires.fresh at c.head.ensures.counts.1) in
    IfOk-weaker c.read_first.result _ _ (λ told is. (c.in-Ok-Some.line.items, is, read))
    (rw c.as_slice.ensures.value at c.read_first.ensures.told)

pub returns-in-Ok-Some-clause-unread : goal.returns-in-Ok-Some-clause-unread
returns-in-Ok-Some-clause-unread g c = let head =
    rw c.requires.fresh at (rw c.in-Ok-Some.field-0-is at c.in-Ok-Some.ensures.passes) in
    let read = first-read c.lines_join.ensures.lines c.lines_join.ensures.readings (g.S.Source.left c.args.source.now)
    c.head.new.self (g.S.Source.left c.head.new.source) head.0 c.in-Ok-Some.line.items head.1
    (rw c.requires.fresh at c.head.ensures.counts.0) (rw c.requires.fresh at c.head.ensures.counts.1) in
    IfErr-weaker c.read_first.result _ _ (λ why stopped.
    first-stopped c.lines_join.ensures.lines c.lines_join.ensures.readings (g.S.Source.left c.args.source.now)
    (g.S.Source.left c.head.new.source) c.in-Ok-Some.line.items c.head.new.self read why stopped)
    (rw c.as_slice.ensures.value at c.read_first.ensures.refused)

pub returns-in-Ok-None-clause-unread : goal.returns-in-Ok-None-clause-unread
returns-in-Ok-None-clause-unread g c = let head =
    rw c.requires.fresh at (rw c.in-Ok-None.field-0-is at c.in-Ok-None.ensures.passes) in
    first-none c.lines_join.ensures.lines c.lines_join.ensures.readings (g.S.Source.left c.args.source.now)
    c.head.new.self (g.S.Source.left c.head.new.source) head.0 head.1
